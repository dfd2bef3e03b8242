use Rattle.std.proofs.Common.{◌≡◌, ◌≤◌, length, take, drop, arith, sym, ap, ◌∙◌, subst}
use Rattle.std.specs.FinMap.Entries.{find}
use Rattle.std.proofs.lemmas.List.{take_all}
use Rattle.cell_core.specs.Keyed.{BetweenAtKeys}
use Rattle.cell_core.specs.inner.InterleaveMissing.{AllGaps, IsCommonJoined, or_other, pairs_of}
use Rattle.cell_core.proofs.Basics.{on_err_always}
use Rattle.cell_core.proofs.PairsCommonLemmas.{stopped_between}
use Rattle.cell_core.proofs.InterleaveLemmas.{take_front, missing_sorted, gaps_after, joined_parts}
use Rattle.cell_core.proofs.interleave.join_pairs.Goals as goal

pub add_missing-requires-clause-sorted : goal.add_missing-requires-clause-sorted
add_missing-requires-clause-sorted g c =
    missing_sorted g.met.K.Ord.total g.J.Join.joined c.deref_mut.result.now c.args.run.now
    c.join_common.new.mine c.in_ok-missing.missing.items c.requires.run
    c.in_ok-missing.ensures.ok

pub add_missing-requires-clause-gaps : goal.add_missing-requires-clause-gaps
add_missing-requires-clause-gaps g c =
    let mine = c.join_common.new.mine in
    let len : length mine ≡ c.args.pairs.now.len = omega arith in
    subst (λ xs. AllGaps g.K.Ord.cmp xs 0 c.in_ok-missing.missing.items)
    (sym (take_front mine (drop (length mine) c.args.pairs.now.items) c.args.pairs.now.len len))
    (gaps_after g.met.K.Ord.total g.J.Join.joined c.deref_mut.result.now c.args.run.now mine
    c.in_ok-missing.missing.items c.in_ok-missing.ensures.ok)

-- No memory for the missing entries: the common ones are joined and nothing else is changed, which
-- is on the way to the join.
pub returns-in_err-add_missing-clause-err : goal.returns-in_err-add_missing-clause-err
returns-in_err-add_missing-clause-err g c =
    let cmp = g.K.Ord.cmp in
    let joined = g.J.Join.joined in
    let old = c.args.pairs.now.items in
    let other = c.args.run.now in
    let mine = c.join_common.new.mine in
    let ms = c.in_ok-missing.missing.items in
    let len : length mine ≡ c.args.pairs.now.len = omega arith in
    let front = take_front mine (drop (length mine) old) c.args.pairs.now.len len in
    let le : length other ≤ length other = omega arith in
    let common =
    subst (λ xs. IsCommonJoined cmp joined xs (take (length other) other) mine ms)
    c.deref_mut.ensures.value
    (subst (λ ys. IsCommonJoined cmp joined c.deref_mut.result.now ys mine ms)
    (sym (take_all (length other) other le)) c.in_ok-missing.ensures.ok) in
    on_err_always c.from_residual-in_err-add_missing.result
    (subst (λ xs. BetweenAtKeys cmp g.J.Join.between old xs other)
    (sym (c.in_err-add_missing.ensures.err ∙ front))
    (stopped_between g.met.K.Ord.total g.met.J.Join.laws old other c.requires.pairs c.requires.run
    c.requires.agree mine (length other) ms common))

-- The entries are the join: the common ones were joined at their places, and those that were
-- missing were added.
pub returns-clause-ok : goal.returns-clause-ok
returns-clause-ok g c =
    let cmp = g.K.Ord.cmp in
    let joined = g.J.Join.joined in
    let old = c.args.pairs.now.items in
    let other = c.args.run.now in
    let mine = c.join_common.new.mine in
    let ms = c.in_ok-missing.missing.items in
    let len : length mine ≡ c.args.pairs.now.len = omega arith in
    let front = take_front mine (drop (length mine) old) c.args.pairs.now.len len in
    let common =
    subst (λ xs. IsCommonJoined cmp joined xs other mine ms) c.deref_mut.ensures.value
    c.in_ok-missing.ensures.ok in
    record {
      map = c.add_missing.ensures.map;
      at = joined_parts g.met.K.Ord.total joined old other mine c.add_missing.new.pairs.items ms
          common
          (λ q. c.in_ok-add_missing.ensures.ok q
          ∙ ap (λ xs. or_other (find cmp q xs) (find cmp q (pairs_of ms))) front);
    }
