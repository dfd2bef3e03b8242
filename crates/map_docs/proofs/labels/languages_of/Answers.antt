use Rattle.std.proofs.Common.{[], ◌∷◌, ◌++◌, ◌∙◌, ap, string_bytes, subst, sym}
use Rattle.std.proofs.lemmas.Result.{err_from_is_err_and}
use Rattle.std.specs.Vec.Iter.{into_iter_items}
use Rattle.json_docs.specs.FaultChecks.{AllPass, FirstFails}
use Rattle.map_docs.specs.LabelsChecks.{keys_checks}
use Rattle.map_docs.specs.MembersRows.{Keys}
use Rattle.map_docs.specs.inner.MembersRowsSeen.{HoldsKeys, keys_seen, strings_seen}
use Rattle.map_docs.proofs.MapsLabelsLemmas.{else_by, keys_fail, keys_pass, keys_seen_after}
use Rattle.map_docs.proofs.MapsLabelsLemmas.{one_further}
use Rattle.map_docs.proofs.labels.languages_of.Goals as goal

-- The keys so far pass, and are held: this key passed after them, and is held with them.
pub loop-key-preserved : goal.loop-key-preserved
loop-key-preserved c =
    let inv = c.loop-key.invariant in
    let front = inv.0 in
    let key = c.in-Some.key in
    let strings = c.in-Some.strings in
    let took = c.in_ok-add_key.ensures.ok (keys_seen front) inv.3 in
    let pushed = keys_seen_after front ((key, strings) ∷ []) in (
      front ++ (key, strings) ∷ [],
      one_further c.args.keys.items front (key, strings) (into_iter_items c.loop-key.key-iterator)
          (into_iter_items c.next.new.self) inv.1 c.in-Some.ensures.steps.0,
      subst (λ (ms : Keys). AllPass (keys_checks c.args.row [] ms)) (sym pushed)
          (keys_pass c.args.row (keys_seen front) (string_bytes key) (strings_seen strings) inv.2
          took.0),
      subst (λ (ms : Keys). HoldsKeys ms c.add_key.new.found.entries) (sym pushed) took.1,
    )

-- This key fails a test, and the keys before it passed, so that test is the first of all that
-- fails; or no memory.
pub returns-in_err-add_key : goal.returns-in_err-add_key
returns-in_err-add_key c =
    let inv = c.loop-key.invariant in
    let front = inv.0 in
    let key = c.in-Some.key in
    let strings = c.in-Some.strings in
    let left = into_iter_items c.next.new.self in
    let e = c.in_err-add_key.field-0.0 in
    let all =
    ap keys_seen (inv.1 ∙ ap (λ t. front ++ t) c.in-Some.ensures.steps.0)
    ∙ keys_seen_after front ((key, strings) ∷ left) in
    let p = err_from_is_err_and c.from_residual.result c.from_residual.ensures.1 in
    rw (p.1, p.2)
    (else_by c.in_err-add_key.ensures.err
    (λ fails. subst (λ (ms : Keys). FirstFails (keys_checks c.args.row [] ms) e) (sym all)
    (keys_fail c.args.row (keys_seen front) (string_bytes key) (strings_seen strings)
    (keys_seen left) e inv.2 (fails (keys_seen front) inv.3))))
