use Rattle.std.proofs.Common.{sym, ◌∙◌, ap, subst, ◌≡◌, [], ◌∷◌, ◌++◌, ◌+◌, ◌-◌, ◌≤◌, length}
use Rattle.std.proofs.Common.{vec_len, arith, append-nil}
use Rattle.std.specs.Vec.Iter.{into_iter_items}
use Rattle.std.specs.FinMap.Entries.{find}
use Rattle.cell_core.specs.inner.InterleaveMissing.{or_other, pairs_of}
use Rattle.cell_core.proofs.InterleaveLemmas.{IsInterleaved, interleaved_one_more, empty_of}
use Rattle.cell_core.proofs.InterleaveLemmas.{or_none}
use Rattle.cell_core.proofs.interleave.interleave.Goals as goal

-- One new entry more is in order: those of the tail that go before it were moved, it follows them,
-- and each place of the new ones left is one higher.
pub loop-place-preserved : goal.loop-place-preserved
loop-place-preserved g c =
    let cmp = g.K.Ord.cmp in
    let start = c.args.pairs.now.items ++ into_iter_items c.args.tail in
    let all = into_iter_items c.args.missing in
    let place = c.in-Some.place in
    let pair = c.in-Some.pair in
    let rest = into_iter_items c.next.new.self in
    let tail = into_iter_items c.move_front.new.tail in
    let front = c.move_front.new.items.items in
    let moved = c.loop-place.moved in
    let up = vec_len c.loop-place.pairs - moved in
    let before =
    subst (λ xs. IsInterleaved cmp start all
    (c.loop-place.pairs.items ++ into_iter_items c.loop-place.tail) xs moved up)
    c.in-Some.ensures.items c.loop-place.invariant.interleaved in
    let shifted =
    subst (λ xs. IsInterleaved cmp start all xs ((place, pair) ∷ rest) moved up)
    (sym c.move_front.ensures.items) before in
    let ahead : moved ≤ place = shifted.ahead.0 in
    let len : length front ≡ place + up = omega (arith, c.move_front.new.items.ok.0) in
    let new_up : vec_len c.push_reserved.new.self - place ≡ up + 1 = omega arith in
    record {
      interleaved =
          subst (λ xs. IsInterleaved cmp start all (xs ++ tail) rest place
          (vec_len c.push_reserved.new.self - place)) (sym c.push_reserved.ensures.items)
          (interleaved_one_more g.met.K.Ord.total start all front tail place pair rest moved up
          (vec_len c.push_reserved.new.self - place) shifted len new_up);
      len = omega (arith, c.in-Some.ensures.len);
      up = omega arith;
      room = omega (arith, c.in-Some.ensures.len);
    }

pub returns-clause-len : goal.returns-clause-len
returns-clause-len g c = omega (arith, c.in_default.ensures.cases)

-- Nothing is left of the new entries or of the tail, so what is in order has at each key what the
-- old entries and the new ones have.
pub returns-clause-at : goal.returns-clause-at
returns-clause-at g c = λ q.
    let cmp = g.K.Ord.cmp in
    let none : into_iter_items c.loop-place.missing ≡ [] =
    empty_of (into_iter_items c.loop-place.missing)
    (omega (arith, c.in_default.ensures.cases, c.loop-place.missing.rest.ok.0)) in
    let left : into_iter_items c.move_front-2.new.tail ≡ [] =
    empty_of (into_iter_items c.move_front-2.new.tail)
    (omega (arith, c.move_front-2.new.tail.rest.ok.0)) in
    let items : c.move_front-2.new.items.items
    ≡ c.loop-place.pairs.items ++ into_iter_items c.loop-place.tail =
    sym (append-nil c.move_front-2.new.items.items)
    ∙ ap (λ xs. c.move_front-2.new.items.items ++ xs) (sym left)
    ∙ c.move_front-2.ensures.items in
    ap (find cmp q) items
    ∙ sym (or_none (find cmp q (c.loop-place.pairs.items ++ into_iter_items c.loop-place.tail)))
    ∙ ap (λ xs. or_other
    (find cmp q (c.loop-place.pairs.items ++ into_iter_items c.loop-place.tail))
    (find cmp q (pairs_of xs))) (sym none)
    ∙ c.loop-place.invariant.interleaved.at q
