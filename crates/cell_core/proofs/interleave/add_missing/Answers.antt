use Rattle.std.proofs.Common.{◌∙◌, ap, ◌≡◌, ◌++◌, slice_get, take-append-drop}
use Rattle.std.specs.Vec.Iter.{into_iter_items}
use Rattle.std.specs.FinMap.Entries.{find}
use Rattle.cell_core.specs.inner.InterleaveMissing.{or_other, pairs_of}
use Rattle.cell_core.proofs.InterleaveLemmas.{AllFrom-first}
use Rattle.cell_core.proofs.interleave.add_missing.Goals as goal

pub interleave-requires-clause-ahead : goal.interleave-requires-clause-ahead
interleave-requires-clause-ahead g c =
    rw (c.in_ok-tail.ensures.len, c.into_iter-2.ensures.rest)
    (AllFrom-first g.met.K.Ord.total c.args.pairs.now.items c.in-Some.first.now c.args.missing.items
    (c.in-Some.ensures.value ∙ ap (λ xs. slice_get xs 0) c.deref.ensures.value)
    c.requires.sorted c.requires.gaps)

pub returns-clause-ok : goal.returns-clause-ok
returns-clause-ok g c = λ q.
    let cmp = g.K.Ord.cmp in
    let whole : c.split_off.new.self.items ++ into_iter_items c.into_iter.result
    ≡ c.args.pairs.now.items =
    (λ j. c.in_ok-tail.ensures.items j ++ (c.into_iter.ensures.rest ∙ c.in_ok-tail.ensures.tail) j)
    ∙ take-append-drop c.in-Some.first.now.0 c.reserve.new.self.items
    ∙ c.in_ok-reserve.ensures.items in
    c.interleave.ensures.at q
    ∙ (λ j. or_other (find cmp q (whole j))
    (find cmp q (pairs_of (c.into_iter-2.ensures.rest j))))
