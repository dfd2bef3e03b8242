use Rattle.std.proofs.Common.{◌≡◌, ◌∙◌, get_or, arith, add-one}
use Rattle.list_core.proofs.PackedTagLemmas.{pairs_at, stops_at, passes_at, fails_at}
use Rattle.list_core.proofs.packed_tag.place_after.Goals as goal

pub returns-then-number-wanted-clause-found : goal.returns-then-number-wanted-clause-found
returns-then-number-wanted-clause-found c rest =
    let same : get_or c.args.given.now c.loop-place.place 0 ≡ c.args.wanted = omega arith in
    c.loop-place.invariant rest
    ∙ rw add-one
    (pairs_at c.args.wanted c.loop-place.place c.args.given.now rest c.requires
    c.loop-place-test.true same)

pub returns-then-number-le255-clause-missing : goal.returns-then-number-le255-clause-missing
returns-then-number-le255-clause-missing c rest =
    c.loop-place.invariant rest
    ∙ stops_at c.args.wanted c.loop-place.place c.args.given.now rest c.requires
    c.loop-place-test.true (λ same. omega arith) (omega arith)

pub loop-place-preserved : goal.loop-place-preserved
loop-place-preserved c rest =
    c.loop-place.invariant rest
    ∙ rw add-one
    (passes_at c.args.wanted c.loop-place.place c.args.given.now rest c.requires
    c.loop-place-test.true (λ same. omega arith) (omega arith))

pub returns-clause-missing : goal.returns-clause-missing
returns-clause-missing c rest =
    c.loop-place.invariant rest
    ∙ fails_at c.args.wanted c.loop-place.place c.args.given.now rest c.requires
    c.loop-place-test.false
