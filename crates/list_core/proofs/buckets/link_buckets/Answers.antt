use Rattle.std.proofs.Common.{rules, ℕ, ◌≡◌, ◌-◌, ◌∙◌, refl, subst, arith, length, get_or}
use Rattle.std.specs.Prelude.{replicate}
use Rattle.list_core.specs.Buckets.{AreLinksFrom}
use Rattle.list_core.proofs.Basics.{same_default}
use Rattle.list_core.proofs.BucketsLemmas.{none_linked, link_more}
use Rattle.list_core.proofs.buckets.link_buckets.Goals as goal

pub loop-place-preserved : goal.loop-place-preserved
loop-place-preserved c =
    link_more c.args.buckets c.args.numbers.now c.loop-place.first.items c.loop-place.next.items
    (c.loop-place.place - 1) (get_or c.args.numbers.now (c.loop-place.place - 1) 0)
    c.index.result.now (omega arith) refl (c.requires (c.loop-place.place - 1) (omega arith))
    (c.index.ensures
    ∙ same_default c.loop-place.first.items
    (get_or c.args.numbers.now (c.loop-place.place - 1) 0) c.index.result.now 0
    (let m = c.loop-place.invariant.many in let w =
    c.requires (c.loop-place.place - 1) (omega arith) in omega arith))
    (subst
    (λ (n : ℕ). AreLinksFrom c.args.buckets c.args.numbers.now n c.loop-place.first.items
    c.loop-place.next.items) (omega arith) c.loop-place.invariant)

pub loop-place-init : goal.loop-place-init
loop-place-init c =
    let first : c.in_ok-first.first.items ≡ replicate c.args.buckets (length c.args.numbers.now) =
    search rules in
    let next : c.in_ok-next.next.items
    ≡ replicate (length c.args.numbers.now) (length c.args.numbers.now) = search rules in
    rw (first, next) (none_linked c.args.buckets c.args.numbers.now)

pub returns : goal.returns
returns c =
    subst (λ (n : ℕ). AreLinksFrom c.args.buckets c.args.numbers.now n c.loop-place.first.items
    c.loop-place.next.items) (omega arith) c.loop-place.invariant
