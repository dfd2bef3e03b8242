use Rattle.std.proofs.Common.{ℕ, ◌≡◌, ◌+◌, ◌∙◌, ◌++◌, ◌∷◌, [], List, add-one, arith, get_or, subst}
use Rattle.std.proofs.Common.{take}
use Rattle.std.proofs.Math.Seq.{take-suc}
use Rattle.std.proofs.lemmas.List.{take_all}
use Rattle.std.proofs.lemmas.List.Elements.{Contains-get_or}
use Rattle.std.specs.Prelude.{Contains}
use Rattle.lang_core.specs.Text.{pieces}
use Rattle.lang_core.specs.Matching.{Extended}
use Rattle.list_core.specs.Deciding.{IsBest}
use Rattle.list_core.proofs.BucketsLemmas.{FitsAmong, before_last, last_asked, one_asked, all_asked}
use Rattle.list_core.proofs.deciding.best_extended.Goals as goal

pub loop-bucket-init : goal.loop-bucket-init
loop-bucket-init c = λ numbers h.
    last_asked (λ i. Extended (pieces i.range) (pieces c.args.tag.now)) c.args.items.now numbers
    c.best_in-best.result (rw c.new-packed.ensures at (c.best_in-best.ensures numbers h))

pub best_in-requires-clause-within : goal.best_in-requires-clause-within
best_in-requires-clause-within c =
    let xs = c.as_slice-bucket-items.result.now in
    let bucket = get_or xs c.loop-bucket.bucket-index 0 in
    let there =
    subst (λ (list : List ℕ). Contains list bucket) c.as_slice-bucket-items.ensures.value
    (Contains-get_or xs c.loop-bucket.bucket-index 0 c.loop-bucket-test.true) in
    let low =
    before_last (pieces c.args.tag.now) c.buckets_of_tag-asked.result.items bucket
    c.buckets_of_tag-asked.ensures there in
    omega arith

pub loop-bucket-preserved : goal.loop-bucket-preserved
loop-bucket-preserved c = λ numbers h.
    let xs = c.as_slice-bucket-items.result.now in
    let k = c.loop-bucket.bucket-index in
    let more : take (k + 1) xs ≡ take k xs ++ get_or xs k 0 ∷ [] =
    rw add-one (take-suc xs k 0 c.loop-bucket-test.true) in
    rw (more, c.better_of-best.ensures)
    (one_asked (λ i. Extended (pieces i.range) (pieces c.args.tag.now)) c.args.items.now numbers
    (take k xs) (get_or xs k 0) c.loop-bucket.best c.best_in.result
    (c.loop-bucket.invariant numbers h)
    (rw (c.from.ensures, c.new-packed.ensures) at (c.best_in.ensures numbers h)))

pub returns : goal.returns
returns c =
    all_asked c.args.items.now c.requires.0 (pieces c.args.tag.now)
    c.buckets_of_tag-asked.result.items c.loop-bucket.best c.requires.1.numbers_ok
    c.buckets_of_tag-asked.ensures
    (subst
    (λ (xs : List ℕ). IsBest (FitsAmong (λ i. Extended (pieces i.range) (pieces c.args.tag.now))
    c.requires.0 xs) c.args.items.now c.loop-bucket.best)
    (take_all c.loop-bucket.bucket-index c.as_slice-bucket-items.result.now c.loop-bucket-test.false
    ∙ c.as_slice-bucket-items.ensures.value) (c.loop-bucket.invariant c.requires.0 c.requires.1))
