-- What a delivery brings, by the steps before its post and before the summary that was told.
use Rattle.std.proofs.Common.{◌≡◌, ◌≢◌, ℕ, true, false, List, [], ◌∷◌, ◌++◌, Some, length, refl}
use Rattle.std.proofs.Common.{sym, ap, ◌∙◌}
use Rattle.std.specs.Prelude.{◌==◌, slice_get, if◌then◌else◌}
use Rattle.std.proofs.lemmas.Bool.{eqb-true, eqb-false}
use Rattle.cata_core.specs.declared.step.Step.{Step}
use Rattle.cata_core.specs.declared.step.Step.TheVariants.{Tell, Post, Deliver}
use Rattle.catalogue.specs.Entries.{Entries, joined}
use Rattle.cata_core.specs.Delta.{summary_of, delta_of}
use Rattle.cata_core.specs.RunsTaken.{PostedEdits, Taken, taken_step, taken_after, nothing_taken}
use Rattle.cata_core.specs.RunsTaken.{taken}
use Rattle.cata_core.specs.RunsTaken.{edits_in, edits_delivered, tellers_by, post_to}
use Rattle.cata_core.specs.WorldHeld.{ToldStamps, PostedCells, Held, held_step, held_after}
use Rattle.cata_core.specs.WorldHeld.{nothing_held}
use Rattle.cata_core.specs.WorldHeld.{held, cells_in, cells_delivered, joins, told_by, delta_to}
use Rattle.cata_core.specs.WorldHeld.{cells_posted}
use Rattle.cata_core.proofs.DeltaLemmas.{nothing_lost_of_maps}
use Rattle.cata_core.proofs.RunsMachineLemmas.{held_one_more}
use Rattle.cata_core.proofs.RunsSpreadingLemmas.{after_append, get_kept, get_next, post_stays}
use Rattle.cata_core.proofs.WorldHeldGrowsLemmas.{held_append, held-IsMap, later_has, told_serves}

teller_stays : (w : Taken) (steps : List Step) (i : ℕ) (t : ℕ) → slice_get w.tellers i ≡ Some t
    → let v = taken_after w steps in slice_get v.tellers i ≡ Some t
teller_stays w [] i t e = e
teller_stays w (step ∷ steps) i t e =
    teller_stays (taken_step w step) steps i t (get_kept w.tellers (tellers_by step) i t e)

summary_stays : (w : Held) (steps : List Step) (i : ℕ) (t : ToldStamps)
    → slice_get w.told i ≡ Some t → let v = held_after w steps in slice_get v.told i ≡ Some t
summary_stays w [] i t e = e
summary_stays w (step ∷ steps) i t e =
    summary_stays (held_step w step) steps i t (get_kept w.told (told_by w step) i t e)

delta_stays : (w : Held) (steps : List Step) (i : ℕ) (p : PostedCells)
    → slice_get w.posts i ≡ Some p → let v = held_after w steps in slice_get v.posts i ≡ Some p
delta_stays w [] i p e = e
delta_stays w (step ∷ steps) i p e =
    delta_stays (held_step w step) steps i p (get_kept w.posts (cells_posted w step) i p e)

-- A delivery brings the delta of the sender's cells at its post against the addressee's summary.
pub delivered_delta : (a b c : List Step) (s t : ℕ) → let v = held_after nothing_held a in let w =
    held_after nothing_held (a ++ Tell t ∷ b) in
    cells_in (held_after nothing_held (a ++ Tell t ∷ b ++ Post s (length v.told) ∷ c))
    (Deliver (length w.posts))
    ≡ Some (t, delta_of (held (a ++ Tell t ∷ b) s) (summary_of (held a t)))
delivered_delta a b c s t =
    let v = held_after nothing_held a in
    let k = length v.told in
    let told : ToldStamps = record { teller = t; stamps = summary_of (held a t) } in
    let u = held_step v (Tell t) in
    let w = held_after u b in
    let same : held_after nothing_held (a ++ Tell t ∷ b) ≡ w =
    held_append nothing_held a (Tell t ∷ b) in
    let there : slice_get w.told k ≡ Some told = summary_stays u b k told (get_next v.told told) in
    let post : PostedCells =
    record { addressee = t; cells = delta_of (w.of_site s) (summary_of (held a t)) } in
    let x = held_step w (Post s k) in
    let made : slice_get x.posts (length w.posts) ≡ Some post =
    ap (λ o. slice_get (w.posts ++ delta_to (w.of_site s) o) (length w.posts)) there
    ∙ get_next w.posts post in
    let z = held_after x c in
    let kept : slice_get z.posts (length w.posts) ≡ Some post =
    delta_stays x c (length w.posts) post made in
    let all : held_after nothing_held (a ++ Tell t ∷ b ++ Post s k ∷ c) ≡ z =
    held_append nothing_held (a ++ Tell t ∷ b) (Post s k ∷ c)
    ∙ ap (λ y. held_after y (Post s k ∷ c)) same in
    (λ i. let wi = same i in
    cells_delivered (let zi = all i in slice_get zi.posts (length wi.posts)))
    ∙ ap cells_delivered kept
    ∙ ap (λ (y : Held). Some (t, delta_of (y.of_site s) (summary_of (held a t)))) (sym same)

-- A delivery brings all edits that the sender had taken before its post.
pub delivered_taken : (a b c : List Step) (s t : ℕ) → let v = taken_after nothing_taken a in let w =
    taken_after nothing_taken (a ++ Tell t ∷ b) in
    edits_in (taken_after nothing_taken (a ++ Tell t ∷ b ++ Post s (length v.tellers) ∷ c))
    (Deliver (length w.posts)) ≡ Some (t, taken (a ++ Tell t ∷ b) s)
delivered_taken a b c s t =
    let v = taken_after nothing_taken a in
    let k = length v.tellers in
    let u = taken_step v (Tell t) in
    let w = taken_after u b in
    let same : taken_after nothing_taken (a ++ Tell t ∷ b) ≡ w =
    after_append nothing_taken a (Tell t ∷ b) in
    let there : slice_get w.tellers k ≡ Some t = teller_stays u b k t (get_next v.tellers t) in
    let post : PostedEdits = record { addressee = t; edits = w.of_site s } in
    let x = taken_step w (Post s k) in
    let made : slice_get x.posts (length w.posts) ≡ Some post =
    ap (λ o. slice_get (w.posts ++ post_to (w.of_site s) o) (length w.posts)) there
    ∙ get_next w.posts post in
    let z = taken_after x c in
    let kept : slice_get z.posts (length w.posts) ≡ Some post =
    post_stays x c (length w.posts) post made in
    let all : taken_after nothing_taken (a ++ Tell t ∷ b ++ Post s k ∷ c) ≡ z =
    after_append nothing_taken (a ++ Tell t ∷ b) (Post s k ∷ c)
    ∙ ap (λ y. taken_after y (Post s k ∷ c)) same in
    (λ i. let wi = same i in
    edits_delivered (let zi = all i in slice_get zi.posts (length wi.posts)))
    ∙ ap edits_delivered kept
    ∙ ap (λ (y : Taken). Some (t, y.of_site s)) (sym same)

-- ---- a delivery acts as a merge

-- what comes in at a site is joined to what it holds
joins_here : (of : ℕ → Entries) (c : ℕ × Entries) → joins of (Some c) c.0 ≡ joined (of c.0) c.1
joins_here of c =
    elim (c.0 == c.0) as
    (λ b. (c.0 == c.0) ≡ b → (if b then joined (of c.0) c.1 else of c.0) ≡ joined (of c.0) c.1) [
      | true ↦ λ b. refl
      | false ↦ λ b. absurd (eqb-false c.0 c.0 b refl)
    ] refl

-- and the other sites hold what they held
joins_there : (of : ℕ → Entries) (c : ℕ × Entries) (s : ℕ) → s ≢ c.0 → joins of (Some c) s ≡ of s
joins_there of c s other =
    elim (s == c.0) as (λ b. (s == c.0) ≡ b → (if b then joined (of s) c.1 else of s) ≡ of s) [
      | true ↦ λ b. absurd (other (eqb-true s c.0 b))
      | false ↦ λ b. refl
    ] refl

-- A delivery leaves the cells of every site but the addressee as they were.
pub delivery_leaves_others : (a b c : List Step) (s t other : ℕ) → let v =
    held_after nothing_held a in let before = a ++ Tell t ∷ b in let w =
    held_after nothing_held before in
    let steps = before ++ Post s (length v.told) ∷ c in
    other ≢ t → held (steps ++ Deliver (length w.posts) ∷ []) other ≡ held steps other
delivery_leaves_others a b c s t other differs =
    let v = held_after nothing_held a in
    let before = a ++ Tell t ∷ b in
    let w = held_after nothing_held before in
    let steps = before ++ Post s (length v.told) ∷ c in
    let x = held_after nothing_held steps in
    ap (λ (y : Held). y.of_site other) (held_one_more nothing_held steps (Deliver (length w.posts)))
    ∙ ap (λ o. joins x.of_site o other) (delivered_delta a b c s t)
    ∙ joins_there x.of_site (t, delta_of (held before s) (summary_of (held a t))) other differs

-- A delivery gives the addressee the join of its cells with the sender's at the post.
pub delivery_merges : (a b c : List Step) (s t : ℕ) → let v = held_after nothing_held a in
    let before = a ++ Tell t ∷ b in let w = held_after nothing_held before in
    let steps = before ++ Post s (length v.told) ∷ c in
    held (steps ++ Deliver (length w.posts) ∷ []) t ≡ joined (held steps t) (held before s)
delivery_merges a b c s t =
    let v = held_after nothing_held a in
    let before = a ++ Tell t ∷ b in
    let w = held_after nothing_held before in
    let post = Post s (length v.told) in
    let steps = before ++ post ∷ c in
    let x = held_after nothing_held steps in
    let told = summary_of (held a t) in
    ap (λ (y : Held). y.of_site t) (held_one_more nothing_held steps (Deliver (length w.posts)))
    ∙ ap (λ o. joins x.of_site o t) (delivered_delta a b c s t)
    ∙ joins_here x.of_site (t, delta_of (held before s) told)
    ∙ nothing_lost_of_maps (held steps t) (held before s) told (held-IsMap steps t)
    (held-IsMap before s) (later_has before (post ∷ c) t told (told_serves a (Tell t ∷ b) t))
