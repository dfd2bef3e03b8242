-- What sites took only grows, holds only edits of the steps, and reaches the others.
--
-- All of it is induction over the steps. One step appends to what a site took or leaves it, so a
-- member stays a member. What a step appends is its own edit, or what another site took before, so
-- each member is some step's edit. If each site hears of each other after the last edit, each edit
-- reaches all sites, and all come to one catalogue.
use Rattle.std.proofs.Common.{◌≡◌, ℕ, zero, suc, ◌<◌, true, false, List, [], ◌∷◌, ◌++◌, Option}
use Rattle.std.proofs.Common.{Some, None, length, inl, inr, refl, sym, ap, ◌∙◌, subst, arith}
use Rattle.std.specs.Prelude.{◌==◌, if◌then◌else◌, slice_get, Contains, All}
use Rattle.std.proofs.lemmas.Bool.{eqb-true, eqb-false}
use Rattle.cata_core.specs.declared.step.Step.{Step}
use Rattle.cata_core.specs.declared.step.Step.TheVariants.{Edit, Merge, Post, Deliver}
use Rattle.catalogue.specs.Entries.{Entry}
use Rattle.catalogue.specs.Edits.{catalogue_of, IsConsistent}
use Rattle.cata_core.specs.Delta.{summary_of, IsBelowStamps}
use Rattle.cata_core.specs.RunsTaken.{PostedEdits, Taken, edits_delivered, edits_in, takes, post_to}
use Rattle.cata_core.specs.RunsTaken.{edits_posted, taken_step, nothing_taken, taken_after, taken}
use Rattle.cata_core.specs.RunsTaken.{edits_by, edits_of}
use Rattle.cata_core.specs.PlayFault.{NamesSites}
use Rattle.cata_core.specs.RunsSpreads.{IsEditAt, NoEditAt, IsMerged, IsDelivered, AllReached}
use Rattle.catalogue.proofs.CatalogueMembersLemmas.{In, in_from_Contains, Contains-from_in}
use Rattle.catalogue.proofs.CatalogueMembersLemmas.{in_append_right}
use Rattle.catalogue.proofs.CatalogueMembersLemmas.{in_append_cases}
use Rattle.catalogue.proofs.CatalogueLemmas.{same_catalogue}
use Rattle.cata_core.proofs.SummaryLemmas.{summary_grows}
use Rattle.catalogue.proofs.CatalogueSettledLemmas.{settled_part}
use Rattle.cata_core.proofs.RunsTakesLemmas.{grows, takes_here}

-- Two lists of steps in sequence take what the second takes from the end of the first.
pub after_append : (w : Taken) (xs ys : List Step)
    → taken_after w (xs ++ ys) ≡ taken_after (taken_after w xs) ys
after_append w [] ys = refl
after_append w (x ∷ xs) ys = after_append (taken_step w x) xs ys

-- what was taken stays
stays : (w : Taken) (steps : List Step) (s : ℕ) (f : Entry) → In (w.of_site s) f → let v =
    taken_after w steps in In (v.of_site s) f
stays w [] s f h = h
stays w (step ∷ steps) s f h =
    stays (taken_step w step) steps s f (grows w.of_site (edits_in w step) s f h)

-- A member of what a site took is one after any further steps.
pub taken_grows : (p q : List Step) (s : ℕ) (f : Entry) → In (taken p s) f → In (taken (p ++ q) s) f
taken_grows p q s f h =
    subst (λ w. In (w.of_site s) f) (sym (after_append nothing_taken p q))
    (stays (taken_after nothing_taken p) q s f h)

-- An edit that a site took is still among those it took after any further steps.
pub taken_only_grows : (p q : List Step) (s : ℕ) (e : Entry) → Contains (taken p s) e
    → Contains (taken (p ++ q) s) e
taken_only_grows p q s e h =
    Contains-from_in (taken (p ++ q) s) e (taken_grows p q s e (in_from_Contains (taken p s) e h))

-- The summary of what a site took is above each earlier one.
pub summaries_ascend : (p q : List Step) (s : ℕ)
    → IsBelowStamps (summary_of (catalogue_of (taken p s)))
    (summary_of (catalogue_of (taken (p ++ q) s)))
summaries_ascend p q s = summary_grows (taken (p ++ q) s) (taken p s) (taken_grows p q s)

-- ---- only edits of the steps

-- What is at a place of a list is a member.
pub get_in : {X : Type 0} (xs : List X) (i : ℕ) (x : X) → slice_get xs i ≡ Some x → In xs x
get_in [] i x e = absurd (cc)
get_in (y ∷ ys) zero x e = inl (cc)
get_in (y ∷ ys) (suc i) x e = inr (get_in ys i x e)

module _ (P : Entry → Type 0) where
  record Only (w : Taken) : Type 0 where
    sites : (s : ℕ) (f : Entry) → In (w.of_site s) f → P f
    posts : (p : PostedEdits) → In w.posts p → (f : Entry) → In p.edits f → P f

  incoming : (w : Taken) → Only w → (step : Step) → ((s : ℕ) (f : Entry) → step ≡ Edit s f → P f)
      → (d : ℕ × List Entry) → edits_in w step ≡ Some d → (f : Entry) → In d.1 f → P f
  incoming w g (Edit site edit) h d e f k =
      let same : (site, edit ∷ []) ≡ d = cc in
      elim (subst (λ (q : ℕ × List Entry). In q.1 f) (sym same) k) as
      (λ _. P f) [ inl is ↦ h site f (ap (Edit site) is) | inr gone ↦ absurd gone ]
  incoming w g (Merge into source) h d e f k =
      let same : (into, w.of_site source) ≡ d = cc in
      g.sites source f (subst (λ (q : ℕ × List Entry). In q.1 f) (sym same) k)
  incoming w g (Deliver post) h d e f k = from (slice_get w.posts post) refl e
    where
      from : (o : Option PostedEdits) → slice_get w.posts post ≡ o → edits_delivered o ≡ Some d
          → P f
      from None is e = absurd (cc)
      from (Some p) is e =
          let same : (p.addressee, p.edits) ≡ d = cc in
          g.posts p (get_in w.posts post p is) f
          (subst (λ (q : ℕ × List Entry). In q.1 f) (sym same) k)
  incoming w g _ h d e f k = absurd (cc)

  only_sites : (of : ℕ → List Entry) → ((s : ℕ) (f : Entry) → In (of s) f → P f)
      → (o : Option (ℕ × List Entry))
      → ((d : ℕ × List Entry) → o ≡ Some d → (f : Entry) → In d.1 f → P f) → (s : ℕ) (f : Entry)
      → In (takes of o s) f → P f
  only_sites of g None h s f k = g s f k
  only_sites of g (Some d) h s f k =
      (elim (s == d.0) as (λ b. In (if b then of s ++ d.1 else of s) f → P f) [
        | true ↦
            λ k. elim (in_append_cases (of s) d.1 f k) as
            (λ _. P f) [ inl a ↦ g s f a | inr b ↦ h d refl f b ]
        | false ↦ λ k. g s f k
      ]) k

  only_post_to : (edits : List Entry) → ((f : Entry) → In edits f → P f)
      → (o : Option ℕ) (p : PostedEdits) → In (post_to edits o) p → (f : Entry) → In p.edits f → P f
  only_post_to edits h None p k f m = absurd k
  only_post_to edits h (Some addressee) p k f m =
      elim k as
      (λ _. P f) [
        | inl is ↦ h f (subst (λ (q : PostedEdits). In q.edits f) (sym is) m)
        | inr gone ↦
            absurd gone
      ]

  only_posted : (w : Taken) → Only w → (step : Step) (p : PostedEdits) → In (edits_posted w step) p
      → (f : Entry) → In p.edits f → P f
  only_posted w g (Post site told) p k f m =
      only_post_to (w.of_site site) (g.sites site) (slice_get w.tellers told) p k f m
  only_posted w g _ p k f m = absurd k

  only_after : (w : Taken) → Only w → (steps : List Step)
      → ((s : ℕ) (f : Entry) → In steps (Edit s f) → P f) → Only (taken_after w steps)
  only_after w g [] h = g
  only_after w g (step ∷ steps) h = only_after (taken_step w step) (record {
    sites =
        only_sites w.of_site g.sites (edits_in w step) (incoming w g step (λ s f e. h s f (inl e)));
    posts =
        λ p k f m. elim (in_append_cases w.posts (edits_posted w step) p k) as
        (λ _. P f) [ inl a ↦ g.posts p a f m | inr b ↦ only_posted w g step p b f m ];
  }) steps (λ s f k. h s f (inr k))

  only_taken : (steps : List Step) → ((s : ℕ) (f : Entry) → In steps (Edit s f) → P f)
      → (site : ℕ) (f : Entry) → In (taken steps site) f → P f
  only_taken steps h site f k = let g =
      only_after nothing_taken (record { sites = λ s f h. absurd h; posts = λ p h. absurd h }) steps
      h in g.sites site f k

-- Each edit that a site took is the edit of some step.
pub taken_only_edits : (steps : List Step) (site : ℕ) (e : Entry) → Contains (taken steps site) e
    → (s : ℕ) × Contains steps (Edit s e)
taken_only_edits steps site e h =
    only_taken (λ f. (s : ℕ) × Contains steps (Edit s f)) steps
    (λ s f k. (s, Contains-from_in steps (Edit s f) k)) site e
    (in_from_Contains (taken steps site) e h)

edits_have : (steps : List Step) (s : ℕ) (f : Entry) → In steps (Edit s f) → In (edits_of steps) f
edits_have [] s f h = absurd h
edits_have (step ∷ steps) s f h = elim h as (λ _. In (edits_by step ++ edits_of steps) f) [
  | inl is ↦ subst (λ x. In (edits_by x ++ edits_of steps) f) (sym is) (inl refl)
  | inr k ↦ in_append_right (edits_by step) (edits_of steps) f (edits_have steps s f k)
]

-- what a site took are edits of the steps
pub only_edits_taken : (steps : List Step) (s : ℕ) (f : Entry) → In (taken steps s) f
    → In (edits_of steps) f
only_edits_taken steps s = only_taken (λ f. In (edits_of steps) f) steps (edits_have steps) s

by_step : (step : Step) (f : Entry) → In (edits_by step) f → (s : ℕ) × (step ≡ Edit s f)
by_step (Edit site edit) f h =
    elim h as
    (λ _. (s : ℕ) × (Edit site edit ≡ Edit s f)) [
      | inl is ↦ (site, ap (Edit site) is)
      | inr gone ↦
          absurd gone
    ]
by_step _ f h = absurd h

-- each edit of the steps is made at some site
pub steps_have : (steps : List Step) (f : Entry) → In (edits_of steps) f
    → (s : ℕ) × In steps (Edit s f)
steps_have [] f h = absurd h
steps_have (step ∷ steps) f h =
    elim (in_append_cases (edits_by step) (edits_of steps) f h) as
    (λ _. (s : ℕ) × In (step ∷ steps) (Edit s f)) [
      | inl a ↦ let b = by_step step f a in (b.0, inl b.1)
      | inr k ↦ let b = steps_have steps f k in (b.0, inr b.1)
    ]

-- ---- what reaches the others

-- an edit is among those that its site took
pub edited : (w : Taken) (steps : List Step) (s : ℕ) (f : Entry) → In steps (Edit s f) → let v =
    taken_after w steps in In (v.of_site s) f
edited w [] s f h = absurd h
edited w (step ∷ steps) s f h =
    elim h as (λ _. let v = taken_after (taken_step w step) steps in In (v.of_site s) f) [
      | inl is ↦ stays (taken_step w step) steps s f
          (subst (λ x. In (takes w.of_site (edits_in w x) s) f) (sym is)
          (subst (λ xs. In xs f) (sym (takes_here w (s, f ∷ [])))
          (in_append_right (w.of_site s) (f ∷ []) f (inl refl))))
      | inr k ↦ edited (taken_step w step) steps s f k
    ]

no_edit_in : (s : ℕ) (steps : List Step) (f : Entry) → NoEditAt s steps → In steps (Edit s f) → ⊥
no_edit_in s [] f h k = k
no_edit_in s (step ∷ steps) f h k =
    elim k as
    (λ _. ⊥) [
      | inl is ↦ h.0 (subst (IsEditAt s) (sym is) refl)
      | inr r ↦
          no_edit_in s steps f h.1 r
    ]

-- an edit of s was made before the step, where none is made from then on
made_before : (s : ℕ) (before : List Step) (step : Step) (after : List Step) (f : Entry)
    → (IsEditAt s step → ⊥) → NoEditAt s after → In (before ++ step ∷ after) (Edit s f)
    → In before (Edit s f)
made_before s before step after f none last h =
    elim (in_append_cases before (step ∷ after) (Edit s f) h) as (λ _. In before (Edit s f)) [
      | inl a ↦ a
      | inr b ↦ absurd (no_edit_in s (step ∷ after) f (none, last) b)
    ]

-- what comes in at a site is among what it took after the step
came_in : (w : Taken) (step : Step) (d : ℕ × List Entry) (f : Entry) → edits_in w step ≡ Some d
    → In d.1 f → let v = taken_step w step in In (v.of_site d.0) f
came_in w step d f e h =
    subst (λ o. In (takes w.of_site o d.0) f) (sym e)
    (subst (λ xs. In xs f) (sym (takes_here w d)) (in_append_right (w.of_site d.0) d.1 f h))

merged_reaches : (steps : List Step) (s t : ℕ) → IsMerged steps s t → (f : Entry)
    → In steps (Edit s f) → In (taken steps t) f
merged_reaches steps s t m f h =
    let w = taken_after nothing_taken m.before in
    let first =
    made_before s m.before (Merge t s) m.after f (λ x. x) m.last
    (subst (λ xs. In xs (Edit s f)) m.steps_are h) in
    let there =
    stays (taken_step w (Merge t s)) m.after t f
    (came_in w (Merge t s) (t, w.of_site s) f refl (edited nothing_taken m.before s f first)) in
    subst (λ xs. In (taken xs t) f) (sym m.steps_are)
    (subst (λ v. In (v.of_site t) f)
    (sym (after_append nothing_taken m.before (Merge t s ∷ m.after))) there)

-- Appending to a list leaves what is at its places.
pub get_kept : {X : Type 0} (xs ys : List X) (i : ℕ) (x : X) → slice_get xs i ≡ Some x
    → slice_get (xs ++ ys) i ≡ Some x
get_kept [] ys i x e = absurd (cc)
get_kept (z ∷ zs) ys zero x e = e
get_kept (z ∷ zs) ys (suc i) x e = get_kept zs ys i x e

-- An appended element is at the place that is the length of the list before it.
pub get_next : {X : Type 0} (xs : List X) (x : X) → slice_get (xs ++ x ∷ []) (length xs) ≡ Some x
get_next [] x = refl
get_next (z ∷ zs) x = get_next zs x

-- a post stays
pub post_stays : (w : Taken) (steps : List Step) (i : ℕ) (p : PostedEdits)
    → slice_get w.posts i ≡ Some p → let v = taken_after w steps in slice_get v.posts i ≡ Some p
post_stays w [] i p e = e
post_stays w (step ∷ steps) i p e =
    post_stays (taken_step w step) steps i p (get_kept w.posts (edits_posted w step) i p e)

delivered_reaches : (steps : List Step) (s t : ℕ) → IsDelivered steps s t → (f : Entry)
    → In steps (Edit s f) → In (taken steps t) f
delivered_reaches steps s t m f h =
    let w = taken_after nothing_taken m.before in
    let post : PostedEdits = record { addressee = t; edits = w.of_site s } in
    let rest = m.between ++ Deliver m.post ∷ m.after in
    let first =
    made_before s m.before (Post s m.told) rest f (λ x. x) m.last
    (subst (λ xs. In xs (Edit s f)) m.steps_are h) in
    let u = taken_step w (Post s m.told) in
    let made : slice_get u.posts m.post ≡ Some post =
    ap (slice_get u.posts) m.number
    ∙ ap (λ o. slice_get (w.posts ++ post_to (w.of_site s) o) (length w.posts)) m.to
    ∙ get_next w.posts post in
    let v = taken_after u m.between in
    let kept : slice_get v.posts m.post ≡ Some post = post_stays u m.between m.post post made in
    let there =
    stays (taken_step v (Deliver m.post)) m.after t f
    (came_in v (Deliver m.post) (t, w.of_site s) f (ap edits_delivered kept)
    (edited nothing_taken m.before s f first)) in
    let all : taken_after nothing_taken (m.before ++ Post s m.told ∷ rest)
    ≡ taken_after v (Deliver m.post ∷ m.after) =
    after_append nothing_taken m.before (Post s m.told ∷ rest)
    ∙ after_append u m.between (Deliver m.post ∷ m.after) in
    subst (λ xs. In (taken xs t) f) (sym m.steps_are)
    (subst (λ v. In (v.of_site t) f) (sym all) there)

all_at : {X : Type 0} (P : X → Type 0) (xs : List X) (x : X) → All P xs → Contains xs x → P x
all_at P xs x h c = subst P c.2 (h c.0 x c.1)

-- each edit of the steps reaches each site
reaches_all : (sites : ℕ) (steps : List Step) → AllReached sites steps → (t : ℕ) → t < sites
    → (f : Entry) → In (edits_of steps) f → In (taken steps t) f
reaches_all sites steps spread t lt f h =
    let at = steps_have steps f h in
    let s = at.0 in
    let has = Contains-from_in steps (Edit s f) at.1 in
    let named : NamesSites sites (Edit s f) =
    all_at (NamesSites sites) steps (Edit s f) spread.named has in
    let below : s < sites = named 0 s (omega arith) in
    elim (t == s) as (λ b. (t == s) ≡ b → In (taken steps t) f) [
      | true ↦
          λ b. subst (λ q. In (taken steps q) f) (sym (eqb-true t s b))
          (edited nothing_taken steps s f at.1)
      | false ↦
          λ b. elim (spread.reached s t f below lt has (eqb-false t s b)) as
          (λ _. In (taken steps t) f) [
            | inl m ↦ merged_reaches steps s t m f at.1
            | inr d ↦
                delivered_reaches steps s t d f at.1
          ]
    ] refl

-- all sites come to the catalogue of all edits
pub converges : (sites : ℕ) (steps : List Step) → IsConsistent (edits_of steps)
    → AllReached sites steps → (t : ℕ) → t < sites
    → catalogue_of (taken steps t) ≡ catalogue_of (edits_of steps)
converges sites steps consistent spread t lt =
    let there = only_edits_taken steps t in
    let back = reaches_all sites steps spread t lt in
    same_catalogue (taken steps t) (edits_of steps)
    (settled_part (edits_of steps) (taken steps t) consistent there)
    (λ e. (
      (λ h. Contains-from_in (edits_of steps) e (there e (in_from_Contains (taken steps t) e h))),
      (λ h. Contains-from_in (taken steps t) e (back e (in_from_Contains (edits_of steps) e h))),
    ))
