-- Runs without deliveries: a step clashes exactly where its site's edits are no longer settled.
use Rattle.std.proofs.Common.{◌≡◌, ℕ, true, false, List, [], ◌∷◌, ◌++◌, Option, Some, None, refl}
use Rattle.std.proofs.Common.{sym, ap, ◌∙◌, subst}
use Rattle.std.specs.Prelude.{◌==◌, ◌↔◌, if◌then◌else◌, IsSomeAnd}
use Rattle.std.proofs.lemmas.Bool.{eqb-true}
use Rattle.cata_core.specs.declared.step.Step.{Step}
use Rattle.cata_core.specs.declared.step.Step.TheVariants.{Edit, Merge, Deliver}
use Rattle.cata_core.specs.declared.answer.Answer.{Answer}
use Rattle.catalogue.specs.Entries.{Entry, Entries, Agree, joined}
use Rattle.catalogue.specs.Edits.{catalogue_of, IsSettled}
use Rattle.cata_core.specs.RunsTaken.{Taken, edits_in, takes, taken_step, nothing_taken}
use Rattle.cata_core.specs.RunsTaken.{taken_after}
use Rattle.cata_core.specs.RunsTaken.{taken}
use Rattle.cata_core.specs.WorldHeld.{Held, cells_in, joins, held_step, nothing_held, held_after}
use Rattle.cata_core.specs.WorldHeld.{held}
use Rattle.cata_core.specs.Answer.{AreAnswers}
use Rattle.cata_core.specs.PlayFault.{AgreesWith, NoneFaulty, IsNoDeliver, NoDelivers, Clashes}
use Rattle.cata_core.specs.PlayFault.{Unsettles}
use Rattle.catalogue.proofs.CatalogueJoinsLemmas.{joined_catalogue}
use Rattle.catalogue.proofs.CatalogueSettledLemmas.{settled_if_agree, agree_if_settled, settled_one}
use Rattle.catalogue.proofs.CatalogueSettledLemmas.{settled_none}
use Rattle.catalogue.proofs.CatalogueSettledLemmas.{catalogue_of-one}
use Rattle.cata_core.proofs.RunsMachineLemmas.{AllSound, all_sound, HeldAnswersFrom}
use Rattle.cata_core.proofs.RunsMachineLemmas.{TakenAnswersFrom}
use Rattle.cata_core.proofs.RunsMachineLemmas.{taken_one_more, taken_answers}
use Rattle.cata_core.proofs.RunsTakesLemmas.{takes_here}
use Rattle.cata_core.proofs.RunsTakenAndHeldLemmas.{same_answered}

-- each site holds the catalogue of the settled edits that it took
record Settled (v : Held) (w : Taken) : Type 0 where
  sites : (s : ℕ) → v.of_site s ≡ catalogue_of (w.of_site s)
  settled : (s : ℕ) → IsSettled (w.of_site s)

-- the cells that come in are the catalogue of the edits
record Brings (c : ℕ × Entries) (d : ℕ × List Entry) : Type 0 where
  same : c.0 ≡ d.0
  cells : c.1 ≡ catalogue_of d.1
  settled : IsSettled d.1

abbrev BringsIf : Option (ℕ × Entries) → Option (ℕ × List Entry) → Type 0
BringsIf None None = Unit {0}
BringsIf None (Some d) = ⊥
BringsIf (Some c) None = ⊥
BringsIf (Some c) (Some d) = Brings c d

brings : (v : Held) (w : Taken) → Settled v w → (step : Step) → IsNoDeliver step
    → BringsIf (cells_in v step) (edits_in w step)
brings v w g (Edit site edit) h =
    record { same = refl; cells = sym (catalogue_of-one edit); settled = settled_one edit }
brings v w g (Merge into source) h =
    record { same = refl; cells = g.sites source; settled = g.settled source }
brings v w g (Deliver post) h = absurd h
brings v w g _ h = tt

module _ (v : Held) (w : Taken) (g : Settled v w) where
  own_as_taken : (c : ℕ × Entries) (d : ℕ × List Entry) → Brings c d
      → v.of_site c.0 ≡ catalogue_of (w.of_site d.0)
  own_as_taken c d r = g.sites c.0 ∙ ap (λ q. catalogue_of (w.of_site q)) r.same

  settles : (c : ℕ × Entries) (d : ℕ × List Entry) → Brings c d → Agree (v.of_site c.0) c.1
      → IsSettled (w.of_site d.0 ++ d.1)
  settles c d r agree =
      settled_if_agree (w.of_site d.0) d.1 (g.settled d.0) r.settled
      (subst (λ m. Agree m (catalogue_of d.1)) (own_as_taken c d r)
      (subst (Agree (v.of_site c.0)) r.cells agree))

  agrees : (c : ℕ × Entries) (d : ℕ × List Entry) → Brings c d → IsSettled (w.of_site d.0 ++ d.1)
      → Agree (v.of_site c.0) c.1
  agrees c d r settled =
      subst (Agree (v.of_site c.0)) (sym r.cells)
      (subst (λ m. Agree m (catalogue_of d.1)) (sym (own_as_taken c d r))
      (agree_if_settled (w.of_site d.0) d.1 settled))

  sites_go : (o : Option (ℕ × Entries)) (q : Option (ℕ × List Entry)) → BringsIf o q
      → AgreesWith v.of_site o → (s : ℕ) → joins v.of_site o s ≡ catalogue_of (takes w.of_site q s)
  sites_go None None r h s = g.sites s
  sites_go None (Some d) r h s = absurd r
  sites_go (Some c) None r h s = absurd r
  sites_go (Some c) (Some d) r h s =
      ap (λ q. if s == q then joined (v.of_site s) c.1 else v.of_site s) r.same
      ∙ elim (s == d.0) as
      (λ b. (s == d.0) ≡ b
      → (if b then joined (v.of_site s) c.1 else v.of_site s)
      ≡ catalogue_of (if b then w.of_site s ++ d.1 else w.of_site s)) [
        | true ↦ λ b.
            let here : s ≡ d.0 = eqb-true s d.0 b in
            (λ i. joined (g.sites s i) (r.cells i))
            ∙ sym (joined_catalogue (w.of_site s) d.1
            (subst (λ q. IsSettled (w.of_site q ++ d.1)) (sym here) (settles c d r h)))
        | false ↦ λ b. g.sites s
      ] refl

  settled_go : (o : Option (ℕ × Entries)) (q : Option (ℕ × List Entry)) → BringsIf o q
      → AgreesWith v.of_site o → (s : ℕ) → IsSettled (takes w.of_site q s)
  settled_go None None r h s = g.settled s
  settled_go None (Some d) r h s = absurd r
  settled_go (Some c) None r h s = absurd r
  settled_go (Some c) (Some d) r h s =
      elim (s == d.0) as
      (λ b. (s == d.0) ≡ b → IsSettled (if b then w.of_site s ++ d.1 else w.of_site s)) [
        | true ↦
            λ b. subst (λ q. IsSettled (w.of_site q ++ d.1)) (sym (eqb-true s d.0 b))
            (settles c d r h)
        | false ↦ λ b. g.settled s
      ] refl

  settled_step : (step : Step) → IsNoDeliver step → AgreesWith v.of_site (cells_in v step)
      → Settled (held_step v step) (taken_step w step)
  settled_step step h agree = record {
    sites = sites_go (cells_in v step) (edits_in w step) (brings v w g step h) agree;
    settled = settled_go (cells_in v step) (edits_in w step) (brings v w g step h) agree;
  }

settled_after : (n : ℕ) (v : Held) (w : Taken) → Settled v w → (steps : List Step)
    → NoDelivers steps → AllSound n v steps → Settled (held_after v steps) (taken_after w steps)
settled_after n v w g [] h sound = g
settled_after n v w g (step ∷ steps) h sound =
    let now = sound.0 in
    settled_after n (held_step v step) (taken_step w step) (settled_step v w g step h.0 now.agrees)
    steps h.1 sound.1

start : Settled nothing_held nothing_taken
start = record { sites = λ s. refl; settled = λ s. settled_none }

-- without deltas, a site holds the catalogue of what it took, which is settled
pub sound_is_settled : (n : ℕ) (steps : List Step) → NoDelivers steps → NoneFaulty n steps
    → (site : ℕ)
    → IsSettled (taken steps site) × (held steps site ≡ catalogue_of (taken steps site))
sound_is_settled n steps h sound site = let end =
    settled_after n nothing_held nothing_taken start steps h (all_sound n steps sound) in
    (end.settled site, end.sites site)

same_answers : (n : ℕ) (v : Held) (w : Taken) → Settled v w → (steps : List Step) → NoDelivers steps
    → AllSound n v steps → (answers : List Answer) → HeldAnswersFrom v steps answers
    → TakenAnswersFrom w steps answers
same_answers n v w g [] h sound answers a = a
same_answers n v w g (step ∷ steps) h sound answers a =
    let now = sound.0 in (
      a.0,
      a.1,
      a.2,
      same_answered v.of_site w.of_site g.sites step a.0 a.3,
      same_answers n (held_step v step) (taken_step w step) (settled_step v w g step h.0 now.agrees)
          steps h.1 sound.1 a.1 a.4,
    )

-- without deliveries what is held answers as what was taken
pub undelivered_answers : (n : ℕ) (steps : List Step) → NoDelivers steps
    → AllSound n nothing_held steps → (answers : List Answer)
    → HeldAnswersFrom nothing_held steps answers → AreAnswers steps answers
undelivered_answers n steps h sound answers a =
    taken_answers steps answers
    (same_answers n nothing_held nothing_taken start steps h sound answers a)

-- a step clashes exactly where it unsettles its site
pub clash_unsettles : (n : ℕ) (steps : List Step) (step : Step) → NoDelivers steps
    → IsNoDeliver step → NoneFaulty n steps → Clashes steps step ↔ Unsettles steps step
clash_unsettles n steps step h now sound =
    let v = held_after nothing_held steps in
    let w = taken_after nothing_taken steps in
    let g = settled_after n nothing_held nothing_taken start steps h (all_sound n steps sound) in
    both (cells_in v step) (edits_in w step) (brings v w g step now) refl
  where
    after : (d : ℕ × List Entry) → let w = taken_after nothing_taken steps in
        edits_in w step ≡ Some d → taken (steps ++ step ∷ []) d.0 ≡ w.of_site d.0 ++ d.1
    after d e =
        let w = taken_after nothing_taken steps in
        ap (λ u. u.of_site d.0) (taken_one_more nothing_taken steps step)
        ∙ ap (λ q. takes w.of_site q d.0) e ∙ takes_here w d

    both : (o : Option (ℕ × Entries)) (q : Option (ℕ × List Entry)) → BringsIf o q → let w =
        taken_after nothing_taken steps in edits_in w step ≡ q
        → (¬ (AgreesWith (held steps) o))
        ↔ IsSomeAnd q
        (λ c. IsSettled (taken steps c.0) × ¬ (IsSettled (taken (steps ++ step ∷ []) c.0)))
    both None None r e = ((λ no. no tt), (λ h. absurd h))
    both None (Some d) r e = absurd r
    both (Some c) None r e = absurd r
    both (Some c) (Some d) r e =
        let v = held_after nothing_held steps in
        let w = taken_after nothing_taken steps in
        let g =
        settled_after n nothing_held nothing_taken start steps h (all_sound n steps sound) in (
          λ no. (
            g.settled d.0,
            λ settled. no
                (agrees v w g c d r (subst IsSettled (after d e) settled)),
          ),
          λ un agree. un.1 (subst IsSettled (sym (after d e)) (settles v w g c d r agree)),
        )
