-- What comes in at a site, stays there.
use Rattle.std.proofs.Common.{◌≡◌, ℕ, true, false, List, ◌++◌, Option, Some, None, refl}
use Rattle.std.specs.Prelude.{◌==◌, if◌then◌else◌}
use Rattle.std.proofs.lemmas.Bool.{eqb-false}
use Rattle.catalogue.specs.Entries.{Entry}
use Rattle.cata_core.specs.RunsTaken.{Taken, takes}
use Rattle.catalogue.proofs.CatalogueMembersLemmas.{In, in_append_left}

-- what a site took stays
pub grows : (of : ℕ → List Entry) (d : Option (ℕ × List Entry)) (s : ℕ) (f : Entry) → In (of s) f
    → In (takes of d s) f
grows of None s f h = h
grows of (Some d) s f h =
    elim (s == d.0) as
    (λ b. In (if b then of s ++ d.1 else of s) f) [
      | true ↦ in_append_left (of s) d.1 f h
      | false ↦
          h
    ]

-- Edits that come in at a site follow those that it took before.
pub takes_here : (w : Taken) (d : ℕ × List Entry)
    → takes w.of_site (Some d) d.0 ≡ w.of_site d.0 ++ d.1
takes_here w d =
    elim (d.0 == d.0) as
    (λ b. (d.0 == d.0) ≡ b
    → (if b then w.of_site d.0 ++ d.1 else w.of_site d.0) ≡ w.of_site d.0 ++ d.1) [
      | true ↦ λ b. refl
      | false ↦ λ b. absurd (eqb-false d.0 d.0 b refl)
    ] refl
