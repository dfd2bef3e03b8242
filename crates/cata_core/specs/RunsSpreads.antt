-- When all that a site took reaches another.
use Rattle.std.specs.Prelude.{◌≡◌, ◌≢◌, ℕ, ◌<◌, List, ◌∷◌, ◌++◌, Some, length, slice_get, Contains}
use Rattle.std.specs.Prelude.{All, ◌⊎◌}
use Rattle.std.specs.List.{AllByRecursion}
use Rattle.cata_core.specs.declared.step.Step.{Step}
use Rattle.cata_core.specs.declared.step.Step.TheVariants.{Edit, Merge, Post, Deliver}
use Rattle.catalogue.specs.Entries.{Entry}
use Rattle.cata_core.specs.RunsTaken.{taken_after, nothing_taken}
use Rattle.cata_core.specs.PlayFault.{NamesSites}

-- the step is an edit at the site
abbrev pub IsEditAt : ℕ → Step → Type 0
IsEditAt s (Edit site edit) = site ≡ s
IsEditAt s _ = ⊥

-- no step is an edit at the site
abbrev pub NoEditAt : ℕ → List Step → Type 0
NoEditAt s steps = AllByRecursion (λ step. ¬ (IsEditAt s step)) steps

-- a merge into t from s after the last edit at s
pub record IsMerged (steps : List Step) (s t : ℕ) : Type 0 where
  pub before : List Step
  pub after : List Step
  pub steps_are : steps ≡ before ++ Merge t s ∷ after
  pub last : NoEditAt s after

-- a post of s to t after the last edit at s, and its delivery
pub record IsDelivered (steps : List Step) (s t : ℕ) : Type 0 where
  pub before : List Step
  pub between : List Step
  pub after : List Step
  pub told : ℕ
  pub post : ℕ
  pub steps_are : steps ≡ before ++ Post s told ∷ (between ++ Deliver post ∷ after)
  pub to : let w = taken_after nothing_taken before in slice_get w.tellers told ≡ Some t
  pub number : let w = taken_after nothing_taken before in post ≡ length w.posts
  pub last : NoEditAt s (between ++ Deliver post ∷ after)

-- what s took after its last edit comes in at t
abbrev pub Reaches : List Step → ℕ → ℕ → Type 0
Reaches steps s t = IsMerged steps s t ⊎ IsDelivered steps s t

-- the steps keep to the sites, and each site with an edit reaches each other
pub record AllReached (sites : ℕ) (steps : List Step) : Type 0 where
  pub named : All (NamesSites sites) steps
  pub reached : (s t : ℕ) (edit : Entry) → s < sites → t < sites → Contains steps (Edit s edit)
      → t ≢ s → Reaches steps s t
