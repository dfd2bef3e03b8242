-- Which steps of a run are faulty, and by which refusal.
use Rattle.std.specs.Prelude.{◌≡◌, ℕ, ◌<◌, List, [], ◌∷◌, ◌++◌, Option, Some, None, All, length}
use Rattle.std.specs.Prelude.{IsSomeAnd, ⊤}
use Rattle.cata_core.specs.declared.step.Step.{Step}
use Rattle.cata_core.specs.declared.step.Step.TheVariants.{Edit, Merge, AskFilter, AskLookup}
use Rattle.cata_core.specs.declared.step.Step.TheVariants.{AskCells, Tell, Post, Deliver}
use Rattle.cata_core.specs.declared.play_fault.PlayFault.{PlayFault}
use Rattle.cata_core.specs.declared.play_fault.PlayFault.TheVariants.{NoSuchSite, NoSuchPost}
use Rattle.cata_core.specs.declared.play_fault.PlayFault.TheVariants.{StampReused, NoMemory}
use Rattle.cell_core.specs.Entry.{key_cmp}
use Rattle.catalogue.specs.Entries.{Entries, Agree}
use Rattle.catalogue.specs.Clash.{IsFirstClash}
use Rattle.catalogue.specs.Edits.{IsSettled}
use Rattle.cata_core.specs.RunsTaken.{edits_in, taken, taken_after, nothing_taken}
use Rattle.cata_core.specs.WorldHeld.{Held, cells_in, held, held_after, nothing_held}

-- the number of a refusal among all refusals
abbrev pub number_of : PlayFault → ℕ
number_of (StampReused step place stamp) = 13
number_of (NoSuchSite step) = 16
number_of (NoSuchPost step) = 17
number_of NoMemory = 26

-- the sites that a step names
abbrev pub sites_of : Step → List ℕ
sites_of (Edit site edit) = site ∷ []
sites_of (Merge into source) = into ∷ source ∷ []
sites_of (AskFilter site id scheme list) = site ∷ []
sites_of (AskLookup site id list default) = site ∷ []
sites_of (AskCells site) = site ∷ []
sites_of (Tell site) = site ∷ []
sites_of (Post site told) = site ∷ []
sites_of (Deliver post) = []

-- the step names sites that there are
abbrev pub NamesSites : ℕ → Step → Type 0
NamesSites sites step = All (λ site. site < sites) (sites_of step)

-- the step names a summary that was told, or a post that was made
abbrev pub NamesPosts : Held → Step → Type 0
NamesPosts w (Post site told) = told < length w.told
NamesPosts w (Deliver post) = post < length w.posts
NamesPosts w _ = ⊤

-- what comes in agrees with what is held
abbrev pub AgreesWith : (ℕ → Entries) → Option (ℕ × Entries) → Type 0
AgreesWith of None = ⊤
AgreesWith of (Some c) = Agree (of c.0) c.1

-- the step is not faulty
pub record IsSound (sites : ℕ) (w : Held) (step : Step) : Type 0 where
  pub sites_there : NamesSites sites step
  pub posts_there : NamesPosts w step
  pub agrees : AgreesWith w.of_site (cells_in w step)

-- why the step with this number is faulty, the first reason that applies
abbrev pub IsFaultOf : ℕ → Held → ℕ → Step → PlayFault → Type 0
IsFaultOf sites w n step (NoSuchSite at) = (at ≡ n) × ¬ (NamesSites sites step)
IsFaultOf sites w n step (NoSuchPost at) =
    (at ≡ n) × (NamesSites sites step × ¬ (NamesPosts w step))
IsFaultOf sites w n step (StampReused at place stamp) =
    (at ≡ n)
    × (NamesSites sites step
    × (NamesPosts w step
    × IsSomeAnd (cells_in w step) (λ c. IsFirstClash key_cmp (w.of_site c.0) c.1 place stamp)))
IsFaultOf sites w n step NoMemory = ⊥

-- no step is faulty
abbrev pub NoneFaulty : ℕ → List Step → Type 0
NoneFaulty sites steps =
    (before : List Step) (step : Step) (after : List Step) → steps ≡ before ++ step ∷ after
    → IsSound sites (held_after nothing_held before) step

-- the fault is that of a step before which none is faulty; its number is how many come before
pub record IsFirstFault (sites : ℕ) (steps : List Step) (fault : PlayFault) : Type 0 where
  pub before : List Step
  pub step : Step
  pub after : List Step
  pub steps_are : steps ≡ before ++ step ∷ after
  pub none_before : NoneFaulty sites before
  pub fault_of : IsFaultOf sites (held_after nothing_held before) (length before) step fault

-- the fault is no clash
abbrev pub IsNoClash : PlayFault → Type 0
IsNoClash (StampReused at place stamp) = ⊥
IsNoClash _ = ⊤

-- ---- runs without deliveries

-- the step delivers nothing
abbrev pub IsNoDeliver : Step → Type 0
IsNoDeliver (Deliver post) = ⊥
IsNoDeliver _ = ⊤

-- no step delivers anything
abbrev pub NoDelivers : List Step → Type 0
NoDelivers [] = ⊤
NoDelivers (step ∷ steps) = IsNoDeliver step × NoDelivers steps

-- what comes in by the step does not agree with what its site holds
abbrev pub Clashes : List Step → Step → Type 0
Clashes steps step = ¬ (AgreesWith (held steps) (cells_in (held_after nothing_held steps) step))

-- what the step's site took is settled before the step, and not after it
abbrev pub Unsettles : List Step → Step → Type 0
Unsettles steps step =
    IsSomeAnd (edits_in (taken_after nothing_taken steps) step)
    (λ c. IsSettled (taken steps c.0) × ¬ (IsSettled (taken (steps ++ step ∷ []) c.0)))
