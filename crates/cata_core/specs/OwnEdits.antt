-- Edits of a site's own that it lacks. Project rule.
use Rattle.std.specs.Prelude.{◌≡◌, ◌++◌, ◌∷◌, ℕ, All, Contains, List, length}
use Rattle.std.specs.FinMap.Entries.{find}
use Rattle.cell_core.specs.Entry.{key_cmp}
use Rattle.catalogue.specs.Entries.{Entries, Entry}
use Rattle.cata_core.specs.Delta.{HasAtLeast}
use Rattle.cata_core.specs.declared.step.Step.{Step}
use Rattle.cata_core.specs.declared.step.Step.TheVariants.{Edit}

-- an edit of the site of this name, of whose key the cells have nothing, or a lesser stamp
pub record IsLackedEdit (name : List ℕ) (cells : Entries) (e : Entry) : Type 0 where
  pub own : e.1.stamp.site ≡ name
  pub lacked : ¬ (HasAtLeast (find key_cmp e.0 cells) e.1.stamp)

-- of these rows none is an edit of the site that the cells lack
abbrev pub LacksNoEdit : List ℕ → Entries → Entries → Type 0
LacksNoEdit name cells rows = All (λ e. ¬ (IsLackedEdit name cells e)) rows

-- the row at this place is the first that is an edit of the site that the cells lack
pub record IsFirstLacked (name : List ℕ) (cells rows : Entries) (row : ℕ) : Type 0 where
  pub before : Entries
  pub edit : Entry
  pub after : Entries
  pub rows_are : rows ≡ before ++ edit ∷ after
  pub row_is : length before ≡ row
  pub none_before : LacksNoEdit name cells before
  pub is_lacked : IsLackedEdit name cells edit

-- the sites have different names, and each edit of the run is made at the site that its stamp names
pub record AreMadeAtHome (names : ℕ → List ℕ) (steps : List Step) : Type 0 where
  pub apart : (s t : ℕ) → names s ≡ names t → s ≡ t
  pub home : (s : ℕ) (e : Entry) → Contains steps (Edit s e) → e.1.stamp.site ≡ names s
