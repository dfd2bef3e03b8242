-- What the sites of a run hold, as maps that join, whether or not edits clash.
use Rattle.std.specs.Prelude.{ℕ, List, [], ◌∷◌, ◌++◌, Option, Some, None, if◌then◌else◌, ◌==◌}
use Rattle.std.specs.Prelude.{slice_get}
use Rattle.cata_core.specs.declared.step.Step.{Step}
use Rattle.cata_core.specs.declared.step.Step.TheVariants.{Edit, Merge, Tell, Post, Deliver}
use Rattle.catalogue.specs.Entries.{Entries, joined}
use Rattle.cata_core.specs.Delta.{Stamps, summary_of, delta_of}

-- a summary that was told: who told it, and its stamps
pub record ToldStamps : Type 0 where
  pub teller : ℕ
  pub stamps : Stamps

-- a delta on its way by a post: to whom, and its cells
pub record PostedCells : Type 0 where
  pub addressee : ℕ
  pub cells : Entries

-- what each site holds, what was told, and what was posted
pub record Held : Type 0 where
  pub of_site : ℕ → Entries
  pub told : List ToldStamps
  pub posts : List PostedCells

-- the cells of a post, and to which site they go; none where it was not posted
abbrev pub cells_delivered : Option PostedCells → Option (ℕ × Entries)
cells_delivered None = None
cells_delivered (Some post) = Some (post.addressee, post.cells)

-- the cells that come in by a step, and at which site
abbrev pub cells_in : Held → Step → Option (ℕ × Entries)
cells_in w (Edit site edit) = Some (site, edit ∷ [])
cells_in w (Merge into source) = Some (into, w.of_site source)
cells_in w (Deliver post) = cells_delivered (slice_get w.posts post)
cells_in w _ = None

-- a site joins cells to those that it holds
abbrev pub joins : (ℕ → Entries) → Option (ℕ × Entries) → ℕ → Entries
joins of None = of
joins of (Some c) = λ s. if s == c.0 then joined (of s) c.1 else of s

-- the summary that is told by a step
abbrev pub told_by : Held → Step → List ToldStamps
told_by w (Tell site) = record { teller = site; stamps = summary_of (w.of_site site) } ∷ []
told_by w _ = []

-- the delta of the sender's cells to the teller of the summary, if it was told
abbrev pub delta_to : Entries → Option ToldStamps → List PostedCells
delta_to cells None = []
delta_to cells (Some told) =
    record { addressee = told.teller; cells = delta_of cells told.stamps } ∷ []

-- what is posted by a step
abbrev pub cells_posted : Held → Step → List PostedCells
cells_posted w (Post site told) = delta_to (w.of_site site) (slice_get w.told told)
cells_posted w _ = []

-- what the sites hold, and what was told and posted, after one step more
abbrev pub held_step : Held → Step → Held
held_step w step =
    record {
      of_site = joins w.of_site (cells_in w step);
      told = w.told ++ told_by w step;
      posts =
          w.posts ++ cells_posted w step;
    }

-- at first no site holds anything
abbrev pub nothing_held : Held
nothing_held = record { of_site = λ _. []; told = []; posts = [] }

-- the same after some steps more
abbrev pub held_after : Held → List Step → Held
held_after w [] = w
held_after w (step ∷ steps) = held_after (held_step w step) steps

-- what a site holds after these steps
abbrev pub held : List Step → ℕ → Entries
held steps site = let w = held_after nothing_held steps in w.of_site site
