-- Steps whose edits have stamps of numbered sites, as documents of version 1 have them, and what
-- they become (project rules).
use Rattle.std.specs.Prelude.{ℕ, List, Option, map}
use Rattle.list_core.specs.Item.{Item}
use Rattle.list_core.specs.declared.scheme.Scheme.{Scheme}
use Rattle.cata_core.specs.declared.step.Step.{Step}
use Rattle.cata_core.specs.declared.step.Step.TheVariants.{Edit, Merge, AskFilter, AskLookup}
use Rattle.cata_core.specs.declared.step.Step.TheVariants.{AskCells, Tell, Post, Deliver}
use Rattle.cata_core.specs.SiteMigration.{OldEntry, migrated_entry}

-- the steps of a run; places of sites and numbers of told summaries and posts are alike in both
-- versions
pub data OldStep : Type 0 where
  OldEdit : (site : ℕ) (edit : OldEntry) → OldStep
  OldMerge : (into source : ℕ) → OldStep
  OldAskFilter : (site : ℕ) (id : List ℕ) (scheme : Scheme) (list : List Item) → OldStep
  OldAskLookup : (site : ℕ) (id : List ℕ) (list : List Item) (default : Option (List ℕ)) → OldStep
  OldAskCells : (site : ℕ) → OldStep
  OldTell : (site : ℕ) → OldStep
  OldPost : (site told : ℕ) → OldStep
  OldDeliver : (post : ℕ) → OldStep

-- the same with the padded names of the sites in the stamps; what a step names by place or number
-- stays
abbrev pub migrated_step : OldStep → Step
migrated_step (OldEdit site edit) = Edit site (migrated_entry edit)
migrated_step (OldMerge into source) = Merge into source
migrated_step (OldAskFilter site id scheme list) = AskFilter site id scheme list
migrated_step (OldAskLookup site id list default) = AskLookup site id list default
migrated_step (OldAskCells site) = AskCells site
migrated_step (OldTell site) = Tell site
migrated_step (OldPost site told) = Post site told
migrated_step (OldDeliver post) = Deliver post

-- all steps migrated, in their order
abbrev pub migrated_steps : List OldStep → List Step
migrated_steps steps = map migrated_step steps
