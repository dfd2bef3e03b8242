-- Data of version 1 whose numbers fit and whose keys ascend: times of 64 bits, sites and counts of
-- 32. Project rule.
use Rattle.std.specs.Prelude.{◌≡◌, ◌<◌, ◌^◌, All, Some, ⊤}
use Rattle.std.specs.FinMap.Entries.{find}
use Rattle.cell_core.specs.Keyed.{IsMap}
use Rattle.cell_core.specs.CellMigration.{IsOldStamp, OldStamp}
use Rattle.cell_core.specs.Entry.{EntryKey, key_cmp}
use Rattle.cata_core.specs.SiteMigration.{IsOldMap, OldDelta, OldSite, OldStamps, OldSummary}
use Rattle.cata_core.specs.StepMigration.{OldEdit, OldStep}
use Rattle.script_docs.specs.ScriptsMigration.{OldScript}

-- the keys of the stamps ascend, and their numbers fit
pub record AreOldStamps (told : OldStamps) : Type 0 where
  pub map : IsMap key_cmp told
  pub stamps : (k : EntryKey) (s : OldStamp) → find key_cmp k told ≡ Some s → IsOldStamp s

-- the site's number fits, its keys ascend, and its stamps' numbers fit
pub record IsOldSite (site : OldSite) : Type 0 where
  pub number_fits : site.number < 2 ^ 32
  pub cells : IsOldMap site.cells

-- the addressee's number fits, the keys ascend, and the stamps' numbers fit
pub record IsOldDelta (delta : OldDelta) : Type 0 where
  pub addressee_fits : delta.addressee < 2 ^ 32
  pub cells : IsOldMap delta.cells

-- the owner's number fits, the keys ascend, and the stamps' numbers fit
pub record IsOldSummary (summary : OldSummary) : Type 0 where
  pub owner_fits : summary.owner < 2 ^ 32
  pub stamps : AreOldStamps summary.stamps

-- an edit has such a stamp
abbrev pub IsOldStep : OldStep → Type 0
IsOldStep (OldEdit site edit) = IsOldStamp edit.1.stamp
IsOldStep _ = ⊤

-- the edits of the script have stamps whose numbers fit
abbrev pub IsOldScript : OldScript → Type 0
IsOldScript script = All IsOldStep script.steps
