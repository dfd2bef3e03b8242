-- Documents of version 1 that name a site, with sites by their numbers. Project rule.
use Rattle.std.specs.Prelude.{◌≡◌, Some, map}
use Rattle.cata_core.specs.SiteMigration.{OldDelta, OldSite, OldSummary}
use Rattle.serde_json.specs.Data.{Data}
use Rattle.json_docs.specs.Parts.{u32_in}
use Rattle.row_docs.specs.Headers.{rows_in, subject_data}
use Rattle.row_docs.specs.declared.kind.Kind.TheVariants.{Delta, Site, Summary}
use Rattle.row_docs.specs.ShapesMigration.{old_entry_in, old_stamped_in}

-- the data name this numbered site, and have its entries as rows
pub record IsOldSiteDocument (d : Data) (site : OldSite) : Type 0 where
  pub number : u32_in (subject_data Site d) ≡ Some site.number
  pub cells : map old_entry_in (rows_in Site d) ≡ map Some site.cells

-- the data name the numbered site that the delta is for, and have its entries as rows
pub record IsOldDeltaDocument (d : Data) (delta : OldDelta) : Type 0 where
  pub addressee : u32_in (subject_data Delta d) ≡ Some delta.addressee
  pub cells : map old_entry_in (rows_in Delta d) ≡ map Some delta.cells

-- the data name the numbered site whose summary it is, and have its stamps as rows
pub record IsOldSummaryDocument (d : Data) (summary : OldSummary) : Type 0 where
  pub owner : u32_in (subject_data Summary d) ≡ Some summary.owner
  pub stamps : map old_stamped_in (rows_in Summary d) ≡ map Some summary.stamps
