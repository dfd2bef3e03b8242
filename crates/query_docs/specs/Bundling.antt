-- The labels that one reader gets: by RFC 4647 section 3.4, or widened under a scheme.
-- Project rule.
use Rattle.std.specs.Prelude.{◌⊎◌, ◌↔◌, ℕ, Bool, List, Contains, Option}
use Rattle.cell_core.specs.Keyed.{IsMap}
use Rattle.list_core.specs.Item.{Item}
use Rattle.nego_core.specs.declared.widening.Widening.{Widening}
use Rattle.nego_core.specs.declared.widening.Widening.TheVariants.{Off}
use Rattle.catalogue.specs.Asking.{IsLookupAnswerBy}
use Rattle.cell_core.specs.Entry.{key_cmp}
use Rattle.catalogue.specs.Entries.{Entries}
use Rattle.catalogue.specs.EntriesOffered.{offered_cells}
use Rattle.cata_core.specs.Site.{SiteState}
use Rattle.catalogue.specs.declared.reply.Reply.TheVariants.{Default, Matched}
use Rattle.site_docs.specs.Reading.{ReadsAsSite}
use Rattle.map_docs.specs.WritingTexts.{AreWritten}
use Rattle.map_docs.specs.Maps.{Labelled}

-- the lookup of the label's message answers it, matched or as the default
abbrev pub IsAnswer : Widening → Entries → List Item → Option (List ℕ) → Labelled → Type 0
IsAnswer widening cells items default e =
    IsLookupAnswerBy widening cells e.0.0 items default (Matched e.0.1 e.1)
    ⊎ IsLookupAnswerBy widening cells e.0.0 items default (Default e.0.1 e.1)

-- a label is here exactly where the lookup of its message answers it
pub record IsBundleBy (widening : Widening) (cells : Entries) (items : List Item)
    (default : Option (List ℕ)) (labels : List Labelled) : Type 0 where
  pub ascending : IsMap key_cmp labels
  pub answered : (e : Labelled) → Contains labels e ↔ IsAnswer widening cells items default e

-- the same by RFC 4647 section 3.4
abbrev pub IsBundle : Entries → List Item → Option (List ℕ) → List Labelled → Type 0
IsBundle = IsBundleBy Off

-- the language maps of these labels of the site without those that are not offered, and whether
-- there is one
abbrev pub IsBundledUnder : List Item → Widening → List ℕ → List Item → Option (List ℕ) → List ℕ
    → Bool → Type 0
IsBundledUnder offer widening bytes items default doc found =
    (site : SiteState) × (labels : List Labelled) × ReadsAsSite bytes site
    × IsBundleBy widening (offered_cells offer site.cells) items default labels
    × AreWritten labels doc found

-- the same of all labels, by RFC 4647 section 3.4
abbrev pub IsBundled : List ℕ → List Item → Option (List ℕ) → List ℕ → Bool → Type 0
IsBundled bytes items default doc found =
    (site : SiteState) × (labels : List Labelled) × ReadsAsSite bytes site
    × IsBundle site.cells items default labels × AreWritten labels doc found
