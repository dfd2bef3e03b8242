-- Many sites at once: what a merge of their documents answers, and which refusals. Project rules.
use Rattle.std.specs.Prelude.{◌≡◌, ◌⊎◌, ◌++◌, ◌∷◌, ◌+◌, ℕ, All, Bool, Contains, List, []}
use Rattle.std.specs.Prelude.{length}
use Rattle.std.specs.List.{AllZip}
use Rattle.catalogue.specs.CataFault.{IsRefusal}
use Rattle.catalogue.specs.Entries.{Agree, Entries, joined}
use Rattle.catalogue.specs.CatalogueParts.{part_of}
use Rattle.cata_core.specs.Site.{SiteState}
use Rattle.json_docs.specs.declared.fault.DocFault.{DocFault}
use Rattle.row_docs.specs.Reading.{IsOfDocument}
use Rattle.site_docs.specs.Reading.{IsSiteText, ReadsAsSite, RefusesSite}
use Rattle.docs_core.specs.Calls.{IsOfSite}
use Rattle.site_docs.specs.Checks.{IsOwnMissing, LacksNoOwn}
use Rattle.site_docs.specs.declared.checks.Checks.{Checks}
use Rattle.docs_core.specs.Lines.{documents_of}
use Rattle.site_docs.specs.RowsInTime.{AreInTime, IsTimeAhead}

-- the cells with those of each of the sites joined to them, in order
abbrev pub joined_all : Entries → List SiteState → Entries
joined_all cells [] = cells
joined_all cells (site ∷ sites) = joined_all (joined cells site.cells) sites

-- each document reads as the site at its place, and there are as many of both
abbrev pub ReadAsSites : List (List ℕ) → List SiteState → Type 0
ReadAsSites = AllZip ReadsAsSite

-- the first site, with the cells of all
abbrev pub merged_site : SiteState → List SiteState → SiteState
merged_site first others = record { name = first.name; cells = joined_all first.cells others }

-- the documents are those of the first site and of the others; each of the others has its times in
-- the limit, brings no edit that the first site lacks of its own by then, if that is tested, and
-- agrees with all before it, joined
pub record AreMerged (checks : Checks) (documents : List (List ℕ)) (first : SiteState)
    (others : List SiteState) : Type 0 where
  pub read : ReadAsSites documents (first ∷ others)
  pub in_time : All (λ (other : SiteState). AreInTime checks.not_after other.cells) others
  pub own : (before : List SiteState) (other : SiteState) (after : List SiteState)
      → others ≡ before ++ other ∷ after
      → LacksNoOwn checks.own_edits (merged_site first before) other.cells
  pub agree : (before : List SiteState) (other : SiteState) (after : List SiteState)
      → others ≡ before ++ other ∷ after
      → Agree (joined_all first.cells before) other.cells

-- the text is that of the first site of the input, with the cells of all
abbrev pub IsMerged : Checks → List ℕ → List ℕ → Type 0
IsMerged checks input text =
    (first : SiteState) × (others : List SiteState)
    × AreMerged checks (documents_of input) first others
    × IsSiteText (merged_site first others) text

-- the cells are refused for a time, then for an edit that the site made and lacks, then as cells
-- are
abbrev pub RefusesCells : Checks → ℕ → SiteState → Entries → DocFault → Type 0
RefusesCells checks number site cells fault =
    IsTimeAhead number checks.not_after cells fault
    ⊎ (AreInTime checks.not_after cells × IsOwnMissing number checks.own_edits site cells fault)
    ⊎ (AreInTime checks.not_after cells × LacksNoOwn checks.own_edits site cells
    × IsOfSite (IsRefusal site.cells cells) fault)

-- the document with this number is refused by its reader, then as its cells are by the site
abbrev pub RefusesOther : Checks → ℕ → SiteState → List ℕ → DocFault → Type 0
RefusesOther checks number site document fault =
    IsOfDocument number (RefusesSite document) fault
    ⊎ ((other : SiteState) × ReadsAsSite document other
    × RefusesCells checks number site other.cells fault)

-- the document is refused that comes after these, which are merged
abbrev pub RefusesNext : Checks → List (List ℕ) → List ℕ → DocFault → Type 0
RefusesNext checks before document fault =
    ((before ≡ []) × IsOfDocument 1 (RefusesSite document) fault)
    ⊎ ((first : SiteState) × (others : List SiteState) × AreMerged checks before first others
    × RefusesOther checks (length before + 1) (merged_site first others) document fault)

-- one of the documents is refused, and those before it are merged
abbrev pub RefusesMerge : Checks → List ℕ → DocFault → Type 0
RefusesMerge checks input fault =
    (before : List (List ℕ)) × (document : List ℕ) × (after : List (List ℕ))
    × (documents_of input ≡ before ++ document ∷ after)
    × RefusesNext checks before document fault

-- ---- what laws speak of

-- each two of the documents that are sites agree
abbrev pub AllAgree : List (List ℕ) → Type 0
AllAgree documents =
    (a b : List ℕ) (first second : SiteState) → Contains documents a → Contains documents b
    → ReadsAsSite a first → ReadsAsSite b second → Agree first.cells second.cells

-- the site with the cells of these messages
abbrev pub part_of_site : (List ℕ → Bool) → SiteState → SiteState
part_of_site messages site =
    record { name = site.name; cells = part_of messages site.cells }
