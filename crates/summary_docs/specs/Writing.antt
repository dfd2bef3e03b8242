-- The text of the document of a summary that shows labels, version 2. Project rule: the members of
-- an object are in byte order of their names.
use Rattle.std.specs.Prelude.{◌≡◌, ℕ, List, codes}
use Rattle.serde_json.specs.Data.{Data, object, array, number, unsigned, string, no_members, member}
use Rattle.serde_json.specs.View.{items_of}
use Rattle.row_docs.specs.Entries.{stamps_values}
use Rattle.row_docs.specs.EntriesValues.{texts_value}
use Rattle.row_docs.specs.WritingTexts.{text}
use Rattle.cata_core.specs.Delta.{summary_of}
use Rattle.cata_core.specs.Site.{SiteState}
use Rattle.site_docs.specs.Reading.{IsSummaryText}
use Rattle.summary_docs.specs.Reading.{ReadsAsShown}
use Rattle.summary_docs.specs.Shown.{ShownState, shown_of}
use Rattle.summary_docs.specs.declared.summaries.Shows.{Shows}
use Rattle.summary_docs.specs.declared.summaries.Shows.TheVariants.{Labels, Stamps}

-- `{"kind":"summary","labels":[DIGEST,..],"owner":NAME,"stamps":[..],"version":2}`
abbrev pub shown_value : List ℕ → List (List ℕ) → List Data → Data
shown_value owner digests rows = object
    (member (codes "kind") (string (codes "summary"))
    (member (codes "labels") (texts_value digests)
    (member (codes "owner") (string owner)
    (member (codes "stamps") (array (items_of rows))
    (member (codes "version") (number (unsigned 2)) no_members)))))

-- the document of a summary that shows labels, as it is written
abbrev pub shown_text : ShownState → List ℕ
shown_text shown =
    text (shown_value shown.summary.owner shown.digests (stamps_values shown.summary.stamps))

-- the text is that of the document of this summary, and reads as it
abbrev pub IsShownText : ShownState → List ℕ → Type 0
IsShownText shown doc = (doc ≡ shown_text shown) × ReadsAsShown doc shown

-- the text of the summary of a site, with labels or without
abbrev pub IsSummaryBy : Shows → SiteState → List ℕ → Type 0
IsSummaryBy Stamps site =
    IsSummaryText (record { owner = site.name; stamps = summary_of site.cells })
IsSummaryBy Labels site = IsShownText (shown_of site.name site.cells)
