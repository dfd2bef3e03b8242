-- Work for a translator: the messages that lack a language. Project rule.
use Rattle.std.specs.Prelude.{ℕ, Bool, List, filter}
use Rattle.std.specs.Option.{is_none}
use Rattle.catalogue.specs.Entries.{Entries}
use Rattle.cata_core.specs.Site.{SiteState}
use Rattle.site_docs.specs.Reading.{ReadsAsSite}
use Rattle.map_docs.specs.WritingTexts.{AreWritten}
use Rattle.map_docs.specs.Maps.{Labelled}
use Rattle.query_docs.specs.Exporting.{label_at, live_labels}

-- the live labels whose messages have none of just this language
abbrev pub missing_labels : List ℕ → Entries → List Labelled
missing_labels lang cells = filter (λ e. is_none (label_at (e.0.0, lang) cells)) (live_labels cells)

-- the language maps of these labels of the site, and whether there is one
abbrev pub IsMissing : List ℕ → List ℕ → List ℕ → Bool → Type 0
IsMissing bytes lang doc found =
    (site : SiteState) × ReadsAsSite bytes site
    × AreWritten (missing_labels lang site.cells) doc found
