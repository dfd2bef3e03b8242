-- The text that is written for a site or a delta reads as it, with its line feed or without.
use Rattle.std.proofs.Common.{◌≡◌, ◌∙◌, ℕ, List, ap, inl, inr, subst, sym}
use Rattle.std.specs.Prelude.{IfSome, None, Option, Some}
use Rattle.serde_json.specs.Data.{Data}
use Rattle.serde_json.specs.Read.{read}
use Rattle.cell_core.specs.Keyed.{IsMap}
use Rattle.cata_core.specs.Delta.{summary_of}
use Rattle.cell_core.specs.Entry.{key_cmp}
use Rattle.catalogue.specs.Entries.{Entries}
use Rattle.cata_core.specs.Site.{SiteState}
use Rattle.json_docs.proofs.TextLineFeed.{read-line_feed}
use Rattle.row_docs.specs.Entries.{cells_values}
use Rattle.site_docs.specs.Plain.{IsPlainText, IsTextOf, cells_document}
use Rattle.site_docs.specs.Reading.{IsSummaryText, ReadsAsDelta, ReadsAsSite}
use Rattle.row_docs.specs.WritingTexts.{text}
use Rattle.row_docs.specs.declared.kind.Kind.TheVariants.{Delta, Site}
use Rattle.site_docs.proofs.WritingRoundTrip.{reads_delta, reads_site}

-- a text reads as it does without its line feed
read_same : (d : Data) (bytes : List ℕ) → IsTextOf d bytes → read bytes ≡ read (text d)
read_same d bytes (inl is) = ap read is
read_same d bytes (inr cut) = sym (read-line_feed bytes) ∙ ap read cut

-- a site
pub plain_site : (bytes name : List ℕ) (cells : Entries) → IsPlainText Site bytes name cells
    → ReadsAsSite bytes (record { name = name; cells = cells })
plain_site bytes name cells plain =
    reads_site bytes (record { name = name; cells = cells }) plain.is_name plain.kept plain.utf8
    (read_same (cells_document Site name (cells_values cells)) bytes plain.text)

-- a delta
pub plain_delta : (bytes name : List ℕ) (cells : Entries) → IsPlainText Delta bytes name cells
    → ReadsAsDelta bytes (record { addressee = name; cells = cells })
plain_delta bytes name cells plain =
    reads_delta bytes (record { addressee = name; cells = cells }) plain.is_name plain.kept
    plain.utf8 (read_same (cells_document Delta name (cells_values cells)) bytes plain.text)

-- a site whose cells were taken
pub plain_taken_site : (bytes : List ℕ) (name : Option (List ℕ)) (Taken : Entries → Type 0)
    → IfSome name (λ n. (cells : Entries) × IsPlainText Site bytes n cells × Taken cells)
    → IfSome name (λ n. (cells : Entries)
    × ReadsAsSite bytes (record { name = n; cells = cells }) × IsMap key_cmp cells × Taken cells)
plain_taken_site bytes None Taken plain = tt
plain_taken_site bytes (Some n) Taken (cells, plain, taken) = (
  cells,
  plain_site bytes n cells plain,
  plain.kept.map,
  taken,
)

-- the summary of a site whose text was taken
pub summarised : (bytes name owner doc : List ℕ) (cells : Entries)
    → IsPlainText Site bytes name cells → name ≡ owner
    → IsSummaryText (record { owner = owner; stamps = summary_of cells }) doc
    → (site : SiteState) × ReadsAsSite bytes site
    × IsSummaryText (record { owner = site.name; stamps = summary_of site.cells }) doc
summarised bytes name owner doc cells plain same written = (
  record { name = name; cells = cells },
  plain_site bytes name cells plain,
  subst
      (λ (o : List ℕ). IsSummaryText (record { owner = o; stamps = summary_of cells }) doc)
      (sym same) written,
)
