-- How many labels each language has. Project rule.
use Rattle.std.specs.Prelude.{◌≡◌, ◌==◌, ◌&&◌, ◌∷◌, ◌++◌, ℕ, Bool, List, None, Option, Some}
use Rattle.std.specs.Prelude.{codes, count_by, decimal, length, not, suc, unwrap_or, zero}
use Rattle.std.specs.Ordering.{is_eq}
use Rattle.std.specs.FinMap.Entries.{find}
use Rattle.cell_core.specs.Keyed.{IsMap}
use Rattle.cell_core.specs.Entry.{text_cmp}
use Rattle.catalogue.specs.Entries.{Entries, Entry}
use Rattle.cata_core.specs.Site.{SiteState}
use Rattle.site_docs.specs.Reading.{ReadsAsSite}
use Rattle.query_docs.specs.Lines.{line, listed}
use Rattle.query_docs.specs.Status.{is_labelled}

-- whether the entry is a live label of just this language
abbrev pub is_label_of : List ℕ → Entry → Bool
is_label_of lang entry = is_labelled entry && is_eq (text_cmp lang entry.0.1)

-- how many messages have a live label of the language: a catalogue has one entry for a message and
-- a language
abbrev pub label_count : List ℕ → Entries → ℕ
label_count lang cells = count_by (is_label_of lang) cells

-- languages, each with a count
abbrev pub LabelCounts : Type 0
LabelCounts = List (List ℕ × ℕ)

-- a count, where there is something to count
abbrev pub if_any : ℕ → Option ℕ
if_any zero = None
if_any (suc n) = Some (suc n)

-- each language of which some message has a live label, once, in ascending order, with the number
-- of these messages
pub record AreLabelCounts (cells : Entries) (counts : LabelCounts) : Type 0 where
  pub ascend : IsMap text_cmp counts
  pub each : (lang : List ℕ) → find text_cmp lang counts ≡ if_any (label_count lang cells)

-- the count of a language: 0 where it is not listed
abbrev pub count_of : List ℕ → LabelCounts → ℕ
count_of lang counts = unwrap_or (find text_cmp lang counts) 0

-- `LANGUAGE COUNT`
abbrev pub count_line : List ℕ × ℕ → List ℕ
count_line entry = line (entry.0 ++ 32 ∷ decimal entry.1)

-- `labels N`, then the languages in ascending order
abbrev pub labels_lines : LabelCounts → List ℕ
labels_lines counts = listed (codes "labels") count_line counts

-- the text is the lines of the languages with their counts, and says whether there is one
abbrev pub AnswersLabels : Entries → List ℕ → Bool → Type 0
AnswersLabels cells text found =
    (counts : LabelCounts) × AreLabelCounts cells counts × (text ≡ labels_lines counts)
    × (found ≡ not (length counts == 0))

-- the same of the site that the bytes are a document of
abbrev pub IsLabels : List ℕ → List ℕ → Bool → Type 0
IsLabels bytes text found =
    (site : SiteState) × ReadsAsSite bytes site × AnswersLabels site.cells text found
