-- The text of a document that was written is read as its value.
use Rattle.std.proofs.Common.{◌≡◌, ◌<◌, ◌^◌, ℕ, List, refl, arith}
use Rattle.std.specs.List.{All}
use Rattle.std.specs.Prelude.{Some}
use Rattle.json.proofs.Printed.Decimals.{IsNumber-decimal}
use Rattle.serde_json.specs.Read.{read}
use Rattle.serde_json.proofs.Numbers.{number_of-decimal}
use Rattle.cell_core.specs.declared.stamp.Stamp.{Stamp}
use Rattle.cell_core.specs.Entry.{EntryKey}
use Rattle.catalogue.specs.Entries.{Entries}
use Rattle.row_docs.specs.Entries.{cells_values, stamps_values}
use Rattle.row_docs.specs.WritingTexts.{text}
use Rattle.row_docs.specs.EntriesValid.{IsKeptCell, IsKeptStamp}
use Rattle.row_docs.proofs.EntriesWrittenTexts.{cells_written, read-text, stamps_written}
use Rattle.site_docs.specs.DocumentsValues.{delta_value, site_value, summary_value}

two : 2 < 2 ^ 64
two = omega arith

-- the text of a site's document is read as its value
pub read-site : (name : List ℕ) (es : Entries) → All IsKeptCell es
    → read (text (site_value name (cells_values es))) ≡ Some (site_value name (cells_values es))
read-site name es kept =
    let rows = cells_written es kept in
    read-text (site_value name (cells_values es))
    (rows.numbers, (tt, (tt, (IsNumber-decimal 2 two, tt)))) (omega (arith, rows.shallow))
    (rw (rows.back, number_of-decimal 2 two) refl)

-- the text of a delta's document is read as its value
pub read-delta : (addressee : List ℕ) (es : Entries) → All IsKeptCell es
    → read (text (delta_value addressee (cells_values es)))
    ≡ Some (delta_value addressee (cells_values es))
read-delta addressee es kept =
    let rows = cells_written es kept in
    read-text (delta_value addressee (cells_values es))
    (rows.numbers, (tt, (tt, (IsNumber-decimal 2 two, tt)))) (omega (arith, rows.shallow))
    (rw (rows.back, number_of-decimal 2 two) refl)

-- the text of a summary's document is read as its value
pub read-summary : (owner : List ℕ) (ts : List (EntryKey × Stamp)) → All IsKeptStamp ts
    → read (text (summary_value owner (stamps_values ts)))
    ≡ Some (summary_value owner (stamps_values ts))
read-summary owner ts kept =
    let rows = stamps_written ts kept in
    read-text (summary_value owner (stamps_values ts))
    (tt, (tt, (rows.numbers, (IsNumber-decimal 2 two, tt)))) (omega (arith, rows.shallow))
    (rw (rows.back, number_of-decimal 2 two) refl)
