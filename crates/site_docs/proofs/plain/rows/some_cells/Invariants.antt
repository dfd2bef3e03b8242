use Rattle.std.proofs.Common.{◌≡◌, [], ◌∷◌, ◌++◌, false, true, length}
use Rattle.std.specs.Prelude.{Some}
use denote.Text.{Utf8}
use denote.Shadow.{shadow}
use Rattle.catalogue.specs.Entries.{Entries}
use Rattle.row_docs.specs.Entries.{cells_values}
use Rattle.row_docs.specs.EntriesValid.{AreKeptCells}
use Rattle.site_docs.specs.Plain.{is_later, open_items}
use Rattle.site_docs.specs.PlainRows.{IsSpelled, key_in}
use Rattle.site_docs.specs.inner.PlainRows.{IsLastOf}
use Rattle.site_docs.proofs.plain.rows.some_cells.Given as goal

-- the cells that were read, and what is left
abbrev pub invariant-loop-row : goal.invariant-loop-row
invariant-loop-row g l =
    shadow (Utf8 l.rest)
    × ((cells : Entries) × AreKeptCells cells × IsLastOf (Some (key_in l.last.front)) cells
    × (is_later cells ≡ true) × ((first : g.row.S.Denot) → g.S.CellSink.Holds first l.fn.sink []
    → g.S.CellSink.Holds first l.sink cells)
    × (l.fn.text ≡ 91 ∷ (open_items false (cells_values cells) ++ l.rest)) × IsSpelled l.last)

abbrev pub decreases-loop-row : goal.decreases-loop-row
decreases-loop-row g l = length l.rest
