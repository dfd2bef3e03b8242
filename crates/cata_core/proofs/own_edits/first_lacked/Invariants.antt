use Rattle.catalogue.specs.Cells.{cells_left}
use Rattle.cata_core.proofs.OwnEditsLemmas.{IsSought}
use Rattle.cata_core.proofs.own_edits.first_lacked.Given as goal

-- none of the rows so far is lacked, and the row counts them
abbrev pub invariant-loop-id : goal.invariant-loop-id
invariant-loop-id l = IsSought l.name l.cells l.rows (cells_left l.id-iterator) l.row
