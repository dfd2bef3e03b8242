use Rattle.std.proofs.Common.{◌∙◌, ◌++◌, [], ◌∷◌, ap, length, refl, subst, sym, take}
use Rattle.cell_core.specs.Entry.{EntryKey}
use Rattle.catalogue.specs.Entries.{Entry, IsAboveAll}
use Rattle.site_docs.specs.PlainRows.{row_in}
use Rattle.site_docs.specs.Sink.{texts_of}
use Rattle.site_docs.proofs.PlainLemmas.{front_apart, front_closed, row_begins, row_front}
use Rattle.site_docs.proofs.plain.rows.show_cell.Goals as goal

-- the row as far as its count, and what follows its comma
pub length_before_comma-front-requires : goal.length_before_comma-front-requires
length_before_comma-front-requires g c =
    let row = row_in c.args.row.now.front in
    (row_front row, c.requires.text ∙ front_apart 44 row c.args.rest.now)

-- the key is above those before, and the row is that of the cell
pub see-requires : goal.see-requires
see-requires g c κs =
    let holds = c.requires.holds in
    let cell = c.cell-cell.ensures in
    let end = c.in_ok-label.ensures in
    let key = ap (λ (e : Entry). e.0) cell.entry in
    let above = subst (λ (k : EntryKey). IsAboveAll k holds.1) (sym key) holds.3 in
    let row = row_in c.args.row.now.front in
    let length_is = c.length_before_comma-front.ensures (row_front row)
    (c.requires.text ∙ front_apart 44 row c.args.rest.now) in
    let front = ap (λ n. take n c.in_ok-label.written.now) length_is
    ∙ ap (take (length (row_front row))) end.text.0
    ∙ row_begins row (texts_of c.in_ok-label.label) in (
      (refl, tt),
      (
        (holds.0, holds.1, holds.2, above),
        (
          cell.label end.label.0,
          cell.row end.label.1 end.text.0 (front_closed row _ front),
        ),
      ),
    )

-- the sink saw the cell of the row after those before
pub returns-in-Ok : goal.returns-in-Ok
returns-in-Ok g c =
    let cell = c.cell-cell.ensures in
    let end = c.in_ok-label.ensures in
    let key = ap (λ (e : Entry). e.0) cell.entry in (
      texts_of c.in_ok-label.label,
      cell.kept end.label.1,
      end.text.1,
      λ first before held above.
          subst
          (λ (e : Entry). g.S.CellSink.Holds first c.see.new.self (before ++ e ∷ []))
          cell.entry
          (c.in-Ok.ensures first before held
          (subst (λ (k : EntryKey). IsAboveAll k before) (sym key) above)),
    )
