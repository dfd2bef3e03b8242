use Rattle.std.proofs.Common.{◌≡◌, ◌∙◌, ◌++◌, [], ◌∷◌, append-nil, append_assoc, ap, sym}
use Rattle.catalogue.specs.Cells.{cells_left}
use Rattle.catalogue.specs.Entries.{Entries, Entry}
use Rattle.site_docs.proofs.document.writing.rows_of.Goals as goal

-- none is written yet
pub loop-id-init : goal.loop-id-init
loop-id-init c = (
  [],
  c.in_ok-draft.ensures,
  ap cells_left
      c.into_iter-id-iterator.ensures.into_iter_gives ∙ c.iter-id-items.ensures.cells,
)

pub loop-id-preserved : goal.loop-id-preserved
loop-id-preserved c =
    let inv = c.loop-id.invariant in
    let e : Entry = ((c.in-Some.id.now, c.in-Some.lang.now), c.in-Some.cell.now) in (
      inv.0 ++ e ∷ [],
      c.in_ok-add_cell.ensures inv.0 inv.1,
      append_assoc inv.0 (e ∷ []) (cells_left c.next.new.self)
          ∙ (ap (λ (t : Entries). inv.0 ++ t) (sym c.in-Some.ensures.steps) ∙ inv.2),
    )

-- all cells are written
pub returns-clause-rows : goal.returns-clause-rows
returns-clause-rows c =
    let inv = c.loop-id.invariant in
    let all : inv.0 ≡ c.args.cells.now = sym (append-nil inv.0)
    ∙ (ap (λ (t : Entries). inv.0 ++ t) (sym c.in-None.ensures.steps.0) ∙ inv.2) in
    rw (← all) inv.1
