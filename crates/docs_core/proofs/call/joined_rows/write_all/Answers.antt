use Rattle.std.proofs.Common.{◌∙◌, ◌++◌, [], ◌∷◌, append-nil, append_assoc, ap, refl, subst, sym}
use Rattle.catalogue.specs.Equality.{seen}
use Rattle.site_docs.specs.RowsDraft.{HoldsRows}
use Rattle.docs_core.specs.inner.JoinedRows.{left_of}
use Rattle.docs_core.proofs.call.joined_rows.write_all.Goals as goal

-- no cell is written yet
pub loop-other-init : goal.loop-other-init
loop-other-init c =
    ([], refl, λ rows holds. subst (HoldsRows c.args.draft.now) (sym (append-nil rows)) holds)

-- one cell more
pub loop-other-preserved : goal.loop-other-preserved
loop-other-preserved c =
    let inv = c.loop-other.invariant in
    let e = seen c.in-Some.other in
    let rest = left_of c.take.new.self in (
      inv.0 ++ e ∷ [],
      inv.1 ∙ ap (λ t. inv.0 ++ t) c.in-Some.ensures ∙ sym (append_assoc inv.0 (e ∷ []) rest),
      λ rows holds.
          subst (HoldsRows c.add_cell.new.self) (append_assoc rows inv.0 (e ∷ []))
          (c.in_ok-add_cell.ensures (rows ++ inv.0) (inv.2 rows holds)),
    )
