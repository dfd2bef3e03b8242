use Rattle.std.proofs.Common.{◌≡◌, ◌≢◌, ◌∙◌, ◌++◌, [], ◌∷◌, append_assoc, ap, false, refl, subst}
use Rattle.std.proofs.Common.{sym, true≢false}
use Rattle.std.specs.declared.cmp.Ordering.{Ordering}
use Rattle.std.specs.declared.cmp.Ordering.TheVariants.{Equal, Greater, Less}
use Rattle.std.specs.Ordering.{is_eq}
use Rattle.cell_core.specs.Entry.{EntryKey, key_cmp}
use Rattle.cell_core.specs.inner.Entry.{key_cmp_exact}
use Rattle.catalogue.specs.Entries.{Entry}
use Rattle.catalogue.specs.Equality.{seen}
use Rattle.site_docs.specs.RowsDraft.{HoldsRows}
use Rattle.site_docs.proofs.DocumentsLemmas.{kept_more}
use Rattle.docs_core.specs.inner.JoinedRows.{left_of}
use Rattle.cell_core.proofs.Basics.{tied_order as tied}
use Rattle.docs_core.proofs.call.joined_rows.write_before.Goals as goal

-- at most, and not equal
less_left : (r : Ordering) → r ≢ Greater → is_eq r ≡ false → r ≡ Less
less_left Less most other = refl
less_left Equal most other = absurd (true≢false other)
less_left Greater most other = absurd (most refl)

-- one cell more, whose key is less
pub loop-order-preserved : goal.loop-order-preserved
loop-order-preserved c =
    let inv = c.loop-order.invariant in
    let e = seen c.in-Some.other in
    let took = c.in-Some.ensures in
    let rest = left_of c.take_up_to.new.self in (
      inv.0 ++ e ∷ [],
      inv.1 ∙ ap (λ t. inv.0 ++ t) took.0 ∙ sym (append_assoc inv.0 (e ∷ []) rest),
      kept_more (λ (x : Entry). key_cmp x.0 (c.args.id.now, c.args.lang.now) ≡ Less) inv.0 e inv.2
          (took.1 ∙ less_left c.in-Some.order took.2 (sym c.if-is_eq.ensures)),
      λ rows holds.
          subst (HoldsRows c.add_cell.new.self) (append_assoc rows inv.0 (e ∷ []))
          (c.in_ok-add_cell.ensures (rows ++ inv.0) (inv.3 rows holds)),
    )

-- the cell of the key
pub returns-then-is_eq : goal.returns-then-is_eq
returns-then-is_eq c =
    let inv = c.loop-order.invariant in
    let e = seen c.in-Some.other in
    let took = c.in-Some.ensures in
    let rest = left_of c.take_up_to.new.self in
    let key : EntryKey = (c.args.id.now, c.args.lang.now) in
    let same = key_cmp_exact e.0 key (took.1 ∙ tied c.in-Some.order (sym c.if-is_eq.ensures)) in (
      inv.0,
      inv.2,
      inv.3,
      inv.1 ∙ ap (λ t. inv.0 ++ t) took.0
          ∙ ap (λ (k : EntryKey). inv.0 ++ (k, e.1) ∷ rest) same,
    )
