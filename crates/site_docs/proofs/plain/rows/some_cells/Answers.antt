use Rattle.std.proofs.Common.{◌≡◌, ◌∙◌, ◌++◌, [], ◌∷◌, ap, refl, rules, subst, sym}
use Rattle.std.proofs.lemmas.List.Elements.{All-nil}
use Rattle.std.specs.Prelude.{Some}
use Rattle.std.specs.declared.cmp.Ordering.TheVariants.{Less}
use Rattle.serde_json.specs.Written.{comma_if, compact_text}
use Rattle.cell_core.specs.Entry.{EntryKey, key_cmp}
use Rattle.catalogue.specs.Entries.{Entry}
use Rattle.row_docs.specs.Entries.{cells_values, entry_value}
use Rattle.site_docs.specs.inner.PlainRows.{IsLastOf}
use Rattle.site_docs.proofs.PlainLemmas.{array_taken, cell_taken, cells_kept, is_later-push}
use Rattle.site_docs.proofs.PlainLemmas.{last_taken, none_kept}
use Rattle.site_docs.proofs.plain.rows.some_cells.Goals as goal

-- the first cell
pub loop-row-init : goal.loop-row-init
loop-row-init g c =
    let made = c.in_ok-last.ensures in
    let e = made.0 in
    let above = All-nil (λ (x : Entry). key_cmp x.0 e.0 ≡ Less) in (
      search rules,
      (
        e ∷ [],
        cells_kept [] (e ∷ []) e none_kept made.2 above refl,
        subst (λ (key : EntryKey). IsLastOf (Some key) (e ∷ [])) made.1 (last_taken [] e above),
        refl,
        made.5,
        cell_taken [] (e ∷ []) e c.args.text.now c.in_ok-rest.rest.now c.in_ok-last.rest.now
            c.in_ok-rest.ensures made.4 refl,
        made.3,
      ),
    )

-- one cell more
pub loop-row-preserved : goal.loop-row-preserved
loop-row-preserved g c =
    let inv = c.loop-row.invariant.1 in
    let cells = inv.0 in
    let next = c.in-Some-next_cell.ensures in
    let e = next.0 in
    let left = c.in-Some-next_cell.left.now in
    let new = cells ++ e ∷ [] in
    let above = inv.2 e.0 next.4 in (
      search rules,
      (
        new,
        cells_kept cells new e inv.1 next.2 above refl,
        subst (λ (key : EntryKey). IsLastOf (Some key) new) next.1 (last_taken cells e above),
        is_later-push cells e,
        λ first begun. next.6 first cells (inv.4 first begun) above,
        cell_taken cells new e c.args.text.now c.loop-row.rest.now left inv.5
            (c.in-Some.ensures ∙ ap (λ r. 44 ∷ r) next.5
            ∙ ap (λ b. comma_if b ++ (compact_text (entry_value e) ++ left)) (sym inv.3)) refl,
        next.3,
      ),
    )

-- the cells before this one were shown
pub next_cell-requires : goal.next_cell-requires
next_cell-requires g c = λ κs.
    let inv = c.loop-row.invariant.1 in (
      (refl, tt),
      (inv.6, (c.requires.0, inv.0, inv.4 c.requires.0 c.requires.1, inv.2)),
    )

-- all cells, and the bracket
pub returns : goal.returns
returns g c =
    let inv = c.loop-row.invariant.1 in (
      inv.0,
      array_taken (cells_values inv.0) c.args.text.now c.loop-row.rest.now
          c.in_ok-rest-2.rest.now inv.5 c.in_ok-rest-2.ensures,
      inv.1,
      inv.4,
    )
