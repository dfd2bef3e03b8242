-- An edit with a stamp above all that is held joins its one cell.
use Rattle.std.proofs.Common.{◌≡◌, List, [], ◌∷◌, ◌++◌, Option, Some, None, refl, sym, ap, ◌∙◌}
use Rattle.std.proofs.Common.{subst}
use Rattle.std.specs.declared.cmp.Ordering.TheVariants.{Less}
use Rattle.std.specs.Ordering.{is_lt}
use Rattle.std.specs.FinMap.Entries.{find, put}
use Rattle.cell_core.specs.declared.cell.Cell.{Cell}
use Rattle.cell_core.specs.Stamp.{stamp_cmp, IsAbove}
use Rattle.cell_core.specs.Join.{IsBelow}
use Rattle.cell_core.specs.Keyed.{IsMap}
use Rattle.cell_core.specs.Entry.{EntryKey, key_cmp}
use Rattle.catalogue.specs.Entries.{Entry, Entries, Agree, joined, IsBelowCells}
use Rattle.catalogue.specs.inner.Entries.{catalogue_laws}
use Rattle.catalogue.specs.Edits.{catalogue_of, IsSettled}
use Rattle.catalogue.specs.CatalogueLatest.{latest_of}
use Rattle.catalogue.proofs.CatalogueApplyLemmas.{agree_some, agree_none, joined_new, joined_later}
use Rattle.catalogue.proofs.CatalogueLemmas.{catalogue_of-IsMap}
use Rattle.catalogue.proofs.CatalogueJoinsLemmas.{joined_catalogue}
use Rattle.catalogue.proofs.CatalogueLatestLemmas.{held_less}
use Rattle.catalogue.proofs.CatalogueSettledLemmas.{settled_if_agree, settled_one, catalogue_of-one}
use Rattle.catalogue.proofs.EditStampOrderLemmas.{not_less_self}

module _ (es : Entries) (key : EntryKey) (cell : Cell) (m : IsMap key_cmp es)
    (above : IsAbove (latest_of es) cell.stamp) where
  -- an edit with a stamp above all agrees with the catalogue
  pub own_agrees : Agree es ((key, cell) ∷ [])
  own_agrees = at (find key_cmp key es) refl
    where
      at : (o : Option Cell) → find key_cmp key es ≡ o → Agree es ((key, cell) ∷ [])
      at None e = agree_none es (key, cell) m e
      at (Some mine) e = agree_some es (key, cell) mine m (sym e)
          (λ same. absurd
          (not_less_self cell.stamp
          (subst (λ s. stamp_cmp s cell.stamp ≡ Less) same
          (held_less es key mine cell.stamp above e))))

  -- to put it at its key is to join it
  pub own_joins : put key_cmp key cell es ≡ joined es ((key, cell) ∷ [])
  own_joins = at (find key_cmp key es) refl
    where
      at : (o : Option Cell) → find key_cmp key es ≡ o
          → put key_cmp key cell es ≡ joined es ((key, cell) ∷ [])
      at None e = joined_new es (key, cell) m e
      at (Some mine) e =
          joined_later es (key, cell) mine m (sym e)
          (ap is_lt (held_less es key mine cell.stamp above e))

  -- and the catalogue with it is above the one before
  pub own_ascends : IsBelowCells es (put key_cmp key cell es)
  own_ascends =
      subst (IsBelow Agree joined es) (sym own_joins)
      (catalogue_laws.above_first es ((key, cell) ∷ []) own_agrees)

-- the catalogue of settled edits, edited, is that of one edit more
pub own_taken : (edits : List Entry) (key : EntryKey) (cell : Cell) → IsSettled edits
    → IsAbove (latest_of (catalogue_of edits)) cell.stamp
    → IsSettled (edits ++ (key, cell) ∷ [])
    × (put key_cmp key cell (catalogue_of edits) ≡ catalogue_of (edits ++ (key, cell) ∷ []))
own_taken edits key cell settled above =
    let e : Entry = (key, cell) in
    let cells = catalogue_of edits in
    let m = catalogue_of-IsMap edits in
    let one = catalogue_of-one e in
    let both : IsSettled (edits ++ e ∷ []) =
    settled_if_agree edits (e ∷ []) settled (settled_one e)
    (subst (Agree cells) (sym one) (own_agrees cells key cell m above)) in (
      both,
      own_joins cells key cell m above ∙ ap (joined cells) (sym one)
          ∙ sym (joined_catalogue edits (e ∷ []) both),
    )
