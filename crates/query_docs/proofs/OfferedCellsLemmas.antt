-- Cells of which those that are offered are passed on.
--
-- A cell more is offered or not, whatever came before it. The cells that are offered come in the
-- order of all, so a cell that is above all cells before is above those of them that are offered.
use Rattle.std.proofs.Common.{◌≡◌, ◌∙◌, ◌++◌, [], ◌∷◌, List, ap, append-nil, cond, false, true}
use Rattle.std.specs.Prelude.{Bool}
use Rattle.std.specs.declared.cmp.Ordering.TheVariants.{Less}
use Rattle.std.proofs.lemmas.List.Elements.{filter-append}
use Rattle.list_core.specs.Item.{Item}
use Rattle.list_core.proofs.Basics.{all_passed}
use Rattle.nego_core.specs.Offer.{is_offered}
use Rattle.cell_core.specs.Entry.{EntryKey, key_cmp}
use Rattle.catalogue.specs.Entries.{Entries, Entry, IsAboveAll}
use Rattle.catalogue.specs.EntriesOffered.{offered_cells}

-- A cell that is above all is above those that are offered.
pub above_offered : (offer : List Item) (key : EntryKey) (cells : Entries) → IsAboveAll key cells
    → IsAboveAll key (offered_cells offer cells)
above_offered offer key cells above =
    all_passed (λ (e : Entry). key_cmp e.0 key ≡ Less) (λ (e : Entry). key_cmp e.0 key ≡ Less)
    (λ (e : Entry). is_offered offer e.0.1) cells (λ e less shown. less) above

-- One cell more, which is offered, comes behind those that are.
pub offered_more : (offer : List Item) (cells : Entries) (e : Entry)
    → is_offered offer e.0.1 ≡ true
    → offered_cells offer (cells ++ e ∷ []) ≡ offered_cells offer cells ++ e ∷ []
offered_more offer cells e shown =
    filter-append (λ (x : Entry). is_offered offer x.0.1) cells (e ∷ [])
    ∙ ap (λ (b : Bool). offered_cells offer cells ++ cond b (e ∷ []) []) shown

-- One cell more, which is not offered, changes nothing.
pub offered_same : (offer : List Item) (cells : Entries) (e : Entry)
    → is_offered offer e.0.1 ≡ false
    → offered_cells offer (cells ++ e ∷ []) ≡ offered_cells offer cells
offered_same offer cells e hidden =
    filter-append (λ (x : Entry). is_offered offer x.0.1) cells (e ∷ [])
    ∙ (ap (λ (b : Bool). offered_cells offer cells ++ cond b (e ∷ []) []) hidden
    ∙ append-nil (offered_cells offer cells))
