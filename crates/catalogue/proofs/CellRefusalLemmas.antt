-- What the refusal of one cell means for its catalogue.
use Rattle.std.proofs.Common.{◌≡◌, ℕ, [], ◌∷◌, Option, Some, None, Result, Ok, Err, refl, sym}
use Rattle.std.proofs.Common.{subst}
use Rattle.std.specs.Result.{IfErr, IsErrAnd}
use Rattle.std.specs.FinMap.Entries.{find}
use Rattle.cell_core.specs.declared.cell.Cell.{Cell}
use Rattle.cell_core.specs.declared.stamp.Stamp.{Stamp}
use Rattle.cell_core.specs.Keyed.{IsMap}
use Rattle.cell_core.specs.inner.KeyedPlaces.{place_of}
use Rattle.catalogue.specs.declared.cell_refusal.CellRefusal.{CellRefusal}
use Rattle.catalogue.specs.declared.cell_refusal.CellRefusal.TheVariants.{Clash, NoMemory}
use Rattle.catalogue.specs.CataFault.{IsRefusal}
use Rattle.catalogue.specs.inner.CellRefusal.{IsCellRefusal, at_place}
use Rattle.catalogue.specs.Clash.{IsFirstClash}
use Rattle.cell_core.specs.Entry.{key_cmp}
use Rattle.catalogue.specs.Entries.{Entry, Entries, Agree}
use Rattle.catalogue.specs.CatalogueSettled.{IsSettledBy}
use Rattle.catalogue.proofs.CatalogueApplyLemmas.{agree_some, agree_none, first_clash_only}

-- A cell that clashes with the stored one is the first clash of its edit with the catalogue.
pub clash_refused : (es : Entries) (e : Entry) (o : Option Cell) (place : ℕ) (stamp : Stamp)
    → IsMap key_cmp es → o ≡ find key_cmp e.0 es → IsCellRefusal o e.1 (Clash stamp)
    → place ≡ place_of key_cmp e.0 es → IsFirstClash key_cmp es (e ∷ []) place stamp
clash_refused es e None place stamp m there h at = absurd h
clash_refused es e (Some mine) place stamp m there h at =
    subst (λ s. IsFirstClash key_cmp es (e ∷ []) place s) (sym h.1)
    (first_clash_only es e mine place m there h.0 at)

-- A catalogue agrees with an edit that is refused for lack of memory.
pub memory_refused : (es : Entries) (e : Entry) (o : Option Cell) → IsMap key_cmp es
    → o ≡ find key_cmp e.0 es → IsCellRefusal o e.1 NoMemory → Agree es (e ∷ [])
memory_refused es e None m there h = agree_none es e m (sym there)
memory_refused es e (Some mine) m there h = agree_some es e mine m there h

-- A refused cell means for its catalogue the refusal of its edit, with the place of its key.
pub refused_at : (es : Entries) (e : Entry) (refusal : CellRefusal) → IsMap key_cmp es
    → IsCellRefusal (find key_cmp e.0 es) e.1 refusal
    → IsRefusal es (e ∷ []) (at_place (place_of key_cmp e.0 es) refusal)
refused_at es e (Clash stamp) m h =
    clash_refused es e (find key_cmp e.0 es) (place_of key_cmp e.0 es) stamp m refl h refl
refused_at es e NoMemory m h = memory_refused es e (find key_cmp e.0 es) m refl h

-- The cell of a key that has none is refused by what the answer carries.
pub refused_new : {T : Type 0} (r : Result T CellRefusal) (e : CellRefusal) (o : Option Cell)
    (c : Cell) → IsErrAnd r (λ x. x ≡ e) → o ≡ None → IsCellRefusal None c e
    → IfErr r (IsCellRefusal o c)
refused_new (Ok x) e o c err none h = tt
refused_new (Err x) e o c err none h =
    subst (λ (y : CellRefusal × Option Cell). IsCellRefusal y.1 c y.0)
    (λ i. (sym err i, sym none i)) h

-- No edit of a key without a cell is settled.
pub unsettled : {X : Type 0} (o : Option Cell) (c : Cell) → o ≡ None → IsSettledBy o c → X
unsettled o c none h = absurd (subst (λ p. IsSettledBy p c) none h)
