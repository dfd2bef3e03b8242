-- A clash is where maps do not agree.
use Rattle.std.proofs.Common.{◌≡◌, ℕ, zero, suc, ◌<◌, arith, false, cond, [], ◌∷◌, Some, sym, ap}
use Rattle.std.proofs.Common.{◌∙◌, subst}
use Rattle.std.specs.Prelude.{slice_get, T}
use Rattle.std.specs.declared.cmp.Ordering.TheVariants.{Less}
use Rattle.std.specs.Ordering.{is_eq, is_lt, eq_by_cmp, ordering_reverse}
use Rattle.std.specs.FinMap.Entries.{find, is_sorted, below_all}
use Rattle.cell_core.specs.declared.stamp.Stamp.{Stamp}
use Rattle.cell_core.specs.Cell.{AgreeCells}
use Rattle.cell_core.specs.inner.Cell.{cell_laws}
use Rattle.cell_core.specs.Keyed.{IsMap, AgreeIfBoth}
use Rattle.cell_core.specs.inner.KeyedLaws.{at_of}
use Rattle.cell_core.specs.declared.cell.Cell.{Cell}
use Rattle.cell_core.specs.Entry.{EntryKey, key_cmp}
use Rattle.cell_core.specs.inner.Entry.{key_cmp_total, key_cmp_exact}
use Rattle.catalogue.specs.Entries.{Entries, Agree}
use Rattle.catalogue.specs.Clash.{IsFirstClash}
use Rattle.cell_core.proofs.Basics.{first_part, second_part, less_than}
use Rattle.catalogue.proofs.Basics.{some_same}
use Rattle.catalogue.proofs.CatalogueBestLemmas.{own_key}

-- a key below all is none of theirs
apart_below : (x : EntryKey) (es : Entries) (place : ℕ) (k : EntryKey) (c : Cell)
    → T (below_all key_cmp x es) → slice_get es place ≡ Some (k, c) → eq_by_cmp key_cmp k x ≡ false
apart_below x [] place k c h e = absurd (cc)
apart_below x (e ∷ es) zero k c h is =
    let less : key_cmp x e.0 ≡ Less =
    less_than (key_cmp x e.0) (first_part (is_lt (key_cmp x e.0)) (below_all key_cmp x es) h) in
    let key : e.0 ≡ k = ap (λ (p : EntryKey × Cell). p.0) (some_same e (k, c) is) in
    ap is_eq
    (ap (λ q. key_cmp q x) (sym key) ∙ key_cmp_total.antisymm e.0 x ∙ ap ordering_reverse less)
apart_below x (e ∷ es) (suc place) k c h is =
    apart_below x es place k c (second_part (is_lt (key_cmp x e.0)) (below_all key_cmp x es) h) is

-- The cell at a place of a map is found by its key.
pub found_at : (own : Entries) (place : ℕ) (k : EntryKey) (c : Cell) → IsMap key_cmp own
    → slice_get own place ≡ Some (k, c) → find key_cmp k own ≡ Some c
found_at [] place k c map here = absurd (cc)
found_at (e ∷ es) zero k c map here =
    let same : e ≡ (k, c) = some_same e (k, c) here in
    (λ i. let x = same i in cond (eq_by_cmp key_cmp k x.0) (Some x.1) (find key_cmp k es))
    ∙ ap (λ t. cond t (Some c) (find key_cmp k es)) (own_key k)
found_at (e ∷ es) (suc place) k c map here =
    ap (λ t. cond t (Some e.1) (find key_cmp k es))
    (apart_below e.0 es place k c
    (first_part (below_all key_cmp e.0 es) (is_sorted key_cmp es) map) here)
    ∙ found_at es place k c (second_part (below_all key_cmp e.0 es) (is_sorted key_cmp es) map) here

-- where there is a clash the two do not agree
pub clash_not_agree : (own other : Entries) (place : ℕ) (stamp : Stamp) → IsMap key_cmp own
    → IsFirstClash key_cmp own other place stamp → Agree own other → ⊥
clash_not_agree own other place stamp map clash agree =
    clash.differ
    (subst (λ o. AgreeIfBoth AgreeCells o (Some clash.theirs))
    (found_at own place clash.key clash.mine map clash.held)
    (subst (AgreeIfBoth AgreeCells (find key_cmp clash.key own)) clash.other_has
    (at_of key_cmp key_cmp_total key_cmp_exact cell_laws own other agree clash.key)))

-- no place before a first clash clashes
not_before : (own other : Entries) (p q : ℕ) (s t : Stamp) → IsFirstClash key_cmp own other p s
    → IsFirstClash key_cmp own other q t → p < q → ⊥
not_before own other p q s t a b lt =
    a.differ (b.before p lt a.key a.mine a.theirs a.held a.other_has)

-- two first clashes of the same maps are one
pub clash_is_one : (own other : Entries) (p q : ℕ) (s t : Stamp)
    → IsFirstClash key_cmp own other p s → IsFirstClash key_cmp own other q t → (p ≡ q) × (s ≡ t)
clash_is_one own other p q s t a b =
    let low = not_before own other p q s t a b in
    let high = not_before own other q p t s b a in
    let place : p ≡ q = omega (arith, low, high) in
    let cell : (a.key, a.mine) ≡ (b.key, b.mine) =
    some_same (a.key, a.mine) (b.key, b.mine)
    (sym a.held ∙ ap (slice_get own) place ∙ b.held) in
    (place, sym a.stamp_there ∙ ap (λ (e : EntryKey × Cell). e.1.stamp) cell ∙ b.stamp_there)
