-- The first entry of a map in ascending order.
use Rattle.std.proofs.Common.{◌≡◌, ◌≢◌, true, false, cond, List, ◌∷◌, Some, None, refl}
use Rattle.std.proofs.Common.{sym, ap, ◌∙◌, subst, true≢false}
use Rattle.std.specs.Prelude.{T}
use Rattle.std.specs.declared.cmp.Ordering.{Ordering}
use Rattle.std.specs.declared.cmp.Ordering.TheVariants.{Less, Equal, Greater}
use Rattle.std.specs.Ordering.{is_lt, is_eq, ordering_reverse}
use Rattle.std.specs.Cmp.{tied_itself}
use Rattle.std.specs.FinMap.Entries.{find, is_sorted, below_all}
use Rattle.cell_core.specs.Keyed.{IsMap}
use Rattle.cell_core.specs.Entry.{EntryKey, key_cmp}
use Rattle.cell_core.specs.inner.Entry.{key_cmp_total, key_cmp_exact}
use Rattle.lang_core.proofs.Basics.{less_of}
use Rattle.cell_core.proofs.KeyedPlacesLemmas.{find-below, below-trans}
use Rattle.cell_core.proofs.Basics.{first_part, both_parts}

turned : (r : Ordering) → is_eq r ≡ is_eq (ordering_reverse r)
turned Less = refl
turned Equal = refl
turned Greater = refl

-- A key that equals the first is found, with what the first has.
pub first_found : {V : Type 0} (key k : EntryKey) (v : V) (es : List (EntryKey × V))
    → is_eq (key_cmp k key) ≡ true → Some v ≡ find key_cmp key ((k, v) ∷ es)
first_found key k v es same =
    ap (λ b. cond b (Some v) (find key_cmp key es))
    (sym (ap is_eq (key_cmp_total.antisymm key k) ∙ sym (turned (key_cmp k key)) ∙ same))

neither : (r : Ordering) → r ≢ Less → is_eq r ≡ false → ordering_reverse r ≡ Less
neither Less never e = absurd (never refl)
neither Equal never e = absurd (true≢false e)
neither Greater never e = refl

-- A key that is less than the first is not found.
pub first_absent : {V : Type 0} (key k : EntryKey) (v : V) (es : List (EntryKey × V))
    → IsMap key_cmp ((k, v) ∷ es) → key_cmp k key ≢ Less → is_eq (key_cmp k key) ≡ false
    → None ≡ find key_cmp key ((k, v) ∷ es)
first_absent key k v es m from apart =
    let less : key_cmp key k ≡ Less =
    key_cmp_total.antisymm key k ∙ neither (key_cmp k key) from apart in
    sym (find-below key_cmp key ((k, v) ∷ es)
    (both_parts (is_lt (key_cmp key k)) (below_all key_cmp key es)
    (subst (λ r. T (is_lt r)) (sym less) tt)
    (below-trans key_cmp key_cmp_total key k es less
    (first_part (below_all key_cmp k es) (is_sorted key_cmp es) m))))

-- Dropping a first entry with a smaller key changes nothing from the key on.
pub passed : {V : Type 0} (key k : EntryKey) (v : V) (es : List (EntryKey × V))
    → is_lt (key_cmp k key) ≡ true → (q : EntryKey) → key_cmp key q ≢ Greater
    → find key_cmp q es ≡ find key_cmp q ((k, v) ∷ es)
passed key k v es lt q from =
    ap (λ b. cond b (Some v) (find key_cmp q es)) (sym (apart (key_cmp key q) refl))
  where
    less : key_cmp k key ≡ Less
    less = less_of (key_cmp k key) lt

    back : (r : Ordering) → key_cmp k q ≡ Less → is_eq (key_cmp q k) ≡ false
    back r e = ap is_eq (key_cmp_total.antisymm q k ∙ ap ordering_reverse e)

    apart : (r : Ordering) → key_cmp key q ≡ r → is_eq (key_cmp q k) ≡ false
    apart Less e = back Less (key_cmp_total.trans k key q less e)
    apart Equal e = ap is_eq (key_cmp_total.antisymm q k ∙ ap ordering_reverse (tied_less e))
      where
        tied_less : key_cmp key q ≡ Equal → key_cmp k q ≡ Less
        tied_less e =
            key_cmp_total.antisymm k q
            ∙ ap ordering_reverse
            (sym (key_cmp_total.congr key q k e) ∙ key_cmp_total.antisymm key k
            ∙ ap ordering_reverse less)
    apart Greater e = absurd (from e)

-- A key is not greater than itself.
pub not_greater_self : (k : EntryKey) → key_cmp k k ≢ Greater
not_greater_self k e = let no : Equal ≡ Greater = sym (tied_itself key_cmp_total k) ∙ e in
    absurd (cc)

-- A comparison that is `Less` is not `Greater`.
pub not_greater : {r : Ordering} → r ≡ Less → r ≢ Greater
not_greater less greater = let no : Less ≡ Greater = sym less ∙ greater in absurd (cc)

-- A key below one that is not greater than a third is below the third.
pub less_from : (k e q : EntryKey) → key_cmp k e ≡ Less → key_cmp e q ≢ Greater → key_cmp k q ≡ Less
less_from k e q less from = by_case (key_cmp e q) refl
  where
    by_case : (r : Ordering) → key_cmp e q ≡ r → key_cmp k q ≡ Less
    by_case Less lt = key_cmp_total.trans k e q less lt
    by_case Equal tied = subst (λ x. key_cmp k x ≡ Less) (key_cmp_exact e q tied) less
    by_case Greater gt = absurd (from gt)

-- Dropping a first entry with the key itself changes nothing after the key.
pub passed_found : {V : Type 0} (key k : EntryKey) (v : V) (es : List (EntryKey × V))
    → key_cmp k key ≡ Equal → (q : EntryKey) → key_cmp key q ≡ Less
    → find key_cmp q es ≡ find key_cmp q ((k, v) ∷ es)
passed_found key k v es tied q less =
    let from : key_cmp k q ≡ Less =
    subst (λ x. key_cmp x q ≡ Less) (sym (key_cmp_exact k key tied)) less in
    let apart : is_eq (key_cmp q k) ≡ false =
    ap is_eq (key_cmp_total.antisymm q k ∙ ap ordering_reverse from) in
    ap (λ b. cond b (Some v) (find key_cmp q es)) (sym apart)
