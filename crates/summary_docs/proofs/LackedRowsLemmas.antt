-- The rows of a site that a summary lacks.
use Rattle.std.proofs.Common.{◌≡◌, ◌∙◌, ◌+◌, ◌++◌, ◌≤◌, [], ◌∷◌, ℕ, List, Some, add-one, ap}
use Rattle.std.proofs.Common.{append-nil, arith, cond, drop, false, length, refl, suc, true, zero}
use Rattle.std.proofs.lemmas.List.Elements.{All-cons, All-nil, filter-append}
use Rattle.std.specs.Prelude.{slice_get}
use Rattle.std.specs.declared.cmp.Ordering.TheVariants.{Less}
use Rattle.std.specs.FinMap.Entries.{below_all, find, is_sorted}
use Rattle.cell_core.specs.Keyed.{IsMap}
use Rattle.cell_core.specs.Entry.{EntryKey, key_cmp}
use Rattle.catalogue.specs.Entries.{Entries, Entry, IsAboveAll}
use Rattle.catalogue.proofs.CatalogueFlatLemmas.{all_first, all_rest}
use Rattle.cell_core.proofs.Basics.{second_part}
use Rattle.summary_docs.specs.Shown.{KnownCell, is_lacked, lacked_of}

-- ---- what is left of a list

-- from a place on there is what is at it, and what comes after
pub drop_at : {X : Type 0} (xs : List X) (k : ℕ) (x : X) → slice_get xs k ≡ Some x
    → drop k xs ≡ x ∷ drop (k + 1) xs
drop_at [] k x is = absurd (cc)
drop_at (y ∷ ys) zero x is = cc
drop_at (y ∷ ys) (suc k) x is = rw (add-one) (drop_at' ys k x is)
  where
    drop_at' : {X : Type 0} (xs : List X) (k : ℕ) (x : X) → slice_get xs k ≡ Some x
        → drop k xs ≡ x ∷ drop (suc k) xs
    drop_at' [] k x is = absurd (cc)
    drop_at' (y ∷ ys) zero x is = cc
    drop_at' (y ∷ ys) (suc k) x is = drop_at' ys k x is

-- from its end on there is nothing
pub drop_past : {X : Type 0} (xs : List X) (k : ℕ) → length xs ≤ k → drop k xs ≡ []
drop_past [] zero within = refl
drop_past [] (suc k) within = refl
drop_past (x ∷ xs) zero within = absurd (omega (arith, within))
drop_past (x ∷ xs) (suc k) within = drop_past xs k (omega (arith, within))

-- what is left of a map is one
pub drop_sorted : {V : Type 0} (k : ℕ) (es : List (EntryKey × V)) → IsMap key_cmp es
    → IsMap key_cmp (drop k es)
drop_sorted zero es map = map
drop_sorted (suc k) [] map = map
drop_sorted (suc k) (e ∷ es) map =
    drop_sorted k es (second_part (below_all key_cmp e.0 es) (is_sorted key_cmp es) map)

-- ---- one cell more

-- a key above one cell more is above those before it
pub above_before : {V : Type 0} (cells : List (EntryKey × V)) (e : EntryKey × V) (q : EntryKey)
    → IsAboveAll q (cells ++ e ∷ []) → IsAboveAll q cells
above_before [] e q above = All-nil (λ x. key_cmp x.0 q ≡ Less)
above_before (d ∷ ds) e q above =
    All-cons (λ x. key_cmp x.0 q ≡ Less) d ds
    (all_first (λ x. key_cmp x.0 q ≡ Less) d (ds ++ e ∷ []) above)
    (above_before ds e q (all_rest (λ x. key_cmp x.0 q ≡ Less) d (ds ++ e ∷ []) above))

-- and above that one
pub above_one : {V : Type 0} (cells : List (EntryKey × V)) (e : EntryKey × V) (q : EntryKey)
    → IsAboveAll q (cells ++ e ∷ []) → key_cmp e.0 q ≡ Less
above_one [] e q above = all_first (λ x. key_cmp x.0 q ≡ Less) e [] above
above_one (d ∷ ds) e q above =
    above_one ds e q (all_rest (λ x. key_cmp x.0 q ≡ Less) d (ds ++ e ∷ []) above)

-- a cell more, which is lacked
pub lacked_more : (cells : Entries) (e : Entry) (known : List (EntryKey × KnownCell))
    → is_lacked (find key_cmp e.0 known) e.1 ≡ true
    → lacked_of (cells ++ e ∷ []) known ≡ lacked_of cells known ++ e ∷ []
lacked_more cells e known lacked =
    filter-append (λ (x : Entry). is_lacked (find key_cmp x.0 known) x.1) cells (e ∷ [])
    ∙ ap (λ b. lacked_of cells known ++ cond b (e ∷ []) []) lacked

-- a cell more, which is known
pub known_more : (cells : Entries) (e : Entry) (known : List (EntryKey × KnownCell))
    → is_lacked (find key_cmp e.0 known) e.1 ≡ false
    → lacked_of (cells ++ e ∷ []) known ≡ lacked_of cells known
known_more cells e known held =
    filter-append (λ (x : Entry). is_lacked (find key_cmp x.0 known) x.1) cells (e ∷ [])
    ∙ ap (λ b. lacked_of cells known ++ cond b (e ∷ []) []) held
    ∙ append-nil (lacked_of cells known)
