-- A list of labels that ascends is known by its labels.
use Rattle.std.proofs.Common.{◌≡◌, ◌∙◌, ◌<◌, ℕ, zero, suc, List, [], ◌∷◌, length, get_or, false}
use Rattle.std.proofs.Common.{refl, sym, ap, ap₂, subst, add-one, arith}
use Rattle.std.specs.Prelude.{IsSorted, IsPermutation}
use Rattle.std.proofs.lemmas.Cmp.{lists_total, nat_list_cmp_total}
use Rattle.std.proofs.lemmas.Map.Lookups.{exact_pairs}
use Rattle.std.proofs.lemmas.Option.{same_Some}
use Rattle.std.specs.Cmp.{IsTotalOrder}
use Rattle.std.specs.Cmp.Lexicographic.{slice_cmp}
use Rattle.std.specs.FinMap.Entries.{below_all, is_sorted}
use Rattle.std.specs.Ordering.{is_lt, ordering_reverse, ordering_then}
use Rattle.std.specs.declared.cmp.Ordering.{Ordering}
use Rattle.std.specs.declared.cmp.Ordering.TheVariants.{Less, Equal}
use Rattle.cell_core.specs.Keyed.{IsMap}
use Rattle.catalogue.proofs.CatalogueFlatLemmas.{pair_total}
use Rattle.cell_core.proofs.KeyedPlacesLemmas.{below-at}
use Rattle.cell_core.specs.Entry.{key_cmp, pair_cmp, text_cmp}
use Rattle.cell_core.specs.inner.Entry.{key_cmp_exact, key_cmp_total}
use Rattle.list_core.proofs.IndexUnique.{one_order, text_tied, then_tied}
use Rattle.serde_json.specs.Data.{Data}
use Rattle.map_docs.specs.MapsLabels.{AreLangMaps, ReadsAsLangMaps, rows_labels}
use Rattle.map_docs.specs.MembersRows.{Rows}
use Rattle.map_docs.specs.Maps.{Labelled}
use Rattle.cell_core.proofs.Basics.{first_part, second_part}

texts_tied : (x y : List (List ℕ)) → slice_cmp text_cmp x y ≡ Equal → x ≡ y
texts_tied [] [] e = refl
texts_tied [] (t ∷ y) e = cc
texts_tied (s ∷ x) [] e = cc
texts_tied (s ∷ x) (t ∷ y) e =
    let both = then_tied (text_cmp s t) (slice_cmp text_cmp x y) e in
    ap₂ (λ (a : List ℕ) (b : List (List ℕ)). a ∷ b) (text_tied s t both.0) (texts_tied x y both.1)

-- labels by their keys, then by their texts
abbrev label_cmp : Labelled → Labelled → Ordering
label_cmp = pair_cmp key_cmp (slice_cmp text_cmp)

label_cmp_total : IsTotalOrder label_cmp
label_cmp_total = pair_total key_cmp_total (lists_total nat_list_cmp_total)

label_cmp_exact : (x y : Labelled) → label_cmp x y ≡ Equal → x ≡ y
label_cmp_exact = exact_pairs key_cmp (slice_cmp text_cmp) key_cmp_exact texts_tied

-- each key is less than the next
ascends_at : (es : List Labelled) (k : ℕ) (d : Labelled) → IsMap key_cmp es → suc k < length es
    → key_cmp (get_or es k d).0 (get_or es (suc k) d).0 ≡ Less
ascends_at [] k d m h = absurd (omega arith)
ascends_at (e ∷ es) zero d m h =
    below-at key_cmp e.0 es 0 d (first_part (below_all key_cmp e.0 es) (is_sorted key_cmp es) m)
    (omega arith)
ascends_at (e ∷ es) (suc k) d m h =
    ascends_at es k d (second_part (below_all key_cmp e.0 es) (is_sorted key_cmp es) m)
    (omega arith)

not_before : (x y : Labelled) → key_cmp x.0 y.0 ≡ Less → is_lt (label_cmp y x) ≡ false
not_before x y less =
    ap (λ o. is_lt (ordering_then o (slice_cmp text_cmp y.1 x.1)))
    (key_cmp_total.antisymm y.0 x.0 ∙ ap ordering_reverse less)

sorted_labels : (es : List Labelled) → IsMap key_cmp es → IsSorted label_cmp es
sorted_labels es m =
    λ k d from lt.
    rw add-one (not_before (get_or es k d) (get_or es (suc k) d)
    (ascends_at es k d m (omega (arith, lt))))

same_lists : (rows : Rows) (x y : List Labelled) → IsPermutation (rows_labels rows) x
    → IsMap key_cmp x → IsPermutation (rows_labels rows) y → IsMap key_cmp y → x ≡ y
same_lists rows x y p m q n =
    one_order label_cmp label_cmp_total label_cmp_exact (rows_labels rows) x y p (sorted_labels x m)
    q (sorted_labels y n)

same_rows : (d : Data) (x y : List Labelled) → ReadsAsLangMaps d x → ReadsAsLangMaps d y → x ≡ y
same_rows d x y (rows, is, p, m) (others, also, q, n) =
    let same : others ≡ rows = same_Some others rows (sym also ∙ is) in
    same_lists rows x y p m (subst (λ (rs : Rows). IsPermutation (rows_labels rs) y) same q) n

-- a document reads as one list of labels and no other
pub same_labels : (bytes : List ℕ) (x y : List Labelled) → AreLangMaps bytes x → AreLangMaps bytes y
    → x ≡ y
same_labels bytes x y (d, json, passes, reads) (e, also, passes_also, reads_also) =
    let same : e ≡ d = same_Some e d (sym also.1 ∙ json.1) in
    same_rows d x y reads (subst (λ (v : Data). ReadsAsLangMaps v y) same reads_also)
