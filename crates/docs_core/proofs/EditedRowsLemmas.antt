-- The rows of a site on both sides of one key.
use Rattle.std.proofs.Common.{◌≡◌, ◌∙◌, ◌++◌, [], ◌∷◌, Bool, ap, ap₂, cond, false, refl}
use Rattle.std.proofs.Common.{subst, sym, true}
use Rattle.std.proofs.lemmas.List.Elements.{All-weaker}
use Rattle.std.specs.declared.cmp.Ordering.{Ordering}
use Rattle.std.specs.declared.cmp.Ordering.TheVariants.{Less, Equal, Greater}
use Rattle.std.specs.FinMap.Entries.{below_all, by_order, is_sorted, put}
use Rattle.std.specs.Ordering.{is_gt, is_lt, ordering_reverse}
use Rattle.cell_core.specs.Keyed.{IsMap}
use Rattle.cell_core.specs.declared.cell.Cell.{Cell}
use Rattle.cell_core.specs.Entry.{EntryKey, key_cmp}
use Rattle.cell_core.specs.inner.Entry.{key_cmp_exact}
use Rattle.catalogue.specs.Entries.{Entries, Entry, IsAboveAll}
use Rattle.cell_core.specs.inner.Entry.{key_cmp_total}
use Rattle.catalogue.proofs.CatalogueFlatLemmas.{all_first, all_rest}
use Rattle.docs_core.specs.inner.EditedRows.{after_key, before_key}
use Rattle.cell_core.proofs.Basics.{is_greater as greater, second_part}
use Rattle.docs_core.proofs.JoinedRowsLemmas.{AreAfter, after_first}
use Rattle.summary_docs.proofs.LackedRowsLemmas.{above_one}

-- entries after a key are none of those before it
none_before : (key : EntryKey) (es : Entries) → AreAfter key es → before_key key es ≡ []
none_before key [] after = refl
none_before key (e ∷ es) after =
    let greater = key_cmp_total.antisymm e.0 key ∙ ap ordering_reverse
    (all_first (λ (d : Entry). key_cmp key d.0 ≡ Less) e es after) in
    ap (λ r. cond (is_lt r) (e ∷ before_key key es) (before_key key es)) greater
    ∙ none_before key es (all_rest (λ (d : Entry). key_cmp key d.0 ≡ Less) e es after)

-- they are all of those after it
all_after : (key : EntryKey) (es : Entries) → AreAfter key es → after_key key es ≡ es
all_after key [] after = refl
all_after key (e ∷ es) after =
    let greater = key_cmp_total.antisymm e.0 key ∙ ap ordering_reverse
    (all_first (λ (d : Entry). key_cmp key d.0 ≡ Less) e es after) in
    ap (λ r. cond (is_gt r) (e ∷ after_key key es) (after_key key es)) greater
    ∙ ap (λ t. e ∷ t)
    (all_after key es (all_rest (λ (d : Entry). key_cmp key d.0 ≡ Less) e es after))

-- a cell that is put is between those of lesser and those of greater keys
pub put_between : (key : EntryKey) (c : Cell) (cells : Entries) → IsMap key_cmp cells
    → put key_cmp key c cells ≡ before_key key cells ++ (key, c) ∷ after_key key cells
put_between key c [] map = refl
put_between key c (e ∷ es) map =
    by
    (put_between key c es (second_part (below_all key_cmp e.0 es) (is_sorted key_cmp es) map))
    (key_cmp e.0 key) refl
  where
    parts : Ordering → Entries
    parts r = cond (is_lt r) (e ∷ before_key key es) (before_key key es)
        ++ (key, c) ∷ cond (is_gt r) (e ∷ after_key key es) (after_key key es)

    whole : Ordering → Entries
    whole r =
        by_order (ordering_reverse r) ((key, c) ∷ e ∷ es) ((e.0, c) ∷ es)
        (e ∷ put key_cmp key c es)

    turned : put key_cmp key c (e ∷ es) ≡ whole (key_cmp e.0 key)
    turned =
        ap (λ r. by_order r ((key, c) ∷ e ∷ es) ((e.0, c) ∷ es) (e ∷ put key_cmp key c es))
        (key_cmp_total.antisymm key e.0)

    after_all : AreAfter e.0 es
    after_all = after_first e es map

    greater_all : key_cmp key e.0 ≡ Less → AreAfter key es
    greater_all less =
        All-weaker (λ (d : Entry). key_cmp e.0 d.0 ≡ Less) (λ (d : Entry). key_cmp key d.0 ≡ Less)
        (λ d after. key_cmp_total.trans key e.0 d.0 less after) es after_all

    by : put key_cmp key c es ≡ before_key key es ++ (key, c) ∷ after_key key es
        → (r : Ordering) → key_cmp e.0 key ≡ r
        → put key_cmp key c (e ∷ es) ≡ parts (key_cmp e.0 key)
    by rest Less is =
        turned ∙ ap whole is
        ∙ ap (λ t. e ∷ t) rest
        ∙ sym (ap parts is)
    by rest Equal is =
        let same : e.0 ≡ key = key_cmp_exact e.0 key is in
        let after = subst (λ k. AreAfter k es) same after_all in
        turned ∙ ap whole is
        ∙ ap (λ k. (k, c) ∷ es) same
        ∙ sym (ap parts is
        ∙ ap₂ (λ xs ys. xs ++ (key, c) ∷ ys) (none_before key es after) (all_after key es after))
    by rest Greater is =
        let less = key_cmp_total.antisymm key e.0 ∙ ap ordering_reverse is in
        let after = greater_all less in
        turned ∙ ap whole is
        ∙ sym (ap parts is
        ∙ ap₂ (λ xs ys. xs ++ (key, c) ∷ e ∷ ys) (none_before key es after)
        (all_after key es after))

-- ---- a key that is passed

-- where the key is passed the one that comes next is known to be greater
pub order_known : (key q : EntryKey) (passed : Bool) → (passed ≡ true → key_cmp key q ≡ Less)
    → cond passed Greater (key_cmp q key) ≡ key_cmp q key
order_known key q true less =
    sym (key_cmp_total.antisymm q key ∙ ap ordering_reverse (less refl))
order_known key q false less = refl

-- a key that comes after a cell with a greater key is greater
pub passed_more : (key : EntryKey) (cells : Entries) (e : Entry) (q : EntryKey)
    → IsAboveAll q (cells ++ e ∷ []) → is_gt (key_cmp e.0 key) ≡ true → key_cmp key q ≡ Less
passed_more key cells e q above past =
    key_cmp_total.trans key e.0 q
    (key_cmp_total.antisymm key e.0 ∙ ap ordering_reverse (greater (key_cmp e.0 key) past))
    (above_one cells e q above)
