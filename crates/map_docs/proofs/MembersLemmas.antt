-- Rows that are read off tokens, or off a value.
use Rattle.std.proofs.Common.{◌≡◌, ◌∙◌, ◌++◌, ◌&&◌, ◌<◌, ◌+◌, ℕ, zero, suc, false, List}
use Rattle.std.proofs.Common.{[], ◌∷◌, map, take, length, get_or, None, Some, String, Global}
use Rattle.std.proofs.Common.{string_bytes, string_cmp, refl, sym, ap, add-one, arith}
use Rattle.std.specs.Prelude.{if◌then◌else◌}
use Rattle.std.proofs.lemmas.List.{map-append}
use Rattle.std.proofs.lemmas.List.Elements.{filter_map-append}
use Rattle.std.proofs.lemmas.List.Folds.{list_all-append}
use Rattle.std.proofs.Math.Seq.{take-suc}
use Rattle.std.specs.BTreeMap.{insert_entry}
use Rattle.std.specs.FinMap.Entries.{by_order, put}
use Rattle.std.specs.List.{filter_map, list_all}
use Rattle.std.specs.Ordering.{match_ordering}
use Rattle.std.specs.declared.cmp.Ordering.TheVariants.{Less, Equal, Greater}
use Rattle.lang_core.proofs.Basics.{and_false, and_true}
use Rattle.cell_core.specs.Entry.{text_cmp}
use Rattle.json.specs.declared.value.Value.{Value}
use Rattle.serde_json.specs.Data as plain
use Rattle.serde_json.specs.Data.{Data, Members, no_members, member}
use Rattle.serde_json.specs.Find.{as_str}
use Rattle.json_docs.specs.ScanningReads.{seen}
use Rattle.map_docs.specs.MembersRows.{is_string_or_null, members_by, strings_of}
use Rattle.map_docs.specs.inner.MembersRowsSeen.{members_seen}

-- ---- a member more, as it is read and as it is kept

abbrev seen_as : {X Y : Type 0} → (X → Y) → String Global × X → List ℕ × Y
seen_as f e = (string_bytes e.0, f e.1)

seen_insert : {X Y : Type 0} (f : X → Y) (es : List (String Global × X)) (k : String Global) (v : X)
    → map (seen_as f) (insert_entry string_cmp es k v)
    ≡ put text_cmp (string_bytes k) (f v) (map (seen_as f) es)
seen_insert f [] k v = refl
seen_insert f (e ∷ es) k v =
    elim (string_cmp k e.0) as (λ o.
    map (seen_as f)
    (match_ordering o ((k, v) ∷ e ∷ es) ((e.0, v) ∷ es)
    (e ∷ insert_entry string_cmp es k v))
    ≡ by_order o (seen_as f (k, v) ∷ map (seen_as f) (e ∷ es))
    (seen_as f (e.0, v) ∷ map (seen_as f) es)
    (seen_as f e ∷ put text_cmp (string_bytes k) (f v) (map (seen_as f) es))) [
      | Less ↦ refl
      | Equal ↦ refl
      | Greater ↦ ap (λ t. seen_as f e ∷ t) (seen_insert f es k v)
    ]

-- a member that is put goes where its name does
pub members_by-put : {X : Type 0} (of : Data → X) (k : List ℕ) (d : Data) (ms : Members)
    → members_by of (plain.put k d ms) ≡ put text_cmp k (of d) (members_by of ms)
members_by-put of k d no_members = refl
members_by-put of k d (member l e ms) =
    elim (text_cmp k l) as (λ o. members_by of
    (match_ordering o (member k d (member l e ms)) (member l d ms)
    (member l e (plain.put k d ms)))
    ≡ by_order o ((k, of d) ∷ (l, of e) ∷ members_by of ms) ((l, of d) ∷ members_by of ms)
    ((l, of e) ∷ put text_cmp k (of d) (members_by of ms))) [
      | Less ↦ refl
      | Equal ↦ refl
      | Greater ↦ ap (λ t. (l, of e) ∷ t) (members_by-put of k d ms)
    ]

-- a member that is inserted is that of the value, and of two of one name the last counts
pub member_inserted : {X Y : Type 0} (seen_of : X → Y) (in_data : Data → Y)
    (es : List (String Global × X)) (name : String Global) (x : X) (k : List ℕ) (d : Data)
    (ms : Members)
    → members_seen seen_of es ≡ members_by in_data ms → string_bytes name ≡ k
    → seen_of x ≡ in_data d
    → members_seen seen_of (insert_entry string_cmp es name x)
    ≡ members_by in_data (plain.put k d ms)
member_inserted seen_of in_data es name x k d ms same named is =
    seen_insert seen_of es name x
    ∙ ap (λ n. put text_cmp n (seen_of x) (members_seen seen_of es)) named
    ∙ ap (λ y. put text_cmp k y (members_seen seen_of es)) is
    ∙ ap (put text_cmp k (in_data d)) same
    ∙ sym (members_by-put in_data k d ms)

-- ---- an item more

one_taken : (vs : List (Value Global)) (k : ℕ) (v : Value Global) → k < length vs
    → v ≡ get_or vs k v → take (k + 1) vs ≡ take k vs ++ v ∷ []
one_taken vs k v h is =
    rw (add-one, take-suc vs k v h) (ap (λ (x : Value Global). take k vs ++ x ∷ []) (sym is))

-- one item more gives its string, where it is one
pub item_strings-push : (vs : List (Value Global)) (k : ℕ) (v : Value Global) → k < length vs
    → v ≡ get_or vs k v
    → filter_map as_str (map seen (take (k + 1) vs))
    ≡ filter_map as_str (map seen (take k vs)) ++ filter_map as_str (seen v ∷ [])
item_strings-push vs k v h is =
    ap (λ l. filter_map as_str (map seen l)) (one_taken vs k v h is)
    ∙ ap (filter_map as_str) (map-append seen (take k vs) (v ∷ []))
    ∙ filter_map-append as_str (map seen (take k vs)) (seen v ∷ [])

-- one item more is to be a string or null
pub items_fit-push : (vs : List (Value Global)) (k : ℕ) (v : Value Global) → k < length vs
    → v ≡ get_or vs k v
    → list_all is_string_or_null (map seen (take (k + 1) vs))
    ≡ (list_all is_string_or_null (map seen (take k vs)) && is_string_or_null (seen v))
items_fit-push vs k v h is =
    ap (λ l. list_all is_string_or_null (map seen l)) (one_taken vs k v h is)
    ∙ ap (list_all is_string_or_null) (map-append seen (take k vs) (v ∷ []))
    ∙ list_all-append is_string_or_null (map seen (take k vs)) (seen v ∷ [])
    ∙ ap (λ b. list_all is_string_or_null (map seen (take k vs)) && b)
    (and_true (is_string_or_null (seen v)))

misfit_at : (vs : List (Value Global)) (k : ℕ) (v : Value Global) → k < length vs
    → v ≡ get_or vs k v → is_string_or_null (seen v) ≡ false
    → list_all is_string_or_null (map seen vs) ≡ false
misfit_at [] k v h is wrong = absurd (omega arith)
misfit_at (w ∷ vs) zero v h is wrong =
    ap (λ b. b && list_all is_string_or_null (map seen vs))
    (ap (λ x. is_string_or_null (seen x)) (sym is) ∙ wrong)
misfit_at (w ∷ vs) (suc k) v h is wrong =
    ap (λ b. is_string_or_null (seen w) && b) (misfit_at vs k v (omega arith) is wrong)
    ∙ and_false (is_string_or_null (seen w))

-- an item that is neither string nor null
pub misfit : (vs : List (Value Global)) (k : ℕ) (v : Value Global) → k < length vs
    → v ≡ get_or vs k v → is_string_or_null (seen v) ≡ false → None ≡ strings_of (map seen vs)
misfit vs k v h is wrong =
    sym (ap (λ b. if b then Some (filter_map as_str (map seen vs)) else None)
    (misfit_at vs k v h is wrong))
