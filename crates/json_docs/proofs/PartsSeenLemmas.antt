-- The data of an array are the data of its items.
use Rattle.std.proofs.Common.{◌≡◌, ◌∙◌, ℕ, zero, suc, ◌<◌, List, [], ◌∷◌, true, ◌&&◌, Global, Vec}
use Rattle.std.proofs.Common.{length, get_or, map, refl, ap, sym, arith}
use Rattle.std.specs.Prelude.{Option, None, Some, is_some, option_map, option_and_then, unwrap_or}
use Rattle.std.specs.List.{list_all}
use Rattle.json.specs.Value.{items_view, value_view}
use Rattle.json.specs.declared.value.Value.{Value, Array}
use Rattle.json.proofs.Trees.{view-Array}
use Rattle.serde_json.specs.Data.{Data, Items, array, item, null}
use Rattle.serde_json.specs.Find.{as_str}
use Rattle.serde_json.specs.Read.{of_items, of_json}
use Rattle.json_docs.specs.ScanningReads.{AreRead, IsRead, data_of, seen}
use Rattle.json_docs.specs.Parts.{items_in, list_of, texts_in}
use Rattle.json_docs.proofs.ScanningReadableLemmas.{IsRead-item, there}

one_more : (o : Option Items) (d : Data) (xs : List Data) → option_map list_of o ≡ Some xs
    → option_map list_of (option_map (item d) o) ≡ Some (d ∷ xs)
one_more None d xs h = cc
one_more (Some ds) d xs h = let same : list_of ds ≡ xs = cc in ap (λ t. Some (d ∷ t)) same

first_read : (o : Option Data) (d : Data) (r : Option Items) → o ≡ Some d
    → option_and_then (λ e. option_map (item e) r) o ≡ option_map (item d) r
first_read o d r is = ap (option_and_then (λ e. option_map (item e) r)) is

items_seen : (vs : List (Value Global)) → is_some (of_items (items_view vs)) ≡ true
    → option_map list_of (of_items (items_view vs)) ≡ Some (map seen vs)
items_seen [] h = refl
items_seen (v ∷ vs) h =
    let parts = IsRead-item (value_view v) (items_view vs) h in
    ap (option_map list_of)
    (first_read (of_json (value_view v)) (seen v) (of_items (items_view vs))
    (there (of_json (value_view v)) null parts.0))
    ∙ one_more (of_items (items_view vs)) (seen v) (map seen vs) (items_seen vs parts.1)

items_read : (vs : List (Value Global)) → is_some (of_items (items_view vs)) ≡ true → AreRead vs
items_read [] h = tt
items_read (v ∷ vs) h = let parts = IsRead-item (value_view v) (items_view vs) h in
    (parts.0, items_read vs parts.1)

array_items : (o : Option Items) (xs : List Data) → option_map list_of o ≡ Some xs
    → items_in (unwrap_or (option_map array o) null) ≡ Some xs
array_items None xs h = cc
array_items (Some ds) xs h = h

some_array : (o : Option Items) → is_some (option_map array o) ≡ true → is_some o ≡ true
some_array None h = h
some_array (Some ds) h = h

-- the items of an array are read where it is
read_array : (value : Value Global) (items : Vec (Value Global) Global) → value ≡ Array items
    → IsRead (value_view value) → is_some (of_items (items_view items.items)) ≡ true
read_array value items is h =
    some_array (of_items (items_view items.items))
    (ap (λ j. is_some (of_json j)) (sym (ap value_view is ∙ view-Array items)) ∙ h)

-- the items of an array are what is seen of its values
pub items_in-Array : (value : Value Global) (items : Vec (Value Global) Global)
    (slice : List (Value Global)) → value ≡ Array items → slice ≡ items.items
    → IsRead (value_view value) → Some (map seen slice) ≡ items_in (seen value)
items_in-Array value items slice is same h =
    ap (λ s. Some (map seen s)) same
    ∙ sym (ap (λ j. items_in (data_of j)) (ap value_view is ∙ view-Array items)
    ∙ array_items (of_items (items_view items.items)) _
    (items_seen items.items (read_array value items is h)))

-- the values of an array that is read are read
pub AreRead-Array : (value : Value Global) (items : Vec (Value Global) Global)
    (slice : List (Value Global)) → value ≡ Array items → slice ≡ items.items
    → IsRead (value_view value) → AreRead slice
AreRead-Array value items slice is same h =
    rw same (items_read items.items (read_array value items is h))

-- each item is read
pub IsRead-at : (vs : List (Value Global)) (k : ℕ) (v : Value Global) → AreRead vs → k < length vs
    → v ≡ get_or vs k v → IsRead (value_view v)
IsRead-at [] k v all h is = absurd (omega arith)
IsRead-at (w ∷ vs) zero v all h is = rw is all.0
IsRead-at (w ∷ vs) (suc k) v all h is = IsRead-at vs k v all.1 (omega arith) is

-- texts and nothing else
both_some : (o : Option (List ℕ)) (r : Option (List (List ℕ)))
    → is_some (option_and_then (λ text. option_map (λ texts. text ∷ texts) r) o)
    ≡ (is_some o && is_some r)
both_some None r = refl
both_some (Some text) None = refl
both_some (Some text) (Some texts) = refl

-- values give texts where each is a text
pub is_some-texts_in : (vs : List (Value Global))
    → list_all (λ (v : Value Global). is_some (as_str (seen v))) vs
    ≡ is_some (texts_in (map seen vs))
is_some-texts_in [] = refl
is_some-texts_in (v ∷ vs) =
    ap (λ b. is_some (as_str (seen v)) && b) (is_some-texts_in vs)
    ∙ sym (both_some (as_str (seen v)) (texts_in (map seen vs)))
