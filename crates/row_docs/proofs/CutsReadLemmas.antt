-- Values and items that are read, and what is kept of them.
use Rattle.std.proofs.Common.{◌≡◌, ◌∙◌, ◌-◌, ◌+◌, ◌++◌, ◌<◌, ◌≤◌, ℕ, zero, suc, List, [], ◌∷◌}
use Rattle.std.proofs.Common.{Bool, true, false, ◌&&◌, ◌||◌, length, map, take, nat_lt, refl, ap}
use Rattle.std.proofs.Common.{ap₂}
use Rattle.std.proofs.Common.{sym, subst, arith, take_all, Global, Vec, append_assoc, inl, inr}
use Rattle.std.proofs.Common.{append-nil, length-append, true≢false}
use Rattle.std.specs.Prelude.{Option, None, Some, is_some, if◌then◌else◌, option_map, unwrap_or}
use Rattle.std.specs.Prelude.{option_and_then}
use Rattle.std.specs.Borrow.{Bor}
use Rattle.std.proofs.lemmas.List.{length-map, map-append, take-append-le}
use Rattle.std.proofs.lemmas.List.Folds.{list_all-append}
use Rattle.json.specs.Json as json
use Rattle.json.specs.Json.{Json, parse_map, value}
use Rattle.json.specs.Reads.{token_of}
use Rattle.json.specs.Token as token
use Rattle.json.specs.Token.{Token, begin_array, begin_object}
use Rattle.json.specs.Value.{items_view, value_view}
use Rattle.json.specs.declared.token.Token.{Token as Read}
use Rattle.json.specs.declared.token.Token.TheVariants as read
use Rattle.json.specs.declared.value.Value.{Value, Array}
use Rattle.json.proofs.Grammar.{value_is, value-begin_array, value-begin_object}
use Rattle.json.proofs.Trees.{view-Array}
use Rattle.serde_json.specs.Data.{Data, Items, Members, Num, array, boolean, null, number, object}
use Rattle.serde_json.specs.Data.{item, string}
use Rattle.serde_json.specs.Find.{as_str}
use Rattle.serde_json.specs.Read.{converted, number_of, of_items, of_json}
use Rattle.serde_json.specs.View.{items_of}
use Rattle.lang_core.proofs.Basics.{cases_bool, is_false, is_lt, lt_is}
use Rattle.json_docs.specs.Numbers.{are_in_range}
use Rattle.json_docs.specs.inner.ObjectMembersRead.{ReadsMembers, ReadsNoMembers}
use Rattle.json_docs.specs.Parts.{list_of}
use Rattle.json_docs.specs.inner.ScanningArrays.{ReadsItems, ReadsNoItems}
use Rattle.json_docs.specs.ScanningReads.{AreRead, IsRead, Reads, data_of, seen}
use Rattle.json_docs.proofs.ScanningReadableLemmas.{IsRead-in_range, Reads-in_range}
use Rattle.json_docs.proofs.ScanningReadingLemmas.{converted-array, converted-object}
use Rattle.row_docs.specs.Cuts.{are_texts, cut_to, fits, nothing, of_last, texts_among, texts_to}
use Rattle.row_docs.specs.inner.Cuts.{has_room, scalar_in}
use Rattle.row_docs.specs.CutsSeen.{IsCut}
use Rattle.row_docs.specs.inner.CutsSeen.{IsNothing, Keeps, KeepsBy, KeepsItems, KeepsNone}
use Rattle.row_docs.specs.declared.cuts.Cut.{Cut}
use Rattle.row_docs.specs.declared.cuts.Kept.{Kept}
use Rattle.row_docs.proofs.CutsLemmas.{are_texts-push}
use Rattle.row_docs.proofs.CutsLemmas.{at_most, of_last-push}

-- ---- values of their own

-- a token that opens nothing is the value that it is by itself, or begins none
pub scalar_read : (depth : ℕ) (t : Token) (ts : List Token) → (t ≡ begin_array → ⊥)
    → (t ≡ begin_object → ⊥)
    → value depth (t ∷ ts) ≡ option_map (λ (j : Json). (j, ts)) (scalar_in t)
scalar_read depth token.begin_object ts not_array not_object = absurd (not_object refl)
scalar_read depth token.end_object ts not_array not_object = value_is depth (token.end_object ∷ ts)
scalar_read depth token.begin_array ts not_array not_object = absurd (not_array refl)
scalar_read depth token.end_array ts not_array not_object = value_is depth (token.end_array ∷ ts)
scalar_read depth (token.key s) ts not_array not_object = value_is depth (token.key s ∷ ts)
scalar_read depth (token.string s) ts not_array not_object = value_is depth (token.string s ∷ ts)
scalar_read depth (token.number s) ts not_array not_object = value_is depth (token.number s ∷ ts)
scalar_read depth (token.boolean b) ts not_array not_object = value_is depth (token.boolean b ∷ ts)
scalar_read depth token.null ts not_array not_object = value_is depth (token.null ∷ ts)
scalar_read depth token.bad ts not_array not_object = value_is depth (token.bad ∷ ts)

-- it is kept as it is, and has no texts
abbrev IsKeptWhole : ℕ → Data → Type 0
IsKeptWhole levels d = (d ≡ cut_to levels d) × (0 ≡ texts_to levels d)

null_whole : (levels : ℕ) → IsKeptWhole levels null
null_whole zero = (refl, refl)
null_whole (suc levels) = (refl, refl)

boolean_whole : (levels : ℕ) (b : Bool) → IsKeptWhole levels (boolean b)
boolean_whole zero b = (refl, refl)
boolean_whole (suc levels) b = (refl, refl)

string_whole : (levels : ℕ) (s : List ℕ) → IsKeptWhole levels (string s)
string_whole zero s = (refl, refl)
string_whole (suc levels) s = (refl, refl)

number_whole : (levels : ℕ) (o : Option Num)
    → IsKeptWhole levels (unwrap_or (option_map number o) null)
number_whole levels None = null_whole levels
number_whole zero (Some n) = (refl, refl)
number_whole (suc levels) (Some n) = (refl, refl)

scalar_whole : (levels : ℕ) (t : Token) (j : Json) → scalar_in t ≡ Some j
    → IsKeptWhole levels (data_of j)
scalar_whole levels token.begin_object j is = cc
scalar_whole levels token.end_object j is = cc
scalar_whole levels token.begin_array j is = cc
scalar_whole levels token.end_array j is = cc
scalar_whole levels (token.key s) j is = cc
scalar_whole levels (token.string s) j is =
    let same : json.string s ≡ j = cc in
    subst (λ (k : Json). IsKeptWhole levels (data_of k)) same (string_whole levels s)
scalar_whole levels (token.number s) j is =
    let same : json.number s ≡ j = cc in
    subst (λ (k : Json). IsKeptWhole levels (data_of k)) same (number_whole levels (number_of s))
scalar_whole levels (token.boolean b) j is =
    let same : json.boolean b ≡ j = cc in
    subst (λ (k : Json). IsKeptWhole levels (data_of k)) same (boolean_whole levels b)
scalar_whole levels token.null j is =
    let same : json.null ≡ j = cc in
    subst (λ (k : Json). IsKeptWhole levels (data_of k)) same (null_whole levels)
scalar_whole levels token.bad j is = cc

-- a token that is a value by itself is read, and kept whole
pub scalar_cut : (depth levels : ℕ) (old : List Token) (t : Token) (ts : List Token)
    (v : Value Global)
    → old ≡ t ∷ ts → are_in_range old ≡ true → (t ≡ begin_array → ⊥) → (t ≡ begin_object → ⊥)
    → Some (value_view v) ≡ scalar_in t
    → (d : Data) × Reads depth old d ts × IsCut levels d (record { value = v; texts = 0 })
scalar_cut depth levels old t ts v is range not_array not_object seen_as =
    let j = value_view v in
    let found : value depth old ≡ Some (j, ts) =
    ap (value depth) is ∙ (scalar_read depth t ts not_array not_object
    ∙ ap (option_map (λ (k : Json). (k, ts))) (sym seen_as)) in
    let whole = scalar_whole levels t j (sym seen_as) in (
      data_of j,
      Reads-in_range depth old ts j range found,
      record {
        read = IsRead-in_range depth old ts j range found;
        value = whole.0;
        texts = whole.1;
      },
    )

-- a token that begins no value
pub no_scalar : (depth : ℕ) (old : List Token) (t : Token) (ts : List Token) → old ≡ t ∷ ts
    → (t ≡ begin_array → ⊥) → (t ≡ begin_object → ⊥) → None ≡ scalar_in t
    → converted of_json (value depth old) ≡ None
no_scalar depth old t ts is not_array not_object none =
    ap (converted of_json)
    (ap (value depth) is ∙ (scalar_read depth t ts not_array not_object
    ∙ ap (option_map (λ (k : Json). (k, ts))) (sym none)))

-- no token begins no value
pub nothing_read : (depth : ℕ) (old : List Token) → old ≡ [] → converted of_json (value depth old)
    ≡ None
nothing_read depth old is = ap (converted of_json) (ap (value depth) is ∙ value_is depth [])

-- ---- arrays and objects

module _ (depth : ℕ) (old ts : List Token) (some : 0 < depth) where
  -- an opening bracket and items are an array
  pub array_read : (new : List Token) (ds : Items) → old ≡ begin_array ∷ ts
      → ReadsItems (depth - 1) ts ds new → Reads depth old (array ds) new
  array_read new ds is read =
      ap (converted of_json) (ap (value depth) is ∙ value-begin_array depth ts some)
      ∙ converted-array (json.items (value (depth - 1)) (length ts) ts) ∙ ap (parse_map array) read

  -- an opening bracket without items after it is no value
  pub no_array : old ≡ begin_array ∷ ts → ReadsNoItems (depth - 1) ts
      → converted of_json (value depth old) ≡ None
  no_array is none =
      ap (converted of_json) (ap (value depth) is ∙ value-begin_array depth ts some)
      ∙ converted-array (json.items (value (depth - 1)) (length ts) ts) ∙ ap (parse_map array) none

  -- an opening brace and members are an object
  pub object_read : (new : List Token) (ms : Members) → old ≡ begin_object ∷ ts
      → ReadsMembers (depth - 1) ts ms new → Reads depth old (object ms) new
  object_read new ms is read =
      ap (converted of_json) (ap (value depth) is ∙ value-begin_object depth ts some)
      ∙ converted-object (json.members (value (depth - 1)) (length ts) ts)
      ∙ ap (parse_map object) read

  -- an opening brace without members after it is no value
  pub no_object : old ≡ begin_object ∷ ts → ReadsNoMembers (depth - 1) ts
      → converted of_json (value depth old) ≡ None
  no_object is none =
      ap (converted of_json) (ap (value depth) is ∙ value-begin_object depth ts some)
      ∙ converted-object (json.members (value (depth - 1)) (length ts) ts)
      ∙ ap (parse_map object) none

-- nothing is kept of an object
pub object_cut : (levels : ℕ) (ms : Members) (cut : Cut) → IsNothing cut
    → IsCut levels (object ms) cut
object_cut zero ms cut is = record { read = is.read; value = is.value; texts = is.texts }
object_cut (suc levels) ms cut is = record { read = is.read; value = is.value; texts = is.texts }

-- ---- items

each_false : (a b : Bool) → (a || b) ≡ false → (a ≡ false) × (b ≡ false)
each_false true b h = cc
each_false false b h = (refl, h)

longer : (xs ys : List Data) → length xs ≤ length (xs ++ ys)
longer [] ys = omega arith
longer (x ∷ xs) ys = let more = longer xs ys in omega (arith, more)

one_longer : (xs : List Data) (x : Data) → length (xs ++ x ∷ []) ≡ suc (length xs)
one_longer [] x = refl
one_longer (y ∷ xs) x = ap suc (one_longer xs x)

one_counted : (xs : List Data) (x : Data) (n : ℕ) → n ≡ length xs
    → n + 1 ≡ length (xs ++ x ∷ [])
one_counted xs x n is = let len = one_longer xs x in omega (arith, is, len)

still_many : (m n : ℕ) → nat_lt m 7 ≡ false → m ≤ n → nat_lt n 7 ≡ false
still_many m n h le =
    is_false (nat_lt n 7) (λ less.
    let below = lt_is n 7 less in
    true≢false (sym (is_lt m 7 (omega (arith, below, le))) ∙ h))

-- nothing is kept of an array that begins with items that no row may have
pub KeepsNone-misfit : (levels : ℕ) (front : List Data) → fits front ≡ false
    → KeepsNone (suc levels) front
KeepsNone-misfit levels front is = λ rest ds same.
    let parts = each_false (nat_lt (length front) 7) (are_texts front) is in
    let many : nat_lt (length (front ++ rest)) 7 ≡ false =
    still_many (length front) (length (front ++ rest)) parts.0 (longer front rest) in
    let mixed : are_texts (front ++ rest) ≡ false =
    list_all-append (λ d. is_some (as_str d)) front rest
    ∙ ap (λ b. b && are_texts rest) parts.1 in
    let misfit : fits (list_of ds) ≡ false =
    ap fits same ∙ ap₂ (λ a b. a || b) many mixed in
    let mixed_too : are_texts (list_of ds) ≡ false = ap are_texts same ∙ mixed in (
      ap (λ b. if b then array (items_of (take 65 (map (cut_to levels) (list_of ds)))) else nothing)
          misfit,
      ap₂ (λ a b. if a then length (list_of ds)
          else (if b then of_last (texts_to levels) (list_of ds) else 0)) mixed_too misfit,
    )

-- what begins with nothing that is kept goes on so
pub KeepsNone-push : (levels : ℕ) (front : List Data) (d : Data) → KeepsNone levels front
    → KeepsNone levels (front ++ d ∷ [])
KeepsNone-push levels front d none = λ rest ds is.
    none (d ∷ rest) ds (is ∙ append_assoc front (d ∷ []) rest)

one_less : (m : ℕ) → nat_lt (suc m) 7 ≡ nat_lt m 6
one_less m = elim (cases_bool (nat_lt m 6)) [
  | inl below ↦ is_lt (suc m) 7 (omega (arith, lt_is m 6 below)) ∙ sym below
  | inr above ↦
      is_false (nat_lt (suc m) 7) (λ below.
      let less = lt_is (suc m) 7 below in
      true≢false (sym (is_lt m 6 (omega (arith, less))) ∙ above))
      ∙ sym above
]

-- a row may have the items with one more where there is room
pub fits-push : (front : List Data) (d : Data)
    → fits (front ++ d ∷ []) ≡ has_room (length front) (are_texts front) (is_some (as_str d))
fits-push front d =
    ap₂ (λ a b. a || b) (ap (λ m. nat_lt m 7) (one_longer front d) ∙ one_less (length front))
    (are_texts-push front d)

AreRead-push : (vs : List (Value Global)) (v : Value Global) → AreRead vs → IsRead (value_view v)
    → AreRead (vs ++ v ∷ [])
AreRead-push [] v all one = (one, tt)
AreRead-push (w ∷ vs) v all one = (all.0, AreRead-push vs v all.1 one)

first_push : {A : Type 0} (n : ℕ) (xs : List A) (x : A) (b : Bool) → nat_lt (length xs) n ≡ b
    → take n (xs ++ x ∷ []) ≡ (if b then take n xs ++ x ∷ [] else take n xs)
first_push n xs x true is =
    let less = lt_is (length xs) n is in
    take_all n (xs ++ x ∷ []) (omega (arith, less, length-append xs (x ∷ [])))
    ∙ ap (λ t. t ++ x ∷ []) (sym (take_all n xs (omega (arith, less))))
first_push n xs x false is = take-append-le n xs (x ∷ []) (at_most (length xs) n is)

kept_if : (b : Bool) (vs : List (Value Global)) (v : Value Global) (ds : List Data) (d : Data)
    → map seen vs ≡ ds → seen v ≡ d
    → map seen (if b then vs ++ v ∷ [] else vs) ≡ (if b then ds ++ d ∷ [] else ds)
kept_if true vs v ds d are is =
    map-append seen vs (v ∷ []) ∙ ap₂ (λ (xs : List Data) (x : Data). xs ++ x ∷ []) are is
kept_if false vs v ds d are is = are

read_if : (b : Bool) (vs : List (Value Global)) (v : Value Global) → AreRead vs
    → IsRead (value_view v) → AreRead (if b then vs ++ v ∷ [] else vs)
read_if true vs v all one = AreRead-push vs v all one
read_if false vs v all one = all

-- the items so far with one more
pub KeepsItems-push : (levels : ℕ) (front : List Data) (d : Data) (kept : Kept) (next : Cut)
    (vec : Vec (Value Global) Global) (is_text all : Bool)
    → KeepsItems levels front kept → IsCut levels d next
    → is_text ≡ is_some (as_str (seen next.value))
    → as_str (cut_to levels d) ≡ as_str d
    → has_room kept.count kept.are_texts is_text ≡ true
    → vec.items ≡ (if nat_lt kept.count 65 then kept.first.items ++ next.value ∷ []
    else kept.first.items)
    → all ≡ (kept.are_texts && is_text)
    → KeepsItems levels (front ++ d ∷ []) (record {
      first = vec;
      count = kept.count + 1;
      are_texts = all;
      texts = next.texts;
      fits = true;
    })
KeepsItems-push levels front d kept next vec is_text all keeps cut text same room pushed both =
    let told : is_text ≡ is_some (as_str d) =
    text ∙ ap (λ e. is_some (as_str e)) cut.value ∙ ap is_some same in
    let as_long : length (map (cut_to levels) front) ≡ kept.count =
    length-map front (cut_to levels) ∙ sym keeps.count in
    record {
      read = subst AreRead (sym pushed)
          (read_if (nat_lt kept.count 65) kept.first.items next.value keeps.read cut.read);
      first = ap (map seen) pushed
          ∙ kept_if (nat_lt kept.count 65) kept.first.items next.value _ _ keeps.first cut.value
          ∙ sym (ap (take 65) (map-append (cut_to levels) front (d ∷ []))
          ∙ first_push 65 (map (cut_to levels) front) (cut_to levels d) _ refl
          ∙ ap (λ m. if nat_lt m 65 then take 65 (map (cut_to levels) front) ++ cut_to levels d ∷ []
          else take 65 (map (cut_to levels) front)) as_long);
      count = one_counted front d kept.count keeps.count;
      are_texts = both ∙ (ap₂ (λ a b. a && b) keeps.are_texts told ∙ sym (are_texts-push front d));
      texts = cut.texts ∙ sym (of_last-push (texts_to levels) front d);
      fits = fits-push front d
          ∙ (sym (ap₂ (λ (m : ℕ) (b : Bool). has_room m b (is_some (as_str d))) keeps.count
          keeps.are_texts)
          ∙ (ap (has_room kept.count kept.are_texts) (sym told) ∙ room));
    }

-- without room for one more, nothing is kept
pub KeepsItems-misfit : (levels : ℕ) (front : List Data) (d : Data) (kept : Kept) (next : Cut)
    (is_text : Bool)
    → KeepsItems levels front kept → IsCut levels d next
    → is_text ≡ is_some (as_str (seen next.value))
    → as_str (cut_to levels d) ≡ as_str d
    → has_room kept.count kept.are_texts is_text ≡ false
    → KeepsNone (suc levels) (front ++ d ∷ [])
KeepsItems-misfit levels front d kept next is_text keeps cut text same room =
    let told : is_text ≡ is_some (as_str d) =
    text ∙ ap (λ e. is_some (as_str e)) cut.value ∙ ap is_some same in
    KeepsNone-misfit levels (front ++ d ∷ [])
    (fits-push front d
    ∙ (sym (ap₂ (λ (m : ℕ) (b : Bool). has_room m b (is_some (as_str d))) keeps.count
    keeps.are_texts)
    ∙ (ap (has_room kept.count kept.are_texts) (sym told) ∙ room)))

-- ---- the array of the items that are kept

one_back : (o : Option Data) (r : Option Items) (ds : Items) → is_some o ≡ true → r ≡ Some ds
    → option_and_then (λ d. option_map (item d) r) o ≡ Some (item (unwrap_or o null) ds)
one_back None r ds some rest = cc
one_back (Some d) r ds some rest = ap (option_map (item d)) rest

items_back : (vs : List (Value Global)) → AreRead vs
    → of_items (items_view vs) ≡ Some (items_of (map seen vs))
items_back [] all = refl
items_back (v ∷ vs) all =
    one_back (of_json (value_view v)) (of_items (items_view vs)) (items_of (map seen vs)) all.0
    (items_back vs all.1)

-- the array is read, and is that of what is seen of its items
pub array_of : (vec : Vec (Value Global) Global) → AreRead vec.items
    → IsRead (value_view (Array vec)) × (seen (Array vec) ≡ array (items_of (map seen vec.items)))
array_of vec all =
    let back : of_json (value_view (Array vec)) ≡ Some (array (items_of (map seen vec.items))) =
    ap of_json (view-Array vec) ∙ ap (option_map array) (items_back vec.items all) in
    (ap is_some back, ap (λ o. unwrap_or o null) back)

counted : (levels : ℕ) (ds : List Data) (kept : Kept) → KeepsItems levels ds kept
    → (if kept.are_texts then kept.count else kept.texts) ≡ texts_among (texts_to levels) ds
counted levels ds kept keeps =
    ap₂ (λ (m n : ℕ). if kept.are_texts then m else n) keeps.count keeps.texts
    ∙ (ap (λ b. if b then length ds else of_last (texts_to levels) ds) keeps.are_texts
    ∙ sym (ap (λ b. if are_texts ds then length ds
    else (if b then of_last (texts_to levels) ds else 0)) keeps.fits))

-- all items that are kept are what is kept of the array
pub items_cut : (levels : ℕ) (ds : Items) (kept : Kept) (texts : ℕ)
    → KeepsItems levels (list_of ds) kept
    → texts ≡ (if kept.are_texts then kept.count else kept.texts)
    → IsCut (suc levels) (array ds) (record { value = Array kept.first; texts = texts })
items_cut levels ds kept texts keeps is =
    let made = array_of kept.first keeps.read in
    record {
      read = made.0;
      value = made.1 ∙ ap (λ xs. array (items_of xs)) keeps.first
          ∙ sym (ap (λ b. if b then array (items_of (take 65 (map (cut_to levels) (list_of ds))))
          else nothing) keeps.fits);
      texts = is ∙ counted levels (list_of ds) kept keeps;
    }

-- nothing is what is kept of an array of which no more is
pub none_cut : (levels : ℕ) (ds : Items) (cut : Cut) → KeepsNone levels (list_of ds)
    → IsNothing cut → IsCut levels (array ds) cut
none_cut levels ds cut none is =
    let both = none [] ds (sym (append-nil (list_of ds))) in
    record { read = is.read; value = is.value ∙ sym both.0; texts = is.texts ∙ sym both.1 }

-- ---- what is kept, by whether a row may have the items

module _ (kept : Kept) where
  -- where no row may have the items, nothing is kept of the array
  pub cut_none : (levels : ℕ) (ds : Items) (cut : Cut) → kept.fits ≡ false
      → Keeps levels (list_of ds) kept → IsNothing cut → IsCut levels (array ds) cut
  cut_none levels ds cut is keeps none =
      none_cut levels ds cut (subst (λ b. KeepsBy b levels (list_of ds) kept) is keeps) none

  cut_by_levels : (levels : ℕ) (ds : Items) (texts : ℕ) → KeepsBy true levels (list_of ds) kept
      → texts ≡ (if kept.are_texts then kept.count else kept.texts)
      → IsCut levels (array ds) (record { value = Array kept.first; texts = texts })
  cut_by_levels zero ds texts keeps is = absurd keeps
  cut_by_levels (suc levels) ds texts keeps is = items_cut levels ds kept texts keeps is

  -- where a row may have them, the array is that of those that are kept
  pub cut_some : (levels : ℕ) (ds : Items) (texts : ℕ) → kept.fits ≡ true
      → Keeps levels (list_of ds) kept
      → texts ≡ (if kept.are_texts then kept.count else kept.texts)
      → IsCut levels (array ds) (record { value = Array kept.first; texts = texts })
  cut_some levels ds texts is keeps told =
      cut_by_levels levels ds texts (subst (λ b. KeepsBy b levels (list_of ds) kept) is keeps) told

  -- where no row may have the items, none may have them with one more
  pub kept_none : (levels : ℕ) (front : List Data) (d : Data) → kept.fits ≡ false
      → Keeps levels front kept → Keeps levels (front ++ d ∷ []) kept
  kept_none levels front d is keeps =
      subst (λ b. KeepsBy b levels (front ++ d ∷ []) kept) (sym is)
      (KeepsNone-push levels front d (subst (λ b. KeepsBy b levels front kept) is keeps))

  more_by_levels : (levels : ℕ) (front : List Data) (d : Data) (next : Kept) (last : Cut)
      → KeepsBy true levels front kept → IsCut (levels - 1) d last
      → ((n : ℕ) (front : List Data) (d : Data) → KeepsItems n front kept → IsCut n d last
      → Keeps (suc n) (front ++ d ∷ []) next)
      → Keeps levels (front ++ d ∷ []) next
  more_by_levels zero front d next last keeps cut more = absurd keeps
  more_by_levels (suc levels) front d next last keeps cut more =
      let same : suc levels - 1 ≡ levels = omega arith in
      more levels front d keeps (subst (λ n. IsCut n d last) same cut)

  -- where a row may have the items, they are kept with one more
  pub kept_some : (levels : ℕ) (front : List Data) (d : Data) (next : Kept) (last : Cut)
      → kept.fits ≡ true → Keeps levels front kept → IsCut (levels - 1) d last
      → ((n : ℕ) (front : List Data) (d : Data) → KeepsItems n front kept → IsCut n d last
      → Keeps (suc n) (front ++ d ∷ []) next)
      → Keeps levels (front ++ d ∷ []) next
  kept_some levels front d next last is keeps cut more =
      more_by_levels levels front d next last
      (subst (λ b. KeepsBy b levels front kept) is keeps) cut more

-- ---- which token it is

-- a token that is no opening bracket is read as none
pub begins_array : (t : Read) → (t ≡ read.BeginArray → ⊥) → token_of t ≡ begin_array → ⊥
begins_array read.BeginObject never is = cc
begins_array read.EndObject never is = cc
begins_array read.BeginArray never is = never refl
begins_array read.EndArray never is = cc
begins_array (read.Key s) never is = cc
begins_array (read.String s) never is = cc
begins_array (read.Number s) never is = cc
begins_array (read.Bool b) never is = cc
begins_array read.Null never is = cc
begins_array read.Bad never is = cc

-- a token that is no opening brace is read as none
pub begins_object : (t : Read) → (t ≡ read.BeginObject → ⊥) → token_of t ≡ begin_object → ⊥
begins_object read.BeginObject never is = never refl
begins_object read.EndObject never is = cc
begins_object read.BeginArray never is = cc
begins_object read.EndArray never is = cc
begins_object (read.Key s) never is = cc
begins_object (read.String s) never is = cc
begins_object (read.Number s) never is = cc
begins_object (read.Bool b) never is = cc
begins_object read.Null never is = cc
begins_object read.Bad never is = cc

-- a text is found where one is seen
pub is_some-seen : (o : Option (Bor (List ℕ))) (p : Option (List ℕ))
    → option_map (λ s. s.now) o ≡ p → is_some o ≡ is_some p
is_some-seen None None is = refl
is_some-seen None (Some text) is = cc
is_some-seen (Some s) None is = cc
is_some-seen (Some s) (Some text) is = refl
