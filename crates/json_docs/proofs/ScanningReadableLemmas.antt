-- A value is read where its numbers are in range.
use Rattle.std.proofs.Common.{◌≡◌, ◌∙◌, ℕ, List, Bool, true, ◌&&◌, refl, ap, ap₂, sym}
use Rattle.std.specs.Prelude.{Option, None, Some, is_some, option_map, option_and_then, unwrap_or}
use Rattle.std.proofs.lemmas.List.Folds.{list_all-append}
use Rattle.lang_core.proofs.Basics.{and_true, each_true}
use Rattle.json.specs.Json as json
use Rattle.json.specs.Json.{value}
use Rattle.json.specs.Token.{Token}
use Rattle.json.specs.Tree.{json_tokens, items_tokens, members_tokens}
use Rattle.json.proofs.Unique.Spelling.{value-json_tokens_back}
use Rattle.serde_json.specs.Data.{Data, Members, number, array, object, item, put}
use Rattle.serde_json.specs.Read.{converted, number_of, of_json, of_items, of_members}
use Rattle.json_docs.specs.Numbers.{are_in_range, is_token_in_range}
use Rattle.json_docs.specs.ScanningReads.{IsRead, Reads, data_of}

some_map : {A B : Type 0} → (f : A → B) (o : Option A) → is_some (option_map f o) ≡ is_some o
some_map f None = refl
some_map f (Some x) = refl

some_both : {A B C : Type 0} → (f : A → B → C) (o : Option A) (r : Option B)
    → is_some (option_and_then (λ a. option_map (f a) r) o) ≡ (is_some o && is_some r)
some_both f None r = refl
some_both f (Some a) r = some_map (f a) r

some_after : (o : Option Data) (f : Data → Option Members) (rest : Bool)
    → ((d : Data) → is_some (f d) ≡ rest) → is_some (option_and_then f o) ≡ (is_some o && rest)
some_after None f rest each = refl
some_after (Some d) f rest each = each d

mutual
  -- a value is data just where all its numbers are in range
  pub is_some-of_json : (j : json.Json) → is_some (of_json j) ≡ are_in_range (json_tokens j)
  is_some-of_json json.null = refl
  is_some-of_json (json.boolean b) = refl
  is_some-of_json (json.number s) =
      some_map number (number_of s) ∙ sym (and_true (is_some (number_of s)))
  is_some-of_json (json.string s) = refl
  is_some-of_json (json.array js) = some_map array (of_items js) ∙ is_some-of_items js
  is_some-of_json (json.object ms) = some_map object _ ∙ is_some-of_members ms _

  is_some-of_items : (js : json.Items) → is_some (of_items js) ≡ are_in_range (items_tokens js)
  is_some-of_items json.no_items = refl
  is_some-of_items (json.item j js) =
      some_both item (of_json j) (of_items js)
      ∙ ap₂ (λ a b. a && b) (is_some-of_json j) (is_some-of_items js)
      ∙ sym (list_all-append is_token_in_range (json_tokens j) (items_tokens js))

  is_some-of_members : (ms : json.Members) (found : Members)
      → is_some (of_members ms found) ≡ are_in_range (members_tokens ms)
  is_some-of_members json.no_members found = refl
  is_some-of_members (json.member k j ms) found =
      some_after (of_json j) (λ d. of_members ms (put k d found)) (are_in_range (members_tokens ms))
      (λ d. is_some-of_members ms (put k d found))
      ∙ ap (λ a. a && are_in_range (members_tokens ms)) (is_some-of_json j)
      ∙ sym (list_all-append is_token_in_range (json_tokens j) (members_tokens ms))

-- what is there is its data
pub there : {A : Type 0} → (o : Option A) (d : A) → is_some o ≡ true → o ≡ Some (unwrap_or o d)
there None d h = cc
there (Some x) d h = refl

-- the numbers of a value and of what follows it
pub parts_in_range : (depth : ℕ) (old new : List Token) (j : json.Json) → are_in_range old ≡ true
    → value depth old ≡ Some (j, new)
    → (are_in_range (json_tokens j) ≡ true) × (are_in_range new ≡ true)
parts_in_range depth old new j all is =
    each_true _ _ (sym (list_all-append is_token_in_range (json_tokens j) new)
    ∙ (ap are_in_range (sym (value-json_tokens_back depth old new j is)) ∙ all))

-- a value whose numbers are in range is read
pub IsRead-in_range : (depth : ℕ) (old new : List Token) (j : json.Json) → are_in_range old ≡ true
    → value depth old ≡ Some (j, new) → IsRead j
IsRead-in_range depth old new j all is =
    is_some-of_json j ∙ (parts_in_range depth old new j all is).0

-- a value whose numbers are in range is read
pub Reads-in_range : (depth : ℕ) (old new : List Token) (j : json.Json) → are_in_range old ≡ true
    → value depth old ≡ Some (j, new) → Reads depth old (data_of j) new
Reads-in_range depth old new j all is =
    let some = there (of_json j) _ (IsRead-in_range depth old new j all is) in
    ap (converted of_json) is ∙ ap (option_map (λ (d : Data). (d, new))) some

-- the items of an array that is read are read, and are its items
pub IsRead-item : (j : json.Json) (js : json.Items) → is_some (of_items (json.item j js)) ≡ true
    → IsRead j × (is_some (of_items js) ≡ true)
IsRead-item j js h = each_true _ _ (sym (some_both item (of_json j) (of_items js)) ∙ h)
