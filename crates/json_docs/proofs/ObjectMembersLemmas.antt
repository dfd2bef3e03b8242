-- Members that are read or passed over.
use Rattle.std.proofs.Common.{◌≡◌, ◌∙◌, ℕ, List, [], ◌∷◌, true, false, length, ap, sym}
use Rattle.std.proofs.Common.{refl, arith}
use Rattle.std.specs.Prelude.{Option, None, Some, Result, MatchResult, Ok, Err, option_map}
use Rattle.std.specs.Prelude.{unwrap_or}
use Rattle.json.specs.Json as json
use Rattle.json.specs.Json.{Json, parse_map, read_key, skip_value, value}
use Rattle.json.specs.Reads.{token_of}
use Rattle.json.specs.Token as token
use Rattle.json.specs.Token.{Token, begin_array, begin_object}
use Rattle.json.specs.declared.token.Token.{Token as Read}
use Rattle.json.specs.declared.token.Token.TheVariants as read
use Rattle.json.proofs.Grammar.{read_key_is, value_is, value-begin_array, value-begin_object}
use Rattle.serde_json.specs.Data.{Data, Items, Members, Num, array, number, object}
use Rattle.serde_json.specs.Find.{as_object}
use Rattle.serde_json.specs.Read.{converted, number_of, of_json}
use Rattle.json_docs.specs.inner.ScanningArrays.{ReadsItems, ReadsNoItems}
use Rattle.json_docs.specs.ObjectMembersRead.{is_scalar}
use Rattle.json_docs.specs.inner.ObjectMembersRead.{ReadsMembers, ReadsNoMembers}
use Rattle.json_docs.specs.Numbers.{are_in_range, is_token_in_range}
use Rattle.json_docs.specs.ScanningReads.{Reads, data_of}
use Rattle.json_docs.specs.Parts.{items_in}
use Rattle.catalogue.proofs.Basics.{second_so}
use Rattle.json_docs.proofs.ScanningReadableLemmas.{parts_in_range, Reads-in_range}
use Rattle.json_docs.proofs.ScanningReadingLemmas.{converted-array, converted-object}

-- what is more holds too
pub ok_weaker : {T E : Type 0} (r : Result T E) (P Q : T → Type 0) (F : E → Type 0)
    → MatchResult r P F → ((x : T) → P x → Q x) → MatchResult r Q F
ok_weaker (Ok x) P Q F h more = more x h
ok_weaker (Err e) P Q F h more = h

-- what follows in both cases of a result holds of the result
pub both_weaker : {T E : Type 0} (r : Result T E) (P Q : T → Type 0) (F G : E → Type 0)
    → MatchResult r P F → ((x : T) → P x → Q x) → ((e : E) → F e → G e) → MatchResult r Q G
both_weaker (Ok x) P Q F G h more other = more x h
both_weaker (Err e) P Q F G h more other = other e h

-- the numbers after a token
pub range_after : (t : Token) (ts : List Token) → are_in_range (t ∷ ts) ≡ true
    → are_in_range ts ≡ true
range_after t ts h = second_so (is_token_in_range t) (are_in_range ts) h

-- the numbers after a name
pub range_after_key : (ts : List Token) (k : Option (List ℕ)) (r : List Token)
    → read_key ts ≡ Some (k, r) → are_in_range ts ≡ true → are_in_range r ≡ true
range_after_key ts None r is range = sym (ap are_in_range (read_key_is ts None r is)) ∙ range
range_after_key ts (Some k) r is range =
    sym (ap are_in_range (read_key_is ts (Some k) r is)) ∙ range

-- ---- what is skipped is some value

passed : (o : Option (Json × List Token)) (new : List Token)
    → option_map (λ (p : Json × List Token). p.1) o ≡ Some new → (j : Json) × (o ≡ Some (j, new))
passed None new is = absurd (cc)
passed (Some p) new is = let same : p.1 ≡ new = cc in (p.0, ap (λ t. Some (p.0, t)) same)

-- a value that is skipped is one that could be read
pub skipped : (depth : ℕ) (old new : List Token) → are_in_range old ≡ true
    → skip_value depth old ≡ Some new
    → (d : Data) × Reads depth old d new × (are_in_range new ≡ true)
skipped depth old new range is =
    let there = passed (value depth old) new is in (
      data_of there.0,
      Reads-in_range depth old new there.0 range there.1,
      (parts_in_range depth old new there.0 range there.1).1,
    )

passed_none : (o : Option (Json × List Token))
    → option_map (λ (p : Json × List Token). p.1) o ≡ None → o ≡ None
passed_none None is = refl
passed_none (Some p) is = absurd (cc)

-- where no value can be skipped none can be read
pub not_skipped : (depth : ℕ) (old : List Token) → skip_value depth old ≡ None
    → converted of_json (value depth old) ≡ None
not_skipped depth old is = ap (converted of_json) (passed_none (value depth old) is)

-- ---- arrays, objects and values of their own

-- an opening bracket and items are an array
pub array_read : (old ts new : List Token) (ds : Items) → old ≡ begin_array ∷ ts
    → ReadsItems 125 ts ds new → Reads 126 old (array ds) new
array_read old ts new ds is read =
    ap (converted of_json) (ap (value 126) is ∙ value-begin_array 126 ts (omega arith))
    ∙ converted-array (json.items (value 125) (length ts) ts) ∙ ap (parse_map array) read

-- an opening bracket without items after it is no value
pub no_array : (old ts : List Token) → old ≡ begin_array ∷ ts → ReadsNoItems 125 ts
    → converted of_json (value 126 old) ≡ None
no_array old ts is none =
    ap (converted of_json) (ap (value 126) is ∙ value-begin_array 126 ts (omega arith))
    ∙ converted-array (json.items (value 125) (length ts) ts) ∙ ap (parse_map array) none

-- an opening brace and members are an object
pub object_read : (old ts new : List Token) (ms : Members) → old ≡ begin_object ∷ ts
    → ReadsMembers 125 ts ms new → Reads 126 old (object ms) new
object_read old ts new ms is read =
    ap (converted of_json) (ap (value 126) is ∙ value-begin_object 126 ts (omega arith))
    ∙ converted-object (json.members (value 125) (length ts) ts) ∙ ap (parse_map object) read

-- an opening brace without members after it is no value
pub no_object : (old ts : List Token) → old ≡ begin_object ∷ ts → ReadsNoMembers 125 ts
    → converted of_json (value 126 old) ≡ None
no_object old ts is none =
    ap (converted of_json) (ap (value 126) is ∙ value-begin_object 126 ts (omega arith))
    ∙ converted-object (json.members (value 125) (length ts) ts) ∙ ap (parse_map object) none

number_alone : (o : Option Num)
    → (items_in (unwrap_or (option_map number o) Data.null) ≡ None)
    × (None ≡ as_object (unwrap_or (option_map number o) Data.null))
number_alone None = (refl, refl)
number_alone (Some n) = (refl, refl)

-- it has neither items nor members
pub scalar_read : (t : Token) (ts : List Token) → is_scalar t ≡ true → are_in_range (t ∷ ts) ≡ true
    → (d : Data) × Reads 126 (t ∷ ts) d ts × (items_in d ≡ None) × (None ≡ as_object d)
scalar_read token.begin_object ts is range = absurd (cc)
scalar_read token.end_object ts is range = absurd (cc)
scalar_read token.begin_array ts is range = absurd (cc)
scalar_read token.end_array ts is range = absurd (cc)
scalar_read (token.key s) ts is range = absurd (cc)
scalar_read (token.string s) ts is range = (
  data_of (json.string s),
  Reads-in_range 126 (token.string s ∷ ts) ts (json.string s) range
      (value_is 126 (token.string s ∷ ts)),
  refl,
  refl,
)
scalar_read (token.number s) ts is range = (
  data_of (json.number s),
  Reads-in_range 126 (token.number s ∷ ts) ts (json.number s) range
      (value_is 126 (token.number s ∷ ts)),
  (number_alone (number_of s)).0,
  (number_alone (number_of s)).1,
)
scalar_read (token.boolean b) ts is range = (
  data_of (json.boolean b),
  Reads-in_range 126 (token.boolean b ∷ ts) ts (json.boolean b) range
      (value_is 126 (token.boolean b ∷ ts)),
  refl,
  refl,
)
scalar_read token.null ts is range = (
  data_of json.null,
  Reads-in_range 126 (token.null ∷ ts) ts json.null range (value_is 126 (token.null ∷ ts)),
  refl,
  refl,
)
scalar_read token.bad ts is range = absurd (cc)

-- a token that begins no value reads as none
pub no_scalar : (t : Read) (ts : List Token) → (t ≡ read.BeginArray → ⊥)
    → (t ≡ read.BeginObject → ⊥) → is_scalar (token_of t) ≡ false
    → converted of_json (value 126 (token_of t ∷ ts)) ≡ None
no_scalar read.BeginObject ts not_array not_object is = absurd (not_object refl)
no_scalar read.EndObject ts not_array not_object is =
    ap (converted of_json) (value_is 126 (token.end_object ∷ ts))
no_scalar read.BeginArray ts not_array not_object is = absurd (not_array refl)
no_scalar read.EndArray ts not_array not_object is =
    ap (converted of_json) (value_is 126 (token.end_array ∷ ts))
no_scalar (read.Key s) ts not_array not_object is =
    ap (converted of_json) (value_is 126 (token.key s.now ∷ ts))
no_scalar (read.String s) ts not_array not_object is = absurd (cc)
no_scalar (read.Number s) ts not_array not_object is = absurd (cc)
no_scalar (read.Bool b) ts not_array not_object is = absurd (cc)
no_scalar read.Null ts not_array not_object is = absurd (cc)
no_scalar read.Bad ts not_array not_object is =
    ap (converted of_json) (value_is 126 (token.bad ∷ ts))

-- no token reads as no value
pub nothing_read : (old : List Token) → old ≡ [] → converted of_json (value 126 old) ≡ None
nothing_read old is = ap (converted of_json) (ap (value 126) is ∙ value_is 126 [])
