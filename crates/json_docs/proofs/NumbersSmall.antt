-- The unsigned whole numbers of a text that is read are below 2 ^ 64.
--
-- The reader makes an unsigned whole number of a token only if it fits 64 bits; else the number is
-- read as another kind. By induction over the value all such numbers in it are below 2 ^ 64, those
-- of its members and items among them. So a time or a count that is taken out of a value fits its
-- field.
use Rattle.std.proofs.Common.{◌≡◌, ◌∙◌, ◌<◌, ◌^◌, ◌==◌, ℕ, List, [], ◌∷◌, Bool, true, false}
use Rattle.std.proofs.Common.{get_or, ltb-true, refl, subst, sym}
use Rattle.std.specs.Ordering.{nat_cmp, match_ordering}
use Rattle.std.specs.Prelude.{ℤ, Float, Option, None, Some, if◌then◌else◌, nat_lt, option_map}
use Rattle.std.specs.Prelude.{option_and_then}
use Rattle.std.specs.Cmp.Lexicographic.{slice_cmp}
use Rattle.std.specs.declared.cmp.Ordering.{Ordering}
use Rattle.std.specs.declared.cmp.Ordering.TheVariants.{Less, Equal, Greater}
use Rattle.json.specs.Json as json
use Rattle.json.specs.Lex.{tokens}
use Rattle.serde_json.specs.Data.{Num, unsigned, negative, float, Data, null, boolean, number}
use Rattle.serde_json.specs.Data.{string, array, object, Items, no_items, item, Members, no_members}
use Rattle.serde_json.specs.Data.{member, put}
use Rattle.serde_json.specs.Find.{as_array, as_u64, get, get_member}
use Rattle.serde_json.specs.Read.{max_depth, number_of, of_items, of_json, of_members, read}
use Rattle.catalogue.proofs.Basics.{second_so, some_same}
use Rattle.json_docs.specs.Parts.{items_in, list_of, narrowed, u32_in, u64_in}
use Rattle.json_docs.proofs.NumbersLemmas.{number_of-minus, number_of-plain}

-- ---- data whose unsigned whole numbers are below 2 ^ 64

abbrev IsSmallNumber : Num → Type 0
IsSmallNumber (unsigned n) = n < 2 ^ 64
IsSmallNumber (negative z) = Unit {0}
IsSmallNumber (float x) = Unit {0}

abbrev mutual
  -- all unsigned whole numbers in it are
  pub IsSmall : Data → Type 0
  IsSmall null = Unit {0}
  IsSmall (boolean b) = Unit {0}
  IsSmall (number n) = IsSmallNumber n
  IsSmall (string s) = Unit {0}
  IsSmall (array ds) = AreSmallItems ds
  IsSmall (object ms) = AreSmallMembers ms

  AreSmallItems : Items → Type 0
  AreSmallItems no_items = Unit {0}
  AreSmallItems (item d ds) = IsSmall d × AreSmallItems ds

  AreSmallMembers : Members → Type 0
  AreSmallMembers no_members = Unit {0}
  AreSmallMembers (member k d ms) = IsSmall d × AreSmallMembers ms

-- each is
abbrev pub AreSmall : List Data → Type 0
AreSmall [] = Unit {0}
AreSmall (d ∷ ds) = IsSmall d × AreSmall ds

-- ---- numbers

float_small : (b : Bool) (x : Float) (n : Num) → (if b then Some (float x) else None) ≡ Some n
    → IsSmallNumber n
float_small true x n is = subst IsSmallNumber (some_same (float x) n is) tt
float_small false x n is = absurd (cc)

unsigned_small : (a : Bool) (m : ℕ) (b : Bool) (x : Float) (n : Num)
    → (if a then Some (unsigned m) else (if b then Some (float x) else None)) ≡ Some n
    → (a ≡ true → m < 2 ^ 64) → IsSmallNumber n
unsigned_small true m b x n is fits =
    subst IsSmallNumber (some_same (unsigned m) n is) (fits refl)
unsigned_small false m b x n is fits = float_small b x n is

negative_small : (a : Bool) (z : ℤ) (b : Bool) (x : Float) (n : Num)
    → (if a then Some (negative z) else (if b then Some (float x) else None)) ≡ Some n
    → IsSmallNumber n
negative_small true z b x n is = subst IsSmallNumber (some_same (negative z) n is) tt
negative_small false z b x n is = float_small b x n is

number_by_sign : (b : Bool) (s : List ℕ) (n : Num) → (get_or s 0 0 == 45) ≡ b
    → number_of s ≡ Some n → IsSmallNumber n
number_by_sign true s n sign is =
    let e = sym (number_of-minus s sign) ∙ is in negative_small _ _ _ _ n e
number_by_sign false s n sign is =
    let e = sym (number_of-plain s sign) ∙ is in
    unsigned_small _ _ _ _ n e (λ h. ltb-true _ _ (second_so _ _ h))

number_small : (s : List ℕ) (n : Num) → number_of s ≡ Some n → IsSmallNumber n
number_small s n is = number_by_sign (get_or s 0 0 == 45) s n refl is

-- ---- values

put_by : (o : Ordering) (a b c : Members) → AreSmallMembers a → AreSmallMembers b
    → AreSmallMembers c → AreSmallMembers (match_ordering o a b c)
put_by Less a b c p q r = p
put_by Equal a b c p q r = q
put_by Greater a b c p q r = r

put_small : (k : List ℕ) (d : Data) (ms : Members) → IsSmall d → AreSmallMembers ms
    → AreSmallMembers (put k d ms)
put_small k d no_members small all = (small, tt)
put_small k d (member l e ms) small all =
    put_by (slice_cmp nat_cmp k l) _ _ _ (small, all) (small, all.1)
    (all.0, put_small k d ms small all.1)

number_by : (o : Option Num) (d : Data) → ((n : Num) → o ≡ Some n → IsSmallNumber n)
    → option_map number o ≡ Some d → IsSmall d
number_by None d each is = absurd (cc)
number_by (Some n) d each is = subst IsSmall (some_same (number n) d is) (each n refl)

array_by : (o : Option Items) (d : Data) → ((ds : Items) → o ≡ Some ds → AreSmallItems ds)
    → option_map array o ≡ Some d → IsSmall d
array_by None d each is = absurd (cc)
array_by (Some ds) d each is = subst IsSmall (some_same (array ds) d is) (each ds refl)

object_by : (o : Option Members) (d : Data) → ((ms : Members) → o ≡ Some ms → AreSmallMembers ms)
    → option_map object o ≡ Some d → IsSmall d
object_by None d each is = absurd (cc)
object_by (Some ms) d each is = subst IsSmall (some_same (object ms) d is) (each ms refl)

item_by : (o : Option Data) (r : Option Items) (ds : Items)
    → ((d : Data) → o ≡ Some d → IsSmall d) → ((es : Items) → r ≡ Some es → AreSmallItems es)
    → option_and_then (λ d. option_map (item d) r) o ≡ Some ds → AreSmallItems ds
item_by None r ds first rest is = absurd (cc)
item_by (Some d) None ds first rest is = absurd (cc)
item_by (Some d) (Some es) ds first rest is =
    subst AreSmallItems (some_same (item d es) ds is) (first d refl, rest es refl)

member_by : (o : Option Data) (f : Data → Option Members) (ms : Members)
    → ((d : Data) → o ≡ Some d → IsSmall d)
    → ((d : Data) → IsSmall d → f d ≡ Some ms → AreSmallMembers ms)
    → option_and_then f o ≡ Some ms → AreSmallMembers ms
member_by None f ms first rest is = absurd (cc)
member_by (Some d) f ms first rest is = rest d (first d refl) is

mutual
  json_small : (j : json.Json) (d : Data) → of_json j ≡ Some d → IsSmall d
  json_small json.null d is = subst IsSmall (some_same null d is) tt
  json_small (json.boolean b) d is = subst IsSmall (some_same (boolean b) d is) tt
  json_small (json.number s) d is = number_by (number_of s) d (number_small s) is
  json_small (json.string s) d is = subst IsSmall (some_same (string s) d is) tt
  json_small (json.array js) d is = array_by (of_items js) d (items_small js) is
  json_small (json.object ms) d is =
      object_by (of_members ms no_members) d (members_small ms no_members tt) is

  items_small : (js : json.Items) (ds : Items) → of_items js ≡ Some ds → AreSmallItems ds
  items_small json.no_items ds is = subst AreSmallItems (some_same no_items ds is) tt
  items_small (json.item j js) ds is =
      item_by (of_json j) (of_items js) ds (json_small j) (items_small js) is

  members_small : (ms : json.Members) (found : Members) → AreSmallMembers found → (out : Members)
      → of_members ms found ≡ Some out → AreSmallMembers out
  members_small json.no_members found small out is =
      subst AreSmallMembers (some_same found out is) small
  members_small (json.member k j ms) found small out is =
      member_by (of_json j) (λ d. of_members ms (put k d found)) out (json_small j)
      (λ d h e. members_small ms (put k d found) (put_small k d found h small) out e) is

small_json : (o : Option json.Json) (d : Data) → option_and_then of_json o ≡ Some d → IsSmall d
small_json None d is = absurd (cc)
small_json (Some j) d is = json_small j d is

-- what a text reads as has no unsigned whole number of 2 ^ 64 or more
pub read_small : (text : List ℕ) (d : Data) → read text ≡ Some d → IsSmall d
read_small text d is =
    let whole = option_and_then (λ p. json.if_last p.0 p.1) (json.value max_depth (tokens text)) in
    small_json whole d is

-- ---- parts of such data

found_by : (o : Ordering) (rest : Option Data) (e d : Data) → IsSmall e
    → ((d : Data) → rest ≡ Some d → IsSmall d) → match_ordering o rest (Some e) rest ≡ Some d
    → IsSmall d
found_by Less rest e d small later is = later d is
found_by Equal rest e d small later is = subst IsSmall (some_same e d is) small
found_by Greater rest e d small later is = later d is

member_small : (k : List ℕ) (ms : Members) → AreSmallMembers ms → (d : Data)
    → get_member k ms ≡ Some d → IsSmall d
member_small k no_members small d is = absurd (cc)
member_small k (member l e ms) small d is =
    found_by (slice_cmp nat_cmp k l) (get_member k ms) e d small.0
    (member_small k ms small.1) is

-- its members are such data
pub get_small : (k : List ℕ) (d e : Data) → IsSmall d → get k d ≡ Some e → IsSmall e
get_small k null e small is = absurd (cc)
get_small k (boolean b) e small is = absurd (cc)
get_small k (number n) e small is = absurd (cc)
get_small k (string s) e small is = absurd (cc)
get_small k (array ds) e small is = absurd (cc)
get_small k (object ms) e small is = member_small k ms small e is

list_small : (ds : Items) → AreSmallItems ds → AreSmall (list_of ds)
list_small no_items small = tt
list_small (item d ds) small = (small.0, list_small ds small.1)

items_by : (o : Option Items) (ds : List Data) → ((es : Items) → o ≡ Some es → AreSmallItems es)
    → option_map list_of o ≡ Some ds → AreSmall ds
items_by None ds each is = absurd (cc)
items_by (Some es) ds each is =
    subst AreSmall (some_same (list_of es) ds is) (list_small es (each es refl))

array_small : (d : Data) → IsSmall d → (ds : Items) → as_array d ≡ Some ds → AreSmallItems ds
array_small null small ds is = absurd (cc)
array_small (boolean b) small ds is = absurd (cc)
array_small (number n) small ds is = absurd (cc)
array_small (string s) small ds is = absurd (cc)
array_small (array es) small ds is = subst AreSmallItems (some_same es ds is) small
array_small (object ms) small ds is = absurd (cc)

-- its items are such data
pub items_in_small : (d : Data) (ds : List Data) → IsSmall d → items_in d ≡ Some ds → AreSmall ds
items_in_small d ds small is = items_by (as_array d) ds (array_small d small) is

whole_by : (n : Num) (m : ℕ) → IsSmallNumber n → as_u64 n ≡ Some m → m < 2 ^ 64
whole_by (unsigned n) m small is = subst (λ (x : ℕ). x < 2 ^ 64) (some_same n m is) small
whole_by (negative z) m small is = absurd (cc)
whole_by (float x) m small is = absurd (cc)

-- it is below 2 ^ 64, where it is an unsigned whole number
pub u64_in_small : (d : Data) (m : ℕ) → IsSmall d → u64_in d ≡ Some m → m < 2 ^ 64
u64_in_small null m small is = absurd (cc)
u64_in_small (boolean b) m small is = absurd (cc)
u64_in_small (number n) m small is = whole_by n m small is
u64_in_small (string s) m small is = absurd (cc)
u64_in_small (array ds) m small is = absurd (cc)
u64_in_small (object ms) m small is = absurd (cc)

narrow_by : (b : Bool) (n m : ℕ) → (b ≡ true → n < 2 ^ 32)
    → (if b then Some n else None) ≡ Some m → m < 2 ^ 32
narrow_by true n m fits is = subst (λ (x : ℕ). x < 2 ^ 32) (some_same n m is) (fits refl)
narrow_by false n m fits is = absurd (cc)

narrowed_small : (o : Option ℕ) (m : ℕ) → option_and_then narrowed o ≡ Some m → m < 2 ^ 32
narrowed_small None m is = absurd (cc)
narrowed_small (Some n) m is = narrow_by (nat_lt n (2 ^ 32)) n m (ltb-true n (2 ^ 32)) is

-- a number of 32 bits is below 2 ^ 32
pub u32_in_small : (d : Data) (m : ℕ) → u32_in d ≡ Some m → m < 2 ^ 32
u32_in_small d m is = narrowed_small (u64_in d) m is
