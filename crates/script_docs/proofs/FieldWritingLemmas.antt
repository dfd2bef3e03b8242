-- If some field reads as a list, the one that is written does, and none is shorter.
--
-- A weight is written with the fewest digits of its value, and an element without blanks. So each
-- written element is no longer than the piece of any field that gives the same item, and has no
-- comma. Piece by piece the written field reads as the same list; and since it is one field for one
-- list, two lists with one written field are equal.
use Rattle.std.proofs.Common.{ℕ, ◌≡◌, ◌≤◌, ◌<◌, ◌+◌, ◌-◌, ◌*◌, ◌/◌, ◌%◌, ◌==◌, inl, inr, List, []}
use Rattle.std.proofs.Common.{◌∷◌, ◌++◌, Bool, true, false, cond, length, map, sum_by, refl, sym}
use Rattle.std.proofs.Common.{◌∙◌, ap, subst, arith, append-nil, length-append}
use Rattle.std.specs.Prelude.{All, Decides, MatchBool, codes, flat_map, nat_eq, slice_index}
use Rattle.std.specs.Cmp.Lexicographic.{pointwise, pointwise_decides, bytes_decides}
use Rattle.std.specs.List.{list_all, slice_split}
use Rattle.std.specs.Str.{str_to_ascii_lowercase}
use Rattle.std.proofs.lemmas.Bool.{and_from, and_parts, cases_Bool, true≢false}
use Rattle.std.proofs.lemmas.Bool.Decides.{nat_tests}
use Rattle.std.proofs.lemmas.List.{length-map}
use Rattle.std.proofs.lemmas.List.Elements.{All-append, All-cons, All-head, All-nil, All-tail}
use Rattle.std.proofs.lemmas.List.Splits.{slice_split_at, slice_split_none}
use Rattle.lang_core.specs.Grammar.{is_digit}
use Rattle.lang_core.specs.Range.{IsRange}
use Rattle.lang_core.specs.Text.{pieces, pieces_by}
use Rattle.lang_core.proofs.LookupTextLemmas.{lower-range}
use Rattle.lang_core.proofs.PiecesLemmas.{size_pieces, size_cons}
use Rattle.lang_core.proofs.RangeText.{is_range_byte, range_bytes}
use Rattle.list_core.proofs.FieldElementLemmas.{range_is_extended}
use Rattle.list_core.proofs.FieldSeparatorLemmas.{no_pieces}
use Rattle.list_core.specs.Field.{IsElement, IsPadded, RangeGrammar, WeightGrammar}
use Rattle.list_core.specs.Field.{ArePieces, IsField, RefusesField}
use Rattle.list_core.specs.Item.{Item, item_eq}
use Rattle.list_core.specs.inner.Item.{item_equiv}
use Rattle.list_core.specs.Weight.{HasWeight, IsQvalue, thousandths}
use Rattle.list_core.specs.declared.fault.NegoFault.{NegoFault}
use Rattle.list_core.specs.declared.fault.NegoFault.TheVariants.{FieldMalformed, FieldTooLong}
use Rattle.list_core.specs.declared.fault.NegoFault.TheVariants.{FallbackMalformed, NoMemory}
use Rattle.std.specs.Option.{option_eq}
use Rattle.std.specs.Prelude.{◌&&◌, None, Option, Some}
use Rattle.list_core.specs.declared.field.Malformed.TheVariants.{Refused}
use Rattle.list_core.specs.declared.scheme.Scheme.{Scheme}
use Rattle.list_core.specs.declared.scheme.Scheme.TheVariants.{Basic, Extended}
use Rattle.list_core.proofs.FieldLemmas.{malformed_is_no_field}
use Rattle.list_core.proofs.FieldUnique.{one_items, item_is}
use Rattle.list_core.proofs.WeightBounds.{small_weights}
use Rattle.script_docs.specs.FieldWriting.{IsListed, field_text, fraction_text, item_text}
use Rattle.script_docs.specs.FieldWriting.{ones_text, tens_text, weight_text}
use Rattle.script_docs.specs.StepFields.{Lists}
use Rattle.list_core.proofs.PackedTagLemmas.{eq_is as same_number}

-- ---- the digits of a weight

is_none : (n : ℕ) → (n == 0) ≡ true → n ≡ 0
is_none n h = grind (arith, nat_tests)

ones_none : (n : ℕ) → (n == 0) ≡ true → ones_text n ≡ []
ones_none n h = ap (λ (b : Bool). cond b [] ((48 + n) ∷ [])) h

ones_some : (n : ℕ) → (n == 0) ≡ false → ones_text n ≡ (48 + n) ∷ []
ones_some n h = ap (λ (b : Bool). cond b [] ((48 + n) ∷ [])) h

tens_none : (n : ℕ) → (n == 0) ≡ true → tens_text n ≡ []
tens_none n h = ap (λ (b : Bool). cond b [] ((48 + n / 10) ∷ ones_text (n % 10))) h

tens_some : (n : ℕ) → (n == 0) ≡ false → tens_text n ≡ (48 + n / 10) ∷ ones_text (n % 10)
tens_some n h = ap (λ (b : Bool). cond b [] ((48 + n / 10) ∷ ones_text (n % 10))) h

fraction_none : (n : ℕ) → (n == 0) ≡ true → fraction_text n ≡ []
fraction_none n h = ap (λ (b : Bool). cond b [] (46 ∷ (48 + n / 100) ∷ tens_text (n % 100))) h

fraction_some : (n : ℕ) → (n == 0) ≡ false
    → fraction_text n ≡ 46 ∷ (48 + n / 100) ∷ tens_text (n % 100)
fraction_some n h = ap (λ (b : Bool). cond b [] (46 ∷ (48 + n / 100) ∷ tens_text (n % 100))) h

-- what is required of each digit, of all
module _ (P : ℕ → Type 0) (digit : (n : ℕ) → n < 10 → P (48 + n)) where
  ones_each : (n : ℕ) → n < 10 → All P (ones_text n)
  ones_each n h = elim (cases_Bool (n == 0)) [
    | inl e ↦ subst (All P) (sym (ones_none n e)) (All-nil P)
    | inr e ↦ subst (All P) (sym (ones_some n e)) (All-cons P (48 + n) [] (digit n h) (All-nil P))
  ]

  tens_each : (n : ℕ) → n < 100 → All P (tens_text n)
  tens_each n h = elim (cases_Bool (n == 0)) [
    | inl e ↦ subst (All P) (sym (tens_none n e)) (All-nil P)
    | inr e ↦ subst (All P) (sym (tens_some n e))
        (All-cons P (48 + n / 10) (ones_text (n % 10)) (digit (n / 10) (omega arith))
        (ones_each (n % 10) (omega arith)))
  ]

digit_is : (n : ℕ) → n < 10 → is_digit (48 + n) ≡ true
digit_is n h = grind (arith, nat_tests)

all_digits : (text : List ℕ) → All (λ b. is_digit b ≡ true) text → list_all is_digit text ≡ true
all_digits [] h = refl
all_digits (b ∷ text) h =
    and_from (is_digit b) (list_all is_digit text) (All-head (λ x. is_digit x ≡ true) b text h)
    (all_digits text (All-tail (λ x. is_digit x ≡ true) b text h))

ones_value : (n : ℕ) → slice_index (ones_text n) 0 - 48 ≡ n
ones_value n = elim (cases_Bool (n == 0)) [
  | inl e ↦ subst (λ (t : List ℕ). slice_index t 0 - 48 ≡ n) (sym (ones_none n e))
      (omega (arith, is_none n e))
  | inr e ↦ subst (λ (t : List ℕ). slice_index t 0 - 48 ≡ n) (sym (ones_some n e)) (omega arith)
]

tens_value : (n : ℕ) → n < 100
    → 10 * (slice_index (tens_text n) 0 - 48) + (slice_index (tens_text n) 1 - 48) ≡ n
tens_value n h = elim (cases_Bool (n == 0)) [
  | inl e ↦ subst (λ (t : List ℕ). 10 * (slice_index t 0 - 48) + (slice_index t 1 - 48) ≡ n)
      (sym (tens_none n e)) (omega (arith, is_none n e))
  | inr e ↦ (let last = ones_value (n % 10) in
      subst (λ (t : List ℕ). 10 * (slice_index t 0 - 48) + (slice_index t 1 - 48) ≡ n)
      (sym (tens_some n e)) (omega arith))
]

ones_length : (n : ℕ) → length (ones_text n) ≤ 1
ones_length n = elim (cases_Bool (n == 0)) [
  | inl e ↦ subst (λ (t : List ℕ). length t ≤ 1) (sym (ones_none n e)) (omega arith)
  | inr e ↦ subst (λ (t : List ℕ). length t ≤ 1) (sym (ones_some n e)) (omega arith)
]

tens_length : (n : ℕ) → length (tens_text n) ≤ 2
tens_length n = elim (cases_Bool (n == 0)) [
  | inl e ↦ subst (λ (t : List ℕ). length t ≤ 2) (sym (tens_none n e)) (omega arith)
  | inr e ↦ (let last = ones_length (n % 10) in
      subst (λ (t : List ℕ). length t ≤ 2) (sym (tens_some n e)) (omega arith))
]

-- whole tens take one digit
tens_short : (n : ℕ) → n % 10 ≡ 0 → length (tens_text n) ≤ 1
tens_short n h = elim (cases_Bool (n == 0)) [
  | inl e ↦ subst (λ (t : List ℕ). length t ≤ 1) (sym (tens_none n e)) (omega arith)
  | inr e ↦ (let last : ones_text (n % 10) ≡ [] = ap ones_text h in
      let size : length (ones_text (n % 10)) ≡ 0 = ap length last in
      subst (λ (t : List ℕ). length t ≤ 1) (sym (tens_some n e)) (omega arith))
]

fraction_length : (n k : ℕ) → length (tens_text (n % 100)) ≤ k → length (fraction_text n) ≤ 2 + k
fraction_length n k h = elim (cases_Bool (n == 0)) [
  | inl e ↦ subst (λ (t : List ℕ). length t ≤ 2 + k) (sym (fraction_none n e)) (omega arith)
  | inr e ↦ subst (λ (t : List ℕ). length t ≤ 2 + k) (sym (fraction_some n e)) (omega arith)
]

-- ---- the qvalue of a weight below 1000

qvalue_again : (n : ℕ) → n < 1000 → IsQvalue (48 ∷ fraction_text n) n
qvalue_again n h = elim (cases_Bool (n == 0)) [
  | inl e ↦ subst (λ (t : List ℕ). IsQvalue (48 ∷ t) n) (sym (fraction_none n e))
      (inl (refl, is_none n e))
  | inr e ↦ (let rest : n % 100 < 100 = omega arith in
      let value = tens_value (n % 100) rest in
      let size = tens_length (n % 100) in
      let digits =
      all_digits (tens_text (n % 100))
      (tens_each (λ b. is_digit b ≡ true) digit_is (n % 100) rest) in
      subst (λ (t : List ℕ). IsQvalue (48 ∷ t) n) (sym (fraction_some n e)) (
        refl,
        omega arith,
        inl (
          refl,
          and_from (is_digit (48 + n / 100)) (list_all is_digit (tens_text (n % 100)))
              (digit_is (n / 100) (omega arith)) digits,
          omega arith,
        ),
      ))
]

low_digit : (b : ℕ) → is_digit b ≡ true → b - 48 ≤ 9
low_digit b h = grind (arith, nat_tests)

whole_tenths : (n a : ℕ) → n ≡ 100 * a → n % 100 ≡ 0
whole_tenths n a h = omega arith

whole_hundredths : (n a b : ℕ) → n ≡ 100 * a + 10 * b → b ≤ 9 → (n % 100) % 10 ≡ 0
whole_hundredths n a b h low = omega arith

-- none is shorter
by_digits : (digits : List ℕ) (n : ℕ) → list_all is_digit digits ≡ true → length digits ≤ 3
    → n ≡ thousandths digits → length (fraction_text n) ≤ 1 + length digits
by_digits [] n all few value =
    let zero : n ≡ 0 = omega (arith, value) in
    let none : fraction_text n ≡ [] = ap fraction_text zero in
    let size : length (fraction_text n) ≡ 0 = ap length none in
    omega arith
by_digits (x ∷ []) n all few value =
    let tenths : n ≡ 100 * (x - 48) = omega (arith, value) in
    let none : tens_text (n % 100) ≡ [] = ap tens_text (whole_tenths n (x - 48) tenths) in
    let size : length (tens_text (n % 100)) ≡ 0 = ap length none in
    let short = fraction_length n 0 (omega arith) in
    omega arith
by_digits (x ∷ y ∷ []) n all few value =
    let low =
    low_digit y (and_parts (is_digit y) true
    (and_parts (is_digit x) (list_all is_digit (y ∷ [])) all).1).0 in
    let hundredths : n ≡ 100 * (x - 48) + 10 * (y - 48) = omega (arith, value) in
    let short =
    fraction_length n 1
    (tens_short (n % 100) (whole_hundredths n (x - 48) (y - 48) hundredths low)) in
    omega arith
by_digits (x ∷ y ∷ z ∷ more) n all few value =
    let short = fraction_length n 2 (tens_length (n % 100)) in
    omega arith

qvalue_shortest : (text : List ℕ) (n : ℕ) → n < 1000 → IsQvalue text n
    → length (48 ∷ fraction_text n) ≤ length text
qvalue_shortest [] n h q = absurd q
qvalue_shortest (b ∷ []) n h q = elim q [
  | inl x ↦ (let none : fraction_text n ≡ [] = ap fraction_text x.1 in
      let size : length (fraction_text n) ≡ 0 = ap length none in
      omega arith)
  | inr x ↦ absurd (let e : n ≡ 1000 = x.1 in omega arith)
]
qvalue_shortest (b ∷ point ∷ digits) n h q = elim q.2 [
  | inl x ↦ (let short = by_digits digits n x.1 q.1 x.2 in omega arith)
  | inr x ↦ absurd (let e : n ≡ 1000 = x.2 in omega arith)
]

-- ---- weights

is_full : (n : ℕ) → (n == 1000) ≡ true → n ≡ 1000
is_full n h = grind (arith, nat_tests)

is_part : (n : ℕ) → (n == 1000) ≡ false → n ≤ 1000 → n < 1000
is_part n h small = grind (arith, nat_tests)

weight_full : (n : ℕ) → (n == 1000) ≡ true → weight_text n ≡ []
weight_full n h = ap (λ (b : Bool). cond b [] (codes ";q=0" ++ fraction_text n)) h

weight_part : (n : ℕ) → (n == 1000) ≡ false → weight_text n ≡ 59 ∷ 113 ∷ 61 ∷ 48 ∷ fraction_text n
weight_part n h = ap (λ (b : Bool). cond b [] (codes ";q=0" ++ fraction_text n)) h

abbrev IsShorter : (List ℕ → Type 0) → List ℕ → List ℕ → Type 0
IsShorter Fits text other = Fits text × (length text ≤ length other)

part_again : (text : List ℕ) (n : ℕ) → n < 1000 → HasWeight text n
    → IsShorter (λ t. HasWeight t n) (59 ∷ 113 ∷ 61 ∷ 48 ∷ fraction_text n) text
part_again text n h w =
    let short = qvalue_shortest w.qvalue n h w.qvalue_ok in
    let size : length text ≡ length (w.before ++ 59 ∷ (w.after ++ w.letter ∷ 61 ∷ w.qvalue)) =
    ap length w.whole in
    let split = length-append w.before (59 ∷ (w.after ++ w.letter ∷ 61 ∷ w.qvalue)) in
    let rest = length-append w.after (w.letter ∷ 61 ∷ w.qvalue) in (
      record {
        before = [];
        after = [];
        letter = 113;
        qvalue = 48 ∷ fraction_text n;
        whole = refl;
        before_ok = refl;
        after_ok = refl;
        letter_ok = inl refl;
        qvalue_ok = qvalue_again n h;
      },
      omega arith,
    )

weight_again : (scheme : Scheme) (text : List ℕ) (n : ℕ) → n ≤ 1000 → WeightGrammar scheme text n
    → IsShorter (λ t. WeightGrammar scheme t n) (weight_text n) text
weight_again Basic text n small w = elim (cases_Bool (n == 1000)) [
  | inl e ↦ subst (λ (t : List ℕ). IsShorter (λ u. WeightGrammar Basic u n) t text)
      (sym (weight_full n e)) (inl (refl, is_full n e), omega arith)
  | inr e ↦ elim w [
    | inl none ↦ absurd (let full : n ≡ 1000 = none.1 in let part = is_part n e small in
        omega arith)
    | inr some ↦ (let again = part_again text n (is_part n e small) some in
        subst (λ (t : List ℕ). IsShorter (λ u. WeightGrammar Basic u n) t text)
        (sym (weight_part n e)) (inr again.0, again.1))
  ]
]
weight_again Extended text n small w =
    let none : weight_text n ≡ [] = ap weight_text w.1 in
    subst (λ (t : List ℕ). IsShorter (λ u. WeightGrammar Extended u n) t text) (sym none)
    ((refl, w.1), omega arith)

-- ---- no byte is a comma

abbrev IsPlain : List ℕ → Type 0
IsPlain text = All (λ b. (b == 44) ≡ false) text

plain_digit : (n : ℕ) → n < 10 → ((48 + n) == 44) ≡ false
plain_digit n h = grind (arith, nat_tests)

plain_byte : (b : ℕ) → is_range_byte b ≡ true → (b == 44) ≡ false
plain_byte b h = grind (arith, nat_tests)

plain_range : (text : List ℕ) → list_all is_range_byte text ≡ true → IsPlain text
plain_range [] h = All-nil (λ b. (b == 44) ≡ false)
plain_range (b ∷ text) h =
    let parts = and_parts (is_range_byte b) (list_all is_range_byte text) h in
    All-cons (λ x. (x == 44) ≡ false) b text (plain_byte b parts.0) (plain_range text parts.1)

plain_more : (b : ℕ) (text : List ℕ) → (b == 44) ≡ false → IsPlain text → IsPlain (b ∷ text)
plain_more b text h rest = All-cons (λ x. (x == 44) ≡ false) b text h rest

plain_fraction : (n : ℕ) → n < 1000 → IsPlain (fraction_text n)
plain_fraction n h = elim (cases_Bool (n == 0)) [
  | inl e ↦ subst IsPlain (sym (fraction_none n e)) (All-nil (λ b. (b == 44) ≡ false))
  | inr e ↦ subst IsPlain (sym (fraction_some n e))
      (plain_more 46 ((48 + n / 100) ∷ tens_text (n % 100)) refl
      (plain_more (48 + n / 100) (tens_text (n % 100)) (plain_digit (n / 100) (omega arith))
      (tens_each (λ b. (b == 44) ≡ false) plain_digit (n % 100) (omega arith))))
]

plain_weight : (n : ℕ) → n ≤ 1000 → IsPlain (weight_text n)
plain_weight n h = elim (cases_Bool (n == 1000)) [
  | inl e ↦ subst IsPlain (sym (weight_full n e)) (All-nil (λ b. (b == 44) ≡ false))
  | inr e ↦ subst IsPlain (sym (weight_part n e))
      (plain_more 59 (113 ∷ 61 ∷ 48 ∷ fraction_text n) refl
      (plain_more 113 (61 ∷ 48 ∷ fraction_text n) refl
      (plain_more 61 (48 ∷ fraction_text n) refl
      (plain_more 48 (fraction_text n) refl (plain_fraction n (is_part n e h))))))
]

-- ---- an element

-- the element that is written for an item that some piece gives
record IsAgain (scheme : Scheme) (piece : List ℕ) (item : Item) : Type 0 where
  fits : IsPadded scheme (item_text item) item
  shorter : length (item_text item) ≤ length piece
  plain : IsPlain (item_text item)

element_again : (scheme : Scheme) (piece : List ℕ) (item : Item) → item.weight ≤ 1000
    → IsPadded scheme piece item → IsAgain scheme piece item
element_again scheme piece item small p =
    let e = p.element_ok in
    let lower_size : length (str_to_ascii_lowercase e.range) ≡ length e.range = simp length-map in
    let range_ok : IsRange (RangeGrammar scheme) item.range =
    subst (IsRange (RangeGrammar scheme)) (sym e.range_is) e.range_ok in
    let extended = range_is_extended scheme item.range range_ok in
    let own : str_to_ascii_lowercase item.range ≡ item.range = lower-range item.range extended in
    let weight = weight_again scheme e.weight item.weight small e.weight_ok in
    let element : IsElement scheme (item_text item) item = record {
      range = item.range;
      weight = weight_text item.weight;
      whole = refl;
      range_ok = subst (IsRange (RangeGrammar scheme)) (sym own) range_ok;
      range_is = sym own;
      weight_ok = weight.0;
      unlisted = e.unlisted;
    } in
    let range_size : length item.range ≡ length e.range = ap length e.range_is ∙ lower_size in
    let size : length piece ≡ length (p.before ++ (p.element ++ p.after)) = ap length p.whole in
    let first = length-append p.before (p.element ++ p.after) in
    let second = length-append p.element p.after in
    let inner : length p.element ≡ length (e.range ++ e.weight) = ap length e.whole in
    let third = length-append e.range e.weight in
    let own_size = length-append item.range (weight_text item.weight) in
    let short : length (weight_text item.weight) ≤ length e.weight = weight.1 in
    record {
      fits = record {
        before = [];
        element = item_text item;
        after = [];
        whole = sym (append-nil (item_text item));
        before_ok = refl;
        after_ok = refl;
        element_ok = element;
      };
      shorter = omega arith;
      plain =
          All-append (λ b. (b == 44) ≡ false) item.range (weight_text item.weight)
          (plain_range item.range (range_bytes item.range extended))
          (plain_weight item.weight small);
    }

-- ---- a field

abbrev ArePlain : List Item → Type 0
ArePlain [] = Unit {0}
ArePlain (i ∷ items) = IsPlain (item_text i) × ArePlain items

-- the pieces that are written for items that some pieces give
record AreAgain (scheme : Scheme) (pieces : List (List ℕ)) (items : List Item) : Type 0 where
  fits : ArePieces scheme Refused (map item_text items) items
  shorter : sum_by (λ s. length s + 1) (map item_text items) ≤ sum_by (λ s. length s + 1) pieces
  plain : ArePlain items

abbrev AreSmall : List Item → Type 0
AreSmall items = All (λ i. i.weight ≤ 1000) items

pieces_again : (scheme : Scheme) (pieces : List (List ℕ)) (items : List Item) → AreSmall items
    → ArePieces scheme Refused pieces items → AreAgain scheme pieces items
pieces_again scheme [] [] small a = record { fits = tt; shorter = omega arith; plain = tt }
pieces_again scheme [] (i ∷ items) small a = absurd a
pieces_again scheme (p ∷ pieces) [] small a = record {
  fits = tt;
  shorter = omega arith;
  plain = tt;
}
pieces_again scheme (p ∷ pieces) (i ∷ items) small a = elim a [
  | inl x ↦ (let rest = pieces_again scheme pieces (i ∷ items) small x.1 in
      let short = rest.shorter in
      let size = size_cons p pieces in
      record { fits = rest.fits; shorter = omega arith; plain = rest.plain })
  | inr x ↦ (let rest =
      pieces_again scheme pieces items (All-tail (λ j. j.weight ≤ 1000) i items small) x.1 in
      let first = element_again scheme p i (All-head (λ j. j.weight ≤ 1000) i items small) x.0 in
      let short = rest.shorter in
      let shorter = first.shorter in
      let size = size_cons p pieces in
      let own = size_cons (item_text i) (map item_text items) in
      record {
        fits = inr (first.fits, rest.fits);
        shorter = omega arith;
        plain = (first.plain, rest.plain);
      })
]

abbrev after_commas : List Item → List ℕ
after_commas items = flat_map (λ i. (44 ∷ []) ++ item_text i) items

split_again : (text : List ℕ) (items : List Item) → IsPlain text → ArePlain items
    → slice_split (λ b. b == 44) (text ++ after_commas items) ≡ text ∷ map item_text items
split_again text [] first rest =
    ap (slice_split (λ b. b == 44)) (append-nil text) ∙ slice_split_none (λ b. b == 44) text first
split_again text (i ∷ items) first rest =
    slice_split_at (λ b. b == 44) text 44 (item_text i ++ after_commas items) first refl
    ∙ ap (λ (t : List (List ℕ)). text ∷ t) (split_again (item_text i) items rest.0 rest.1)

field_pieces : (i : Item) (items : List Item) → ArePlain (i ∷ items)
    → pieces_by 44 (field_text (i ∷ items)) ≡ map item_text (i ∷ items)
unfolding pieces_by
field_pieces i items plain = split_again (item_text i) items plain.0 plain.1

field_again : (scheme : Scheme) (text : List ℕ) (items : List Item)
    → IsField scheme Refused text items
    → IsField scheme Refused (field_text items) items × (length (field_text items) ≤ length text)
field_again scheme text [] f = (
  subst (λ (ps : List (List ℕ)). ArePieces scheme Refused ps []) (sym no_pieces) (refl, tt),
  omega arith,
)
field_again scheme text (i ∷ items) f =
    let again =
    pieces_again scheme (pieces_by 44 text) (i ∷ items)
    (small_weights scheme Refused text (i ∷ items) f) f in
    let same = field_pieces i items again.plain in
    let size = size_pieces 44 text in
    let own = size_pieces 44 (field_text (i ∷ items)) in
    let same_size : sum_by (λ s. length s + 1) (pieces_by 44 (field_text (i ∷ items)))
    ≡ sum_by (λ s. length s + 1) (map item_text (i ∷ items)) =
    ap (sum_by (λ s. length s + 1)) same in
    let short = again.shorter in (
      subst (λ (ps : List (List ℕ)). ArePieces scheme Refused ps (i ∷ items)) (sym same) again.fits,
      omega arith,
    )

-- the field that is written reads as the list, and is no longer than one that does
pub shortest : (scheme : Scheme) (field : List ℕ) (items : List Item) → Lists scheme field items
    → Lists scheme (field_text items) items × (length (field_text items) ≤ length field)
shortest scheme field items lists =
    let again = field_again scheme field items lists.1 in
    let short = again.1 in
    let few : length field ≤ 65535 = lists.0 in
    ((omega arith, again.0), short)

-- the field that is written reads as the list where some field does
pub listed_again : (scheme : Scheme) (items : List Item) → IsListed scheme items
    → Lists scheme (field_text items) items
listed_again scheme items listed = (shortest scheme listed.0 items listed.1).0

-- ---- reading back

-- a field that is refused is of no list
pub refused_lists_none : (scheme : Scheme) (text : List ℕ) (items : List Item) (fault : NegoFault)
    → (fault ≡ NoMemory → ⊥) → RefusesField scheme Refused text fault → ¬ Lists scheme text items
refused_lists_none scheme text items FieldTooLong other refuses lists =
    let few : length text ≤ 65535 = lists.0 in omega (arith, refuses)
refused_lists_none scheme text items (FieldMalformed offset) other refuses lists =
    malformed_is_no_field scheme text offset items refuses.1 lists.1
refused_lists_none scheme text items (FallbackMalformed offset) other refuses lists = absurd refuses
refused_lists_none scheme text items NoMemory other refuses lists = other refl

same_texts : (a b : List (List ℕ)) → pointwise (pointwise nat_eq) a b ≡ true → a ≡ b
same_texts [] [] h = refl
same_texts [] (y ∷ b) h = cc
same_texts (x ∷ a) [] h = cc
same_texts (x ∷ a) (y ∷ b) h =
    let parts = and_parts (pointwise nat_eq x y) (pointwise (pointwise nat_eq) a b) h in
    ap (λ (t : List ℕ). t ∷ a) ((bytes_decides x y).0 parts.0)
    ∙ ap (λ (t : List (List ℕ)). y ∷ t) (same_texts a b parts.1)

same_listed : (a b : Option (List (List ℕ)))
    → option_eq (pointwise (pointwise nat_eq)) a b ≡ true → a ≡ b
same_listed None None h = refl
same_listed None (Some y) h = cc
same_listed (Some x) None h = cc
same_listed (Some x) (Some y) h = ap Some (same_texts x y h)

item_decides : (i j : Item) → Decides (item_eq i j) (i ≡ j)
item_decides i j = (
  λ h. (let both =
      and_parts (pointwise nat_eq i.range j.range && nat_eq i.weight j.weight)
      (option_eq (pointwise (pointwise nat_eq)) i.listed j.listed) h in
      let parts = and_parts (pointwise nat_eq i.range j.range) (nat_eq i.weight j.weight) both.0 in
      item_is i j ((bytes_decides i.range j.range).0 parts.0)
      (same_number i.weight j.weight parts.1) (same_listed i.listed j.listed both.1)),
  λ e. subst (λ (x : Item). item_eq i x ≡ true) e (item_equiv.refl i),
)

-- The comparison of lists of items says whether they are equal.
pub same_items : (xs ys : List Item) → Decides (pointwise item_eq xs ys) (xs ≡ ys)
same_items xs ys = pointwise_decides item_decides xs ys

-- the field of one list is of another just where they are the same
pub lists_where_same : (scheme : Scheme) (text : List ℕ) (read items : List Item)
    → Lists scheme text read → (same : Bool) → same ≡ pointwise item_eq read items
    → MatchBool same (Lists scheme text items) (¬ Lists scheme text items)
lists_where_same scheme text read items lists true is =
    subst (Lists scheme text) ((same_items read items).0 (sym is)) lists
lists_where_same scheme text read items lists false is =
    λ other. true≢false
    (sym ((same_items read items).1 (one_items scheme Refused text read items lists.1 other.1))
    ∙ sym is)
