-- What is written for a value has no line feed but its last byte.
use Rattle.std.proofs.Common.{◌≡◌, ◌≢◌, ℕ, zero, suc, ◌/◌, ◌%◌, ◌==◌, List, [], ◌∷◌, ◌++◌, Bool}
use Rattle.std.proofs.Common.{true, false, cond, not, refl, arith}
use Rattle.std.specs.Prelude.{All, decimal, nat_lt, pos, negsuc, ℤ}
use Rattle.std.specs.Char.{digit_char}
use Rattle.std.specs.Fmt.{digit_glyph, digits, digits_onto, signed_decimal}
use Rattle.std.specs.List.{list_all}
use Rattle.std.proofs.lemmas.Bool.{and_parts}
use Rattle.std.proofs.lemmas.Bool.Decides.{nat_tests}
use Rattle.std.proofs.lemmas.List.Elements.{All-append, All-cons, All-nil}
use Rattle.json.specs.Print.{escape, escape_byte, escape_letter, quoted}
use Rattle.serde_json.specs.Data.{Data, Num, Items, Members, unsigned, negative, float, null}
use Rattle.serde_json.specs.Data.{boolean, number, string, array, object, no_items, item}
use Rattle.serde_json.specs.Data.{no_members, member}
use Rattle.serde_json.specs.Written.{comma_if, compact_text, items_text, members_text, number_text}
use Rattle.row_docs.specs.WritingTexts.{IsOneLine, text}

abbrev IsLine : List ℕ → Type 0
IsLine bytes = All (λ byte. byte ≢ 10) bytes

none : IsLine []
none = All-nil (λ byte. byte ≢ 10)

more : (b : ℕ) (bytes : List ℕ) → b ≢ 10 → IsLine bytes → IsLine (b ∷ bytes)
more b bytes h rest = All-cons (λ byte. byte ≢ 10) b bytes h rest

plain : (b : ℕ) → not (b == 10) ≡ true → b ≢ 10
plain b h = λ e. grind (arith, nat_tests, h, e)

-- a text that is written out
literal : (bytes : List ℕ) → list_all (λ b. not (b == 10)) bytes ≡ true → IsLine bytes
literal [] h = none
literal (b ∷ bytes) h =
    let parts = and_parts (not (b == 10)) (list_all (λ c. not (c == 10)) bytes) h in
    more b bytes (plain b parts.0) (literal bytes parts.1)

joined : (xs ys : List ℕ) → IsLine xs → IsLine ys → IsLine (xs ++ ys)
joined xs ys h k = All-append (λ byte. byte ≢ 10) xs ys h k

-- ---- strings: a control character is written as its escape

letter : (x : ℕ) → escape_letter x ≢ 10
letter x = λ e. grind (arith, nat_tests, e)

glyph : (d : ℕ) → digit_char d ≢ 10
glyph d = λ e. grind (arith, nat_tests, e)

by_tests : (short long : Bool) (u v w : List ℕ) → IsLine u → IsLine v → (long ≡ false → IsLine w)
    → IsLine (cond short u (cond long v w))
by_tests true long u v w p q r = p
by_tests false true u v w p q r = q
by_tests false false u v w p q r = r refl

printable : (x : ℕ) → nat_lt x 32 ≡ false → x ≢ 10
printable x h = λ e. grind (arith, nat_tests, h, e)

escaped_byte : (x : ℕ) → IsLine (escape_byte x)
unfolding escape_byte
escaped_byte x =
    by_tests (nat_lt 0 (escape_letter x)) (nat_lt x 32) _ _ _
    (more 92 (escape_letter x ∷ []) (omega arith) (more (escape_letter x) [] (letter x) none))
    (joined (92 ∷ 117 ∷ 48 ∷ 48 ∷ []) (digit_char (x / 16) ∷ digit_char (x % 16) ∷ [])
    (literal (92 ∷ 117 ∷ 48 ∷ 48 ∷ []) refl)
    (more (digit_char (x / 16)) (digit_char (x % 16) ∷ []) (glyph (x / 16))
    (more (digit_char (x % 16)) [] (glyph (x % 16)) none)))
    (λ e. more x [] (printable x e) none)

escaped : (s : List ℕ) → IsLine (escape s)
escaped [] = none
escaped (x ∷ s) = joined (escape_byte x) (escape s) (escaped_byte x) (escaped s)

quoted_line : (s : List ℕ) → IsLine (quoted s)
quoted_line s =
    more 34 (escape s ++ 34 ∷ []) (omega arith)
    (joined (escape s) (34 ∷ []) (escaped s) (more 34 [] (omega arith) none))

-- ---- numbers

digit : (d : ℕ) → digit_glyph false d ≢ 10
digit d = λ e. grind (arith, nat_tests, e)

onto_by : (last : Bool) (u v : List ℕ) → IsLine u → IsLine v → IsLine (cond last u v)
onto_by true u v p q = p
onto_by false u v p q = q

onto : (k n : ℕ) (bytes : List ℕ) → IsLine bytes → IsLine (digits_onto k 10 false n bytes)
onto zero n bytes h = h
onto (suc k) n bytes h =
    let next = more (digit_glyph false (n % 10)) bytes (digit (n % 10)) h in
    onto_by (n / 10 == 0) _ _ next (onto k (n / 10) (digit_glyph false (n % 10) ∷ bytes) next)

decimal_line : (n : ℕ) → IsLine (decimal n)
unfolding digits
decimal_line n = onto 64 n [] none

signed_line : (z : ℤ) → IsLine (signed_decimal z)
signed_line (pos n) = decimal_line n
signed_line (negsuc n) = more 45 (decimal (suc n)) (omega arith) (decimal_line (suc n))

number_line : (n : Num) → IsLine (number_text n)
number_line (unsigned n) = decimal_line n
number_line (negative z) = signed_line z
number_line (float x) = none

-- ---- values

comma_line : (later : Bool) → IsLine (comma_if later)
comma_line true = more 44 [] (omega arith) none
comma_line false = none

constant : (b : Bool) → IsLine (compact_text (boolean b))
constant true = literal (compact_text (boolean true)) refl
constant false = literal (compact_text (boolean false)) refl

mutual
  value_line : (d : Data) → IsLine (compact_text d)
  value_line null = literal (compact_text null) refl
  value_line (boolean b) = constant b
  value_line (number n) = number_line n
  value_line (string s) = quoted_line s
  value_line (array ds) = more 91 (items_text false ds) (omega arith) (items_line false ds)
  value_line (object ms) = more 123 (members_text false ms) (omega arith) (members_line false ms)

  items_line : (later : Bool) (ds : Items) → IsLine (items_text later ds)
  items_line later no_items = more 93 [] (omega arith) none
  items_line later (item d ds) =
      joined (comma_if later) (compact_text d ++ items_text true ds) (comma_line later)
      (joined (compact_text d) (items_text true ds) (value_line d) (items_line true ds))

  members_line : (later : Bool) (ms : Members) → IsLine (members_text later ms)
  members_line later no_members = more 125 [] (omega arith) none
  members_line later (member k d ms) =
      joined (comma_if later) (quoted k ++ 58 ∷ (compact_text d ++ members_text true ms))
      (comma_line later)
      (joined (quoted k) (58 ∷ (compact_text d ++ members_text true ms)) (quoted_line k)
      (more 58 (compact_text d ++ members_text true ms) (omega arith)
      (joined (compact_text d) (members_text true ms) (value_line d) (members_line true ms))))

-- the text of a value has one line feed, its last byte
pub one_line : (d : Data) → IsOneLine (text d)
one_line d = (compact_text d, refl, value_line d)
