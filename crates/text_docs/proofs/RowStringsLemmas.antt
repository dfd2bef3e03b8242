-- Strings with any escapes: how they are read, and where they end.
--
-- RFC 8259, section 7, gives four forms of a character: itself, a backslash and a letter, `\u` and
-- four digits, and two of these for a surrogate pair. For each form `Passes` says what is read, and
-- that it has no quote that ends the string. A string is a list of such characters, so its first
-- quote after no backslash is its end, and it is one lexeme.
use Rattle.std.proofs.Common.{◌≡◌, ◌∙◌, ◌++◌, ◌∷◌, [], ℕ, List, Bool, true, false, cond, ◌&&◌}
use Rattle.std.proofs.Common.{◌||◌, ◌==◌, inl, inr, refl, ap, ap₂, sym, subst}
use Rattle.std.proofs.Common.{append_assoc, true≢false, option_and_then}
use Rattle.std.specs.Prelude.{None, Option, Some, nat_le, nat_lt}
use Rattle.std.specs.List.{All}
use Rattle.std.specs.Char.{encode_utf8, is_digit}
use Rattle.std.proofs.lemmas.Bool.{le-ltb, ne_eqb, or_parts}
use Rattle.std.proofs.lemmas.List.Elements.{All-head, All-tail}
use Rattle.json.specs.Text.{after_high, code_unit, content, is_high_surrogate, is_low_surrogate}
use Rattle.json.specs.Text.{plain, prepend, short_escape, surrogate_pair}
use Rattle.json.specs.Token.{string}
use Rattle.json.specs.Word.{is_operator, is_space}
use Rattle.json.specs.Lex.{Lexeme, Mode, between, in_string, lex, lex_byte, operator, other, space}
use Rattle.json.specs.Lex.{string_token, token}
use Rattle.lang_core.proofs.Basics.{each_true, le_is, true_not}
use Rattle.text_docs.specs.Row.{is_unclosed, is_unclosed_from}
use Rattle.text_docs.specs.RowStrings.{Character, IsCharacter, IsShortEscape, IsString}
use Rattle.text_docs.specs.RowStrings.{IsSurrogatePair, IsUnescaped, IsUnicodeEscape, IsUnit}
use Rattle.text_docs.specs.RowStrings.{as_meant, as_written, is_unescaped}
use Rattle.text_docs.proofs.RowStates.{Piece, append, byte_piece, inside, one_byte}

-- what a string has of a character, whatever comes after it
pub record Passes (c : Character) : Type 0 where
  pub read : (r : List ℕ) → content plain (c.0 ++ r) ≡ prepend c.1 (content plain r)
  pub lexed : (r : List ℕ) → lex in_string (c.0 ++ r) ≡ lex in_string r
  pub piece : Piece inside inside c.0
  pub unclosed : (r : List ℕ) → is_unclosed (c.0 ++ r) ≡ is_unclosed r

-- ---- bytes

stays_inside : (o s : Bool) (x : ℕ) (r : List ℕ) (k : Mode → List Lexeme)
    → lex_byte in_string (cond o operator (cond s space other)) x r k ≡ k in_string
stays_inside true s x r k = refl
stays_inside false true x r k = refl
stays_inside false false x r k = refl

byte_lexed : (b : ℕ) (r : List ℕ) → (b == 34) ≡ false → (b == 92) ≡ false
    → lex in_string (b ∷ r) ≡ lex in_string r
unfolding lex
byte_lexed b r quote backslash =
    rw (quote, backslash) (stays_inside (is_operator b) (is_space b) b r (λ m. lex m r))

-- a byte that is neither a quote nor a backslash does not end a string
pub plain_unclosed : (b : ℕ) (more : List ℕ) → (b == 34) ≡ false → (b == 92) ≡ false
    → is_unclosed (b ∷ more) ≡ is_unclosed more
plain_unclosed b more quote backslash =
    ap (λ t. cond t false (is_unclosed_from (b == 92) more)) quote
    ∙ ap (λ t. is_unclosed_from t more) backslash

-- no byte that is written for itself is a quote or a backslash
pub unescaped_is : (b : ℕ) → is_unescaped b ≡ true → ((b == 34) ≡ false) × ((b == 92) ≡ false)
unescaped_is b is =
    or_parts (b == 34) (b == 92)
    (true_not ((b == 34) || (b == 92)) (each_true (nat_le 32 b) _ is).1)

unescaped_read : (b : ℕ) (r : List ℕ) → is_unescaped b ≡ true
    → content plain (b ∷ r) ≡ prepend (b ∷ []) (content plain r)
unfolding content
unescaped_read b r is =
    let neither = unescaped_is b is in
    let shown : nat_lt b 32 ≡ false =
    le-ltb b 32 (le_is 32 b (each_true (nat_le 32 b) _ is).0) in
    rw (neither.0, neither.1, shown) refl

unescaped_passes : (c : Character) → IsUnescaped c → Passes c
unescaped_passes c one =
    let b = one.byte in
    let neither = unescaped_is b one.plain in
    subst Passes (sym one.is) (record {
      read = λ r. unescaped_read b r one.plain;
      lexed = λ r. byte_lexed b r neither.0 neither.1;
      piece = byte_piece b (one_byte b neither.0 neither.1);
      unclosed = λ r. plain_unclosed b r neither.0 neither.1;
    })

-- ---- a backslash and a letter

no_u : (letter byte : ℕ) → short_escape letter ≡ Some byte → (letter == 117) ≡ false
unfolding short_escape
no_u letter byte means =
    ne_eqb letter 117 (λ e. none_is byte (sym (ap short_escape e) ∙ means))
  where
    none_is : (n : ℕ) → ◌≡◌ {A = Option ℕ} None (Some n) → ⊥
    none_is n is = cc

short_read : (letter byte : ℕ) (r : List ℕ) → short_escape letter ≡ Some byte
    → content plain (92 ∷ letter ∷ r) ≡ prepend (byte ∷ []) (content plain r)
unfolding content
short_read letter byte r means = rw (no_u letter byte means, means) refl

short_lexed : (letter : ℕ) (r : List ℕ) → lex in_string (92 ∷ letter ∷ r) ≡ lex in_string r
unfolding lex
short_lexed letter r = refl

short_passes : (c : Character) → IsShortEscape c → Passes c
short_passes c one =
    let letter = one.letter in
    subst Passes (sym one.is) (record {
      read = λ r. short_read letter one.byte r one.means;
      lexed = λ r. short_lexed letter r;
      piece = record { fit = refl; free = refl; end = refl };
      unclosed = λ r. refl;
    })

-- ---- four hex digits

hex_is : (d b : ℕ) → is_digit b 16 ≡ false → is_digit d 16 ≡ true → (d == b) ≡ false
hex_is d b never is = ne_eqb d b (λ e. true≢false (sym is ∙ ap (λ x. is_digit x 16) e ∙ never))

are_hex : (a b c d unit : ℕ) → code_unit a b c d ≡ Some unit
    → (is_digit a 16 ≡ true) × (is_digit b 16 ≡ true) × (is_digit c 16 ≡ true)
    × (is_digit d 16 ≡ true)
unfolding code_unit
are_hex a b c d unit spells =
    let p = is_digit a 16 in
    let q = is_digit b 16 in
    let s = is_digit c 16 in
    let t = is_digit d 16 in
    let all = some_so (p && q && s && t) _ unit spells in
    let three = each_true (p && q && s) t all in
    let two = each_true (p && q) s three.0 in
    let one = each_true p q two.0 in
    (one.0, one.1, two.1, three.1)
  where
    some_so : (t : Bool) (n m : ℕ) → cond t (Some n) None ≡ Some m → t ≡ true
    some_so true n m is = refl
    some_so false n m is = absurd (cc)

hex_piece : (d : ℕ) → is_digit d 16 ≡ true → Piece inside inside (d ∷ [])
hex_piece d is = byte_piece d (one_byte d (hex_is d 34 refl is) (hex_is d 92 refl is))

hex_unclosed : (d : ℕ) (r : List ℕ) → is_digit d 16 ≡ true
    → is_unclosed (d ∷ r) ≡ is_unclosed r
hex_unclosed d r is = plain_unclosed d r (hex_is d 34 refl is) (hex_is d 92 refl is)

hex_lexed : (d : ℕ) (r : List ℕ) → is_digit d 16 ≡ true
    → lex in_string (d ∷ r) ≡ lex in_string r
hex_lexed d r is = byte_lexed d r (hex_is d 34 refl is) (hex_is d 92 refl is)

u_lexed : (r : List ℕ) → lex in_string (92 ∷ 117 ∷ r) ≡ lex in_string r
unfolding lex
u_lexed r = refl

unit_piece : (w : List ℕ) (unit : ℕ) → IsUnit w unit → Piece inside inside w
unit_piece w unit one =
    let hex = are_hex one.first one.second one.third one.fourth unit one.spells in
    subst (λ (bs : List ℕ). Piece inside inside bs) (sym one.is)
    (append inside inside inside (92 ∷ 117 ∷ [])
    (one.first ∷ one.second ∷ one.third ∷ one.fourth ∷ [])
    (record { fit = refl; free = refl; end = refl })
    (append inside inside inside (one.first ∷ []) (one.second ∷ one.third ∷ one.fourth ∷ [])
    (hex_piece one.first hex.0)
    (append inside inside inside (one.second ∷ []) (one.third ∷ one.fourth ∷ [])
    (hex_piece one.second hex.1)
    (append inside inside inside (one.third ∷ []) (one.fourth ∷ []) (hex_piece one.third hex.2)
    (hex_piece one.fourth hex.3)))))

unit_unclosed : (w : List ℕ) (unit : ℕ) (r : List ℕ) → IsUnit w unit
    → is_unclosed (w ++ r) ≡ is_unclosed r
unit_unclosed w unit r one =
    let hex = are_hex one.first one.second one.third one.fourth unit one.spells in
    ap (λ (bs : List ℕ). is_unclosed (bs ++ r)) one.is
    ∙ hex_unclosed one.first (one.second ∷ one.third ∷ one.fourth ∷ r) hex.0
    ∙ hex_unclosed one.second (one.third ∷ one.fourth ∷ r) hex.1
    ∙ hex_unclosed one.third (one.fourth ∷ r) hex.2
    ∙ hex_unclosed one.fourth r hex.3

unit_lexed : (w : List ℕ) (unit : ℕ) (r : List ℕ) → IsUnit w unit
    → lex in_string (w ++ r) ≡ lex in_string r
unit_lexed w unit r one =
    let hex = are_hex one.first one.second one.third one.fourth unit one.spells in
    ap (λ (bs : List ℕ). lex in_string (bs ++ r)) one.is
    ∙ u_lexed (one.first ∷ one.second ∷ one.third ∷ one.fourth ∷ r)
    ∙ hex_lexed one.first (one.second ∷ one.third ∷ one.fourth ∷ r) hex.0
    ∙ hex_lexed one.second (one.third ∷ one.fourth ∷ r) hex.1
    ∙ hex_lexed one.third (one.fourth ∷ r) hex.2
    ∙ hex_lexed one.fourth r hex.3

-- what is read after `\u` and four digits of this number
abbrev after_unit : List ℕ → ℕ → Option (List ℕ)
after_unit r unit =
    cond (is_high_surrogate unit) (content (after_high unit) r)
    (cond (is_low_surrogate unit) None (prepend (encode_utf8 unit) (content plain r)))

unit_read : (w : List ℕ) (unit : ℕ) (r : List ℕ) → IsUnit w unit
    → content plain (w ++ r) ≡ after_unit r unit
unfolding content
unit_read w unit r one =
    ap (λ (bs : List ℕ). content plain (bs ++ r)) one.is
    ∙ ap (λ (o : Option ℕ). option_and_then (after_unit r) o) one.spells

unicode_read : (c : Character) (r : List ℕ) → IsUnicodeEscape c
    → content plain (c.0 ++ r) ≡ prepend c.1 (content plain r)
unicode_read c r one =
    unit_read c.0 one.unit r one.written
    ∙ ap (λ t. cond t (content (after_high one.unit) r)
    (cond (is_low_surrogate one.unit) None (prepend (encode_utf8 one.unit) (content plain r))))
    one.not_high
    ∙ ap (λ t. cond t None (prepend (encode_utf8 one.unit) (content plain r))) one.not_low
    ∙ ap (λ (bs : List ℕ). prepend bs (content plain r)) (sym one.means)

unicode_passes : (c : Character) → IsUnicodeEscape c → Passes c
unicode_passes c one = record {
  read = λ r. unicode_read c r one;
  lexed = λ r. unit_lexed c.0 one.unit r one.written;
  piece = unit_piece c.0 one.unit one.written;
  unclosed = λ r. unit_unclosed c.0 one.unit r one.written;
}

-- what is read after the second of two surrogates
abbrev after_pair : List ℕ → ℕ → ℕ → Option (List ℕ)
after_pair r high low =
    cond (is_low_surrogate low) (prepend (encode_utf8 (surrogate_pair high low)) (content plain r))
    None

low_read : (w : List ℕ) (high low : ℕ) (r : List ℕ) → IsUnit w low
    → content (after_high high) (w ++ r) ≡ after_pair r high low
unfolding content
low_read w high low r one =
    ap (λ (bs : List ℕ). content (after_high high) (bs ++ r)) one.is
    ∙ ap (λ (o : Option ℕ). option_and_then (after_pair r high) o) one.spells

pair_read : (c : Character) (r : List ℕ) → IsSurrogatePair c
    → content plain (c.0 ++ r) ≡ prepend c.1 (content plain r)
pair_read c r one =
    ap (λ (bs : List ℕ). content plain (bs ++ r)) one.written
    ∙ ap (content plain) (append_assoc one.first one.second r)
    ∙ unit_read one.first one.high (one.second ++ r) one.first_is
    ∙ ap (λ t. cond t (content (after_high one.high) (one.second ++ r))
    (cond (is_low_surrogate one.high) None
    (prepend (encode_utf8 one.high) (content plain (one.second ++ r))))) one.is_high
    ∙ low_read one.second one.high one.low r one.second_is
    ∙ ap (λ t. cond t (prepend (encode_utf8 (surrogate_pair one.high one.low)) (content plain r))
    None) one.is_low
    ∙ ap (λ (bs : List ℕ). prepend bs (content plain r)) (sym one.means)

pair_passes : (c : Character) → IsSurrogatePair c → Passes c
pair_passes c one = record {
  read = λ r. pair_read c r one;
  lexed = λ r. ap (λ (bs : List ℕ). lex in_string (bs ++ r)) one.written
      ∙ ap (lex in_string) (append_assoc one.first one.second r)
      ∙ unit_lexed one.first one.high (one.second ++ r) one.first_is
      ∙ unit_lexed one.second one.low r one.second_is;
  piece =
      subst (λ (bs : List ℕ). Piece inside inside bs) (sym one.written)
      (append inside inside inside one.first one.second
      (unit_piece one.first one.high one.first_is) (unit_piece one.second one.low one.second_is));
  unclosed = λ r. ap (λ (bs : List ℕ). is_unclosed (bs ++ r)) one.written
      ∙ ap is_unclosed (append_assoc one.first one.second r)
      ∙ unit_unclosed one.first one.high (one.second ++ r) one.first_is
      ∙ unit_unclosed one.second one.low r one.second_is;
}

-- ---- characters

passes : (c : Character) → IsCharacter c → Passes c
passes c (inl one) = unescaped_passes c one
passes c (inr (inl one)) = short_passes c one
passes c (inr (inr (inl one))) = unicode_passes c one
passes c (inr (inr (inr one))) = pair_passes c one

all_read : (cs : List Character) (r : List ℕ) → All IsCharacter cs
    → content plain (as_written cs ++ 34 ∷ r) ≡ Some (as_meant cs)
unfolding content
all_read [] r all = refl
all_read (c ∷ cs) r all =
    ap (content plain) (append_assoc c.0 (as_written cs) (34 ∷ r))
    ∙ (passes c (All-head IsCharacter c cs all)).read (as_written cs ++ 34 ∷ r)
    ∙ ap (prepend c.1) (all_read cs r (All-tail IsCharacter c cs all))

all_lexed : (cs : List Character) (r : List ℕ) → All IsCharacter cs
    → lex in_string (as_written cs ++ 34 ∷ r) ≡ lex between r
unfolding lex
all_lexed [] r all = refl
all_lexed (c ∷ cs) r all =
    ap (lex in_string) (append_assoc c.0 (as_written cs) (34 ∷ r))
    ∙ (passes c (All-head IsCharacter c cs all)).lexed (as_written cs ++ 34 ∷ r)
    ∙ all_lexed cs r (All-tail IsCharacter c cs all)

all_piece : (cs : List Character) → All IsCharacter cs → Piece inside inside (as_written cs)
all_piece [] all = record { fit = refl; free = refl; end = refl }
all_piece (c ∷ cs) all =
    append inside inside inside c.0 (as_written cs)
    (passes c (All-head IsCharacter c cs all)).piece
    (all_piece cs (All-tail IsCharacter c cs all))

all_unclosed : (cs : List Character) → All IsCharacter cs → is_unclosed (as_written cs) ≡ true
all_unclosed [] all = refl
all_unclosed (c ∷ cs) all =
    (passes c (All-head IsCharacter c cs all)).unclosed (as_written cs)
    ∙ all_unclosed cs (All-tail IsCharacter c cs all)

-- ---- strings

-- what is between the quotes of a string
pub string_piece : (written text : List ℕ) → IsString written text → Piece inside inside written
string_piece written text is =
    subst (λ (bs : List ℕ). Piece inside inside bs) (sym is.written_is)
    (all_piece is.characters is.each)

-- it has no quote that ends it
pub string_unclosed : (written text : List ℕ) → IsString written text → is_unclosed written ≡ true
string_unclosed written text is =
    ap is_unclosed is.written_is ∙ all_unclosed is.characters is.each

-- a string is one lexeme
pub string_lexed : (written text r : List ℕ) → IsString written text
    → lex between (34 ∷ (written ++ 34 ∷ r)) ≡ token (string text) ∷ lex between r
unfolding lex
string_lexed written text r is =
    ap (λ (bs : List ℕ). lex between (34 ∷ (bs ++ 34 ∷ r))) is.written_is
    ∙ ap₂ (λ o l. token (string_token o) ∷ l) (all_read is.characters r is.each)
    (all_lexed is.characters r is.each)
    ∙ ap (λ (bs : List ℕ). token (string bs) ∷ lex between r) (sym is.text_is)
