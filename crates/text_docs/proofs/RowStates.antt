-- Where each byte of a document is: outside of its strings, in one, after a backslash in one, or
-- just after one. Strings and numbers take one such state to another.
use Rattle.std.proofs.Common.{◌≡◌, ◌∙◌, ◌+◌, ◌/◌, ◌%◌, ◌^◌, ◌<◌, ◌++◌, ◌∷◌, [], ℕ, List}
use Rattle.std.proofs.Common.{Bool, true, false, cond, not, ◌&&◌, ◌||◌, ◌==◌, refl}
use Rattle.std.proofs.Common.{ap, sym, subst, arith, decimal}
use Rattle.std.specs.Prelude.{nat_lt}
use Rattle.std.specs.Char.{digit_char}
use Rattle.std.proofs.lemmas.Bool.Decides.{nat_tests}
use Rattle.std.proofs.lemmas.Fmt.{decimal_by_steps}
use Rattle.json.specs.Print.{escape, escape_byte, escape_letter, quoted}
use Rattle.catalogue.proofs.Basics.{first_so, second_so}

-- outside of strings, in one, after a backslash in one, or just after one
pub data State : Type 0 where
  outside : State
  inside : State
  escaped : State
  closed : State

-- the state after a byte
abbrev pub step : State → ℕ → State
step outside b = cond (b == 34) inside outside
step inside b = cond (b == 34) closed (cond (b == 92) escaped inside)
step escaped b = inside
step closed b = outside

-- whether the byte may be there: no backslash outside, and after a string `,`, `]` or `:`
abbrev pub fits : State → ℕ → Bool
fits outside b = not (b == 92)
fits inside b = true
fits escaped b = true
fits closed b = (b == 44) || (b == 93) || (b == 58)

-- whether it is no `]` outside of strings
abbrev pub is_free : State → ℕ → Bool
is_free outside b = not (b == 93)
is_free inside b = true
is_free escaped b = true
is_free closed b = not (b == 93)

-- the state after some bytes
abbrev pub run : State → List ℕ → State
run s [] = s
run s (b ∷ bs) = run (step s b) bs

-- whether each byte passes the test in its state
abbrev pub each : (State → ℕ → Bool) → State → List ℕ → Bool
each p s [] = true
each p s (b ∷ bs) = p s b && each p (step s b) bs

-- all bytes fit, from this state on
abbrev pub Fit : State → List ℕ → Type 0
Fit s bs = each fits s bs ≡ true

-- bytes that fit, without a `]` outside of strings, from one state to another
pub record Piece (s t : State) (bs : List ℕ) : Type 0 where
  pub fit : each fits s bs ≡ true
  pub free : each is_free s bs ≡ true
  pub end : run s bs ≡ t

run-append : (s : State) (xs ys : List ℕ) → run s (xs ++ ys) ≡ run (run s xs) ys
run-append s [] ys = refl
run-append s (x ∷ xs) ys = run-append (step s x) xs ys

each-append : (p : State → ℕ → Bool) (s : State) (xs ys : List ℕ)
    → each p s xs ≡ true → each p s (xs ++ ys) ≡ each p (run s xs) ys
each-append p s [] ys h = refl
each-append p s (x ∷ xs) ys h =
    ap (λ b. b && each p (step s x) (xs ++ ys)) (first_so (p s x) (each p (step s x) xs) h)
    ∙ each-append p (step s x) xs ys (second_so (p s x) (each p (step s x) xs) h)

-- what fits after a piece fits with it
pub fit-append : (s t : State) (xs ys : List ℕ) → Piece s t xs → Fit t ys → Fit s (xs ++ ys)
fit-append s t xs ys piece fit =
    each-append fits s xs ys piece.fit
    ∙ subst (λ (u : State). each fits u ys ≡ true) (sym piece.end) fit

-- two pieces, one after the other
pub append : (s t u : State) (xs ys : List ℕ) → Piece s t xs → Piece t u ys → Piece s u (xs ++ ys)
append s t u xs ys first second = record {
  fit = fit-append s t xs ys first second.fit;
  free =
      each-append is_free s xs ys first.free
      ∙ subst (λ (v : State). each is_free v ys ≡ true) (sym first.end) second.free;
  end =
      run-append s xs ys ∙ ap (λ (v : State). run v ys) first.end ∙ second.end;
}

-- ---- strings

-- a byte that is neither a quote nor a backslash stays in its string
pub one_byte : (b : ℕ) → (b == 34) ≡ false → (b == 92) ≡ false → step inside b ≡ inside
one_byte b quote backslash =
    ap (λ t. cond t closed (cond (b == 92) escaped inside)) quote
    ∙ ap (λ t. cond t escaped inside) backslash

-- digits are neither
pub digit_is : (d : ℕ) → d < 16 → (b : ℕ) → (b == 34) || (b == 92) ≡ true
    → (digit_char d == b) ≡ false
digit_is d small b is = grind (arith, nat_tests)

digit_steps : (d : ℕ) → d < 16 → step inside (digit_char d) ≡ inside
digit_steps d small =
    one_byte (digit_char d) (digit_is d small 34 refl) (digit_is d small 92 refl)

-- a byte that has no letter is none that ends a string or begins an escape
pub no_letter : (b : ℕ) → nat_lt 0 (escape_letter b) ≡ false
    → ((b == 34) ≡ false) × ((b == 92) ≡ false)
no_letter b none = (grind (arith, nat_tests), grind (arith, nat_tests))

-- such a byte
pub byte_piece : (b : ℕ) → step inside b ≡ inside → Piece inside inside (b ∷ [])
byte_piece b is = record { fit = refl; free = refl; end = is }

control_piece : (b : ℕ) → nat_lt b 32 ≡ true
    → Piece inside inside
    (92 ∷ 117 ∷ 48 ∷ 48 ∷ digit_char (b / 16) ∷ digit_char (b % 16) ∷ [])
control_piece b control =
    let high = digit_char (b / 16) in
    let low = digit_char (b % 16) in
    let less : b < 32 = grind (arith, nat_tests) in
    append inside inside inside (92 ∷ 117 ∷ 48 ∷ 48 ∷ []) (high ∷ low ∷ [])
    (record { fit = refl; free = refl; end = refl })
    (append inside inside inside (high ∷ []) (low ∷ [])
    (byte_piece high (digit_steps (b / 16) (omega arith)))
    (byte_piece low (digit_steps (b % 16) (omega arith))))

escape_byte_piece : (b : ℕ) → Piece inside inside (escape_byte b)
unfolding escape_byte
escape_byte_piece b =
    elim (nat_lt 0 (escape_letter b)) as (λ t. nat_lt 0 (escape_letter b) ≡ t
    → Piece inside inside (cond t (92 ∷ escape_letter b ∷ [])
    (cond (nat_lt b 32) (92 ∷ 117 ∷ 48 ∷ 48 ∷ digit_char (b / 16) ∷ digit_char (b % 16) ∷ [])
    (b ∷ [])))) [
      | true ↦ λ letter. record { fit = refl; free = refl; end = refl }
      | false ↦ λ plain. elim (nat_lt b 32) as (λ t. nat_lt b 32 ≡ t
          → Piece inside inside
          (cond t (92 ∷ 117 ∷ 48 ∷ 48 ∷ digit_char (b / 16) ∷ digit_char (b % 16) ∷ []) (b ∷ []))) [
            | true ↦ λ control. control_piece b control
            | false ↦ λ shown.
                byte_piece b (one_byte b (no_letter b plain).0 (no_letter b plain).1)
          ] refl
    ] refl

-- what is between the quotes of a string
pub escape_piece : (text : List ℕ) → Piece inside inside (escape text)
escape_piece [] = record { fit = refl; free = refl; end = refl }
escape_piece (b ∷ text) =
    append inside inside inside (escape_byte b) (escape text) (escape_byte_piece b)
    (escape_piece text)

-- a string
pub quoted_piece : (text : List ℕ) → Piece outside closed (quoted text)
quoted_piece text =
    append outside inside closed (34 ∷ []) (escape text ++ 34 ∷ [])
    (record { fit = refl; free = refl; end = refl })
    (append inside inside closed (escape text) (34 ∷ []) (escape_piece text)
    (record { fit = refl; free = refl; end = refl }))

-- ---- numbers

digit_piece : (d : ℕ) → d < 10 → Piece outside outside ((48 + d) ∷ [])
digit_piece d small =
    let no_quote : ((48 + d) == 34) ≡ false = grind (arith, nat_tests) in
    let no_backslash : ((48 + d) == 92) ≡ false = grind (arith, nat_tests) in
    let no_bracket : ((48 + d) == 93) ≡ false = grind (arith, nat_tests) in record {
      fit = ap (λ t. not t && true) no_backslash;
      free = ap (λ t. not t && true) no_bracket;
      end = ap (λ t. cond t inside outside) no_quote;
    }

-- a number in decimal
pub decimal_piece : (n : ℕ) → n < 2 ^ 64 → Piece outside outside (decimal n)
decimal_piece =
    decimal_by_steps (λ n ds. Piece outside outside ds) (λ n small. digit_piece n small)
    (λ n ds more first.
    append outside outside outside ds ((48 + n % 10) ∷ []) first
    (digit_piece (n % 10) (omega arith)))
