-- What a text begins with: strings, with the escapes that are written, and numbers.
--
-- A string is searched sixteen bytes at once for a byte that ends it or needs an escape. The mask
-- of a block has a bit for each of these stops, so that its lowest bit is the first stop, and a
-- mask of 0 says that there is none. What comes before the first stop is written as it is. Then
-- come the escapes, a letter or two digits, and numbers digit by digit.
use Rattle.std.proofs.Common.{◌≡◌, ◌∙◌, ◌+◌, ◌*◌, ◌/◌, ◌%◌, ◌^◌, ◌<◌, ◌≤◌, ◌++◌, ℕ, List, []}
use Rattle.std.proofs.Common.{◌∷◌, Bool, true, false, cond, not, ◌||◌, eqb, ltb, map, take}
use Rattle.std.proofs.Common.{length, get_or, replicate, refl, ap, ap₂, sym, subst, arith}
use Rattle.std.proofs.Common.{add-one, append_assoc, append-nil, decimal, length-append, lt-ltb}
use Rattle.std.proofs.Common.{⊎_elim}
use Rattle.std.proofs.Math.Seq.{take-suc}
use Rattle.std.proofs.lemmas.Bool.{cases_lt}
use Rattle.std.proofs.lemmas.Fmt.{decimal_digit, decimal_step}
use Rattle.std.proofs.lemmas.Grind.{common_steps, flat_map-append}
use Rattle.std.proofs.lemmas.List.{get_or-take, length-map, length-take-le}
use Rattle.std.proofs.lemmas.List.Sums.{prefix_len-le-length}
use Rattle.std.proofs.lemmas.Simd.{length-chunk, map-map, mask_l-mod, none_from_empty_mask}
use Rattle.std.proofs.lemmas.Simd.{run_in_chunk_fails, run_in_chunk_le, run_in_chunk_stops}
use Rattle.std.proofs.lemmas.Simd.{trailing_mask_l, zip2_of_maps, zip2_splat}
use Rattle.std.proofs.lemmas.Str.{IsCharBoundary-before_ascii}
use Rattle.std.specs.Char.{digit_char}
use Rattle.std.specs.List.{prefix_len}
use Rattle.std.specs.Prelude.{nat_lt}
use Rattle.std.specs.Str.{IsCharBoundary}
use lib.Bits.{bit_or}
use lib.Count.{count_trailing_zeros}
use lib.Lanes.{chunk, mask_l, top, zip2}
use Rattle.json.proofs.Printed.Plain.{escape_on_plain}
use Rattle.json.specs.Print.{escape, escape_byte, escape_letter, quoted}
use Rattle.json.specs.Run.{is_stop}
use Rattle.row_docs.specs.inner.PlainTexts.{IsDecimalFront, IsDigitAt, IsEscaped, IsFirstStop}
use Rattle.row_docs.specs.inner.PlainTexts.{IsPlainBefore}

-- ---- the mask of a block

abbrev equals : ℕ → ℕ → ℕ
equals a b = cond (eqb a b) 255 0

abbrev below : ℕ → ℕ → ℕ
below a b = cond (ltb a b) 255 0

abbrev stop_lane : ℕ → ℕ
stop_lane x = bit_or (bit_or (equals x 34) (equals x 92)) (below x 32)

any_of : (a b c : Bool) → top 7 (bit_or (bit_or (cond a 255 0) (cond b 255 0)) (cond c 255 0))
    ≡ (a || b || c)
any_of true true true = refl
any_of true true false = refl
any_of true false true = refl
any_of true false false = refl
any_of false true true = refl
any_of false true false = refl
any_of false false true = refl
any_of false false false = refl

each_lane : (v : List ℕ) → map (λ x. top 7 (stop_lane x)) v ≡ map is_stop v
each_lane [] = refl
each_lane (x ∷ xs) = ap₂ (λ a b. a ∷ b) (any_of (eqb x 34) (eqb x 92) (ltb x 32)) (each_lane xs)

-- a bit for each stop of a block
pub stops_masked : (v : List ℕ) → length v ≡ 16
    → mask_l (map (top 7) (zip2 bit_or (zip2 bit_or (zip2 equals v (replicate 16 34))
    (zip2 equals v (replicate 16 92))) (zip2 below v (replicate 16 32)))) % 2 ^ 64
    ≡ mask_l (map is_stop v)
stops_masked v long =
    let quotes = zip2_splat equals v 16 34 long in
    let backslashes = zip2_splat equals v 16 92 long in
    let controls = zip2_splat below v 16 32 long in
    let lanes = zip2_of_maps bit_or (λ x. bit_or (equals x 34) (equals x 92)) (λ x. below x 32) v
    (zip2_of_maps bit_or (λ x. equals x 34) (λ x. equals x 92) v quotes backslashes) controls in
    ap (λ z. mask_l (map (top 7) z) % 2 ^ 64) lanes
    ∙ ap (λ ms. mask_l ms % 2 ^ 64) (map-map (top 7) stop_lane v ∙ each_lane v)
    ∙ mask_l-mod (map is_stop v) 64 (omega (arith, length-map v is_stop, long))

-- ---- the first stop of a block

unset : (b : Bool) (n l m : ℕ) → n ≤ l → cond (not b) (1 + n) 0 ≡ 1 + l → (n ≡ l → m ≡ 0)
    → cond b 1 0 + 2 * m ≡ 0
unset true n l m le is rest = absurd (omega arith)
unset false n l m le is rest = let none = rest (omega arith) in omega arith

none_set : (p : ℕ → Bool) (xs : List ℕ) → prefix_len (λ x. not (p x)) xs ≡ length xs
    → mask_l (map p xs) ≡ 0
none_set p [] is = refl
none_set p (x ∷ xs) is =
    unset (p x) (prefix_len (λ y. not (p y)) xs) (length xs) (mask_l (map p xs))
    (prefix_len-le-length (λ y. not (p y)) xs) (omega arith) (none_set p xs)

-- the first stop is in this block
pub first_in_block : (bs : List ℕ) (from : ℕ) → from + 16 ≤ length bs → IsPlainBefore bs from
    → 0 < mask_l (map is_stop (chunk from 16 bs))
    → IsFirstStop bs (from + count_trailing_zeros 64 (mask_l (map is_stop (chunk from 16 bs))))
first_in_block bs from room before some =
    let block = chunk from 16 bs in
    let long = length-chunk from 16 bs room in
    let r = count_trailing_zeros 64 (mask_l (map is_stop block)) in
    let counted = trailing_mask_l is_stop 64 block (omega (arith, long)) some in
    let most = run_in_chunk_le is_stop bs from 16 r 0 room counted in
    let fewer : r < 16 = ⊎_elim (λ (less : r < 16). less)
    (λ (more : 16 ≤ r).
    let all = none_set is_stop block (omega (arith, counted, long, most, more)) in
    absurd (omega (arith, all, some))) (cases_lt r 16) in
    record {
      within = omega (arith, fewer, room);
      stops = run_in_chunk_stops is_stop bs from 16 r 0 room counted fewer;
      before = λ k lt. ⊎_elim (λ less. before k less)
          (λ more. run_in_chunk_fails is_stop bs from 16 r 0 room counted k more lt)
          (cases_lt k from);
    }

-- no stop is in this block
pub none_in_block : (bs : List ℕ) (from : ℕ) → from + 16 ≤ length bs → IsPlainBefore bs from
    → mask_l (map is_stop (chunk from 16 bs)) ≡ 0 → IsPlainBefore bs (from + 16)
none_in_block bs from room before none = λ k lt. ⊎_elim (λ less. before k less)
    (λ more. none_from_empty_mask is_stop bs from 16 0 room none k more lt) (cases_lt k from)

-- ---- strings without escapes

-- what comes before the first stop is written as it is
pub before_stop : (bs : List ℕ) (end : ℕ) → IsFirstStop bs end → escape (take end bs) ≡ take end bs
before_stop bs end found =
    escape_on_plain true (take end bs) (λ k p q.
    let before : k < end = omega (arith, q, length-take-le end bs (omega (arith, found.within))) in
    ap not (ap is_stop (get_or-take end bs k 0 before) ∙ found.before k before))

stop_small : (x : ℕ) → is_stop x ≡ true → x < 128
stop_small x stop = grind (arith, common_steps)

-- a text may be cut before its first stop
pub stop_boundary : (bs : List ℕ) (end : ℕ) → IsFirstStop bs end → IsCharBoundary bs end
stop_boundary bs end found =
    IsCharBoundary-before_ascii bs end found.within (stop_small (get_or bs end 0) found.stops)

-- a string is its text and the quotes about it
pub quotes_taken : (s rest : List ℕ) → 34 ∷ (escape s ++ 34 ∷ rest) ≡ quoted s ++ rest
quotes_taken s rest = ap (λ r. 34 ∷ r) (sym (append_assoc (escape s) (34 ∷ []) rest))

-- ---- numbers

-- one digit more
decimal_more : (n d : ℕ) → 0 < n → d < 10 → n * 10 + d < 2 ^ 64
    → decimal (n * 10 + d) ≡ decimal n ++ (48 + d) ∷ []
decimal_more n d some small fits =
    let tenth : (n * 10 + d) / 10 ≡ n = omega arith in
    let last : (n * 10 + d) % 10 ≡ d = omega arith in
    decimal_step (n * 10 + d) (omega arith) fits
    ∙ ap₂ (λ t l. decimal t ++ (48 + l) ∷ []) tenth last

-- the number is its first digit
pub first_digit : (bs : List ℕ) (d : ℕ) → IsDigitAt bs 0 d → IsDecimalFront bs d 1
first_digit bs d digit = record {
  is = take-suc bs 0 0 digit.within ∙ ap (λ b. b ∷ []) digit.is ∙ sym (decimal_digit d digit.small);
  within = omega (arith, digit.within);
  last = (0, refl, omega (arith, digit.is, digit.small));
}

-- the number with one digit more
pub next_digit : (bs : List ℕ) (n d len : ℕ) → IsDecimalFront bs n len → IsDigitAt bs len d → 0 < n
    → n * 10 + d < 2 ^ 64 → IsDecimalFront bs (n * 10 + d) (len + 1)
next_digit bs n d len front digit some fits = record {
  is = rw add-one (take-suc bs len 0 digit.within ∙ ap₂ (λ t b. t ++ b ∷ []) front.is digit.is
      ∙ sym (decimal_more n d some digit.small fits));
  within = omega (arith, digit.within);
  last = (len, refl, omega (arith, digit.is, digit.small));
}

-- ---- the escape of a byte

first_of : (l : ℕ) (other : List ℕ) → 0 < l → cond (nat_lt 0 l) (92 ∷ l ∷ []) other ≡ 92 ∷ l ∷ []
first_of l other some = ap (λ p. cond p (92 ∷ l ∷ []) other) (lt-ltb 0 l some)

second_of : (p q : Bool) (a b c : List ℕ) → p ≡ false → q ≡ true → cond p a (cond q b c) ≡ b
second_of p q a b c off on = rw (off, on) refl

-- a byte with a letter is written as a backslash and its letter
pub by_letter : (byte letter : ℕ) (text rest : List ℕ) → escape_letter byte ≡ letter → 0 < letter
    → text ≡ letter ∷ rest → 92 ∷ text ≡ escape_byte byte ++ rest
unfolding escape_byte
by_letter byte letter text rest is some next =
    let spelled : escape_byte byte ≡ 92 ∷ letter ∷ [] =
    first_of (escape_letter byte) _ (subst (λ l. 0 < l) (sym is) some)
    ∙ ap (λ l. 92 ∷ l ∷ []) is in
    ap (λ t. 92 ∷ t) next ∙ ap (λ e. e ++ rest) (sym spelled)

-- another byte below 32 is written as `\u00` and its digits
pub by_digits : (high low h l : ℕ) → digit_char high ≡ h → digit_char low ≡ l → low < 16
    → high * 16 + low < 32 → nat_lt 0 (escape_letter (high * 16 + low)) ≡ false
    → escape_byte (high * 16 + low) ≡ 92 ∷ 117 ∷ 48 ∷ 48 ∷ h ∷ l ∷ []
unfolding escape_byte
by_digits high low h l first last small control none =
    let byte = high * 16 + low in
    let front : byte / 16 ≡ high = omega (arith, small) in
    let back : byte % 16 ≡ low = omega (arith, small) in
    second_of _ (nat_lt byte 32) _ _ _ none (lt-ltb byte 32 control)
    ∙ ap₂ (λ x y. 92 ∷ 117 ∷ 48 ∷ 48 ∷ x ∷ y ∷ []) (ap digit_char front ∙ first)
    (ap digit_char back ∙ last)

some_of : (p q : Bool) (a b c : ℕ) (u v w : List ℕ)
    → 0 < length (cond p (a ∷ u) (cond q (b ∷ v) (c ∷ w)))
some_of true q a b c u v w = omega arith
some_of false true a b c u v w = omega arith
some_of false false a b c u v w = omega arith

-- no escape is empty
escape_some : (byte : ℕ) → 0 < length (escape_byte byte)
unfolding escape_byte
escape_some byte =
    some_of (nat_lt 0 (escape_letter byte)) (nat_lt byte 32) 92 92 byte (escape_letter byte ∷ [])
    (117 ∷ 48 ∷ 48 ∷ digit_char (byte / 16) ∷ digit_char (byte % 16) ∷ []) []

-- ---- pieces of a string

-- one piece more
piece_taken : (old new piece text rest : List ℕ) → new ≡ old ++ piece → text ≡ escape piece ++ rest
    → escape old ++ text ≡ escape new ++ rest
piece_taken old new piece text rest pushed is =
    ap (λ t. escape old ++ t) is ∙ sym (append_assoc (escape old) (escape piece) rest)
    ∙ ap (λ e. e ++ rest) (sym (ap escape pushed ∙ flat_map-append escape_byte old piece))

-- one escaped byte more
pub byte_taken : (old new : List ℕ) (byte : ℕ) (text rest : List ℕ) → new ≡ old ++ byte ∷ []
    → IsEscaped byte text rest
    → (escape old ++ text ≡ escape new ++ rest) × (length rest < length text)
byte_taken old new byte text rest pushed escaped =
    let one : text ≡ escape (byte ∷ []) ++ rest =
    escaped.0 ∙ ap (λ e. e ++ rest) (sym (append-nil (escape_byte byte))) in
    let many = ap length escaped.0 ∙ length-append (escape_byte byte) rest in (
      piece_taken old new (byte ∷ []) text rest pushed one,
      omega (arith, many, escape_some byte),
    )
