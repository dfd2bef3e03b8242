-- The numbers of subtags are equal if the subtags are, and are matched as those are.
--
-- A subtag has at most eight bytes, none of them zero, so it fits one number of 64 bits, and two
-- subtags are equal just if their numbers are. A subtag of one byte is a number below 256, which
-- tells a singleton. The extended match of RFC 4647, section 3.3.2, pairs subtags from left to
-- right; each of its steps is one on numbers.
use Rattle.std.proofs.Common.{ℕ, ◌≡◌, ◌≤◌, ◌<◌, ◌+◌, ◌*◌, ◌==◌, inl, inr, List, [], ◌∷◌, ◌++◌}
use Rattle.std.proofs.Common.{Bool, true, false, cond, length, refl, sym, ◌∙◌, ap, subst, arith}
use Rattle.std.proofs.Common.{drop, drop-cons, get_or, ◌-◌, length-drop, length-append}
use Rattle.std.proofs.Common.{drop_of_length-le}
use Rattle.std.specs.Prelude.{nat_le, nat_lt, IsTrue, ◌↔◌, ◌||◌, ◌&&◌, zero, suc, sum_by}
use Rattle.std.specs.List.{list_all}
use Rattle.std.specs.Str.{bytes_eq}
use Rattle.std.proofs.lemmas.Bool.Decides.{nat_tests}
use Rattle.std.proofs.lemmas.List.{length-map}
use Rattle.std.proofs.lemmas.Slice.Eq.{bytes_eq-Decides}
use Rattle.lang_core.specs.Text.{pieces}
use Rattle.lang_core.specs.Grammar.{AreAll, is_star, is_run, is_letter, is_alphanum, are_allowed}
use Rattle.lang_core.specs.Grammar.{is_private_piece, tag_piece, basic_piece, extended_piece}
use Rattle.lang_core.specs.Grammar.{ExtendedRange}
use Rattle.lang_core.specs.inner.LowerText.{is_nonzero_ascii, IsNonzeroAscii}
use Rattle.lang_core.specs.Tag.{HasSubtags, IsTag}
use Rattle.lang_core.specs.Matching.{Extended, greedy}
use Rattle.list_core.specs.inner.PackedTag.{is_packable, packed, all_packed, greedy_packed}
use Rattle.list_core.specs.inner.PackedTag.{extended_packed}
use Rattle.lang_core.proofs.Basics.{each_true, both, one_true, or_left, or_right, is_lt}
use Rattle.lang_core.proofs.KindLemmas.{run_of}
use Rattle.lang_core.proofs.MatchingEmbedding.{embeds_of_greedy, greedy_of_embeds}
use Rattle.lang_core.proofs.PiecesLemmas.{size_pieces, size_cons}
use Rattle.lang_core.proofs.RangeText.{allowed_of_list}
use Rattle.lang_core.proofs.TagText.{alphanum_nonzero}
use Rattle.list_core.proofs.HashedRangesLemmas.{number_is as is_eq}

-- ---- how large a number is

-- the first number that so many bytes do not reach
abbrev pub bound : ℕ → ℕ
bound zero = 1
bound (suc n) = 256 * bound n

bound_ascends : (m n : ℕ) → m ≤ n → bound m ≤ bound n
bound_ascends zero zero h = omega arith
bound_ascends zero (suc n) h = let rest = bound_ascends zero n (omega arith) in omega arith
bound_ascends (suc m) zero h = absurd (omega arith)
bound_ascends (suc m) (suc n) h = let rest = bound_ascends m n (omega arith) in omega arith

small_byte : (b : ℕ) → is_nonzero_ascii b ≡ true → (0 < b) × (b < 128)
small_byte b h = (grind (arith, nat_tests), grind (arith, nat_tests))

one_more : (b p n : ℕ) → b < 128 → p < n → b + 256 * p < 256 * n
one_more b p n l h = omega arith

below_bound : (s : List ℕ) → IsNonzeroAscii s → packed s < bound (length s)
below_bound [] h = omega arith
below_bound (b ∷ s) h =
    let parts = each_true (is_nonzero_ascii b) (list_all is_nonzero_ascii s) h in
    one_more b (packed s) (bound (length s)) (small_byte b parts.0).1 (below_bound s parts.1)

-- ---- equal numbers

-- Texts of such bytes are equal where their numbers are.
pub packed_same : (s t : List ℕ) → IsNonzeroAscii s → IsNonzeroAscii t → packed s ≡ packed t → s ≡ t
packed_same [] [] p q e = refl
packed_same [] (c ∷ t) p q e =
    let parts = each_true (is_nonzero_ascii c) (list_all is_nonzero_ascii t) q in
    let low = (small_byte c parts.0).0 in absurd (omega arith)
packed_same (b ∷ s) [] p q e =
    let parts = each_true (is_nonzero_ascii b) (list_all is_nonzero_ascii s) p in
    let low = (small_byte b parts.0).0 in absurd (omega arith)
packed_same (b ∷ s) (c ∷ t) p q e =
    let own = each_true (is_nonzero_ascii b) (list_all is_nonzero_ascii s) p in
    let others = each_true (is_nonzero_ascii c) (list_all is_nonzero_ascii t) q in
    let x = (small_byte b own.0).1 in
    let y = (small_byte c others.0).1 in
    let first : b ≡ c = omega arith in
    let rest : packed s ≡ packed t = omega arith in
    ap (λ (n : ℕ). n ∷ s) first
    ∙ ap (λ (r : List ℕ). c ∷ r) (packed_same s t own.1 others.1 rest)

-- Numbers that test as equal are equal.
pub eq_is : (m n : ℕ) → (m == n) ≡ true → m ≡ n
eq_is m n h = grind (arith, nat_tests)

same_bool : (a b : Bool) → (a ≡ true → b ≡ true) → (b ≡ true → a ≡ true) → a ≡ b
same_bool true b f g = sym (f refl)
same_bool false true f g = g refl
same_bool false false f g = refl

eq_packed : (s t : List ℕ) → IsNonzeroAscii s → IsNonzeroAscii t
    → (packed s == packed t) ≡ bytes_eq s t
eq_packed s t p q =
    same_bool (packed s == packed t) (bytes_eq s t)
    (λ h. (bytes_eq-Decides s t).1 (packed_same s t p q (eq_is (packed s) (packed t) h)))
    (λ h. is_eq (packed s) (packed t) (ap packed ((bytes_eq-Decides s t).0 h)))

no_star : (b c p : ℕ) → is_nonzero_ascii c ≡ true → (b + 256 * (c + 256 * p) == 42) ≡ false
no_star b c p h = let low = (small_byte c h).0 in grind (arith, nat_tests)

one_byte : (b : ℕ) → b + 256 * 0 ≡ b
one_byte b = omega arith

star_packed : (s : List ℕ) → IsNonzeroAscii s → (packed s == 42) ≡ is_star s
unfolding is_star
star_packed [] h = refl
star_packed (b ∷ []) h = ap (λ (n : ℕ). n == 42) (one_byte b)
star_packed (b ∷ c ∷ s) h =
    let parts = each_true (is_nonzero_ascii b) (list_all is_nonzero_ascii (c ∷ s)) h in
    let second = each_true (is_nonzero_ascii c) (list_all is_nonzero_ascii s) parts.1 in
    no_star b c (packed s) second.0

long_number : (b c p : ℕ) → is_nonzero_ascii c ≡ true → nat_lt 255 (b + 256 * (c + 256 * p)) ≡ true
long_number b c p h =
    let low = (small_byte c h).0 in
    is_lt 255 (b + 256 * (c + 256 * p)) (omega arith)

short_number : (b : ℕ) → is_nonzero_ascii b ≡ true → nat_lt 255 (b + 256 * 0) ≡ false
short_number b h = let low = (small_byte b h).1 in grind (arith, nat_tests)

long_text : (n : ℕ) → nat_lt 1 (suc (suc n)) ≡ true
long_text n = is_lt 1 (suc (suc n)) (omega arith)

single_packed : (s : List ℕ) → IsNonzeroAscii s → nat_lt 255 (packed s) ≡ nat_lt 1 (length s)
single_packed [] h = refl
single_packed (b ∷ []) h = short_number b (each_true (is_nonzero_ascii b) true h).0
single_packed (b ∷ c ∷ s) h =
    let parts = each_true (is_nonzero_ascii b) (list_all is_nonzero_ascii (c ∷ s)) h in
    let second = each_true (is_nonzero_ascii c) (list_all is_nonzero_ascii s) parts.1 in
    long_number b c (packed s) second.0 ∙ sym (long_text (length s))

-- ---- subtags that have numbers

-- A subtag that is packed has at most eight bytes, each of them ASCII and not zero.
pub packable : (s : List ℕ) → is_packable s ≡ true → (length s ≤ 8) × IsNonzeroAscii s
packable s h = let run = run_of is_nonzero_ascii 1 8 s h in (run.short, run.all)

nonzero_drop : (k : ℕ) (s : List ℕ) → IsNonzeroAscii s → IsNonzeroAscii (drop k s)
nonzero_drop zero s h = h
nonzero_drop (suc k) [] h = h
nonzero_drop (suc k) (b ∷ s) h =
    nonzero_drop k s (each_true (is_nonzero_ascii b) (list_all is_nonzero_ascii s) h).1

-- The number of a subtag from its second byte on, or from a later one, leaves room for one byte.
pub room_for_byte : (s : List ℕ) (place n : ℕ) → is_packable s ≡ true → 0 < place
    → place ≤ length s → n ≡ packed (drop place s) → n * 256 + 255 < 18446744073709551616
room_for_byte s place n h low high e =
    let parts = packable s h in
    let size : length (drop place s) ≡ length s - place = length-drop place s in
    let below = below_bound (drop place s) (nonzero_drop place s parts.1) in
    let most : bound (length (drop place s)) ≤ bound 7 =
    bound_ascends (length (drop place s)) 7 (omega (arith, parts.0, size)) in
    omega arith

all_of : (f g : ℕ → Bool) → ((b : ℕ) → f b ≡ true → g b ≡ true) → (s : List ℕ)
    → list_all f s ≡ true → list_all g s ≡ true
all_of f g each [] h = refl
all_of f g each (b ∷ s) h =
    let parts = each_true (f b) (list_all f s) h in
    both (g b) (list_all g s) (each b parts.0) (all_of f g each s parts.1)

wider_run : (f g : ℕ → Bool) → ((b : ℕ) → f b ≡ true → g b ≡ true) → (s : List ℕ)
    → is_run f 1 8 s ≡ true → is_run g 1 8 s ≡ true
unfolding is_run
wider_run f g each s h =
    let parts = each_true (nat_le 1 (length s) && nat_le (length s) 8) (list_all f s) h in
    both (nat_le 1 (length s) && nat_le (length s) 8) (list_all g s) parts.0
    (all_of f g each s parts.1)

letter_nonzero : (b : ℕ) → is_letter b ≡ true → is_nonzero_ascii b ≡ true
letter_nonzero b h = grind (arith, nat_tests)

packable_private : (s : List ℕ) → is_private_piece s ≡ true → is_packable s ≡ true
unfolding is_private_piece
packable_private s h = wider_run is_alphanum is_nonzero_ascii alphanum_nonzero s h

packable_basic : (place : ℕ) (s : List ℕ) → basic_piece place s ≡ true → is_packable s ≡ true
packable_basic zero s h = wider_run is_letter is_nonzero_ascii letter_nonzero s h
packable_basic (suc place) s h = packable_private s h

star_byte : (b : ℕ) → (b == 42) ≡ true → is_nonzero_ascii b ≡ true
star_byte b h = grind (arith, nat_tests)

packable_star : (s : List ℕ) → is_star s ≡ true → is_packable s ≡ true
unfolding is_star is_run
packable_star [] h = cc
packable_star (b ∷ []) h = both (is_nonzero_ascii b) true (star_byte b h) refl
packable_star (b ∷ c ∷ s) h = cc

packable_pieces : (place : ℕ) (list : List (List ℕ)) → are_allowed extended_piece place list ≡ true
    → AreAll is_packable list
packable_pieces place [] h = refl
packable_pieces place (s ∷ list) h =
    let parts =
    each_true (extended_piece place s) (are_allowed extended_piece (place + 1) list) h in
    both (is_packable s) (list_all is_packable list)
    (elim (one_true (is_star s) (basic_piece place s) parts.0) [
      | inl star ↦ packable_star s star
      | inr basic ↦ packable_basic place s basic
    ])
    (packable_pieces (place + 1) list parts.1)

-- Each piece of an extended range is packed.
pub packable_range : (list : List (List ℕ)) → ExtendedRange list → AreAll is_packable list
packable_range list h = packable_pieces 0 list (allowed_of_list extended_piece list h)

packable_subtags : (place : ℕ) (list : List (List ℕ)) → are_allowed tag_piece place list ≡ true
    → AreAll is_packable list
packable_subtags place [] h = refl
packable_subtags place (s ∷ list) h =
    let parts = each_true (tag_piece place s) (are_allowed tag_piece (place + 1) list) h in
    both (is_packable s) (list_all is_packable list) (packable_private s parts.0)
    (packable_subtags (place + 1) list parts.1)

-- Each subtag of a tag is packed.
pub packable_tag : (text : List ℕ) → HasSubtags text → AreAll is_packable (pieces text)
packable_tag text h = packable_subtags 0 (pieces text) h

-- ---- how many subtags a tag has

-- a piece of a tag has a byte
sized_piece : (s : List ℕ) → is_private_piece s ≡ true → 0 < length s
unfolding is_private_piece is_run
sized_piece [] h = cc
sized_piece (b ∷ s) h = omega arith

sized_pieces : (place : ℕ) (list : List (List ℕ)) → are_allowed tag_piece place list ≡ true
    → 2 * length list ≤ sum_by (λ s. length s + 1) list
sized_pieces place [] h = omega arith
sized_pieces place (s ∷ list) h =
    let parts = each_true (tag_piece place s) (are_allowed tag_piece (place + 1) list) h in
    let rest = sized_pieces (place + 1) list parts.1 in
    let one = sized_piece s parts.0 in
    omega (arith, size_cons s list)

-- A tag has at most 128 subtags.
pub few_subtags : (tag text : List ℕ) → text ≡ tag → IsTag text
    → length (pieces tag) ≤ 128
few_subtags tag text e h =
    let most = h.0.1 in
    let size = size_pieces 45 text in
    let half = sized_pieces 0 (pieces text) h.1 in
    subst (λ (t : List ℕ). length (pieces t) ≤ 128) e (omega arith)

-- A list of numbers that are still to be followed by one is shorter than the most.
pub packed_room : (items : List ℕ) (s : List ℕ) (left whole : List (List ℕ))
    → items ++ all_packed (s ∷ left) ≡ all_packed whole → length whole ≤ 128 → length items < 128
packed_room items s left whole e few =
    let size : length (items ++ all_packed (s ∷ left)) ≡ length (all_packed whole) = ap length e in
    omega (
      arith,
      size,
      few,
      length-append items (all_packed (s ∷ left)),
      length-map whole packed,
    )

-- ---- the match

same_step : (a b c d e f : Bool) (x y z u v w : Bool) → a ≡ d → b ≡ e → c ≡ f → x ≡ u → y ≡ v
    → z ≡ w → cond a x (cond b y (cond c z false)) ≡ cond d u (cond e v (cond f w false))
same_step a b c d e f x y z u v w p q r s t o = rw (p, q, r, s, t, o) refl

-- Greedy pairing of numbers succeeds where that of the subtags does.
greedy_is : (wanted given : List (List ℕ)) → AreAll is_packable wanted → AreAll is_packable given
    → greedy_packed (all_packed wanted) (all_packed given) ≡ greedy wanted given
unfolding greedy greedy_packed
greedy_is [] given p q = refl
greedy_is (w ∷ wanted) [] p q =
    let own = each_true (is_packable w) (list_all is_packable wanted) p in
    (λ t. cond (star_packed w (packable w own.0).1 t) (greedy_is wanted [] own.1 q t) false)
greedy_is (w ∷ wanted) (g ∷ given) p q =
    let own = each_true (is_packable w) (list_all is_packable wanted) p in
    let others = each_true (is_packable g) (list_all is_packable given) q in
    let text = (packable w own.0).1 in
    let other_text = (packable g others.0).1 in
    same_step (packed w == 42) (packed w == packed g) (nat_lt 255 (packed g))
    (is_star w) (bytes_eq w g) (nat_lt 1 (length g)) _ _ _ _ _ _
    (star_packed w text) (eq_packed w g text other_text) (single_packed g other_text)
    (greedy_is wanted (g ∷ given) own.1 q) (greedy_is wanted given own.1 others.1)
    (greedy_is (w ∷ wanted) given p others.1)

-- The numbers of a range match those of a tag just where the range matches the tag in the extended
-- way.
pub extended_packed_is : (range tag : List (List ℕ)) (b : Bool) → AreAll is_packable range
    → AreAll is_packable tag → b ≡ extended_packed (all_packed range) (all_packed tag)
    → IsTrue b ↔ Extended range tag
extended_packed_is [] tag b p q e = ((λ h. cc), (λ x. absurd x))
extended_packed_is (r ∷ range) [] b p q e = ((λ h. cc), (λ x. absurd x))
extended_packed_is (r ∷ range) (t ∷ tag) b p q e =
    let own = each_true (is_packable r) (list_all is_packable range) p in
    let others = each_true (is_packable t) (list_all is_packable tag) q in
    let text = (packable r own.0).1 in
    let star = star_packed r text in
    let same = eq_packed r t text (packable t others.0).1 in
    let rest = greedy_is range tag own.1 others.1 in
    let is : b ≡ ((is_star r || bytes_eq r t) && greedy range tag) =
    e ∙ (λ u. (star u || same u) && rest u) in (
      (λ h.
          let parts = each_true (is_star r || bytes_eq r t) (greedy range tag) (sym is ∙ h) in (
            elim (one_true (is_star r) (bytes_eq r t) parts.0) [
              | inl first ↦ inl first
              | inr first ↦ inr ((bytes_eq-Decides r t).0 first)
            ],
            embeds_of_greedy range tag parts.1,
          )),
      (λ x.
          is ∙ both (is_star r || bytes_eq r t) (greedy range tag)
          (elim x.0 [
            | inl first ↦ or_left (is_star r) (bytes_eq r t) first
            | inr first ↦ or_right (is_star r) (bytes_eq r t) ((bytes_eq-Decides r t).1 first)
          ]) (greedy_of_embeds range tag x.1)),
    )

-- ---- one step of the matcher

-- Greedy pairing of numbers succeeds where none is wanted.
pub number_all : (given : List ℕ) → greedy_packed [] given ≡ true
unfolding greedy_packed
number_all given = refl

-- Greedy pairing of numbers skips a wanted "*".
pub number_star : (w : ℕ) (rest given : List ℕ) → w ≡ 42
    → greedy_packed (w ∷ rest) given ≡ greedy_packed rest given
unfolding greedy_packed
number_star w rest [] h = rw (is_eq w 42 h) refl
number_star w rest (g ∷ given) h = rw (is_eq w 42 h) refl

-- Greedy pairing of numbers fails where one other than that of "*" is wanted and none is given.
pub number_none : (w : ℕ) (rest : List ℕ) → (w == 42) ≡ false → greedy_packed (w ∷ rest) [] ≡ false
unfolding greedy_packed
number_none w rest h = rw h refl

-- Greedy pairing pairs a wanted number with an equal given one and goes on after both.
pub number_pair : (w g : ℕ) (rest given : List ℕ) → (w == 42) ≡ false → (w == g) ≡ true
    → greedy_packed (w ∷ rest) (g ∷ given) ≡ greedy_packed rest given
unfolding greedy_packed
number_pair w g rest given h same = rw (h, same) refl

-- Greedy pairing fails at the number of one byte that differs from the wanted one.
pub number_stop : (w g : ℕ) (rest given : List ℕ) → (w == 42) ≡ false → (w == g) ≡ false
    → nat_lt 255 g ≡ false → greedy_packed (w ∷ rest) (g ∷ given) ≡ false
unfolding greedy_packed
number_stop w g rest given h same short = rw (h, same, short) refl

-- Greedy pairing skips the number of several bytes that differs from the wanted one.
pub number_pass : (w g : ℕ) (rest given : List ℕ) → (w == 42) ≡ false → (w == g) ≡ false
    → nat_lt 255 g ≡ true → greedy_packed (w ∷ rest) (g ∷ given) ≡ greedy_packed (w ∷ rest) given
unfolding greedy_packed
number_pass w g rest given h same long = rw (h, same, long) refl

-- Pairing goes on after the place where the wanted number is.
pub pairs_at : (w place : ℕ) (given rest : List ℕ) → (w == 42) ≡ false → place < length given
    → get_or given place 0 ≡ w
    → greedy_packed (w ∷ rest) (drop place given) ≡ greedy_packed rest (drop (suc place) given)
pairs_at w place given rest star low same =
    ap (greedy_packed (w ∷ rest)) (drop-cons given place 0 low)
    ∙ number_pair w (get_or given place 0) rest (drop (suc place) given) star
    (is_eq w (get_or given place 0) (sym same))

other_number : (w g : ℕ) → (g ≡ w → ⊥) → (w == g) ≡ false
other_number w g n = grind (arith, nat_tests)

at_most : (g : ℕ) → g ≤ 255 → nat_lt 255 g ≡ false
at_most g h = grind (arith, nat_tests)

-- Pairing fails at the number of one byte that is not the wanted one.
pub stops_at : (w place : ℕ) (given rest : List ℕ) → (w == 42) ≡ false → place < length given
    → (get_or given place 0 ≡ w → ⊥) → get_or given place 0 ≤ 255
    → greedy_packed (w ∷ rest) (drop place given) ≡ false
stops_at w place given rest star low other short =
    ap (greedy_packed (w ∷ rest)) (drop-cons given place 0 low)
    ∙ number_stop w (get_or given place 0) rest (drop (suc place) given) star
    (other_number w (get_or given place 0) other) (at_most (get_or given place 0) short)

-- Pairing passes over another number, of several bytes.
pub passes_at : (w place : ℕ) (given rest : List ℕ) → (w == 42) ≡ false → place < length given
    → (get_or given place 0 ≡ w → ⊥) → 255 < get_or given place 0
    → greedy_packed (w ∷ rest) (drop place given)
    ≡ greedy_packed (w ∷ rest) (drop (suc place) given)
passes_at w place given rest star low other long =
    ap (greedy_packed (w ∷ rest)) (drop-cons given place 0 low)
    ∙ number_pass w (get_or given place 0) rest (drop (suc place) given) star
    (other_number w (get_or given place 0) other) (is_lt 255 (get_or given place 0) long)

-- Pairing fails where the numbers have ended.
pub fails_at : (w place : ℕ) (given rest : List ℕ) → (w == 42) ≡ false → length given ≤ place
    → greedy_packed (w ∷ rest) (drop place given) ≡ false
fails_at w place given rest star end =
    ap (greedy_packed (w ∷ rest)) (drop_of_length-le given end) ∙ number_none w rest star
