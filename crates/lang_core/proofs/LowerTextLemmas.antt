-- Texts of the bytes that tags and ranges have.
--
-- A short text is kept in sixteen bytes with zero bytes after it, and read as one number, the first
-- byte highest. As no byte of the text is zero, such texts are equal just if their numbers are, and
-- are in the order of their numbers: one more byte decides only if those before it are equal. Lower
-- case is made byte by byte, and zero bytes have none.
use Rattle.std.proofs.Common.{ℕ, ◌≡◌, ◌<◌, true, List, [], ◌∷◌, arith, ◌+◌, ◌-◌, ◌≤◌, ◌++◌, length}
use Rattle.std.proofs.Common.{take, replicate, refl, sym, ap, ◌∙◌, subst, All, drop}
use Rattle.std.proofs.Common.{drop_of_length-le, drop-cons, length-append, ◌*◌, ◌/◌, ◌^◌}
use Rattle.std.specs.List.{list_all}
use Rattle.std.specs.Char.{to_ascii_lowercase}
use Rattle.std.specs.Str.{IsAscii, IsUtf8, str_to_ascii_lowercase, bytes_eq}
use Rattle.std.proofs.lemmas.Bool.Decides.{nat_tests}
use Rattle.std.proofs.lemmas.Str.{IsUtf8-from_ascii}
use Rattle.std.proofs.lemmas.Str.Ascii.{IsAscii-nil, IsAscii-cons}
use Rattle.lang_core.specs.inner.LowerText.{is_nonzero_ascii, IsNonzeroAscii, IsShort, filled}
use Rattle.lang_core.specs.inner.LowerText.{spelled_number, KeepsShort}
use Rattle.lang_core.proofs.Basics.{each_true, then_assoc}
use Rattle.std.specs.Prelude.{suc, zero, slice_index, ◌==◌}
use Rattle.std.specs.Cmp.{tied_itself, nat_cmp_is, ranks, unsigned_ties}
use Rattle.std.specs.Cmp.Lexicographic.{slice_cmp, nat_list_cmp_total, texts_ties}
use Rattle.std.specs.Ordering.{nat_cmp, ordering_then, is_eq, MatchOrdering}
use Rattle.std.specs.declared.cmp.Ordering.{Ordering}
use Rattle.std.specs.declared.cmp.Ordering.TheVariants.{Less, Equal, Greater}
use Rattle.std.proofs.Math.Seq.{take-append_seam}
use Rattle.std.proofs.lemmas.List.{length-map, map-append, length-replicate}
use Rattle.std.proofs.lemmas.List.Elements.{All-head, All-tail, All-cons, All-replicate}
use Rattle.std.specs.Int.{from_be_bytes, w128}

nonzero_is_ascii : (b : ℕ) → is_nonzero_ascii b ≡ true → b < 128
nonzero_is_ascii b h = grind (arith, nat_tests)

-- The bytes of such a text are ASCII.
pub IsAscii-nonzero : (text : List ℕ) → IsNonzeroAscii text → IsAscii text
IsAscii-nonzero [] h = IsAscii-nil
IsAscii-nonzero (b ∷ text) h =
    let parts = each_true (is_nonzero_ascii b) (list_all is_nonzero_ascii text) h in
    IsAscii-cons b text (nonzero_is_ascii b parts.0) (IsAscii-nonzero text parts.1)

-- Such a text is UTF-8.
pub IsUtf8-nonzero : (text : List ℕ) → IsNonzeroAscii text → IsUtf8 text
IsUtf8-nonzero text h = IsUtf8-from_ascii text (IsAscii-nonzero text h)

-- A text is ASCII where, in lower case, it is of ASCII bytes other than zero.
pub nonzero-lower : (text : List ℕ) → IsNonzeroAscii (str_to_ascii_lowercase text) → IsAscii text
nonzero-lower [] h = IsAscii-nil
nonzero-lower (b ∷ text) h =
    let parts =
    each_true (is_nonzero_ascii (to_ascii_lowercase b))
    (list_all is_nonzero_ascii (str_to_ascii_lowercase text)) h in
    IsAscii-cons b text (small b parts.0) (nonzero-lower text parts.1)
  where
    small : (b : ℕ) → is_nonzero_ascii (to_ascii_lowercase b) ≡ true → b < 128
    small b h = grind (arith, nat_tests)

-- ---- short texts, which are kept with zero bytes after them

-- A text that is filled up is kept with its length.
pub KeepsShort-filled : (text : List ℕ) → IsShort text → KeepsShort (filled text) (length text)
KeepsShort-filled text is =
    let front = take-append_seam text (replicate (16 - length text) 0) in
    record {
      short = is.0;
      size = ap length front;
      nonzero = subst IsNonzeroAscii (sym front) is.1;
      zeros = ap filled front;
    }

-- ---- the order

-- texts without zero bytes keep their order where both are filled up to one length
cmp_filled_up : (xs ys : List ℕ) (i j : ℕ) → length xs + i ≡ length ys + j
    → IsNonzeroAscii xs → IsNonzeroAscii ys
    → slice_cmp nat_cmp (xs ++ replicate i 0) (ys ++ replicate j 0) ≡ slice_cmp nat_cmp xs ys
cmp_filled_up [] [] i j e p q = let same : i ≡ j = omega arith in
    rw same (tied_itself nat_list_cmp_total (replicate j 0))
cmp_filled_up [] (y ∷ ys) zero j e p q = absurd (omega arith)
cmp_filled_up [] (zero ∷ ys) (suc i) j e p q = cc
cmp_filled_up [] (suc y ∷ ys) (suc i) j e p q =
    ap (λ r. ordering_then r (slice_cmp nat_cmp (replicate i 0) (ys ++ replicate j 0)))
    (sym (nat_cmp_is 0 (suc y) Less (omega arith)))
cmp_filled_up (x ∷ xs) [] i zero e p q = absurd (omega arith)
cmp_filled_up (zero ∷ xs) [] i (suc j) e p q = cc
cmp_filled_up (suc x ∷ xs) [] i (suc j) e p q =
    ap (λ r. ordering_then r (slice_cmp nat_cmp (xs ++ replicate i 0) (replicate j 0)))
    (sym (nat_cmp_is (suc x) 0 Greater (omega arith)))
cmp_filled_up (x ∷ xs) (y ∷ ys) i j e p q =
    let first = each_true (is_nonzero_ascii x) (list_all is_nonzero_ascii xs) p in
    let second = each_true (is_nonzero_ascii y) (list_all is_nonzero_ascii ys) q in
    ap (ordering_then (nat_cmp x y)) (cmp_filled_up xs ys i j (omega arith) first.1 second.1)

-- ---- the bytes as one number

-- one more digit decides where those before it are equal
one_digit : (m n x y : ℕ) → x < 256 → y < 256
    → nat_cmp (m * 256 + x) (n * 256 + y) ≡ ordering_then (nat_cmp m n) (nat_cmp x y)
one_digit m n x y p q = higher (nat_cmp m n) (ranks m n)
  where
    lower : m ≡ n → (r : Ordering) → MatchOrdering r (x < y) (x ≡ y) (y < x)
        → nat_cmp (m * 256 + x) (n * 256 + y) ≡ r
    lower e Less h = let less : x < y = h in
        sym (nat_cmp_is (m * 256 + x) (n * 256 + y) Less (omega arith))
    lower e Equal h = let same : x ≡ y = h in
        sym (nat_cmp_is (m * 256 + x) (n * 256 + y) Equal (omega arith))
    lower e Greater h = let more : y < x = h in
        sym (nat_cmp_is (m * 256 + x) (n * 256 + y) Greater (omega arith))

    higher : (r : Ordering) → MatchOrdering r (m < n) (m ≡ n) (n < m)
        → nat_cmp (m * 256 + x) (n * 256 + y) ≡ ordering_then r (nat_cmp x y)
    higher Less h = let less : m < n = h in
        sym (nat_cmp_is (m * 256 + x) (n * 256 + y) Less (omega arith))
    higher Equal h = lower h (nat_cmp x y) (ranks x y)
    higher Greater h = let more : n < m = h in
        sym (nat_cmp_is (m * 256 + x) (n * 256 + y) Greater (omega arith))

-- A comparison followed by `Equal` is the comparison.
pub then_equal : (r : Ordering) → ordering_then r Equal ≡ r
then_equal Less = refl
then_equal Equal = refl
then_equal Greater = refl

-- the number that the bytes spell after n, the highest first
abbrev spelt : ℕ → List ℕ → ℕ
spelt n [] = n
spelt n (b ∷ bytes) = spelt (n * 256 + b) bytes

cmp_spelt : (m n : ℕ) (xs ys : List ℕ) → length xs ≡ length ys
    → All (λ b. b < 256) xs → All (λ b. b < 256) ys
    → nat_cmp (spelt m xs) (spelt n ys) ≡ ordering_then (nat_cmp m n) (slice_cmp nat_cmp xs ys)
cmp_spelt m n [] [] e p q = sym (then_equal (nat_cmp m n))
cmp_spelt m n [] (y ∷ ys) e p q = absurd (omega arith)
cmp_spelt m n (x ∷ xs) [] e p q = absurd (omega arith)
cmp_spelt m n (x ∷ xs) (y ∷ ys) e p q =
    let own = All-head (λ b. b < 256) x xs p in
    let others = All-head (λ b. b < 256) y ys q in
    cmp_spelt (m * 256 + x) (n * 256 + y) xs ys (omega arith)
    (All-tail (λ b. b < 256) x xs p) (All-tail (λ b. b < 256) y ys q)
    ∙ (ap (λ r. ordering_then r (slice_cmp nat_cmp xs ys)) (one_digit m n x y own others)
    ∙ sym (then_assoc (nat_cmp m n) (nat_cmp x y) (slice_cmp nat_cmp xs ys)))

-- so many bytes from one on
abbrev read : List ℕ → ℕ → ℕ → List ℕ
read bytes i zero = []
read bytes i (suc n) = slice_index bytes i ∷ read bytes (suc i) n

read_out : (n : ℕ) (bytes : List ℕ) (i : ℕ) → i + n ≡ length bytes → read bytes i n ≡ drop i bytes
read_out zero bytes i e = sym (drop_of_length-le bytes (omega arith))
read_out (suc n) bytes i e =
    ap (λ (x : List ℕ). slice_index bytes i ∷ x) (read_out n bytes (suc i) (omega arith))
    ∙ sym (drop-cons bytes i 0 (omega arith))

spelt-sixteen : (bytes : List ℕ) → length bytes ≡ 16 → from_be_bytes w128 bytes ≡ spelt 0 bytes
spelt-sixteen bytes e =
    let is :
    slice_index bytes 0 * 256 ^ 15 + slice_index bytes 1 * 256 ^ 14
    + slice_index bytes 2 * 256 ^ 13 + slice_index bytes 3 * 256 ^ 12
    + slice_index bytes 4 * 256 ^ 11 + slice_index bytes 5 * 256 ^ 10
    + slice_index bytes 6 * 256 ^ 9 + slice_index bytes 7 * 256 ^ 8
    + slice_index bytes 8 * 256 ^ 7 + slice_index bytes 9 * 256 ^ 6
    + slice_index bytes 10 * 256 ^ 5 + slice_index bytes 11 * 256 ^ 4
    + slice_index bytes 12 * 256 ^ 3 + slice_index bytes 13 * 256 ^ 2
    + slice_index bytes 14 * 256 ^ 1 + slice_index bytes 15
    ≡ spelt 0 (read bytes 0 16) = omega arith in
    is ∙ ap (spelt 0) (read_out 16 bytes 0 (sym e))

-- bytes of a text, and the zero bytes after it, are below 256
small_nonzero : (b : ℕ) → is_nonzero_ascii b ≡ true → b < 256
small_nonzero b h = grind (arith, nat_tests)

small_filled : (text : List ℕ) (k : ℕ) → IsNonzeroAscii text
    → All (λ b. b < 256) (text ++ replicate k 0)
small_filled [] k p = All-replicate (λ b. b < 256) k 0 (omega arith)
small_filled (b ∷ text) k p =
    let parts = each_true (is_nonzero_ascii b) (list_all is_nonzero_ascii text) p in
    All-cons (λ b. b < 256) b (text ++ replicate k 0) (small_nonzero b parts.0)
    (small_filled text k parts.1)

length-filled : (text : List ℕ) → length text ≤ 16 → length (filled text) ≡ 16
length-filled text short =
    omega (
      arith,
      short,
      length-append text (replicate (16 - length text) 0),
      length-replicate {A = ℕ} (16 - length text) 0,
    )

-- The numbers of short texts are in the order of the texts.
pub cmp-numbers : (xs ys : List ℕ) → IsShort xs → IsShort ys
    → nat_cmp (spelled_number xs) (spelled_number ys) ≡ slice_cmp nat_cmp xs ys
cmp-numbers xs ys p q =
    let i = 16 - length xs in
    let j = 16 - length ys in
    let first : length (filled xs) ≡ 16 = length-filled xs p.0 in
    let second : length (filled ys) ≡ 16 = length-filled ys q.0 in
    (λ t. nat_cmp (spelt-sixteen (filled xs) first t) (spelt-sixteen (filled ys) second t))
    ∙ (cmp_spelt 0 0 (filled xs) (filled ys) (first ∙ sym second)
    (small_filled xs i p.1) (small_filled ys j q.1)
    ∙ cmp_filled_up xs ys i j (omega (arith, p.0, q.0)) p.1 q.1)

-- The numbers of short texts are equal where the texts are.
pub eq-numbers : (xs ys : List ℕ) → IsShort xs → IsShort ys
    → (spelled_number xs == spelled_number ys) ≡ bytes_eq xs ys
eq-numbers xs ys p q =
    unsigned_ties (spelled_number xs) (spelled_number ys)
    ∙ (ap is_eq (cmp-numbers xs ys p q) ∙ sym (texts_ties xs ys))

below : (m n k : ℕ) → 0 < k → m / k < n / k → m < n
below m n k p h = grind (arith, h, p)

-- Numbers whose fronts differ are in the order of the fronts.
pub cmp-fronts : (m n k : ℕ) → 0 < k → (m / k ≡ n / k → ⊥)
    → nat_cmp (m / k) (n / k) ≡ nat_cmp m n
cmp-fronts m n k p differ = by (nat_cmp (m / k) (n / k)) (ranks (m / k) (n / k))
  where
    by : (r : Ordering) → MatchOrdering r (m / k < n / k) (m / k ≡ n / k) (n / k < m / k)
        → r ≡ nat_cmp m n
    by Less h = nat_cmp_is m n Less (below m n k p h)
    by Equal h = absurd (differ h)
    by Greater h = nat_cmp_is m n Greater (below n m k p h)

-- ---- lower case

zeros-lower : (k : ℕ) → str_to_ascii_lowercase (replicate k 0) ≡ replicate k 0
zeros-lower zero = refl
zeros-lower (suc k) = ap (λ x. 0 ∷ x) (zeros-lower k)

-- Zero bytes have no case.
filled-lower : (text : List ℕ)
    → str_to_ascii_lowercase (filled text) ≡ filled (str_to_ascii_lowercase text)
filled-lower text =
    let size : length (str_to_ascii_lowercase text) ≡ length text =
    length-map text to_ascii_lowercase in
    map-append to_ascii_lowercase text (replicate (16 - length text) 0)
    ∙ (ap (λ (x : List ℕ). str_to_ascii_lowercase text ++ x) (zeros-lower (16 - length text))
    ∙ ap (λ (n : ℕ). str_to_ascii_lowercase text ++ replicate (16 - n) 0) (sym size))

-- A short text in lower case is kept with its length.
pub KeepsShort-lower : (text : List ℕ) → IsShort (str_to_ascii_lowercase text)
    → KeepsShort (str_to_ascii_lowercase (filled text)) (length text)
KeepsShort-lower text is =
    let size : length (str_to_ascii_lowercase text) ≡ length text =
    length-map text to_ascii_lowercase in
    subst (λ (x : List ℕ). KeepsShort x (length text)) (sym (filled-lower text))
    (subst (KeepsShort (filled (str_to_ascii_lowercase text))) size
    (KeepsShort-filled (str_to_ascii_lowercase text) is))

-- Its first bytes, so many, are the text in lower case.
pub take-lower : (text : List ℕ)
    → take (length text) (str_to_ascii_lowercase (filled text)) ≡ str_to_ascii_lowercase text
take-lower text =
    let lower : List ℕ = str_to_ascii_lowercase text in
    let size : length lower ≡ length text = length-map text to_ascii_lowercase in
    (λ t. take (sym size t) (filled-lower text t))
    ∙ take-append_seam lower (replicate (16 - length lower) 0)
