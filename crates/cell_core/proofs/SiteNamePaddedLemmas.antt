-- The names of numbered sites: ten digits each, in the order of the numbers.
use Rattle.std.proofs.Common.{◌≡◌, ℕ, suc, zero, ◌+◌, ◌-◌, ◌/◌, ◌%◌, ◌^◌, ◌<◌, ◌≤◌, List, [], ◌∷◌}
use Rattle.std.proofs.Common.{◌++◌, length, replicate, drop, set, All, IsTrue, sym, ap, ◌∙◌, subst}
use Rattle.std.proofs.Common.{refl, arith, length-append, append_assoc}
use Rattle.std.proofs.Math.Nat.{lt-suc_self}
use Rattle.std.proofs.Math.Seq.{drop-cons}
use Rattle.std.proofs.Math.ListN.{length-set}
use Rattle.std.proofs.lemmas.List.{replicate_more, drop-set-lt, get_or-set_same}
use Rattle.std.proofs.lemmas.List.Elements.{All-nil, All-push}
use Rattle.std.proofs.lemmas.Bool.Decides.{nat_tests}
use Rattle.std.proofs.lemmas.Fmt.{decimal_by_steps}
use Rattle.std.proofs.lemmas.Cmp.{ranked, by_ranked}
use Rattle.lang_core.proofs.LowerTextLemmas.{then_equal}
use Rattle.lang_core.proofs.Basics.{then_assoc}
use Rattle.std.specs.Fmt.{decimal}
use Rattle.std.specs.Cmp.{nat_cmp_is}
use Rattle.std.specs.Cmp.Lexicographic.{slice_cmp}
use Rattle.std.specs.Ordering.{nat_cmp, ordering_then}
use Rattle.std.specs.declared.cmp.Ordering.TheVariants.{Less, Equal, Greater}
use Rattle.cell_core.specs.SiteName.{is_site_byte, IsSiteName, padded_name}

-- the last k decimal digits
abbrev pub last_digits : ℕ → ℕ → List ℕ
last_digits zero n = []
last_digits (suc k) n = last_digits k (n / 10) ++ (48 + n % 10) ∷ []

-- The last k digits are k bytes.
pub length-last_digits : (k n : ℕ) → length (last_digits k n) ≡ k
length-last_digits zero n = refl
length-last_digits (suc k) n = simp length-append (omega (arith, length-last_digits k (n / 10)))

is_digit : (d : ℕ) → d < 10 → IsTrue (is_site_byte (48 + d))
unfolding is_site_byte
is_digit d h = grind (arith, nat_tests)

All-last_digits : (k n : ℕ) → All (λ b. IsTrue (is_site_byte b)) (last_digits k n)
All-last_digits zero n = All-nil (λ b. IsTrue (is_site_byte b))
All-last_digits (suc k) n =
    All-push (λ b. IsTrue (is_site_byte b)) (last_digits k (n / 10)) (48 + n % 10)
    (All-last_digits k (n / 10)) (is_digit (n % 10) (omega arith))

zeros : (k : ℕ) → last_digits k 0 ≡ replicate k 48
zeros zero = refl
zeros (suc k) = let next : k + 1 ≡ suc k = omega arith in
    ap (λ ds. ds ++ 48 ∷ []) (zeros k) ∙ replicate_more k 48 ∙ ap (λ n. replicate n 48) next

-- the digits, with zeros in front to k digits
abbrev IsPadded : ℕ → List ℕ → Type 0
IsPadded n ds = (k : ℕ) → 0 < k → n < 10 ^ k → replicate (k - length ds) 48 ++ ds ≡ last_digits k n

padded_one : (n : ℕ) → n < 10 → IsPadded n ((48 + n) ∷ [])
padded_one n h zero some fits = absurd (omega arith)
padded_one n h (suc k) some fits =
    let front : suc k - 1 ≡ k = omega arith in
    let none : 0 ≡ n / 10 = omega arith in
    let last : n ≡ n % 10 = omega arith in
    ap (λ m. replicate m 48 ++ (48 + n) ∷ []) front
    ∙ (λ i. (sym (zeros k) ∙ ap (last_digits k) none) i ++ (48 + last i) ∷ [])

padded_more : (n : ℕ) (ds : List ℕ) → 10 ≤ n → IsPadded (n / 10) ds
    → IsPadded n (ds ++ (48 + n % 10) ∷ [])
padded_more n ds h before zero some fits = absurd (omega arith)
padded_more n ds h before (suc zero) some fits = absurd (omega arith)
padded_more n ds h before (suc (suc k)) some fits =
    let less : n / 10 < 10 ^ suc k = omega arith in
    let front : suc (suc k) - length (ds ++ (48 + n % 10) ∷ []) ≡ suc k - length ds =
    simp length-append (omega arith) in
    ap (λ m. replicate m 48 ++ (ds ++ (48 + n % 10) ∷ [])) front
    ∙ sym (append_assoc (replicate (suc k - length ds) 48) ds ((48 + n % 10) ∷ []))
    ∙ ap (λ all. all ++ (48 + n % 10) ∷ []) (before (suc k) (omega arith) less)

-- zeros in front of the decimal digits make up the last digits
padded_digits : (n : ℕ) → n < 2 ^ 64 → IsPadded n (decimal n)
padded_digits = decimal_by_steps IsPadded padded_one padded_more

-- lists of one length: the fronts decide, then the last
cmp-append : (xs ys : List ℕ) (x y : ℕ) → length xs ≡ length ys
    → slice_cmp nat_cmp (xs ++ x ∷ []) (ys ++ y ∷ [])
    ≡ ordering_then (slice_cmp nat_cmp xs ys) (nat_cmp x y)
cmp-append [] [] x y e = then_equal (nat_cmp x y)
cmp-append [] (b ∷ ys) x y e = absurd (omega arith)
cmp-append (a ∷ xs) [] x y e = absurd (omega arith)
cmp-append (a ∷ xs) (b ∷ ys) x y e =
    ap (ordering_then (nat_cmp a b)) (cmp-append xs ys x y (omega arith))
    ∙ then_assoc (nat_cmp a b) (slice_cmp nat_cmp xs ys) (nat_cmp x y)

last_digit_decides : (m n : ℕ) → m / 10 ≡ n / 10 → nat_cmp (48 + m % 10) (48 + n % 10) ≡ nat_cmp m n
last_digit_decides m n same =
    let a = 48 + m % 10 in
    let b = 48 + n % 10 in
    by_ranked (a < b) (a ≡ b) (b < a) (nat_cmp a b) (ranked a b (nat_cmp a b) refl)
    (λ e lt. e ∙ nat_cmp_is m n Less (omega arith))
    (λ e eq. e ∙ nat_cmp_is m n Equal (omega arith))
    (λ e gt. e ∙ nat_cmp_is m n Greater (omega arith))

front_decides : (m n : ℕ)
    → ordering_then (nat_cmp (m / 10) (n / 10)) (nat_cmp (48 + m % 10) (48 + n % 10)) ≡ nat_cmp m n
front_decides m n =
    let a = m / 10 in
    let b = n / 10 in
    let digits = nat_cmp (48 + m % 10) (48 + n % 10) in
    by_ranked (a < b) (a ≡ b) (b < a) (nat_cmp a b) (ranked a b (nat_cmp a b) refl)
    (λ e lt. ap (λ r. ordering_then r digits) e ∙ nat_cmp_is m n Less (omega arith))
    (λ e eq. ap (λ r. ordering_then r digits) e ∙ last_digit_decides m n eq)
    (λ e gt. ap (λ r. ordering_then r digits) e ∙ nat_cmp_is m n Greater (omega arith))

-- Numbers of at most k digits are in the order of their last k digits.
pub cmp-last_digits : (k m n : ℕ) → m < 10 ^ k → n < 10 ^ k
    → slice_cmp nat_cmp (last_digits k m) (last_digits k n) ≡ nat_cmp m n
cmp-last_digits zero m n p q = nat_cmp_is m n Equal (omega arith)
cmp-last_digits (suc k) m n p q =
    cmp-append (last_digits k (m / 10)) (last_digits k (n / 10)) (48 + m % 10) (48 + n % 10)
    (length-last_digits k (m / 10) ∙ sym (length-last_digits k (n / 10)))
    ∙ ap (λ r. ordering_then r (nat_cmp (48 + m % 10) (48 + n % 10)))
    (cmp-last_digits k (m / 10) (n / 10) (omega arith) (omega arith))
    ∙ front_decides m n

-- The padded name of a number is its last ten digits.
pub padded_name-last_digits : (n : ℕ) → n < 2 ^ 32 → padded_name n ≡ last_digits 10 n
padded_name-last_digits n h = padded_digits n (omega arith) 10 (omega arith) (omega arith)

-- a padded name is a name
pub IsSiteName-padded_name : (n : ℕ) → n < 2 ^ 32 → IsSiteName (padded_name n)
IsSiteName-padded_name n h = subst IsSiteName (sym (padded_name-last_digits n h)) (record {
  some = omega (arith, length-last_digits 10 n);
  most = omega (arith, length-last_digits 10 n);
  bytes = All-last_digits 10 n;
})

-- padded names are in the order of the numbers
pub cmp-padded_name : (m n : ℕ) → m < 2 ^ 32 → n < 2 ^ 32
    → slice_cmp nat_cmp (padded_name m) (padded_name n) ≡ nat_cmp m n
cmp-padded_name m n p q =
    (λ i. slice_cmp nat_cmp (padded_name-last_digits m p i) (padded_name-last_digits n q i))
    ∙ cmp-last_digits 10 m n (omega arith) (omega arith)

drop_written : (k d : ℕ) (digits : List ℕ) → k < length digits
    → drop k (set digits k d) ≡ d ∷ drop (suc k) digits
drop_written k d digits lt =
    drop-cons (set digits k d) k 0 (omega (arith, length-set {A = ℕ}))
    ∙ (λ i. get_or-set_same digits k d 0 lt i ∷ drop-set-lt (suc k) digits k d (lt-suc_self k) i)

-- one digit is written in front of those that are
pub digit_written : (k n : ℕ) (digits : List ℕ) → 0 < k → k ≤ length digits
    → last_digits (k - 1) (n / 10) ++ drop (k - 1) (set digits (k - 1) (48 + n % 10))
    ≡ last_digits k n ++ drop k digits
digit_written zero n digits some fits = absurd (omega arith)
digit_written (suc k) n digits some fits =
    let before : suc k - 1 ≡ k = omega arith in
    rw before
    (ap (λ ds. last_digits k (n / 10) ++ ds) (drop_written k (48 + n % 10) digits (omega arith))
    ∙ sym (append_assoc (last_digits k (n / 10)) ((48 + n % 10) ∷ []) (drop (suc k) digits)))
