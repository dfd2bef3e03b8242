-- The order of texts by their first bytes, as numbers.
use Rattle.std.proofs.Common.{ℕ, ◌≡◌, ◌≤◌, ◌<◌, ◌+◌, ◌*◌, ◌⊎◌, inl, inr, List, [], ◌∷◌, true, false}
use Rattle.std.proofs.Common.{get_or, refl, sym, ◌∙◌, ap, arith, w64}
use Rattle.std.specs.Prelude.{nat_lt, zero, suc, slice_index}
use Rattle.std.specs.Int.{from_be_bytes}
use Rattle.std.specs.Ordering.{nat_cmp, ordering_then, ordering_reverse}
use Rattle.std.specs.Cmp.Lexicographic.{slice_cmp}
use Rattle.std.specs.declared.cmp.Ordering.{Ordering}
use Rattle.std.specs.declared.cmp.Ordering.TheVariants.{Less, Equal, Greater}
use Rattle.std.proofs.lemmas.Bool.{cases_Bool, cases_order, lt-ltb, ltb-true, ltb-false}
use Rattle.std.proofs.lemmas.Cmp.{nat_list_cmp_total, nat_cmp_total, tied_itself}
use Rattle.std.proofs.Math.Nat.{mul-le-mul_right, suc-mul}
use Rattle.list_core.specs.Fingerprint.{worth, head_from, head_of}
use Rattle.list_core.proofs.IndexLemmas.{nat_less}

-- ---- a lower number means a lower text

small_digit : (b p rest : ℕ) → b < 256 → rest ≤ p → b * p + rest ≤ 256 * p
small_digit b p rest low h =
    let more : suc b * p ≤ 256 * p = mul-le-mul_right p (omega arith) in
    let split = suc-mul b p in
    omega arith

head_small : (k : ℕ) (text : List ℕ) → head_from k text ≤ worth k
unfolding head_from
head_small zero text = omega arith
head_small (suc k) [] = omega arith
head_small (suc k) (b ∷ text) = elim (cases_Bool (nat_lt b 256)) [
  | inl e ↦ rw e (small_digit b (worth k) (head_from k text) (ltb-true b 256 e) (head_small k text))
  | inr e ↦ rw e (omega arith)
]

-- the first digits differ, or the others do
digits : (x y p a b : ℕ) → a ≤ p → b ≤ p → x * p + a < y * p + b → (x < y) ⊎ ((x ≡ y) × (a < b))
digits x y p a b m n h = elim (cases_order x y) [
  | inl same ↦ inr (same, (let e : x * p ≡ y * p = ap (λ (z : ℕ). z * p) same in omega arith))
  | inr r ↦ elim r [
    | inl less ↦ inl less
    | inr more ↦
        absurd
        (let le : suc y * p ≤ x * p = mul-le-mul_right p (omega arith) in let split = suc-mul y p in
        omega arith)
  ]
]

nat_same : (m n : ℕ) → m ≡ n → nat_cmp m n ≡ Equal
nat_same m n e = ap (nat_cmp m) (sym e) ∙ tied_itself nat_cmp_total m

first_less : (x y : ℕ) (a b : List ℕ) → x < y → slice_cmp nat_cmp (x ∷ a) (y ∷ b) ≡ Less
first_less x y a b h =
    ap (λ (o : Ordering). ordering_then o (slice_cmp nat_cmp a b)) (nat_less x y h)

rest_less : (x y : ℕ) (a b : List ℕ) → x ≡ y → slice_cmp nat_cmp a b ≡ Less
    → slice_cmp nat_cmp (x ∷ a) (y ∷ b) ≡ Less
rest_less x y a b e h =
    ap (λ (o : Ordering). ordering_then o (slice_cmp nat_cmp a b)) (nat_same x y e) ∙ h

head_byte : (k b : ℕ) (text : List ℕ) → nat_lt b 256 ≡ true
    → head_from (suc k) (b ∷ text) ≡ b * worth k + head_from k text
unfolding head_from
head_byte k b text e = rw e refl

head_other : (k b : ℕ) (text : List ℕ) → nat_lt b 256 ≡ false
    → head_from (suc k) (b ∷ text) ≡ worth (suc k)
unfolding head_from
head_other k b text e = rw e refl

head_none : (k : ℕ) → head_from k [] ≡ 0
unfolding head_from
head_none zero = refl
head_none (suc k) = refl

head_zero : (text : List ℕ) → head_from 0 text ≡ 0
unfolding head_from
head_zero text = refl

lower_head : (k : ℕ) (a b : List ℕ) → head_from k a < head_from k b → slice_cmp nat_cmp a b ≡ Less
lower_head zero a b h = absurd (let m = head_zero a in let n = head_zero b in omega arith)
lower_head (suc k) a [] h = absurd (let n = head_none (suc k) in omega arith)
lower_head (suc k) [] (y ∷ b) h = refl
lower_head (suc k) (x ∷ a) (y ∷ b) h = elim (cases_Bool (nat_lt x 256)) [
  | inl xs ↦ elim (cases_Bool (nat_lt y 256)) [
    | inl ys ↦ (
        let ex = head_byte k x a xs in
        let ey = head_byte k y b ys in
        elim (digits x y (worth k) (head_from k a) (head_from k b) (head_small k a) (head_small k b)
        (omega arith)) [
          | inl less ↦ first_less x y a b less
          | inr same ↦ rest_less x y a b same.0 (lower_head k a b same.1)
        ])
    | inr yo ↦
        first_less x y a b (let m = ltb-true x 256 xs in let n = ltb-false y 256 yo in omega arith)
  ]
  | inr xo ↦
      absurd (let e = head_other k x a xo in let small = head_small (suc k) (y ∷ b) in omega arith)
]

-- A text whose first eight bytes are a lower number is less.
pub lower : (a b : List ℕ) (m n : ℕ) → m ≡ head_of a → n ≡ head_of b → m < n
    → Less ≡ slice_cmp nat_cmp a b
unfolding head_of
lower a b m n e f h = sym (lower_head 8 a b (omega arith))

-- A text whose first eight bytes are a higher number is greater.
pub higher : (a b : List ℕ) (m n : ℕ) → m ≡ head_of a → n ≡ head_of b → n < m
    → Greater ≡ slice_cmp nat_cmp a b
higher a b m n e f h =
    sym (nat_list_cmp_total.antisymm a b ∙ ap ordering_reverse (sym (lower b a n m f e h)))

-- ---- how the number is made

-- the number of bytes
unfoldable plain : ℕ → List ℕ → ℕ
plain zero text = 0
plain (suc k) [] = 0
plain (suc k) (b ∷ text) = b * worth k + plain k text

plain_is : (k : ℕ) (text : List ℕ) → ((i : ℕ) → get_or text i 0 < 256)
    → head_from k text ≡ plain k text
unfolding head_from plain
plain_is zero text fits = refl
plain_is (suc k) [] fits = refl
plain_is (suc k) (b ∷ text) fits =
    rw (lt-ltb b 256 (fits 0))
    (ap (λ (n : ℕ). b * worth k + n) (plain_is k text (λ i. fits (suc i))))

abbrev eight : List ℕ → List ℕ
eight t =
    slice_index t 0 ∷ slice_index t 1 ∷ slice_index t 2 ∷ slice_index t 3 ∷ slice_index t 4
    ∷ slice_index t 5 ∷ slice_index t 6 ∷ slice_index t 7 ∷ []

be_plain : (t : List ℕ) → from_be_bytes w64 (eight t) ≡ plain 8 t
unfolding plain
be_plain [] = refl
be_plain (a ∷ []) = omega arith
be_plain (a ∷ b ∷ []) = omega arith
be_plain (a ∷ b ∷ c ∷ []) = omega arith
be_plain (a ∷ b ∷ c ∷ d ∷ []) = omega arith
be_plain (a ∷ b ∷ c ∷ d ∷ e ∷ []) = omega arith
be_plain (a ∷ b ∷ c ∷ d ∷ e ∷ f ∷ []) = omega arith
be_plain (a ∷ b ∷ c ∷ d ∷ e ∷ f ∷ g ∷ []) = omega arith
be_plain (a ∷ b ∷ c ∷ d ∷ e ∷ f ∷ g ∷ h ∷ t) = omega arith

head_is : (text : List ℕ) (n : ℕ) → ((i : ℕ) → get_or text i 0 < 256)
    → n ≡ from_be_bytes w64 (eight text) → n ≡ head_of text
unfolding head_of
head_is text n fits e = e ∙ (be_plain text ∙ sym (plain_is 8 text fits))

-- the number of eight bytes that were read one by one
pub head_read : (text bytes : List ℕ) (n r0 r1 r2 r3 r4 r5 r6 r7 : ℕ)
    → ((i : ℕ) → get_or text i 0 < 256) → bytes ≡ text → r0 ≡ slice_index bytes 0
    → r1 ≡ slice_index bytes 1 → r2 ≡ slice_index bytes 2 → r3 ≡ slice_index bytes 3
    → r4 ≡ slice_index bytes 4 → r5 ≡ slice_index bytes 5 → r6 ≡ slice_index bytes 6
    → r7 ≡ slice_index bytes 7
    → n ≡ from_be_bytes w64 (r0 ∷ r1 ∷ r2 ∷ r3 ∷ r4 ∷ r5 ∷ r6 ∷ r7 ∷ []) → n ≡ head_of text
head_read text bytes n r0 r1 r2 r3 r4 r5 r6 r7 fits same e0 e1 e2 e3 e4 e5 e6 e7 e =
    let list : r0 ∷ r1 ∷ r2 ∷ r3 ∷ r4 ∷ r5 ∷ r6 ∷ r7 ∷ [] ≡ eight bytes = cc in
    head_is text n fits
    (e ∙ (ap (from_be_bytes w64) list ∙ ap (λ (t : List ℕ). from_be_bytes w64 (eight t)) same))
