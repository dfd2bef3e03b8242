-- Texts without zero bytes that are padded with them to a fixed length.
use Rattle.std.proofs.Common.{◌≡◌, ℕ, suc, zero, ◌+◌, ◌-◌, ◌<◌, ◌≤◌}
use Rattle.std.proofs.Common.{List, [], ◌∷◌, ◌++◌, length, take, replicate, All}
use Rattle.std.proofs.Common.{sym, ap, ◌∙◌, refl, arith}
use Rattle.std.proofs.lemmas.List.Elements.{All-head, All-tail}
use Rattle.std.proofs.Math.Seq.{take-append_seam}
use Rattle.std.specs.Prelude.{◌==◌}
use Rattle.std.specs.Cmp.{tied_itself, nat_cmp_is}
use Rattle.std.specs.Cmp.Lexicographic.{slice_cmp, nat_list_cmp_total}
use Rattle.std.specs.Ordering.{nat_cmp, ordering_then}
use Rattle.std.specs.declared.cmp.Ordering.TheVariants.{Less, Greater}
use Rattle.std.specs.List.{position_or_len}
use Rattle.cell_core.specs.ZeroPadded.{zero_padded, before_zeros}
use Rattle.lang_core.proofs.TagTableLemmas.{not_zero}

-- texts without zero bytes keep their order where both are padded to one length
cmp_padded_by : (xs ys : List ℕ) (i j : ℕ) → length xs + i ≡ length ys + j
    → All (λ b. 0 < b) xs → All (λ b. 0 < b) ys
    → slice_cmp nat_cmp (xs ++ replicate i 0) (ys ++ replicate j 0) ≡ slice_cmp nat_cmp xs ys
cmp_padded_by [] [] i j e p q =
    let same : i ≡ j = omega arith in
    rw same (tied_itself nat_list_cmp_total (replicate j 0))
cmp_padded_by [] (y ∷ ys) zero j e p q = absurd (omega arith)
cmp_padded_by [] (zero ∷ ys) (suc i) j e p q =
    absurd (omega (arith, All-head (λ b. 0 < b) zero ys q))
cmp_padded_by [] (suc y ∷ ys) (suc i) j e p q =
    let rest = slice_cmp nat_cmp (replicate i 0) (ys ++ replicate j 0) in
    ap (λ r. ordering_then r rest) (sym (nat_cmp_is 0 (suc y) Less (omega arith)))
cmp_padded_by (x ∷ xs) [] i zero e p q = absurd (omega arith)
cmp_padded_by (zero ∷ xs) [] i (suc j) e p q =
    absurd (omega (arith, All-head (λ b. 0 < b) zero xs p))
cmp_padded_by (suc x ∷ xs) [] i (suc j) e p q =
    let rest = slice_cmp nat_cmp (xs ++ replicate i 0) (replicate j 0) in
    ap (λ r. ordering_then r rest) (sym (nat_cmp_is (suc x) 0 Greater (omega arith)))
cmp_padded_by (x ∷ xs) (y ∷ ys) i j e p q =
    let own = All-tail (λ b. 0 < b) x xs p in
    let others = All-tail (λ b. 0 < b) y ys q in
    ap (ordering_then (nat_cmp x y)) (cmp_padded_by xs ys i j (omega arith) own others)

-- padded texts are in the order of the texts
pub cmp-zero_padded : (n : ℕ) (x y : List ℕ) → length x ≤ n → length y ≤ n
    → All (λ b. 0 < b) x → All (λ b. 0 < b) y
    → slice_cmp nat_cmp (zero_padded n x) (zero_padded n y) ≡ slice_cmp nat_cmp x y
cmp-zero_padded n x y fits_x fits_y p q =
    cmp_padded_by x y (n - length x) (n - length y) (omega (arith, fits_x, fits_y)) p q

first_zero : (text : List ℕ) (k : ℕ) → All (λ b. 0 < b) text
    → position_or_len (λ b. b == 0) (text ++ replicate k 0) ≡ length text
first_zero [] zero p = refl
first_zero [] (suc k) p = refl
first_zero (zero ∷ text) k p = absurd (omega (arith, All-head (λ b. 0 < b) zero text p))
first_zero (suc b ∷ text) k p =
    let later = first_zero text k (All-tail (λ b. 0 < b) (suc b) text p) in
    rw (not_zero b) (omega (arith, later))

-- A text without zero bytes is what comes before those that it is padded with.
pub before_zeros-zero_padded : (n : ℕ) (text : List ℕ) → All (λ b. 0 < b) text
    → before_zeros (zero_padded n text) ≡ text
before_zeros-zero_padded n text p =
    ap (λ k. take k (zero_padded n text)) (first_zero text (n - length text) p)
    ∙ take-append_seam text (replicate (n - length text) 0)
