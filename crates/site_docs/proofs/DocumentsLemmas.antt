-- Lists with one more of them.
use Rattle.std.proofs.Common.{◌≡◌, ◌+◌, ◌++◌, ℕ, zero, suc, List, [], ◌∷◌, take, ap}
use Rattle.std.proofs.Common.{add-one}
use Rattle.std.proofs.lemmas.List.Elements.{All-append, All-cons, All-nil}
use Rattle.std.specs.List.{All}
use Rattle.std.specs.Prelude.{Some, slice_get}

taken : {A : Type 0} (xs : List A) (k : ℕ) (x : A) → slice_get xs k ≡ Some x → take (suc k) xs
    ≡ take k xs ++ x ∷ []
taken [] k x is = cc
taken (y ∷ xs) zero x is = cc
taken (y ∷ xs) (suc k) x is = ap (λ t. y ∷ t) (taken xs k x is)

-- one more is as all before it
pub kept_more : {X : Type 0} (P : X → Type 0) (xs : List X) (x : X) → All P xs → P x
    → All P (xs ++ x ∷ [])
kept_more P xs x all one = All-append P xs (x ∷ []) all (All-cons P x [] one (All-nil P))

-- one more is taken
pub taken_more : {A : Type 0} (xs : List A) (k : ℕ) (x : A) → slice_get xs k ≡ Some x
    → take (k + 1) xs ≡ take k xs ++ x ∷ []
taken_more xs k x is = rw add-one (taken xs k x is)
