-- Small facts on lists.
use Rattle.std.proofs.Common.{◌≡◌, ◌++◌, ◌∷◌, [], List, ◌⊎◌, inl, inr, refl, ap}
use Rattle.std.proofs.Common.{◌-◌, ℕ, ap₂, arith, drop, length, length-drop, sym, take, take_all}
use Rattle.std.specs.List.{All}
use Rattle.std.proofs.lemmas.List.Elements.{All-cons, All-head, All-nil, All-tail}

-- the first of a list, or this
abbrev pub head_or : {X : Type 0} → X → List X → X
head_or d [] = d
head_or d (x ∷ xs) = x

-- what comes after the first
abbrev pub tail_of : {X : Type 0} → List X → List X
tail_of [] = []
tail_of (x ∷ xs) = xs

-- the rest of a list, as a slice up to its end
pub to_end : {X : Type 0} (xs : List X) (n : ℕ) → take (length xs - n) (drop n xs) ≡ drop n xs
to_end xs n = take_all (length xs - n) (drop n xs) (omega (arith, length-drop n xs))

module _ {X : Type 0} where
  -- of two cuts of a list one is after the other
  pub cut_twice : (b a c d : List X) → b ++ a ≡ c ++ d
      → ((m : List X) × (c ≡ b ++ m) × (a ≡ m ++ d))
      ⊎ ((x : X) × (m : List X) × (b ≡ c ++ x ∷ m) × (d ≡ x ∷ (m ++ a)))
  cut_twice [] a c d is = inl (c, refl, is)
  cut_twice (x ∷ b) a [] d is = inr (x, b, refl, sym is)
  cut_twice (x ∷ b) a (y ∷ c) d is =
      let same : x ≡ y = ap (head_or x) is in
      by (cut_twice b a c d (ap tail_of is))
    where
      by : ((m : List X) × (c ≡ b ++ m) × (a ≡ m ++ d))
          ⊎ ((z : X) × (m : List X) × (b ≡ c ++ z ∷ m) × (d ≡ z ∷ (m ++ a)))
          → ((m : List X) × (y ∷ c ≡ x ∷ (b ++ m)) × (a ≡ m ++ d))
          ⊎ ((z : X) × (m : List X) × (x ∷ b ≡ y ∷ (c ++ z ∷ m)) × (d ≡ z ∷ (m ++ a)))
      by (inl (m, p, q)) = inl (m, ap₂ (λ u us. u ∷ us) (sym (ap (head_or x) is)) p, q)
      by (inr (z, m, p, q)) = inr (z, m, ap₂ (λ u us. u ∷ us) (ap (head_or x) is) p, q)

module _ {X : Type 0} (P : X → Type 0) where
  -- what holds of all holds of the last ones
  pub All-back : (xs ys : List X) → All P (xs ++ ys) → All P ys
  All-back [] ys all = all
  All-back (x ∷ xs) ys all = All-back xs ys (All-tail P x (xs ++ ys) all)

  -- and of the first ones
  pub All-front : (xs ys : List X) → All P (xs ++ ys) → All P xs
  All-front [] ys all = All-nil P
  All-front (x ∷ xs) ys all =
      All-cons P x xs (All-head P x (xs ++ ys) all)
      (All-front xs ys (All-tail P x (xs ++ ys) all))
