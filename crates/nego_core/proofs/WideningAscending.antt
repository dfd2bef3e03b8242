-- Texts in ascending order, each once.
--
-- The languages that a range matches are tried in ascending order of their bytes. The list of them
-- is made by putting each text that passes at its place, which keeps the order. It has just the
-- members that pass, and two ascending lists with the same members are one, so the definition by
-- members and the list that is computed say the same.
use Rattle.std.proofs.Common.{ℕ, ◌≡◌, ◌⊎◌, List, [], ◌∷◌, Bool, inl, inr, refl, sym, ◌∙◌, ap, subst}
use Rattle.std.proofs.Common.{arith}
use Rattle.std.specs.Prelude.{zero, suc, All, AllPairs, Contains, IsTrue, if◌then◌else◌}
use Rattle.std.specs.Ordering.{nat_cmp, ordering_reverse}
use Rattle.std.specs.Cmp.Lexicographic.{slice_cmp}
use Rattle.std.specs.declared.cmp.Ordering.{Ordering}
use Rattle.std.specs.declared.cmp.Ordering.TheVariants.{Less, Equal, Greater}
use Rattle.std.proofs.lemmas.Bool.{cases_Bool}
use Rattle.std.proofs.lemmas.Cmp.{nat_list_cmp_total}
use Rattle.std.proofs.lemmas.List.Elements.{All-nil, All-cons, All-head, All-tail, All-contains}
use Rattle.std.proofs.lemmas.List.Elements.{All-weaker}
use Rattle.std.proofs.lemmas.List.Kept.{AllPairs-cons}
use Rattle.list_core.proofs.Basics.{contains_cases, contains_first, contains_later}
use Rattle.list_core.proofs.IndexUnique.{text_tied}
use Rattle.nego_core.specs.Widening.{Ascends}

-- the first text of an ascending list is below all others
pub all_above : (x : List ℕ) (xs : List (List ℕ)) → AllPairs Ascends (x ∷ xs) → All (Ascends x) xs
all_above x xs h = λ k d low. h zero (suc k) d (omega arith) (omega arith)

-- what follows the first text of an ascending list ascends
pub ascending_tail : (x : List ℕ) (xs : List (List ℕ)) → AllPairs Ascends (x ∷ xs)
    → AllPairs Ascends xs
ascending_tail x xs h = λ i j d lt low. h (suc i) (suc j) d (omega arith) (omega arith)

-- of two texts not both are below the other
pub not_both : (x y : List ℕ) → Ascends x y → Ascends y x → ⊥
not_both x y h g = let back : Less ≡ Greater =
    sym h ∙ (nat_list_cmp_total.antisymm x y ∙ ap ordering_reverse g) in cc

above : (x y : List ℕ) → slice_cmp nat_cmp x y ≡ Greater → Ascends y x
above x y h = nat_list_cmp_total.antisymm y x ∙ ap ordering_reverse h

-- No text is below itself.
pub not_itself : (x : List ℕ) → ¬ Ascends x x
not_itself x h = not_both x x h h

-- ---- a text put in

abbrev put_at : Ordering → List ℕ → List ℕ → List (List ℕ) → List (List ℕ) → List (List ℕ)
put_at Less x y ys rest = x ∷ y ∷ ys
put_at Equal x y ys rest = y ∷ ys
put_at Greater x y ys rest = y ∷ rest

abbrev put_in : List ℕ → List (List ℕ) → List (List ℕ)
put_in x [] = x ∷ []
put_in x (y ∷ ys) = put_at (slice_cmp nat_cmp x y) x y ys (put_in x ys)

put_from_at : (o : Ordering) (x y z : List ℕ) (ys rest : List (List ℕ))
    → (Contains rest z → (x ≡ z) ⊎ Contains ys z) → Contains (put_at o x y ys rest) z
    → (x ≡ z) ⊎ Contains (y ∷ ys) z
put_from_at Less x y z ys rest f c = contains_cases x z (y ∷ ys) c
put_from_at Equal x y z ys rest f c = inr c
put_from_at Greater x y z ys rest f c = elim (contains_cases y z rest c) [
  | inl e ↦ inr (subst (Contains (y ∷ ys)) e (contains_first y ys))
  | inr later ↦ elim (f later) [ inl e ↦ inl e | inr d ↦ inr (contains_later y z ys d) ]
]

put_from : (x z : List ℕ) (ys : List (List ℕ)) → Contains (put_in x ys) z → (x ≡ z) ⊎ Contains ys z
put_from x z [] c = contains_cases x z [] c
put_from x z (y ∷ ys) c =
    put_from_at (slice_cmp nat_cmp x y) x y z ys (put_in x ys) (put_from x z ys) c

put_kept_at : (o : Ordering) (x y z : List ℕ) (ys rest : List (List ℕ))
    → (Contains ys z → Contains rest z) → Contains (y ∷ ys) z → Contains (put_at o x y ys rest) z
put_kept_at Less x y z ys rest f c = contains_later x z (y ∷ ys) c
put_kept_at Equal x y z ys rest f c = c
put_kept_at Greater x y z ys rest f c = elim (contains_cases y z ys c) [
  | inl e ↦ subst (Contains (y ∷ rest)) e (contains_first y rest)
  | inr later ↦ contains_later y z rest (f later)
]

put_kept : (x z : List ℕ) (ys : List (List ℕ)) → Contains ys z → Contains (put_in x ys) z
put_kept x z [] c = contains_later x z [] c
put_kept x z (y ∷ ys) c =
    put_kept_at (slice_cmp nat_cmp x y) x y z ys (put_in x ys) (put_kept x z ys) c

put_own_at : (o : Ordering) (x y : List ℕ) (ys rest : List (List ℕ)) → slice_cmp nat_cmp x y ≡ o
    → Contains rest x → Contains (put_at o x y ys rest) x
put_own_at Less x y ys rest e c = contains_first x (y ∷ ys)
put_own_at Equal x y ys rest e c =
    subst (Contains (y ∷ ys)) (sym (text_tied x y e)) (contains_first y ys)
put_own_at Greater x y ys rest e c = contains_later y x rest c

put_own : (x : List ℕ) (ys : List (List ℕ)) → Contains (put_in x ys) x
put_own x [] = contains_first x []
put_own x (y ∷ ys) = put_own_at (slice_cmp nat_cmp x y) x y ys (put_in x ys) refl (put_own x ys)

put_all_at : (Q : List ℕ → Type 0) (o : Ordering) (x y : List ℕ) (ys rest : List (List ℕ)) → Q x
    → All Q (y ∷ ys) → All Q rest → All Q (put_at o x y ys rest)
put_all_at Q Less x y ys rest q h r = All-cons Q x (y ∷ ys) q h
put_all_at Q Equal x y ys rest q h r = h
put_all_at Q Greater x y ys rest q h r = All-cons Q y rest (All-head Q y ys h) r

put_all : (Q : List ℕ → Type 0) (x : List ℕ) (ys : List (List ℕ)) → Q x → All Q ys
    → All Q (put_in x ys)
put_all Q x [] q h = All-cons Q x [] q h
put_all Q x (y ∷ ys) q h =
    put_all_at Q (slice_cmp nat_cmp x y) x y ys (put_in x ys) q h
    (put_all Q x ys q (All-tail Q y ys h))

put_ascending_at : (o : Ordering) (x y : List ℕ) (ys rest : List (List ℕ))
    → slice_cmp nat_cmp x y ≡ o → AllPairs Ascends (y ∷ ys) → AllPairs Ascends rest
    → (Ascends y x → All (Ascends y) rest)
    → AllPairs Ascends (put_at o x y ys rest)
put_ascending_at Less x y ys rest e h r f =
    AllPairs-cons Ascends x (y ∷ ys)
    (All-cons (Ascends x) y ys e
    (All-weaker (Ascends y) (Ascends x) (λ z l. nat_list_cmp_total.trans x y z e l) ys
    (all_above y ys h))) h
put_ascending_at Equal x y ys rest e h r f = h
put_ascending_at Greater x y ys rest e h r f = AllPairs-cons Ascends y rest (f (above x y e)) r

put_ascending : (x : List ℕ) (ys : List (List ℕ)) → AllPairs Ascends ys
    → AllPairs Ascends (put_in x ys)
put_ascending x [] h = AllPairs-cons Ascends x [] (All-nil (Ascends x)) h
put_ascending x (y ∷ ys) h =
    put_ascending_at (slice_cmp nat_cmp x y) x y ys (put_in x ys) refl h
    (put_ascending x ys (ascending_tail y ys h)) (λ l. put_all (Ascends y) x ys l (all_above y ys
    h))

-- ---- those that pass a test, in ascending order

-- the texts of a list that pass a test, each once, in ascending order
abbrev pub ascending_of : (List ℕ → Bool) → List (List ℕ) → List (List ℕ)
ascending_of p [] = []
ascending_of p (x ∷ xs) = if p x then put_in x (ascending_of p xs) else ascending_of p xs

-- that list ascends
pub ascending_is : (p : List ℕ → Bool) (xs : List (List ℕ)) → AllPairs Ascends (ascending_of p xs)
ascending_is p [] = λ i j d lt low. absurd (omega arith)
ascending_is p (x ∷ xs) = elim (cases_Bool (p x)) [
  | inl e ↦ rw e (put_ascending x (ascending_of p xs) (ascending_is p xs))
  | inr e ↦ rw e (ascending_is p xs)
]

-- the text passes the test
abbrev pub IsPassed : (List ℕ → Bool) → List ℕ → Type 0
IsPassed p x = IsTrue (p x)

-- each is one of the list, and passes
pub ascending_from : (P : List ℕ → Type 0) (p : List ℕ → Bool) (xs : List (List ℕ)) (z : List ℕ)
    → ((x : List ℕ) → IsPassed p x → P x) → Contains (ascending_of p xs) z → Contains xs z × P z
ascending_from P p [] z f c = absurd (let low = c.1 in omega arith)
ascending_from P p (x ∷ xs) z f c = elim (cases_Bool (p x)) [
  | inl e ↦ elim (put_from x z (ascending_of p xs) (rw e at c)) [
    | inl same ↦ (subst (Contains (x ∷ xs)) same (contains_first x xs), subst P same (f x e))
    | inr later ↦
        (let rest = ascending_from P p xs z f later in (contains_later x z xs rest.0, rest.1))
  ]
  | inr e ↦
      (let rest = ascending_from P p xs z f (rw e at c) in (contains_later x z xs rest.0, rest.1))
]

-- each of the list that passes is one
pub ascending_has : (p : List ℕ → Bool) (xs : List (List ℕ)) (z : List ℕ) → IsPassed p z
    → Contains xs z → Contains (ascending_of p xs) z
ascending_has p [] z t c = absurd (let low = c.1 in omega arith)
ascending_has p (x ∷ xs) z t c = elim (contains_cases x z xs c) [
  | inl same ↦
      (let e : IsTrue (p x) = subst (IsPassed p) (sym same) t in
      rw e (subst (Contains (put_in x (ascending_of p xs))) same (put_own x (ascending_of p xs))))
  | inr later ↦ elim (cases_Bool (p x)) [
    | inl e ↦ rw e (put_kept x z (ascending_of p xs) (ascending_has p xs z t later))
    | inr e ↦ rw e (ascending_has p xs z t later)
  ]
]

-- ---- one list of these members ascends

first_same : (x y : List ℕ) (xs ys : List (List ℕ)) → AllPairs Ascends (x ∷ xs)
    → AllPairs Ascends (y ∷ ys) → Contains (y ∷ ys) x → Contains (x ∷ xs) y → x ≡ y
first_same x y xs ys h g c d = elim (contains_cases y x ys c) [
  | inl e ↦ sym e
  | inr a ↦ elim (contains_cases x y xs d) [
    | inl e ↦ e
    | inr b ↦
        absurd
        (not_both x y (All-contains (Ascends x) xs y (all_above x xs h) b)
        (All-contains (Ascends y) ys x (all_above y ys g) a))
  ]
]

-- a later one of the first list is a later one of the second
later_of : (x y z : List ℕ) (xs ys : List (List ℕ)) → x ≡ y → AllPairs Ascends (x ∷ xs)
    → Contains xs z → Contains (y ∷ ys) z → Contains ys z
later_of x y z xs ys e h c d = elim (contains_cases y z ys d) [
  | inl same ↦
      absurd
      (not_itself z
      (subst (λ (w : List ℕ). Ascends w z) (e ∙ same)
      (All-contains (Ascends x) xs z (all_above x xs h) c)))
  | inr later ↦ later
]

-- two ascending lists with the same members are one
pub one_ascending : (xs ys : List (List ℕ)) → AllPairs Ascends xs → AllPairs Ascends ys
    → ((z : List ℕ) → Contains xs z → Contains ys z)
    → ((z : List ℕ) → Contains ys z → Contains xs z) → xs ≡ ys
one_ascending [] [] h g f b = refl
one_ascending [] (y ∷ ys) h g f b =
    absurd (let c = b y (contains_first y ys) in let low = c.1 in omega arith)
one_ascending (x ∷ xs) [] h g f b =
    absurd (let c = f x (contains_first x xs) in let low = c.1 in omega arith)
one_ascending (x ∷ xs) (y ∷ ys) h g f b =
    let e = first_same x y xs ys h g (f x (contains_first x xs)) (b y (contains_first y ys)) in
    let rest =
    one_ascending xs ys (ascending_tail x xs h) (ascending_tail y ys g)
    (λ z c. later_of x y z xs ys e h c (f z (contains_later x z xs c)))
    (λ z c. later_of y x z ys xs (sym e) g c (b z (contains_later y z ys c))) in
    ap (λ (w : List ℕ). w ∷ xs) e ∙ ap (λ (ws : List (List ℕ)). y ∷ ws) rest
