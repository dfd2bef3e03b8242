-- What the laws give of the join of a list.
use Rattle.std.proofs.Common.{◌≡◌, ℕ, ◌+◌, ◌<◌, List, [], ◌∷◌, ◌++◌, length, get_or, take, sym, ap}
use Rattle.std.proofs.Common.{◌∙◌, subst, arith, length-append, refl, All}
use Rattle.std.proofs.lemmas.List.Elements.{All-nil, All-cons, All-push, All-pop, All-get_or}
use Rattle.std.proofs.lemmas.List.Elements.{All-from_get_or}
use Rattle.std.proofs.lemmas.List.{get_or-take, get_or_default, length-take, take_more}
use Rattle.std.proofs.lemmas.List.Sorted.{All-permutation, IsPermutation-sym, length_permutation}
use Rattle.std.specs.List.Sorted.{IsPermutation}
use Rattle.std.specs.Prelude.{AllPairs, Some, None, Option, slice_get}
use Rattle.cell_core.specs.Join.{JoinLaws, IsBelow, IsJoinOf, IsJoinOfAll}

module _ {J : Type 0} {agree : J → J → Type 0} {joined : J → J → J} {between : J → J → J → Type 0}
    (laws : JoinLaws agree joined between) where
  -- what is above b is above what is below b, where the two agree
  pub below_trans : (a b c : J) → agree a c → IsBelow agree joined a b → IsBelow agree joined b c
      → IsBelow agree joined a c
  below_trans a b c h p q = (
    h,
    sym (ap (joined a) q.1) ∙ (sym (laws.assoc a b c p.0 h q.0) ∙ ap (λ x. joined x c) p.1)
        ∙ q.1,
  )

  -- each below the other are one
  pub below_both : (a b : J) → IsBelow agree joined a b → IsBelow agree joined b a → a ≡ b
  below_both a b p q = sym q.1 ∙ laws.comm b a q.0 ∙ p.1

  -- one value is its own join
  pub join_of_one : (x : J) → IsJoinOf agree joined (x ∷ []) x
  join_of_one x = record {
    some = omega arith;
    agrees = λ y h. (All-pop (λ m. agree m y) (x ∷ []) [] (Some x) refl h).1;
    above =
        All-cons (λ m. IsBelow agree joined m x) x [] (laws.agree_refl x, laws.idem x)
        (All-nil (λ m. IsBelow agree joined m x));
    least = λ u h. (All-pop (λ m. IsBelow agree joined m u) (x ∷ []) [] (Some x) refl h).1;
  }

  -- one item more
  pub join_of_more : (xs : List J) (j x : J) → IsJoinOf agree joined xs j → All (λ m. agree m x) xs
      → IsJoinOf agree joined (xs ++ x ∷ []) (joined j x)
  join_of_more xs j x of h =
      let here : agree j x = of.agrees x h in
      record {
        some = simp length-append (omega arith);
        agrees = λ y k.
            let parts = All-pop (λ m. agree m y) (xs ++ x ∷ []) xs (Some x) refl k in
            laws.agree_symm y (joined j x)
            (laws.agree_joined y j x (laws.agree_symm j y (of.agrees y parts.0))
            (laws.agree_symm x y parts.1) here);
        above =
            All-push (λ m. IsBelow agree joined m (joined j x)) xs x
            (above_more xs j x here of.above h) (laws.above_second j x here);
        least = λ u k.
            let parts = All-pop (λ m. IsBelow agree joined m u) (xs ++ x ∷ []) xs (Some x) refl k in
            laws.least j x u here (of.least u parts.0) parts.1;
      }
    where
      above_more : (xs : List J) (j x : J) → agree j x → All (λ m. IsBelow agree joined m j) xs
          → All (λ m. agree m x) xs → All (λ m. IsBelow agree joined m (joined j x)) xs
      above_more xs j x here p h =
          All-from_get_or (λ m. IsBelow agree joined m (joined j x)) xs j (λ i lt.
          let m = get_or xs i j in
          let mj = All-get_or (λ m. IsBelow agree joined m j) xs i j lt p in
          let mx = All-get_or (λ m. agree m x) xs i j lt h in
          below_trans m j (joined j x) (laws.agree_joined m j x mj.0 mx here) mj
          (laws.above_first j x here))

-- each of the first i items agrees with the item at i, where each two agree
pub pairs_before : {J : Type 0} (R : J → J → Type 0) (xs : List J) (i : ℕ) (x : J) → AllPairs R xs
    → i < length xs → x ≡ get_or xs i x → All (λ m. R m x) (take i xs)
pairs_before R xs i x h lt e k d less =
    let before : k < i = omega (arith, length-take i xs) in
    let pair = h k i x before lt in
    subst (λ m. R m x) (get_or_default xs k x d (omega arith) ∙ sym (get_or-take i xs k d before))
    (subst (λ y. R (get_or xs k x) y) (sym e) pair)

-- one item more of a list
pub join_of_next : {J : Type 0} {agree : J → J → Type 0} {joined : J → J → J}
    {between : J → J → J → Type 0} → JoinLaws agree joined between
    → (xs : List J) (i : ℕ) (j x : J) → IsJoinOf agree joined (take i xs) j → AllPairs agree xs
    → i < length xs → x ≡ get_or xs i x → IsJoinOf agree joined (take (i + 1) xs) (joined j x)
join_of_next {J} {agree} {joined} laws xs i j x of pairs lt e =
    let more : take (i + 1) xs ≡ take i xs ++ x ∷ [] =
    take_more xs i x lt ∙ ap (λ y. take i xs ++ y ∷ []) (sym e) in
    subst (λ ys. IsJoinOf agree joined ys (joined j x)) (sym more)
    (join_of_more laws (take i xs) j x of (pairs_before agree xs i x pairs lt e))

-- the first item alone
pub join_of_first : {J : Type 0} {agree : J → J → Type 0} {joined : J → J → J}
    {between : J → J → J → Type 0} → JoinLaws agree joined between
    → (xs : List J) (x : J) → slice_get xs 0 ≡ Some x → IsJoinOf agree joined (take 1 xs) x
join_of_first {J} {agree} {joined} laws [] x e = absurd (cc)
join_of_first {J} {agree} {joined} laws (y ∷ ys) x e =
    let same : y ≡ x = cc in
    subst (λ z. IsJoinOf agree joined (z ∷ []) x) (sym same) (join_of_one laws x)

-- lists with the same items have one join
pub one_join : {J : Type 0} {agree : J → J → Type 0} {joined : J → J → J}
    {between : J → J → J → Type 0} → JoinLaws agree joined between
    → (xs ys : List J) (j k : J) → IsPermutation xs ys → IsJoinOf agree joined xs j
    → IsJoinOf agree joined ys k → k ≡ j
one_join {J} {agree} {joined} laws xs ys j k perm of_j of_k =
    below_both laws k j
    (of_k.least j (All-permutation (λ m. IsBelow agree joined m j) xs ys perm of_j.above))
    (of_j.least k
    (All-permutation (λ m. IsBelow agree joined m k) ys xs (IsPermutation-sym xs ys perm)
    of_k.above))

-- Lists with the same items have the same join, or both have none.
pub one_join_of_all : {J : Type 0} {agree : J → J → Type 0} {joined : J → J → J}
    {between : J → J → J → Type 0} → JoinLaws agree joined between
    → (xs ys : List J) (j k : Option J) → IsPermutation xs ys → IsJoinOfAll agree joined xs j
    → IsJoinOfAll agree joined ys k → k ≡ j
one_join_of_all laws xs ys (Some j) (Some k) perm a b = ap Some (one_join laws xs ys j k perm a b)
one_join_of_all laws xs ys None None perm a b = refl
one_join_of_all laws xs ys None (Some k) perm a b =
    absurd (omega (arith, b.some, length_permutation xs ys perm, ap length a))
one_join_of_all laws xs ys (Some j) None perm a b =
    absurd (omega (arith, a.some, length_permutation xs ys perm, ap length b))

-- a list without a first item is empty
pub none_first : {J : Type 0} (xs : List J) → slice_get xs 0 ≡ None → xs ≡ []
none_first [] e = refl
none_first (x ∷ xs) e = absurd (cc)
