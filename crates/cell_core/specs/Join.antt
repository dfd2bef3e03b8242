-- What agrees and joins: states with a least value above two that agree (INRIA RR-7506, 2.2 and
-- 2.3), and the values on the way there (project rule).
use Rattle.std.specs.Prelude.{◌≡◌, ◌<◌, List, [], Option, All, length}
use Rattle.std.specs.Option.{MatchOption}

-- b is above a
abbrev pub IsBelow : {J : Type 0} → (J → J → Type 0) → (J → J → J) → J → J → Type 0
IsBelow agree joined a b = agree a b × (joined a b ≡ b)

-- the laws of the join, for values that agree pairwise; `between a x b` says that x is on the way
-- from a to its join with b
pub record JoinLaws {J : Type 0} (agree : J → J → Type 0) (joined : J → J → J)
    (between : J → J → J → Type 0) : Type 0 where
  -- 1. A value and its join with another are both between the two.
  pub between_first : (a b : J) → agree a b → between a a b
  pub between_last : (a b : J) → agree a b → between a (joined a b) b
  -- 2. Agreement is reflexive and symmetric. (It is not transitive.)
  pub agree_refl : (a : J) → agree a a
  pub agree_symm : (a b : J) → agree a b → agree b a
  -- 3. The join is idempotent, commutative and associative.
  pub idem : (a : J) → joined a a ≡ a
  pub comm : (a b : J) → agree a b → joined a b ≡ joined b a
  pub assoc : (a b c : J) → agree a b → agree a c → agree b c
      → joined (joined a b) c ≡ joined a (joined b c)
  -- 4. What agrees with two values agrees with their join.
  pub agree_joined : (a b c : J) → agree a b → agree a c → agree b c → agree a (joined b c)
  -- 5. The join is above both, and below whatever is above both.
  pub above_first : (a b : J) → agree a b → IsBelow agree joined a (joined a b)
  pub above_second : (a b : J) → agree a b → IsBelow agree joined b (joined a b)
  pub least : (a b u : J) → agree a b → IsBelow agree joined a u → IsBelow agree joined b u
      → IsBelow agree joined (joined a b) u
  -- 6. What is between two values is above the first, agrees with the second, and joins with it to
  -- their join.
  pub between_above : (a x b : J) → agree a b → between a x b → IsBelow agree joined a x
  pub between_agrees : (a x b : J) → agree a b → between a x b → agree x b
  pub between_joins : (a x b : J) → agree a b → between a x b → joined x b ≡ joined a b

-- j is the join of the items: above each, and below all that is above each
pub record IsJoinOf {J : Type 0} (agree : J → J → Type 0) (joined : J → J → J) (items : List J)
    (j : J) : Type 0 where
  pub some : 0 < length items
  pub agrees : (y : J) → All (λ m. agree m y) items → agree j y
  pub above : All (λ m. IsBelow agree joined m j) items
  pub least : (u : J) → All (λ m. IsBelow agree joined m u) items → IsBelow agree joined j u

-- no join of no items, and the join of some
abbrev pub IsJoinOfAll : {J : Type 0} → (J → J → Type 0) → (J → J → J) → List J → Option J → Type 0
IsJoinOfAll agree joined items join = MatchOption join (items ≡ []) (IsJoinOf agree joined items)
