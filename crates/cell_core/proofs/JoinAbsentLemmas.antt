-- Values that may be absent: how they agree and join, and what lies between.
use Rattle.std.proofs.Common.{◌≡◌, Option, Some, None, sym, ap, ◌∙◌, subst, refl}
use Rattle.cell_core.specs.Join.{JoinLaws}
use Rattle.cell_core.specs.Keyed.{AgreeIfBoth, joined_if_both, BetweenIfBoth}
use Rattle.cell_core.specs.inner.KeyedLaws.{if_both_laws}
use Rattle.cell_core.specs.inner.InterleaveMissing.{or_other}
use Rattle.cell_core.proofs.Basics.{some_not_none}
use Rattle.cell_core.proofs.InterleaveLemmas.{or_none}

-- A value that may be absent is between itself and none.
pub stays_between : {J : Type 0} (between : J → J → J → Type 0) (x : Option J)
    → BetweenIfBoth between x x None
stays_between between None = tt
stays_between between (Some x) = refl

-- A value that may be absent is its own join with none.
pub joined_with_none : {J : Type 0} (joined : J → J → J) (x : Option J)
    → joined_if_both joined x None ≡ x
joined_with_none joined None = refl
joined_with_none joined (Some x) = refl

-- What is between a value that may be absent and none is that value.
pub left_as_it_was : {J : Type 0} (between : J → J → J → Type 0) (x y : Option J)
    → BetweenIfBoth between x y None → y ≡ x
left_as_it_was between None None h = refl
left_as_it_was between None (Some y) h = absurd (cc)
left_as_it_was between (Some a) None h = absurd h
left_as_it_was between (Some a) (Some y) h = ap Some h

module _ {J : Type 0} where
  -- where there is none in front and none after, the middle alone counts
  pub only_middle : (f y b : Option J) → f ≡ None → b ≡ None → or_other f (or_other y b) ≡ y
  only_middle f y b e g = ap (λ z. or_other z (or_other y b)) e ∙ ap (or_other y) g ∙ or_none y

  -- where there is none of two, the first is none
  pub first_none : (p r : Option J) → or_other p r ≡ None → p ≡ None
  first_none None r e = refl
  first_none (Some x) r e = absurd (some_not_none x e)

  -- what may be absent agrees with none
  pub agree_none : (agree : J → J → Type 0) (a : Option J) → AgreeIfBoth agree a None
  agree_none agree None = tt
  agree_none agree (Some x) = tt

  -- where two agree with a third, so does the one that counts
  pub either_agrees : (agree : J → J → Type 0) (a b o : Option J) → AgreeIfBoth agree a o
      → AgreeIfBoth agree b o → AgreeIfBoth agree (or_other a b) o
  either_agrees agree None b o g h = h
  either_agrees agree (Some x) b o g h = g

  -- where three parts agree with a value, so does the middle one: the first has none of its keys
  pub sub_agree : (agree : J → J → Type 0) (d p r o : Option J)
      → ((v : J) → d ≡ Some v → or_other p r ≡ None)
      → AgreeIfBoth agree (or_other d (or_other p r)) o → AgreeIfBoth agree p o
  sub_agree agree d None r o h k = tt
  sub_agree agree None (Some v) r o h k = k
  sub_agree agree (Some w) (Some v) r o h k = absurd (some_not_none v (h w refl))

  -- what agrees with a value agrees with an equal one
  pub same_right : (agree : J → J → Type 0) (p a c : Option J) → ((v : J) → p ≡ Some v → a ≡ c)
      → AgreeIfBoth agree p a → AgreeIfBoth agree p c
  same_right agree None a c h k = tt
  same_right agree (Some v) a c h k = subst (AgreeIfBoth agree (Some v)) (h v refl) k

  -- a middle part joined is the whole joined, where the front and the back have no such key
  pub whole_joined : (joined : J → J → J) (f c b p x : Option J) → x ≡ joined_if_both joined c p
      → ((v : J) → p ≡ Some v → (f ≡ None) × (b ≡ None))
      → or_other f (or_other x b) ≡ joined_if_both joined (or_other f (or_other c b)) p
  whole_joined joined f c b None x e h =
      ap (λ y. or_other f (or_other y b)) (e ∙ joined_with_none joined c)
      ∙ sym (joined_with_none joined (or_other f (or_other c b)))
  whole_joined joined f c b (Some v) x e h =
      let n = h v refl in
      only_middle f x b n.0 n.1 ∙ e
      ∙ ap (λ z. joined_if_both joined z (Some v)) (sym (only_middle f c b n.0 n.1))

  -- a middle part on its way to the join leaves the whole on its way too
  pub whole_between : (between : J → J → J → Type 0) (f c b p x : Option J)
      → BetweenIfBoth between c x p → ((v : J) → p ≡ Some v → (f ≡ None) × (b ≡ None))
      → BetweenIfBoth between (or_other f (or_other c b)) (or_other f (or_other x b)) p
  whole_between between f c b None x k h =
      subst (λ y. BetweenIfBoth between (or_other f (or_other c b)) (or_other f (or_other y b))
      None) (sym (left_as_it_was between c x k))
      (stays_between between (or_other f (or_other c b)))
  whole_between between f c b (Some v) x k h =
      let n = h v refl in
      subst (λ y. BetweenIfBoth between y (or_other f (or_other x b)) (Some v))
      (sym (only_middle f c b n.0 n.1))
      (subst (λ y. BetweenIfBoth between c y (Some v)) (sym (only_middle f x b n.0 n.1)) k)

  -- what is there in a join is there in one of the two
  pub joined_from : {P : Type 0} (joined : J → J → J) (c p x : Option J) (v : J)
      → x ≡ joined_if_both joined c p → x ≡ Some v → ((w : J) → c ≡ Some w → P)
      → ((w : J) → p ≡ Some w → P) → P
  joined_from joined None None x v e is f g = absurd (some_not_none v (sym is ∙ e))
  joined_from joined None (Some w) x v e is f g = g w refl
  joined_from joined (Some w) p x v e is f g = f w refl

  -- what is there on the way to a join was there in one of the two
  pub between_from : {P : Type 0} (between : J → J → J → Type 0) (c p x : Option J) (v : J)
      → BetweenIfBoth between c x p → x ≡ Some v → ((w : J) → c ≡ Some w → P)
      → ((w : J) → p ≡ Some w → P) → P
  between_from between None p None v k is f g = absurd (some_not_none v (sym is))
  between_from between None p (Some y) v k is f g = g y k
  between_from between (Some w) p x v k is f g = f w refl

  -- joined to one part and then to another, where no key is in both, is joined to both
  pub further_joined : (joined : J → J → J) (o d p : Option J) → ((v : J) → d ≡ Some v → p ≡ None)
      → joined_if_both joined (joined_if_both joined o d) p ≡ joined_if_both joined o (or_other d p)
  further_joined joined o None p h = ap (λ z. joined_if_both joined z p) (joined_with_none joined o)
  further_joined joined o (Some v) p h =
      ap (joined_if_both joined (joined_if_both joined o (Some v))) (h v refl)
      ∙ joined_with_none joined (joined_if_both joined o (Some v))

  module _ {agree : J → J → Type 0} {joined : J → J → J} {between : J → J → J → Type 0}
      (laws : JoinLaws agree joined between) where
    -- what is on the way after one part was joined is on the way from the first to all parts
    pub further_between : (o d p r x : Option J) → ((v : J) → d ≡ Some v → or_other p r ≡ None)
        → AgreeIfBoth agree o (or_other d (or_other p r))
        → BetweenIfBoth between (joined_if_both joined o d) x p
        → BetweenIfBoth between o x (or_other d (or_other p r))
    further_between o None None r x h agrees k =
        let l : JoinLaws (AgreeIfBoth agree) (joined_if_both joined) (BetweenIfBoth between) =
        if_both_laws laws in
        subst (λ y. BetweenIfBoth between o y r)
        (sym (left_as_it_was between (joined_if_both joined o None) x k
        ∙ joined_with_none joined o)) (l.between_first o r agrees)
    further_between o None (Some v) r x h agrees k =
        subst (λ y. BetweenIfBoth between y x (Some v)) (joined_with_none joined o) k
    further_between o (Some v) p r x h agrees k =
        let l : JoinLaws (AgreeIfBoth agree) (joined_if_both joined) (BetweenIfBoth between) =
        if_both_laws laws in
        let none = first_none p r (h v refl) in
        let same =
        left_as_it_was between (joined_if_both joined o (Some v)) x
        (subst (BetweenIfBoth between (joined_if_both joined o (Some v)) x) none k) in
        subst (λ y. BetweenIfBoth between o y (Some v)) (sym same)
        (l.between_last o (Some v) agrees)

    -- what is joined to one part agrees with the next, where no key is in both
    pub further_agree : (o d p r : Option J) → ((v : J) → d ≡ Some v → or_other p r ≡ None)
        → AgreeIfBoth agree o (or_other d (or_other p r))
        → AgreeIfBoth agree (joined_if_both joined o d) p
    further_agree o None None r h agrees = agree_none agree (joined_if_both joined o None)
    further_agree o None (Some v) r h agrees =
        subst (λ y. AgreeIfBoth agree y (Some v)) (sym (joined_with_none joined o)) agrees
    further_agree o (Some v) p r h agrees =
        subst (AgreeIfBoth agree (joined_if_both joined o (Some v)))
        (sym (first_none p r (h v refl))) (agree_none agree (joined_if_both joined o (Some v)))
