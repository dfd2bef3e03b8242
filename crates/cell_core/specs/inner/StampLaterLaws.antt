-- The later of two keeps the laws of the join, where equal marks of values that agree are on equal
-- values.
use Rattle.std.specs.Prelude.{◌≡◌, Bool, true, false, cond, refl}
use Rattle.std.proofs.Common.{sym, ap, ◌∙◌, subst, inl, inr, true≢false}
use Rattle.std.specs.declared.cmp.Ordering.{Ordering}
use Rattle.std.specs.declared.cmp.Ordering.TheVariants.{Less, Equal, Greater}
use Rattle.std.specs.Ordering.{is_lt, is_gt, ordering_reverse}
use Rattle.std.specs.Cmp.{IsTotalOrder, upto}
use Rattle.lang_core.proofs.Basics.{less_of, level_of}
use Rattle.cell_core.specs.Join.{JoinLaws, IsBelow}
use Rattle.cell_core.specs.inner.JoinBasis.{join_laws}
use Rattle.cell_core.specs.StampLater.{later_by, IsEitherOf}

turned_lt : (r : Ordering) → is_lt r ≡ true → is_lt (ordering_reverse r) ≡ false
turned_lt Less e = refl
turned_lt Equal e = refl
turned_lt Greater e = absurd (true≢false (sym e))

turned_gt : (r : Ordering) → is_gt r ≡ is_lt (ordering_reverse r)
turned_gt Less = refl
turned_gt Equal = refl
turned_gt Greater = refl

module _ {X S : Type 0} (mark : X → S) (cmp : S → S → Ordering) (total : IsTotalOrder cmp)
    (exact : (s t : S) → cmp s t ≡ Equal → s ≡ t)
    (agree : X → X → Type 0) (means : (a b : X) → agree a b → mark a ≡ mark b → a ≡ b)
    (from : (a b : X) → (mark a ≡ mark b → a ≡ b) → agree a b) where
  -- the mark of the first is below that of the second
  abbrev lt : X → X → Bool
  lt a b = is_lt (cmp (mark a) (mark b))

  -- the one with the later mark, the first where neither is later
  abbrev joined : X → X → X
  joined = later_by mark cmp

  back : (a b : X) → cmp (mark b) (mark a) ≡ ordering_reverse (cmp (mark a) (mark b))
  back a b = total.antisymm (mark b) (mark a)

  lt_back : (a b : X) → lt a b ≡ true → lt b a ≡ false
  lt_back a b h = ap is_lt (back a b) ∙ turned_lt (cmp (mark a) (mark b)) h

  lt_trans : (a b c : X) → lt a b ≡ true → lt b c ≡ true → lt a c ≡ true
  lt_trans a b c g h = ap is_lt (total.trans (mark a) (mark b) (mark c) (less_of _ g) (less_of _ h))

  gt_back : (a b : X) → is_gt (cmp (mark a) (mark b)) ≡ lt b a
  gt_back a b = turned_gt (cmp (mark a) (mark b)) ∙ ap is_lt (sym (back a b))

  not_lt_trans : (a b c : X) → lt a b ≡ false → lt b c ≡ false → lt a c ≡ false
  not_lt_trans a b c g h =
      sym (gt_back c a) ∙ upto total (mark c) (mark b) (mark a) (gt_back c b ∙ h) (gt_back b a ∙ g)

  same_of : (a b : X) → agree a b → lt a b ≡ false → lt b a ≡ false → a ≡ b
  same_of a b h p q =
      means a b h
      (exact (mark a) (mark b) (level_of (cmp (mark a) (mark b)) p (ap is_lt (sym (back a b)) ∙ q)))

  alike : (a : X) → agree a a
  alike a = from a a (λ _. refl)

  symm : (a b : X) → agree a b → agree b a
  symm a b h = from b a (λ e. sym (means a b h (sym e)))

  join_idem : (a : X) → joined a a ≡ a
  join_idem a = elim (lt a a) as (λ t. cond t a a ≡ a) [ true ↦ refl | false ↦ refl ]

  join_comm : (a b : X) → agree a b → joined a b ≡ joined b a
  join_comm a b h =
      elim (lt a b) as (λ t. lt a b ≡ t → cond t b a ≡ joined b a) [
        | true ↦ λ p. ap (λ t. cond t a b) (sym (lt_back a b p))
        | false ↦
            λ p. elim (lt b a) as
            (λ u. lt b a ≡ u → a ≡ cond u a b) [ true ↦ λ q. refl | false ↦ λ q. same_of a b h p q ]
            refl
      ] refl

  join_assoc : (a b c : X) → joined (joined a b) c ≡ joined a (joined b c)
  join_assoc a b c =
      elim (lt a b) as (λ t. lt a b ≡ t → joined (cond t b a) c ≡ joined a (joined b c)) [
        | true ↦ λ p. elim (lt b c) as (λ u. lt b c ≡ u → cond u c b ≡ joined a (cond u c b)) [
          | true ↦ λ q. ap (λ t. cond t c a) (sym (lt_trans a b c p q))
          | false ↦ λ q. ap (λ t. cond t b a) (sym p)
        ] refl
        | false ↦ λ p. elim (lt b c) as (λ u. lt b c ≡ u → joined a c ≡ joined a (cond u c b)) [
          | true ↦ λ q. refl
          | false ↦
              λ q. ap (λ t. cond t c a) (not_lt_trans a b c p q) ∙ ap (λ t. cond t b a) (sym p)
        ] refl
      ] refl

  join_agrees : (a b c : X) → agree a b → agree a c → agree a (joined b c)
  join_agrees a b c h k = elim (lt b c) as (λ t. agree a (cond t c b)) [ true ↦ k | false ↦ h ]

  join_above : (a b : X) → joined a (joined a b) ≡ joined a b
  join_above a b = sym (join_assoc a a b) ∙ ap (λ x. joined x b) (join_idem a)

  join_again : (a b : X) → joined (joined a b) b ≡ joined a b
  join_again a b = join_assoc a b b ∙ ap (joined a) (join_idem b)

  -- the later of two keeps the laws of the join
  pub later_laws : JoinLaws agree joined (IsEitherOf joined)
  later_laws = join_laws (record {
    agree_refl = alike;
    agree_symm = symm;
    agree_joined = λ a b c h k _. join_agrees a b c h k;
    idem = join_idem;
    comm = join_comm;
    assoc = λ a b c _ _ _. join_assoc a b c;
    between_first = λ a b h. inl refl;
    between_last = λ a b h. inr refl;
    between_above = λ a x b h k. elim k as (λ _. IsBelow agree joined a x) [
      | inl e ↦ subst (λ y. IsBelow agree joined a y) (sym e) (alike a, join_idem a)
      | inr e ↦
          subst (λ y. IsBelow agree joined a y) (sym e)
          (join_agrees a a b (alike a) h, join_above a b)
    ];
    between_agrees = λ a x b h k. elim k as (λ _. agree x b) [
      | inl e ↦ subst (λ y. agree y b) (sym e) h
      | inr e ↦
          subst (λ y. agree y b) (sym e)
          (symm b (joined a b) (join_agrees b a b (symm a b h) (alike b)))
    ];
    between_joins = λ a x b h k. elim k as (λ _. joined x b ≡ joined a b) [
      | inl e ↦ ap (λ y. joined y b) e
      | inr e ↦ ap (λ y. joined y b) e ∙ join_again a b
    ];
  })
