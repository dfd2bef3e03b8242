-- The laws of the join from which the others follow: what an implementation proves.
use Rattle.std.specs.Prelude.{◌≡◌}
use Rattle.std.proofs.Common.{sym, ap, ◌∙◌, subst}
use Rattle.cell_core.specs.Join.{JoinLaws, IsBelow}

-- the laws but the fifth
pub record JoinBasis {J : Type 0} (agree : J → J → Type 0) (joined : J → J → J)
    (between : J → J → J → Type 0) : Type 0 where
  pub agree_refl : (a : J) → agree a a
  pub agree_symm : (a b : J) → agree a b → agree b a
  pub agree_joined : (a b c : J) → agree a b → agree a c → agree b c → agree a (joined b c)
  pub idem : (a : J) → joined a a ≡ a
  pub comm : (a b : J) → agree a b → joined a b ≡ joined b a
  pub assoc : (a b c : J) → agree a b → agree a c → agree b c
      → joined (joined a b) c ≡ joined a (joined b c)
  pub between_first : (a b : J) → agree a b → between a a b
  pub between_last : (a b : J) → agree a b → between a (joined a b) b
  pub between_above : (a x b : J) → agree a b → between a x b → IsBelow agree joined a x
  pub between_agrees : (a x b : J) → agree a b → between a x b → agree x b
  pub between_joins : (a x b : J) → agree a b → between a x b → joined x b ≡ joined a b

module _ {J : Type 0} {agree : J → J → Type 0} {joined : J → J → J} {between : J → J → J → Type 0}
    (basis : JoinBasis agree joined between) where
  above_first : (a b : J) → agree a b → IsBelow agree joined a (joined a b)
  above_first a b h = (
    basis.agree_joined a a b (basis.agree_refl a) h h,
    sym (basis.assoc a a b (basis.agree_refl a) h h) ∙ ap (λ x. joined x b) (basis.idem a),
  )

  above_second : (a b : J) → agree a b → IsBelow agree joined b (joined a b)
  above_second a b h =
      subst (λ x. IsBelow agree joined b x) (sym (basis.comm a b h))
      (above_first b a (basis.agree_symm a b h))

  least : (a b u : J) → agree a b → IsBelow agree joined a u → IsBelow agree joined b u
      → IsBelow agree joined (joined a b) u
  least a b u h p q = (
    basis.agree_symm u (joined a b)
        (basis.agree_joined u a b (basis.agree_symm a u p.0) (basis.agree_symm b u q.0) h),
    basis.assoc a b u h p.0 q.0 ∙ ap (joined a) q.1 ∙ p.1,
  )

  -- with the fifth law
  pub join_laws : JoinLaws agree joined between
  join_laws = record {
    between_first = basis.between_first;
    between_last = basis.between_last;
    agree_refl = basis.agree_refl;
    agree_symm = basis.agree_symm;
    idem = basis.idem;
    comm = basis.comm;
    assoc = basis.assoc;
    agree_joined = basis.agree_joined;
    above_first = above_first;
    above_second = above_second;
    least = least;
    between_above = basis.between_above;
    between_agrees = basis.between_agrees;
    between_joins = basis.between_joins;
  }
