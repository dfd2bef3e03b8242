use Rattle.std.proofs.Common.{◌≡◌, length, sym, ◌∙◌, ap, subst}
use Rattle.catalogue.specs.CatalogueFlat.{flat}
use Rattle.catalogue.specs.Entries.{Agree, joined, Between}
use Rattle.catalogue.specs.CatalogueNested.{IsCatalogue}
use Rattle.catalogue.proofs.CatalogueNestedLemmas.{nested_agree, joined_catalogue, flat-joined}
use Rattle.catalogue.proofs.CatalogueNestedLemmas.{between_catalogue, flat-between}
use Rattle.catalogue.proofs.catalogue.Catalogue.join.Goals as goal
use Rattle.catalogue.proofs.catalogue.Catalogue.join.Goals.{in-Some, in-None}

pub join-requires : goal.join-requires
join-requires c =
    nested_agree c.self.inside.map c.map.result.now c.self.invariant.nested c.map.ensures.nested
    (subst (λ a. Agree a (flat c.map.result.now)) (sym c.self.view_is)
    (subst (Agree c.args.self.now) (sym c.map.ensures.flat) c.requires))

-- The map of maps is joined, so it is a catalogue, whose flat list is the join of both; its length
-- was found before the join, or the cells are counted anew.
pub invariant_of-self : goal.invariant_of-self
invariant_of-self c =
    let all : flat c.join.new.self ≡ joined c.args.self.now c.args.other.now =
    ap flat c.in-Ok.ensures.ok
    ∙ flat-joined c.self.inside.map c.map.result.now c.self.invariant.nested
    c.map.ensures.nested ∙ (λ i. joined (c.self.view_is i) (c.map.ensures.flat i)) in
    record {
      nested =
          subst IsCatalogue (sym c.in-Ok.ensures.ok)
          (joined_catalogue c.self.inside.map c.map.result.now c.self.invariant.nested
          c.map.ensures.nested);
      counted = elim c.match-len.branch as (λ _. c.match-len.self ≡ length (flat c.join.new.self)) [
        | in-Some w ↦ w.self-is ∙ w.in-Some.ensures ∙ sym (ap length all)
        | in-None w ↦ w.self-is ∙ w.count-self-inside.ensures
      ];
    }

pub returns-after-len-clause-ok : goal.returns-after-len-clause-ok
returns-after-len-clause-ok c =
    ap flat c.in-Ok.ensures.ok
    ∙ flat-joined c.self.inside.map c.map.result.now c.self.invariant.nested
    c.map.ensures.nested ∙ (λ i. joined (c.self.view_is i) (c.map.ensures.flat i))

pub invariant_of-self-in-Err : goal.invariant_of-self-in-Err
invariant_of-self-in-Err c = record {
  nested =
      between_catalogue c.self.inside.map c.join.new.self c.map.result.now c.self.invariant.nested
      c.map.ensures.nested c.in-Err.ensures.err;
  counted = c.count-self-inside-in-Err.ensures;
}

pub returns-in-Err-clause-err : goal.returns-in-Err-clause-err
returns-in-Err-clause-err c =
    let a = c.self.inside.map in
    let b = c.map.result.now in
    let agree = nested_agree a b c.self.invariant.nested c.map.ensures.nested
    (subst (λ x. Agree x (flat c.map.result.now)) (sym c.self.view_is)
    (subst (Agree c.args.self.now) (sym c.map.ensures.flat) c.requires)) in
    subst (λ x. Between x (flat c.join.new.self) c.args.other.now) c.self.view_is
    (subst (Between (flat a) (flat c.join.new.self)) c.map.ensures.flat
    (flat-between a c.join.new.self b c.self.invariant.nested c.map.ensures.nested agree
    c.in-Err.ensures.err))
