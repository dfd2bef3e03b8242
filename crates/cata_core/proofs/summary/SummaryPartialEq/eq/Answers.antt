use Rattle.std.proofs.Common.{◌≡◌, true, ◌&&◌, sym, ◌∙◌, ap}
use Rattle.std.specs.Prelude.{nat_eq}
use Rattle.std.specs.Cmp.{IsPartialEquivalence, partial_equiv_from_equiv}
use Rattle.std.specs.Cmp.Lexicographic.{pointwise, nat_list_eq_equiv}
use Rattle.cata_core.specs.SummaryEq.{summary_entry_eq, summary_eq}
use Rattle.cata_core.proofs.summary.SummaryPartialEq.eq.Goals as goal

same : IsPartialEquivalence (pointwise nat_eq)
same = partial_equiv_from_equiv nat_list_eq_equiv

pub returns-then-eq : goal.returns-then-eq
returns-then-eq c =
    let owners : pointwise nat_eq c.self.inside.owner c.other.inside.owner ≡ true =
    same.symm c.self.inside.owner c.other.inside.owner ∙ sym c.eq.ensures ∙ c.if-eq.true in
    c.eq-then-eq.ensures
    ∙ ap (λ b. b && pointwise summary_entry_eq c.self.inside.entries.items
    c.other.inside.entries.items) (sym owners)
    ∙ (λ i. summary_eq (c.self.view_is i) (c.other.view_is i))
