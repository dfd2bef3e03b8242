use Rattle.std.proofs.Common.{◌≡◌, ◌∙◌, ◌&&◌, true, ap, sym}
use Rattle.std.specs.Ordering.{is_eq}
use Rattle.cell_core.specs.Entry.{key_cmp}
use Rattle.cell_core.proofs.entry.EntryPartialEq.eq.Goals as goal

-- where the keys are equal the values decide
pub returns-then-is_eq : goal.returns-then-is_eq
returns-then-is_eq g c =
    let keys : true ≡ is_eq (key_cmp c.args.self.now.0 (c.other.inside.id, c.other.inside.lang)) =
    sym c.if-is_eq.true ∙ c.is_eq.ensures ∙ ap is_eq c.compare.ensures in
    c.eq.ensures
    ∙ ap (λ b. b && g.V.PartialEq.eq c.self.inside.value c.other.inside.value) keys
    ∙ (λ i. is_eq (key_cmp c.args.self.now.0 (c.other.view_is i).0)
    && g.V.PartialEq.eq (c.self.view_is i).1 (c.other.view_is i).1)
