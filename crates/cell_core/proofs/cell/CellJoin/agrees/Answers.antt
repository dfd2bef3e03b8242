use Rattle.std.proofs.Common.{◌≡◌, sym, ◌∙◌}
use Rattle.lang_core.proofs.Basics.{not_false as holds_from_not}
use Rattle.cell_core.specs.StampEq.{stamp_eq}
use Rattle.cell_core.proofs.CellLemmas.{stamp_decides, label_decides}
use Rattle.cell_core.proofs.cell.CellJoin.agrees.Goals as goal

pub returns-else-ne : goal.returns-else-ne
returns-else-ne c =
    let a = c.args.self.now in
    let b = c.args.other.now in
    let same : a.stamp ≡ b.stamp =
    sym ((stamp_decides b.stamp a.stamp).0
    (holds_from_not (stamp_eq b.stamp a.stamp) (sym c.ne.ensures ∙ c.if-ne.false))) in (
      λ equal _. (label_decides a.label b.label).0 (sym c.eq.ensures ∙ equal),
      λ agree. c.eq.ensures ∙ (label_decides a.label b.label).1 (agree same),
    )
