use Rattle.std.proofs.Common.{◌≡◌, ◌∙◌, ap, if◌then◌else◌, sym}
use Rattle.lang_core.proofs.Basics.{not_false, true_not}
use Rattle.row_docs.proofs.CutsReadLemmas.{cut_none, cut_some}
use Rattle.row_docs.proofs.cuts.cut_of.Goals as goal
use Rattle.row_docs.proofs.cuts.cut_of.Goals.{else-kept, then-kept}

pub returns-then-not-kept : goal.returns-then-not-kept
returns-then-not-kept c = λ levels ds keeps.
    cut_none c.args.kept levels ds c.nothing.result (true_not c.args.kept.fits c.if-not-kept.true)
    keeps c.nothing.ensures

pub returns : goal.returns
returns c = λ levels ds keeps.
    let kept = c.args.kept in
    let told : c.if-kept.texts ≡ (if kept.are_texts then kept.count else kept.texts) =
    elim c.if-kept.branch [
      | then-kept w ↦ w.texts-is
          ∙ sym (ap (λ b. if b then kept.count else kept.texts) w.if-kept.true)
      | else-kept w ↦ w.texts-is
          ∙ sym (ap (λ b. if b then kept.count else kept.texts) w.if-kept.false)
    ] in
    cut_some kept levels ds c.if-kept.texts (not_false kept.fits c.if-not-kept.false) keeps told
