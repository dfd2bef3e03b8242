use Rattle.std.proofs.Common.{◌∙◌, Option, subst, sym}
use Rattle.front_core.specs.Spare.{IsSpareOf}
use Rattle.front_core.specs.declared.spare.Spare.{Spare}
use Rattle.front_core.proofs.SpareLemmas.{joined_with_more, on_ok_at}
use Rattle.front_core.proofs.spare.missing_more.Goals as goal

pub returns : goal.returns
returns c =
    let was = c.in_ok-share.field-0 in
    let joins =
    on_ok_at c.merge.result c.in_ok-ok.field-0 (sym c.ok.ensures.value ∙ c.in_ok-ok.was)
    c.merge.ensures.ok in
    λ old new of brought. rw joins
    (joined_with_more was.share.value old new was.missed c.args.came.now c.len.ensures.sorted
    (subst (λ (s : Option Spare). IsSpareOf old s) c.in_ok-share.was of) brought)
