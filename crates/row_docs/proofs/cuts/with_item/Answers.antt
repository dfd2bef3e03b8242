use Rattle.std.proofs.Common.{◌≡◌, ◌∙◌, ◌++◌, ◌∷◌, [], ◌&&◌, ap, arith, subst, suc, sym}
use Rattle.row_docs.specs.inner.CutsSeen.{KeepsBy}
use Rattle.row_docs.proofs.CutsLemmas.{as_str-cut}
use Rattle.row_docs.proofs.CutsReadLemmas.{KeepsItems-misfit, KeepsItems-push, is_some-seen}
use Rattle.row_docs.proofs.cuts.with_item.Goals as goal
use Rattle.row_docs.proofs.cuts.with_item.Goals.{else-kept, then-kept}

-- There is no room for one item more.
pub returns-then-not-has_room : goal.returns-then-not-has_room
returns-then-not-has_room c = (
  omega (arith, c.without_room.ensures.count),
  λ levels front d keeps cut.
      subst (λ b. KeepsBy b (suc levels) (front ++ d ∷ []) c.without_room.result)
      (sym c.without_room.ensures.fits)
      (KeepsItems-misfit levels front d c.args.kept c.args.item c.is_some-is_text.result keeps cut
      (c.is_some-is_text.ensures ∙ is_some-seen _ _ c.text_of.ensures) (as_str-cut levels d)
      (sym c.if-not-has_room.ensures)),
)

-- There is room: one item more is counted, and all are texts if all were and this one is.
pub returns-after-kept : goal.returns-after-kept
returns-after-kept c =
    let is_text = c.is_some-is_text.result in
    let both : c.if-kept.result ≡ (c.args.kept.are_texts && is_text) =
    elim c.if-kept.branch [
      | then-kept w ↦ w.result-is ∙ sym (ap (λ b. b && is_text) w.if-kept.true)
      | else-kept w ↦ w.result-is
          ∙ (w.if-kept.false ∙ sym (ap (λ b. b && is_text) w.if-kept.false))
    ] in (
      omega arith,
      λ levels front d keeps cut.
          KeepsItems-push levels front d c.args.kept c.args.item c.in-Ok.first is_text
          c.if-kept.result keeps cut
          (c.is_some-is_text.ensures ∙ is_some-seen _ _ c.text_of.ensures) (as_str-cut levels d)
          (sym c.if-not-has_room.ensures) c.in-Ok.ensures both,
    )
