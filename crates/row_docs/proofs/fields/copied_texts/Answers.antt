use Rattle.std.proofs.Common.{append-nil}
use Rattle.row_docs.proofs.FieldsLemmas.{among-more, pushed_text}
use Rattle.row_docs.proofs.fields.copied_texts.Goals as goal
use Rattle.row_docs.proofs.fields.copied_texts.Goals.{in-Some+in_ok-from_str+in_ok-push}
use Rattle.row_docs.proofs.fields.copied_texts.Goals.{in_default}

pub loop-value-preserved : goal.loop-value-preserved
loop-value-preserved c =
    let more = among-more c.args.values.now c.loop-value.value-index c.value-item.result
    c.loop-value-test.true c.value-item.is in
    elim c.match-text_of.branch [
      | in-Some+in_ok-from_str+in_ok-push w ↦ rw (w.texts-is, more, ← w.in-Some.ensures)
          (pushed_text _ _ _ _ _ w.in_ok-push.ensures.items w.in_ok-from_str.ensures.ok
          c.loop-value.invariant)
      | in_default w ↦ rw (w.texts-is, more, ← w.in_default.ensures, append-nil)
          c.loop-value.invariant
    ]
