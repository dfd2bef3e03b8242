use Rattle.std.proofs.Common.{ℕ, subst}
use Rattle.row_docs.specs.Entries.{row_of}
use Rattle.row_docs.specs.WritingTexts.{Adds, value_tokens}
use Rattle.script_docs.specs.Steps.{edit_step}
use Rattle.script_docs.specs.StepsWritten.{edit_value}
use Rattle.script_docs.proofs.StepsWrittenLemmas.{edit_row_of}
use Rattle.script_docs.proofs.step_writing.write_edit.Goals as goal

pub returns-clause-ok : goal.returns-clause-ok
returns-clause-ok c =
    let e = c.args.edit.now in
    let number = c.in-Ok.ensures.ok in
    let wrote = c.in_ok-edit_row.ensures in (
      edit_step c.args.site (row_of e, e.1.label),
      edit_row_of c.args.site e number.0 wrote.kept,
      subst (λ (n : ℕ). Adds c.args.out.now c.edit_row.new.out
          (value_tokens (edit_value n (row_of e) e.1.label))) number.1 wrote.tokens,
    )
