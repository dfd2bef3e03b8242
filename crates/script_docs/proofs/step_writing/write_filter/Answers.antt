use Rattle.std.proofs.Common.{◌≡◌, ◌∙◌, ℕ, List, subst, sym}
use Rattle.row_docs.specs.WritingTexts.{Adds, value_tokens}
use Rattle.script_docs.specs.FieldWriting.{field_text}
use Rattle.script_docs.specs.StepFields.{Lists}
use Rattle.script_docs.specs.Steps.{filter_step}
use Rattle.script_docs.specs.StepsWritten.{filter_value}
use Rattle.script_docs.proofs.StepsWrittenLemmas.{filter_row_of}
use Rattle.script_docs.proofs.step_writing.write_filter.Goals as goal

-- the field that is written is the list's
pub returns-clause-ok : goal.returns-clause-ok
returns-clause-ok c =
    let field = c.as_str.result.now in
    let number = c.in_ok-number.ensures.ok in
    let found = rw c.in-Some.is at c.in_ok-field.ensures in
    let lists : Lists c.args.scheme field c.args.list.now =
    subst (λ (t : List ℕ). Lists c.args.scheme t c.args.list.now) (sym c.as_str.ensures.value)
    found.1 in
    let joined : field ≡ field_text c.args.list.now = c.as_str.ensures.value ∙ found.0 in
    let wrote = c.in_ok-filter_row.ensures in (
      filter_step c.args.site c.args.id.now c.args.scheme field,
      filter_row_of c.args.site c.args.id.now c.args.scheme c.args.list.now field number.0 wrote.id
          joined lists,
      subst (λ (n : ℕ). Adds c.args.out.now c.filter_row.new.out
          (value_tokens (filter_value n c.args.id.now c.args.scheme field))) number.1 wrote.tokens,
    )
