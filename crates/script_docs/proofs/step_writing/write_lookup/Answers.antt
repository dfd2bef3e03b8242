use Rattle.std.proofs.Common.{◌≡◌, ◌∙◌, ℕ, List, subst, sym}
use Rattle.list_core.specs.declared.scheme.Scheme.TheVariants.{Basic}
use Rattle.row_docs.specs.WritingTexts.{Adds, value_tokens}
use Rattle.script_docs.specs.FieldWriting.{field_text}
use Rattle.script_docs.specs.StepFields.{Lists}
use Rattle.script_docs.specs.Steps.{lookup_step}
use Rattle.script_docs.specs.StepsWritten.{lookup_value}
use Rattle.script_docs.proofs.StepsWrittenLemmas.{lookup_row_of}
use Rattle.script_docs.proofs.step_writing.write_lookup.Goals as goal

-- the field that is written is the list's
pub returns-clause-ok : goal.returns-clause-ok
returns-clause-ok c =
    let field = c.as_str.result.now in
    let number = c.in_ok-number.ensures.ok in
    let found = rw c.in-Some.is at c.in_ok-field.ensures in
    let lists : Lists Basic field c.args.list.now =
    subst (λ (t : List ℕ). Lists Basic t c.args.list.now) (sym c.as_str.ensures.value)
    found.1 in
    let joined : field ≡ field_text c.args.list.now = c.as_str.ensures.value ∙ found.0 in
    let wrote = c.in_ok-lookup_row.ensures in (
      lookup_step c.args.site c.args.id.now field c.args.default.now,
      lookup_row_of c.args.site c.args.id.now c.args.list.now c.args.default.now field number.0
          wrote.id joined lists wrote.default,
      subst (λ (n : ℕ). Adds c.args.out.now c.lookup_row.new.out
          (value_tokens (lookup_value n c.args.id.now field c.args.default.now))) number.1
          wrote.tokens,
    )
