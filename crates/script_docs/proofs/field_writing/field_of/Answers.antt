use Rattle.std.proofs.Common.{◌≡◌, ◌∙◌, ℕ, List, ap, subst, sym}
use Rattle.script_docs.specs.FieldWriting.{field_text}
use Rattle.script_docs.specs.StepFields.{Lists}
use Rattle.script_docs.proofs.FieldWritingLemmas.{listed_again}
use Rattle.script_docs.proofs.field_writing.field_of.Goals as goal

-- where some field reads as the list, this one does
pub returns-else-same : goal.returns-else-same
returns-else-same c = λ listed.
    let text : c.as_str.result.now ≡ field_text c.args.list.now =
    c.as_str.ensures.value ∙ (c.in_ok-field.ensures ∙ ap field_text c.items.ensures.items) in
    let other = rw c.if-same.false at c.in_ok-same.ensures in
    other (subst (λ (t : List ℕ). Lists c.args.scheme t c.args.list.now) (sym text)
    (listed_again c.args.scheme c.args.list.now listed))
