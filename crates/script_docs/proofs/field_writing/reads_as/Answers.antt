use Rattle.std.proofs.Common.{◌≡◌, ◌∙◌, Bool, ap₂, subst, sym}
use Rattle.std.proofs.lemmas.Result.{IfOk-weaker}
use Rattle.std.specs.Prelude.{MatchBool}
use Rattle.std.specs.Cmp.Lexicographic.{pointwise}
use Rattle.list_core.specs.Field.{RefusesField}
use Rattle.list_core.specs.Item.{item_eq}
use Rattle.list_core.specs.declared.field.Malformed.TheVariants.{Refused}
use Rattle.script_docs.specs.StepFields.{Lists}
use Rattle.script_docs.proofs.FieldWritingLemmas.{lists_where_same, refused_lists_none}
use Rattle.script_docs.proofs.field_writing.reads_as.Goals as goal

-- a field is of one list
pub returns-in-Ok : goal.returns-in-Ok
returns-in-Ok c =
    let lists : Lists c.args.scheme c.args.field.now c.in-Ok.read =
    rw c.as_bytes.ensures.value at c.in-Ok.ensures in
    let is : c.eq.result ≡ pointwise item_eq c.in-Ok.read c.args.list.now =
    c.eq.ensures ∙ ap₂ (pointwise item_eq) c.items.ensures.items c.items-in-Ok.ensures.items in
    lists_where_same c.args.scheme c.args.field.now c.in-Ok.read c.args.list.now lists c.eq.result
    is

-- a field that is refused is of none
pub returns-in-Err : goal.returns-in-Err
returns-in-Err c =
    let scheme = c.args.scheme in
    let text = c.args.field.now in
    let items = c.args.list.now in
    let refuses : RefusesField scheme Refused text c.in-Err.fault =
    rw c.as_bytes.ensures.value at c.in-Err.ensures in
    IfOk-weaker c.no_list.result _ _
    (λ same e. subst
    (λ (b : Bool). MatchBool b (Lists scheme text items) (¬ Lists scheme text items)) (sym e.0)
    (refused_lists_none scheme text items c.in-Err.fault e.1 refuses))
    c.no_list.ensures
