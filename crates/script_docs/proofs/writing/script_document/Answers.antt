use Rattle.std.proofs.Common.{◌≡◌, ◌∙◌, ℕ, List, ap, map, subst, sym}
use Rattle.std.specs.Prelude.{IsUtf8}
use Rattle.row_docs.specs.WritingTexts.{text}
use Rattle.script_docs.specs.Reading.{ReadsAsScript}
use Rattle.script_docs.specs.Writing.{script_value}
use Rattle.script_docs.specs.StepsWritten.{step_row, step_value}
use Rattle.serde_json.specs.Data.{Data}
use Rattle.script_docs.proofs.WritingLemmas.{script_again}
use Rattle.script_docs.proofs.StepsWrittenLemmas.{rows_written}
use Rattle.script_docs.proofs.writing.script_document.Goals as goal

-- the rows are those of the steps, and the text reads as the script
pub returns-clause-ok : goal.returns-clause-ok
returns-clause-ok c =
    let script = c.args.script.now in
    let held = c.in_ok-draft.ensures.ok in
    let closed = c.in_ok-doc.ensures in
    let is : c.in_ok-doc.doc ≡ text (script_value script.sites (map step_value held.0)) =
    closed.text script.sites (map step_value held.0) held.2 in
    let rows : map step_value held.0 ≡ map step_row script.steps =
    rows_written held.0 script.steps held.1 in (
      is ∙ ap (λ (ds : List Data). text (script_value script.sites ds)) rows,
      subst (λ (d : List ℕ). ReadsAsScript d script) (sym is)
          (script_again script held.0 c.in_ok-draft.ensures.count held.1
          (subst IsUtf8 is (closed.utf8 held.2.0))),
    )
