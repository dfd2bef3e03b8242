use Rattle.std.proofs.Common.{◌∙◌, ◌++◌, [], ap, subst, sym}
use Rattle.std.specs.Prelude.{IsUtf8}
use Rattle.json.specs.Print.{print}
use Rattle.serde_json.proofs.Texts.{print-outline}
use Rattle.site_docs.proofs.OpenRowsLemmas.{one_row}
use Rattle.site_docs.proofs.open_rows.OpenRows.end_row.Goals as goal

-- the row, whose tokens were written
pub returns : goal.returns
returns c = λ opening rows d holds none tokens.
    let row = c.as_slice.ensures.value ∙ c.into_inner-row.ensures.items
    ∙ ap (λ b. b ++ print c.args.row.tokens) none in
    let added = c.in_ok-add.ensures opening rows d [] holds
    (subst IsUtf8 (sym row) c.into_inner-row.ensures.utf8)
    (row ∙ ap print tokens ∙ print-outline d ∙ one_row d) in record {
      text = added.text;
      begun = added.begun;
      utf8 = added.utf8;
      has_rows = added.has_rows;
    }
