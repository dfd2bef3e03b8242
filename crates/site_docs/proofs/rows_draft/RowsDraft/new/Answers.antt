use Rattle.std.proofs.Common.{[], subst}
use Rattle.std.proofs.lemmas.List.Elements.{All-nil}
use Rattle.row_docs.specs.EntriesValid.{IsKeptCell}
use Rattle.site_docs.specs.OpenRows.{HoldsOpen}
use Rattle.site_docs.proofs.rows_draft.RowsDraft.new.Goals as goal

-- no row follows what the document of a site begins with
pub returns : goal.returns
returns c = record {
  rows = subst (λ opening. HoldsOpen opening c.in_ok-rows.rows []) c.in_ok-opening.ensures.tokens
      c.in_ok-rows.ensures;
  each = All-nil IsKeptCell;
}
