use Rattle.text_docs.proofs.PartLemmas.{ends_at_last}
use Rattle.text_docs.proofs.part.part_of.Goals as goal

-- no row is after all rows
pub first_after-end-requires-clause-end : goal.first_after-end-requires-clause-end
first_after-end-requires-clause-end c =
    ends_at_last c.args.text.now c.args.id.now c.args.rows.start c.args.rows.end c.requires
