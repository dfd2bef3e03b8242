use Rattle.site_docs.proofs.WrittenRowsLemmas.{read_closes}
use Rattle.site_docs.proofs.plain.written_rows.WrittenRows.close.Goals as goal

-- the bracket and the members after it
pub returns : goal.returns
returns c =
    read_closes c.args.self.now c.last_name.result c.in_ok-rest.rest.now c.in_ok-rest.ensures
    c.last_name.ensures.text c.last_name.ensures.name
