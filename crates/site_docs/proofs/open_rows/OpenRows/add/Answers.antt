use Rattle.site_docs.proofs.OpenRowsLemmas.{rows_added}
use Rattle.site_docs.proofs.open_rows.OpenRows.add.Goals as goal

-- the comma and the rows
pub returns : goal.returns
returns c = λ opening rows d ds holds utf8 is.
    let comma = c.in_ok-add_comma.ensures in
    rows_added opening c.args.self.now _ rows d ds c.add_comma.new.self.bytes.items
    c.args.more.now holds utf8 is comma.bytes c.in_ok-extend_from_slice.ensures.items comma.rows
