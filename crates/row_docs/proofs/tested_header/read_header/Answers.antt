use Rattle.std.proofs.lemmas.Result.{err_from_is_err_and}
use Rattle.row_docs.proofs.TestedHeaderLemmas.{bytes_refused}
use Rattle.row_docs.proofs.tested_header.read_header.Goals as goal

pub returns-in_err-tested : goal.returns-in_err-tested
returns-in_err-tested g c =
    let p = err_from_is_err_and c.from_residual-in_err-tested.result
    c.from_residual-in_err-tested.ensures.1 in
    let text = c.in_ok-text.ensures in
    rw (p.1, p.2) (bytes_refused c.args.kind c.args.bytes.now c.in_ok-text.text.now text.0 text.1 _
    c.in_err-tested.ensures)
