use Rattle.std.proofs.Common.{subst}
use Rattle.std.proofs.lemmas.Result.{err_from_is_err_and}
use Rattle.site_docs.specs.RowsDraft.{HoldsRows}
use Rattle.docs_core.specs.inner.JoinedRows.{left_of}
use Rattle.docs_core.proofs.JoinedRowsLemmas.{joining_agrees, joining_ends}
use Rattle.docs_core.proofs.call.joined_rows.JoinedRows.whole.Goals as goal

-- out of memory, where both agree
pub returns-in_err-write_all-in-None : goal.returns-in_err-write_all-in-None
returns-in_err-write_all-in-None c = λ cells others holds.
    let p = err_from_is_err_and c.from_residual.result c.from_residual.ensures.1 in
    let so_far = rw c.in-None.is at holds.1 in
    rw (p.1, p.2) (joining_agrees (left_of c.args.self.left) others cells so_far.0 so_far.1)

-- all cells of both
pub returns-in_ok-write_all-in-None : goal.returns-in_ok-write_all-in-None
returns-in_ok-write_all-in-None c = λ cells others holds.
    let so_far = rw c.in-None.is at holds.1 in
    let left = left_of c.args.self.left in
    let ends = joining_ends left others cells so_far.0 so_far.1 in (
      joining_agrees left others cells so_far.0 so_far.1,
      subst (HoldsRows c.write_all.new.draft) ends.0
          (c.in_ok-write_all-in-None.ensures so_far.0 so_far.2),
      ends.1,
    )
