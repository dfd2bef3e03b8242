use Rattle.std.proofs.Common.{inl, inr, refl}
use Rattle.std.proofs.lemmas.Result.{err_from_is_err_and}
use Rattle.docs_core.proofs.ReplayingLemmas.{not_written, written}
use Rattle.docs_core.proofs.call.replaying.replay.Goals as goal

-- nothing was written before
pub returns-in_err-lines-clause-err : goal.returns-in_err-lines-clause-err
returns-in_err-lines-clause-err g c =
    let p = err_from_is_err_and c.from_residual.result c.from_residual.ensures.1 in
    rw (p.1, p.2) (elim c.in_err-lines.ensures [
      | inl h ↦ inl (h, refl)
      | inr h ↦ inr (inl (h.0, h.1, h.2, refl))
    ])

pub returns-clause-ok : goal.returns-clause-ok
returns-clause-ok g c =
    let e = c.in_ok-lines.ensures in
    written c.write_out.result _ _ _ c.write_out.ensures.ok c.write_out.ensures.failed
    (λ appended unfailed.
    (e.0, c.in_ok-lines.lines, e.1, e.2, rw c.bytes.ensures at appended, unfailed))

pub returns-clause-err : goal.returns-clause-err
returns-clause-err g c =
    let e = c.in_ok-lines.ensures in
    not_written c.write_out.result _ _ _ c.write_out.ensures.refused c.write_out.ensures.failed
    (λ fault is failing.
    inr
    (inr (
      e.0,
      c.in_ok-lines.lines,
      e.1,
      e.2,
      is,
      failing,
      rw c.bytes.ensures at c.write_out.ensures.err,
    )))
