use Rattle.std.proofs.Common.{inr, refl}
use Rattle.std.proofs.lemmas.Result.{err_from_is_err_and}
use Rattle.map_docs.proofs.MapsLabelsLemmas.{else_by}
use Rattle.command_core.proofs.sites.synced.Goals as goal

pub returns : goal.returns
returns g c = (
  c.in_ok-input.input,
  c.in_ok-input.ensures,
  (
    c.two_documents.result.0.now,
    c.two_documents.result.1.now,
    c.in_ok-texts.texts.0,
    c.in_ok-texts.texts.1,
    rw (← c.bytes.ensures) c.two_documents.ensures,
    c.in_ok-texts.ensures,
    refl,
    refl,
  ),
)

-- The input was read, and the two documents of it are refused by the document call.
pub returns-in_err-texts : goal.returns-in_err-texts
returns-in_err-texts g c =
    let p =
    err_from_is_err_and c.from_residual-in_err-texts.result
    c.from_residual-in_err-texts.ensures.1 in
    rw p.1
    (inr (
      tt,
      (
        _,
        inr (
          c.in_ok-input.input,
          c.in_ok-input.ensures,
          else_by c.in_err-texts.ensures
              (λ h. (
                c.two_documents.result.0.now,
                c.two_documents.result.1.now,
                rw (← c.bytes.ensures)
                    c.two_documents.ensures,
                h,
              )),
        ),
        p.2,
      ),
    ))
