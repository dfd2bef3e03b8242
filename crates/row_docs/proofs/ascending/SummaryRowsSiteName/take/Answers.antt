use Rattle.std.proofs.Common.{◌≡◌, ◌∙◌, ◌∷◌, [], length, Some, true, false, refl, inl, inr, ap, sym}
use Rattle.std.proofs.lemmas.Result.{err_from_is_err_and}
use Rattle.cata_core.specs.Summary.{SummaryState}
use Rattle.row_docs.specs.Ascending.{last_key, own_stamp_checks, stamp_row, stamped_in}
use Rattle.row_docs.specs.Fields.{key_of, order_check}
use Rattle.row_docs.proofs.AscendingLemmas.{fails_alone, fails_row, key_of_stamp}
use Rattle.row_docs.proofs.AscendingLemmas.{MakesEntries-push, passes_row}
use Rattle.row_docs.proofs.ascending.SummaryRowsSiteName.take.Goals as goal

pub returns-clause-ok : goal.returns-clause-ok
returns-clause-ok c = λ d owner before cut is makes.
    let version = c.args.version in
    let own = c.in_ok-own_stamp.ensures d cut in
    let made = own.1 ∙ ap Some (sym c.into_parts-id.ensures) in
    let above = c.if-not-is_above_all.ensures.0 refl in (
      passes_row (stamped_in version) (own_stamp_checks version) before c.args.place d
          c.args.self.now.stamps _ _ is makes made (key_of_stamp _ _) own.0 above,
      MakesEntries-push (stamped_in version) before c.args.self.now.stamps
          c.push.new.self.stamps d _ makes made above
          (ap (λ (s : SummaryState). s.stamps) c.in_ok-push.ensures.ok),
    )

pub returns-then-not-is_above_all-clause-err : goal.returns-then-not-is_above_all-clause-err
returns-then-not-is_above_all-clause-err c = inr (λ d owner before cut is makes.
    let version = c.args.version in
    let own = c.in_ok-own_stamp.ensures d cut in
    let made = own.1 ∙ ap Some (sym c.into_parts-id.ensures) in
    fails_row (stamped_in version) (own_stamp_checks version) before c.args.place d
    c.args.self.now.stamps _ _ is makes made (key_of_stamp _ _) own.0
    (λ above. let never : false ≡ true = c.if-not-is_above_all.ensures.1 above in absurd (cc)))

-- The row fails one of its own tests.
pub returns-in_err-own_stamp-clause-err : goal.returns-in_err-own_stamp-clause-err
returns-in_err-own_stamp-clause-err c =
    let p = err_from_is_err_and c.from_residual.result c.from_residual.ensures.1 in
    let version = c.args.version in
    rw (p.1, p.2) (elim c.in_err-own_stamp.ensures [
      | inl memory ↦ inl memory
      | inr fails ↦ inr (λ d owner before cut at makes.
          fails_alone (own_stamp_checks version) before c.args.place d
          (order_check (length before) (last_key (stamped_in version) before)
          (key_of (stamp_row version d)) ∷ []) _ at (fails d cut))
    ])
