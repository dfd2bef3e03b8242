use Rattle.std.proofs.Common.{arith, refl, subst, sym}
use Rattle.row_docs.specs.inner.PlainTexts.{IsDigitAt}
use Rattle.row_docs.proofs.PlainTextsLemmas.{first_digit, next_digit}
use Rattle.row_docs.proofs.plain_texts.leading_number.Goals as goal

pub returns-then-number-eq0 : goal.returns-then-number-eq0
returns-then-number-eq0 c =
    first_digit c.args.bytes.now c.from-number.result
    (subst (IsDigitAt c.args.bytes.now 0) (sym c.from-number.ensures)
    (c.if-not-is_digit_at.ensures refl))

pub loop-number-init : goal.loop-number-init
loop-number-init c = record {
  front = first_digit c.args.bytes.now c.from-number.result
      (subst (IsDigitAt c.args.bytes.now 0) (sym c.from-number.ensures)
      (c.if-not-is_digit_at.ensures refl));
  some = omega arith;
}

pub loop-number-preserved : goal.loop-number-preserved
loop-number-preserved c =
    let inv = c.loop-number.invariant in
    let bytes = c.args.bytes.now in
    let len = c.loop-number.len in
    let digit = subst (IsDigitAt bytes len) (sym c.from.ensures) (c.loop-number-test.ensures refl)
    in
    record {
      front = next_digit bytes c.loop-number.number c.from.result len inv.front digit inv.some
          (omega (arith, digit.small));
      some = omega (arith, inv.some);
    }
