use Rattle.std.proofs.Common.{◌∙◌, arith, sym}
use Rattle.row_docs.proofs.PlainTextsLemmas.{by_digits}
use Rattle.row_docs.proofs.plain_texts.control_of.Goals as goal

pub returns-then-not-has_letter : goal.returns-then-not-has_letter
returns-then-not-has_letter c =
    let high = c.in_ok-high.ensures in
    let low = c.in_ok-low.ensures in (
      by_digits c.in_ok-high.high c.in_ok-low.low c.args.high c.args.low high.0 low.0 low.1
          (omega (arith, c.if-byte-lt32.true))
          (sym c.has_letter.ensures ∙ c.if-not-has_letter.true),
      omega (arith, c.if-byte-lt32.true),
    )
