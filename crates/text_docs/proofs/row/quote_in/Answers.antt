use Rattle.std.proofs.Common.{◌∙◌, [], ap, append-nil, arith, not, sym, take}
use Rattle.text_docs.specs.Row.{is_unclosed}
use Rattle.text_docs.specs.inner.Row.{is_simple}
use Rattle.text_docs.proofs.row.quote_in.Goals as goal

-- the bytes before the quote go on inside of the string, and nothing comes after them
pub returns-then-byte-eq34 : goal.returns-then-byte-eq34
returns-then-byte-eq34 c =
    let front = append-nil (take c.loop-place.place c.args.text.now) in (
      omega (arith, c.loop-place-test.true),
      ap is_unclosed (sym front) ∙ c.loop-place.invariant.unclosed [] ∙ ap not c.if-escaped.false,
      ap is_simple (sym front) ∙ c.loop-place.invariant.simple [],
    )
