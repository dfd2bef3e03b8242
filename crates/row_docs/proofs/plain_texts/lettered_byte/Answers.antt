use Rattle.row_docs.proofs.PlainTextsLemmas.{by_letter}
use Rattle.row_docs.proofs.plain_texts.lettered_byte.Goals as goal

pub returns : goal.returns
returns c =
    let known = c.in_ok-byte.ensures in (
      by_letter c.in_ok-byte.byte c.in_ok-letter.letter c.args.text.now c.in_ok-letter.rest.now
          known.0 known.1 c.in_ok-letter.ensures,
      known.2,
    )
