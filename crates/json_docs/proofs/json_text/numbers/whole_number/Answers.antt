use Rattle.std.proofs.Common.{◌∙◌, false, drop, ap, sym}
use Rattle.std.specs.Prelude.{option_and_then}
use Rattle.fast_float.specs.Text.{scan}
use Rattle.serde_json.specs.Find.{as_u64}
use Rattle.serde_json.specs.Read.{number_from, number_of}
use Rattle.json_docs.proofs.NumbersLemmas.{negative_no_whole, number_of-minus, number_of-plain}
use Rattle.json_docs.proofs.json_text.numbers.whole_number.Goals as goal

pub returns-then-has_minus : goal.returns-then-has_minus
returns-then-has_minus c =
    let s = c.as_bytes-bytes.result.now in
    let read =
    sym (ap number_of c.as_bytes-bytes.ensures.value)
    ∙ number_of-minus s (sym c.if-has_minus.ensures.value) in
    sym (ap (option_and_then as_u64) read ∙ negative_no_whole (scan (drop 1 s)))

pub returns : goal.returns
returns c =
    let s = c.as_bytes-bytes.result.now in
    let read =
    sym (ap number_of c.as_bytes-bytes.ensures.value)
    ∙ number_of-plain s (sym c.if-has_minus.ensures.value) in
    c.positive_whole.ensures
    ∙ (ap (λ p. option_and_then as_u64 (number_from false p)) c.scan.ensures.parts
    ∙ sym (ap (option_and_then as_u64) read))
