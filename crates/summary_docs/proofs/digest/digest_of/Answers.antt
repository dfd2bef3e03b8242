use Rattle.std.proofs.Common.{◌∙◌, ap}
use Rattle.std.proofs.lemmas.Result.{IfOk-weaker}
use Rattle.std.specs.Int.{to_be_bytes, w64}
use Rattle.hex.specs.Hex.{encode_lower}
use Rattle.row_docs.specs.EntriesValues.{label_value}
use Rattle.site_docs.specs.Sink.{texts_of}
use Rattle.summary_docs.specs.Digest.{fnv_1a}
use Rattle.summary_docs.proofs.DigestLemmas.{label_text}
use Rattle.summary_docs.proofs.digest.digest_of.Goals as goal

-- the digits of the hash of the label's text
pub returns : goal.returns
returns c =
    let is = label_text c.new-out.result c.write_label.new.out
    (label_value (texts_of c.args.label.now)) c.as_slice.result.now
    (c.new-out.ensures.before ∙ c.new.ensures.items) c.new-out.ensures.tokens
    c.in_ok-write_label.ensures (c.as_slice.ensures.value ∙ c.into_inner-text.ensures.items) in
    IfOk-weaker c.encode.result _ _
    (λ text digits. digits ∙ ap encode_lower (c.to_be_bytes.ensures
    ∙ ap (to_be_bytes w64) (c.fnv_1a-hash.ensures ∙ ap fnv_1a is))) c.encode.ensures
