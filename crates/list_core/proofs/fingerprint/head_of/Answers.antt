use Rattle.list_core.proofs.OrderedTextLemmas.{head_read}
use Rattle.list_core.proofs.fingerprint.head_of.Goals as goal

pub returns : goal.returns
returns c =
    head_read c.args.text.now c.as_bytes-bytes.result.now _ _ _ _ _ _ _ _ _
    (λ i. (c.type_inv.text i).fits) c.as_bytes-bytes.ensures.value c.byte_at.ensures
    c.byte_at-2.ensures c.byte_at-3.ensures c.byte_at-4.ensures c.byte_at-5.ensures
    c.byte_at-6.ensures c.byte_at-7.ensures c.byte_at-8.ensures c.from_be_bytes.ensures
