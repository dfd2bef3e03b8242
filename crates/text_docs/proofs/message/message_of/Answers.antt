use Rattle.std.proofs.Common.{◌∙◌, List, ℕ, subst}
use Rattle.text_docs.specs.inner.Part.{HasAllFrom, HasAllUpTo}
use Rattle.text_docs.proofs.MessageLemmas.{answers_message, part_reads}
use Rattle.text_docs.proofs.message.message_of.Goals as goal

-- the rows of the message are a document of their own
pub returns : goal.returns
returns c = λ site compact.
    let own = c.as_bytes.ensures.value ∙ c.as_str.ensures.text in
    let part =
    part_reads c.args.text.now c.as_slice.result.now c.args.id.now site c.args.rows.start
    c.part_of-part.result.start c.part_of-part.result.end c.args.rows.end compact c.requires
    (subst (λ (id : List ℕ). HasAllFrom c.args.text.now id c.part_of-part.result.start) own
    c.part_of-part.ensures.start)
    (subst (λ (id : List ℕ). HasAllUpTo c.args.text.now id c.part_of-part.result.end) own
    c.part_of-part.ensures.end)
    c.part_of-part.ensures.within.0 (c.as_slice.ensures.value ∙ c.in_ok-document.ensures) in
    answers_message c.as_slice.result.now c.args.id.now site.cells part.site
    c.read_message.result part.reads part.live_is c.read_message.ensures
