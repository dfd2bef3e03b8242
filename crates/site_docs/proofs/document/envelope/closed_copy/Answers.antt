use Rattle.std.proofs.Common.{◌∙◌, ◌++◌, ap}
use Rattle.site_docs.proofs.EnvelopeLemmas.{site_together}
use Rattle.site_docs.proofs.document.envelope.closed_copy.Goals as goal

-- the bytes are the text and what follows the cells
pub returns : goal.returns
returns c = λ cells is.
    let front = c.args.front.now in
    let ended = c.in_ok-end.ensures in
    let copied = c.in_ok-extend_from_slice.ensures.items
    ∙ ap (λ none. none ++ front) c.in_ok-text.ensures.items in
    let both = c.from.ensures ∙ c.in_ok-extend_from_slice-2.ensures.items
    ∙ ap (λ text. text ++ c.bytes.result.now) copied
    ∙ ap (λ end. front ++ end) c.bytes.ensures in
    site_together c.args.name front c.in_ok-end.end c.from.result cells ended.name is ended.text
    ended.utf8 both
