use Rattle.std.proofs.Common.{◌∙◌, ◌++◌, ap}
use Rattle.site_docs.proofs.EnvelopeLemmas.{site_together}
use Rattle.site_docs.proofs.document.envelope.closed.Goals as goal

-- the bytes are the text and what follows the cells
pub returns : goal.returns
returns c = λ cells is.
    let front = c.args.front.items in
    let ended = c.in_ok-end.ensures in
    let both = c.from.ensures ∙ c.in_ok-extend_from_slice.ensures.items
    ∙ ap (λ end. front ++ end) c.bytes.ensures in
    site_together c.args.name front c.in_ok-end.end c.from.result cells ended.name is ended.text
    ended.utf8 both
