use Rattle.std.proofs.Common.{◌∙◌, ◌++◌, ap}
use Rattle.site_docs.proofs.EnvelopeLemmas.{summary_together}
use Rattle.site_docs.proofs.document.envelope.closed_summary.Goals as goal

-- the bytes are the text and what follows the stamps
pub returns : goal.returns
returns c = λ owner stamps is_owner is.
    let front = c.args.front.items in
    let begun = c.new-2.ensures in
    let ended = c.in_ok-end.ensures in
    let none = begun.before ∙ c.new.ensures.items in
    let both = c.from.ensures ∙ c.in_ok-extend_from_slice.ensures.items
    ∙ ap (λ end. front ++ end) c.bytes.ensures in
    summary_together owner front c.in_ok-end.end c.from.result stamps is_owner is
    (rw (none, begun.tokens) at ended.text) (ended.utf8 none) both
