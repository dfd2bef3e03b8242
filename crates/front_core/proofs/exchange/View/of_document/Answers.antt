use Rattle.std.proofs.Common.{refl}
use Rattle.front_core.proofs.exchange.View.of_document.Goals as goal

-- the text is that of the site that was read
pub returns-in_ok-text-in-Document : goal.returns-in_ok-text-in-Document
returns-in_ok-text-in-Document c =
    let read = c.in_ok-site-in-Document in
    let text = c.in_ok-text-in-Document.ensures in
    rw (c.in-Document.is, c.found.ensures)
    (read.site, read.ensures, ((text.text, text.reads), refl))
