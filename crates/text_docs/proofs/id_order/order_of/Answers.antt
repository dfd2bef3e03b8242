use Rattle.std.proofs.Common.{◌∙◌, List, ℕ, ap, sym}
use Rattle.cell_core.specs.Entry.{text_cmp}
use Rattle.text_docs.proofs.IdOrderLemmas.{plain_is}
use Rattle.text_docs.proofs.id_order.order_of.Goals as goal

-- where no backslash is written, the id is written as it is
pub returns-in-None : goal.returns-in-None
returns-in-None c = λ text is simple.
    c.cmp.ensures
    ∙ ap (λ (bs : List ℕ). text_cmp bs c.args.id.now)
    (sym (plain_is text c.args.written.now is c.in-None.ensures))
