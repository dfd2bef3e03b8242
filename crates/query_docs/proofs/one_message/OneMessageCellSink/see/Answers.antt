use Rattle.std.proofs.Common.{◌∙◌, ap, refl, sym}
use Rattle.std.specs.Ordering.{is_eq}
use Rattle.cell_core.proofs.KeyedAboveLemmas.{on_ok_then}
use Rattle.site_docs.specs.Sink.{entry_of}
use Rattle.query_docs.proofs.OneMessageLemmas.{above_kept, kept_more}
use Rattle.query_docs.proofs.one_message.OneMessageCellSink.see.Goals as goal

-- the key is above the cells that were kept, as it is above all
pub see-requires : goal.see-requires
see-requires c =
    let req = c.requires.holds in
    let kept = c.args.self.now.cells in
    let above =
    above_kept req.0 c.args.self.now req.1 (c.args.cell.id.now, c.args.cell.lang.now) req.2 req.3 in
    ((kept, kept, refl, above), (c.requires.label, c.requires.row))

-- the cell is one more of the message
pub returns : goal.returns
returns c =
    let self = c.args.self.now in
    let e = entry_of c.args.cell in
    let eq = ap is_eq (sym c.cmp.ensures) ∙ sym c.is_eq.ensures ∙ c.if-not-is_eq.false in
    on_ok_then c.see.result
    (λ sees first before keeps above.
    kept_more first self c.see.new.self before e eq
    (sees self.cells self.cells refl (above_kept first self before e.0 keeps above)) keeps)
    c.see.ensures
