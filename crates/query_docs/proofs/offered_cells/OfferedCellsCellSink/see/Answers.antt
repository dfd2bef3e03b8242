use Rattle.std.proofs.Common.{◌∙◌, ap, refl, sym}
use Rattle.cell_core.proofs.KeyedAboveLemmas.{on_ok_then}
use Rattle.nego_core.specs.Offer.{is_offered, items_of}
use Rattle.site_docs.specs.Sink.{entry_of}
use Rattle.catalogue.specs.EntriesOffered.{offered_cells}
use Rattle.query_docs.proofs.OfferedCellsLemmas.{above_offered, offered_more, offered_same}
use Rattle.query_docs.proofs.offered_cells.OfferedCellsCellSink.see.Goals as goal

-- the key is above the cells that are offered, as it is above all
pub see-requires : goal.see-requires
see-requires g c κs =
    let req = c.requires.holds in
    let offer = items_of req.0.offer in
    let above = above_offered offer (c.args.cell.id.now, c.args.cell.lang.now) req.1 req.3 in (
      (refl, tt),
      (
        (req.0.sink, offered_cells offer req.1, req.2.holds, above),
        (c.requires.label, c.requires.row),
      ),
    )

-- a cell that is offered is one more of the other sink
pub returns-then-offers : goal.returns-then-offers
returns-then-offers g c =
    let e = entry_of c.args.cell in
    on_ok_then c.see.result
    (λ sees first before has above.
    let offer = items_of first.offer in
    let shown = ap (λ it. is_offered it e.0.1) (sym has.offer_is) ∙ sym c.offers.ensures
    ∙ c.if-offers.true in
    record {
      offer_is = has.offer_is;
      holds = rw (offered_more offer before e shown)
          (sees first.sink (offered_cells offer before) has.holds
          (above_offered offer e.0 before above));
    })
    c.see.ensures

-- any other cell changes nothing
pub returns-else-offers : goal.returns-else-offers
returns-else-offers g c = λ first before has above.
    let e = entry_of c.args.cell in
    let offer = items_of first.offer in
    let hidden = ap (λ it. is_offered it e.0.1) (sym has.offer_is) ∙ sym c.offers.ensures
    ∙ c.if-offers.false in
    record {
      offer_is = has.offer_is;
      holds = rw (offered_same offer before e hidden) has.holds;
    }
