use Rattle.std.proofs.Common.{◌∙◌, sym}
use Rattle.nego_core.specs.Offer.{items_of}
use Rattle.catalogue.specs.Live.{live_of}
use Rattle.catalogue.proofs.EntriesOfferedLemmas.{found_offered, hidden_offered, none_offered}
use Rattle.catalogue.proofs.live.label_in.Goals as goal
use Rattle.catalogue.proofs.live.label_in.Goals.{in_default-via-in-Some+else-offers}
use Rattle.catalogue.proofs.live.label_in.Goals.{in_default-via-in_default}

pub returns-in-Some : goal.returns-in-Some
returns-in-Some c =
    found_offered (items_of c.args.offer) c.args.text.now c.in-Some.lang.now c.in-Some.label.now
    (live_of c.args.cells.now) c.in-Some.ensures (sym c.offers.ensures ∙ c.if-offers.true)

pub returns-in_default : goal.returns-in_default
returns-in_default c = elim c.in_default.branch [
  | in_default-via-in-Some+else-offers w ↦
      hidden_offered (items_of c.args.offer) c.args.text.now w.in-Some.lang.now
      w.in-Some.label.now (live_of c.args.cells.now) w.in-Some.ensures
      (sym w.offers.ensures ∙ w.if-offers.false)
  | in_default-via-in_default w ↦
      none_offered (items_of c.args.offer) c.args.text.now (live_of c.args.cells.now)
      w.in_default.ensures
]
