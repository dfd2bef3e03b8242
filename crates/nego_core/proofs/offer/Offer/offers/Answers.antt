use Rattle.std.proofs.Common.{sym}
use Rattle.nego_core.proofs.OfferLemmas.{all_offered, public_offered}
use Rattle.nego_core.proofs.offer.Offer.offers.Goals as goal

pub returns-in-All : goal.returns-in-All
returns-in-All c =
    sym (rw c.in-All.is (all_offered c.args.lang.now))

pub returns-in-Public : goal.returns-in-Public
returns-in-Public c =
    sym
    (rw c.in-Public.is
    (public_offered c.args.lang.now c.is_private_use.result
    (rw (c.as_bytes.ensures.value, c.as_str.ensures.text) at c.is_private_use.ensures)))
