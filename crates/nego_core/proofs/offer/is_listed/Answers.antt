use Rattle.std.proofs.Common.{sym, ◌∙◌, ap}
use Rattle.std.specs.Option.{is_none}
use Rattle.lang_core.specs.Lang.{tag_of}
use Rattle.nego_core.proofs.OfferLemmas.{decided_offer, undecided_offer, none_copied}
use Rattle.nego_core.proofs.offer.is_listed.Goals as goal

pub returns-in-Some : goal.returns-in-Some
returns-in-Some c =
    sym (decided_offer c.args.list.now (tag_of c.args.lang.now) _ _ c.in-Some.ensures.decides)

pub returns-in-None : goal.returns-in-None
returns-in-None c =
    none_copied c.tag.result c.is_none.result c.is_none.ensures ∙ (ap is_none c.tag.ensures.value
    ∙ sym (undecided_offer c.args.list.now (tag_of c.args.lang.now) c.in-None.ensures.decides))
