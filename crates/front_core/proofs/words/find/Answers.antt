use Rattle.front_core.proofs.TagPickLemmas.{picked_among}
use Rattle.front_core.proofs.words.find.Goals as goal

pub returns : goal.returns
returns g c =
    let asked = c.in_ok-asked.asked in
    picked_among asked.widening _ _ _ asked.list c.in_ok-langs.langs.items asked.default
    c.finding_of.result c.in_ok-asked.ensures.2 c.in_ok-asked.ensures.1
    c.in_ok-asked.ensures.0 c.in_ok-langs.ensures c.finding_of.ensures
