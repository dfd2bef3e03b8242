use Rattle.std.specs.Prelude.{map}
use Rattle.nego_core.proofs.WideningLemmas.{found_there}
use Rattle.nego_core.proofs.widening.find_widened.Goals as goal

pub listed_place-requires : goal.listed_place-requires
listed_place-requires g c =
    let langs = map g.L.AsLang.text c.args.langs.now in
    found_there c.args.scheme c.args.list.now langs c.in-Matched.text.now c.in-Matched.ensures
