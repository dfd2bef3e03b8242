use Rattle.std.proofs.Common.{◌∙◌}
use Rattle.std.specs.Prelude.{map}
use Rattle.nego_core.proofs.WideningLemmas.{has_place}
use Rattle.nego_core.proofs.widening.ListedLanguages.has.Goals as goal

pub returns : goal.returns
returns g c =
    let langs = map g.L.AsLang.text c.args.self.now.langs.now in
    c.is_some.ensures ∙ has_place langs c.args.lang.now c.place_among.result c.place_among.ensures
