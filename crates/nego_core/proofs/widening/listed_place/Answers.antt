use Rattle.std.proofs.Common.{sym}
use Rattle.std.specs.Prelude.{map}
use Rattle.nego_core.proofs.LookupPlacesLemmas.{has_place}
use Rattle.nego_core.proofs.widening.listed_place.Goals as goal

pub unreachable-requires : goal.unreachable-requires
unreachable-requires g c =
    has_place (map g.L.AsLang.text c.args.langs.now) c.args.text.now c.requires
    (sym c.in-None.ensures)
