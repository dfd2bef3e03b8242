use Rattle.std.proofs.Common.{sym}
use Rattle.nego_core.proofs.LookupPlacesLemmas.{has_place}
use Rattle.nego_core.proofs.lookup_places.held_place.Goals as goal

pub unreachable-requires : goal.unreachable-requires
unreachable-requires c =
    has_place c.args.langs.now c.args.text.now c.requires (sym c.in-None.ensures)
