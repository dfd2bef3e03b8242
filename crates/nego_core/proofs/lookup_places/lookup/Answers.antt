use Rattle.std.proofs.Common.{ℕ, ◌≡◌, List, true, Some, subst}
use Rattle.lang_core.specs.Text.{pieces}
use Rattle.nego_core.specs.LangSet.{is_among}
use Rattle.nego_core.specs.Choosing.{IsLookedUp}
use Rattle.nego_core.proofs.ChoosingCandidatesLemmas.{found_held}
use Rattle.nego_core.proofs.lookup_places.lookup.Goals as goal

pub held_place-requires : goal.held_place-requires
held_place-requires c =
    subst (λ (langs : List (List ℕ)). is_among langs c.in-Matched.text.now ≡ true) c.new.ensures
    (found_held _ _ _ c.in-Matched.ensures)

pub returns-in-Matched : goal.returns-in-Matched
returns-in-Matched c =
    let found =
    subst (λ (langs : List (List ℕ)). IsLookedUp c.args.list.now (is_among langs)
    (Some (pieces c.in-Matched.text.now))) c.new.ensures c.in-Matched.ensures in
    (c.in-Matched.text.now, found, c.held_place.ensures)
