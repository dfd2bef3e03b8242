use Rattle.std.proofs.Common.{ℕ, List, subst}
use Rattle.std.proofs.lemmas.List.{map-id}
use Rattle.nego_core.specs.WidenedChoice.{MatchEarliest}
use Rattle.nego_core.proofs.widening.RefSliceLangLanguages.earliest.Goals as goal

pub returns : goal.returns
returns c =
    subst (λ (langs : List (List ℕ)). MatchEarliest c.args.ranges.now.scheme
    c.args.ranges.now.list.now langs c.earliest_of.result) (map-id c.args.self.now.now)
    c.earliest_of.ensures
