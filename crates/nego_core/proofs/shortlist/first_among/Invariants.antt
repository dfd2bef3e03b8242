use Rattle.std.proofs.Common.{ℕ, List, drop}
use Rattle.std.specs.Prelude.{Option}
use Rattle.nego_core.specs.Filtering.{texts_of}
use Rattle.nego_core.specs.Choosing.{MatchFirstOf}
use Rattle.nego_core.specs.Shortlist.{IsOneOf}
use Rattle.nego_core.proofs.shortlist.first_among.Given as goal

abbrev pub invariant-loop-lang : goal.invariant-loop-lang
invariant-loop-lang g l =
    let one = IsOneOf (g.L.Languages.texts l.langs) in
    (found : Option (List ℕ)) → MatchFirstOf one (texts_of (drop l.lang-index l.ranked)) found
    → MatchFirstOf one (texts_of l.ranked) found
