use Rattle.std.proofs.Common.{◌∙◌, List, append-nil, subst, sym}
use Rattle.std.specs.Prelude.{ℕ}
use Rattle.nego_core.specs.WidenedChoice.{MatchEarliest}
use Rattle.catalogue.proofs.live.earlier_of.Goals as goal

pub returns-then-offers : goal.returns-then-offers
returns-then-offers c =
    rw (sym c.offers.ensures ∙ c.if-offers.true) c.earlier.ensures

pub returns-else-offers : goal.returns-else-offers
returns-else-offers c =
    rw (sym c.offers.ensures ∙ c.if-offers.false)
    (λ langs h.
    subst (λ (x : List (List ℕ)). MatchEarliest c.args.ranges.now.scheme c.args.ranges.now.list.now
    x c.args.earliest) (sym (append-nil langs)) h)
