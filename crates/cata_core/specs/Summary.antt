-- Summaries, as contracts see them.
use Rattle.std.specs.Prelude.{ℕ, List}
use Rattle.cata_core.specs.Delta.{Stamps}

-- a summary, by its owner and its stamps
pub record SummaryState : Type 0 where
  pub owner : List ℕ
  pub stamps : Stamps
