-- Scripts. Project rule.
use Rattle.std.specs.Prelude.{◌≤◌, ℕ, List}
use Rattle.cata_core.specs.declared.step.Step.{Step}

-- how many sites there are, and the steps
pub record ScriptState : Type 0 where
  pub sites : ℕ
  pub steps : List Step

-- a script has 1 to 1,024 sites
abbrev pub IsSiteCount : ℕ → Type 0
IsSiteCount sites = (1 ≤ sites) × (sites ≤ 1024)
