-- Why one step of a run is refused.
use Rattle.std.specs.Prelude.{ℕ, ⊤}
use Rattle.cata_core.specs.PlayFault.{IsFaultOf}
use Rattle.cata_core.specs.declared.step.Step.{Step}
use Rattle.cata_core.specs.declared.play_fault.PlayFault.{PlayFault}
use Rattle.cata_core.specs.declared.play_fault.PlayFault.TheVariants.{NoMemory}
use Rattle.cata_core.specs.WorldHeld.{Held}

-- a step is refused by why it is faulty; out of memory may always be
abbrev pub RefusesStep : ℕ → Held → ℕ → Step → PlayFault → Type 0
RefusesStep sites w n step NoMemory = ⊤
RefusesStep sites w n step fault = IsFaultOf sites w n step fault
