-- The statuses of a call, which are the command's (project rule).
use Rattle.std.specs.Prelude.{ℤ, pos}
use Rattle.front_core.specs.declared.fault.FrontFault.{FrontFault}
use Rattle.front_core.specs.declared.answer.Outcome.{Outcome}
use Rattle.front_core.specs.declared.fault.FrontFault.TheVariants as fault
use Rattle.front_core.specs.declared.answer.Outcome.TheVariants as outcome

-- the call is done, and found something where it asks
abbrev pub found : ℤ
found = pos 0

-- the call is done, and found nothing
abbrev pub nothing : ℤ
nothing = pos 1

-- an unknown flag, or a handle that is not open
abbrev pub usage : ℤ
usage = pos 2

-- memory ended
abbrev pub out_of_memory : ℤ
out_of_memory = pos 5

-- the status of an answer
abbrev pub status_of_outcome : Outcome → ℤ
status_of_outcome outcome.Found = found
status_of_outcome outcome.Nothing = nothing

-- the status of a refusal: 3, but for out of memory
abbrev pub status_of_refusal : FrontFault → ℤ
status_of_refusal fault.NoMemory = out_of_memory
status_of_refusal _ = pos 3
