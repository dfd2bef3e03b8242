use Rattle.std.specs.Prelude.{ℕ}
use Rattle.list_core.specs.declared.fault.NegoFault.{NegoFault}
use Rattle.list_core.specs.declared.fault.NegoFault.TheVariants.{FieldTooLong, FieldMalformed}
use Rattle.list_core.specs.declared.fault.NegoFault.TheVariants.{FallbackMalformed, NoMemory}

-- the number of each refusal (project rule: one numbering over the whole product)
abbrev pub number_of : NegoFault → ℕ
number_of FieldTooLong = 8
number_of (FieldMalformed offset) = 9
number_of (FallbackMalformed offset) = 31
number_of NoMemory = 26
