-- How a command ends: with its text written, or with a refusal reported and nothing written.
use Rattle.std.specs.Prelude.{◌≡◌, ◌⊎◌, ℕ, true, false, List, codes}
use Rattle.std.specs.Io.KnownBytes.{Appends}
use Rattle.std_io.specs.declared.io.kind.ErrorKind.{ErrorKind}
use Rattle.std_io.specs.declared.io.kind.ErrorKind.TheVariants.{OutOfMemory}
use Rattle.json_docs.specs.Faults.{of_no_document}
use Rattle.json_docs.specs.Sinks.{AppendsFront}
use Rattle.json_docs.specs.declared.fault.DocCause.TheVariants.{WriteFault}
use Rattle.front_core.specs.Fault.{number_of}
use Rattle.front_core.specs.declared.fault.FrontFault.{FrontFault}
use Rattle.front_core.specs.declared.fault.FrontFault.TheVariants.{Document, NoMemory}
use Rattle.command_core.specs.FaultLine.{PrintsLine, PrintsRefusal}
use Rattle.command_core.specs.Status.{status_of}
use Rattle.command_core.specs.OutputStreams.{IsUnwritten, Writer}

-- a write failed
abbrev pub write_fault : FrontFault
write_fault = Document (of_no_document WriteFault)

-- a usage fault, which this line reports to the sink
abbrev pub ReportsUsage : {F : Type 0} → List ℕ → Writer F → ℕ → Type 0
ReportsUsage line faults status = (status ≡ 2) × PrintsLine line faults

-- why the words of a process can't be had: memory ran out, or else a word is no UTF-8, which is a
-- usage fault
abbrev pub LacksWords : {F : Type 0} → ErrorKind → Writer F → ℕ → Type 0
LacksWords OutOfMemory faults status = (status ≡ 5) × PrintsRefusal NoMemory faults
LacksWords _ faults status = ReportsUsage (codes "error: a word is not UTF-8\n") faults status

-- the report where no command takes the words together
abbrev pub usage_line : List ℕ
usage_line =
    codes "error: no command takes these arguments together\n\nFor more information, try '--help'.\n"

-- the whole text was written and nothing reported, or a front of it, and a fault of the sink was
-- reported
abbrev pub Writes : {W F : Type 0} → List ℕ → ℕ → Writer W → Writer F → ℕ → Type 0
Writes text answered writer faults status =
    ((status ≡ answered) × Appends (writer.contents writer.old) (writer.contents writer.new) text
    × (writer.failed writer.new ≡ false) × IsUnwritten faults)
    ⊎ ((status ≡ 4) × AppendsFront (writer.contents writer.old) (writer.contents writer.new) text
    × (writer.failed writer.new ≡ true) × PrintsRefusal write_fault faults)

-- nothing was written, and the refusal was reported
abbrev pub EndsRefused : {W F : Type 0} → FrontFault → Writer W → Writer F → ℕ → Type 0
EndsRefused fault writer faults status =
    (status ≡ status_of (number_of fault)) × IsUnwritten writer × PrintsRefusal fault faults

-- the same where memory ran out
abbrev pub EndsForMemory : {W F : Type 0} → Writer W → Writer F → ℕ → Type 0
EndsForMemory = EndsRefused NoMemory
