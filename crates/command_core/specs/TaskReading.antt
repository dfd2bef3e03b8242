-- What a command does with its input: its words are read first, then the whole input, and what that
-- holds is answered or refused (project rules).
use Rattle.std.specs.Prelude.{◌⊎◌, ℕ, List}
use Rattle.json_docs.specs.FaultChecks.{OrMemory}
use Rattle.json_docs.specs.Sources.{IsReadFault, ReadsWhole}
use Rattle.json_docs.specs.declared.fault.DocFault.{DocFault}
use Rattle.row_docs.specs.Reading.{no_memory}
use Rattle.front_core.specs.Fault.{IsOf, document_fault}
use Rattle.front_core.specs.declared.fault.FrontFault.{FrontFault}
use Rattle.command_core.specs.OutputStreams.{IsUnread, Reader}

-- a command without words that the product reads
abbrev pub NoWords : Type 0
NoWords = Unit {0}

-- no fault is a refusal of them
abbrev pub RefusesNothing : FrontFault → Type 0
RefusesNothing _ = ⊥

-- the whole input was read, and this text with this status answers it
abbrev pub AnswersInput : {R : Type 0} → (List ℕ → List ℕ → ℕ → Type 0) → Reader R → List ℕ → ℕ
    → Type 0
AnswersInput answers reader text answered =
    (input : List ℕ) × ReadsWhole reader.failed reader.remaining reader.old reader.new input
    × answers input text answered

-- why the input is refused: for the reading, or for what was read, where memory may run out too
abbrev pub FailsInput : {R : Type 0} → (List ℕ → DocFault → Type 0) → Reader R → DocFault → Type 0
FailsInput refuses reader fault =
    IsReadFault reader.failed reader.remaining reader.old reader.new fault
    ⊎ ((input : List ℕ) × ReadsWhole reader.failed reader.remaining reader.old reader.new input
    × OrMemory no_memory (refuses input) fault)

-- why a command is refused: by its words, and then nothing was read; or else for its input
abbrev pub RefusesInput : {R : Type 0} → Type 0 → (FrontFault → Type 0)
    → (List ℕ → DocFault → Type 0) → Reader R → FrontFault → Type 0
RefusesInput words refuses_words refuses reader fault =
    (refuses_words fault × IsUnread reader)
    ⊎ (words × IsOf document_fault (FailsInput refuses reader) fault)
