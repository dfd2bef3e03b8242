-- The line that reports a refusal, and what a sink takes of it (project rule).
use Rattle.std.specs.Prelude.{◌≡◌, ◌==◌, ◌≤◌, ℕ, false, List, ◌++◌, length, Option, None, Some, []}
use Rattle.std.specs.Prelude.{codes, decimal, if◌then◌else◌, IfSome, MatchBool}
use Rattle.std.specs.Fmt.Cut.{IsTextOrCut}
use Rattle.std.specs.Io.KnownBytes.{Appends}
use Rattle.json_docs.specs.Sinks.{AppendsFront}
use Rattle.front_core.specs.Fault.{document_of, number_of, row_of}
use Rattle.front_core.specs.declared.fault.FrontFault.{FrontFault}
use Rattle.command_core.specs.OutputStreams.{IsUnwritten, Writer}

-- a word and a number after it, where there is one
abbrev pub counted : List ℕ → Option ℕ → List ℕ
counted word None = []
counted word (Some number) = word ++ decimal number

-- the document that is meant, counted from 1; 0 means none
abbrev pub document_meant : ℕ → Option ℕ
document_meant document = if document == 0 then None else Some document

-- `refused N: TEXT`, ` in row R`, ` of document D`, LF
abbrev pub fault_line : ℕ → List ℕ → Option ℕ → ℕ → List ℕ
fault_line number text row document =
    codes "refused " ++ decimal number ++ codes ": " ++ text ++ counted (codes " in row ") row
    ++ counted (codes " of document ") (document_meant document) ++ codes "\n"

-- what a line shows of a value, in at most 160 bytes: its text, or something that ends in dots
-- where it is longer; anything, where the value's type does not say its text
abbrev pub Shows : Option (List ℕ) → List ℕ → Type 0
Shows output text = (length text ≤ 160) × IfSome output (λ bytes. IsTextOrCut 160 bytes text)

-- the sink took the whole line, or where it failed a front of it
abbrev pub PrintsLine : {S : Type 0} → List ℕ → Writer S → Type 0
PrintsLine line sink =
    AppendsFront (sink.contents sink.old) (sink.contents sink.new) line
    × (sink.failed sink.new ≡ false
    → Appends (sink.contents sink.old) (sink.contents sink.new) line)

-- it took the line of a fault; nothing, where it had failed before
abbrev pub PrintsFault : {S : Type 0} → ℕ → Option (List ℕ) → Option ℕ → ℕ → Writer S → Type 0
PrintsFault number output row document sink = MatchBool (sink.failed sink.old) (IsUnwritten sink)
    ((text : List ℕ) × Shows output text × PrintsLine (fault_line number text row document) sink)

-- the line of a refusal, with the row and the document that it means
abbrev pub PrintsRefusal : {S : Type 0} → FrontFault → Writer S → Type 0
PrintsRefusal fault = PrintsFault (number_of fault) None (row_of fault) (document_of fault)
