-- From what a sink took to what it prints.
use Rattle.std.proofs.Common.{◌≡◌, ℕ, List, Option, Result, Ok, Err, false}
use Rattle.std.specs.Prelude.{OnOk, is_err}
use Rattle.std.specs.Io.KnownBytes.{Appends}
use Rattle.json_docs.specs.Sinks.{AppendsFront}
use Rattle.command_core.specs.FaultLine.{PrintsFault, PrintsLine, Shows, fault_line}
use Rattle.command_core.specs.OutputStreams.{Writer}

-- what was written of a line
pub printed : {S X E : Type 0} (line : List ℕ) (sink : Writer S) (r : Result X E)
    → OnOk r (Appends (sink.contents sink.old) (sink.contents sink.new) line)
    → AppendsFront (sink.contents sink.old) (sink.contents sink.new) line
    → sink.failed sink.new ≡ is_err r
    → PrintsLine line sink
printed line sink (Ok x) ok front is = (front, λ _. ok)
printed line sink (Err e) ok front is = (front, λ fine. absurd (cc (is, fine)))

-- it was the line of a fault
pub reported : {S : Type 0} (number : ℕ) (output : Option (List ℕ)) (row : Option ℕ) (document : ℕ)
    (sink : Writer S) (text : List ℕ)
    → sink.failed sink.old ≡ false
    → Shows output text
    → PrintsLine (fault_line number text row document) sink
    → PrintsFault number output row document sink
reported number output row document sink text fine shows prints = rw fine (text, shows, prints)
