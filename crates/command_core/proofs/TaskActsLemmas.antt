-- From what was answered and how it ended to what a command does.
use Rattle.std.proofs.Common.{◌≡◌, ◌∙◌, ℕ, List, true, false, Result, Ok, Err, ap, inl, inr, refl}
use Rattle.std.proofs.Common.{subst}
use Rattle.std.specs.Prelude.{◌⊎◌, MatchResult}
use Rattle.std.specs.Io.KnownBytes.{Appends}
use Rattle.json_docs.specs.Faults.{of_no_document}
use Rattle.json_docs.specs.FaultChecks.{OrMemory}
use Rattle.json_docs.specs.Sinks.{AppendsFront}
use Rattle.json_docs.specs.Sources.{IsReadFault, ReadsWhole}
use Rattle.json_docs.specs.declared.fault.DocCause.TheVariants.{WriteFault}
use Rattle.json_docs.specs.declared.fault.DocFault.{DocFault}
use Rattle.row_docs.specs.Reading.{no_memory}
use Rattle.docs_core.specs.Replaying.{RefusesReplay, Replays}
use Rattle.command_core.specs.TaskActs.{Treats}
use Rattle.command_core.specs.inner.TaskActs.{Performs}
use Rattle.command_core.specs.OutputEndings.{EndsRefused, Writes}
use Rattle.command_core.specs.FaultLine.{PrintsRefusal}
use Rattle.command_core.specs.Status.{answer_status, status_of}
use Rattle.command_core.specs.OutputStreams.{IsUnwritten, Streams}
use Rattle.command_core.specs.TaskWords.{TaskWords, Replay}
use Rattle.front_core.specs.declared.answer.Answer.{Answer}
use Rattle.front_core.specs.Fault.{document_fault, number_of}
use Rattle.front_core.specs.declared.fault.FrontFault.{FrontFault}

-- the answer is written, or nothing
pub treated : {R W F : Type 0} (task : TaskWords) (run : Streams R W F) (status : ℕ)
    (answered : Result Answer FrontFault)
    → Performs task run.reader answered
    → MatchResult answered
    (λ a. Writes a.text (answer_status a.outcome) run.writer run.faults status)
    (λ e. EndsRefused e run.writer run.faults status)
    → Treats task run status
treated task run status (Ok a) h e = inl (a.text, answer_status a.outcome, h, e)
treated task run status (Err refused) h e = inr (refused, h, e)

-- `replay` wrote its lines
pub replayed : {R W F : Type 0} (bytes text : List ℕ) (run : Streams R W F)
    → ReadsWhole run.reader.failed run.reader.remaining run.reader.old run.reader.new bytes
    → Replays bytes text
    → Appends (run.writer.contents run.writer.old) (run.writer.contents run.writer.new) text
    → run.writer.failed run.writer.new ≡ false
    → IsUnwritten run.faults
    → Treats Replay run 0
replayed bytes text run whole replays appends fine untold =
    inl (text, 0, (bytes, whole, (replays, refl)), inl (refl, appends, fine, untold))

-- or it was refused: in reading, by the script, or in writing
pub not_replayed : {R W F : Type 0} (fault : DocFault) (run : Streams R W F) (status : ℕ)
    → status ≡ status_of (number_of (document_fault fault))
    → PrintsRefusal (document_fault fault) run.faults
    → ((IsReadFault run.reader.failed run.reader.remaining run.reader.old run.reader.new fault
    × IsUnwritten run.writer)
    ⊎ ((bytes : List ℕ)
    × ReadsWhole run.reader.failed run.reader.remaining run.reader.old run.reader.new bytes
    × OrMemory no_memory (RefusesReplay bytes) fault × IsUnwritten run.writer)
    ⊎ ((bytes text : List ℕ)
    × ReadsWhole run.reader.failed run.reader.remaining run.reader.old run.reader.new bytes
    × Replays bytes text × (fault ≡ of_no_document WriteFault)
    × (run.writer.failed run.writer.new ≡ true)
    × AppendsFront (run.writer.contents run.writer.old) (run.writer.contents run.writer.new) text))
    → Treats Replay run status
not_replayed fault run status is told (inl h) =
    inr (document_fault fault, inr (tt, (fault, inl h.0, refl)), (is, h.1, told))
not_replayed fault run status is told (inr (inl h)) =
    inr (document_fault fault, inr (tt, (fault, inr (h.0, h.1, h.2), refl)), (is, h.3, told))
not_replayed fault run status is told (inr (inr h)) =
    let four : status ≡ 4 =
    is ∙ ap (λ (d : DocFault). status_of (number_of (document_fault d))) h.4 in
    let write_stamped =
    subst (λ (d : DocFault). PrintsRefusal (document_fault d) run.faults) h.4 told in
    inl (h.1, 0, (h.0, h.2, (h.3, refl)), inr (four, h.6, h.5, write_stamped))
