-- A reader's refusal, as that of an input document.
use Rattle.std.proofs.Common.{ℕ, ap, inl, inr, refl}
use Rattle.json_docs.specs.FaultChecks.{OrMemory}
use Rattle.json_docs.specs.Faults.{of_document}
use Rattle.json_docs.specs.declared.fault.DocCause.{DocCause}
use Rattle.json_docs.specs.declared.fault.DocCause.TheVariants.{NoMemory}
use Rattle.row_docs.specs.Reading.{IsOfDocument, no_memory}

-- a reader's refusal, as that of an input document
pub of_reader : (document : ℕ) (Refuses : DocCause → Type 0) (cause : DocCause)
    → OrMemory NoMemory Refuses cause → OrMemory no_memory (IsOfDocument document Refuses)
    (of_document document cause)
of_reader document Refuses cause why =
    elim why [ inl memory ↦ inl (ap (of_document document) memory) | inr h ↦ inr (cause, h, refl) ]
