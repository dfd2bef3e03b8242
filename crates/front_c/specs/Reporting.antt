-- How an answer or a refusal is reported to C (project rules).
use Rattle.std.specs.Prelude.{◌≡◌, ◌==◌, ◌≤◌, ◌<◌, ◌+◌, ◌++◌, ◌⊎◌, ℕ, ℤ, Bool, List, Option, None}
use Rattle.std.specs.Prelude.{Some, drop, if◌then◌else◌, is_some, length}
use Rattle.front_core.specs.Ask.{HasQuestion}
use Rattle.front_core.specs.Fault.{count_of, document_of, number_of, offset_of, row_of}
use Rattle.front_core.specs.declared.answer.Answer.{Answer}
use Rattle.front_core.specs.declared.answer.LabelText.{LabelText}
use Rattle.front_core.specs.declared.answer.LabelText.TheVariants as label
use Rattle.front_core.specs.declared.fault.FrontFault.{FrontFault}
use Rattle.front_core.specs.declared.tag_pick.Picked.{Picked}
use Rattle.front_core.specs.declared.tag_pick.Picked.TheVariants as picked
use Rattle.front_c.specs.declared.told.Told.{Told}
use Rattle.front_c.specs.Status.{found, nothing, status_of_outcome, status_of_refusal, usage}

-- the bytes of a text that C passes, or of a buffer
abbrev pub Text : Type 0
Text = List ℕ

-- what a call makes of the buffer, of its record and of its status
abbrev pub Ends : Type 1
Ends = Text → Text → Told → ℤ → Type 0

-- what a call without an answer makes of its record and of its status
abbrev pub Reports : Type 1
Reports = Told → ℤ → Type 0

-- ---- the record

-- a number that may be absent, which is then reported as 0
abbrev pub or_zero : Option ℕ → ℕ
or_zero None = 0
or_zero (Some n) = n

-- the record of an answer of this length
abbrev pub answered : ℕ → ℕ → Told
answered len count =
    record { len = len; offset = 0; row = 0; count = count; number = 0; given = 0 }

-- the bit where something is there, else 0
abbrev pub bit_of : Bool → ℕ → ℕ
bit_of is_there bit = if is_there then bit else 0

-- what a refusal has: 1 is an offset, 2 a row, 4 a count, and 8 that it is of the second document
abbrev pub given_of : FrontFault → ℕ
given_of fault =
    bit_of (is_some (offset_of fault)) 1 + bit_of (is_some (row_of fault)) 2
    + bit_of (is_some (count_of fault)) 4 + bit_of (document_of fault == 2) 8

-- the record of a refusal
abbrev pub refused : FrontFault → Told
refused fault = record {
  len = 0;
  offset = or_zero (offset_of fault);
  row = or_zero (row_of fault);
  count = or_zero (count_of fault);
  number = number_of fault;
  given = given_of fault;
}

-- ---- the buffer

-- the text is at the front of the buffer, and the rest of it is as it was; or there is no room,
-- and all of it is
abbrev pub IsWrittenTo : Text → Text → Text → Type 0
IsWrittenTo text old new = ((length text ≤ length old) × (new ≡ text ++ drop (length text) old))
    ⊎ ((length old < length text) × (new ≡ old))

-- ---- how a call ends

-- a text is reported with its length, whether there is room for it or not
abbrev pub ReportsText : Text → ℕ → ℤ → Ends
ReportsText text count wanted old new told status = (status ≡ wanted) × IsWrittenTo text old new
    × (told ≡ answered (length text) count)

-- no text is reported
abbrev pub ReportsNothing : ℕ → Ends
ReportsNothing count old new told status = (status ≡ nothing) × (new ≡ old)
    × (told ≡ answered 0 count)

-- an unknown flag, or a handle that is not open, is reported
abbrev pub ReportsUsage : Ends
ReportsUsage old new told status = (status ≡ usage) × (new ≡ old) × (told ≡ answered 0 0)

-- a call without an answer is reported as done
abbrev pub ReportsDone : Reports
ReportsDone told status = (status ≡ found) × (told ≡ answered 0 0)

-- a refusal is reported
abbrev pub ReportsFault : FrontFault → Reports
ReportsFault fault told status = (status ≡ status_of_refusal fault) × (told ≡ refused fault)

-- a refusal is reported, with the buffer as it was
abbrev pub ReportsRefusal : FrontFault → Ends
ReportsRefusal fault old new told status = (new ≡ old) × ReportsFault fault told status

-- the text of an answer, and whether it found anything
abbrev pub ReportsAnswer : Answer → Ends
ReportsAnswer answer = ReportsText answer.text 0 (status_of_outcome answer.outcome)

-- a tag as it was passed in; 1 is counted where it is the default
abbrev pub ReportsPicked : Picked → Ends
ReportsPicked (picked.Matched tag) = ReportsText tag.now 0 found
ReportsPicked (picked.Default tag) = ReportsText tag.now 1 found
ReportsPicked picked.Nothing = ReportsNothing 0

-- a text of a label; the label's texts are counted
abbrev pub ReportsLabelText : LabelText → Ends
ReportsLabelText (label.Found text count) = ReportsText text.now count found
ReportsLabelText (label.PastEnd count) = ReportsNothing count
ReportsLabelText label.Nothing = ReportsNothing 0

-- what is asked has an answer, or is refused, and either is reported
abbrev pub ReportsEither : {A : Type 0} → (A → Type 0) → (FrontFault → Type 0) → (A → Ends) → Ends
ReportsEither {A} Is Refuses As old new told status =
    ((answer : A) × Is answer × As answer old new told status)
    ⊎ ((fault : FrontFault) × Refuses fault × ReportsRefusal fault old new told status)

-- an answer or a refusal is reported, whatever it is
abbrev pub ReportsSome : {A : Type 0} → (A → Ends) → Ends
ReportsSome As = ReportsEither (λ _. Unit {0}) (λ _. Unit {0}) As

-- the arguments read as a question, and an answer or a refusal is reported, whatever it is; or they
-- are refused so, and this is reported
abbrev pub ReportsRead : {Q A : Type 0} → (Q → Type 0) → (FrontFault → Type 0) → (A → Ends) → Ends
ReportsRead Reads Refuses As old new told status =
    (HasQuestion Reads × ReportsSome As old new told status)
    ⊎ ((fault : FrontFault) × Refuses fault × ReportsRefusal fault old new told status)
