-- What a read of a whole document does to the bytes that a source has left. Project rule.
use Rattle.std.specs.Prelude.{◌≡◌, ◌≤◌, ℕ, Bool, true, false, List, length, Option}
use Rattle.std.specs.Io.KnownBytes.{Consumes, IsAtEnd}
use Rattle.json_docs.specs.Faults.{of_no_document}
use Rattle.json_docs.specs.declared.fault.DocCause.{DocCause}
use Rattle.json_docs.specs.declared.fault.DocCause.TheVariants.{TooLarge, ReadFault, NoMemory}
use Rattle.json_docs.specs.declared.fault.DocFault.{DocFault}
use Rattle.json_docs.specs.declared.stream.sources.Input.{Input}

-- the reader that a source is over
abbrev pub reader_of : {R : Type 0} → Input R → R
reader_of input = input.reader

-- whether a read of it gave an error
abbrev pub has_failed : {R : Type 0} → Input R → Bool
has_failed input = input.failed

-- from old to new the source gave these bytes and no others, and they are all that it had
abbrev pub GivesAll : Option (List ℕ) → Option (List ℕ) → List ℕ → Type 0
GivesAll old new bytes = Consumes old new bytes × IsAtEnd new

-- from old to new the source gave this many bytes
abbrev pub GivesCount : Option (List ℕ) → Option (List ℕ) → ℕ → Type 0
GivesCount old new count = (bytes : List ℕ) × (length bytes ≡ count) × Consumes old new bytes

-- from old to new the source gave at most this many bytes
abbrev pub GivesAtMost : Option (List ℕ) → Option (List ℕ) → ℕ → Type 0
GivesAtMost old new limit = (bytes : List ℕ) × (length bytes ≤ limit) × Consumes old new bytes

-- whether this is refusal 24
abbrev pub is_read_cause : DocCause → Bool
is_read_cause ReadFault = true
is_read_cause _ = false

-- what may end a read: too many bytes, a fault of the source, or no memory
abbrev pub IsCauseOfRead : DocCause → Type 0
IsCauseOfRead TooLarge = Unit {0}
IsCauseOfRead ReadFault = Unit {0}
IsCauseOfRead NoMemory = Unit {0}
IsCauseOfRead _ = ⊥

-- a refusal that a read of a whole document gives: 23, 24 or 26, of no document
abbrev pub IsReadRefusal : DocFault → Type 0
IsReadRefusal fault = (fault.document ≡ 0) × IsCauseOfRead fault.cause

-- ---- a whole document

-- these bytes are all that the source had left, they fit the limit, and no read of them failed
pub record ReadsWhole {S : Type 0} (failed : S → Bool) (remaining : S → Option (List ℕ))
    (old new : S) (bytes : List ℕ) : Type 0 where
  pub all : GivesAll (remaining old) (remaining new) bytes
  pub fits : length bytes ≤ 67108864
  pub unfailed : failed new ≡ false

-- the source was not read to its end: the fault says why, with 24 alone the source has failed, and
-- it gave at most one byte past the limit, with 23 just that byte
pub record IsReadFault {S : Type 0} (failed : S → Bool) (remaining : S → Option (List ℕ))
    (old new : S) (fault : DocFault) : Type 0 where
  pub refused : IsReadRefusal fault
  pub failing : failed new ≡ is_read_cause fault.cause
  pub most : GivesAtMost (remaining old) (remaining new) 67108865
  pub too_large : fault ≡ of_no_document TooLarge
      → GivesCount (remaining old) (remaining new) 67108865
