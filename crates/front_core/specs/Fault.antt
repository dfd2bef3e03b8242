-- The refusals of this crate: each is one of the crates below, and out of memory has one form
-- (project rule).
use Rattle.std.specs.Prelude.{◌≡◌, ◌≢◌, ◌^◌, ℕ, Option, None, Some, if◌then◌else◌, nat_lt}
use Rattle.lang_core.specs.Fault.{number_of as lang_number, offset_of as lang_offset}
use Rattle.lang_core.specs.declared.fault.LangFault.{LangFault}
use Rattle.list_core.specs.Fault.{number_of as nego_number}
use Rattle.list_core.specs.declared.fault.NegoFault.{NegoFault}
use Rattle.cell_core.specs.Fault.{number_of as cell_number}
use Rattle.cell_core.specs.declared.fault.CellFault.{CellFault}
use Rattle.catalogue.specs.declared.cata_fault.CataFault.{CataFault}
use Rattle.json_docs.specs.declared.fault.DocCause.{DocCause}
use Rattle.json_docs.specs.declared.fault.DocFault.{DocFault}
use Rattle.json_docs.specs.declared.fault.FieldFault.{FieldFault}
use Rattle.front_core.specs.declared.fault.FrontFault.{FrontFault}
use Rattle.front_core.specs.declared.fault.FrontFault.TheVariants.{Cell, Language, Field, Document}
use Rattle.front_core.specs.declared.fault.FrontFault.TheVariants.{NoMemory}
use Rattle.lang_core.specs.declared.fault.LangFault.TheVariants as lang
use Rattle.list_core.specs.declared.fault.NegoFault.TheVariants as nego
use Rattle.cell_core.specs.declared.fault.CellFault.TheVariants as cell
use Rattle.catalogue.specs.declared.cata_fault.CataFault.TheVariants as cata
use Rattle.json_docs.specs.Faults as doc
use Rattle.json_docs.specs.declared.fault.DocCause.TheVariants as cause
use Rattle.json_docs.specs.declared.fault.FieldFault.TheVariants as row

-- the number of each refusal is that of the crate below
abbrev pub number_of : FrontFault → ℕ
number_of (Cell fault) = cell_number fault
number_of (Language fault) = lang_number fault
number_of (Field fault) = nego_number fault
number_of (Document fault) = doc.number_of fault.cause
number_of NoMemory = 26

-- where in a field or a table the element begins that is refused
abbrev pub nego_offset : NegoFault → Option ℕ
nego_offset (nego.FieldMalformed offset) = Some offset
nego_offset (nego.FallbackMalformed offset) = Some offset
nego_offset _ = None

-- the place in the text of a row's field
abbrev pub row_offset : FieldFault → Option ℕ
row_offset (row.Language fault) = lang_offset fault
row_offset (row.Cell fault) = None
row_offset (row.Priorities fault) = nego_offset fault

-- the place in a document, or in the text of a row's field
abbrev pub cause_offset : DocCause → Option ℕ
cause_offset (cause.NotUtf8 offset) = Some offset
cause_offset (cause.Field row fault) = row_offset fault
cause_offset _ = None

-- the place in the text that is refused, from 0: of refusals 3, 7, 9 and 18 alone
abbrev pub offset_of : FrontFault → Option ℕ
offset_of (Cell fault) = None
offset_of (Language fault) = lang_offset fault
offset_of (Field fault) = nego_offset fault
offset_of (Document fault) = cause_offset fault.cause
offset_of NoMemory = None

-- the place of a text in its label, or how many texts it has
abbrev pub cell_count : CellFault → Option ℕ
cell_count (cell.TextTooLong index) = Some index
cell_count (cell.LabelCount count) = Some count
cell_count _ = None

-- the count in the field of a row
abbrev pub row_count : FieldFault → Option ℕ
row_count (row.Cell fault) = cell_count fault
row_count _ = None

-- the place of the cell whose stamp is used twice, as far as 64 bits count
abbrev pub site_count : CataFault → Option ℕ
site_count (cata.StampReused place stamp) = if nat_lt place (2 ^ 64) then Some place else None
site_count _ = None

-- the count in a document
abbrev pub cause_count : DocCause → Option ℕ
cause_count (cause.Field row fault) = row_count fault
cause_count (cause.Site fault) = site_count fault
cause_count _ = None

-- the number that the text of a refusal counts: of 11 the place of the text in its label, of 12 how
-- many texts the label has, of 13 the place of the cell in the receiving site
abbrev pub count_of : FrontFault → Option ℕ
count_of (Cell fault) = cell_count fault
count_of (Document fault) = cause_count fault.cause
count_of _ = None

-- the row of the document that is refused, from 0
abbrev pub row_of : FrontFault → Option ℕ
row_of (Document fault) = doc.row_of fault.cause
row_of _ = None

-- the input document that is refused, from 1; 0 means none
abbrev pub document_of : FrontFault → ℕ
document_of (Document fault) = fault.document
document_of _ = 0

-- the refusal of a language
abbrev pub language_fault : LangFault → FrontFault
language_fault lang.NoMemory = NoMemory
language_fault fault = Language fault

-- the refusal of a field
abbrev pub field_fault : NegoFault → FrontFault
field_fault nego.NoMemory = NoMemory
field_fault fault = Field fault

-- the refusal of an id, a label or a name
abbrev pub cell_fault : CellFault → FrontFault
cell_fault cell.NoMemory = NoMemory
cell_fault fault = Cell fault

-- the refusal of a document for a cause
abbrev pub cause_fault : DocFault → DocCause → FrontFault
cause_fault fault cause.NoMemory = NoMemory
cause_fault fault _ = Document fault

-- the refusal of a document
abbrev pub document_fault : DocFault → FrontFault
document_fault fault = cause_fault fault fault.cause

-- the refusal of a site's call
abbrev pub site_fault : CataFault → FrontFault
site_fault fault = document_fault (doc.of_no_document (doc.of_site fault))

-- it is a refusal of the crate below, in the form that it has here
abbrev pub IsOf : {F : Type 0} → (F → FrontFault) → (F → Type 0) → FrontFault → Type 0
IsOf {F} form Refuses fault = (refused : F) × Refuses refused × (fault ≡ form refused)

-- nothing is both answered and refused, and it is refused by one fault, lack of memory apart, by
-- which each call may end
pub record IsDecided (Answers : Type 0) (Refuses : FrontFault → Type 0) : Type 0 where
  pub apart : (fault : FrontFault) → fault ≢ NoMemory → Answers → ¬ Refuses fault
  pub one : (x y : FrontFault) → x ≢ NoMemory → y ≢ NoMemory → Refuses x → Refuses y → x ≡ y
