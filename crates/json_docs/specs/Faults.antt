-- The numbers of the refusals. Project rule: one numbering over the whole product.
use Rattle.std.specs.Prelude.{ℕ, Option, None, Some}
use Rattle.lang_core.specs.Fault.{number_of as lang_number}
use Rattle.cell_core.specs.Fault.{number_of as cell_number}
use Rattle.list_core.specs.Fault.{number_of as nego_number}
use Rattle.catalogue.specs.CataFault.{number_of as cata_number}
use Rattle.cata_core.specs.PlayFault.{number_of as play_number}
use Rattle.catalogue.specs.declared.cata_fault.CataFault.{CataFault}
use Rattle.catalogue.specs.declared.cata_fault.CataFault.TheVariants as cata
use Rattle.cata_core.specs.declared.play_fault.PlayFault.{PlayFault}
use Rattle.cata_core.specs.declared.play_fault.PlayFault.TheVariants as play
use Rattle.json_docs.specs.declared.fault.FieldFault.{FieldFault}
use Rattle.json_docs.specs.declared.fault.FieldFault.TheVariants.{Language, Cell, Priorities}
use Rattle.json_docs.specs.declared.fault.Spot.{Spot}
use Rattle.json_docs.specs.declared.fault.Spot.TheVariants.{Document, Row}
use Rattle.json_docs.specs.declared.fault.DocCause.{DocCause}
use Rattle.json_docs.specs.declared.fault.DocCause.TheVariants.{NotUtf8, NotJson, Shape, Field}
use Rattle.json_docs.specs.declared.fault.DocCause.TheVariants.{CellOrder, RepeatedTag, TooLarge}
use Rattle.json_docs.specs.declared.fault.DocCause.TheVariants.{ReadFault, WriteFault, NoMemory}
use Rattle.json_docs.specs.declared.fault.DocCause.TheVariants.{SiteName, VersionUnknown, TimeAhead}
use Rattle.json_docs.specs.declared.fault.DocCause.TheVariants.{OwnEditMissing, Site, Step}
use Rattle.json_docs.specs.declared.fault.DocFault.{DocFault}

-- the number of a refusal of a field is that of the layer which refuses it
abbrev pub field_number : FieldFault → ℕ
field_number (Language fault) = lang_number fault
field_number (Cell fault) = cell_number fault
field_number (Priorities fault) = nego_number fault

-- the number of each refusal
abbrev pub number_of : DocCause → ℕ
number_of (NotUtf8 offset) = 18
number_of NotJson = 19
number_of (Shape spot) = 20
number_of (Field row fault) = field_number fault
number_of (CellOrder row) = 21
number_of (RepeatedTag row) = 22
number_of TooLarge = 23
number_of ReadFault = 24
number_of WriteFault = 25
number_of NoMemory = 26
number_of SiteName = 27
number_of VersionUnknown = 28
number_of (TimeAhead row) = 29
number_of (OwnEditMissing row) = 30
number_of (Site fault) = cata_number fault
number_of (Step fault) = play_number fault

-- the row where a shape is refused; none where that is the document's
abbrev pub row_of_spot : Spot → Option ℕ
row_of_spot Document = None
row_of_spot (Row row) = Some row

-- the row that a refusal means
abbrev pub row_of : DocCause → Option ℕ
row_of (Shape spot) = row_of_spot spot
row_of (Field row fault) = Some row
row_of (CellOrder row) = Some row
row_of (RepeatedTag row) = Some row
row_of (TimeAhead row) = Some row
row_of (OwnEditMissing row) = Some row
row_of _ = None

-- a refusal that means no input document
abbrev pub of_no_document : DocCause → DocFault
of_no_document cause = record { document = 0; cause = cause }

-- a refusal of an input document by its reader; out of memory means none
abbrev pub of_document : ℕ → DocCause → DocFault
of_document document NoMemory = of_no_document NoMemory
of_document document cause = record { document = document; cause = cause }

-- the refusal of a site's call; out of memory has one form
abbrev pub of_site : CataFault → DocCause
of_site cata.NoMemory = NoMemory
of_site fault = Site fault

-- the refusal of a run
abbrev pub of_step : PlayFault → DocCause
of_step play.NoMemory = NoMemory
of_step fault = Step fault
