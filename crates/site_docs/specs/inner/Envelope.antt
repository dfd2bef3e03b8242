-- The text of the document of a site, a delta or a summary in two parts: as far as its rows, and
-- what follows them.
use Rattle.std.specs.Prelude.{◌≡◌, ◌++◌, ◌∷◌, [], ℕ, IsUtf8, List, codes, false}
use Rattle.json.specs.Print.{print}
use Rattle.json.specs.Token.{Token, begin_array, begin_object, end_array, key, string}
use Rattle.cata_core.specs.Delta.{Stamps}
use Rattle.catalogue.specs.Entries.{Entries}
use Rattle.row_docs.specs.Entries.{cells_values, stamps_values}
use Rattle.row_docs.specs.inner.WritingEnvelope.{name_tokens, version_tokens}
use Rattle.row_docs.specs.Kinds.{kind_text, subject_of}
use Rattle.row_docs.specs.EntriesValid.{AreKeptCells, AreKeptStamps}
use Rattle.row_docs.specs.declared.kind.Kind.{Kind}
use Rattle.site_docs.specs.Plain.{open_items}
use Rattle.site_docs.specs.Envelope.{cells_opening}

-- `],"kind":KIND,SUBJECT:NAME,"version":2}` and a line feed
abbrev pub end_text : Kind → List ℕ → List ℕ
end_text kind name =
    print (end_array ∷ (name_tokens (codes "kind") (kind_text kind)
    ++ (name_tokens (subject_of kind) name ++ version_tokens))) ++ 10 ∷ []

-- `{"kind":"summary","owner":OWNER,"stamps":[`
abbrev pub stamps_opening : List ℕ → List Token
stamps_opening owner =
    begin_object ∷ key (codes "kind") ∷ string (codes "summary")
    ∷ key (codes "owner") ∷ string owner ∷ key (codes "stamps") ∷ begin_array ∷ []

-- `],"version":2}` and a line feed
abbrev pub stamps_end : List ℕ
stamps_end = print (end_array ∷ version_tokens) ++ 10 ∷ []

-- the bytes are the text of a site's or a delta's document as far as these cells, which a catalogue
-- keeps
pub record IsFront (cells : Entries) (bytes : List ℕ) : Type 0 where
  pub text : bytes ≡ print cells_opening ++ open_items false (cells_values cells)
  pub utf8 : IsUtf8 bytes
  pub kept : AreKeptCells cells

-- the bytes are the text of this owner's summary as far as these stamps, which a summary keeps
pub record IsStampsFront (owner : List ℕ) (stamps : Stamps) (bytes : List ℕ) : Type 0 where
  pub text : bytes ≡ print (stamps_opening owner) ++ open_items false (stamps_values stamps)
  pub utf8 : IsUtf8 bytes
  pub kept : AreKeptStamps stamps
