-- Documents in the form in which they are written, and texts that begin with a part of one.
-- Project rule.
use Rattle.std.specs.Prelude.{◌≡◌, ◌⊎◌, ◌++◌, ◌∷◌, [], ℕ, List, Bool, true, false, IsUtf8, codes}
use Rattle.std.specs.Prelude.{decimal}
use Rattle.json.specs.Print.{quoted}
use Rattle.serde_json.specs.Data.{Data, array, member, no_members, number, object, string}
use Rattle.serde_json.specs.Data.{unsigned}
use Rattle.serde_json.specs.View.{items_of}
use Rattle.serde_json.specs.Written.{comma_if, compact_text}
use Rattle.cell_core.specs.SiteName.{IsSiteName}
use Rattle.catalogue.specs.Entries.{Entries}
use Rattle.row_docs.specs.Entries.{cells_values}
use Rattle.row_docs.specs.Kinds.{kind_text, subject_of}
use Rattle.row_docs.specs.WritingTexts.{text}
use Rattle.row_docs.specs.EntriesValid.{AreKeptCells}
use Rattle.row_docs.specs.declared.kind.Kind.{Kind}

-- `{"cells":[..],"kind":KIND,OWN:NAME,"version":2}`
abbrev pub cells_document : Kind → List ℕ → List Data → Data
cells_document kind name rows = object
    (member (codes "cells") (array (items_of rows))
    (member (codes "kind") (string (kind_text kind))
    (member (subject_of kind) (string name)
    (member (codes "version") (number (unsigned 2)) no_members))))

-- the bytes are the text of the value, or that text without its last byte, the line feed
abbrev pub IsTextOf : Data → List ℕ → Type 0
IsTextOf d bytes = (bytes ≡ text d) ⊎ (bytes ++ 10 ∷ [] ≡ text d)

-- the bytes are the text that is written for this name and these cells, with its line feed or
-- without
pub record IsPlainText (kind : Kind) (bytes name : List ℕ) (cells : Entries) : Type 0 where
  pub text : IsTextOf (cells_document kind name (cells_values cells)) bytes
  pub utf8 : IsUtf8 bytes
  pub is_name : IsSiteName name
  pub kept : AreKeptCells cells

-- ---- parts of such a text

-- whether an item after these is a later one, and no first
abbrev pub is_later : {X : Type 0} → List X → Bool
is_later [] = false
is_later (x ∷ xs) = true

-- the text of the items of an array that is still open; `later` says that others come before them
abbrev pub open_items : Bool → List Data → List ℕ
open_items later [] = []
open_items later (d ∷ ds) = comma_if later ++ (compact_text d ++ open_items true ds)

-- the brace that ends a document, with the line feed or without
abbrev pub IsEnd : List ℕ → Type 0
IsEnd end = (end ≡ 125 ∷ 10 ∷ []) ⊎ (end ≡ 125 ∷ [])

-- the members after the rows, and the end
abbrev pub last_members : List ℕ → List ℕ → List ℕ → List ℕ → List ℕ
last_members kind subject name end =
    44 ∷ (quoted (codes "kind") ++ 58 ∷
    (quoted kind ++ 44 ∷
    (quoted subject ++ 58 ∷
    (quoted name ++ 44 ∷ (quoted (codes "version") ++ 58 ∷ (decimal 2 ++ end))))))
