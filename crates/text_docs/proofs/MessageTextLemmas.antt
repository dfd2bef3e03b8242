-- A written document as a whole: its rows, and what comes before and after them.
use Rattle.std.proofs.Common.{◌≡◌, ◌∙◌, ◌++◌, ◌∷◌, [], ℕ, List, false, inl, inr, refl, ap, sym}
use Rattle.std.proofs.Common.{append_assoc, codes}
use Rattle.std.proofs.lemmas.List.{append_cancel_right}
use Rattle.json.specs.Print.{quoted}
use Rattle.serde_json.specs.Data.{Data}
use Rattle.serde_json.specs.Written.{compact_text}
use Rattle.catalogue.specs.Entries.{Entries}
use Rattle.row_docs.specs.Entries.{cells_values}
use Rattle.row_docs.specs.declared.kind.Kind.TheVariants.{Site}
use Rattle.site_docs.specs.Plain.{IsEnd, IsPlainText, IsTextOf, cells_document, last_members}
use Rattle.site_docs.specs.Plain.{open_items}
use Rattle.site_docs.specs.inner.Plain.{rows_text}
use Rattle.site_docs.proofs.PlainLemmas.{document_taken}
use Rattle.text_docs.specs.Rows.{opening}
use Rattle.text_docs.proofs.RowsPlainLemmas.{plain_array}

-- the text of the document of these rows, up to its brace
document_is : (name : List ℕ) (rows : List Data)
    → compact_text (cells_document Site name rows)
    ≡ opening ++ (open_items false rows
    ++ 93 ∷ last_members (codes "site") (codes "site") name (125 ∷ []))
document_is name rows =
    let last = last_members (codes "site") (codes "site") name (125 ∷ []) in
    ap (λ bs. 123 ∷ (quoted (codes "cells") ++ 58 ∷ bs)) (plain_array rows last)
    ∙ ap (λ bs. 123 ∷ bs)
    (sym (append_assoc (quoted (codes "cells")) (58 ∷ 91 ∷ [])
    (open_items false rows ++ 93 ∷ last)))

-- with what comes after the brace
fed : (first second : List ℕ) (name : List ℕ)
    → (first ++ (second ++ 93 ∷ last_members (codes "site") (codes "site") name (125 ∷ [])))
    ++ 10 ∷ []
    ≡ first ++ (second ++ 93 ∷ last_members (codes "site") (codes "site") name (125 ∷ 10 ∷ []))
fed first second name = simp append_assoc

-- a written document has its rows between its first and its last members
pub rows_of_text : (bytes name : List ℕ) (cells : Entries) → IsPlainText Site bytes name cells
    → (end : List ℕ) × IsEnd end
    × (bytes ≡ opening ++ (open_items false (cells_values cells)
    ++ 93 ∷ last_members (codes "site") (codes "site") name end))
rows_of_text bytes name cells plain = by plain.text
  where
    by : IsTextOf (cells_document Site name (cells_values cells)) bytes
        → (end : List ℕ) × IsEnd end
        × (bytes ≡ opening ++ (open_items false (cells_values cells)
        ++ 93 ∷ last_members (codes "site") (codes "site") name end))
    by (inl is) = (
      125 ∷ 10 ∷ [],
      inl refl,
      is ∙ ap (λ bs. bs ++ 10 ∷ []) (document_is name (cells_values cells))
          ∙ fed opening (open_items false (cells_values cells)) name,
    )
    by (inr cut) = (
      125 ∷ [],
      inr refl,
      append_cancel_right bytes (compact_text (cells_document Site name (cells_values cells)))
          (10 ∷ []) cut ∙ document_is name (cells_values cells),
    )

-- rows with such members before and after them are a written document
pub text_of_rows : (bytes name end : List ℕ) (cells : Entries) → IsEnd end
    → bytes ≡ opening ++ (open_items false (cells_values cells)
    ++ 93 ∷ last_members (codes "site") (codes "site") name end)
    → IsTextOf (cells_document Site name (cells_values cells)) bytes
text_of_rows bytes name end cells is whole =
    let last = last_members (codes "site") (codes "site") name end in
    let rows = open_items false (cells_values cells) in
    document_taken Site bytes (rows_text cells ++ last) last name end cells
    (whole ∙ ap (λ bs. 123 ∷ bs)
    (append_assoc (quoted (codes "cells")) (58 ∷ 91 ∷ []) (rows ++ 93 ∷ last)
    ∙ ap (λ bs. quoted (codes "cells") ++ 58 ∷ bs) (sym (plain_array (cells_values cells) last))))
    refl is refl
