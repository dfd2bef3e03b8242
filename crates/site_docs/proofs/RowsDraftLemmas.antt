-- The rows of a site's document that is being written.
use Rattle.std.proofs.Common.{◌≡◌, ◌∙◌, ◌++◌, [], ◌∷◌, ◌≤◌, ℕ, All, List, ap, append-nil, arith}
use Rattle.std.proofs.Common.{drop, false, length, refl, subst, sym, true, true≢false}
use Rattle.std.proofs.lemmas.List.{map-append}
use Rattle.std.proofs.lemmas.List.Elements.{All-append}
use Rattle.std.specs.Prelude.{IsUtf8}
use Rattle.json.specs.Print.{escape_byte, print, print_from}
use Rattle.serde_json.specs.Data.{Data}
use Rattle.cell_core.specs.Keyed.{IsMap}
use Rattle.cell_core.specs.Entry.{key_cmp}
use Rattle.catalogue.specs.Entries.{Entries, Entry}
use Rattle.row_docs.specs.Entries.{cells_values, entry_value}
use Rattle.row_docs.specs.EntriesValid.{IsKeptCell}
use Rattle.site_docs.specs.Envelope.{cells_opening}
use Rattle.site_docs.specs.inner.Envelope.{IsFront}
use Rattle.site_docs.specs.OpenRows.{HoldsOpen}
use Rattle.site_docs.specs.Plain.{open_items}
use Rattle.site_docs.specs.RowsDraft.{HoldsRows}
use Rattle.site_docs.specs.declared.rows_draft.RowsDraft.{RowsDraft}
use Rattle.site_docs.proofs.DocumentsLemmas.{kept_more}
use Rattle.site_docs.proofs.OpenRowsLemmas.{open_utf8}

-- the draft with one row more
pub row_added : (draft : RowsDraft) (cells : Entries) (e : Entry) → All IsKeptCell cells
    → IsKeptCell e → HoldsOpen cells_opening draft.rows (cells_values cells ++ entry_value e ∷ [])
    → HoldsRows draft (cells ++ e ∷ [])
row_added draft cells e each kept rows = record {
  rows = rw (map-append entry_value cells (e ∷ [])) rows;
  each = kept_more IsKeptCell cells e each kept;
}

-- the text of the draft can be closed
pub is_front : (draft : RowsDraft) (cells : Entries) → HoldsRows draft cells → IsMap key_cmp cells
    → IsFront cells draft.rows.bytes.items
is_front draft cells holds map = record {
  text = holds.rows.text;
  utf8 = open_utf8 cells_opening draft.rows (cells_values cells) holds.rows;
  kept = record { each = holds.each; map = map };
}

-- what comes before the rows
opening_text : print cells_opening
    ≡ 123 ∷ 34 ∷ 99 ∷ 101 ∷ 108 ∷ 108 ∷ 115 ∷ 34 ∷ 58 ∷ 91 ∷ []
unfolding print_from escape_byte
opening_text = refl

-- a text as far as some rows
opened : (draft : RowsDraft) (cells : Entries) → HoldsRows draft cells
    → draft.rows.bytes.items ≡ 123 ∷ 34 ∷ 99 ∷ 101 ∷ 108 ∷ 108 ∷ 115 ∷ 34 ∷ 58 ∷ 91 ∷
    open_items false (cells_values cells)
opened draft cells holds =
    holds.rows.text ∙ ap (λ t. t ++ open_items false (cells_values cells)) opening_text

-- there is more than what comes before the rows
pub past_opening : (draft : RowsDraft) (cells : Entries) → HoldsRows draft cells
    → 10 ≤ length draft.rows.bytes.items
past_opening draft cells holds =
    let len = ap length (opened draft cells holds) in omega (arith, len)

-- the draft with the rows of another that has none
pub none_appended : (draft others : RowsDraft) (cells more : Entries) → HoldsRows draft cells
    → HoldsRows others more → others.rows.has_rows ≡ false → HoldsRows draft (cells ++ more)
none_appended draft others cells [] holds theirs none = rw append-nil holds
none_appended draft others cells (e ∷ es) holds theirs none =
    absurd (true≢false (sym theirs.rows.has_rows ∙ none))

-- the draft with the rows of another
pub rows_appended : (new others : RowsDraft) (cells more : Entries) (rest : List ℕ)
    → All IsKeptCell cells → HoldsRows others more → others.rows.has_rows ≡ true
    → rest ≡ drop 10 others.rows.bytes.items
    → ((d : Data) (ds : List Data) → IsUtf8 rest → rest ≡ open_items false (d ∷ ds)
    → HoldsOpen cells_opening new.rows (cells_values cells ++ d ∷ ds))
    → HoldsRows new (cells ++ more)
rows_appended new others cells [] rest each theirs some cut added =
    absurd (true≢false (sym some ∙ theirs.rows.has_rows))
rows_appended new others cells (e ∷ es) rest each theirs some cut added =
    let is : rest ≡ open_items false (cells_values (e ∷ es)) =
    cut ∙ ap (drop 10) (opened others (e ∷ es) theirs) in record {
      rows =
          rw (map-append entry_value cells (e ∷ es))
          (added (entry_value e) (cells_values es) (subst IsUtf8 (sym is) theirs.rows.utf8) is);
      each = All-append IsKeptCell cells (e ∷ es) each theirs.each;
    }
