-- Rows of a document that are shown to a sink.
use Rattle.std.proofs.Common.{◌≡◌, ◌∙◌, ◌-◌, ◌++◌, [], ◌∷◌, List, None, Some, arith, length}
use Rattle.std.proofs.Common.{length-append, refl, sym}
use Rattle.std.specs.Prelude.{◌↔◌, IfSome, Option, option_map, slice_get}
use Rattle.serde_json.specs.Data.{Data}
use Rattle.cell_core.specs.Keyed.{IsMap}
use Rattle.cell_core.specs.Entry.{EntryKey, key_cmp}
use Rattle.catalogue.specs.Entries.{Entries, Entry, IsAboveAll}
use Rattle.row_docs.specs.Fields.{IsAfter}
use Rattle.row_docs.specs.Ascending.{entry_in}
use Rattle.row_docs.specs.declared.version.Version.{Version}
use Rattle.row_docs.proofs.AscendingLemmas.{MakesEntries-push, after_last}
use Rattle.site_docs.specs.inner.ShownRows.{HoldsShown, key_of}
use Rattle.site_docs.specs.declared.document.shown_rows.ShownRows.{ShownRows}

at_end : (es : Entries) (e : Entry) → slice_get (es ++ e ∷ []) (length es) ≡ Some e
at_end [] e = refl
at_end (d ∷ es) e = at_end es e

-- the last key is that of the cell that came last
last_pushed : (es : Entries) (e : Entry)
    → option_map (λ (x : Entry). x.0) (slice_get (es ++ e ∷ []) (length (es ++ e ∷ []) - 1))
    ≡ Some e.0
last_pushed es e =
    let k : length (es ++ e ∷ []) - 1 ≡ length es = simp length-append (omega arith) in
    rw (k, at_end es e) refl

-- A key is after the last one where it is above all.
pub above_shown : (last : Option EntryKey) (cells : Entries) (key : EntryKey)
    → IsMap key_cmp cells
    → last ≡ option_map (λ (e : Entry). e.0) (slice_get cells (length cells - 1))
    → IsAfter last key ↔ IsAboveAll key cells
above_shown last cells key map is =
    rw is (after_last cells key (slice_get cells (length cells - 1)) map refl)

-- The rows with one more, which the sink has seen.
pub shown_more : {S : Type 0} (Holds : S → S → Entries → Type 0) (start : S) (version : Version)
    (old new : ShownRows S) (rows : List Data) (d : Data) (e : Entry)
    → (holds : HoldsShown Holds start version old rows) → entry_in version d ≡ Some e
    → IsAboveAll e.0 holds.cells → option_map key_of new.last ≡ Some e.0
    → IfSome new.sink (λ sink. Holds start sink (holds.cells ++ e ∷ []))
    → HoldsShown Holds start version new (rows ++ d ∷ [])
shown_more Holds start version old new rows d e holds makes above last seen = record {
  cells = holds.cells ++ e ∷ [];
  makes =
      MakesEntries-push (entry_in version) rows holds.cells (holds.cells ++ e ∷ []) d e holds.makes
      makes above refl;
  last = last ∙ sym (last_pushed holds.cells e);
  seen = seen;
}

-- What holds of some where another does.
pub some_weaker : {X : Type 0} (o : Option X) (P Q : X → Type 0) → ((x : X) → P x → Q x)
    → IfSome o P → IfSome o Q
some_weaker None P Q weaker p = tt
some_weaker (Some x) P Q weaker p = weaker x p
