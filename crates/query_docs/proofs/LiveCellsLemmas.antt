-- The live labels of a message that is seen.
use Rattle.std.proofs.Common.{◌≡◌, ◌∙◌, [], ◌∷◌, ℕ, Bool, List, ap, cond, false, refl, sym, true}
use Rattle.std.proofs.Common.{◌+◌, ◌++◌, ◌<◌, add-one, get_or, length, take, true≢false}
use Rattle.std.specs.Prelude.{◌&&◌, None, Option, Some, filter, is_some, map, option_map}
use Rattle.std.proofs.Math.Seq.{take-suc}
use Rattle.std.proofs.lemmas.List.{map-append}
use Rattle.std.proofs.lemmas.List.Elements.{filter_map-append}
use Rattle.std.specs.List.{cons_option}
use Rattle.std.specs.FinMap.Entries.{find}
use Rattle.std.specs.Ordering.{is_eq}
use Rattle.cell_core.specs.KeyedFound.{with_key}
use Rattle.cell_core.specs.Entry.{text_cmp}
use Rattle.catalogue.specs.Entries.{Entry}
use Rattle.catalogue.specs.Live.{Labelled, is_live, languages, live, live_of}
use Rattle.catalogue.specs.declared.reply.Reply.{Reply}
use Rattle.catalogue.proofs.CatalogueNestedLemmas.{text_exact}
use Rattle.site_docs.specs.Sink.{texts_of}
use Rattle.query_docs.specs.inner.ByMessage.{cell_of, cells_of}
use Rattle.query_docs.specs.inner.Draft.{labelled_by}
use Rattle.query_docs.specs.inner.LiveCells.{label_of, labels_of}
use Rattle.query_docs.specs.LiveCellsLookup.{answered}
use Rattle.query_docs.specs.inner.LiveCellsLookup.{answered_of}
use Rattle.query_docs.specs.declared.by_message.MessageCell.{MessageCell}
use Rattle.lang_core.proofs.Basics.{and_true, each_true as both}
use Rattle.cell_core.proofs.Basics.{tied_order as tied}
use Rattle.query_docs.proofs.ChosenLemmas.{same_text}

-- They are those of the message in its cells.
pub own_live : (id : List ℕ) (cells : List MessageCell)
    → live (cells_of id cells) id ≡ labels_of cells
own_live id [] = refl
own_live id (c ∷ cs) =
    let p : Entry → Bool = λ e. is_eq (text_cmp id e.0.0) in
    let rest = filter p (cells_of id cs) in
    ap (λ b. live_of (map (λ (e : Entry). (e.0.1, e.1)) (cond b (cell_of id c ∷ rest) rest)))
    (ap is_eq (same_text id))
    ∙ ap (λ (ls : Labelled). cons_option (label_of c) ls) (own_live id cs)

-- A cell that has no label adds none.
pub labels_past : (c : MessageCell) (cs : List MessageCell) → is_some (texts_of c.label) ≡ false
    → labels_of (c ∷ cs) ≡ labels_of cs
labels_past c cs none = elim (texts_of c.label) as (λ o. is_some o ≡ false
    → cons_option (option_map (λ label. (c.lang, label)) o) (labels_of cs) ≡ labels_of cs) [
      | None ↦ λ is. refl
      | Some label ↦ λ is. absurd (true≢false is)
    ] none

-- A cell that has a label adds it.
pub labels_with : (c : MessageCell) (cs : List MessageCell) → is_some (texts_of c.label) ≡ true
    → (label : List (List ℕ)) × (texts_of c.label ≡ Some label)
    × (labels_of (c ∷ cs) ≡ (c.lang, label) ∷ labels_of cs)
labels_with c cs some = elim (texts_of c.label) as (λ o. is_some o ≡ true
    → (label : List (List ℕ)) × (o ≡ Some label)
    × (cons_option (option_map (λ l. (c.lang, l)) o) (labels_of cs) ≡ (c.lang, label)
    ∷ labels_of cs)) [
      | None ↦ λ is. absurd (true≢false (sym is))
      | Some label ↦ λ is. (label, refl, refl)
    ] some

-- The label of the first cell of the language that has one is that of the language.
pub found_here : (text : List ℕ) (c : MessageCell) (cs : List MessageCell)
    → (is_eq (text_cmp text c.lang) && is_some (texts_of c.label)) ≡ true
    → (label : List (List ℕ)) × (find text_cmp text (labels_of (c ∷ cs)) ≡ Some label)
    × (label_of c ≡ Some (text, label))
found_here text c cs is =
    let eq = (both (is_eq (text_cmp text c.lang)) (is_some (texts_of c.label)) is).0 in
    let some = (both (is_eq (text_cmp text c.lang)) (is_some (texts_of c.label)) is).1 in
    let has = labels_with c cs some in
    let same : text ≡ c.lang = text_exact text c.lang (tied (text_cmp text c.lang) eq) in (
      has.0,
      ap (find text_cmp text) has.2
          ∙ ap (λ b. cond b (Some has.0) (find text_cmp text (labels_of cs))) eq,
      ap (option_map (λ label. (c.lang, label))) has.1
          ∙ ap (λ (t : List ℕ). Some (t, has.0)) (sym same),
    )

-- Another cell is passed over.
pub found_after : (text : List ℕ) (c : MessageCell) (cs : List MessageCell)
    → (is_eq (text_cmp text c.lang) && is_some (texts_of c.label)) ≡ false
    → find text_cmp text (labels_of (c ∷ cs)) ≡ find text_cmp text (labels_of cs)
found_after text c cs is = elim (texts_of c.label) as (λ o.
    (is_eq (text_cmp text c.lang) && is_some o) ≡ false
    → find text_cmp text (cons_option (option_map (λ label. (c.lang, label)) o) (labels_of cs))
    ≡ find text_cmp text (labels_of cs)) [
      | None ↦ λ no. refl
      | Some label ↦ λ ne.
          ap (λ b. cond b (Some label) (find text_cmp text (labels_of cs)))
          (sym (and_true (is_eq (text_cmp text c.lang))) ∙ ne)
    ] is

-- What is live has a label, which is found.
pub found_live_label : (labels : Labelled) (text : List ℕ)
    (found : Option (List ℕ × List (List ℕ))) → found ≡ with_key text (find text_cmp text labels)
    → is_live labels text ≡ true
    → (label : List (List ℕ)) × (find text_cmp text labels ≡ Some label)
    × (found ≡ Some (text, label))
found_live_label labels text found is live = elim (find text_cmp text labels) as (λ o.
    found ≡ with_key text o → is_some o ≡ true
    → (label : List (List ℕ)) × (o ≡ Some label) × (found ≡ Some (text, label))) [
      | None ↦ λ e no. absurd (true≢false (sym no))
      | Some label ↦ λ e yes. (label, refl, e)
    ] is live

-- ---- the languages one after another

-- The languages of a cell that has a label.
pub language_with : (c : MessageCell) → is_some (texts_of c.label) ≡ true
    → languages (labels_of (c ∷ [])) ≡ c.lang ∷ []
language_with c some = ap languages (labels_with c [] some).2

-- The languages up to a place, and that of the cell at the place, are those up to the next.
pub languages_to : (cells : List MessageCell) (k : ℕ) (c : MessageCell) → k < length cells
    → c ≡ get_or cells k c
    → languages (labels_of (take (k + 1) cells))
    ≡ languages (labels_of (take k cells)) ++ languages (labels_of (c ∷ []))
languages_to cells k c within is =
    rw (add-one, take-suc cells k c within)
    (ap languages (filter_map-append label_of (take k cells) (get_or cells k c ∷ []))
    ∙ map-append (λ (e : List ℕ × List (List ℕ)). e.0) (labels_of (take k cells))
    (labels_of (get_or cells k c ∷ []))
    ∙ ap (λ (x : MessageCell). languages (labels_of (take k cells)) ++ languages (labels_of
    (x ∷ []))) (sym is))

-- ---- what is written

-- The label of the cell is that which is answered.
pub labelled_answer : (id : List ℕ) (cell : MessageCell) (reply : Reply)
    → label_of cell ≡ answered reply
    → labelled_by (id, cell.lang) (texts_of cell.label) ≡ answered_of id (answered reply)
labelled_answer id cell reply is = own (texts_of cell.label) ∙ ap (answered_of id) is
  where
    own : (o : Option (List (List ℕ))) → labelled_by (id, cell.lang) o
        ≡ answered_of id (option_map (λ label. (cell.lang, label)) o)
    own None = refl
    own (Some label) = refl
