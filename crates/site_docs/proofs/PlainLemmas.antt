-- Texts that are put together from what is written.
--
-- The reader of a written document takes its text from the front: a bracket, a string, a number, a
-- comma. Each lemma says of one such piece that, with what was taken before it, it is the text that
-- is written for one item, label, row or member more. Together they give that the whole text is
-- that of the cells that were read, in the form that Silkwaram writes.
use Rattle.std.proofs.Common.{◌≡◌, ◌∙◌, ◌++◌, ℕ, List, [], ◌∷◌, Bool, true, false, codes, decimal}
use Rattle.std.proofs.Common.{map, refl, ap, sym, subst, append_assoc, append-nil, inl, inr, length}
use Rattle.std.proofs.Common.{take}
use Rattle.std.proofs.Math.Seq.{take-append_seam}
use Rattle.std.proofs.lemmas.List.{map-append}
use Rattle.std.proofs.lemmas.List.Elements.{All-nil}
use Rattle.std.specs.Prelude.{IfSome, IsUtf8, None, Option, Some, get_or}
use Rattle.std.specs.declared.cmp.Ordering.TheVariants.{Less}
use Rattle.json.specs.Print.{escape, quoted}
use Rattle.serde_json.specs.Data.{Data, array, string}
use Rattle.serde_json.specs.View.{items_of}
use Rattle.serde_json.specs.Written.{comma_if, compact_text, items_text}
use Rattle.cell_core.specs.SiteName.{IsSiteName}
use Rattle.cell_core.specs.Entry.{EntryKey, key_cmp}
use Rattle.cell_core.specs.inner.Entry.{key_cmp_total}
use Rattle.catalogue.specs.Entries.{Entries, Entry, IsAboveAll}
use Rattle.catalogue.proofs.CatalogueAboveLemmas.{IsMap-behind}
use Rattle.row_docs.specs.Entries.{cells_values, entry_value}
use Rattle.row_docs.specs.Kinds.{kind_text, subject_of}
use Rattle.site_docs.specs.Plain.{IsEnd, IsPlainText, IsTextOf, cells_document, is_later}
use Rattle.site_docs.specs.Plain.{last_members, open_items}
use Rattle.site_docs.specs.inner.Plain.{rows_text}
use Rattle.site_docs.specs.inner.PlainRows.{IsLastOf, row_before, row_until}
use Rattle.row_docs.specs.EntriesValid.{AreKeptCells, IsKeptCell}
use Rattle.row_docs.specs.EntriesValues.{Row, cell_value, label_value, stamp_value}
use Rattle.row_docs.specs.declared.kind.Kind.{Kind}
use Rattle.site_docs.proofs.DocumentsLemmas.{kept_more}
use Rattle.row_docs.proofs.PlainTextsLemmas.{quotes_taken}

-- ---- arrays

-- an array is its open items and its bracket
pub items_closed : (later : Bool) (ds : List Data)
    → items_text later (items_of ds) ≡ open_items later ds ++ 93 ∷ []
items_closed later [] = refl
items_closed later (d ∷ ds) =
    ap (λ r. comma_if later ++ (compact_text d ++ r)) (items_closed true ds)
    ∙ sym (append_assoc (comma_if later) (compact_text d ++ open_items true ds) (93 ∷ [])
    ∙ ap (λ r. comma_if later ++ r)
    (append_assoc (compact_text d) (open_items true ds) (93 ∷ [])))

-- what is made of each of a list changes nothing on whether there are some
pub is_later-map : {X Y : Type 0} (f : X → Y) (xs : List X) → is_later (map f xs) ≡ is_later xs
is_later-map f [] = refl
is_later-map f (x ∷ xs) = refl

-- with one item more there are some
pub is_later-push : {X : Type 0} (xs : List X) (x : X) → is_later (xs ++ x ∷ []) ≡ true
is_later-push [] x = refl
is_later-push (y ∷ xs) x = refl

-- items after others
pub open_later : (ds es : List Data)
    → open_items true (ds ++ es) ≡ open_items true ds ++ open_items true es
open_later [] es = refl
open_later (d ∷ ds) es = ap (λ r. 44 ∷ (compact_text d ++ r)) (open_later ds es)
    ∙ ap (λ r. 44 ∷ r) (sym
    (append_assoc (compact_text d) (open_items true ds) (open_items true es)))

-- one item more, and those after it
pub open_more : (ds : List Data) (d : Data) (es : List Data)
    → open_items false (ds ++ d ∷ es) ≡ open_items false ds ++
    (comma_if (is_later ds) ++ open_items false (d ∷ es))
open_more [] d es = refl
open_more (x ∷ ds) d es = ap (λ r. compact_text x ++ r) (open_later ds (d ∷ es))
    ∙ sym (append_assoc (compact_text x) (open_items true ds) (open_items true (d ∷ es)))

-- the text of one item more, and what comes after it
pub item_taken : (ds : List Data) (d : Data) (text rest after : List ℕ)
    → text ≡ 91 ∷ (open_items false ds ++ rest)
    → rest ≡ comma_if (is_later ds) ++ (compact_text d ++ after)
    → text ≡ 91 ∷ (open_items false (ds ++ d ∷ []) ++ after)
item_taken ds d text rest after so_far next =
    so_far
    ∙ ap (λ r. 91 ∷ r)
    (ap (λ r. open_items false ds ++ r)
    (next ∙ sym (append_assoc (comma_if (is_later ds)) (compact_text d) after))
    ∙ sym (append_assoc (open_items false ds) (comma_if (is_later ds) ++ compact_text d) after)
    ∙ ap (λ t. t ++ after)
    (ap (λ t. open_items false ds ++ (comma_if (is_later ds) ++ t))
    (sym (append-nil (compact_text d)))
    ∙ sym (open_more ds d [])))

-- all items, and the bracket
pub array_taken : (ds : List Data) (text rest after : List ℕ)
    → text ≡ 91 ∷ (open_items false ds ++ rest) → rest ≡ 93 ∷ after
    → text ≡ compact_text (array (items_of ds)) ++ after
array_taken ds text rest after so_far last =
    so_far
    ∙ ap (λ r. 91 ∷ r) (ap (λ r. open_items false ds ++ r) last
    ∙ sym (append_assoc (open_items false ds) (93 ∷ []) after)
    ∙ ap (λ t. t ++ after) (sym (items_closed false ds)))

-- ---- labels

-- a text after others
pub text_taken : (ts : List (List ℕ)) (t : List ℕ) (text rest after : List ℕ) → is_later ts ≡ true
    → text ≡ 91 ∷ (open_items false (map string ts) ++ rest) → rest ≡ 44 ∷ (quoted t ++ after)
    → text ≡ 91 ∷ (open_items false (map string (ts ++ t ∷ [])) ++ after)
text_taken ts t text rest after later so_far next =
    rw (map-append string ts (t ∷ []))
    (item_taken (map string ts) (string t) text rest after so_far
    (rw (is_later-map string ts, later) next))

-- some texts come first where one was pushed
pub texts_later : (old new : List (List ℕ)) (t : List ℕ) → new ≡ old ++ t ∷ [] → is_later new ≡ true
texts_later old new t is = ap is_later is ∙ is_later-push old t

-- ---- rows

-- an id without escapes, with the quotes about it
pub plain_id_taken : (id text r1 after : List ℕ) → text ≡ 91 ∷ 34 ∷ r1
    → r1 ≡ escape id ++ 34 ∷ 44 ∷ 34 ∷ after
    → text ≡ 91 ∷ (quoted id ++ 44 ∷ 34 ∷ after)
plain_id_taken id text r1 after p1 p2 =
    p1 ∙ ap (λ r. 91 ∷ r) (ap (λ r. 34 ∷ r) p2 ∙ quotes_taken id (44 ∷ 34 ∷ after))

-- what a row has before its label, one after another
pub front_taken : (end : ℕ) (row : Row) (text r2 r3 r4 r5 after : List ℕ)
    → text ≡ 91 ∷ (quoted row.id ++ 44 ∷ 34 ∷ r2) → r2 ≡ escape row.language ++ 34 ∷ 44 ∷ r3
    → r3 ≡ decimal row.time ++ 44 ∷ 34 ∷ r4 → r4 ≡ escape row.site ++ 34 ∷ 44 ∷ r5
    → r5 ≡ decimal row.count ++ end ∷ after
    → text ≡ row_until end row after
front_taken end row text r2 r3 r4 r5 after p2 p3 p4 p5 p6 =
    p2 ∙ ap (λ r. 91 ∷ (quoted row.id ++ 44 ∷ r))
    (ap (λ r. 34 ∷ r) p3 ∙ quotes_taken row.language (44 ∷ r3)
    ∙ ap (λ r. quoted row.language ++ 44 ∷ r)
    (p4 ∙ ap (λ r. decimal row.time ++ 44 ∷ r)
    (ap (λ r. 34 ∷ r) p5 ∙ quotes_taken row.site (44 ∷ r5)
    ∙ ap (λ r. quoted row.site ++ 44 ∷ r) p6)))

-- a row is what it has before its label, its label and its bracket
pub row_taken : (row : Row) (label : Option (List (List ℕ))) (text rest after : List ℕ)
    → text ≡ row_before row rest → rest ≡ compact_text (label_value label) ++ 93 ∷ after
    → text ≡ compact_text (cell_value row label) ++ after
row_taken row label text rest after front labelled =
    front ∙ ap (row_before row) labelled ∙ simp append_assoc

-- a row as far as its count
abbrev pub row_front : Row → List ℕ
row_front row =
    91 ∷ (quoted row.id ++ 44 ∷
    (quoted row.language ++ 44 ∷ (decimal row.time ++ 44 ∷ (quoted row.site ++ 44 ∷
    decimal row.count))))

-- a byte that follows it, and the rest
pub front_apart : (end : ℕ) (row : Row) (rest : List ℕ)
    → row_until end row rest ≡ row_front row ++ end ∷ rest
front_apart end row rest =
    apart (quoted row.id) (quoted row.language) (decimal row.time) (quoted row.site)
    (decimal row.count)
  where
    apart : (id language time site count : List ℕ)
        → 91 ∷ (id ++ 44 ∷ (language ++ 44 ∷ (time ++ 44 ∷ (site ++ 44 ∷ (count ++ end ∷ rest)))))
        ≡ 91 ∷ (id ++ 44 ∷ (language ++ 44 ∷ (time ++ 44 ∷ (site ++ 44 ∷ count)))) ++ end ∷ rest
    apart id language time site count = simp append_assoc

-- the text of a row begins with what comes before the comma of its label
pub row_begins : (row : Row) (label : Option (List (List ℕ)))
    → take (length (row_front row)) (compact_text (cell_value row label)) ≡ row_front row
row_begins row label =
    let rest = compact_text (label_value label) ++ 93 ∷ [] in
    let text = row_taken row label (row_before row rest) rest [] refl refl
    ∙ append-nil (compact_text (cell_value row label)) in
    ap (take (length (row_front row))) (sym text ∙ front_apart 44 row rest)
    ∙ take-append_seam (row_front row) (44 ∷ rest)

-- with a bracket it is a row of a summary
pub front_closed : (row : Row) (front : List ℕ) → front ≡ row_front row
    → front ++ 93 ∷ [] ≡ compact_text (stamp_value row)
front_closed row front is = ap (λ t. t ++ 93 ∷ []) is ∙ sym (front_apart 93 row [])

-- ---- keys

-- the key of one entry more is the last
pub last_taken : {J : Type 0} (cells : List (EntryKey × J)) (e : EntryKey × J)
    → IsAboveAll e.0 cells → IsLastOf (Some e.0) (cells ++ e ∷ [])
last_taken {J} cells e above = λ key behind.
    let before : IsAboveAll key cells = λ i d within.
    key_cmp_total.trans (get_or cells i d).0 e.0 key (above i d within) behind in
    kept_more (λ (x : EntryKey × J). key_cmp x.0 key ≡ Less) cells e before behind

-- ---- cells

-- one cell more
pub cell_taken : (old new : Entries) (e : Entry) (text rest after : List ℕ)
    → text ≡ 91 ∷ (open_items false (cells_values old) ++ rest)
    → rest ≡ comma_if (is_later old) ++ (compact_text (entry_value e) ++ after)
    → new ≡ old ++ e ∷ [] → text ≡ 91 ∷ (open_items false (cells_values new) ++ after)
cell_taken old new e text rest after so_far next pushed =
    let later : is_later old ≡ is_later (cells_values old) = sym (is_later-map entry_value old) in
    rw (pushed, map-append entry_value old (e ∷ []))
    (item_taken (cells_values old) (entry_value e) text rest after so_far
    (next ∙ ap (λ b. comma_if b ++ (compact_text (entry_value e) ++ after)) later))

-- no cells are as every catalogue keeps them
pub none_kept : AreKeptCells []
none_kept = record { each = All-nil IsKeptCell; map = tt }

-- the cells are as every catalogue keeps them, with one cell more
pub cells_kept : (old new : Entries) (e : Entry) → AreKeptCells old → IsKeptCell e
    → IsAboveAll e.0 old → new ≡ old ++ e ∷ [] → AreKeptCells new
cells_kept old new e kept one above pushed =
    subst AreKeptCells (sym pushed)
    (record {
      each = kept_more IsKeptCell old e kept.each one;
      map = IsMap-behind old e.0 e.1 kept.map
          above;
    })

-- ---- documents

-- the members after the rows, one after another
pub members_taken : (kind subject name text r1 r2 r3 r4 r5 end : List ℕ)
    → text ≡ 44 ∷ (quoted (codes "kind") ++ 58 ∷ r1) → r1 ≡ quoted kind ++ r2
    → r2 ≡ 44 ∷ (quoted subject ++ 58 ∷ r3) → r3 ≡ quoted name ++ r4
    → r4 ≡ 44 ∷ (quoted (codes "version") ++ 58 ∷ r5) → r5 ≡ decimal 2 ++ end
    → text ≡ last_members kind subject name end
members_taken kind subject name text r1 r2 r3 r4 r5 end p1 p2 p3 p4 p5 p6 =
    p1 ∙ ap (λ r. 44 ∷ (quoted (codes "kind") ++ 58 ∷ r))
    (p2 ∙ ap (λ r. quoted kind ++ r)
    (p3 ∙ ap (λ r. 44 ∷ (quoted subject ++ 58 ∷ r))
    (p4 ∙ ap (λ r. quoted name ++ r)
    (p5 ∙ ap (λ r. 44 ∷ (quoted (codes "version") ++ 58 ∷ r)) p6))))

closed : (cells rows kind_name kind subject name version two after : List ℕ)
    → 123 ∷ (cells ++ 58 ∷
    (rows ++ 44 ∷
    (kind_name ++ 58 ∷
    (kind ++ 44 ∷ (subject ++ 58 ∷ (name ++ 44 ∷ (version ++ 58 ∷ (two ++ 125 ∷ after))))))))
    ≡ 123 ∷ ((cells ++ 58 ∷
    (rows ++ 44 ∷
    (kind_name ++ 58 ∷
    (kind ++ 44 ∷ (subject ++ 58 ∷ (name ++ 44 ∷ (version ++ 58 ∷ (two ++ 125 ∷ [])))))))) ++
    after)
closed cells rows kind_name kind subject name version two after = simp append_assoc

-- a document is its rows and the members about them, and what comes after its brace
pub whole : (kind : Kind) (text rest left name after : List ℕ) (cells : Entries)
    → text ≡ 123 ∷ (quoted (codes "cells") ++ 58 ∷ rest) → rest ≡ rows_text cells ++ left
    → left ≡ last_members (kind_text kind) (subject_of kind) name (125 ∷ after)
    → text ≡ compact_text (cells_document kind name (cells_values cells)) ++ after
whole kind text rest left name after cells first rows last =
    first
    ∙ ap (λ r. 123 ∷ (quoted (codes "cells") ++ 58 ∷ r))
    (rows ∙ ap (λ r. rows_text cells ++ r) last)
    ∙ closed (quoted (codes "cells")) (rows_text cells) (quoted (codes "kind"))
    (quoted (kind_text kind)) (quoted (subject_of kind)) (quoted name)
    (quoted (codes "version")) (decimal 2) after

-- a document ends in its line feed, or without it
pub document_taken : (kind : Kind) (text rest left name end : List ℕ) (cells : Entries)
    → text ≡ 123 ∷ (quoted (codes "cells") ++ 58 ∷ rest) → rest ≡ rows_text cells ++ left
    → IsEnd end → left ≡ last_members (kind_text kind) (subject_of kind) name end
    → IsTextOf (cells_document kind name (cells_values cells)) text
document_taken kind text rest left name end cells first rows (inl fed) last =
    inl (whole kind text rest left name (10 ∷ []) cells first rows
    (last ∙ ap (last_members (kind_text kind) (subject_of kind) name) fed))
document_taken kind text rest left name end cells first rows (inr cut) last =
    let is = whole kind text rest left name [] cells first rows
    (last ∙ ap (last_members (kind_text kind) (subject_of kind) name) cut) in
    inr (ap (λ t. t ++ 10 ∷ [])
    (is ∙ append-nil (compact_text (cells_document kind name (cells_values cells)))))

-- the name of a document, its cells and what holds of them
pub plain_taken : (kind : Kind) (bytes text rest left : List ℕ) (cells : Entries)
    (Taken : Entries → Type 0) (name : Option (List ℕ)) → (text ≡ bytes) × IsUtf8 bytes
    → text ≡ 123 ∷ (quoted (codes "cells") ++ 58 ∷ rest) → rest ≡ rows_text cells ++ left
    → AreKeptCells cells → Taken cells
    → IfSome name (λ n. (end : List ℕ) × IsEnd end
    × (left ≡ last_members (kind_text kind) (subject_of kind) n end))
    → IfSome name (λ n. IsSiteName n)
    → IfSome name (λ n. (all : Entries) × IsPlainText kind bytes n all × Taken all)
plain_taken kind bytes text rest left cells Taken None is first rows kept taken last named = tt
plain_taken kind bytes text rest left cells Taken (Some n) is first rows kept taken last named = (
  cells,
  record {
    text = subst (IsTextOf (cells_document kind n (cells_values cells))) is.0
        (document_taken kind text rest left n last.0 cells first rows last.1 last.2);
    utf8 = is.1;
    is_name = named;
    kept = kept;
  },
  taken,
)
