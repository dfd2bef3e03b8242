-- Where the rows of a message lie among all rows of a document.
--
-- The search bisects the text. From any place it finds the next `]` with a comma after it, which is
-- the border of a row (RowBorderLemmas), and compares the id of the row there. A row of a lesser id
-- has no row of the message before it, as the keys of a site ascend; a row of a greater id has none
-- after it. So the places between which the search ends have all rows of the message between them.
use Rattle.std.proofs.Common.{◌≡◌, ◌∙◌, ◌+◌, ◌≤◌, ◌++◌, ◌∷◌, [], ℕ, List, Bool, true}
use Rattle.std.proofs.Common.{false, cond, ◌==◌, ◌⊎◌, inl, inr, ⊎_elim, refl, ap, sym, subst}
use Rattle.std.proofs.Common.{arith, append_assoc, codes, decimal, drop, take, take-append-drop}
use Rattle.std.proofs.Common.{append-nil, ap₂, drop_at, length, length-drop, drop-drop}
use Rattle.std.proofs.Common.{true≢false}
use Rattle.std.specs.List.{All}
use Rattle.std.specs.Ordering.{is_gt, is_lt, ordering_reverse, ordering_then}
use Rattle.std.specs.declared.cmp.Ordering.{Ordering}
use Rattle.std.specs.declared.cmp.Ordering.TheVariants.{Equal, Greater, Less}
use Rattle.std.specs.Cmp.Lexicographic.{nat_list_cmp_total}
use Rattle.std.specs.FinMap.Entries.{below_all, is_sorted}
use Rattle.std.proofs.lemmas.List.{map-append}
use Rattle.std.proofs.lemmas.List.Elements.{All-cons, All-head, All-nil, All-tail, All-weaker}
use Rattle.std.proofs.lemmas.Map.Lookups.{exact_bytes}
use Rattle.json.specs.Print.{escape_byte, quoted}
use Rattle.cell_core.specs.Keyed.{IsMap}
use Rattle.cell_core.specs.Entry.{EntryKey, key_cmp, text_cmp}
use Rattle.catalogue.specs.Entries.{Entries, Entry}
use Rattle.catalogue.proofs.CatalogueAboveLemmas.{front_below}
use Rattle.site_docs.specs.Plain.{IsEnd, last_members}
use Rattle.text_docs.specs.inner.Part.{BeginsAt, HasAllFrom, HasAllUpTo, EndsAt}
use Rattle.text_docs.specs.Row.{ReadsAsRow, is_unclosed_from}
use Rattle.text_docs.specs.inner.Row.{is_simple}
use Rattle.text_docs.specs.RowStrings.{IsString}
use Rattle.text_docs.specs.Rows.{IsTail, opening}
use Rattle.text_docs.specs.inner.Rows.{AreRows, AreRowsAt}
use Rattle.text_docs.specs.RowsCompact.{CompactRow, IsCompactRow, entries, in_quotes, rows_text}
use Rattle.lang_core.proofs.Basics.{less_of as less_is}
use Rattle.cell_core.proofs.Basics.{first_part, is_greater as greater_is}
use Rattle.cell_core.proofs.ChunkLemmas.{map_back}
use Rattle.docs_core.proofs.JoinedRowsLemmas.{all_after}
use Rattle.text_docs.proofs.RowBorderLemmas.{IsBorder, IsCut, byte_44, byte_58, closed_row, comma}
use Rattle.text_docs.proofs.RowBorderLemmas.{cut_rows, fit_rows, found_outside, kind_unfit}
use Rattle.text_docs.proofs.RowBorderLemmas.{row_before, row_unfit}
use Rattle.text_docs.proofs.RowBorderLemmas.{rows_step, skip}
use Rattle.text_docs.proofs.ListLemmas.{All-back, head_or, tail_of}
use Rattle.text_docs.proofs.RowStates.{Fit, Piece, append, closed, decimal_piece, each, fit-append}
use Rattle.text_docs.proofs.RowStates.{fits}
use Rattle.text_docs.proofs.RowStates.{inside, outside, quoted_piece}
use Rattle.text_docs.proofs.RowStringsLemmas.{string_unclosed}

-- ---- the text as a whole

opening_piece : Piece outside outside opening
opening_piece =
    append outside outside outside (123 ∷ []) (quoted (codes "cells") ++ 58 ∷ 91 ∷ [])
    (record { fit = refl; free = refl; end = refl })
    (append outside closed outside (quoted (codes "cells")) (58 ∷ 91 ∷ [])
    (quoted_piece (codes "cells")) (record { fit = refl; free = refl; end = refl }))

end_piece : (end : List ℕ) → IsEnd end → Piece outside outside end
end_piece end (inl fed) =
    subst (λ (bs : List ℕ). Piece outside outside bs) (sym fed)
    (record { fit = refl; free = refl; end = refl })
end_piece end (inr cut) =
    subst (λ (bs : List ℕ). Piece outside outside bs) (sym cut)
    (record { fit = refl; free = refl; end = refl })

-- the members after the rows are one piece
members_piece : (name end : List ℕ) → IsEnd end
    → Piece outside outside (last_members (codes "site") (codes "site") name end)
members_piece name end is =
    let number = decimal 2 ++ end in
    let version = quoted (codes "version") ++ 58 ∷ number in
    let named = quoted name ++ 44 ∷ version in
    let subject = quoted (codes "site") ++ 58 ∷ named in
    let kind = quoted (codes "site") ++ 44 ∷ subject in
    append outside outside outside (44 ∷ []) (quoted (codes "kind") ++ 58 ∷ kind) comma
    (append outside closed outside (quoted (codes "kind")) (58 ∷ kind)
    (quoted_piece (codes "kind"))
    (append closed outside outside (58 ∷ []) kind byte_58
    (append outside closed outside (quoted (codes "site")) (44 ∷ subject)
    (quoted_piece (codes "site"))
    (append closed outside outside (44 ∷ []) subject byte_44
    (append outside closed outside (quoted (codes "site")) (58 ∷ named)
    (quoted_piece (codes "site"))
    (append closed outside outside (58 ∷ []) named byte_58
    (append outside closed outside (quoted name) (44 ∷ version) (quoted_piece name)
    (append closed outside outside (44 ∷ []) version byte_44
    (append outside closed outside (quoted (codes "version")) (58 ∷ number)
    (quoted_piece (codes "version"))
    (append closed outside outside (58 ∷ []) number byte_58
    (append outside outside outside (decimal 2) end (decimal_piece 2 (omega arith))
    (end_piece end is))))))))))))

fit_tail : (tail : List ℕ) → IsTail tail → Fit outside tail
fit_tail tail is =
    subst (λ (bs : List ℕ). each fits outside bs ≡ true) (sym is.tail_is)
    (members_piece is.name is.end is.is_end).fit

nothing_left : (bs left : List ℕ) → Piece outside outside bs → IsCut outside bs left → ⊥
nothing_left bs left piece cut =
    skip outside outside bs [] left piece
    (subst (λ (xs : List ℕ). IsCut outside xs left) (sym (append-nil bs)) cut)

-- in what comes after the rows the first bracket alone is outside of strings
cut_tail : (tail left : List ℕ) → IsTail tail → IsCut outside tail left → 93 ∷ left ≡ tail
cut_tail tail left is cut =
    by (subst (λ (bs : List ℕ). IsCut outside bs left) is.tail_is cut)
  where
    members : List ℕ
    members = last_members (codes "site") (codes "site") is.name is.end

    by : IsCut outside (93 ∷ members) left → 93 ∷ left ≡ tail
    by (inl here) = ap (λ bs. 93 ∷ bs) (sym here.1) ∙ sym is.tail_is
    by (inr later) =
        absurd (nothing_left members left (members_piece is.name is.end is.is_end) later)

-- ---- places

-- where a bracket with a comma after it fits no string, rows end
pub border_at : (text : List ℕ) (rows : List CompactRow) (tail : List ℕ) (place : ℕ)
    (left more : List ℕ) → AreRows text rows tail → drop place text ≡ 93 ∷ left
    → left ≡ 44 ∷ more → (Fit inside (93 ∷ left) → ⊥)
    → IsBorder rows tail left ⊎ (93 ∷ left ≡ tail)
border_at text rows tail place left more are here is unfit =
    let items = rows_text false rows ++ tail in
    let cut_text : take place text ++ 93 ∷ left ≡ opening ++ items =
    ap (λ bs. take place text ++ bs) (sym here) ∙ take-append-drop place text ∙ are.whole in
    let fit : Fit outside (opening ++ items) =
    fit-append outside outside opening items opening_piece
    (fit_rows false rows tail are.each are.kept.each (fit_tail tail are.is_tail)) in
    let cut : IsCut outside items left =
    skip outside outside opening items left opening_piece
    (subst (λ (bs : List ℕ). IsCut outside bs left) cut_text
    (found_outside outside (take place text) left unfit
    (subst (λ (bs : List ℕ). each fits outside bs ≡ true) (sym cut_text) fit))) in
    ⊎_elim (λ border. inl border) (λ past. inr (cut_tail tail left are.is_tail past))
    (cut_rows false rows tail left more are.each are.kept.each is cut)

-- the row that reads at a place, among all rows
pub record IsRowOf (text id : List ℕ) (rows : List CompactRow) (tail : List ℕ) (place : ℕ)
    : Type 0 where
  pub before : List CompactRow
  pub row : CompactRow
  pub after : List CompactRow
  pub rows_are : rows ≡ before ++ row ∷ after
  pub comma_is : drop (place + 1) text ≡ rows_text true (row ∷ after) ++ tail
  pub row_is : drop (place + 2) text ≡ rows_text false (row ∷ after) ++ tail
  pub id_is : id ≡ row.id

quote_closes : (y : ℕ) (ys : List ℕ) → is_unclosed_from false (y ∷ ys) ≡ true → y ≡ 34 → ⊥
quote_closes y ys goes is =
    true≢false (sym (subst (λ (z : ℕ). is_unclosed_from false (z ∷ ys) ≡ true) is goes))

goes_on : (x : ℕ) (xs : List ℕ) → is_unclosed_from false (x ∷ xs) ≡ true
    → is_unclosed_from (x == 92) xs ≡ true
goes_on x xs goes = by (x == 34) goes
  where
    by : (t : Bool) → cond t false (is_unclosed_from (x == 92) xs) ≡ true
        → is_unclosed_from (x == 92) xs ≡ true
    by true h = absurd (true≢false (sym h))
    by false h = h

-- strings end at their first quote after no backslash
one_string : (after : Bool) (xs ys left more : List ℕ) → is_unclosed_from after xs ≡ true
    → is_unclosed_from after ys ≡ true → xs ++ 34 ∷ left ≡ ys ++ 34 ∷ more → xs ≡ ys
one_string after [] [] left more p q is = refl
one_string true [] (y ∷ ys) left more p q is = absurd (true≢false (sym p))
one_string false [] (y ∷ ys) left more p q is =
    absurd (quote_closes y ys q (ap (head_or 0) (sym is)))
one_string true (x ∷ xs) [] left more p q is = absurd (true≢false (sym q))
one_string false (x ∷ xs) [] left more p q is =
    absurd (quote_closes x xs p (ap (head_or 0) is))
one_string true (x ∷ xs) (y ∷ ys) left more p q is =
    ap₂ (λ z zs. z ∷ zs) (ap (head_or 0) is)
    (one_string false xs ys left more p q (ap tail_of is))
one_string false (x ∷ xs) (y ∷ ys) left more p q is =
    let same : x ≡ y = ap (head_or 0) is in
    ap₂ (λ z zs. z ∷ zs) same
    (one_string (x == 92) xs ys left more (goes_on x xs p)
    (subst (λ (z : ℕ). is_unclosed_from (z == 92) ys ≡ true) (sym same) (goes_on y ys q))
    (ap tail_of is))

-- after a comma and a bracket come no members of the document
no_members : (more tail : List ℕ) → IsTail tail → 93 ∷ 44 ∷ 91 ∷ more ≡ tail → ⊥
no_members more tail is same =
    by (ap (λ bs. head_or 0 (tail_of (tail_of bs))) (same ∙ is.tail_is))
  where
    by : ◌≡◌ {A = ℕ} 91 34 → ⊥
    by e = omega (arith, e)

no_tail : (more tail : List ℕ) → IsTail tail → 44 ∷ more ≡ tail → ⊥
no_tail more tail is same = by (ap (head_or 0) (same ∙ is.tail_is))
  where
    by : ◌≡◌ {A = ℕ} 44 93 → ⊥
    by e = omega (arith, e)

-- what comes after some bytes more
pub drop_more : (n k : ℕ) (text bs : List ℕ) → drop n text ≡ bs → drop (n + k) text ≡ drop k bs
drop_more n k text bs is = sym (drop-drop k n text) ∙ ap (drop k) is

-- what reads as a row is one
pub row_of_place : (text id : List ℕ) (rows : List CompactRow) (tail : List ℕ) (place : ℕ)
    → AreRows text rows tail → ReadsAsRow (drop place text) id
    → IsRowOf text id rows tail place
row_of_place text id rows tail place are reads =
    let rest = id ++ 34 ∷ 44 ∷ 34 ∷ reads.first ∷ reads.rest in
    let left = 44 ∷ 91 ∷ 34 ∷ rest in
    let own : ReadsAsRow (93 ∷ left) id = record {
      first = reads.first;
      rest = reads.rest;
      text_is = refl;
      unclosed = reads.unclosed;
      language = reads.language;
    } in
    ⊎_elim
    (λ border. row_of_border border.before border.after border.rows_are border.left_is)
    (λ same. absurd (no_members (34 ∷ rest) tail are.is_tail same))
    (border_at text rows tail place left (91 ∷ 34 ∷ rest) are reads.text_is refl
    (row_unfit left id own))
  where
    row_of_border : (before after : List CompactRow) → rows ≡ before ++ after
        → 44 ∷ 91 ∷ 34 ∷ (id ++ 34 ∷ 44 ∷ 34 ∷ reads.first ∷ reads.rest)
        ≡ rows_text true after ++ tail
        → IsRowOf text id rows tail place
    row_of_border before [] whole is =
        absurd (no_tail (91 ∷ 34 ∷ (id ++ 34 ∷ 44 ∷ 34 ∷ reads.first ∷ reads.rest)) tail
        are.is_tail is)
    row_of_border before (row ∷ after) whole is =
        let last = closed_row row.label (rows_text true after ++ tail) in
        let rest = id ++ 34 ∷ 44 ∷ 34 ∷ reads.first ∷ reads.rest in
        let written : 44 ∷ 91 ∷ 34 ∷ rest ≡ 44 ∷ row_before row last =
        is ∙ rows_step true row after tail in
        let stamp = decimal row.entry.1.stamp.time ++ 44 ∷ (in_quotes row.site
        ++ 44 ∷ (decimal row.entry.1.stamp.count ++ 44 ∷ last)) in
        let strings : rest
        ≡ (row.id ++ 34 ∷ []) ++ 44 ∷ (in_quotes row.language ++ 44 ∷ stamp) =
        ap (λ bs. tail_of (tail_of (tail_of bs))) written in
        let one =
        All-head IsCompactRow row after
        (All-back IsCompactRow before (row ∷ after)
        (subst (λ (rs : List CompactRow). All IsCompactRow rs) whole are.each)) in record {
          before = before;
          row = row;
          after = after;
          rows_are = whole;
          comma_is = drop_more place 1 text _ reads.text_is ∙ is;
          row_is =
              drop_more place 2 text _ reads.text_is ∙ ap tail_of written
              ∙ sym (rows_step false row after tail);
          id_is = one_string false id row.id _ _ reads.unclosed
              (string_unclosed row.id row.entry.0.0 one.id)
              (strings ∙ append_assoc row.id (34 ∷ []) _);
        }

-- what begins as the member `kind` comes after all rows
pub members_at : (text : List ℕ) (rows : List CompactRow) (tail : List ℕ) (place : ℕ)
    (rest : List ℕ)
    → AreRows text rows tail → drop place text ≡ 93 ∷ 44 ∷ 34 ∷ 107 ∷ rest
    → drop place text ≡ tail
members_at text rows tail place rest are is =
    ⊎_elim (λ border. absurd (no_row border.after border.left_is)) (λ same. is ∙ same)
    (border_at text rows tail place (44 ∷ 34 ∷ 107 ∷ rest) (34 ∷ 107 ∷ rest) are is refl
    (kind_unfit (44 ∷ 34 ∷ 107 ∷ rest) rest refl))
  where
    by : ◌≡◌ {A = ℕ} 34 91 → ⊥
    by e = omega (arith, e)

    no_row : (after : List CompactRow) → 44 ∷ 34 ∷ 107 ∷ rest ≡ rows_text true after ++ tail → ⊥
    no_row [] same = no_tail (34 ∷ 107 ∷ rest) tail are.is_tail same
    no_row (row ∷ after) same =
        by (ap (λ bs. head_or 0 (tail_of bs)) (same ∙ rows_step true row after tail))

-- ---- keys

-- an id that is at most one that is less is less
less_id : (a b : EntryKey) (id : List ℕ) → key_cmp a b ≡ Less → text_cmp b.0 id ≡ Less
    → text_cmp a.0 id ≡ Less
less_id a b id below less = by (text_cmp a.0 b.0) refl below
  where
    by : (o : Ordering) → text_cmp a.0 b.0 ≡ o → ordering_then o (text_cmp a.1 b.1) ≡ Less
        → text_cmp a.0 id ≡ Less
    by Less is h = nat_list_cmp_total.trans a.0 b.0 id is less
    by Equal is h = subst (λ (t : List ℕ). text_cmp t id ≡ Less) (sym (exact_bytes a.0 b.0 is)) less
    by Greater is h = cc

-- an id that is at least one that is greater is greater
greater_id : (a b : EntryKey) (id : List ℕ) → key_cmp a b ≡ Less → text_cmp a.0 id ≡ Greater
    → text_cmp b.0 id ≡ Greater
greater_id a b id below greater =
    nat_list_cmp_total.antisymm b.0 id
    ∙ ap ordering_reverse (by (text_cmp a.0 b.0) refl below)
  where
    less : text_cmp id a.0 ≡ Less
    less = nat_list_cmp_total.antisymm id a.0 ∙ ap ordering_reverse greater

    by : (o : Ordering) → text_cmp a.0 b.0 ≡ o → ordering_then o (text_cmp a.1 b.1) ≡ Less
        → text_cmp id b.0 ≡ Less
    by Less is h = nat_list_cmp_total.trans id a.0 b.0 less is
    by Equal is h = subst (λ (t : List ℕ). text_cmp id t ≡ Less) (exact_bytes a.0 b.0 is) less
    by Greater is h = cc

-- what holds of the entries of rows holds of the rows
pub of_entries : (P : Entry → Type 0) (rows : List CompactRow) → All P (entries rows)
    → All (λ (row : CompactRow). P row.entry) rows
of_entries P [] all = All-nil (λ (row : CompactRow). P row.entry)
of_entries P (row ∷ rows) all =
    All-cons (λ (r : CompactRow). P r.entry) row rows (All-head P row.entry (entries rows) all)
    (of_entries P rows (All-tail P row.entry (entries rows) all))

-- the entries of rows around one
pub entries_around : (before : List CompactRow) (row : CompactRow) (after : List CompactRow)
    → entries (before ++ row ∷ after) ≡ entries before ++ row.entry ∷ entries after
entries_around before row after = map-append (λ (r : CompactRow). r.entry) before (row ∷ after)

map_around : (rows before : List CompactRow) (row : CompactRow) (after : List CompactRow)
    → rows ≡ before ++ row ∷ after → IsMap key_cmp (entries rows)
    → IsMap key_cmp (entries before ++ row.entry ∷ entries after)
map_around rows before row after is map =
    subst (λ (es : Entries). IsMap key_cmp es)
    (ap entries is ∙ entries_around before row after) map

-- a row of a lesser id: no row before it is of the message
pub begins_at_row : (text written id : List ℕ) (rows : List CompactRow) (tail : List ℕ) (place : ℕ)
    → AreRows text rows tail → (at : IsRowOf text written rows tail place)
    → text_cmp at.row.entry.0.0 id ≡ Less → BeginsAt id (drop (place + 2) text) rows tail
begins_at_row text written id rows tail place are at less =
    let key = at.row.entry.0 in record {
      before = at.before;
      after = at.row ∷ at.after;
      rows_are = at.rows_are;
      rest_is = at.row_is;
      others =
          of_entries (λ (e : Entry). text_cmp e.0.0 id ≡ Less) at.before
          (All-weaker (λ (e : Entry). key_cmp e.0 key ≡ Less)
          (λ (e : Entry). text_cmp e.0.0 id ≡ Less)
          (λ e below. less_id e.0 key id below less) (entries at.before)
          (front_below (entries at.before) (entries at.after) key at.row.entry.1
          (map_around rows at.before at.row at.after at.rows_are are.kept.map)));
    }

-- a row of a greater id: it and no row after it is of the message
pub ends_at_row : (text written id : List ℕ) (rows : List CompactRow) (tail : List ℕ) (place : ℕ)
    → AreRows text rows tail → (at : IsRowOf text written rows tail place)
    → text_cmp at.row.entry.0.0 id ≡ Greater → EndsAt id (drop (place + 1) text) rows tail
ends_at_row text written id rows tail place are at greater =
    let key = at.row.entry.0 in
    let others = entries at.after in
    let map =
    map_back key_cmp (entries at.before) (at.row.entry ∷ others)
    (map_around rows at.before at.row at.after at.rows_are are.kept.map) in record {
      before = at.before;
      after = at.row ∷ at.after;
      rows_are = at.rows_are;
      rest_is = at.comma_is;
      others =
          of_entries (λ (e : Entry). text_cmp e.0.0 id ≡ Greater) (at.row ∷ at.after)
          (All-cons (λ (e : Entry). text_cmp e.0.0 id ≡ Greater) at.row.entry others greater
          (All-weaker (λ (e : Entry). key_cmp key e.0 ≡ Less)
          (λ (e : Entry). text_cmp e.0.0 id ≡ Greater)
          (λ e above. greater_id key e.0 id above greater) others
          (all_after key others
          (first_part (below_all key_cmp key others) (is_sorted key_cmp others) map))));
    }

-- ---- what the order of ids tells

-- the id of the row is written so
row_id : (text written : List ℕ) (rows : List CompactRow) (tail : List ℕ) (place : ℕ)
    → AreRows text rows tail → (at : IsRowOf text written rows tail place)
    → IsString written at.row.entry.0.0
row_id text written rows tail place are at =
    subst (λ (bs : List ℕ). IsString bs at.row.entry.0.0) (sym at.id_is)
    (All-head IsCompactRow at.row at.after
    (All-back IsCompactRow at.before (at.row ∷ at.after)
    (subst (λ (rs : List CompactRow). All IsCompactRow rs) at.rows_are are.each))).id

-- how an id that is written without other escapes is ordered to another
abbrev pub IsOrder : List ℕ → List ℕ → Ordering → Type 0
IsOrder written id order = (text : List ℕ) → IsString written text → is_simple written ≡ true
    → order ≡ text_cmp text id

-- no row before one of a lesser id is of the message
pub begins_at_lesser : (text written id : List ℕ) (place : ℕ) (order : Ordering)
    → ReadsAsRow (drop place text) written → is_simple written ≡ true → IsOrder written id order
    → is_lt order ≡ true
    → HasAllFrom text id (place + 2)
begins_at_lesser text written id place order reads simple is less = λ rows tail are.
    let at = row_of_place text written rows tail place are reads in
    begins_at_row text written id rows tail place are at
    (sym (is at.row.entry.0.0 (row_id text written rows tail place are at) simple)
    ∙ less_is order less)

-- no row after the start of one of a greater id is of the message
pub ends_at_greater : (text written id : List ℕ) (place : ℕ) (order : Ordering)
    → ReadsAsRow (drop place text) written → is_simple written ≡ true → IsOrder written id order
    → is_gt order ≡ true
    → HasAllUpTo text id (place + 1)
ends_at_greater text written id place order reads simple is greater = λ rows tail are.
    let at = row_of_place text written rows tail place are reads in
    ends_at_row text written id rows tail place are at
    (sym (is at.row.entry.0.0 (row_id text written rows tail place are at) simple)
    ∙ greater_is order greater)

-- no row is after all rows
pub ends_at_last : (text id : List ℕ) (start end : ℕ) → AreRowsAt text start end
    → HasAllUpTo text id end
ends_at_last text id start end at = λ rows tail are. record {
  before = rows;
  after = [];
  rows_are = sym (append-nil rows);
  rest_is = at.finish rows tail are;
  others = All-nil (λ (row : CompactRow). text_cmp row.entry.0.0 id ≡ Greater);
}

opening_length : length opening ≡ 10
unfolding escape_byte
opening_length = refl

-- a bracket that the member `kind` comes after ends all rows, which begin after the opening
pub rows_at : (text rest : List ℕ) (end : ℕ) → 10 ≤ end
    → drop end text ≡ 93 ∷ 44 ∷ 34 ∷ 107 ∷ rest → AreRowsAt text 10 end
rows_at text rest end ordered is = record {
  ordered = ordered;
  within = omega (arith, length-drop end text, ap length is);
  begin = λ rows tail are. ap (drop 10) are.whole
      ∙ drop_at opening (rows_text false rows ++ tail) 10 opening_length;
  finish = λ rows tail are. members_at text rows tail end rest are is;
}
