-- A place of a document that reads as the start of a row is one, after the `]` of a row: in a row
-- no `]` outside of strings comes before a comma, and no string has a language after it.
--
-- A row is a few pieces: its brackets, its strings, its numbers and its commas. Each piece either
-- has no `]` outside of strings, and is passed over, or is the array of a label, after whose `]`
-- comes the bracket of the row. A `]` inside of a string is told apart by what comes after it: what
-- reads as a row, or as the member `kind`, fits no rest of a string. So what is found is the end of
-- a row.
use Rattle.std.proofs.Common.{◌≡◌, ◌∙◌, ◌^◌, ◌<◌, ◌++◌, ◌∷◌, [], ℕ, List, Bool, true, false}
use Rattle.std.proofs.Common.{cond, not}
use Rattle.std.proofs.Common.{◌==◌, ◌⊎◌, inl, inr, ⊎_elim, refl, ap, sym, subst, arith}
use Rattle.std.proofs.Common.{append_assoc, decimal, true≢false}
use Rattle.std.specs.Prelude.{None, Option, Some}
use Rattle.std.proofs.lemmas.Bool.Decides.{nat_tests}
use Rattle.std.proofs.lemmas.List.Elements.{All-head, All-tail}
use Rattle.serde_json.specs.Written.{comma_if}
use Rattle.lang_core.proofs.Basics.{true_not}
use Rattle.catalogue.proofs.Basics.{first_so, second_so}
use Rattle.row_docs.specs.EntriesValid.{IsKeptCell}
use Rattle.std.specs.List.{All}
use Rattle.text_docs.specs.Row.{ReadsAsRow, begins_language, is_unclosed, is_unclosed_from}
use Rattle.text_docs.specs.RowStrings.{IsString}
use Rattle.text_docs.specs.RowsCompact.{AreLabelStrings, AreStrings, CompactRow, IsCompactRow}
use Rattle.text_docs.specs.RowsCompact.{entries, in_quotes, label_text, rows_text, strings_text}
use Rattle.text_docs.proofs.ListLemmas.{head_or}
use Rattle.text_docs.proofs.RowStates.{Fit, Piece, State, append, closed, decimal_piece, each}
use Rattle.text_docs.proofs.RowStates.{escaped}
use Rattle.text_docs.proofs.RowStates.{fit-append, fits, inside, is_free, outside, step}
use Rattle.text_docs.proofs.RowStringsLemmas.{string_piece}

-- ---- brackets outside of strings

-- this byte is a `]` outside of strings, and these come after it
abbrev IsHere : State → ℕ → List ℕ → List ℕ → Type 0
IsHere outside b bs left = (b ≡ 93) × (bs ≡ left)
IsHere inside b bs left = ⊥
IsHere escaped b bs left = ⊥
IsHere closed b bs left = (b ≡ 93) × (bs ≡ left)

-- one of these bytes is a `]` outside of strings, and these come after it
abbrev pub IsCut : State → List ℕ → List ℕ → Type 0
IsCut s [] left = ⊥
IsCut s (b ∷ bs) left = IsHere s b bs left ⊎ IsCut (step s b) bs left

here_free : (s : State) (b : ℕ) (bs left : List ℕ) → is_free s b ≡ true → IsHere s b bs left → ⊥
here_free outside b bs left free here =
    true≢false (sym free ∙ ap (λ x. not (x == 93)) here.0)
here_free inside b bs left free here = here
here_free escaped b bs left free here = here
here_free closed b bs left free here =
    true≢false (sym free ∙ ap (λ x. not (x == 93)) here.0)

-- it is after a piece that has none
pub skip : (s t : State) (xs bs left : List ℕ) → Piece s t xs → IsCut s (xs ++ bs) left
    → IsCut t bs left
skip s t [] bs left piece cut = subst (λ (u : State). IsCut u bs left) piece.end cut
skip s t (x ∷ xs) bs left piece (inl here) =
    absurd (here_free s x (xs ++ bs) left
    (first_so (is_free s x) (each is_free (step s x) xs) piece.free) here)
skip s t (x ∷ xs) bs left piece (inr later) =
    skip (step s x) t xs bs left (record {
      fit = second_so (fits s x) (each fits (step s x) xs) piece.fit;
      free = second_so (is_free s x) (each is_free (step s x) xs) piece.free;
      end = piece.end;
    }) later

-- where what comes after a `]` does not fit a string, the `]` is outside of strings
pub found_outside : (s : State) (xs left : List ℕ) → (Fit inside (93 ∷ left) → ⊥)
    → Fit s (xs ++ 93 ∷ left) → IsCut s (xs ++ 93 ∷ left) left
found_outside outside [] left unfit fit = inl (refl, refl)
found_outside inside [] left unfit fit = absurd (unfit fit)
found_outside escaped [] left unfit fit = absurd (unfit fit)
found_outside closed [] left unfit fit = inl (refl, refl)
found_outside s (x ∷ xs) left unfit fit =
    inr (found_outside (step s x) xs left unfit
    (second_so (fits s x) (each fits (step s x) (xs ++ 93 ∷ left)) fit))

-- ---- what fits no string

no_language : (b : ℕ) → begins_language b ≡ true → fits closed b ≡ true → ⊥
no_language b begins fits = grind (arith, nat_tests)

after_id : (id rest : List ℕ) (first : ℕ) → is_unclosed id ≡ true
    → Fit outside (id ++ 34 ∷ 44 ∷ 34 ∷ first ∷ rest) → fits closed first ≡ true
after_id [] rest first goes fit =
    first_so (fits closed first) (each fits outside rest) fit
after_id (b ∷ bs) rest first goes fit =
    let more = bs ++ 34 ∷ 44 ∷ 34 ∷ first ∷ rest in
    let no_backslash : (b == 92) ≡ false =
    true_not (b == 92)
    (first_so (not (b == 92)) (each fits (cond (b == 34) inside outside) more) fit) in
    let no_quote : (b == 34) ≡ false = unclosed_so (b == 34) (is_unclosed_from (b == 92) bs) goes in
    after_id bs rest first
    (sym (ap (λ t. cond t false (is_unclosed_from (b == 92) bs)) no_quote
    ∙ ap (λ t. is_unclosed_from t bs) no_backslash) ∙ goes)
    (sym (ap (λ t. each fits (cond t inside outside) more) no_quote)
    ∙ second_so (not (b == 92)) (each fits (cond (b == 34) inside outside) more) fit)
  where
    unclosed_so : (t u : Bool) → cond t false u ≡ true → t ≡ false
    unclosed_so true u h = absurd (true≢false (sym h))
    unclosed_so false u h = refl

after_string : (id rest : List ℕ) (first : ℕ) → is_unclosed id ≡ true
    → Fit closed (id ++ 34 ∷ 44 ∷ 34 ∷ first ∷ rest) → fits closed first ≡ true
after_string [] rest first goes fit =
    absurd (true≢false (sym (first_so false (each fits outside (44 ∷ 34 ∷ first ∷ rest)) fit)))
after_string (b ∷ bs) rest first goes fit =
    let more = bs ++ 34 ∷ 44 ∷ 34 ∷ first ∷ rest in
    let fitting : fits closed b ≡ true = first_so (fits closed b) (each fits outside more) fit in
    let no_quote : (b == 34) ≡ false = grind (arith, nat_tests) in
    let no_backslash : (b == 92) ≡ false = grind (arith, nat_tests) in
    after_id bs rest first
    (sym (ap (λ t. cond t false (is_unclosed_from (b == 92) bs)) no_quote
    ∙ ap (λ t. is_unclosed_from t bs) no_backslash) ∙ goes)
    (second_so (fits closed b) (each fits outside more) fit)

-- what reads as a row fits no string
pub row_unfit : (left id : List ℕ) → ReadsAsRow (93 ∷ left) id → Fit inside (93 ∷ left) → ⊥
row_unfit left id reads fit =
    no_language reads.first reads.language
    (after_string id reads.rest reads.first reads.unclosed
    (subst (λ (bs : List ℕ). each fits inside bs ≡ true) reads.text_is fit))

-- what begins as the member `kind` fits none either
pub kind_unfit : (left rest : List ℕ) → 93 ∷ left ≡ 93 ∷ 44 ∷ 34 ∷ 107 ∷ rest
    → Fit inside (93 ∷ left) → ⊥
kind_unfit left rest is fit =
    true≢false (sym (first_so false (each fits outside rest)
    (subst (λ (bs : List ℕ). each fits inside bs ≡ true) is fit)))

-- ---- the pieces of a row

-- the comma after a string
pub byte_44 : Piece closed outside (44 ∷ [])
byte_44 = record { fit = refl; free = refl; end = refl }

-- the colon after a name
pub byte_58 : Piece closed outside (58 ∷ [])
byte_58 = record { fit = refl; free = refl; end = refl }

-- a comma elsewhere
pub comma : Piece outside outside (44 ∷ [])
comma = record { fit = refl; free = refl; end = refl }

-- the bracket that begins a row or the texts of a label
pub open_bracket : Piece outside outside (91 ∷ [])
open_bracket = record { fit = refl; free = refl; end = refl }

null_piece : Piece outside outside (110 ∷ 117 ∷ 108 ∷ 108 ∷ [])
null_piece = record { fit = refl; free = refl; end = refl }

-- a string with its quotes
pub in_quotes_piece : (written text : List ℕ) → IsString written text
    → Piece outside closed (in_quotes written)
in_quotes_piece written text is =
    append outside inside closed (34 ∷ []) (written ++ 34 ∷ [])
    (record { fit = refl; free = refl; end = refl })
    (append inside inside closed written (34 ∷ []) (string_piece written text is)
    (record { fit = refl; free = refl; end = refl }))

-- the strings of a label after the first
strings_piece : (strings texts : List (List ℕ)) → AreStrings strings texts
    → Piece closed closed (strings_text true strings)
strings_piece [] [] are = record { fit = refl; free = refl; end = refl }
strings_piece [] (t ∷ texts) are = absurd are
strings_piece (w ∷ strings) [] are = absurd are
strings_piece (w ∷ strings) (t ∷ texts) are =
    append closed outside closed (44 ∷ []) (in_quotes w ++ strings_text true strings) byte_44
    (append outside closed closed (in_quotes w) (strings_text true strings)
    (in_quotes_piece w t are.0) (strings_piece strings texts are.1))

first_strings : (w t : List ℕ) (strings texts : List (List ℕ)) → IsString w t
    → AreStrings strings texts → Piece outside closed (strings_text false (w ∷ strings))
first_strings w t strings texts one are =
    append outside closed closed (in_quotes w) (strings_text true strings) (in_quotes_piece w t one)
    (strings_piece strings texts are)

-- a label with the bracket of its row, and what comes after
abbrev pub closed_row : Option (List (List ℕ)) → List ℕ → List ℕ
closed_row label left = label_text label ++ 93 ∷ left

-- the array of a label
pub array_is : (strings : List (List ℕ)) (left : List ℕ)
    → label_text (Some strings) ++ left ≡ 91 ∷ (strings_text false strings ++ 93 ∷ left)
array_is strings left =
    ap (λ bs. 91 ∷ bs) (append_assoc (strings_text false strings) (93 ∷ []) left)

fit_label : (strings label : Option (List (List ℕ))) (left : List ℕ)
    → AreLabelStrings strings label → Fit outside left → Fit outside (closed_row strings left)
fit_label None None left are fit =
    fit-append outside outside (110 ∷ 117 ∷ 108 ∷ 108 ∷ []) (93 ∷ left) null_piece fit
fit_label None (Some texts) left are fit = absurd are
fit_label (Some strings) None left are fit = absurd are
fit_label (Some []) (Some []) left are fit =
    subst (λ (bs : List ℕ). each fits outside bs ≡ true) (sym (array_is [] (93 ∷ left))) fit
fit_label (Some []) (Some (t ∷ texts)) left are fit = absurd are
fit_label (Some (w ∷ strings)) (Some []) left are fit = absurd are
fit_label (Some (w ∷ strings)) (Some (t ∷ texts)) left are fit =
    subst (λ (bs : List ℕ). each fits outside bs ≡ true)
    (sym (array_is (w ∷ strings) (93 ∷ left)))
    (fit-append outside outside (91 ∷ [])
    (strings_text false (w ∷ strings) ++ 93 ∷ 93 ∷ left) open_bracket
    (fit-append outside closed (strings_text false (w ∷ strings)) (93 ∷ 93 ∷ left)
    (first_strings w t strings texts are.0 are.1) fit))

-- a `]` with a comma after it is that of the row
at_end : (left tail : List ℕ) → IsCut outside (93 ∷ left) tail
    → (left ≡ tail) ⊎ IsCut outside left tail
at_end left tail (inl here) = inl here.1
at_end left tail (inr later) = inr later

no_bracket : (left tail more : List ℕ) → tail ≡ 44 ∷ more → 93 ∷ left ≡ tail → ⊥
no_bracket left tail more is same = differ (ap (head_or 0) (same ∙ is))
  where
    differ : ◌≡◌ {A = ℕ} 93 44 → ⊥
    differ e = omega (arith, e)

at_end_of_texts : (s : State) (left tail more : List ℕ) → (step s 93 ≡ outside) → tail ≡ 44 ∷ more
    → IsCut s (93 ∷ 93 ∷ left) tail → (left ≡ tail) ⊎ IsCut outside left tail
at_end_of_texts outside left tail more next is (inl here) =
    absurd (no_bracket left tail more is here.1)
at_end_of_texts outside left tail more next is (inr later) = at_end left tail later
at_end_of_texts closed left tail more next is (inl here) =
    absurd (no_bracket left tail more is here.1)
at_end_of_texts closed left tail more next is (inr later) = at_end left tail later
at_end_of_texts inside left tail more next is (inl here) = absurd here
at_end_of_texts inside left tail more next is (inr later) =
    at_end left tail (subst (λ (s : State). IsCut s (93 ∷ left) tail) next later)
at_end_of_texts escaped left tail more next is (inl here) = absurd here
at_end_of_texts escaped left tail more next is (inr later) =
    at_end left tail (subst (λ (s : State). IsCut s (93 ∷ left) tail) next later)

cut_label : (strings label : Option (List (List ℕ))) (left tail more : List ℕ)
    → AreLabelStrings strings label → tail ≡ 44 ∷ more
    → IsCut outside (closed_row strings left) tail → (left ≡ tail) ⊎ IsCut outside left tail
cut_label None None left tail more are is cut =
    at_end left tail
    (skip outside outside (110 ∷ 117 ∷ 108 ∷ 108 ∷ []) (93 ∷ left) tail null_piece cut)
cut_label None (Some texts) left tail more are is cut = absurd are
cut_label (Some strings) None left tail more are is cut = absurd are
cut_label (Some []) (Some []) left tail more are is cut =
    at_end_of_texts outside left tail more refl is
    (skip outside outside (91 ∷ []) (93 ∷ 93 ∷ left) tail open_bracket
    (subst (λ (bs : List ℕ). IsCut outside bs tail) (array_is [] (93 ∷ left)) cut))
cut_label (Some []) (Some (t ∷ texts)) left tail more are is cut = absurd are
cut_label (Some (w ∷ strings)) (Some []) left tail more are is cut = absurd are
cut_label (Some (w ∷ strings)) (Some (t ∷ texts)) left tail more are is cut =
    let items = strings_text false (w ∷ strings) in
    at_end_of_texts closed left tail more refl is
    (skip outside closed items (93 ∷ 93 ∷ left) tail (first_strings w t strings texts are.0 are.1)
    (skip outside outside (91 ∷ []) (items ++ 93 ∷ 93 ∷ left) tail open_bracket
    (subst (λ (bs : List ℕ). IsCut outside bs tail)
    (array_is (w ∷ strings) (93 ∷ left)) cut)))

-- ---- a row

-- a row as far as its label, and what comes after
abbrev pub row_before : CompactRow → List ℕ → List ℕ
row_before row left =
    91 ∷ (in_quotes row.id ++ 44 ∷
    (in_quotes row.language ++ 44 ∷
    (decimal row.entry.1.stamp.time ++ 44 ∷
    (in_quotes row.site ++ 44 ∷ (decimal row.entry.1.stamp.count ++ 44 ∷ left)))))

-- what fits 32 bits fits 64
pub count_fits : (n : ℕ) → n < 2 ^ 32 → n < 2 ^ 64
count_fits n small = omega arith

fit_front : (row : CompactRow) (left : List ℕ) → IsCompactRow row → IsKeptCell row.entry
    → Fit outside left → Fit outside (row_before row left)
fit_front row left is kept fit =
    let time = row.entry.1.stamp.time in
    let count = row.entry.1.stamp.count in
    let after_time = in_quotes row.site ++ 44 ∷ (decimal count ++ 44 ∷ left) in
    let after_language = decimal time ++ 44 ∷ after_time in
    let after_id = in_quotes row.language ++ 44 ∷ after_language in
    fit-append outside outside (91 ∷ []) (in_quotes row.id ++ 44 ∷ after_id) open_bracket
    (fit-append outside closed (in_quotes row.id) (44 ∷ after_id)
    (in_quotes_piece row.id row.entry.0.0 is.id)
    (fit-append closed outside (44 ∷ []) after_id byte_44
    (fit-append outside closed (in_quotes row.language) (44 ∷ after_language)
    (in_quotes_piece row.language row.entry.0.1 is.language)
    (fit-append closed outside (44 ∷ []) after_language byte_44
    (fit-append outside outside (decimal time) (44 ∷ after_time) (decimal_piece time kept.0.time)
    (fit-append outside outside (44 ∷ []) after_time comma
    (fit-append outside closed (in_quotes row.site) (44 ∷ (decimal count ++ 44 ∷ left))
    (in_quotes_piece row.site row.entry.1.stamp.site is.site)
    (fit-append closed outside (44 ∷ []) (decimal count ++ 44 ∷ left) byte_44
    (fit-append outside outside (decimal count) (44 ∷ left)
    (decimal_piece count (count_fits count kept.0.count))
    (fit-append outside outside (44 ∷ []) left comma fit))))))))))

cut_front : (row : CompactRow) (left tail : List ℕ) → IsCompactRow row → IsKeptCell row.entry
    → IsCut outside (row_before row left) tail → IsCut outside left tail
cut_front row left tail is kept cut =
    let time = row.entry.1.stamp.time in
    let count = row.entry.1.stamp.count in
    let after_time = in_quotes row.site ++ 44 ∷ (decimal count ++ 44 ∷ left) in
    let after_language = decimal time ++ 44 ∷ after_time in
    let after_id = in_quotes row.language ++ 44 ∷ after_language in
    skip outside outside (44 ∷ []) left tail comma
    (skip outside outside (decimal count) (44 ∷ left) tail
    (decimal_piece count (count_fits count kept.0.count))
    (skip closed outside (44 ∷ []) (decimal count ++ 44 ∷ left) tail byte_44
    (skip outside closed (in_quotes row.site) (44 ∷ (decimal count ++ 44 ∷ left)) tail
    (in_quotes_piece row.site row.entry.1.stamp.site is.site)
    (skip outside outside (44 ∷ []) after_time tail comma
    (skip outside outside (decimal time) (44 ∷ after_time) tail (decimal_piece time kept.0.time)
    (skip closed outside (44 ∷ []) after_language tail byte_44
    (skip outside closed (in_quotes row.language) (44 ∷ after_language) tail
    (in_quotes_piece row.language row.entry.0.1 is.language)
    (skip closed outside (44 ∷ []) after_id tail byte_44
    (skip outside closed (in_quotes row.id) (44 ∷ after_id) tail
    (in_quotes_piece row.id row.entry.0.0 is.id)
    (skip outside outside (91 ∷ []) (in_quotes row.id ++ 44 ∷ after_id) tail open_bracket
    cut))))))))))

-- ---- all rows

-- the text of a row, and of those after it
pub rows_step : (later : Bool) (row : CompactRow) (rows : List CompactRow) (tail : List ℕ)
    → rows_text later (row ∷ rows) ++ tail
    ≡ comma_if later ++ row_before row (closed_row row.label (rows_text true rows ++ tail))
rows_step later row rows tail = simp append_assoc

fit_comma : (later : Bool) (left : List ℕ) → Fit outside left
    → Fit outside (comma_if later ++ left)
fit_comma true left fit = fit-append outside outside (44 ∷ []) left comma fit
fit_comma false left fit = fit

cut_comma : (later : Bool) (left tail : List ℕ) → IsCut outside (comma_if later ++ left) tail
    → IsCut outside left tail
cut_comma true left tail cut = skip outside outside (44 ∷ []) left tail comma cut
cut_comma false left tail cut = cut

-- rows fit where what comes after them does
pub fit_rows : (later : Bool) (rows : List CompactRow) (tail : List ℕ) → All IsCompactRow rows
    → All IsKeptCell (entries rows) → Fit outside tail → Fit outside (rows_text later rows ++ tail)
fit_rows later [] tail are kept fit = fit
fit_rows later (row ∷ rows) tail are kept fit =
    let left = rows_text true rows ++ tail in
    let is = All-head IsCompactRow row rows are in
    subst (λ (bs : List ℕ). each fits outside bs ≡ true) (sym (rows_step later row rows tail))
    (fit_comma later (row_before row (closed_row row.label left))
    (fit_front row (closed_row row.label left) is
    (All-head IsKeptCell row.entry (entries rows) kept)
    (fit_label row.label row.entry.1.label left is.label
    (fit_rows true rows tail (All-tail IsCompactRow row rows are)
    (All-tail IsKeptCell row.entry (entries rows) kept) fit))))

-- a `]` outside of strings with a comma after it ends a row; these are the rows after it
pub record IsBorder (rows : List CompactRow) (tail left : List ℕ) : Type 0 where
  pub before : List CompactRow
  pub after : List CompactRow
  pub rows_are : rows ≡ before ++ after
  pub left_is : left ≡ rows_text true after ++ tail

one_more : (row : CompactRow) (rows : List CompactRow) (tail left : List ℕ)
    → IsBorder rows tail left → IsBorder (row ∷ rows) tail left
one_more row rows tail left border = record {
  before = row ∷ border.before;
  after = border.after;
  rows_are = ap (λ xs. row ∷ xs) border.rows_are;
  left_is = border.left_is;
}

-- a `]` outside of strings with a comma after it ends a row, or is after all rows
pub cut_rows : (later : Bool) (rows : List CompactRow) (tail left more : List ℕ)
    → All IsCompactRow rows → All IsKeptCell (entries rows) → left ≡ 44 ∷ more
    → IsCut outside (rows_text later rows ++ tail) left
    → IsBorder rows tail left ⊎ IsCut outside tail left
cut_rows later [] tail left more are kept is cut = inr cut
cut_rows later (row ∷ rows) tail left more are kept is cut =
    let rest = rows_text true rows ++ tail in
    let one = All-head IsCompactRow row rows are in
    let held = All-head IsKeptCell row.entry (entries rows) kept in
    let labelled : IsCut outside (closed_row row.label rest) left =
    cut_front row (closed_row row.label rest) left one held
    (cut_comma later (row_before row (closed_row row.label rest)) left
    (subst (λ (bs : List ℕ). IsCut outside bs left) (rows_step later row rows tail) cut)) in
    ⊎_elim
    (λ here. inl (record { before = row ∷ []; after = rows; rows_are = refl; left_is = sym here }))
    (λ later. ⊎_elim (λ border. inl (one_more row rows tail left border)) (λ past. inr past)
    (cut_rows true rows tail left more (All-tail IsCompactRow row rows are)
    (All-tail IsKeptCell row.entry (entries rows) kept) is later))
    (cut_label row.label row.entry.1.label rest left more one.label is labelled)
