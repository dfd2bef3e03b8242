-- Rows without blanks have the lexemes of the rows that Silkwaram writes for their entries, and so
-- a document of them reads as the site.
--
-- Two texts with the same lexemes read as the same value. Row by row each lexeme is that of the
-- written row: strings by RowStringsLemmas, brackets, commas and numbers as they are, and `null`
-- before its bracket. The opening and the members after the rows are the same bytes in both.
use Rattle.std.proofs.Common.{◌≡◌, ◌∙◌, ◌<◌, ◌^◌, ◌++◌, ◌∷◌, [], ℕ, List, Bool, true, false, codes}
use Rattle.std.proofs.Common.{IsUtf8, append_assoc, ap, decimal, inl, inr, map, refl, sym}
use Rattle.std.specs.Prelude.{None, Option, Some, option_and_then}
use Rattle.std.specs.List.{All}
use Rattle.std.proofs.lemmas.List.Elements.{All-head, All-tail}
use Rattle.json.specs.Json as json
use Rattle.json.specs.Lex.{Lexeme, between, colon, comma, fresh, lex, punctuate, token}
use Rattle.json.specs.Print.{escape, quoted}
use Rattle.json.specs.Token.{begin_array, begin_object, end_array, null, number}
use Rattle.json.specs.Token.{string as string_token}
use Rattle.json.specs.Word.{word}
use Rattle.json.proofs.Printed.Decimals.{IsNumber-decimal}
use Rattle.json.proofs.Printed.Numbers.{lex-number}
use Rattle.serde_json.specs.Data.{Data, string}
use Rattle.serde_json.specs.Read.{max_depth, of_json, read}
use Rattle.serde_json.specs.Written.{comma_if, compact_text}
use Rattle.json_docs.proofs.TextLineFeed.{read-line_feed}
use Rattle.row_docs.specs.Entries.{cells_values, row_of}
use Rattle.row_docs.specs.EntriesValid.{IsKeptCell}
use Rattle.row_docs.specs.EntriesValues.{label_value}
use Rattle.row_docs.specs.WritingTexts.{text}
use Rattle.row_docs.specs.declared.kind.Kind.TheVariants.{Site}
use Rattle.site_docs.specs.Plain.{IsTextOf, cells_document, open_items}
use Rattle.site_docs.specs.inner.PlainRows.{row_before as plain_before}
use Rattle.site_docs.specs.Reading.{ReadsAsSite}
use Rattle.site_docs.proofs.WritingRoundTrip.{reads_site}
use Rattle.text_docs.specs.RowStrings.{IsString}
use Rattle.text_docs.specs.Rows.{opening}
use Rattle.text_docs.specs.inner.Rows.{AreRows}
use Rattle.text_docs.specs.RowsCompact.{AreLabelStrings, AreStrings, CompactRow, IsCompactRow}
use Rattle.text_docs.specs.RowsCompact.{entries, in_quotes, rows_text, strings_text}
use Rattle.text_docs.proofs.RowBorderLemmas.{array_is, closed_row, count_fits, row_before}
use Rattle.text_docs.proofs.RowBorderLemmas.{rows_step}
use Rattle.text_docs.proofs.RowStringsLemmas.{string_lexed}
use Rattle.text_docs.proofs.RowsPlainLemmas.{plain_array, plain_step, plain_string}
use Rattle.text_docs.proofs.MessageTextLemmas.{text_of_rows}

-- both texts have the same lexemes
abbrev Same : List ℕ → List ℕ → Type 0
Same xs ys = lex between xs ≡ lex between ys

-- ---- what comes before them

same_44 : (xs ys : List ℕ) → Same xs ys → Same (44 ∷ xs) (44 ∷ ys)
unfolding lex
same_44 xs ys same = ap (λ (l : List Lexeme). comma ∷ l) same

same_58 : (xs ys : List ℕ) → Same xs ys → Same (58 ∷ xs) (58 ∷ ys)
unfolding lex
same_58 xs ys same = ap (λ (l : List Lexeme). colon ∷ l) same

same_91 : (xs ys : List ℕ) → Same xs ys → Same (91 ∷ xs) (91 ∷ ys)
unfolding lex
same_91 xs ys same = ap (λ (l : List Lexeme). token begin_array ∷ l) same

same_93 : (xs ys : List ℕ) → Same xs ys → Same (93 ∷ xs) (93 ∷ ys)
unfolding lex
same_93 xs ys same = ap (λ (l : List Lexeme). token end_array ∷ l) same

same_123 : (xs ys : List ℕ) → Same xs ys → Same (123 ∷ xs) (123 ∷ ys)
unfolding lex
same_123 xs ys same = ap (λ (l : List Lexeme). token begin_object ∷ l) same

same_comma : (later : Bool) (xs ys : List ℕ) → Same xs ys
    → Same (comma_if later ++ xs) (comma_if later ++ ys)
same_comma true xs ys same = same_44 xs ys same
same_comma false xs ys same = same

-- a `null` before a bracket
same_null : (xs ys : List ℕ) → Same xs ys
    → Same (110 ∷ 117 ∷ 108 ∷ 108 ∷ 93 ∷ xs) (110 ∷ 117 ∷ 108 ∷ 108 ∷ 93 ∷ ys)
unfolding lex word
same_null xs ys same = ap (λ (l : List Lexeme). token null ∷ token end_array ∷ l) same

one_string : (written text xs : List ℕ) → IsString written text
    → lex between (in_quotes written ++ xs) ≡ token (string_token text) ∷ lex between xs
one_string written text xs is =
    ap (λ bs. lex between (34 ∷ bs)) (append_assoc written (34 ∷ []) xs)
    ∙ string_lexed written text xs is

same_string : (written text xs ys : List ℕ) → IsString written text → Same xs ys
    → Same (in_quotes written ++ xs) (quoted text ++ ys)
same_string written text xs ys is same =
    one_string written text xs is
    ∙ ap (λ (l : List Lexeme). token (string_token text) ∷ l) same
    ∙ sym (one_string (escape text) text ys (plain_string text))

same_number : (n : ℕ) (xs ys : List ℕ) → n < 2 ^ 64 → Same xs ys
    → Same (decimal n ++ 44 ∷ xs) (decimal n ++ 44 ∷ ys)
same_number n xs ys small same =
    lex-number (decimal n) (44 ∷ xs) (IsNumber-decimal n small) refl
    ∙ ap (λ (l : List Lexeme). token (number (decimal n)) ∷ l) (same_44 xs ys same)
    ∙ sym (lex-number (decimal n) (44 ∷ ys) (IsNumber-decimal n small) refl)

-- ---- rows

same_strings : (later : Bool) (strings texts : List (List ℕ)) (xs ys : List ℕ)
    → AreStrings strings texts → Same xs ys
    → Same (strings_text later strings ++ xs) (open_items later (map string texts) ++ ys)
same_strings later [] [] xs ys are same = same
same_strings later [] (t ∷ texts) xs ys are same = absurd are
same_strings later (w ∷ strings) [] xs ys are same = absurd are
same_strings later (w ∷ strings) (t ∷ texts) xs ys are same =
    let more = strings_text true strings in
    let others = open_items true (map string texts) in
    ap (lex between)
    (append_assoc (comma_if later) (in_quotes w ++ more) xs
    ∙ ap (λ bs. comma_if later ++ bs) (append_assoc (in_quotes w) more xs))
    ∙ same_comma later (in_quotes w ++ (more ++ xs)) (quoted t ++ (others ++ ys))
    (same_string w t (more ++ xs) (others ++ ys) are.0
    (same_strings true strings texts xs ys are.1 same))
    ∙ sym (ap (lex between)
    (append_assoc (comma_if later) (quoted t ++ others) ys
    ∙ ap (λ bs. comma_if later ++ bs) (append_assoc (quoted t) others ys)))

same_label : (strings label : Option (List (List ℕ))) (xs ys : List ℕ)
    → AreLabelStrings strings label → Same xs ys
    → Same (closed_row strings xs) (compact_text (label_value label) ++ 93 ∷ ys)
same_label None None xs ys are same = same_null xs ys same
same_label None (Some texts) xs ys are same = absurd are
same_label (Some strings) None xs ys are same = absurd are
same_label (Some strings) (Some texts) xs ys are same =
    let own = strings_text false strings in
    let plain = open_items false (map string texts) in
    ap (lex between) (array_is strings (93 ∷ xs))
    ∙ same_91 (own ++ 93 ∷ 93 ∷ xs) (plain ++ 93 ∷ 93 ∷ ys)
    (same_strings false strings texts (93 ∷ 93 ∷ xs) (93 ∷ 93 ∷ ys) are
    (same_93 (93 ∷ xs) (93 ∷ ys) (same_93 xs ys same)))
    ∙ sym (ap (lex between) (plain_array (map string texts) (93 ∷ ys)))

same_front : (row : CompactRow) (xs ys : List ℕ) → IsCompactRow row → IsKeptCell row.entry
    → Same xs ys → Same (row_before row xs) (plain_before (row_of row.entry) ys)
same_front row xs ys is kept same =
    let time = row.entry.1.stamp.time in
    let count = row.entry.1.stamp.count in
    let name = row.entry.1.stamp.site in
    let id = row.entry.0.0 in
    let language = row.entry.0.1 in
    let x4 = decimal count ++ 44 ∷ xs in
    let y4 = decimal count ++ 44 ∷ ys in
    let x3 = in_quotes row.site ++ 44 ∷ x4 in
    let y3 = quoted name ++ 44 ∷ y4 in
    let x2 = decimal time ++ 44 ∷ x3 in
    let y2 = decimal time ++ 44 ∷ y3 in
    let x1 = in_quotes row.language ++ 44 ∷ x2 in
    let y1 = quoted language ++ 44 ∷ y2 in
    same_91 (in_quotes row.id ++ 44 ∷ x1) (quoted id ++ 44 ∷ y1)
    (same_string row.id id (44 ∷ x1) (44 ∷ y1) is.id
    (same_44 x1 y1
    (same_string row.language language (44 ∷ x2) (44 ∷ y2) is.language
    (same_44 x2 y2
    (same_number time x3 y3 kept.0.time
    (same_string row.site name (44 ∷ x4) (44 ∷ y4) is.site
    (same_44 x4 y4
    (same_number count xs ys (count_fits count kept.0.count) same))))))))

same_rows : (later : Bool) (rows : List CompactRow) (xs ys : List ℕ) → All IsCompactRow rows
    → All IsKeptCell (entries rows) → Same xs ys
    → Same (rows_text later rows ++ xs) (open_items later (cells_values (entries rows)) ++ ys)
same_rows later [] xs ys are kept same = same
same_rows later (row ∷ rows) xs ys are kept same =
    let more = rows_text true rows ++ xs in
    let others = open_items true (cells_values (entries rows)) ++ ys in
    let is = All-head IsCompactRow row rows are in
    let label = compact_text (label_value row.entry.1.label) ++ 93 ∷ others in
    ap (lex between) (rows_step later row rows xs)
    ∙ same_comma later (row_before row (closed_row row.label more))
    (plain_before (row_of row.entry) label)
    (same_front row (closed_row row.label more) label is
    (All-head IsKeptCell row.entry (entries rows) kept)
    (same_label row.label row.entry.1.label more others is.label
    (same_rows true rows xs ys (All-tail IsCompactRow row rows are)
    (All-tail IsKeptCell row.entry (entries rows) kept) same)))
    ∙ sym (ap (lex between) (plain_step later row.entry (entries rows) ys))

-- ---- a document

same_opening : (xs ys : List ℕ) → Same xs ys → Same (opening ++ xs) (opening ++ ys)
same_opening xs ys same =
    let cells = quoted (codes "cells") in
    let apart = λ (bs : List ℕ). append_assoc cells (58 ∷ 91 ∷ []) bs in
    same_123 ((cells ++ 58 ∷ 91 ∷ []) ++ xs) ((cells ++ 58 ∷ 91 ∷ []) ++ ys)
    (ap (lex between) (apart xs)
    ∙ same_string (escape (codes "cells")) (codes "cells") (58 ∷ 91 ∷ xs) (58 ∷ 91 ∷ ys)
    (plain_string (codes "cells")) (same_58 (91 ∷ xs) (91 ∷ ys) (same_91 xs ys same))
    ∙ sym (ap (lex between) (apart ys)))

same_read : (xs ys : List ℕ) → Same xs ys → read xs ≡ read ys
same_read xs ys same =
    ap (λ (ls : List Lexeme). option_and_then of_json
    (option_and_then (λ p. json.if_last p.0 p.1) (json.value max_depth (punctuate fresh ls)))) same

read_of : (d : Data) (bytes : List ℕ) → IsTextOf d bytes → read bytes ≡ read (text d)
read_of d bytes (inl is) = ap read is
read_of d bytes (inr cut) = sym (read-line_feed bytes) ∙ ap read cut

-- rows with what comes before and after them read as the site of their entries
pub rows_read : (bytes tail : List ℕ) (rows : List CompactRow) → (are : AreRows bytes rows tail)
    → IsUtf8 bytes
    → ReadsAsSite bytes (record { name = are.is_tail.name; cells = entries rows })
rows_read bytes tail rows are utf8 =
    let name = are.is_tail.name in
    let cells = entries rows in
    let own = rows_text false rows ++ tail in
    let items = open_items false (cells_values cells) ++ tail in
    let plain = opening ++ items in
    let is_text : IsTextOf (cells_document Site name (cells_values cells)) plain =
    text_of_rows plain name are.is_tail.end cells are.is_tail.is_end
    (ap (λ bs. opening ++ (open_items false (cells_values cells) ++ bs)) are.is_tail.tail_is) in
    reads_site bytes (record { name = name; cells = cells }) are.is_tail.is_name are.kept utf8
    (ap read are.whole
    ∙ same_read (opening ++ own) plain
    (same_opening own items (same_rows false rows tail tail are.each are.kept.each refl))
    ∙ read_of (cells_document Site name (cells_values cells)) plain is_text)
