-- The rows that Silkwaram writes are rows without blanks.
--
-- A byte of a text is written as itself, by a backslash and a letter, or by `\u00` and two digits;
-- each of these is a form that RFC 8259 has, and means the byte. So the strings, arrays and rows
-- that are written are rows without blanks, those of the cells, and every promise about rows
-- without blanks holds of a written document.
use Rattle.std.proofs.Common.{◌≡◌, ◌∙◌, ◌<◌, ◌≤◌, ◌++◌, ◌∷◌, [], ℕ, List, Bool, true, false}
use Rattle.std.proofs.Common.{◌⊎◌, inl, inr, refl, ap, arith, append_assoc, map, suc, sym}
use Rattle.std.proofs.Common.{subst, zero}
use Rattle.std.specs.Prelude.{None, Option, Some, option_map}
use Rattle.std.specs.List.{All}
use Rattle.std.specs.Char.{encode_utf8}
use Rattle.std.proofs.lemmas.Bool.{cases_eq, cases_lt, le-leb, ne_eqb}
use Rattle.std.proofs.lemmas.List.Elements.{All-cons, All-nil}
use Rattle.json.specs.Print.{escape, escape_byte}
use Rattle.json.specs.Text.{code_unit, is_high_surrogate, is_low_surrogate, short_escape}
use Rattle.json.proofs.Printed.Strings.{escape_byte_plain}
use Rattle.serde_json.specs.Data.{Data, array, string}
use Rattle.serde_json.specs.View.{items_of}
use Rattle.serde_json.specs.Written.{comma_if, compact_text}
use Rattle.catalogue.specs.Entries.{Entries, Entry}
use Rattle.row_docs.specs.Entries.{cells_values, entry_value, row_of}
use Rattle.row_docs.specs.EntriesValues.{label_value}
use Rattle.site_docs.specs.Plain.{open_items}
use Rattle.site_docs.specs.inner.PlainRows.{row_before as plain_before}
use Rattle.site_docs.proofs.PlainLemmas.{array_taken, row_taken}
use Rattle.text_docs.specs.RowStrings.{Character, IsCharacter, IsString, as_meant, as_written}
use Rattle.text_docs.specs.RowStrings.{is_unescaped}
use Rattle.text_docs.specs.RowsCompact.{AreLabelStrings, AreStrings, CompactRow, IsCompactRow}
use Rattle.text_docs.specs.RowsCompact.{entries, in_quotes, rows_text, strings_text}
use Rattle.text_docs.proofs.RowBorderLemmas.{closed_row, rows_step}

-- ---- strings

-- a byte as it is written, and itself
abbrev written_byte : ℕ → Character
written_byte b = (escape_byte b, b ∷ [])

abbrev IsWritten : ℕ → Type 0
IsWritten b = IsCharacter (written_byte b)

short_written : (letter b : ℕ) → short_escape letter ≡ Some b → escape_byte b ≡ 92 ∷ letter ∷ []
    → IsWritten b
short_written letter b means is = inr (inl (record {
  letter = letter;
  byte = b;
  means = means;
  is = ap (λ (bs : List ℕ). let c : Character = (bs, b ∷ []) in c) is;
}))

control_written : (high low b : ℕ) → code_unit 48 48 high low ≡ Some b
    → is_high_surrogate b ≡ false → is_low_surrogate b ≡ false → b ∷ [] ≡ encode_utf8 b
    → escape_byte b ≡ 92 ∷ 117 ∷ 48 ∷ 48 ∷ high ∷ low ∷ [] → IsWritten b
control_written high low b spells not_high not_low means is = inr (inr (inl (record {
  unit = b;
  not_high = not_high;
  not_low = not_low;
  written = record {
    first = 48;
    second = 48;
    third = high;
    fourth = low;
    spells = spells;
    is = is;
  };
  means = means;
})))

plain_written : (b : ℕ) → is_unescaped b ≡ true → escape_byte b ≡ b ∷ [] → IsWritten b
plain_written b plain is = inl (record {
  byte = b;
  plain = plain;
  is = ap (λ (bs : List ℕ). let c : Character = (bs, b ∷ []) in c) is;
})

-- what holds below a number, from the greatest down
abbrev Each : (ℕ → Type 0) → ℕ → Type 0
Each P zero = Unit {0}
Each P (suc n) = P n × Each P n

each_below : (P : ℕ → Type 0) (n : ℕ) → Each P n → (b : ℕ) → b < n → P b
each_below P zero each b less = absurd (omega arith)
each_below P (suc n) each b less = by (each_below P n each.1 b) (cases_eq b n)
  where
    by : (b < n → P b) → (b ≡ n) ⊎ (b ≡ n → ⊥) → P b
    by below (inl is) = subst P (sym is) each.0
    by below (inr other) = below (omega arith)

also : (n : ℕ) → IsWritten n → Each IsWritten n → Each IsWritten (suc n)
also n one each = (one, each)

controls : Each IsWritten 32
unfolding escape_byte short_escape code_unit encode_utf8
controls =
    also 31 (control_written 49 102 31 refl refl refl refl refl)
    (also 30 (control_written 49 101 30 refl refl refl refl refl)
    (also 29 (control_written 49 100 29 refl refl refl refl refl)
    (also 28 (control_written 49 99 28 refl refl refl refl refl)
    (also 27 (control_written 49 98 27 refl refl refl refl refl)
    (also 26 (control_written 49 97 26 refl refl refl refl refl)
    (also 25 (control_written 49 57 25 refl refl refl refl refl)
    (also 24 (control_written 49 56 24 refl refl refl refl refl)
    (also 23 (control_written 49 55 23 refl refl refl refl refl)
    (also 22 (control_written 49 54 22 refl refl refl refl refl)
    (also 21 (control_written 49 53 21 refl refl refl refl refl)
    (also 20 (control_written 49 52 20 refl refl refl refl refl)
    (also 19 (control_written 49 51 19 refl refl refl refl refl)
    (also 18 (control_written 49 50 18 refl refl refl refl refl)
    (also 17 (control_written 49 49 17 refl refl refl refl refl)
    (also 16 (control_written 49 48 16 refl refl refl refl refl)
    (also 15 (control_written 48 102 15 refl refl refl refl refl)
    (also 14 (control_written 48 101 14 refl refl refl refl refl)
    (also 13 (short_written 114 13 refl refl)
    (also 12 (short_written 102 12 refl refl)
    (also 11 (control_written 48 98 11 refl refl refl refl refl)
    (also 10 (short_written 110 10 refl refl)
    (also 9 (short_written 116 9 refl refl)
    (also 8 (short_written 98 8 refl refl)
    (also 7 (control_written 48 55 7 refl refl refl refl refl)
    (also 6 (control_written 48 54 6 refl refl refl refl refl)
    (also 5 (control_written 48 53 5 refl refl refl refl refl)
    (also 4 (control_written 48 52 4 refl refl refl refl refl)
    (also 3 (control_written 48 51 3 refl refl refl refl refl)
    (also 2 (control_written 48 50 2 refl refl refl refl refl)
    (also 1 (control_written 48 49 1 refl refl refl refl refl)
    (also 0 (control_written 48 48 0 refl refl refl refl refl) tt)))))))))))))))))))))))))))))))

quote_written : IsWritten 34
unfolding escape_byte short_escape
quote_written = short_written 34 34 refl refl

backslash_written : IsWritten 92
unfolding escape_byte short_escape
backslash_written = short_written 92 92 refl refl

unescaped : (b : ℕ) → (b ≡ 34 → ⊥) → (b ≡ 92 → ⊥) → 32 ≤ b → is_unescaped b ≡ true
unescaped b quote backslash shown =
    rw (le-leb 32 b shown, ne_eqb b 34 quote, ne_eqb b 92 backslash) refl

byte_written : (b : ℕ) → IsWritten b
byte_written b = by (cases_eq b 34) (cases_eq b 92) (cases_lt b 32)
  where
    by : (b ≡ 34) ⊎ (b ≡ 34 → ⊥) → (b ≡ 92) ⊎ (b ≡ 92 → ⊥) → (b < 32) ⊎ (32 ≤ b) → IsWritten b
    by (inl is) other less = subst IsWritten (sym is) quote_written
    by (inr quote) (inl is) less = subst IsWritten (sym is) backslash_written
    by (inr quote) (inr backslash) (inl less) = each_below IsWritten 32 controls b less
    by (inr quote) (inr backslash) (inr shown) =
        plain_written b (unescaped b quote backslash shown)
        (escape_byte_plain b quote backslash shown)

all_written : (text : List ℕ) → All IsCharacter (map written_byte text)
all_written [] = All-nil IsCharacter
all_written (b ∷ text) =
    All-cons IsCharacter (written_byte b) (map written_byte text) (byte_written b)
    (all_written text)

written_so : (text : List ℕ) → escape text ≡ as_written (map written_byte text)
written_so [] = refl
written_so (b ∷ text) = ap (λ bs. escape_byte b ++ bs) (written_so text)

meant_so : (text : List ℕ) → text ≡ as_meant (map written_byte text)
meant_so [] = refl
meant_so (b ∷ text) = ap (λ bs. b ∷ bs) (meant_so text)

-- what Silkwaram writes for a string means it
pub plain_string : (text : List ℕ) → IsString (escape text) text
plain_string text = record {
  characters = map written_byte text;
  each = all_written text;
  written_is = written_so text;
  text_is = meant_so text;
}

-- ---- arrays and rows as they are written

-- the array of a label's texts
pub plain_array : (ds : List Data) (left : List ℕ)
    → compact_text (array (items_of ds)) ++ left ≡ 91 ∷ (open_items false ds ++ 93 ∷ left)
plain_array ds left =
    sym (array_taken ds (91 ∷ (open_items false ds ++ 93 ∷ left)) (93 ∷ left) left refl refl)

-- the text of a row, and of those after it
pub plain_step : (later : Bool) (e : Entry) (es : Entries) (tail : List ℕ)
    → open_items later (cells_values (e ∷ es)) ++ tail
    ≡ comma_if later ++ plain_before (row_of e)
    (compact_text (label_value e.1.label) ++ 93 ∷ (open_items true (cells_values es) ++ tail))
plain_step later e es tail =
    let rest = open_items true (cells_values es) ++ tail in
    let label = compact_text (label_value e.1.label) ++ 93 ∷ rest in
    append_assoc (comma_if later)
    (compact_text (entry_value e) ++ open_items true (cells_values es)) tail
    ∙ ap (λ r. comma_if later ++ r)
    (append_assoc (compact_text (entry_value e)) (open_items true (cells_values es)) tail
    ∙ sym (row_taken (row_of e) e.1.label (plain_before (row_of e) label) label rest refl refl))

-- the row that is written for an entry
abbrev pub plain_row : Entry → CompactRow
plain_row e = record {
  entry = e;
  id = escape e.0.0;
  language = escape e.0.1;
  site = escape e.1.stamp.site;
  label = option_map (λ (texts : List (List ℕ)). map escape texts) e.1.label;
}

-- the rows that are written for some cells
abbrev pub plain_rows : Entries → List CompactRow
plain_rows cells = map plain_row cells

-- they are those of the cells
pub plain_entries : (cells : Entries) → entries (plain_rows cells) ≡ cells
plain_entries [] = refl
plain_entries (e ∷ es) = ap (λ (xs : Entries). e ∷ xs) (plain_entries es)

plain_strings : (texts : List (List ℕ)) → AreStrings (map escape texts) texts
plain_strings [] = tt
plain_strings (t ∷ texts) = (plain_string t, plain_strings texts)

plain_label : (label : Option (List (List ℕ)))
    → AreLabelStrings (option_map (λ (texts : List (List ℕ)). map escape texts) label) label
plain_label None = tt
plain_label (Some texts) = plain_strings texts

-- and they have no blanks
pub plain_compact : (cells : Entries) → All IsCompactRow (plain_rows cells)
plain_compact [] = All-nil IsCompactRow
plain_compact (e ∷ es) =
    All-cons IsCompactRow (plain_row e) (plain_rows es)
    (record {
      id = plain_string e.0.0;
      language = plain_string e.0.1;
      site = plain_string e.1.stamp.site;
      label = plain_label e.1.label;
    })
    (plain_compact es)

strings_same : (later : Bool) (texts : List (List ℕ))
    → strings_text later (map escape texts) ≡ open_items later (map string texts)
strings_same later [] = refl
strings_same later (t ∷ texts) =
    ap (λ bs. comma_if later ++ (in_quotes (escape t) ++ bs)) (strings_same true texts)

label_same : (label : Option (List (List ℕ))) (left : List ℕ)
    → closed_row (option_map (λ (texts : List (List ℕ)). map escape texts) label) left
    ≡ compact_text (label_value label) ++ 93 ∷ left
label_same None left = refl
label_same (Some texts) left =
    ap (λ bs. 91 ∷ bs)
    (append_assoc (strings_text false (map escape texts)) (93 ∷ []) (93 ∷ left)
    ∙ ap (λ bs. bs ++ 93 ∷ 93 ∷ left) (strings_same false texts))
    ∙ sym (plain_array (map string texts) (93 ∷ left))

-- their text is that of the cells
pub plain_rows_text : (later : Bool) (cells : Entries) (tail : List ℕ)
    → rows_text later (plain_rows cells) ++ tail ≡ open_items later (cells_values cells) ++ tail
plain_rows_text later [] tail = refl
plain_rows_text later (e ∷ es) tail =
    let rest = rows_text true (plain_rows es) ++ tail in
    rows_step later (plain_row e) (plain_rows es) tail
    ∙ ap (λ bs. comma_if later ++ plain_before (row_of e) bs)
    (label_same e.1.label rest
    ∙ ap (λ bs. compact_text (label_value e.1.label) ++ 93 ∷ bs) (plain_rows_text true es tail))
    ∙ sym (plain_step later e es tail)
