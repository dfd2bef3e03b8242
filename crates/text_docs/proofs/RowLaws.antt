-- Rows begin where they read so, and nowhere else.
use Rattle.std.proofs.Common.{◌≡◌, ◌∙◌, ◌<◌, ◌++◌, ◌∷◌, [], ℕ, List, true}
use Rattle.std.proofs.Common.{◌&&◌, IsTrue, inl, inr, refl, ap, sym, subst, arith, drop}
use Rattle.std.proofs.Common.{append_assoc, codes, decimal, length}
use Rattle.std.specs.Prelude.{◌↔◌, nat_le}
use Rattle.std.specs.List.{All, join_with_byte, list_all}
use Rattle.std.proofs.lemmas.Bool.Decides.{nat_tests}
use Rattle.std.proofs.lemmas.List.Elements.{All-head}
use Rattle.json.specs.Print.{escape, escape_byte, quoted}
use Rattle.serde_json.specs.Written.{compact_text}
use Rattle.lang_core.specs.Grammar.{are_allowed, is_alphanum, is_private_piece, is_run, tag_piece}
use Rattle.lang_core.specs.Lang.{IsLang}
use Rattle.lang_core.specs.Tag.{IsTag}
use Rattle.lang_core.specs.Text.{pieces}
use Rattle.lang_core.proofs.PiecesLemmas.{joined-pieces, some_pieces}
use Rattle.catalogue.specs.Entries.{Entries, Entry}
use Rattle.catalogue.proofs.Basics.{first_so, second_so}
use Rattle.row_docs.specs.Entries.{cells_values}
use Rattle.row_docs.specs.EntriesValid.{IsKeptCell}
use Rattle.row_docs.specs.EntriesValues.{label_value}
use Rattle.row_docs.specs.declared.kind.Kind.TheVariants.{Site}
use Rattle.site_docs.specs.Plain.{IsPlainText, last_members, open_items}
use Rattle.text_docs.specs.Row.{ReadsAsRow, begins_language}
use Rattle.text_docs.specs.Rows.{IsRowEnd}
use Rattle.text_docs.specs.RowsCompact.{CompactRow, entries, rows_text}
use Rattle.text_docs.proofs.ListLemmas.{All-back, tail_of}
use Rattle.text_docs.proofs.MessageLaws.{written_rows}
use Rattle.text_docs.proofs.PartLemmas.{drop_more, entries_around, row_of_place}
use Rattle.text_docs.proofs.RowStringsLemmas.{string_unclosed}
use Rattle.text_docs.proofs.RowsPlainLemmas.{plain_entries, plain_rows, plain_rows_text, plain_step}
use Rattle.text_docs.proofs.RowsPlainLemmas.{plain_string}

-- ---- the first byte of a language

-- a text that begins with a byte of a language
abbrev Begins : List ℕ → Type 0
Begins text = (b : ℕ) × (rest : List ℕ) × (text ≡ b ∷ rest) × (begins_language b ≡ true)

letter_or_digit : (b : ℕ) → is_alphanum b ≡ true → begins_language b ≡ true
letter_or_digit b is = grind (arith, nat_tests)

first_letter : (b : ℕ) (s : List ℕ) → is_private_piece (b ∷ s) ≡ true → begins_language b ≡ true
unfolding is_private_piece is_run
first_letter b s is =
    let sized = nat_le 1 (length (b ∷ s)) && nat_le (length (b ∷ s)) 8 in
    letter_or_digit b
    (first_so (is_alphanum b) (list_all is_alphanum s)
    (second_so sized (is_alphanum b && list_all is_alphanum s) is))

joined_begins : (s : List ℕ) (more : List (List ℕ)) → is_private_piece s ≡ true
    → Begins (join_with_byte 45 (s ∷ more))
unfolding is_private_piece is_run
joined_begins [] more is = cc
joined_begins (b ∷ s) [] is = (b, s, refl, first_letter b s is)
joined_begins (b ∷ s) (t ∷ more) is =
    (b, s ++ 45 ∷ join_with_byte 45 (t ∷ more), refl, first_letter b s is)

tag_begins : (text : List ℕ) → IsTag text → Begins text
tag_begins text is = by (pieces text) refl (some_pieces text) is.1
  where
    by : (ps : List (List ℕ)) → pieces text ≡ ps → 0 < length (pieces text)
        → IsTrue (are_allowed tag_piece 0 (pieces text)) → Begins text
    by [] none some allowed = absurd (omega (arith, some, ap length none))
    by (s ∷ more) same some allowed =
        let first : is_private_piece s ≡ true =
        first_so (is_private_piece s) (are_allowed tag_piece 1 more)
        (subst (λ (ps : List (List ℕ)). are_allowed tag_piece 0 ps ≡ true) same allowed) in
        subst Begins (ap (join_with_byte 45) (sym same) ∙ joined-pieces text)
        (joined_begins s more first)

lang_begins : (text : List ℕ) → IsLang text → Begins text
lang_begins text (inl none) = subst Begins (sym none) (64, codes "none", refl, refl)
lang_begins text (inr tag) = tag_begins text tag

plain_byte : (b : ℕ) → begins_language b ≡ true → escape_byte b ≡ b ∷ []
unfolding escape_byte
plain_byte b begins = grind (arith, nat_tests)

-- ---- a row reads as one

row_reads : (e : Entry) (es : Entries) (tail : List ℕ) → IsLang e.0.1
    → ReadsAsRow (93 ∷ (open_items true (cells_values (e ∷ es)) ++ tail)) (escape e.0.0)
row_reads e es tail lang =
    let begins = lang_begins e.0.1 lang in
    let last = compact_text (label_value e.1.label)
    ++ 93 ∷ (open_items true (cells_values es) ++ tail) in
    let left = 44 ∷ (decimal e.1.stamp.time ++ 44 ∷ (quoted e.1.stamp.site
    ++ 44 ∷ (decimal e.1.stamp.count ++ 44 ∷ last))) in
    let language : escape e.0.1 ≡ begins.0 ∷ escape begins.1 =
    ap escape begins.2 ∙ ap (λ bs. bs ++ escape begins.1) (plain_byte begins.0 begins.3) in record {
      first = begins.0;
      rest = (escape begins.1 ++ 34 ∷ []) ++ left;
      text_is =
          ap (λ bs. 93 ∷ bs) (plain_step true e es tail)
          ∙ ap (λ bs. 93 ∷ 44 ∷ 91 ∷ 34 ∷ bs)
          (append_assoc (escape e.0.0) (34 ∷ []) (44 ∷ (quoted e.0.1 ++ left))
          ∙ ap (λ bs. escape e.0.0 ++ 34 ∷ 44 ∷ 34 ∷ ((bs ++ 34 ∷ []) ++ left)) language);
      unclosed = string_unclosed (escape e.0.0) e.0.0 (plain_string e.0.0);
      language = begins.3;
    }

-- the last of the rows that are written for some cells are written for their entries
plain_back : (cells : Entries) (before rest : List CompactRow)
    → plain_rows cells ≡ before ++ rest → rest ≡ plain_rows (entries rest)
plain_back cells [] rest is =
    sym is ∙ ap plain_rows (sym (plain_entries cells) ∙ ap entries is)
plain_back [] (row ∷ before) rest is = absurd (cc)
plain_back (e ∷ es) (row ∷ before) rest is = plain_back es before rest (ap tail_of is)

-- a row but the first begins exactly where it reads so
pub where_it_reads_so : (text name : List ℕ) (cells : Entries) (place : ℕ)
    → IsPlainText Site text name cells
    → IsRowEnd text name cells place ↔ ((id : List ℕ) × ReadsAsRow (drop place text) id)
where_it_reads_so text name cells place plain = (reads, begins)
  where
    reads : IsRowEnd text name cells place → (id : List ℕ) × ReadsAsRow (drop place text) id
    reads row =
        let one =
        (All-head IsKeptCell row.entry row.after
        (All-back IsKeptCell row.before (row.entry ∷ row.after)
        (subst (λ (es : Entries). All IsKeptCell es) row.cells_are plain.kept.each))).0 in (
          escape row.entry.0.0,
          subst (λ (bs : List ℕ). ReadsAsRow bs (escape row.entry.0.0)) (sym row.text_is)
              (row_reads row.entry row.after
              (93 ∷ last_members (codes "site") (codes "site") name row.end) one.lang),
        )

    begins : (id : List ℕ) × ReadsAsRow (drop place text) id → IsRowEnd text name cells place
    begins (id, is) =
        let written = written_rows text name cells plain in
        let tail = 93 ∷ last_members (codes "site") (codes "site") name written.0 in
        let at = row_of_place text id (plain_rows cells) tail place written.1 is in
        let last = at.row ∷ at.after in
        let plain_last : rows_text true last ++ tail
        ≡ open_items true (cells_values (entries last)) ++ tail =
        ap (λ (rs : List CompactRow). rows_text true rs ++ tail)
        (plain_back cells at.before last at.rows_are)
        ∙ plain_rows_text true (entries last) tail in record {
          before = entries at.before;
          entry = at.row.entry;
          after = entries at.after;
          end = written.0;
          cells_are =
              sym (plain_entries cells) ∙ ap entries at.rows_are
              ∙ entries_around at.before at.row at.after;
          text_is =
              is.text_is
              ∙ ap (λ bs. 93 ∷ bs)
              (sym (drop_more place 1 text _ is.text_is) ∙ at.comma_is ∙ plain_last);
        }
