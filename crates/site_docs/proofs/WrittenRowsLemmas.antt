-- Rows that are read one after another.
use Rattle.std.proofs.Common.{◌≡◌, ◌∙◌, ◌+◌, ◌++◌, ◌<◌, ℕ, List, [], ◌∷◌, Option, append-nil, ap}
use Rattle.std.proofs.Common.{arith, codes, false, length, length-append, refl, subst, sym, true}
use Rattle.std.proofs.lemmas.List.Elements.{All-nil}
use Rattle.std.proofs.lemmas.Option.{MatchOption-from_none}
use Rattle.std.specs.List.{cons_option}
use Rattle.std.specs.Prelude.{IfSome, IsUtf8, MatchOption, None, Some, option_map, ⊤}
use Rattle.std.specs.declared.cmp.Ordering.TheVariants.{Less}
use Rattle.json.specs.Print.{quoted}
use Rattle.serde_json.specs.Written.{comma_if, compact_text}
use Rattle.cell_core.specs.SiteName.{IsSiteName}
use Rattle.cell_core.specs.Entry.{key_cmp}
use Rattle.catalogue.specs.Entries.{Entries, Entry}
use Rattle.row_docs.specs.Entries.{cells_values, entry_value}
use Rattle.row_docs.specs.Fields.{IsAfter}
use Rattle.row_docs.specs.Kinds.{kind_text, subject_of}
use Rattle.row_docs.specs.declared.kind.Kind.TheVariants.{Site}
use Rattle.site_docs.specs.Plain.{IsEnd, is_later, last_members, open_items}
use Rattle.site_docs.specs.PlainRows.{key_in}
use Rattle.site_docs.specs.inner.PlainRows.{IsLastOf}
use Rattle.site_docs.specs.Reading.{ReadsAsSite}
use Rattle.site_docs.specs.WrittenRows.{HasRead, IsLastRead, IsRead, current_of, entry_at}
use Rattle.site_docs.specs.WrittenRows.{left_in}
use Rattle.site_docs.specs.declared.plain.written_rows.ReadRow.{ReadRow}
use Rattle.site_docs.specs.declared.plain.written_rows.WrittenRows.{WrittenRows}
use Rattle.site_docs.proofs.PlainLemmas.{array_taken, cell_taken, cells_kept, document_taken}
use Rattle.site_docs.proofs.PlainLemmas.{is_later-push, last_taken, none_kept}
use Rattle.site_docs.proofs.PlainReads.{plain_site}

-- an array without rows
pub none_read : (bytes body : List ℕ) (rows : WrittenRows)
    → bytes ≡ 123 ∷ (quoted (codes "cells") ++ 58 ∷ body) → IsUtf8 bytes
    → body ≡ 91 ∷ rows.rest.now → rows.row ≡ None → HasRead bytes rows []
none_read bytes body rows opening utf8 is none = record {
  body = body;
  opening = opening;
  utf8 = utf8;
  text = is;
  kept = none_kept;
  last = MatchOption-from_none rows.row (IsLastRead []) none;
}

-- the first row
pub first_read : (bytes body begun : List ℕ) (rows : WrittenRows) (row : ReadRow)
    → bytes ≡ 123 ∷ (quoted (codes "cells") ++ 58 ∷ body) → IsUtf8 bytes → body ≡ 91 ∷ begun
    → rows.row ≡ Some row → IsRead row
    → begun ≡ compact_text (entry_value (entry_at row)) ++ rows.rest.now
    → HasRead bytes rows (entry_at row ∷ [])
first_read bytes body begun rows row opening utf8 is first read begins =
    let e = entry_at row in
    let above = All-nil (λ (x : Entry). key_cmp x.0 e.0 ≡ Less) in record {
      body = body;
      opening = opening;
      utf8 = utf8;
      text = cell_taken [] (e ∷ []) e body begun rows.rest.now is begins refl;
      kept = cells_kept [] (e ∷ []) e none_kept read.kept above refl;
      last =
          subst (λ (o : Option ReadRow). MatchOption o ⊤ (IsLastRead (e ∷ []))) (sym first)
          (read, ([], refl, above));
    }

-- the row after the last one
pub next_read : (bytes : List ℕ) (old new : WrittenRows) (cells : Entries) (row next : ReadRow)
    (text : List ℕ) → HasRead bytes old cells → old.row ≡ Some row
    → old.rest.now ≡ 44 ∷ text → new.row ≡ Some next → IsRead next
    → IsAfter (Some (key_in row.spelled.front)) (entry_at next).0
    → text ≡ compact_text (entry_value (entry_at next)) ++ new.rest.now
    → HasRead bytes new (cells ++ current_of new)
next_read bytes old new cells row next text has was comma now read after begins =
    let e = entry_at next in
    let last = subst (λ (o : Option ReadRow). MatchOption o ⊤ (IsLastRead cells)) was has.last in
    let before = last.1.0 in
    let is = last.1.1 in
    let all : IsLastOf (Some (key_in row.spelled.front)) cells =
    subst (IsLastOf (Some (key_in row.spelled.front))) (sym is)
    (last_taken before (entry_at row) last.1.2) in
    let above = all e.0 after in
    let later : is_later cells ≡ true = ap is_later is ∙ is_later-push before (entry_at row) in
    subst (λ (o : Option ReadRow).
    HasRead bytes new (cells ++ cons_option (option_map entry_at o) [])) (sym now)
    (record {
      body = has.body;
      opening = has.opening;
      utf8 = has.utf8;
      text =
          cell_taken cells (cells ++ e ∷ []) e has.body old.rest.now new.rest.now has.text
          (comma ∙ ap (λ t. 44 ∷ t) begins
          ∙ ap (λ b. comma_if b ++ (compact_text (entry_value e) ++ new.rest.now)) (sym later))
          refl;
      kept = cells_kept cells (cells ++ e ∷ []) e has.kept read.kept above refl;
      last =
          subst (λ (o : Option ReadRow). MatchOption o ⊤ (IsLastRead (cells ++ e ∷ []))) (sym now)
          (read, (cells, refl, above));
    })

-- after the last row there is none
pub all_read : (bytes : List ℕ) (old new : WrittenRows) (cells : Entries)
    → HasRead bytes old cells → new.row ≡ None → new.rest.now ≡ old.rest.now
    → HasRead bytes new (cells ++ current_of new)
all_read bytes old new cells has none same =
    subst (λ (o : Option ReadRow).
    HasRead bytes new (cells ++ cons_option (option_map entry_at o) [])) (sym none)
    (subst (HasRead bytes new) (sym (append-nil cells)) (record {
      body = has.body;
      opening = has.opening;
      utf8 = has.utf8;
      text = has.text ∙ ap (λ r. 91 ∷ (open_items false (cells_values cells) ++ r)) (sym same);
      kept = has.kept;
      last = MatchOption-from_none new.row (IsLastRead cells) none;
    }))

-- the members after the rows: the document is that of a site with the cells that were read
pub read_closes : (rows : WrittenRows) (name : Option (List ℕ)) (left : List ℕ)
    → rows.rest.now ≡ 93 ∷ left
    → IfSome name (λ n. (end : List ℕ) × IsEnd end
    × (left ≡ last_members (kind_text Site) (subject_of Site) n end))
    → IfSome name (λ n. IsSiteName n)
    → IfSome name (λ n. (bytes : List ℕ) (cells : Entries) → HasRead bytes rows cells
    → ReadsAsSite bytes (record { name = n; cells = cells }))
read_closes rows None left bracket members named = tt
read_closes rows (Some n) left bracket members named = λ bytes cells has.
    plain_site bytes n cells (record {
      text =
          document_taken Site bytes has.body left n members.0 cells has.opening
          (array_taken (cells_values cells) has.body rows.rest.now left has.text bracket)
          members.1 members.2;
      utf8 = has.utf8;
      is_name = named;
      kept = has.kept;
    })

-- ---- how much is left

-- after the last row less is left
pub fewer_after : (old : WrittenRows) → 0 < length (current_of old)
    → length old.rest.now + 0 < left_in old
fewer_after old some = omega (arith, some)

-- after each other one too
pub fewer_next : (old : WrittenRows) (rest text row : List ℕ) → old.rest.now ≡ 44 ∷ text
    → text ≡ row ++ rest → 0 < length (current_of old) → length rest + 1 < left_in old
fewer_next old rest text row comma begins some =
    let before = ap length comma in
    let after = ap length begins ∙ length-append row rest in
    omega (arith, some, before, after)
