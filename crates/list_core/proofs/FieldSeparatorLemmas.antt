-- A walk over a field's bytes, from element to element.
--
-- The definition cuts a field at its commas, and empty pieces give nothing. The code skips
-- separators (blanks and commas) to the next byte of an element, and reads up to the next comma.
-- `IsWalkedTo` ties the two: the bytes left are the end of the pieces left, after some blanks.
-- Skipped separators are blanks before a piece, or empty pieces. What is left gets shorter with
-- each element.
use Rattle.std.proofs.Common.{ℕ, ◌≡◌, ◌≤◌, ◌<◌, ◌+◌, ◌-◌, ◌⊎◌, ◌==◌, true, false, inl, inr, List}
use Rattle.std.proofs.Common.{[], ◌∷◌, ◌++◌, length, sum_by, refl, sym, ◌∙◌, ap, subst, arith}
use Rattle.std.proofs.Common.{append_assoc, append-nil, length-append}
use Rattle.std.specs.List.{slice_split, onto_first}
use Rattle.std.proofs.lemmas.Bool.{cases_Bool, and_parts}
use Rattle.std.proofs.lemmas.Bool.Decides.{nat_tests}
use Rattle.std.proofs.lemmas.List.Splits.{slice_split-cons_yes, slice_split-cons_no}
use Rattle.std.proofs.lemmas.List.Sums.{sum_by-append}
use Rattle.std.specs.List.{list_all}
use Rattle.lang_core.specs.Text.{pieces_by}
use Rattle.lang_core.proofs.PiecesLemmas.{size_pieces, size_cons}
use Rattle.list_core.proofs.FieldWalk.{IsWalked, walked_start, walked_blank, walked_item}
use Rattle.list_core.proofs.FieldWalk.{walked_over, walked_all, stops_malformed, stops_fitting}
use Rattle.list_core.proofs.WeightLemmas.{skip_all, skip_only, skip_none}
use Rattle.list_core.specs.Weight.{is_blank, AreBlanks}
use Rattle.list_core.specs.inner.Weight.{skip_blanks}
use Rattle.list_core.proofs.FieldOverlongLemmas.{overlong_piece}
use Rattle.list_core.specs.Field.{IsField, IsFirstMalformed, HasElement, RefusesField}
use Rattle.list_core.specs.inner.Field.{IsStart, HasStart, BeginsOverlong, is_separator}
use Rattle.list_core.specs.inner.Field.{skip_separators, IsFirstPiece}
use Rattle.list_core.specs.Item.{Item}
use Rattle.list_core.specs.declared.scheme.Scheme.{Scheme}
use Rattle.list_core.specs.declared.field.Malformed.{Malformed}
use Rattle.list_core.specs.declared.field.Malformed.TheVariants.{Refused, PassedOver}
use Rattle.list_core.specs.declared.fault.NegoFault.TheVariants.{FieldMalformed}

-- ---- separators

-- A text has no more bytes where the separators at its front are skipped.
pub no_more : (text : List ℕ) → length (skip_separators text) ≤ length text
no_more [] = omega arith
no_more (b ∷ text) =
    let rest = no_more text in
    elim (cases_Bool (is_separator b)) [
      | inl e ↦ rw e (omega (arith, rest))
      | inr e ↦ rw e (omega arith)
    ]

-- The text is empty, or begins with another byte than a separator.
abbrev pub BeginsElement : List ℕ → Type 0
BeginsElement [] = Unit {0}
BeginsElement (b ∷ text) = is_separator b ≡ false

-- A text whose leading separators are skipped does not begin with one.
pub begins_element : (text : List ℕ) → BeginsElement (skip_separators text)
begins_element [] = tt
begins_element (b ∷ text) =
    let rest = begins_element text in
    elim (cases_Bool (is_separator b)) [
      | inl e ↦ rw e rest
      | inr e ↦ rw e e
    ]

comma_or_blank : (b : ℕ) → is_separator b ≡ true → (b ≡ 44) ⊎ (is_blank b ≡ true)
comma_or_blank b h = elim (cases_Bool (is_blank b)) [
  | inl e ↦ inr e
  | inr e ↦ inl (grind (arith, nat_tests))
]

no_separator : (b : ℕ) → is_separator b ≡ false → ((b == 44) ≡ false) × (is_blank b ≡ false)
no_separator b h = (grind (arith, nat_tests), grind (arith, nat_tests))

blank_no_comma : (b : ℕ) → is_blank b ≡ true → (b == 44) ≡ false
blank_no_comma b h = grind (arith, nat_tests)

-- ---- blanks before a piece

-- Blanks before a text belong to its first piece.
pub pieces_after_blanks : (blanks text piece : List ℕ) (more : List (List ℕ)) → AreBlanks blanks
    → pieces_by 44 text ≡ piece ∷ more → pieces_by 44 (blanks ++ text) ≡ (blanks ++ piece) ∷ more
unfolding pieces_by
pieces_after_blanks [] text piece more h e = e
pieces_after_blanks (b ∷ blanks) text piece more h e =
    let parts = and_parts (is_blank b) (list_all is_blank blanks) h in
    slice_split-cons_no (λ x. x == 44) b (blanks ++ text) (blank_no_comma b parts.0)
    ∙ ap (onto_first b) (pieces_after_blanks blanks text piece more parts.1 e)

-- A text that begins with a comma has an empty first piece, and then the pieces after the comma.
pub pieces_at_comma : (text : List ℕ) → pieces_by 44 (44 ∷ text) ≡ [] ∷ pieces_by 44 text
unfolding pieces_by
pieces_at_comma text = slice_split-cons_yes (λ x. x == 44) 44 text refl

-- The empty text has one piece, which is empty.
pub no_pieces : pieces_by 44 [] ≡ [] ∷ []
unfolding pieces_by
no_pieces = refl

push_blank : (blanks : List ℕ) (b : ℕ) → AreBlanks blanks → is_blank b ≡ true
    → AreBlanks (blanks ++ b ∷ [])
push_blank [] b h e = rw e refl
push_blank (x ∷ blanks) b h e = let parts = and_parts (is_blank x) (list_all is_blank blanks) h in
    rw parts.0 (push_blank blanks b parts.1 e)

-- ---- the walk

-- the bytes that are left are the end of the pieces that are left, after some blanks
pub record IsWalkedTo (scheme : Scheme) (malformed : Malformed) (field : List ℕ) (items : List Item)
    (rest : List ℕ) : Type 0 where
  pub tail : List (List ℕ)
  pub offset : ℕ
  pub walked : IsWalked scheme malformed field items tail offset
  pub blanks : List ℕ
  pub blanks_ok : AreBlanks blanks
  pub tail_is : (tail ≡ pieces_by 44 (blanks ++ rest)) ⊎ ((tail ≡ []) × (rest ≡ []))

from_piece : (scheme : Scheme) (malformed : Malformed) (field : List ℕ) (items : List Item)
    (rest : List ℕ) (offset : ℕ) → IsWalked scheme malformed field items (pieces_by 44 rest) offset
    → IsWalkedTo scheme malformed field items rest
from_piece scheme malformed field items rest offset w =
    record {
      tail = pieces_by 44 rest;
      offset = offset;
      walked = w;
      blanks = [];
      blanks_ok =
          refl;
      tail_is = inl refl;
    }

step : (scheme : Scheme) (malformed : Malformed) (field : List ℕ) (items : List Item) (b : ℕ)
    (rest : List ℕ) → IsWalkedTo scheme malformed field items (b ∷ rest) → is_separator b ≡ true
    → IsWalkedTo scheme malformed field items rest
step scheme malformed field items b rest w h = elim w.tail_is [
  | inl e ↦ elim (comma_or_blank b h) [
    | inl comma ↦
        (let cut : w.tail ≡ w.blanks ∷ pieces_by 44 rest =
        e ∙ (pieces_after_blanks w.blanks (b ∷ rest) [] (pieces_by 44 rest) w.blanks_ok
        (rw comma (pieces_at_comma rest))
        ∙ ap (λ (x : List ℕ). x ∷ pieces_by 44 rest) (append-nil w.blanks)) in
        from_piece scheme malformed field items rest (w.offset + (length w.blanks + 1))
        (walked_blank scheme malformed field items w.blanks [] (pieces_by 44 rest) w.offset
        (subst (λ (x : List (List ℕ)). IsWalked scheme malformed field items x w.offset) cut
        w.walked) (sym (skip_only w.blanks w.blanks_ok)) refl))
    | inr blank ↦ record {
      tail = w.tail;
      offset = w.offset;
      walked = w.walked;
      blanks = w.blanks ++ b ∷ [];
      blanks_ok = push_blank w.blanks b w.blanks_ok blank;
      tail_is = inl (e ∙ ap (pieces_by 44) (sym (append_assoc w.blanks (b ∷ []) rest)));
    }
  ]
  | inr e ↦ absurd (let size : length (b ∷ rest) ≡ 0 = ap length e.1 in omega arith)
]

-- A walk that has come to some bytes has come past the separators at their front.
pub walked_skip : (scheme : Scheme) (malformed : Malformed) (field : List ℕ) (items : List Item)
    (rest : List ℕ) → IsWalkedTo scheme malformed field items rest
    → IsWalkedTo scheme malformed field items (skip_separators rest)
walked_skip scheme malformed field items [] w = w
walked_skip scheme malformed field items (b ∷ rest) w = elim (cases_Bool (is_separator b)) [
  | inl e ↦
      rw e (walked_skip scheme malformed field items rest
      (step scheme malformed field items b rest w e))
  | inr e ↦ rw e w
]

-- A walk begins, without items, after the separators at the front of the field.
pub walked_from : (scheme : Scheme) (malformed : Malformed) (field : List ℕ)
    → IsWalkedTo scheme malformed field [] (skip_separators field)
walked_from scheme malformed field =
    walked_skip scheme malformed field [] field
    (from_piece scheme malformed field [] field 0 (walked_start scheme malformed field))

-- Where no bytes are left, the field gives the items.
pub walked_to_end : (scheme : Scheme) (malformed : Malformed) (field : List ℕ) (items : List Item)
    (rest : List ℕ) → IsWalkedTo scheme malformed field items rest → rest ≡ []
    → IsField scheme malformed field items
walked_to_end scheme malformed field items rest w none = elim w.tail_is [
  | inl e ↦
      (let last : w.tail ≡ w.blanks ∷ [] =
      e ∙ (ap (λ (x : List ℕ). pieces_by 44 (w.blanks ++ x)) none
      ∙ (pieces_after_blanks w.blanks [] [] [] w.blanks_ok no_pieces
      ∙ ap (λ (x : List ℕ). x ∷ []) (append-nil w.blanks))) in
      walked_all scheme malformed field items (w.offset + (length w.blanks + 1))
      (walked_blank scheme malformed field items w.blanks [] [] w.offset
      (subst (λ (x : List (List ℕ)). IsWalked scheme malformed field items x w.offset) last
      w.walked) (sym (skip_only w.blanks w.blanks_ok)) refl))
  | inr e ↦
      walked_all scheme malformed field items w.offset
      (subst (λ (x : List (List ℕ)). IsWalked scheme malformed field items x w.offset) e.0 w.walked)
]

-- ---- an element

-- a text's first piece and the pieces after it
pub record IsCutPiece (rest piece after : List ℕ) : Type 0 where
  pub more : List (List ℕ)
  pub whole : pieces_by 44 rest ≡ piece ∷ more
  pub more_is : (more ≡ pieces_by 44 after) ⊎ ((more ≡ []) × (after ≡ []))

-- What comes before a text's first comma is its first piece, and what follows has the other pieces.
pub cut_piece : (rest piece after : List ℕ) → IsFirstPiece rest piece after
    → IsCutPiece rest piece after
cut_piece rest piece after f = elim f [
  | inl e ↦ record { more = pieces_by 44 after; whole = e; more_is = inl refl }
  | inr e ↦ record { more = []; whole = e.0; more_is = inr (refl, e.1) }
]

-- What follows the first piece of a text that is not empty is shorter than the text.
pub cut_shorter : (rest piece after : List ℕ) → IsFirstPiece rest piece after → 0 < length rest
    → length after < length rest
cut_shorter rest piece after f some = elim f [
  | inl e ↦
      (let sizes : sum_by (λ s. length s + 1) (piece ∷ pieces_by 44 after) ≡ length rest + 1 =
      sym (ap (sum_by (λ s. length s + 1)) e) ∙ size_pieces 44 rest in
      let one = size_cons piece (pieces_by 44 after) in
      let left = size_pieces 44 after in
      omega arith)
  | inr e ↦ (let none : length after ≡ 0 = ap length e.1 in omega arith)
]

-- A text that begins with another byte than a comma has a first piece that begins with it.
pub first_byte : (b : ℕ) (rest piece : List ℕ) (more : List (List ℕ)) → (b == 44) ≡ false
    → pieces_by 44 (b ∷ rest) ≡ piece ∷ more → (tail : List ℕ) × (piece ≡ b ∷ tail)
unfolding pieces_by
first_byte b rest piece more other e =
    of_parts (slice_split (λ x. x == 44) rest)
    (sym (slice_split-cons_no (λ x. x == 44) b rest other) ∙ e) where
      of_parts : (parts : List (List ℕ)) → onto_first b parts ≡ piece ∷ more
          → (tail : List ℕ) × (piece ≡ b ∷ tail)
      of_parts [] h = ([], cc)
      of_parts (p ∷ parts) h = (p, cc)

-- the first piece of what begins with an element begins with it too
begins_too : (rest piece : List ℕ) (more : List (List ℕ)) → BeginsElement rest → 0 < length rest
    → pieces_by 44 rest ≡ piece ∷ more → (0 < length piece) × BeginsElement piece
begins_too [] piece more n some e = absurd (omega arith)
begins_too (b ∷ rest) piece more n some e =
    let first = first_byte b rest piece more (no_separator b n).0 e in
    rw first.1 (omega arith, n)

bare_piece : (blanks piece : List ℕ) → AreBlanks blanks → BeginsElement piece
    → skip_blanks (blanks ++ piece) ≡ piece
bare_piece blanks [] h n = skip_all blanks [] h
bare_piece blanks (b ∷ piece) h n =
    skip_all blanks (b ∷ piece) h ∙ skip_none b piece (no_separator b n).1

-- The piece that an element begins, and where the element begins.
pub record IsAtElement (scheme : Scheme) (malformed : Malformed) (field : List ℕ)
    (items : List Item) (rest element : List ℕ) (more : List (List ℕ)) : Type 0 where
  pub blanks : List ℕ
  pub offset : ℕ
  pub walked : IsWalked scheme malformed field items ((blanks ++ element) ∷ more) offset
  pub bare : element ≡ skip_blanks (blanks ++ element)
  pub some : 0 < length element
  pub begins : length field - length rest ≡ offset + (length (blanks ++ element) - length element)

stands_there : (scheme : Scheme) (malformed : Malformed) (field : List ℕ) (items : List Item)
    (blanks rest element : List ℕ) (more : List (List ℕ)) (offset : ℕ)
    → IsWalked scheme malformed field items ((blanks ++ element) ∷ more) offset
    → pieces_by 44 rest ≡ element ∷ more
    → length field - length rest ≡ offset + (length (blanks ++ element) - length element)
stands_there scheme malformed field items blanks rest element more offset w e =
    let whole : sum_by (λ s. length s + 1) (w.before ++ (blanks ++ element) ∷ more)
    ≡ length field + 1 = sym (ap (sum_by (λ s. length s + 1)) w.whole) ∙ size_pieces 44 field in
    let split : sum_by (λ s. length s + 1) (w.before ++ (blanks ++ element) ∷ more)
    ≡ sum_by (λ s. length s + 1) w.before
    + sum_by (λ s. length s + 1) ((blanks ++ element) ∷ more) = rw sum_by-append refl in
    let one = size_cons (blanks ++ element) more in
    let left : sum_by (λ s. length s + 1) (element ∷ more) ≡ length rest + 1 =
    sym (ap (sum_by (λ s. length s + 1)) e) ∙ size_pieces 44 rest in
    let two = size_cons element more in
    let padded : length (blanks ++ element) ≡ length blanks + length element =
    length-append blanks element in
    let o = w.offset_is in
    omega arith

-- Where bytes are left that do not begin with a separator, an element begins with them, up to the
-- next comma.
pub at_element : (scheme : Scheme) (malformed : Malformed) (field : List ℕ) (items : List Item)
    (rest element : List ℕ) (more : List (List ℕ)) → IsWalkedTo scheme malformed field items rest
    → BeginsElement rest → 0 < length rest → pieces_by 44 rest ≡ element ∷ more
    → IsAtElement scheme malformed field items rest element more
at_element scheme malformed field items rest element more w n some e = elim w.tail_is [
  | inl t ↦
      (let walked : IsWalked scheme malformed field items ((w.blanks ++ element) ∷ more) w.offset =
      subst (λ (x : List (List ℕ)). IsWalked scheme malformed field items x w.offset)
      (t ∙ pieces_after_blanks w.blanks rest element more w.blanks_ok e) w.walked in
      let first = begins_too rest element more n some e in
      record {
        blanks = w.blanks;
        offset = w.offset;
        walked = walked;
        bare = sym (bare_piece w.blanks element w.blanks_ok first.1);
        some = first.0;
        begins =
            stands_there scheme malformed field items w.blanks rest element more w.offset walked e;
      })
  | inr t ↦ absurd (let size : length rest ≡ 0 = ap length t.1 in omega arith)
]

-- After an element and the separators after it, the items end with that element's item.
pub element_read : (scheme : Scheme) (malformed : Malformed) (field : List ℕ) (items : List Item)
    (item : Item) (rest element after : List ℕ) → IsWalkedTo scheme malformed field items rest
    → BeginsElement rest → 0 < length rest → IsFirstPiece rest element after
    → IsStart scheme element item
    → IsWalkedTo scheme malformed field (items ++ item ∷ []) (skip_separators after)
element_read scheme malformed field items item rest element after w n some f s =
    let cut = cut_piece rest element after f in
    let at = at_element scheme malformed field items rest element cut.more w n some cut.whole in
    walked_skip scheme malformed field (items ++ item ∷ []) after (record {
      tail = cut.more;
      offset = at.offset + (length (at.blanks ++ element) + 1);
      walked =
          walked_item scheme malformed field items item (at.blanks ++ element) element cut.more
          at.offset at.walked at.bare s;
      blanks = [];
      blanks_ok = refl;
      tail_is = cut.more_is;
    })

-- A malformed element leaves the items as they are where such elements are passed over.
pub element_passed : (scheme : Scheme) (malformed : Malformed) (field : List ℕ) (items : List Item)
    (rest element after : List ℕ) → malformed ≡ PassedOver
    → IsWalkedTo scheme malformed field items rest → BeginsElement rest → 0 < length rest
    → IsFirstPiece rest element after → ((item : Item) → ¬ IsStart scheme element item)
    → IsWalkedTo scheme malformed field items (skip_separators after)
element_passed scheme Refused field items rest element after e w n some f none = absurd (cc)
element_passed scheme PassedOver field items rest element after e w n some f none =
    let cut = cut_piece rest element after f in
    let at = at_element scheme PassedOver field items rest element cut.more w n some cut.whole in
    walked_skip scheme PassedOver field items after (record {
      tail = cut.more;
      offset = at.offset + (length (at.blanks ++ element) + 1);
      walked =
          walked_over scheme field items (at.blanks ++ element) element cut.more at.offset at.walked
          at.bare none;
      blanks = [];
      blanks_ok = refl;
      tail_is = cut.more_is;
    })

element_malformed : (scheme : Scheme) (field : List ℕ) (items : List Item)
    (rest element after : List ℕ) → IsWalkedTo scheme Refused field items rest → BeginsElement rest
    → 0 < length rest → IsFirstPiece rest element after
    → ((item : Item) → ¬ IsStart scheme element item)
    → IsFirstMalformed scheme field (length field - length rest)
element_malformed scheme field items rest element after w n some f none =
    let cut = cut_piece rest element after f in
    let at = at_element scheme Refused field items rest element cut.more w n some cut.whole in
    subst (IsFirstMalformed scheme field) (sym at.begins)
    (stops_malformed scheme field items (at.blanks ++ element) element cut.more at.offset
    at.walked at.bare at.some none)

-- Where malformed elements are refused, one refuses the field, at the offset where it begins.
pub element_refused : (scheme : Scheme) (malformed : Malformed) (field : List ℕ) (items : List Item)
    (rest element after : List ℕ) → malformed ≡ Refused → length field ≤ 65535
    → IsWalkedTo scheme malformed field items rest → BeginsElement rest → 0 < length rest
    → IsFirstPiece rest element after → ((item : Item) → ¬ IsStart scheme element item)
    → RefusesField scheme malformed field (FieldMalformed (length field - length rest))
element_refused scheme PassedOver field items rest element after e short w n some f none =
    absurd (cc)
element_refused scheme Refused field items rest element after e short w n some f none =
    (short, element_malformed scheme field items rest element after w n some f none)

-- Where malformed elements are refused, more bytes than a range has refuse the field, at the offset
-- where they begin.
pub overlong_refused : (scheme : Scheme) (malformed : Malformed) (field : List ℕ)
    (items : List Item) (rest : List ℕ) → malformed ≡ Refused → length field ≤ 65535
    → IsWalkedTo scheme malformed field items rest → BeginsElement rest → 0 < length rest
    → BeginsOverlong rest
    → RefusesField scheme malformed field (FieldMalformed (length field - length rest))
overlong_refused scheme malformed field items rest e short w n some long =
    let p = overlong_piece scheme rest long in
    element_refused scheme malformed field items rest p.element p.after e short w n some p.first
    p.none

-- A field has an element where a walk has come to bytes that begin with one.
pub element_fits : (scheme : Scheme) (malformed : Malformed) (field : List ℕ) (items : List Item)
    (rest element after : List ℕ) → IsWalkedTo scheme malformed field items rest
    → BeginsElement rest → 0 < length rest → IsFirstPiece rest element after
    → HasStart scheme element → HasElement scheme malformed field
element_fits scheme malformed field items rest element after w n some f s =
    let cut = cut_piece rest element after f in
    let at = at_element scheme malformed field items rest element cut.more w n some cut.whole in
    stops_fitting scheme malformed field items (at.blanks ++ element) element cut.more at.offset
    at.walked at.bare at.some s

-- what is left is no longer than the field
pub rest_fits : (scheme : Scheme) (malformed : Malformed) (field : List ℕ) (items : List Item)
    (rest : List ℕ) → IsWalkedTo scheme malformed field items rest → length rest ≤ length field
rest_fits scheme malformed field items rest w = elim w.tail_is [
  | inl e ↦
      (let whole : sum_by (λ s. length s + 1) (w.walked.before ++ w.tail) ≡ length field + 1 =
      sym (ap (sum_by (λ s. length s + 1)) w.walked.whole) ∙ size_pieces 44 field in
      let split : sum_by (λ s. length s + 1) (w.walked.before ++ w.tail)
      ≡ sum_by (λ s. length s + 1) w.walked.before + sum_by (λ s. length s + 1) w.tail =
      rw sum_by-append refl in
      let left : sum_by (λ s. length s + 1) w.tail ≡ length (w.blanks ++ rest) + 1 =
      ap (sum_by (λ s. length s + 1)) e ∙ size_pieces 44 (w.blanks ++ rest) in
      let padded : length (w.blanks ++ rest) ≡ length w.blanks + length rest =
      length-append w.blanks rest in
      omega arith)
  | inr e ↦ (let size : length rest ≡ 0 = ap length e.1 in omega arith)
]
