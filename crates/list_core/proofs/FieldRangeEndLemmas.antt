-- An element that is cut where its range ends.
use Rattle.std.proofs.Common.{ℕ, ◌≡◌, ◌≤◌, ◌<◌, ◌-◌, ◌==◌, inl, inr, List, [], ◌∷◌, ◌++◌}
use Rattle.std.proofs.Common.{true, false, length, take, drop, refl, sym, ◌∙◌, ap, subst, arith}
use Rattle.std.proofs.Common.{length-drop, length-take-le, length-append}
use Rattle.std.specs.Prelude.{not}
use Rattle.std.specs.List.{list_all, onto_first}
use Rattle.std.specs.Str.{str_to_ascii_lowercase}
use Rattle.std.proofs.Math.Seq.{take-append_seam}
use Rattle.std.proofs.lemmas.Bool.{and_from, and_parts, cases_Bool, cases_lt}
use Rattle.std.proofs.lemmas.List.{length-map, take_all, take-append-drop}
use Rattle.std.proofs.lemmas.List.Splits.{slice_split-cons_no}
use Rattle.lang_core.specs.Text.{pieces_by}
use Rattle.lang_core.specs.Range.{IsRange}
use Rattle.list_core.proofs.FieldElementLemmas.{range_is_sized, tail_ends, no_item_range}
use Rattle.list_core.proofs.FieldElementLemmas.{no_item_weight}
use Rattle.list_core.proofs.FieldElementLemmas.{has_item}
use Rattle.list_core.proofs.FieldOverlongLemmas.{ends_early, stop_ends, comma_is}
use Rattle.list_core.proofs.FieldSeparatorLemmas.{cut_piece, first_byte, no_pieces, pieces_at_comma}
use Rattle.list_core.specs.inner.Weight.{is_plain, EndsPlain, IsCut}
use Rattle.list_core.specs.Field.{RangeGrammar, WeightGrammar}
use Rattle.list_core.specs.inner.Field.{IsStart, HasStart, is_inner, EndsInner, IsBegun, IsRangeEnd}
use Rattle.list_core.specs.inner.Field.{BeginsOverlong, IsFirstPiece}
use Rattle.list_core.specs.Item.{Item}
use Rattle.list_core.specs.inner.Weight.{IsTail}
use Rattle.list_core.specs.declared.scheme.Scheme.{Scheme}

-- ---- the element is the range and its tail

inner_no_comma : (b : ℕ) → is_inner b ≡ true → (b == 44) ≡ false
inner_no_comma b h =
    let no : not (b == 44) ≡ true = (and_parts (is_plain b) (not (b == 44)) h).1 in
    elim (cases_Bool (b == 44)) [ inl e ↦ absurd (cc) | inr e ↦ e ]

pieces_after_inner : (front text piece : List ℕ) (more : List (List ℕ))
    → list_all is_inner front ≡ true → pieces_by 44 text ≡ piece ∷ more
    → pieces_by 44 (front ++ text) ≡ (front ++ piece) ∷ more
unfolding pieces_by
pieces_after_inner [] text piece more h e = e
pieces_after_inner (b ∷ front) text piece more h e =
    let parts = and_parts (is_inner b) (list_all is_inner front) h in
    slice_split-cons_no (λ x. x == 44) b (front ++ text) (inner_no_comma b parts.0)
    ∙ ap (onto_first b) (pieces_after_inner front text piece more parts.1 e)

first_after_inner : (front text piece after : List ℕ) → list_all is_inner front ≡ true
    → IsFirstPiece text piece after → IsFirstPiece (front ++ text) (front ++ piece) after
first_after_inner front text piece after h f = elim f [
  | inl e ↦ inl (pieces_after_inner front text piece (pieces_by 44 after) h e)
  | inr e ↦ inr (pieces_after_inner front text piece [] h e.0, e.1)
]

rest_is : (text : List ℕ) (end : ℕ) → end ≤ length text
    → take (length text - end) (drop end text) ≡ drop end text
rest_is text end h = grind (arith, take_all, length-drop)

-- The bytes before the end of a range and the first piece of what follows are the first piece.
pub whole_piece : (text tail after : List ℕ) (end : ℕ) → IsRangeEnd text end
    → IsFirstPiece (take (length text - end) (drop end text)) tail after
    → IsFirstPiece text (take end text ++ tail) after
whole_piece text tail after end r f =
    let g : IsFirstPiece (drop end text) tail after =
    subst (λ (x : List ℕ). IsFirstPiece x tail after) (rest_is text end r.within) f in
    subst (λ (x : List ℕ). IsFirstPiece x (take end text ++ tail) after) (take-append-drop end text)
    (first_after_inner (take end text) (drop end text) tail after r.inner g)

no_plain : (b : ℕ) → is_inner b ≡ false → (b == 44) ≡ false → is_plain b ≡ false
no_plain b h e = elim (cases_Bool (is_plain b)) [
  | inl p ↦ absurd (let inner : is_inner b ≡ true = rw (p, e) refl in cc)
  | inr p ↦ p
]

first_of : (piece : List ℕ) (more : List (List ℕ)) (other : List (List ℕ))
    → [] ∷ other ≡ piece ∷ more → piece ≡ []
first_of piece more other e = cc

ends_plain : (text piece : List ℕ) (more : List (List ℕ)) → EndsInner text
    → pieces_by 44 text ≡ piece ∷ more → EndsPlain piece
ends_plain [] piece more h e =
    subst EndsPlain (sym (first_of piece more [] (sym no_pieces ∙ e))) tt
ends_plain (b ∷ text) piece more h e = elim (cases_Bool (b == 44)) [
  | inl comma ↦
      (let begins : pieces_by 44 (44 ∷ text) ≡ piece ∷ more =
      ap (λ (x : ℕ). pieces_by 44 (x ∷ text)) (comma_is b comma) ∙ e in
      subst EndsPlain
      (sym (first_of piece more (pieces_by 44 text) (sym (pieces_at_comma text) ∙ begins))) tt)
  | inr other ↦
      (let first = first_byte b text piece more other e in
      subst EndsPlain (sym first.1) (no_plain b h other))
]

-- The bytes before the end of a range begin the first piece, and what follows begins with a stop.
pub piece_begun : (text tail after : List ℕ) (end : ℕ) → IsRangeEnd text end
    → IsFirstPiece (take (length text - end) (drop end text)) tail after
    → IsBegun (take end text) tail
piece_begun text tail after end r f = record {
  inner = r.inner;
  ends = λ short.
      let size : length (take end text) ≡ end = length-take-le end text r.within in
      let cut = cut_piece (drop end text) tail after
      (subst (λ (x : List ℕ). IsFirstPiece x tail after) (rest_is text end r.within) f) in
      ends_plain (drop end text) tail cut.more (r.ends (omega arith)) cut.whole;
}

-- A range that ends after more bytes than one has begins an overlong text.
pub end_overlong : (text : List ℕ) (end : ℕ) → IsRangeEnd text end → 255 < end
    → BeginsOverlong text
end_overlong text end r long =
    let same : end ≡ 256 = (let m = r.most in omega arith) in (
      (let w = r.within in omega arith),
      subst (λ (n : ℕ). list_all is_inner (take n text) ≡ true) same r.inner,
    )

-- ---- which item fits

all_plain : (text : List ℕ) → list_all is_inner text ≡ true → list_all is_plain text ≡ true
all_plain [] h = refl
all_plain (b ∷ text) h =
    let parts = and_parts (is_inner b) (list_all is_inner text) h in
    and_from (is_plain b) (list_all is_plain text)
    (and_parts (is_plain b) (not (b == 44)) parts.0).0 (all_plain text parts.1)

begun_cut : (range tail : List ℕ) → IsBegun range tail → length range < 256
    → IsCut (range ++ tail) range tail
begun_cut range tail b short =
    record { whole = refl; plain = all_plain range b.inner; ends = b.ends short }

ends_inner : (text : List ℕ) → EndsPlain text → EndsInner text
ends_inner [] e = tt
ends_inner (b ∷ text) e = stop_ends b e

none_of_overlong : (scheme : Scheme) (range tail : List ℕ) → list_all is_inner range ≡ true
    → 255 < length range → (item : Item) → ¬ IsStart scheme (range ++ tail) item
none_of_overlong scheme range tail inner long item s =
    let sized = range_is_sized scheme (str_to_ascii_lowercase s.range) s.range_ok in
    let size : length (str_to_ascii_lowercase s.range) ≡ length s.range = simp length-map in
    let both : length (range ++ tail) ≡ length (s.range ++ s.rest) = ap length s.whole in
    let sum = length-append range tail in
    ends_early s.range s.rest (length range) (omega arith) (omega arith)
    (ends_inner s.rest (tail_ends scheme s.rest item.weight s.rest_ok))
    (subst (λ (x : List ℕ). list_all is_inner (take (length range) x) ≡ true) s.whole
    (subst (λ (x : List ℕ). list_all is_inner x ≡ true) (sym (take-append_seam range tail)) inner))

-- No item fits bytes that are no range, with their tail.
pub no_begun_range : (scheme : Scheme) (range tail : List ℕ) → IsBegun range tail
    → ¬ IsRange (RangeGrammar scheme) (str_to_ascii_lowercase range) → (item : Item)
    → ¬ IsStart scheme (range ++ tail) item
no_begun_range scheme range tail b h item = elim (cases_lt (length range) 256) [
  | inl short ↦
      no_item_range scheme (range ++ tail) range tail (begun_cut range tail b short) h item
  | inr long ↦ none_of_overlong scheme range tail b.inner (omega arith) item
]

-- No item fits bytes with a tail that may not follow a range.
pub no_begun_weight : (scheme : Scheme) (range tail : List ℕ) → IsBegun range tail
    → ((n : ℕ) → ¬ IsTail (WeightGrammar scheme) tail n) → (item : Item)
    → ¬ IsStart scheme (range ++ tail) item
no_begun_weight scheme range tail b h item = elim (cases_lt (length range) 256) [
  | inl short ↦
      no_item_weight scheme (range ++ tail) range tail (begun_cut range tail b short) h item
  | inr long ↦ none_of_overlong scheme range tail b.inner (omega arith) item
]

-- An item fits a range with what may follow one.
pub has_begun_item : (scheme : Scheme) (range tail : List ℕ) (n : ℕ) → IsBegun range tail
    → IsRange (RangeGrammar scheme) (str_to_ascii_lowercase range)
    → IsTail (WeightGrammar scheme) tail n → HasStart scheme (range ++ tail)
has_begun_item scheme range tail n b r t =
    let sized = range_is_sized scheme (str_to_ascii_lowercase range) r in
    let size : length (str_to_ascii_lowercase range) ≡ length range = simp length-map in
    has_item scheme (range ++ tail) range tail n (begun_cut range tail b (omega arith)) r t
