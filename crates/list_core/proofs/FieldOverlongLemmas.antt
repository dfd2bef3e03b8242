-- An element that begins with more bytes than a range has.
use Rattle.std.proofs.Common.{ℕ, ◌≡◌, ◌≤◌, ◌<◌, ◌+◌, ◌==◌, inl, inr, List, [], ◌∷◌, ◌++◌, Option}
use Rattle.std.proofs.Common.{Some, None, true, false, get_or, length, take, drop, refl, sym, ◌∙◌}
use Rattle.std.proofs.Common.{ap, subst, arith, append_assoc, append-nil}
use Rattle.std.specs.Prelude.{zero, suc, position}
use Rattle.std.specs.List.{list_all}
use Rattle.std.specs.Str.{str_to_ascii_lowercase}
use Rattle.std.proofs.lemmas.Bool.{and_parts}
use Rattle.std.proofs.lemmas.Bool.Decides.{nat_tests}
use Rattle.std.proofs.lemmas.List.{length-map, take-append-drop}
use Rattle.std.proofs.lemmas.List.Quantifiers.{position-Some}
use Rattle.lang_core.proofs.PiecesLemmas.{pieces_whole, cut_of}
use Rattle.list_core.proofs.Basics.{element_at}
use Rattle.list_core.proofs.FieldElementLemmas.{range_is_sized, tail_ends}
use Rattle.list_core.specs.inner.Weight.{is_plain, EndsPlain}
use Rattle.list_core.specs.inner.Field.{IsStart, is_inner, BeginsOverlong, EndsInner}
use Rattle.list_core.specs.Item.{Item}
use Rattle.list_core.specs.inner.Field.{IsFirstPiece}
use Rattle.list_core.specs.declared.scheme.Scheme.{Scheme}

-- Where fewer bytes are before what ends a range, not so many bytes at the front end no range.
pub ends_early : (front rest : List ℕ) (n : ℕ) → length front < n → n ≤ length (front ++ rest)
    → EndsInner rest → list_all is_inner (take n (front ++ rest)) ≡ true → ⊥
ends_early [] [] n low high e h = omega arith
ends_early [] (b ∷ rest) zero low high e h = omega arith
ends_early [] (b ∷ rest) (suc n) low high e h = let inner =
    (and_parts (is_inner b) (list_all is_inner (take n rest)) h).0 in cc
ends_early (x ∷ front) rest zero low high e h = omega arith
ends_early (x ∷ front) rest (suc n) low high e h =
    ends_early front rest n (omega arith) (omega arith) e
    (and_parts (is_inner x) (list_all is_inner (take n (front ++ rest))) h).1

-- A stop ends a range.
pub stop_ends : (b : ℕ) → is_plain b ≡ false → is_inner b ≡ false
stop_ends b h = rw h refl

ends_both : (rest more : List ℕ) → EndsPlain rest → EndsInner more → EndsInner (rest ++ more)
ends_both [] more p e = e
ends_both (b ∷ rest) more p e = stop_ends b p

overlong : (scheme : Scheme) (text element more : List ℕ) → text ≡ element ++ more → EndsInner more
    → BeginsOverlong text → (item : Item) → ¬ IsStart scheme element item
overlong scheme text element more whole ends long item s =
    let sized = range_is_sized scheme (str_to_ascii_lowercase s.range) s.range_ok in
    let size : length (str_to_ascii_lowercase s.range) ≡ length s.range = simp length-map in
    let all : text ≡ s.range ++ (s.rest ++ more) =
    whole ∙ (ap (λ (x : List ℕ). x ++ more) s.whole ∙ append_assoc s.range s.rest more) in
    let longer : 255 < length (s.range ++ (s.rest ++ more)) =
    subst (λ (x : List ℕ). 255 < length x) all long.0 in
    ends_early s.range (s.rest ++ more) 256 (omega arith) (omega arith)
    (ends_both s.rest more (tail_ends scheme s.rest item.weight s.rest_ok) ends)
    (subst (λ (x : List ℕ). list_all is_inner (take 256 x) ≡ true) all long.1)

-- the first piece of a text, and what follows it
record IsCutAt (text : List ℕ) : Type 0 where
  element : List ℕ
  after : List ℕ
  more : List ℕ
  first : IsFirstPiece text element after
  whole : text ≡ element ++ more
  ends : EndsInner more

-- A byte that tests as a comma is one.
pub comma_is : (b : ℕ) → (b == 44) ≡ true → 44 ≡ b
comma_is b h = grind (arith, nat_tests)

cut_by : (text : List ℕ) (p : Option ℕ) → position (λ b. b == 44) text ≡ p → IsCutAt text
cut_by text None e =
    record {
      element = text;
      after = [];
      more = [];
      first =
          inr (pieces_whole 44 text e, refl);
      whole = sym (append-nil text);
      ends = tt;
    }
cut_by text (Some at) e =
    let facts = position-Some (λ b. b == 44) text at 44 e in
    let rest : drop at text ≡ 44 ∷ drop (at + 1) text =
    element_at text at 44 facts.0 (comma_is (get_or text at 44) facts.1) in
    record {
      element = take at text;
      after = drop (at + 1) text;
      more = 44 ∷ drop (at + 1) text;
      first = inl (cut_of 44 text text at refl (sym e));
      whole = sym (take-append-drop at text) ∙ ap (λ (x : List ℕ). take at text ++ x) rest;
      ends = refl;
    }

-- the first piece of a text that begins so is no element
pub record IsOverlongPiece (scheme : Scheme) (text : List ℕ) : Type 0 where
  pub element : List ℕ
  pub after : List ℕ
  pub first : IsFirstPiece text element after
  pub none : (item : Item) → ¬ IsStart scheme element item

-- A text that begins with more bytes than a range has begins with a piece that is no element.
pub overlong_piece : (scheme : Scheme) (text : List ℕ) → BeginsOverlong text
    → IsOverlongPiece scheme text
overlong_piece scheme text long =
    let cut = cut_by text (position (λ b. b == 44) text) refl in
    record {
      element = cut.element;
      after = cut.after;
      first = cut.first;
      none =
          overlong scheme text cut.element cut.more cut.whole cut.ends long;
    }
