-- Fronts of texts and fronts of lists of subtags.
--
-- RFC 4647, section 3.3.1, matches a range to a tag if its subtags are the tag's first ones. Here
-- the same is decided by bytes: the range is a front of the tag, and right after it the tag ends or
-- has a hyphen. A text whose bytes go on after the front, at the end of a subtag, has the front's
-- subtags first, and the other way round. Lower case changes neither hyphens nor lengths.
use Rattle.std.proofs.Common.{ℕ, ◌≡◌, ◌<◌, ◌+◌, inl, inr, List, [], ◌∷◌, ◌++◌, Bool, true, false}
use Rattle.std.proofs.Common.{length, take, drop, refl, sym, ◌∙◌, ap, subst, arith, append_assoc}
use Rattle.std.proofs.Common.{append-nil, length-append, take-append-drop}
use Rattle.std.specs.Prelude.{◌&&◌, ◌↔◌, IsTrue, nat_le}
use Rattle.std.specs.Str.{bytes_eq, str_to_ascii_lowercase}
use Rattle.std.specs.Char.{to_ascii_lowercase}
use Rattle.std.proofs.lemmas.Bool.Decides.{nat_tests}
use Rattle.std.proofs.lemmas.Slice.Eq.{bytes_eq-Decides}
use Rattle.lang_core.specs.Text.{pieces, subtags, joined}
use Rattle.lang_core.specs.inner.MatchingFronts.{ends_subtag, ends_at}
use Rattle.lang_core.specs.Matching.{Basic, IsFront, is_basic_match}
use Rattle.lang_core.specs.Grammar.{is_star}
use Rattle.std.proofs.lemmas.List.{length-map, drop-map, take-map}
use Rattle.lang_core.proofs.SubtagCaseLemmas.{lower_hyphen}
use Rattle.lang_core.proofs.MatchingBasic.{basic_of_test, test_of_basic}
use Rattle.lang_core.proofs.Basics.{each_true, both, is_false, is_le}
use Rattle.lang_core.proofs.PiecesLemmas.{joined-pieces, some_pieces, pieces_join}
use Rattle.lang_core.proofs.RangeText.{star_pieces, star_text}

-- the texts of a list in two parts
joined_two : (s : List ℕ) (before : List (List ℕ)) (t : List ℕ) (after : List (List ℕ))
    → joined ((s ∷ before) ++ t ∷ after) ≡ joined (s ∷ before) ++ 45 ∷ joined (t ∷ after)
joined_two s [] t after = refl
joined_two s (u ∷ before) t after =
    ap (λ (x : List ℕ). s ++ 45 ∷ x) (joined_two u before t after)
    ∙ sym (append_assoc s (45 ∷ joined (u ∷ before)) (45 ∷ joined (t ∷ after)))

-- The text of a list in two parts is those of both, with a hyphen between them.
pub joined_some : (front : List (List ℕ)) (t : List ℕ) (after : List (List ℕ)) → 0 < length front
    → joined (front ++ t ∷ after) ≡ joined front ++ 45 ∷ joined (t ∷ after)
joined_some [] t after n = absurd (omega arith)
joined_some (s ∷ front) t after n = joined_two s front t after

-- a text that goes on where a subtag of it ends has the front's subtags first
pub front_of_rest : (front rest : List ℕ) → ends_subtag rest ≡ true
    → IsFront (pieces front) (pieces (front ++ rest))
front_of_rest front [] h = ([], ap pieces (append-nil front) ∙ sym (append-nil (pieces front)))
front_of_rest front (b ∷ rest) h =
    let hyphen : b ≡ 45 = grind (arith, nat_tests) in
    (pieces rest, ap (λ (c : ℕ). pieces (front ++ c ∷ rest)) hyphen ∙ pieces_join front rest)

-- A text that has the front's subtags first is the front, and a rest before which a subtag ends.
pub rest_of_front : (front text : List ℕ) → IsFront (pieces front) (pieces text)
    → (rest : List ℕ) × ((text ≡ front ++ rest) × (ends_subtag rest ≡ true))
rest_of_front front text (more, e) = of more e where
  whole : (more : List (List ℕ)) → pieces text ≡ pieces front ++ more
      → text ≡ joined (pieces front ++ more)
  whole more e = sym (joined-pieces text) ∙ ap joined e

  of : (more : List (List ℕ)) → pieces text ≡ pieces front ++ more
      → (rest : List ℕ) × ((text ≡ front ++ rest) × (ends_subtag rest ≡ true))
  of [] e = (
    [],
    (
      whole [] e
          ∙ (ap joined (append-nil (pieces front))
          ∙ (joined-pieces front ∙ sym (append-nil front))),
      refl,
    ),
  )
  of (t ∷ more) e = (
    45 ∷ joined (t ∷ more),
    (
      whole (t ∷ more) e
          ∙ (joined_some (pieces front) t more (some_pieces front)
          ∙ ap (λ (x : List ℕ). x ++ 45 ∷ joined (t ∷ more)) (joined-pieces front)),
      refl,
    ),
  )

take_front : (front rest : List ℕ) → take (length front) (front ++ rest) ≡ front
take_front [] rest = refl
take_front (b ∷ front) rest = ap (λ (x : List ℕ). b ∷ x) (take_front front rest)

drop_front : (front rest : List ℕ) → drop (length front) (front ++ rest) ≡ rest
drop_front [] rest = refl
drop_front (b ∷ front) rest = drop_front front rest

-- The test of texts decides whether the front's subtags are the text's first ones.
pub front_is : (front text : List ℕ)
    → IsTrue (ends_at text (length front) && bytes_eq (take (length front) text) front)
    ↔ IsFront (pieces front) (pieces text)
front_is front text = (
  (λ h.
      let parts =
      each_true (ends_at text (length front)) (bytes_eq (take (length front) text) front) h in
      let ends =
      (each_true (nat_le (length front) (length text)) (ends_subtag (drop (length front) text))
      parts.0).1 in
      let same : take (length front) text ≡ front =
      (bytes_eq-Decides (take (length front) text) front).0 parts.1 in
      let whole : front ++ drop (length front) text ≡ text =
      ap (λ (x : List ℕ). x ++ drop (length front) text) (sym same)
      ∙ take-append-drop (length front) text in
      subst (λ (x : List ℕ). IsFront (pieces front) (pieces x)) whole
      (front_of_rest front (drop (length front) text) ends)),
  (λ f.
      let r = rest_of_front front text f in
      let e : text ≡ front ++ r.0 = r.1.0 in
      let size : length text ≡ length front + length r.0 = ap length e ∙ length-append front r.0 in
      let ends : ends_subtag (drop (length front) text) ≡ true =
      ap (λ (x : List ℕ). ends_subtag (drop (length front) x)) e
      ∙ (ap ends_subtag (drop_front front r.0) ∙ r.1.1) in
      let same : take (length front) text ≡ front =
      ap (take (length front)) e ∙ take_front front r.0 in
      both _ _ (both _ _ (is_le (length front) (length text) (omega arith)) ends)
      ((bytes_eq-Decides (take (length front) text) front).1 same)),
)

ends-lower : (rest : List ℕ) → ends_subtag (str_to_ascii_lowercase rest) ≡ ends_subtag rest
ends-lower [] = refl
ends-lower (b ∷ rest) = lower_hyphen b

-- case does not change where subtags end
pub ends_at-lower : (text front : List ℕ)
    → ends_at (str_to_ascii_lowercase text) (length (str_to_ascii_lowercase front))
    ≡ ends_at text (length front)
ends_at-lower text front =
    let size : length (str_to_ascii_lowercase text) ≡ length text =
    length-map text to_ascii_lowercase in
    let len : length (str_to_ascii_lowercase front) ≡ length front =
    length-map front to_ascii_lowercase in
    let rest : drop (length front) (str_to_ascii_lowercase text)
    ≡ str_to_ascii_lowercase (drop (length front) text) =
    drop-map to_ascii_lowercase (length front) text in
    rw (len, size, rest, ends-lower (drop (length front) text)) refl

-- ---- what the matcher found

-- Where a subtag of the text ends at the front's length, comparing bytes decides whether the
-- front's subtags are the text's first ones.
pub front_found : (front text start : List ℕ) (b : Bool) → true ≡ ends_at text (length front)
    → start ≡ take (length front) text → b ≡ bytes_eq start front → IsTrue b
    ↔ IsFront (pieces front) (pieces text)
front_found front text start b ends s e =
    let test : ends_at text (length front) && bytes_eq (take (length front) text) front ≡ b =
    rw (← ends) (ap (λ (x : List ℕ). bytes_eq x front) (sym s) ∙ sym e) in
    let law = front_is front text in
    ((λ h. law.0 (test ∙ h)), (λ f. sym test ∙ law.1 f))

-- Where no subtag of the text ends at the front's length, the front's subtags are not its first
-- ones.
pub front_missed : (front text : List ℕ) → false ≡ ends_at text (length front) → IsTrue false
    ↔ IsFront (pieces front) (pieces text)
front_missed front text ends =
    let test : ends_at text (length front) && bytes_eq (take (length front) text) front ≡ false =
    rw (← ends) refl in
    let law = front_is front text in
    ((λ h. law.0 (test ∙ h)), (λ f. sym test ∙ law.1 f))

-- Where a subtag of the text ends at the front's length, comparing lower-case bytes decides whether
-- the front's subtags are the text's first ones, whatever their case.
pub lower_front_found : (front text start : List ℕ) (b : Bool) → true ≡ ends_at text (length front)
    → start ≡ take (length front) text
    → (IsTrue b ↔ (str_to_ascii_lowercase start ≡ str_to_ascii_lowercase front)) → IsTrue b
    ↔ IsFront (subtags front) (subtags text)
lower_front_found front text start b ends s e =
    let same : str_to_ascii_lowercase start
    ≡ take (length (str_to_ascii_lowercase front)) (str_to_ascii_lowercase text) =
    ap str_to_ascii_lowercase s
    ∙ (sym (take-map to_ascii_lowercase (length front) text)
    ∙ ap (λ (n : ℕ). take n (str_to_ascii_lowercase text))
    (sym (length-map front to_ascii_lowercase))) in
    let law =
    front_found (str_to_ascii_lowercase front) (str_to_ascii_lowercase text)
    (str_to_ascii_lowercase start)
    (bytes_eq (str_to_ascii_lowercase start) (str_to_ascii_lowercase front))
    (ends ∙ sym (ends_at-lower text front)) same refl in
    let test = bytes_eq-Decides (str_to_ascii_lowercase start) (str_to_ascii_lowercase front) in
    ((λ h. law.0 (test.1 (e.0 h))), (λ f. e.1 (test.0 (law.1 f))))

-- Where no subtag of the text ends at the front's length, the front's subtags are not its first
-- ones, whatever their case.
pub lower_front_missed : (front text : List ℕ) → false ≡ ends_at text (length front) → IsTrue false
    ↔ IsFront (subtags front) (subtags text)
lower_front_missed front text ends =
    front_missed (str_to_ascii_lowercase front) (str_to_ascii_lowercase text)
    (ends ∙ sym (ends_at-lower text front))

-- ---- basic matching

-- The range "*" matches every tag in the basic way.
pub star_matches : (range : List ℕ) (tag : List (List ℕ)) (b : Bool) → b ≡ true → b ≡ is_star range
    → IsTrue b ↔ Basic (pieces range) tag
star_matches range tag b h e = ((λ _. inl (star_pieces range (sym e ∙ h))), (λ _. h))

-- A range other than "*" matches a tag in the basic way just where it is a front of the tag.
pub front_matches : (range : List ℕ) (tag : List (List ℕ)) (star b : Bool) → star ≡ false
    → star ≡ is_star range → (IsTrue b ↔ IsFront (pieces range) tag) → IsTrue b
    ↔ Basic (pieces range) tag
front_matches range tag star b other e law = (
  (λ h. inr (law.0 h)),
  (λ m. elim
      m [ inl x ↦ (let y : is_star range ≡ true = star_text range x in cc) | inr f ↦ law.1 f ]),
)

-- the test that computes answers the same
pub basic_test : (range tag : List (List ℕ)) (b : Bool) → (IsTrue b ↔ Basic range tag)
    → b ≡ is_basic_match range tag
basic_test range tag true law = sym (test_of_basic range tag (law.0 refl))
basic_test range tag false law =
    sym (is_false (is_basic_match range tag)
    (λ h. let x : false ≡ true = law.1 (basic_of_test range tag h) in cc))
