-- An element, read from left to right.
--
-- An element of a field (RFC 9110, section 12.5.4) is a range and what follows it, with blanks
-- about it. The range has neither blanks nor a semicolon, so it ends at the first of these, and
-- there is one way to cut an element. If the bytes up to there are no range, or those after it may
-- not follow a range, no item fits the element; else one does.
use Rattle.std.proofs.Common.{ℕ, ◌≡◌, ◌<◌, ◌⊎◌, inl, inr, List, [], ◌∷◌, ◌++◌, true, false, length}
use Rattle.std.proofs.Common.{refl, sym, ◌∙◌, ap, subst, arith, append_assoc, None}
use Rattle.std.specs.List.{list_all}
use Rattle.std.specs.Str.{str_to_ascii_lowercase}
use Rattle.std.specs.Char.{to_ascii_lowercase}
use Rattle.std.proofs.lemmas.Bool.{and_from, and_parts, cases_Bool}
use Rattle.std.proofs.lemmas.Bool.Decides.{nat_tests}
use Rattle.std.proofs.lemmas.List.{length-map}
use Rattle.lang_core.specs.Text.{pieces, IsSized}
use Rattle.lang_core.specs.Grammar.{ExtendedRange}
use Rattle.lang_core.specs.Range.{IsRange}
use Rattle.lang_core.proofs.RangeText.{is_range_byte, range_bytes, basic_extended}
use Rattle.list_core.proofs.WeightBlanksLemmas.{cut_only, blanks_end, blank_stops}
use Rattle.list_core.proofs.WeightLemmas.{IsTrimmed, trimmed, skip_all, skip_none}
use Rattle.list_core.specs.Weight.{is_blank, AreBlanks}
use Rattle.list_core.specs.inner.Weight.{skip_blanks, is_plain, EndsPlain, IsCut}
use Rattle.list_core.specs.Field.{RangeGrammar, WeightGrammar, IsPadded}
use Rattle.list_core.specs.inner.Field.{IsStart, HasStart}
use Rattle.list_core.specs.Weight.{HasWeight}
use Rattle.list_core.specs.inner.Weight.{IsTail}
use Rattle.list_core.specs.Item.{Item}
use Rattle.list_core.specs.declared.scheme.Scheme.{Scheme}
use Rattle.list_core.specs.declared.scheme.Scheme.TheVariants.{Basic, Extended}

-- ---- the bytes of a range

-- The subtags of a range of either scheme are an extended range.
pub range_is_extended : (scheme : Scheme) (text : List ℕ) → IsRange (RangeGrammar scheme) text
    → ExtendedRange (pieces text)
range_is_extended Basic text h = basic_extended (pieces text) h.1
range_is_extended Extended text h = h.1

-- The text of a range has 1 to 255 bytes.
pub range_is_sized : (scheme : Scheme) (text : List ℕ) → IsRange (RangeGrammar scheme) text
    → IsSized text
range_is_sized Basic text h = h.0
range_is_sized Extended text h = h.0

stop_is : (b : ℕ) → is_plain b ≡ false → (b ≡ 32) ⊎ ((b ≡ 9) ⊎ (b ≡ 59))
stop_is b h = grind (arith, nat_tests)

lower_plain : (b : ℕ) → is_range_byte (to_ascii_lowercase b) ≡ true → is_plain b ≡ true
lower_plain b h =
    let P : ℕ → Type 0 = λ x. is_range_byte (to_ascii_lowercase x) ≡ true in
    elim (cases_Bool (is_plain b)) [
      | inl e ↦ e
      | inr e ↦ absurd (elim (stop_is b e) [
        | inl s ↦ (let q : is_range_byte (to_ascii_lowercase 32) ≡ true = subst P s h in cc)
        | inr t ↦ elim t [
          | inl s ↦ (let q : is_range_byte (to_ascii_lowercase 9) ≡ true = subst P s h in cc)
          | inr s ↦ (let q : is_range_byte (to_ascii_lowercase 59) ≡ true = subst P s h in cc)
        ]
      ])
    ]

all_lower_plain : (text : List ℕ) → list_all is_range_byte (str_to_ascii_lowercase text) ≡ true
    → list_all is_plain text ≡ true
all_lower_plain [] h = refl
all_lower_plain (b ∷ text) h =
    let parts =
    and_parts (is_range_byte (to_ascii_lowercase b))
    (list_all is_range_byte (str_to_ascii_lowercase text)) h in
    and_from _ _ (lower_plain b parts.0) (all_lower_plain text parts.1)

range_plain : (scheme : Scheme) (text : List ℕ)
    → IsRange (RangeGrammar scheme) (str_to_ascii_lowercase text) → list_all is_plain text ≡ true
range_plain scheme text h =
    all_lower_plain text
    (range_bytes (str_to_ascii_lowercase text)
    (range_is_extended scheme (str_to_ascii_lowercase text) h))

range_some : (scheme : Scheme) (text : List ℕ)
    → IsRange (RangeGrammar scheme) (str_to_ascii_lowercase text) → 0 < length text
range_some scheme text h =
    let sized = range_is_sized scheme (str_to_ascii_lowercase text) h in
    let size : length (str_to_ascii_lowercase text) ≡ length text = simp length-map in
    omega arith

-- A range and what follows it have at least one byte.
pub start_some : (scheme : Scheme) (text : List ℕ) (item : Item) → IsStart scheme text item
    → 0 < length text
start_some scheme text item s =
    longer s.range s.rest text s.whole (range_some scheme s.range s.range_ok) where
      longer : (range rest text : List ℕ) → text ≡ range ++ rest → 0 < length range
          → 0 < length text
      longer [] rest text e n = absurd (omega arith)
      longer (b ∷ range) rest text e n = let size : length text ≡ length (b ∷ (range ++ rest)) =
          ap length e in omega arith

-- ---- what follows a range

front_ends : (before rest : List ℕ) → AreBlanks before → EndsPlain rest → EndsPlain (before ++ rest)
front_ends [] rest h e = e
front_ends (b ∷ before) rest h e =
    blank_stops b (and_parts (is_blank b) (list_all is_blank before) h).0

weight_ends : (text weight after : List ℕ) (n : ℕ) → text ≡ weight ++ after → HasWeight weight n
    → EndsPlain text
weight_ends text weight after n e w =
    let rest : List ℕ = (w.after ++ w.letter ∷ 61 ∷ w.qvalue) ++ after in
    subst EndsPlain
    (sym (e
    ∙ (ap (λ (x : List ℕ). x ++ after) w.whole
    ∙ append_assoc w.before (59 ∷ (w.after ++ w.letter ∷ 61 ∷ w.qvalue)) after)))
    (front_ends w.before (59 ∷ rest) w.before_ok refl)

empty_ends : (text weight after : List ℕ) → text ≡ weight ++ after → weight ≡ [] → AreBlanks after
    → EndsPlain text
empty_ends text weight after e none blank =
    subst EndsPlain (sym (e ∙ ap (λ (x : List ℕ). x ++ after) none)) (blanks_end after blank)

-- What follows a range is empty, or begins with a blank or a semicolon.
pub tail_ends : (scheme : Scheme) (text : List ℕ) (n : ℕ) → IsTail (WeightGrammar scheme) text n
    → EndsPlain text
tail_ends Basic text n t = elim t.weight_ok [
  | inl none ↦ empty_ends text t.weight t.after t.whole none.0 t.after_ok
  | inr w ↦ weight_ends text t.weight t.after n t.whole w
]
tail_ends Extended text n t = empty_ends text t.weight t.after t.whole t.weight_ok.0 t.after_ok

-- ---- a range and what follows it

-- the bytes up to a stop are the range
record IsItemOf (scheme : Scheme) (token rest : List ℕ) (item : Item) : Type 0 where
  range_ok : IsRange (RangeGrammar scheme) (str_to_ascii_lowercase token)
  range_is : item.range ≡ str_to_ascii_lowercase token
  rest_ok : IsTail (WeightGrammar scheme) rest item.weight

item_of : (scheme : Scheme) (text token rest : List ℕ) (item : Item) → IsCut text token rest
    → IsStart scheme text item → IsItemOf scheme token rest item
item_of scheme text token rest item c s =
    let same =
    cut_only token rest s.range s.rest (sym c.whole ∙ s.whole) c.plain
    (range_plain scheme s.range s.range_ok) c.ends
    (tail_ends scheme s.rest item.weight s.rest_ok) in
    record {
      range_ok =
          subst (λ (x : List ℕ). IsRange (RangeGrammar scheme) (str_to_ascii_lowercase x))
          (sym same.0) s.range_ok;
      range_is = s.range_is ∙ ap str_to_ascii_lowercase (sym same.0);
      rest_ok =
          subst (λ (x : List ℕ). IsTail (WeightGrammar scheme) x item.weight) (sym same.1)
          s.rest_ok;
    }

-- A text is a range and what follows it in one way alone.
pub start_is : (scheme : Scheme) (text : List ℕ) (i j : Item) → (s : IsStart scheme text i)
    → (t : IsStart scheme text j) → (s.range ≡ t.range) × (s.rest ≡ t.rest)
start_is scheme text i j s t =
    cut_only s.range s.rest t.range t.rest (sym s.whole ∙ t.whole)
    (range_plain scheme s.range s.range_ok) (range_plain scheme t.range t.range_ok)
    (tail_ends scheme s.rest i.weight s.rest_ok) (tail_ends scheme t.rest j.weight t.rest_ok)

-- No item fits a text whose bytes up to the first blank or semicolon are no range.
pub no_item_range : (scheme : Scheme) (text token rest : List ℕ) → IsCut text token rest
    → ¬ IsRange (RangeGrammar scheme) (str_to_ascii_lowercase token) → (item : Item)
    → ¬ IsStart scheme text item
no_item_range scheme text token rest c h item s =
    h (item_of scheme text token rest item c s).range_ok

-- No item fits a text whose bytes from the first blank or semicolon on may not follow a range.
pub no_item_weight : (scheme : Scheme) (text token rest : List ℕ) → IsCut text token rest
    → ((n : ℕ) → ¬ IsTail (WeightGrammar scheme) rest n) → (item : Item)
    → ¬ IsStart scheme text item
no_item_weight scheme text token rest c h item s =
    h item.weight (item_of scheme text token rest item c s).rest_ok

-- An item fits a text that is a range up to the first blank or semicolon, and then what may follow
-- a range.
pub has_item : (scheme : Scheme) (text token rest : List ℕ) (n : ℕ) → IsCut text token rest
    → IsRange (RangeGrammar scheme) (str_to_ascii_lowercase token)
    → IsTail (WeightGrammar scheme) rest n → HasStart scheme text
has_item scheme text token rest n c r t = (
  record { range = str_to_ascii_lowercase token; weight = n; listed = None },
  record {
    range = token;
    rest = rest;
    whole = c.whole;
    range_ok = r;
    range_is = refl;
    rest_ok =
        t;
    unlisted = refl;
  },
)

-- ---- and the blanks before it

skip_plain : (range rest : List ℕ) → 0 < length range → list_all is_plain range ≡ true
    → skip_blanks (range ++ rest) ≡ range ++ rest
skip_plain [] rest n h = absurd (omega arith)
skip_plain (b ∷ range) rest n h =
    let plain = (and_parts (is_plain b) (list_all is_plain range) h).0 in
    elim (cases_Bool (is_blank b)) [
      | inl e ↦ absurd (let stop : is_plain b ≡ false = blank_stops b e in cc)
      | inr e ↦ skip_none b (range ++ rest) e
    ]

-- An element between blanks is, without the blanks before it, a range and what follows it.
pub start_of_padded : (scheme : Scheme) (piece : List ℕ) (item : Item) → IsPadded scheme piece item
    → IsStart scheme (skip_blanks piece) item
start_of_padded scheme piece item p =
    let e = p.element_ok in
    let whole : p.element ++ p.after ≡ e.range ++ (e.weight ++ p.after) =
    ap (λ (x : List ℕ). x ++ p.after) e.whole ∙ append_assoc e.range e.weight p.after in
    record {
      range = e.range;
      rest = e.weight ++ p.after;
      whole =
          ap skip_blanks p.whole
          ∙ (skip_all p.before (p.element ++ p.after) p.before_ok
          ∙ (ap skip_blanks whole
          ∙ skip_plain e.range (e.weight ++ p.after) (range_some scheme e.range e.range_ok)
          (range_plain scheme e.range e.range_ok)));
      range_ok = e.range_ok;
      range_is = e.range_is;
      rest_ok =
          record {
            weight = e.weight;
            after = p.after;
            whole = refl;
            after_ok =
                p.after_ok;
            weight_ok = e.weight_ok;
          };
      unlisted = e.unlisted;
    }

padded_from : (scheme : Scheme) (piece text : List ℕ) (item : Item) → IsTrimmed piece text
    → IsStart scheme text item → IsPadded scheme piece item
padded_from scheme piece text item t s =
    let tail = s.rest_ok in
    let whole : text ≡ (s.range ++ tail.weight) ++ tail.after =
    s.whole
    ∙ (ap (λ (x : List ℕ). s.range ++ x) tail.whole
    ∙ sym (append_assoc s.range tail.weight tail.after)) in
    record {
      before = t.before;
      element = s.range ++ tail.weight;
      after = tail.after;
      whole = t.whole ∙ ap (λ (x : List ℕ). t.before ++ x) whole;
      before_ok = t.before_ok;
      after_ok = tail.after_ok;
      element_ok =
          record {
            range = s.range;
            weight = tail.weight;
            whole = refl;
            range_ok =
                s.range_ok;
            range_is = s.range_is;
            weight_ok = tail.weight_ok;
            unlisted = s.unlisted;
          };
    }

-- A range and what follows it, with blanks before it, is an element between blanks.
pub padded_of_start : (scheme : Scheme) (piece : List ℕ) (item : Item)
    → IsStart scheme (skip_blanks piece) item → IsPadded scheme piece item
padded_of_start scheme piece item s =
    padded_from scheme piece (skip_blanks piece) item (trimmed piece) s
