-- A walk from piece to piece of a field.
--
-- `IsWalked` is the invariant: the pieces before an offset give the items so far, and the rest is
-- still to come. A blank piece adds nothing, an element adds its item, and a malformed piece is
-- passed over or ends the walk. Where it ends the walk, all before it was read, so it is the first
-- malformed element, and its offset is that of its first byte after blanks.
use Rattle.std.proofs.Common.{ℕ, ◌≡◌, ◌<◌, ◌+◌, ◌-◌, inl, inr, List, [], ◌∷◌, ◌++◌, length, sum_by}
use Rattle.std.proofs.Common.{refl, sym, ◌∙◌, ap, subst, arith, append-nil}
use Rattle.std.specs.List.{prefix_len}
use Rattle.std.proofs.lemmas.Bool.{cases_Bool}
use Rattle.std.proofs.lemmas.List.Sums.{sum_by-append}
use Rattle.lang_core.specs.Text.{pieces_by}
use Rattle.lang_core.proofs.SubtagsRunsLemmas.{regroup}
use Rattle.list_core.proofs.WeightLemmas.{skip_only, trimmed}
use Rattle.list_core.proofs.FieldElementLemmas.{start_of_padded, start_some, padded_of_start}
use Rattle.list_core.specs.Weight.{is_blank, AreBlanks}
use Rattle.list_core.specs.inner.Weight.{skip_blanks}
use Rattle.list_core.specs.Field.{IsPadded, GivesNone, ArePieces, IsField, IsReadTo}
use Rattle.list_core.specs.Field.{IsFirstMalformed, HasElement}
use Rattle.list_core.specs.inner.Field.{IsStart, HasStart}
use Rattle.list_core.specs.Item.{Item}
use Rattle.list_core.specs.declared.scheme.Scheme.{Scheme}
use Rattle.list_core.specs.declared.field.Malformed.{Malformed}
use Rattle.list_core.specs.declared.field.Malformed.TheVariants.{Refused, PassedOver}

-- ---- pieces that give none

blank_only : (piece : List ℕ) → 0 < length (skip_blanks piece) → ¬ AreBlanks piece
blank_only piece n h = let size : length (skip_blanks piece) ≡ 0 = ap length (skip_only piece h) in
    omega arith

-- A piece that is an element between blanks is not blank.
pub padded_not_blank : (scheme : Scheme) (piece : List ℕ) (item : Item) → IsPadded scheme piece item
    → ¬ AreBlanks piece
padded_not_blank scheme piece item p =
    blank_only piece
    (start_some scheme (skip_blanks piece) item (start_of_padded scheme piece item p))

-- A blank piece gives no item.
pub blank_gives_none : (scheme : Scheme) (malformed : Malformed) (piece : List ℕ) → AreBlanks piece
    → GivesNone scheme malformed piece
blank_gives_none scheme Refused piece h = h
blank_gives_none scheme PassedOver piece h = λ item p. padded_not_blank scheme piece item p h

-- A piece that gives no item is no element between blanks.
pub none_not_padded : (scheme : Scheme) (malformed : Malformed) (piece : List ℕ) (item : Item)
    → GivesNone scheme malformed piece → ¬ IsPadded scheme piece item
none_not_padded scheme Refused piece item h p = padded_not_blank scheme piece item p h
none_not_padded scheme PassedOver piece item h p = h item p

-- ---- the walk

-- the pieces before the offset give the items, and the rest is still to come
pub record IsWalked (scheme : Scheme) (malformed : Malformed) (field : List ℕ) (items : List Item)
    (rest : List (List ℕ)) (offset : ℕ) : Type 0 where
  pub before : List (List ℕ)
  pub whole : pieces_by 44 field ≡ before ++ rest
  pub before_ok : ArePieces scheme malformed before items
  pub offset_is : offset ≡ sum_by (λ p. length p + 1) before

-- A walk begins at offset 0, without items and with all pieces of the field to come.
pub walked_start : (scheme : Scheme) (malformed : Malformed) (field : List ℕ)
    → IsWalked scheme malformed field [] (pieces_by 44 field) 0
walked_start scheme malformed field =
    record { before = []; whole = refl; before_ok = tt; offset_is = refl }

push_none : (scheme : Scheme) (malformed : Malformed) (before : List (List ℕ)) (piece : List ℕ)
    (items : List Item) → ArePieces scheme malformed before items → GivesNone scheme malformed piece
    → ArePieces scheme malformed (before ++ piece ∷ []) items
push_none scheme malformed [] piece [] a b = (b, tt)
push_none scheme malformed [] piece (i ∷ items) a b = absurd a
push_none scheme malformed (p ∷ before) piece [] a b =
    (a.0, push_none scheme malformed before piece [] a.1 b)
push_none scheme malformed (p ∷ before) piece (i ∷ items) a b = elim a [
  | inl x ↦ inl (x.0, push_none scheme malformed before piece (i ∷ items) x.1 b)
  | inr x ↦ inr (x.0, push_none scheme malformed before piece items x.1 b)
]

push_item : (scheme : Scheme) (malformed : Malformed) (before : List (List ℕ)) (piece : List ℕ)
    (items : List Item) (item : Item) → ArePieces scheme malformed before items
    → IsPadded scheme piece item
    → ArePieces scheme malformed (before ++ piece ∷ []) (items ++ item ∷ [])
push_item scheme malformed [] piece [] item a f = inr (f, tt)
push_item scheme malformed [] piece (i ∷ items) item a f = absurd a
push_item scheme malformed (p ∷ before) piece [] item a f =
    inl (a.0, push_item scheme malformed before piece [] item a.1 f)
push_item scheme malformed (p ∷ before) piece (i ∷ items) item a f = elim a [
  | inl x ↦ inl (x.0, push_item scheme malformed before piece (i ∷ items) item x.1 f)
  | inr x ↦ inr (x.0, push_item scheme malformed before piece items item x.1 f)
]

size_push : (before : List (List ℕ)) (piece : List ℕ)
    → sum_by (λ p. length p + 1) (before ++ piece ∷ [])
    ≡ sum_by (λ p. length p + 1) before + (length piece + 1)
size_push before piece = rw sum_by-append (omega arith)

walked_on : (scheme : Scheme) (malformed : Malformed) (field : List ℕ) (items more : List Item)
    (piece : List ℕ) (rest : List (List ℕ)) (offset : ℕ)
    → (w : IsWalked scheme malformed field items (piece ∷ rest) offset)
    → ArePieces scheme malformed (w.before ++ piece ∷ []) more
    → IsWalked scheme malformed field more rest (offset + (length piece + 1))
walked_on scheme malformed field items more piece rest offset w ok = record {
  before = w.before ++ piece ∷ [];
  whole = w.whole ∙ sym (regroup w.before piece rest);
  before_ok = ok;
  offset_is = ap (λ (n : ℕ). n + (length piece + 1)) w.offset_is ∙ sym (size_push w.before piece);
}

bare_blanks : (piece : List ℕ) → skip_blanks piece ≡ [] → AreBlanks piece
bare_blanks piece e = let t = trimmed piece in
    subst AreBlanks (sym (t.whole ∙ (ap (λ (x : List ℕ). t.before ++ x) e ∙ append-nil t.before)))
    t.before_ok

-- A text of length 0 is empty.
pub no_bytes : (text : List ℕ) → length text ≡ 0 → text ≡ []
no_bytes [] h = refl
no_bytes (b ∷ text) h = absurd (omega arith)

-- A blank piece leaves the items as they are, and the pieces after it are to come.
pub walked_blank : (scheme : Scheme) (malformed : Malformed) (field : List ℕ) (items : List Item)
    (piece bare : List ℕ) (rest : List (List ℕ)) (offset : ℕ)
    → IsWalked scheme malformed field items (piece ∷ rest) offset → bare ≡ skip_blanks piece
    → length bare ≡ 0 → IsWalked scheme malformed field items rest (offset + (length piece + 1))
walked_blank scheme malformed field items piece bare rest offset w e n =
    walked_on scheme malformed field items items piece rest offset w
    (push_none scheme malformed w.before piece items w.before_ok
    (blank_gives_none scheme malformed piece (bare_blanks piece (sym e ∙ no_bytes bare n))))

no_start : (scheme : Scheme) (piece bare : List ℕ) → bare ≡ skip_blanks piece
    → ((item : Item) → ¬ IsStart scheme bare item) → (item : Item) → ¬ IsPadded scheme piece item
no_start scheme piece bare e none item p =
    none item
    (subst (λ (x : List ℕ). IsStart scheme x item) (sym e) (start_of_padded scheme piece item p))

-- A piece that is no element leaves the items as they are where such pieces are passed over.
pub walked_over : (scheme : Scheme) (field : List ℕ) (items : List Item) (piece bare : List ℕ)
    (rest : List (List ℕ)) (offset : ℕ)
    → IsWalked scheme PassedOver field items (piece ∷ rest) offset → bare ≡ skip_blanks piece
    → ((item : Item) → ¬ IsStart scheme bare item)
    → IsWalked scheme PassedOver field items rest (offset + (length piece + 1))
walked_over scheme field items piece bare rest offset w e none =
    walked_on scheme PassedOver field items items piece rest offset w
    (push_none scheme PassedOver w.before piece items w.before_ok
    (no_start scheme piece bare e none))

-- An element adds its item to the items, and the pieces after it are to come.
pub walked_item : (scheme : Scheme) (malformed : Malformed) (field : List ℕ) (items : List Item)
    (item : Item) (piece bare : List ℕ) (rest : List (List ℕ)) (offset : ℕ)
    → IsWalked scheme malformed field items (piece ∷ rest) offset → bare ≡ skip_blanks piece
    → IsStart scheme bare item
    → IsWalked scheme malformed field (items ++ item ∷ []) rest (offset + (length piece + 1))
walked_item scheme malformed field items item piece bare rest offset w e s =
    walked_on scheme malformed field items (items ++ item ∷ []) piece rest offset w
    (push_item scheme malformed w.before piece items item w.before_ok
    (padded_of_start scheme piece item (subst (λ (x : List ℕ). IsStart scheme x item) e s)))

-- Where no piece is to come, the field gives the items.
pub walked_all : (scheme : Scheme) (malformed : Malformed) (field : List ℕ) (items : List Item)
    (offset : ℕ) → IsWalked scheme malformed field items [] offset
    → IsField scheme malformed field items
walked_all scheme malformed field items offset w =
    subst (λ (x : List (List ℕ)). ArePieces scheme malformed x items)
    (sym (w.whole ∙ append-nil w.before)) w.before_ok

-- ---- where a walk stops

read_to : (scheme : Scheme) (malformed : Malformed) (field : List ℕ) (items : List Item)
    (piece : List ℕ) (rest : List (List ℕ)) (offset : ℕ)
    → (w : IsWalked scheme malformed field items (piece ∷ rest) offset)
    → 0 < length (skip_blanks piece) → IsReadTo scheme malformed field w.before piece
read_to scheme malformed field items piece rest offset w n =
    record {
      after = rest;
      items = items;
      whole = w.whole;
      before_ok = w.before_ok;
      not_blank =
          blank_only piece n;
    }

-- The length of a text is that of the blanks at its front and of what is left without them.
pub blanks_before : (text : List ℕ)
    → length text ≡ length (skip_blanks text) + prefix_len is_blank text
blanks_before [] = refl
blanks_before (b ∷ text) =
    let rest = blanks_before text in
    elim (cases_Bool (is_blank b)) [
      | inl e ↦ rw e (omega (arith, rest))
      | inr e ↦ rw e (omega arith)
    ]

-- Where all before it was read, a piece that is neither blank nor an element is the first malformed
-- element, which begins after its leading blanks.
pub stops_malformed : (scheme : Scheme) (field : List ℕ) (items : List Item) (piece bare : List ℕ)
    (rest : List (List ℕ)) (offset : ℕ) → IsWalked scheme Refused field items (piece ∷ rest) offset
    → bare ≡ skip_blanks piece → 0 < length bare → ((item : Item) → ¬ IsStart scheme bare item)
    → IsFirstMalformed scheme field (offset + (length piece - length bare))
stops_malformed scheme field items piece bare rest offset w e n none = record {
  before = w.before;
  piece = piece;
  read_to =
      read_to scheme Refused field items piece rest offset w
      (subst (λ (x : List ℕ). 0 < length x) e n);
  malformed = no_start scheme piece bare e none;
  begins =
      (let size = blanks_before piece in let o = w.offset_is in
      let same : length bare ≡ length (skip_blanks piece) = ap length e in omega arith);
}

-- A field has an element where a walk has reached one.
pub stops_fitting : (scheme : Scheme) (malformed : Malformed) (field : List ℕ) (items : List Item)
    (piece bare : List ℕ) (rest : List (List ℕ)) (offset : ℕ)
    → IsWalked scheme malformed field items (piece ∷ rest) offset → bare ≡ skip_blanks piece
    → 0 < length bare → HasStart scheme bare → HasElement scheme malformed field
stops_fitting scheme malformed field items piece bare rest offset w e n s = record {
  before = w.before;
  piece = piece;
  read_to =
      read_to scheme malformed field items piece rest offset w
      (subst (λ (x : List ℕ). 0 < length x) e n);
  item = s.0;
  fits = padded_of_start scheme piece s.0 (subst (λ (x : List ℕ). IsStart scheme x s.0) e s.1);
}
