-- What a malformed element says of the whole field.
use Rattle.std.proofs.Common.{ℕ, ◌≡◌, ◌<◌, ◌≤◌, ◌+◌, List, [], ◌∷◌, ◌++◌, inl, inr, length, sum_by}
use Rattle.std.proofs.Common.{refl, sym, ◌∙◌, ap, subst, arith}
use Rattle.std.specs.List.{prefix_len}
use Rattle.std.specs.Prelude.{All, Result, Ok, Err, MatchResult}
use Rattle.list_core.specs.declared.fault.NegoFault.{NegoFault}
use Rattle.list_core.specs.declared.fault.NegoFault.TheVariants.{NoMemory}
use Rattle.std.proofs.lemmas.List.Elements.{All-nil, All-cons}
use Rattle.lang_core.specs.Text.{pieces, pieces_by}
use Rattle.lang_core.specs.Grammar.{BasicRange}
use Rattle.list_core.proofs.FieldWalk.{padded_not_blank}
use Rattle.list_core.specs.declared.scheme.Scheme.TheVariants.{Basic, Extended}
use Rattle.list_core.specs.Item.{Item}
use Rattle.list_core.specs.Weight.{is_blank, AreBlanks}
use Rattle.list_core.specs.Field.{IsPadded}
use Rattle.list_core.specs.Field.{ArePieces, IsField, IsFirstMalformed, IsOfOneKind, HasElement}
use Rattle.list_core.specs.Field.{RefusesField}
use Rattle.list_core.specs.declared.scheme.Scheme.{Scheme}
use Rattle.list_core.specs.declared.field.Malformed.{Malformed}
use Rattle.list_core.specs.declared.field.Malformed.TheVariants.{Refused}

no_pieces : (scheme : Scheme) (before after : List (List ℕ)) (piece : List ℕ) (items : List Item)
    → ¬ AreBlanks piece → ((item : Item) → ¬ IsPadded scheme piece item)
    → ¬ ArePieces scheme Refused (before ++ piece ∷ after) items
no_pieces scheme [] after piece [] blank none a = blank a.0
no_pieces scheme [] after piece (i ∷ items) blank none a =
    elim a [ inl x ↦ blank x.0 | inr x ↦ none i x.0 ]
no_pieces scheme (p ∷ before) after piece [] blank none a =
    no_pieces scheme before after piece [] blank none a.1
no_pieces scheme (p ∷ before) after piece (i ∷ items) blank none a = elim a [
  | inl x ↦ no_pieces scheme before after piece (i ∷ items) blank none x.1
  | inr x ↦ no_pieces scheme before after piece items blank none x.1
]

-- Bytes with a malformed element are no field where such elements are refused.
pub malformed_is_no_field : (scheme : Scheme) (bytes : List ℕ) (offset : ℕ) (items : List Item)
    → IsFirstMalformed scheme bytes offset → ¬ IsField scheme Refused bytes items
malformed_is_no_field scheme bytes offset items m f =
    no_pieces scheme m.before m.read_to.after m.piece items m.read_to.not_blank m.malformed
    (subst (λ (x : List (List ℕ)). ArePieces scheme Refused x items) m.read_to.whole f)

-- the pieces after the first give items as well
later_pieces : (scheme : Scheme) (p : List ℕ) (pieces : List (List ℕ)) (items : List Item)
    → ArePieces scheme Refused (p ∷ pieces) items
    → (later : List Item) × ArePieces scheme Refused pieces later
later_pieces scheme p pieces [] a = ([], a.1)
later_pieces scheme p pieces (i ∷ items) a =
    elim a [ inl x ↦ (i ∷ items, x.1) | inr x ↦ (items, x.1) ]

-- a piece that is not blank, and that no item fits
abbrev IsBad : Scheme → List ℕ → Type 0
IsBad scheme piece = (¬ AreBlanks piece) × ((item : Item) → ¬ IsPadded scheme piece item)

-- two first ones of one list are the same
same_bad : (scheme : Scheme) (b c a d : List (List ℕ)) (x y : List ℕ) (xs ys : List Item)
    → b ++ x ∷ a ≡ c ++ y ∷ d → ArePieces scheme Refused b xs → ArePieces scheme Refused c ys
    → IsBad scheme x → IsBad scheme y → (b ≡ c) × (x ≡ y)
same_bad scheme [] [] a d x y xs ys e f g p q = (refl, (cc))
same_bad scheme [] (z ∷ c) a d x y xs ys e f g p q =
    absurd
    (let same : x ≡ z = cc in
    no_pieces scheme [] c x ys p.0 p.1
    (subst (λ (s : List ℕ). ArePieces scheme Refused (s ∷ c) ys) (sym same) g))
same_bad scheme (z ∷ b) [] a d x y xs ys e f g p q =
    absurd
    (let same : y ≡ z = cc in
    no_pieces scheme [] b y xs q.0 q.1
    (subst (λ (s : List ℕ). ArePieces scheme Refused (s ∷ b) xs) (sym same) f))
same_bad scheme (z ∷ b) (w ∷ c) a d x y xs ys e f g p q =
    let head : z ≡ w = cc in
    let more = later_pieces scheme z b xs f in
    let others = later_pieces scheme w c ys g in
    let rest = same_bad scheme b c a d x y more.0 others.0 (cc) more.1 others.1 p q in
    let tail : b ≡ c = rest.0 in
    ((cc), rest.1)

-- The first malformed element of a field begins at one offset alone.
pub one_malformed : (scheme : Scheme) (bytes : List ℕ) (a b : ℕ) → IsFirstMalformed scheme bytes a
    → IsFirstMalformed scheme bytes b → a ≡ b
one_malformed scheme bytes a b f g =
    let same =
    same_bad scheme f.before g.before f.read_to.after g.read_to.after f.piece g.piece
    f.read_to.items g.read_to.items (sym f.read_to.whole ∙ g.read_to.whole) f.read_to.before_ok
    g.read_to.before_ok (f.read_to.not_blank, f.malformed) (g.read_to.not_blank, g.malformed) in
    f.begins
    ∙ (ap (λ (x : List (List ℕ)). sum_by (λ p. length p + 1) x + prefix_len is_blank f.piece)
    same.0
    ∙ (ap (λ (p : List ℕ). sum_by (λ q. length q + 1) g.before + prefix_len is_blank p) same.1
    ∙ sym g.begins))

-- ---- what a field says of its items

-- What holds of the item of each element holds of all items that the pieces give.
pub all_items : (P : Item → Type 0) (scheme : Scheme) (malformed : Malformed)
    → ((piece : List ℕ) (i : Item) → IsPadded scheme piece i → P i)
    → (pieces : List (List ℕ)) (items : List Item) → ArePieces scheme malformed pieces items
    → All P items
all_items P scheme malformed f [] [] a = All-nil P
all_items P scheme malformed f [] (i ∷ items) a = absurd a
all_items P scheme malformed f (p ∷ pieces) [] a = All-nil P
all_items P scheme malformed f (p ∷ pieces) (i ∷ items) a = elim a [
  | inl x ↦ all_items P scheme malformed f pieces (i ∷ items) x.1
  | inr x ↦ All-cons P i items (f p i x.0) (all_items P scheme malformed f pieces items x.1)
]

basic_item : (piece : List ℕ) (i : Item) → IsPadded Basic piece i → BasicRange (pieces i.range)
basic_item piece i p =
    subst (λ (x : List ℕ). BasicRange (pieces x)) (sym p.element_ok.range_is)
    p.element_ok.range_ok.1

full_item : (piece : List ℕ) (i : Item) → IsPadded Extended piece i → i.weight ≡ 1000
full_item piece i p = p.element_ok.weight_ok.1

-- a field gives a list of one kind
pub one_kind : (scheme : Scheme) (malformed : Malformed) (bytes : List ℕ) (items : List Item)
    → IsField scheme malformed bytes items → IsOfOneKind items
one_kind Basic malformed bytes items f =
    inl (all_items (λ i. BasicRange (pieces i.range)) Basic malformed basic_item
    (pieces_by 44 bytes) items f)
one_kind Extended malformed bytes items f =
    inr (all_items (λ i. i.weight ≡ 1000) Extended malformed full_item (pieces_by 44 bytes) items f)

-- where the first item is
record IsFirstItem (scheme : Scheme) (malformed : Malformed) (all : List (List ℕ)) (i : Item) : Type
    0 where
  before : List (List ℕ)
  piece : List ℕ
  after : List (List ℕ)
  whole : all ≡ before ++ piece ∷ after
  before_ok : ArePieces scheme malformed before []
  fits : IsPadded scheme piece i

first_item : (scheme : Scheme) (malformed : Malformed) (all : List (List ℕ)) (i : Item)
    (items : List Item) → ArePieces scheme malformed all (i ∷ items)
    → IsFirstItem scheme malformed all i
first_item scheme malformed [] i items a = absurd a
first_item scheme malformed (p ∷ all) i items a = elim a [
  | inl x ↦
      (let rest = first_item scheme malformed all i items x.1 in
      record {
        before = p ∷ rest.before;
        piece = rest.piece;
        after = rest.after;
        whole =
            ap (λ (x : List (List ℕ)). p ∷ x) rest.whole;
        before_ok = (x.0, rest.before_ok);
        fits =
            rest.fits;
      })
  | inr x ↦ record { before = []; piece = p; after = all; whole = refl; before_ok = tt; fits = x.0 }
]

-- a field with items has an element
pub has_element : (scheme : Scheme) (malformed : Malformed) (bytes : List ℕ) (items : List Item)
    → IsField scheme malformed bytes items → 0 < length items → HasElement scheme malformed bytes
has_element scheme malformed bytes [] f n = absurd (omega arith)
has_element scheme malformed bytes (i ∷ items) f n =
    let e = first_item scheme malformed (pieces_by 44 bytes) i items f in
    record {
      before = e.before;
      piece = e.piece;
      read_to =
          record {
            after = e.after;
            items = [];
            whole = e.whole;
            before_ok =
                e.before_ok;
            not_blank = padded_not_blank scheme e.piece i e.fits;
          };
      item = i;
      fits = e.fits;
    }

-- the list that is made of a field's items, or that memory ended
pub list_read : (scheme : Scheme) (malformed : Malformed) (bytes : List ℕ) (items : List Item)
    (r : Result (List Item) NegoFault) → length bytes ≤ 65535 → IsField scheme malformed bytes items
    → MatchResult r (λ list. list ≡ items) (λ fault. (fault ≡ NoMemory) × (0 < length items))
    → MatchResult r (λ list. (length bytes ≤ 65535) × IsField scheme malformed bytes list)
    (RefusesField scheme malformed bytes)
list_read scheme malformed bytes items (Ok list) short f h =
    (short, subst (IsField scheme malformed bytes) (sym h) f)
list_read scheme malformed bytes items (Err fault) short f h =
    subst (RefusesField scheme malformed bytes) (sym h.0)
    (short, has_element scheme malformed bytes items f h.1)
