-- A field whose malformed elements are passed over.
use Rattle.std.proofs.Common.{ℕ, List, [], ◌∷◌, inl, inr, sym, subst, arith}
use Rattle.std.specs.Prelude.{◌↔◌, Contains}
use Rattle.lang_core.specs.Text.{pieces_by}
use Rattle.list_core.proofs.Basics.{contains_first, contains_later, contains_cases}
use Rattle.list_core.proofs.FieldWalk.{blank_gives_none, none_not_padded}
use Rattle.list_core.proofs.FieldUnique.{one_item}
use Rattle.list_core.specs.Item.{Item}
use Rattle.list_core.specs.Field.{IsPadded}
use Rattle.list_core.specs.Field.{ArePieces, IsField}
use Rattle.list_core.specs.declared.scheme.Scheme.{Scheme}
use Rattle.list_core.specs.declared.field.Malformed.{Malformed}
use Rattle.list_core.specs.declared.field.Malformed.TheVariants.{Refused, PassedOver}

-- ---- a field without a malformed element

lenient_pieces : (scheme : Scheme) (pieces : List (List ℕ)) (items : List Item)
    → ArePieces scheme Refused pieces items → ArePieces scheme PassedOver pieces items
lenient_pieces scheme [] [] a = tt
lenient_pieces scheme [] (i ∷ items) a = absurd a
lenient_pieces scheme (p ∷ pieces) [] a =
    (blank_gives_none scheme PassedOver p a.0, lenient_pieces scheme pieces [] a.1)
lenient_pieces scheme (p ∷ pieces) (i ∷ items) a = elim a [
  | inl x ↦
      inl (blank_gives_none scheme PassedOver p x.0, lenient_pieces scheme pieces (i ∷ items) x.1)
  | inr x ↦ inr (x.0, lenient_pieces scheme pieces items x.1)
]

-- A field without a malformed element gives the same items where such elements are passed over.
pub lenient_too : (scheme : Scheme) (bytes : List ℕ) (items : List Item)
    → IsField scheme Refused bytes items → IsField scheme PassedOver bytes items
lenient_too scheme bytes items f = lenient_pieces scheme (pieces_by 44 bytes) items f

-- ---- items and elements

-- an element among the pieces whose item this is
abbrev HasPiece : Scheme → List (List ℕ) → Item → Type 0
HasPiece scheme pieces item = (piece : List ℕ) × Contains pieces piece × IsPadded scheme piece item

later_piece : (scheme : Scheme) (p : List ℕ) (pieces : List (List ℕ)) (item : Item)
    → HasPiece scheme pieces item → HasPiece scheme (p ∷ pieces) item
later_piece scheme p pieces item h = (h.0, contains_later p h.0 pieces h.1, h.2)

piece_of : (scheme : Scheme) (malformed : Malformed) (pieces : List (List ℕ)) (items : List Item)
    (item : Item) → ArePieces scheme malformed pieces items → Contains items item
    → HasPiece scheme pieces item
piece_of scheme malformed [] [] item a c = absurd (let low = c.1 in omega arith)
piece_of scheme malformed [] (i ∷ items) item a c = absurd a
piece_of scheme malformed (p ∷ pieces) [] item a c = absurd (let low = c.1 in omega arith)
piece_of scheme malformed (p ∷ pieces) (i ∷ items) item a c = elim a [
  | inl x ↦
      later_piece scheme p pieces item (piece_of scheme malformed pieces (i ∷ items) item x.1 c)
  | inr x ↦ elim (contains_cases i item items c) [
    | inl e ↦ (p, contains_first p pieces, subst (IsPadded scheme p) e x.0)
    | inr later ↦
        later_piece scheme p pieces item (piece_of scheme malformed pieces items item x.1 later)
  ]
]

item_of : (scheme : Scheme) (malformed : Malformed) (pieces : List (List ℕ)) (items : List Item)
    (piece : List ℕ) (item : Item) → ArePieces scheme malformed pieces items → Contains pieces piece
    → IsPadded scheme piece item → Contains items item
item_of scheme malformed [] items piece item a c fits = absurd (let low = c.1 in omega arith)
item_of scheme malformed (p ∷ pieces) [] piece item a c fits =
    elim (contains_cases p piece pieces c) [
      | inl e ↦
          absurd
          (none_not_padded scheme malformed p item a.0
          (subst (λ (x : List ℕ). IsPadded scheme x item) (sym e) fits))
      | inr later ↦ item_of scheme malformed pieces [] piece item a.1 later fits
    ]
item_of scheme malformed (p ∷ pieces) (i ∷ items) piece item a c fits =
    elim (contains_cases p piece pieces c) [
      | inl e ↦ elim a [
        | inl x ↦
            absurd
            (none_not_padded scheme malformed p item x.0
            (subst (λ (y : List ℕ). IsPadded scheme y item) (sym e) fits))
        | inr x ↦
            subst (Contains (i ∷ items))
            (one_item scheme p i item x.0
            (subst (λ (y : List ℕ). IsPadded scheme y item) (sym e) fits))
            (contains_first i items)
      ]
      | inr later ↦ elim a [
        | inl x ↦ item_of scheme malformed pieces (i ∷ items) piece item x.1 later fits
        | inr x ↦
            contains_later i item items
            (item_of scheme malformed pieces items piece item x.1 later fits)
      ]
    ]

-- An item is among those of a field just where it fits some piece of the field.
pub of_elements : (scheme : Scheme) (malformed : Malformed) (bytes : List ℕ) (items : List Item)
    → IsField scheme malformed bytes items → (item : Item) → Contains items item
    ↔ ((piece : List ℕ) × Contains (pieces_by 44 bytes) piece × IsPadded scheme piece item)
of_elements scheme malformed bytes items f item = (
  λ c. piece_of scheme malformed (pieces_by 44 bytes) items item f c,
  λ h. item_of scheme malformed (pieces_by 44 bytes) items h.0 item f h.1 h.2,
)
