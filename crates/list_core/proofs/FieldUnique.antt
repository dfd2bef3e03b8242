-- A field has one list of items.
use Rattle.std.proofs.Common.{ℕ, ◌≡◌, List, [], ◌∷◌, inl, inr, refl, sym, ◌∙◌, ap, subst}
use Rattle.std.specs.Prelude.{Option}
use Rattle.std.specs.Str.{str_to_ascii_lowercase}
use Rattle.lang_core.specs.Text.{pieces_by}
use Rattle.list_core.proofs.WeightLemmas.{one_tail}
use Rattle.list_core.proofs.FieldElementLemmas.{start_of_padded, start_is}
use Rattle.list_core.proofs.FieldWalk.{none_not_padded}
use Rattle.list_core.specs.Item.{Item}
use Rattle.list_core.specs.inner.Weight.{skip_blanks, IsTail}
use Rattle.list_core.specs.Field.{IsPadded, WeightGrammar, ArePieces, IsField}
use Rattle.list_core.specs.inner.Field.{IsStart}
use Rattle.list_core.specs.declared.scheme.Scheme.{Scheme}
use Rattle.list_core.specs.declared.field.Malformed.{Malformed}

-- Items of one range and one weight, for which the same texts are listed, are one.
pub item_is : (i j : Item) → i.range ≡ j.range → i.weight ≡ j.weight → i.listed ≡ j.listed → i ≡ j
item_is i j r w l =
    ap (λ (x : List ℕ). record { range = x; weight = i.weight; listed = i.listed }) r
    ∙ (ap (λ (n : ℕ). record { range = j.range; weight = n; listed = i.listed }) w
    ∙ ap (λ (x : Option (List (List ℕ))). record { range = j.range; weight = j.weight; listed = x })
    l)

one_start : (scheme : Scheme) (text : List ℕ) (i j : Item) → IsStart scheme text i
    → IsStart scheme text j → i ≡ j
one_start scheme text i j s t =
    let same = start_is scheme text i j s t in
    item_is i j (s.range_is ∙ (ap str_to_ascii_lowercase same.0 ∙ sym t.range_is))
    (one_tail scheme t.rest i.weight j.weight
    (subst (λ (x : List ℕ). IsTail (WeightGrammar scheme) x i.weight) same.1 s.rest_ok)
    t.rest_ok)
    (s.unlisted ∙ sym t.unlisted)

-- A piece gives at most one item.
pub one_item : (scheme : Scheme) (piece : List ℕ) (i j : Item) → IsPadded scheme piece i
    → IsPadded scheme piece j → i ≡ j
one_item scheme piece i j p q =
    one_start scheme (skip_blanks piece) i j (start_of_padded scheme piece i p)
    (start_of_padded scheme piece j q)

one_list : (scheme : Scheme) (malformed : Malformed) (pieces : List (List ℕ)) (a b : List Item)
    → ArePieces scheme malformed pieces a → ArePieces scheme malformed pieces b → a ≡ b
one_list scheme malformed [] [] [] f g = refl
one_list scheme malformed [] [] (j ∷ b) f g = absurd g
one_list scheme malformed [] (i ∷ a) b f g = absurd f
one_list scheme malformed (p ∷ pieces) [] [] f g = refl
one_list scheme malformed (p ∷ pieces) [] (j ∷ b) f g = elim g [
  | inl y ↦ one_list scheme malformed pieces [] (j ∷ b) f.1 y.1
  | inr y ↦ absurd (none_not_padded scheme malformed p j f.0 y.0)
]
one_list scheme malformed (p ∷ pieces) (i ∷ a) [] f g = elim f [
  | inl x ↦ one_list scheme malformed pieces (i ∷ a) [] x.1 g.1
  | inr x ↦ absurd (none_not_padded scheme malformed p i g.0 x.0)
]
one_list scheme malformed (p ∷ pieces) (i ∷ a) (j ∷ b) f g = elim f [
  | inl x ↦ elim g [
    | inl y ↦ one_list scheme malformed pieces (i ∷ a) (j ∷ b) x.1 y.1
    | inr y ↦ absurd (none_not_padded scheme malformed p j x.0 y.0)
  ]
  | inr x ↦ elim g [
    | inl y ↦ absurd (none_not_padded scheme malformed p i y.0 x.0)
    | inr y ↦
        ap (λ (k : Item). k ∷ a) (one_item scheme p i j x.0 y.0)
        ∙ ap (λ (items : List Item). j ∷ items) (one_list scheme malformed pieces a b x.1 y.1)
  ]
]

-- a field gives one list of items
pub one_items : (scheme : Scheme) (malformed : Malformed) (bytes : List ℕ) (a b : List Item)
    → IsField scheme malformed bytes a → IsField scheme malformed bytes b → a ≡ b
one_items scheme malformed bytes a b f g = one_list scheme malformed (pieces_by 44 bytes) a b f g
