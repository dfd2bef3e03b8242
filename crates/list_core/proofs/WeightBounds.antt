-- No weight of a field is above 1000.
use Rattle.std.proofs.Common.{ℕ, ◌≡◌, ◌≤◌, ◌-◌, List, [], ◌∷◌, true, inl, inr, arith}
use Rattle.std.specs.Prelude.{zero, suc, All, slice_index}
use Rattle.std.specs.List.{list_all}
use Rattle.std.proofs.lemmas.Bool.{and_parts}
use Rattle.std.proofs.lemmas.Bool.Decides.{nat_tests}
use Rattle.lang_core.specs.Text.{pieces_by}
use Rattle.lang_core.specs.Grammar.{is_digit}
use Rattle.list_core.proofs.FieldLemmas.{all_items}
use Rattle.list_core.specs.Weight.{IsQvalue, thousandths}
use Rattle.list_core.specs.Field.{WeightGrammar}
use Rattle.list_core.specs.Item.{Item}
use Rattle.list_core.specs.Field.{IsField}
use Rattle.list_core.specs.declared.scheme.Scheme.{Scheme}
use Rattle.list_core.specs.declared.field.Malformed.{Malformed}
use Rattle.list_core.specs.declared.scheme.Scheme.TheVariants.{Basic, Extended}

digit_small : (b : ℕ) → is_digit b ≡ true → b ≤ 57
digit_small b h = grind (arith, nat_tests)

digits_small : (digits : List ℕ) (place : ℕ) → list_all is_digit digits ≡ true
    → slice_index digits place - 48 ≤ 9
digits_small [] place h = omega arith
digits_small (b ∷ digits) zero h = let low =
    digit_small b (and_parts (is_digit b) (list_all is_digit digits) h).0 in omega arith
digits_small (b ∷ digits) (suc n) h =
    digits_small digits n (and_parts (is_digit b) (list_all is_digit digits) h).1

thousandths_small : (digits : List ℕ) → list_all is_digit digits ≡ true → thousandths digits ≤ 999
thousandths_small digits h =
    let a = digits_small digits 0 h in
    let b = digits_small digits 1 h in
    let c = digits_small digits 2 h in
    omega arith

qvalue_small : (text : List ℕ) (n : ℕ) → IsQvalue text n → n ≤ 1000
qvalue_small [] n q = absurd q
qvalue_small (b ∷ []) n q = elim q [
  | inl x ↦ (let e = x.1 in omega arith)
  | inr x ↦ (let e = x.1 in omega arith)
]
qvalue_small (b ∷ point ∷ digits) n q = elim q.2 [
  | inl x ↦
      (let e : n ≡ thousandths digits = x.2 in let low = thousandths_small digits x.1 in
      omega arith)
  | inr x ↦ (let e = x.2 in omega arith)
]

weight_small : (scheme : Scheme) (text : List ℕ) (n : ℕ) → WeightGrammar scheme text n → n ≤ 1000
weight_small Basic text n w = elim w [
  | inl none ↦ (let e = none.1 in omega arith)
  | inr some ↦ qvalue_small some.qvalue n some.qvalue_ok
]
weight_small Extended text n w = let e = w.1 in omega arith

-- the weights of a field's items
pub small_weights : (scheme : Scheme) (malformed : Malformed) (bytes : List ℕ) (items : List Item)
    → IsField scheme malformed bytes items → All (λ i. i.weight ≤ 1000) items
small_weights scheme malformed bytes items f =
    all_items (λ i. i.weight ≤ 1000) scheme malformed
    (λ piece i p. weight_small scheme p.element_ok.weight i.weight p.element_ok.weight_ok)
    (pieces_by 44 bytes) items f
