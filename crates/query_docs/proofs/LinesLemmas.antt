-- Lines after lines.
use Rattle.std.proofs.Common.{◌≡◌, ◌∙◌, ◌+◌, ◌<◌, ◌++◌, ℕ, List, [], ◌∷◌, arith, ap, sym, length}
use Rattle.std.proofs.Common.{take, get_or}
use Rattle.std.specs.Prelude.{Option, flat_map, slice_get, Some, None}
use Rattle.std.proofs.lemmas.List.{flat_map_more, take_more}
use Rattle.std.proofs.lemmas.Option.{get_or_from_slice_get, slice_get-get_or, slice_get_within}
use Rattle.json.specs.Print.{print}
use Rattle.json.specs.Written.{Written}
use Rattle.serde_json.specs.Data.{Data}
use Rattle.serde_json.specs.Written.{compact_text}
use Rattle.serde_json.proofs.Texts.{print-outline}
use Rattle.row_docs.specs.WritingTexts.{Adds, value_tokens}

-- a value written after some bytes
pub printed_after : (a b : Written) (start : List ℕ) (d : Data) → a.before ≡ start → a.tokens ≡ []
    → Adds a b (value_tokens d)
    → b.before ++ print b.tokens ≡ start ++ compact_text d
printed_after a b start d before none adds =
    let tokens : b.tokens ≡ value_tokens d = adds.1 ∙ ap (λ t. t ++ value_tokens d) none in
    ap (λ t. t ++ print b.tokens) (adds.0 ∙ before)
    ∙ ap (λ t. start ++ t) (ap print tokens ∙ print-outline d)

module _ {A : Type 0} (each : A → List ℕ) (start : List ℕ) (xs : List A) where
  -- one item more
  pub more_lines : (k : ℕ) (x : A) (written : List ℕ) → slice_get xs k ≡ Some x
      → written ≡ start ++ flat_map each (take k xs)
      → written ++ each x ≡ start ++ flat_map each (take (k + 1) xs)
  more_lines k x written here so_far =
      let taken : take (k + 1) xs ≡ take k xs ++ x ∷ [] =
      take_more xs k x (slice_get_within xs k x here)
      ∙ ap (λ y. take k xs ++ y ∷ []) (get_or_from_slice_get xs k x x here) in
      ap (λ t. t ++ each x) so_far ∙ flat_map_more each start (take k xs) x
      ∙ ap (λ t. start ++ flat_map each t) (sym taken)

-- what is there is not missing
some_none : {A : Type 0} (x : A) (o : Option A) → o ≡ Some x → o ≡ None → ⊥
some_none x o some none = cc

-- there is an item at each place within a list
pub item_there : {A : Type 0} → (xs : List A) (k : ℕ) → k < length xs → slice_get xs k ≡ None → ⊥
item_there xs k within none =
    let is = slice_get-get_or_some xs k within in
    some_none is.0 (slice_get xs k) is.1 none
  where
    slice_get-get_or_some : {A : Type 0} (xs : List A) (k : ℕ) → k < length xs
        → (x : A) × (slice_get xs k ≡ Some x)
    slice_get-get_or_some [] k h = absurd (omega arith)
    slice_get-get_or_some (x ∷ xs) k h = (get_or (x ∷ xs) k x, slice_get-get_or (x ∷ xs) k x h)
