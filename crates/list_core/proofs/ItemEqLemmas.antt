-- Items are compared by the bytes of their texts.
use Rattle.std.proofs.Common.{ℕ, ◌≡◌, List, Some, None, refl, sym}
use Rattle.std.specs.Prelude.{Option, map, nat_eq}
use Rattle.std.specs.Option.{option_eq, option_map}
use Rattle.std.specs.Cmp.Lexicographic.{pointwise}
use Rattle.std.specs.Cmp.Derive.Mapped.{pointwise-map}

-- The texts that are listed for two items are equal where their bytes are.
pub listed_eq : {V T : Type 0} (items : V → List T) (bytes : T → List ℕ) (a b : Option V)
    → option_eq (λ x y. pointwise (λ s t. pointwise nat_eq (bytes s) (bytes t)) (items x) (items y))
    a b
    ≡ option_eq (pointwise (pointwise nat_eq)) (option_map (λ v. map bytes (items v)) a)
    (option_map (λ v. map bytes (items v)) b)
listed_eq items bytes None None = refl
listed_eq items bytes None (Some y) = refl
listed_eq items bytes (Some x) None = refl
listed_eq items bytes (Some x) (Some y) =
    sym (pointwise-map bytes (pointwise nat_eq) (items x) (items y))
