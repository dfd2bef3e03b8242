-- Bytes that have only the escapes of quotes and backslashes.
use Rattle.std.specs.Prelude.{◌∷◌, ◌&&◌, ◌||◌, ◌==◌, [], ℕ, Bool, List, false, true}

-- whether each escape in these bytes, of which the first may be after a backslash, is `\"` or `\\`
abbrev pub is_simple_from : Bool → List ℕ → Bool
is_simple_from escaped [] = true
is_simple_from true (b ∷ bs) = ((b == 34) || (b == 92)) && is_simple_from false bs
is_simple_from false (b ∷ bs) = is_simple_from (b == 92) bs

-- whether these bytes have no other escapes
abbrev pub is_simple : List ℕ → Bool
is_simple = is_simple_from false
