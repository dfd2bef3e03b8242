-- Numbers below zero are no unsigned whole numbers.
use Rattle.std.proofs.Common.{◌≡◌, ◌==◌, ℕ, List, Bool, true, false, drop, get_or, refl}
use Rattle.std.specs.Prelude.{ℤ, Float, None, Some, if◌then◌else◌, option_and_then}
use Rattle.fast_float.specs.Text.{Parts, scan}
use Rattle.serde_json.specs.Data.{negative, float}
use Rattle.serde_json.specs.Find.{as_u64}
use Rattle.serde_json.specs.Read.{number_from, number_of}

no_case : (a b : Bool) (z : ℤ) (x : Float)
    → option_and_then as_u64 (if a then Some (negative z) else (if b then Some (float x) else None))
    ≡ None
no_case true b z x = refl
no_case false true z x = refl
no_case false false z x = refl

-- a number below zero is no unsigned whole number
pub negative_no_whole : (p : Parts) → option_and_then as_u64 (number_from true p) ≡ None
negative_no_whole p = no_case _ _ _ _

-- a text that begins with a minus is read by what follows it
pub number_of-minus : (s : List ℕ) → (get_or s 0 0 == 45) ≡ true
    → number_of s ≡ number_from true (scan (drop 1 s))
unfolding number_of
number_of-minus s h = rw h

-- a text without a minus is read as it is
pub number_of-plain : (s : List ℕ) → (get_or s 0 0 == 45) ≡ false
    → number_of s ≡ number_from false (scan s)
unfolding number_of
number_of-plain s h = rw h
