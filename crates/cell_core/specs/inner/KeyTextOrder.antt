-- The order of texts by their bytes.
use Rattle.std.specs.Prelude.{◌≡◌, ℕ, List, nat_eq}
use Rattle.std.specs.Ordering.{nat_cmp, eq_by_cmp}
use Rattle.std.specs.Cmp.Lexicographic.{slice_cmp, pointwise}
use Rattle.std.proofs.lemmas.Map.Text.{is_eq-slice_cmp}
use Rattle.std.proofs.Common.{sym}

-- texts tie where they are equal
pub texts_tie : (x y : List ℕ) → pointwise nat_eq x y ≡ eq_by_cmp (slice_cmp nat_cmp) x y
texts_tie x y = sym (is_eq-slice_cmp x y)
