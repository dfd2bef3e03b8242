-- When stamps and labels are the same.
use Rattle.std.proofs.Common.{◌≡◌, ℕ, ◌&&◌, List, Option, Some, None, ap, refl}
use Rattle.std.proofs.Common.{nat_eq}
use Rattle.std.specs.Bool.{Decides}
use Rattle.std.specs.Option.{option_eq}
use Rattle.std.specs.Cmp.{unsigned_Decides}
use Rattle.std.specs.Cmp.Lexicographic.{pointwise, bytes_decides}
use Rattle.std.proofs.lemmas.Bool.Decides.{Decides-and, Decides-like}
use Rattle.cell_core.specs.declared.stamp.Stamp.{Stamp}
use Rattle.cell_core.specs.StampEq.{stamp_eq}
use Rattle.cell_core.proofs.LabelLemmas.{texts_decides}

-- Two stamps are the same just where their times, sites and counts are.
pub stamp_decides : (a b : Stamp) → Decides (stamp_eq a b) (a ≡ b)
stamp_decides a b =
    Decides-like (stamp_eq a b)
    (λ parts i. record { time = parts.0 i; site = parts.1.0 i; count = parts.1.1 i })
    (λ same. (ap (λ s. s.time) same, (ap (λ s. s.site) same, ap (λ s. s.count) same)))
    (Decides-and (nat_eq a.time b.time) (pointwise nat_eq a.site b.site && nat_eq a.count b.count)
    (unsigned_Decides a.time b.time)
    (Decides-and (pointwise nat_eq a.site b.site) (nat_eq a.count b.count)
    (bytes_decides a.site b.site) (unsigned_Decides a.count b.count)))

-- Two labels that may be absent are the same just where their texts have the same bytes.
pub label_decides : (x y : Option (List (List ℕ)))
    → Decides (option_eq (pointwise (pointwise nat_eq)) x y) (x ≡ y)
label_decides None None = (λ _. refl, λ _. refl)
label_decides None (Some y) = (λ t. cc, λ same. cc)
label_decides (Some x) None = (λ t. cc, λ same. cc)
label_decides (Some x) (Some y) =
    (λ t. ap Some ((texts_decides x y).0 t), λ same. (texts_decides x y).1 (cc))
