-- The order of stamps, and the next stamp of a site (project rules).
use Rattle.std.specs.Prelude.{◌≡◌, ◌≢◌, ℕ, ◌<◌, ◌≤◌, ◌^◌, List, Option, Some, None}
use Rattle.std.specs.Ordering.{nat_cmp, ordering_then}
use Rattle.std.specs.Cmp.Lexicographic.{slice_cmp}
use Rattle.std.specs.declared.cmp.Ordering.{Ordering}
use Rattle.std.specs.declared.cmp.Ordering.TheVariants.{Less, Greater}
use Rattle.cell_core.specs.declared.stamp.Stamp.{Stamp}

-- by time, then by site in the order of sites, then by count
abbrev pub by_time_site_count : {T S : Type 0} → (T → ℕ) → (T → S) → (T → ℕ) → (S → S → Ordering)
    → T → T → Ordering
by_time_site_count time site count sites a b =
    ordering_then (nat_cmp (time a) (time b))
    (ordering_then (sites (site a) (site b)) (nat_cmp (count a) (count b)))

-- sites by the bytes of their names
abbrev pub stamp_cmp : Stamp → Stamp → Ordering
stamp_cmp = by_time_site_count (λ s. s.time) (λ s. s.site) (λ s. s.count) (slice_cmp nat_cmp)

-- s is greater than the last stamp, where there is one
abbrev pub IsAbove : Option Stamp → Stamp → Type 0
IsAbove None s = Unit {0}
IsAbove (Some last) s = stamp_cmp last s ≡ Less

-- s may be a new stamp of the site
pub record IsNew (last : Option Stamp) (now : ℕ) (site : List ℕ) (s : Stamp) : Type 0 where
  pub of_site : s.site ≡ site
  pub not_before : now ≤ s.time
  pub time_fits : s.time < 2 ^ 64
  pub count_fits : s.count < 2 ^ 32
  pub above : IsAbove last s

-- s is the least new stamp of the site
pub record IsNext (last : Option Stamp) (now : ℕ) (site : List ℕ) (s : Stamp) : Type 0 where
  pub new : IsNew last now site s
  pub least : (t : Stamp) → IsNew last now site t → stamp_cmp s t ≢ Greater

-- the site can have no new stamp
abbrev pub NoNext : Option Stamp → ℕ → List ℕ → Type 0
NoNext last now site = (t : Stamp) → ¬ (IsNew last now site t)
