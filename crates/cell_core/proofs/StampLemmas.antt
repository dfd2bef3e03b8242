-- When a stamp is the least new one of a site.
--
-- Stamps are ordered by time, then site, then count. The next one of a site must be above its last
-- one and not before now. By cases of the last stamp: if it is before now, or its site is below
-- this one at the same time, the first stamp of this site at that time is the least. If it is of
-- this site, the next count is, and at the last count, or if its site is above, the first stamp at
-- the next time.
use Rattle.std.proofs.Common.{◌≡◌, ◌≢◌, ℕ, ◌+◌, ◌<◌, ◌≤◌, ◌^◌, ◌⊎◌, inl, inr, false, List}
use Rattle.std.proofs.Common.{Option, Some, None, sym, ap, ◌∙◌, refl, arith}
use Rattle.std.proofs.lemmas.Bool.{cases_lt}
use Rattle.std.specs.Ordering.{nat_cmp, ordering_then, MatchOrdering, is_lt}
use Rattle.std.specs.Cmp.{nat_cmp_is, tied_itself}
use Rattle.std.specs.Cmp.Lexicographic.{slice_cmp, nat_list_cmp_total}
use Rattle.std.specs.declared.cmp.Ordering.{Ordering}
use Rattle.std.specs.declared.cmp.Ordering.TheVariants.{Less, Equal, Greater}
use Rattle.std.proofs.lemmas.Cmp.{ranked}
use Rattle.cell_core.specs.declared.stamp.Stamp.{Stamp}
use Rattle.cell_core.specs.Stamp.{stamp_cmp, IsNew, IsNext}

abbrev sites : Stamp → Stamp → Ordering
sites a b = slice_cmp nat_cmp a.site b.site

-- a is before b, part by part
abbrev Precedes : Stamp → Stamp → Type 0
Precedes a b =
    (a.time < b.time)
    ⊎ ((a.time ≡ b.time) × ((sites a b ≡ Less) ⊎ ((sites a b ≡ Equal) × (a.count < b.count))))

-- s is at most u, where both are of one site
abbrev IsUpTo : Stamp → Stamp → Type 0
IsUpTo s u = (s.time < u.time) ⊎ ((s.time ≡ u.time) × (s.count ≤ u.count))

less_by_count : (r : Ordering) (c d : ℕ) → ordering_then r (nat_cmp c d) ≡ Less
    → (r ≡ Less) ⊎ ((r ≡ Equal) × (c < d))
less_by_count Less c d h = inl refl
less_by_count Equal c d h = inr (refl, ranked c d Less (sym h))
less_by_count Greater c d h = absurd (cc)

less_by_time : (r q : Ordering) (t u c d : ℕ) → MatchOrdering r (t < u) (t ≡ u) (u < t)
    → ordering_then r (ordering_then q (nat_cmp c d)) ≡ Less
    → (t < u) ⊎ ((t ≡ u) × ((q ≡ Less) ⊎ ((q ≡ Equal) × (c < d))))
less_by_time Less q t u c d m h = inl m
less_by_time Equal q t u c d m h = inr (m, less_by_count q c d h)
less_by_time Greater q t u c d m h = absurd (cc)

precedes : (a b : Stamp) → stamp_cmp a b ≡ Less → Precedes a b
precedes a b h =
    less_by_time (nat_cmp a.time b.time) (sites a b) a.time b.time a.count b.count
    (ranked a.time b.time (nat_cmp a.time b.time) refl) h

before_in_time : (a b : Stamp) → a.time < b.time → stamp_cmp a b ≡ Less
before_in_time a b lt =
    ap (λ r. ordering_then r (ordering_then (sites a b) (nat_cmp a.count b.count)))
    (sym (nat_cmp_is a.time b.time Less lt))

at_one_time : (a b : Stamp) → a.time ≡ b.time
    → stamp_cmp a b ≡ ordering_then (sites a b) (nat_cmp a.count b.count)
at_one_time a b same =
    ap (λ r. ordering_then r (ordering_then (sites a b) (nat_cmp a.count b.count)))
    (sym (nat_cmp_is a.time b.time Equal same))

at_one_site : (a b : Stamp) → a.time ≡ b.time → a.site ≡ b.site
    → stamp_cmp a b ≡ nat_cmp a.count b.count
at_one_site a b same site =
    at_one_time a b same
    ∙ ap (λ r. ordering_then r (nat_cmp a.count b.count))
    (ap (slice_cmp nat_cmp a.site) (sym site) ∙ tied_itself nat_list_cmp_total a.site)

not_greater : (s u : Stamp) → s.site ≡ u.site → IsUpTo s u → stamp_cmp s u ≢ Greater
not_greater s u site h = elim h as (λ _. stamp_cmp s u ≢ Greater) [
  | inl lt ↦ λ greater. let less = before_in_time s u lt in absurd (cc)
  | inr same ↦
      λ greater.
      absurd
      (omega (
        arith,
        same.1,
        ranked s.count u.count Greater
            (sym (sym (at_one_site s u same.0 site) ∙ greater)),
      ))
]

next_is : (last : Option Stamp) (now : ℕ) (site : List ℕ) (s : Stamp) → IsNew last now site s
    → ((u : Stamp) → IsNew last now site u → IsUpTo s u) → IsNext last now site s
next_is last now site s new least = record {
  new = new;
  least = λ u other. not_greater s u (new.of_site ∙ sym other.of_site) (least u other);
}

up_to_time : (t u d : ℕ) → t ≤ u → (t < u) ⊎ ((t ≡ u) × (0 ≤ d))
up_to_time t u d le =
    elim (cases_lt t u) as
    (λ _. (t < u) ⊎ ((t ≡ u) × (0 ≤ d))) [
      | inl lt ↦ inl lt
      | inr ge ↦
          inr (omega arith, omega arith)
    ]

-- the site's first stamp at a time
abbrev pub first_at : ℕ → List ℕ → Stamp
first_at time site = record { time = time; site = site; count = 0 }

-- The next stamp of a site that has none yet is its first one at the time.
pub next_of_none : (now : ℕ) (site : List ℕ) → now < 2 ^ 64
    → IsNext None now site (first_at now site)
next_of_none now site fits =
    next_is None now site (first_at now site)
    (record {
      of_site = refl;
      not_before = omega arith;
      time_fits = fits;
      count_fits =
          omega arith;
      above = tt;
    })
    (λ u new. up_to_time now u.time u.count new.not_before)

module _ (last : Stamp) (now : ℕ) (site : List ℕ) where
  -- the last one is before now
  pub next_now : last.time < now → now < 2 ^ 64 → IsNext (Some last) now site (first_at now site)
  next_now before fits =
      next_is (Some last) now site (first_at now site)
      (record {
        of_site = refl;
        not_before = omega arith;
        time_fits = fits;
        count_fits =
            omega arith;
        above = before_in_time last (first_at now site) before;
      })
      (λ u new. up_to_time now u.time u.count new.not_before)

  -- the last one's site is below this one
  pub next_at_last : now ≤ last.time → last.time < 2 ^ 64 → slice_cmp nat_cmp last.site site ≡ Less
      → IsNext (Some last) now site (first_at last.time site)
  next_at_last le fits less =
      next_is (Some last) now site (first_at last.time site)
      (record {
        of_site = refl;
        not_before = le;
        time_fits = fits;
        count_fits = omega arith;
        above =
            at_one_time last (first_at last.time site) refl
            ∙ ap (λ r. ordering_then r (nat_cmp last.count 0)) less;
      })
      (λ u new. elim (precedes last u new.above) as
      (λ _. IsUpTo (first_at last.time site) u) [
        | inl lt ↦ inl lt
        | inr same ↦
            inr (same.0, omega arith)
      ])

  -- the last one is of this site
  pub next_count : now ≤ last.time → last.time < 2 ^ 64 → last.count + 1 < 2 ^ 32
      → slice_cmp nat_cmp last.site site ≡ Equal
      → IsNext (Some last) now site
      (record { time = last.time; site = site; count = last.count + 1 })
  next_count le fits count same =
      let s : Stamp = record { time = last.time; site = site; count = last.count + 1 } in
      next_is (Some last) now site s
      (record {
        of_site = refl;
        not_before = le;
        time_fits = fits;
        count_fits = count;
        above =
            at_one_time last s refl
            ∙ ap (λ r. ordering_then r (nat_cmp last.count (last.count + 1))) same
            ∙ sym (nat_cmp_is last.count (last.count + 1) Less (omega arith));
      })
      (λ u new. elim (precedes last u new.above) as (λ _. IsUpTo s u) [
        | inl lt ↦ inl lt
        | inr later ↦ elim later.1 as (λ _. IsUpTo s u) [
          | inl less ↦ let tie = ap (slice_cmp nat_cmp last.site) new.of_site ∙ same in absurd (cc)
          | inr more ↦ inr (later.0, omega (arith, more.1))
        ]
      ])

  -- no count at the last one's time is above it
  abbrev pub IsFull : Type 0
  IsFull =
      (is_lt (slice_cmp nat_cmp last.site site) ≡ false)
      × ((d : ℕ) → slice_cmp nat_cmp last.site site ≡ Equal → last.count < d → d < 2 ^ 32 → ⊥)

  passes_time : IsFull → (u : Stamp) → IsNew (Some last) now site u → last.time < u.time
  passes_time full u new = elim (precedes last u new.above) as (λ _. last.time < u.time) [
    | inl lt ↦ lt
    | inr later ↦ elim later.1 as (λ _. last.time < u.time) [
      | inl less ↦ let below =
          ap (λ r. is_lt r) (sym less ∙ ap (slice_cmp nat_cmp last.site) new.of_site) ∙ full.0 in
          absurd (cc)
      | inr more ↦
          absurd
          (full.1 u.count (ap (slice_cmp nat_cmp last.site) (sym new.of_site) ∙ more.0) more.1
          new.count_fits)
    ]
  ]

  -- where the last one's time is full, the next one is the site's first at the time after it
  pub next_later : now ≤ last.time → last.time + 1 < 2 ^ 64 → IsFull
      → IsNext (Some last) now site (first_at (last.time + 1) site)
  next_later le fits full =
      let s = first_at (last.time + 1) site in
      next_is (Some last) now site s
      (record {
        of_site = refl;
        not_before = omega arith;
        time_fits = fits;
        count_fits =
            omega arith;
        above = before_in_time last s (omega arith);
      })
      (λ u new. up_to_time (last.time + 1) u.time u.count (omega (arith, passes_time full u new)))
