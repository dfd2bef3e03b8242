-- What sites hold are maps whose stamps only grow, whether or not edits clash.
use Rattle.std.proofs.Common.{◌≡◌, ℕ, true, false, List, [], ◌∷◌, ◌++◌, Option, Some, None, inl}
use Rattle.std.proofs.Common.{inr, refl, sym, subst}
use Rattle.std.specs.Prelude.{◌==◌, if◌then◌else◌, slice_get}
use Rattle.std.specs.FinMap.Entries.{find}
use Rattle.cell_core.specs.Cell.{joined_cells}
use Rattle.cell_core.specs.Keyed.{IsMap}
use Rattle.cell_core.specs.inner.KeyedLaws.{joined_maps-IsMap}
use Rattle.cata_core.specs.declared.step.Step.{Step}
use Rattle.cata_core.specs.declared.step.Step.TheVariants.{Edit, Merge, Post, Deliver}
use Rattle.cell_core.specs.Entry.{key_cmp}
use Rattle.cell_core.specs.inner.Entry.{key_cmp_total}
use Rattle.catalogue.specs.Entries.{Entry, Entries, joined}
use Rattle.cata_core.specs.Delta.{Stamps, is_missing, summary_of, HasAll}
use Rattle.cata_core.specs.WorldHeld.{ToldStamps, PostedCells, Held, cells_delivered, cells_in}
use Rattle.cata_core.specs.WorldHeld.{joins}
use Rattle.cata_core.specs.WorldHeld.{delta_to, cells_posted, held_step, nothing_held, held_after}
use Rattle.cata_core.specs.WorldHeld.{held}
use Rattle.catalogue.proofs.CatalogueMembersLemmas.{In, in_append_cases}
use Rattle.catalogue.proofs.EntriesFilteredLemmas.{filter-IsMap}
use Rattle.cata_core.proofs.RunsSpreadingLemmas.{get_in}
use Rattle.cata_core.proofs.SummaryLemmas.{has_own, has_joined}

-- Two lists of steps in sequence lead to where the second leads from the end of the first.
pub held_append : (w : Held) (xs ys : List Step)
    → held_after w (xs ++ ys) ≡ held_after (held_after w xs) ys
held_append w [] ys = refl
held_append w (x ∷ xs) ys = held_append (held_step w x) xs ys

-- what is held and what is posted are maps
record AreMaps (w : Held) : Type 0 where
  sites : (s : ℕ) → IsMap key_cmp (w.of_site s)
  posts : (p : PostedCells) → In w.posts p → IsMap key_cmp p.cells

abbrev IsMapIf : Option (ℕ × Entries) → Type 0
IsMapIf None = Unit {0}
IsMapIf (Some c) = IsMap key_cmp c.1

delivered_map : (w : Held) → AreMaps w → (o : Option PostedCells)
    → ((p : PostedCells) → o ≡ Some p → In w.posts p) → IsMapIf (cells_delivered o)
delivered_map w m None h = tt
delivered_map w m (Some p) h = m.posts p (h p refl)

-- cells that come in are a map
coming_map : (w : Held) → AreMaps w → (step : Step) → IsMapIf (cells_in w step)
coming_map w m (Edit site edit) = tt
coming_map w m (Merge into source) = m.sites source
coming_map w m (Deliver post) =
    delivered_map w m (slice_get w.posts post) (λ p e. get_in w.posts post p e)
coming_map w m _ = tt

module _ (of : ℕ → Entries) (m : (s : ℕ) → IsMap key_cmp (of s)) where
  joins_map : (o : Option (ℕ × Entries)) → IsMapIf o → (s : ℕ) → IsMap key_cmp (joins of o s)
  joins_map None h s = m s
  joins_map (Some c) h s =
      elim (s == c.0) as (λ b. IsMap key_cmp (if b then joined (of s) c.1 else of s)) [
        | true ↦ joined_maps-IsMap key_cmp key_cmp_total joined_cells (of s) c.1 (m s) h
        | false ↦ m s
      ]

  joins_has : (o : Option (ℕ × Entries)) → IsMapIf o → (s : ℕ) (summary : Stamps)
      → HasAll (of s) summary → HasAll (joins of o s) summary
  joins_has None h s summary has = has
  joins_has (Some c) h s summary has =
      elim (s == c.0) as (λ b. HasAll (if b then joined (of s) c.1 else of s) summary) [
        | true ↦ has_joined (of s) c.1 summary (m s) h has
        | false ↦ has
      ]

delta_map : (cells : Entries) → IsMap key_cmp cells → (o : Option ToldStamps) (p : PostedCells)
    → In (delta_to cells o) p → IsMap key_cmp p.cells
delta_map cells m None p h = absurd h
delta_map cells m (Some t) p h = elim h as (λ _. IsMap key_cmp p.cells) [
  | inl e ↦
      subst (λ (q : PostedCells). IsMap key_cmp q.cells) e
      (filter-IsMap key_cmp (λ (e : Entry). is_missing (find key_cmp e.0 t.stamps) e.1.stamp) cells
      m)
  | inr gone ↦ absurd gone
]

posted_map : (w : Held) → AreMaps w → (step : Step) (p : PostedCells) → In (cells_posted w step) p
    → IsMap key_cmp p.cells
posted_map w m (Post site told) p h =
    delta_map (w.of_site site) (m.sites site) (slice_get w.told told) p h
posted_map w m _ p h = absurd h

maps_step : (w : Held) → AreMaps w → (step : Step) → AreMaps (held_step w step)
maps_step w m step = record {
  sites = joins_map w.of_site m.sites (cells_in w step) (coming_map w m step);
  posts =
      λ p h. elim (in_append_cases w.posts (cells_posted w step) p h) as
      (λ _. IsMap key_cmp p.cells) [ inl a ↦ m.posts p a | inr b ↦ posted_map w m step p b ];
}

maps_after : (w : Held) → AreMaps w → (steps : List Step) → AreMaps (held_after w steps)
maps_after w m [] = m
maps_after w m (step ∷ steps) = maps_after (held_step w step) (maps_step w m step) steps

all_maps : (steps : List Step) → AreMaps (held_after nothing_held steps)
all_maps steps = maps_after nothing_held (record { sites = λ s. tt; posts = λ p h. absurd h }) steps

-- The keys of a site's cells strictly ascend, whatever the steps.
pub held-IsMap : (steps : List Step) (site : ℕ) → IsMap key_cmp (held steps site)
held-IsMap steps site = let m = all_maps steps in m.sites site

has_after : (w : Held) → AreMaps w → (steps : List Step) (site : ℕ) (summary : Stamps)
    → HasAll (w.of_site site) summary → let v = held_after w steps in
    HasAll (v.of_site site) summary
has_after w m [] site summary has = has
has_after w m (step ∷ steps) site summary has =
    has_after (held_step w step) (maps_step w m step) steps site summary
    (joins_has w.of_site m.sites (cells_in w step) (coming_map w m step) site summary has)

-- a site that has all of a summary has it still later
pub later_has : (p q : List Step) (site : ℕ) (summary : Stamps) → HasAll (held p site) summary
    → HasAll (held (p ++ q) site) summary
later_has p q site summary has =
    subst (λ (w : Held). HasAll (w.of_site site) summary) (sym (held_append nothing_held p q))
    (has_after (held_after nothing_held p) (all_maps p) q site summary has)

-- What a site has after further steps has all of its earlier summary.
pub told_serves : (p q : List Step) (site : ℕ)
    → HasAll (held (p ++ q) site) (summary_of (held p site))
told_serves p q site = later_has p q site (summary_of (held p site)) (has_own (held p site))
