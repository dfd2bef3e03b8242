-- Where cells are in a map of maps: what a walk has passed, and what is left.
use Rattle.std.proofs.Common.{◌≡◌, ℕ, zero, suc, ◌+◌, ◌*◌, ◌<◌, ◌≤◌, List, [], ◌∷◌, ◌++◌, length}
use Rattle.std.proofs.Common.{cond, sym, ap, ◌∙◌, subst, arith}
use Rattle.std.specs.Prelude.{T, slice_get}
use Rattle.std.specs.Option.{option_map}
use Rattle.std.proofs.lemmas.Option.{slice_get-map}
use Rattle.std.specs.declared.cmp.Ordering.{Ordering}
use Rattle.std.specs.declared.cmp.Ordering.TheVariants.{Less, Equal, Greater}
use Rattle.std.specs.Ordering.{is_gt, ordering_then}
use Rattle.std.specs.Cmp.{IsTotalOrder}
use Rattle.std.specs.Cmp.Lexicographic.{nat_list_cmp_total}
use Rattle.std.specs.FinMap.Entries.{is_sorted, below_all}
use Rattle.cell_core.specs.Keyed.{IsMap}
use Rattle.cell_core.specs.inner.KeyedPlaces.{place_of}
use Rattle.cell_core.specs.Entry.{EntryKey, pair_cmp, text_cmp, key_cmp}
use Rattle.catalogue.specs.CatalogueFlat.{under, flat}
use Rattle.catalogue.specs.CatalogueNested.{Inner, Nested}
use Rattle.catalogue.specs.inner.CatalogueNested.{IsCountable}
use Rattle.cell_core.proofs.Basics.{first_part, second_part}
use Rattle.catalogue.proofs.Basics.{slice_get-front}
use Rattle.cell_core.proofs.KeyedPlacesLemmas.{below_tied, below-trans}
use Rattle.catalogue.proofs.PlacesKeyLemmas.{place_of-below}
use Rattle.catalogue.proofs.CatalogueFlatLemmas.{below_flat}
use Rattle.catalogue.proofs.CatalogueLengthsLemmas.{length-under, length-flat-cons}

-- ---- counting

-- `total` is the number of cells before what is left
pub record IsCounted (m left : Nested) (total : ℕ) : Type 0 where
  pub cells : total + length (flat left) ≡ length (flat m)
  pub small : total + length left * 18446744073709551615 ≤ length m * 18446744073709551615

-- ---- the place of a key

module _ {K L J : Type 0} (P : K → K → Ordering) (Q : L → L → Ordering) (tp : IsTotalOrder P) where
  under_greater : (k : K) (q : K × L) (es : List (L × J)) (rest : List ((K × L) × J))
      → P q.0 k ≡ Greater
      → place_of (pair_cmp P Q) q (under k es ++ rest) ≡ length es + place_of (pair_cmp P Q) q rest
  under_greater k q [] rest p = omega arith
  under_greater k q (e ∷ es) rest p =
      ap (λ r. cond (is_gt (ordering_then r (Q q.1 e.0)))
      (suc (place_of (pair_cmp P Q) q (under k es ++ rest))) 0) p
      ∙ omega (arith, under_greater k q es rest p)

  under_same : (k : K) (q : K × L) (es : List (L × J)) (rest : List ((K × L) × J)) → P q.0 k ≡ Equal
      → place_of (pair_cmp P Q) q rest ≡ 0
      → place_of (pair_cmp P Q) q (under k es ++ rest) ≡ place_of Q q.1 es
  under_same k q [] rest p z = z
  under_same k q (e ∷ es) rest p z =
      λ i. cond (is_gt (ordering_then (p i) (Q q.1 e.0))) (suc (under_same k q es rest p z i)) 0

  under_less : (k : K) (q : K × L) (es : List (L × J)) (rest : List ((K × L) × J)) → P q.0 k ≡ Less
      → place_of (pair_cmp P Q) q rest ≡ 0 → place_of (pair_cmp P Q) q (under k es ++ rest) ≡ 0
  under_less k q [] rest p z = z
  under_less k q (e ∷ es) rest p z =
      ap (λ r. cond (is_gt (ordering_then r (Q q.1 e.0)))
      (suc (place_of (pair_cmp P Q) q (under k es ++ rest))) 0) p

  module _ (k : K) (cells : List (L × J)) (es : List (K × List (L × J)))
      (m : IsMap P ((k, cells) ∷ es)) (q : K × L) where
    below : T (below_all P k es)
    below = first_part (below_all P k es) (is_sorted P es) m

    -- a key before the first message, in it, and after it
    pub place_of-less : P q.0 k ≡ Less → place_of (pair_cmp P Q) q (flat ((k, cells) ∷ es)) ≡ 0
    place_of-less p =
        under_less k q cells (flat es) p
        (place_of-below (pair_cmp P Q) q (flat es)
        (below_flat P Q tp q es (below-trans P tp q.0 k es p below)))

    -- a key of the first message has its place among that message's cells
    pub place_of-same : P q.0 k ≡ Equal
        → place_of (pair_cmp P Q) q (flat ((k, cells) ∷ es)) ≡ place_of Q q.1 cells
    place_of-same p =
        under_same k q cells (flat es) p
        (place_of-below (pair_cmp P Q) q (flat es)
        (below_flat P Q tp q es (below_tied P tp q.0 k es p below)))

    -- a key of a later message has its place after the first message's cells
    pub place_of-greater : P q.0 k ≡ Greater
        → place_of (pair_cmp P Q) q (flat ((k, cells) ∷ es))
        ≡ length cells + place_of (pair_cmp P Q) q (flat es)
    place_of-greater p = under_greater k q cells (flat es) p

-- what is left is a map, and `total` cells come before it, all with smaller keys
pub record IsInFront (m left : Nested) (key : EntryKey) (total : ℕ) : Type 0 where
  pub map : IsMap text_cmp left
  pub cells : total + length (flat left) ≡ length (flat m)
  pub place : total + place_of key_cmp key (flat left) ≡ place_of key_cmp key (flat m)

-- ---- the entry at a place

slice_get-right : {X : Type 0} (xs ys : List X) (n m : ℕ) → length xs + m ≡ n
    → slice_get (xs ++ ys) n ≡ slice_get ys m
slice_get-right [] ys n m e = let same : m ≡ n = omega (arith, e) in ap (slice_get ys) (sym same)
slice_get-right (x ∷ xs) ys zero m e = absurd (omega (arith, e))
slice_get-right (x ∷ xs) ys (suc n) m e = slice_get-right xs ys n m (omega (arith, e))

module _ {K L J : Type 0} where
  -- an entry of an inner map, with the outer key too
  abbrev pub with_outer : K → L × J → (K × L) × J
  with_outer k e = ((k, e.0), e.1)

  -- a place within the first inner map, and after it
  pub place_within : (k : K) (cells : List (L × J)) (es : List (K × List (L × J))) (at : ℕ)
      → at < length cells
      → slice_get (flat ((k, cells) ∷ es)) at ≡ option_map (with_outer k) (slice_get cells at)
  place_within k cells es at lt =
      slice_get-front (under k cells) (flat es) at
      (subst (λ n. at < n) (sym (length-under k cells)) lt)
      ∙ slice_get-map (with_outer k) cells at

  -- a place past the first message's cells is one in what follows, lower by their number
  pub place_behind : (k : K) (cells : List (L × J)) (es : List (K × List (L × J))) (at left : ℕ)
      → length cells + left ≡ at
      → slice_get (flat ((k, cells) ∷ es)) at ≡ slice_get (flat es) left
  place_behind k cells es at left e =
      slice_get-right (under k cells) (flat es) at left
      (ap (λ n. n + left) (length-under k cells) ∙ e)

-- ---- one message more before what is left

module _ (m left : Nested) (key : EntryKey) (id : List ℕ) (cells : Inner) (total : ℕ)
    (h : IsInFront m ((id, cells) ∷ left) key total) where
  -- where the next message is above the key's, the place is what was counted
  pub in_front_less : text_cmp key.0 id ≡ Less → total ≡ place_of key_cmp key (flat m)
  in_front_less p =
      omega (
        arith,
        h.place,
        place_of-less text_cmp text_cmp nat_list_cmp_total id cells left h.map
            key p,
      )

  -- where it is the key's, the place in its cells is added
  pub in_front_same : text_cmp key.0 id ≡ Equal
      → total + place_of text_cmp key.1 cells ≡ place_of key_cmp key (flat m)
  in_front_same p =
      omega (
        arith,
        h.place,
        place_of-same text_cmp text_cmp nat_list_cmp_total id cells left h.map
            key p,
      )

  -- where it is below the key's, its cells are counted too
  pub in_front_next : text_cmp key.0 id ≡ Greater → IsInFront m left key (total + length cells)
  in_front_next p = record {
    map = second_part (below_all text_cmp id left) (is_sorted text_cmp left) h.map;
    cells = omega (arith, h.cells, length-flat-cons id cells left);
    place =
        omega (
          arith,
          h.place,
          place_of-greater text_cmp text_cmp nat_list_cmp_total id cells left
              h.map key p,
        );
  }

  -- the count with one message more fits where all cells are countable
  pub in_front_fits : IsCountable m → total + length cells < 340282366920938463463374607431768211456
  in_front_fits fits = omega (arith, fits, h.cells, length-flat-cons id cells left)
