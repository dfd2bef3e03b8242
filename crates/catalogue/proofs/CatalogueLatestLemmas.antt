-- The latest stamp of a catalogue.
--
-- It is computed as the greatest over the cells, and absent if there are none. Taking the later of
-- two that may be absent is associative, so the cells may be grouped in any way, as chunks and
-- messages do. The result is a cell's stamp and no cell has a later one. A cell that is written
-- with a stamp above all becomes the latest.
use Rattle.std.proofs.Common.{◌≡◌, ◌≢◌, true, false, cond, [], ◌∷◌, Option, Some, None}
use Rattle.std.proofs.Common.{inl, inr, refl, sym, ap, ◌∙◌, subst}
use Rattle.std.specs.Prelude.{◌↔◌, Contains}
use Rattle.std.specs.declared.cmp.Ordering.{Ordering}
use Rattle.std.specs.declared.cmp.Ordering.TheVariants.{Less, Equal, Greater}
use Rattle.std.specs.Ordering.{is_lt, eq_by_cmp, ordering_reverse}
use Rattle.std.specs.FinMap.Entries.{find, put, by_order}
use Rattle.cell_core.specs.declared.cell.Cell.{Cell}
use Rattle.cell_core.specs.declared.stamp.Stamp.{Stamp}
use Rattle.cell_core.specs.Cell.{AgreeStamps, joined_stamps}
use Rattle.cell_core.specs.inner.Cell.{stamp_laws, stamp_cmp_total}
use Rattle.cell_core.specs.Keyed.{AgreeIfBoth, joined_if_both}
use Rattle.cell_core.specs.inner.KeyedLaws.{if_both_laws}
use Rattle.cell_core.specs.Stamp.{stamp_cmp, IsAbove}
use Rattle.cell_core.specs.Entry.{EntryKey, key_cmp}
use Rattle.catalogue.specs.Entries.{Entry, Entries}
use Rattle.catalogue.specs.CatalogueLatest.{latest_of, IsLatest}
use Rattle.lang_core.proofs.Basics.{less_of}
use Rattle.catalogue.proofs.Basics.{not_less_of, some_same}
use Rattle.catalogue.proofs.CatalogueMembersLemmas.{In, in_from_Contains, Contains-from_in}
use Rattle.catalogue.proofs.EditStampOrderLemmas.{not_less_self, not_less_back, not_less_trans}

-- Stamps that may be absent always agree.
pub always : (a b : Option Stamp) → AgreeIfBoth AgreeStamps a b
always None b = tt
always (Some s) None = tt
always (Some s) (Some t) = tt

-- The latest of three stamps that may be absent does not depend on how they are grouped.
pub latest_assoc : (a b c : Option Stamp)
    → joined_if_both joined_stamps (joined_if_both joined_stamps a b) c
    ≡ joined_if_both joined_stamps a (joined_if_both joined_stamps b c)
latest_assoc a b c = let o = if_both_laws stamp_laws in
    o.assoc a b c (always a b) (always a c) (always b c)

-- one cell more
pub latest_next : (latest : Option Stamp) (later stamp : Stamp) (k : EntryKey) (c : Cell)
    (es : Entries) (all : Option Stamp)
    → Some later ≡ joined_if_both joined_stamps latest (Some stamp) → stamp ≡ c.stamp
    → joined_if_both joined_stamps latest (latest_of ((k, c) ∷ es)) ≡ all
    → joined_if_both joined_stamps (Some later) (latest_of es) ≡ all
latest_next latest later stamp k c es all is at h =
    ap (λ o. joined_if_both joined_stamps o (latest_of es)) is
    ∙ latest_assoc latest (Some stamp) (latest_of es)
    ∙ ap (λ s. joined_if_both joined_stamps latest
    (joined_if_both joined_stamps (Some s) (latest_of es))) at ∙ h

-- The later of a stamp that may be absent and none is the first.
pub latest_with_none : (a : Option Stamp) → joined_if_both joined_stamps a None ≡ a
latest_with_none None = refl
latest_with_none (Some s) = refl

-- ---- a stamp above all

-- above the greater of two is above both
above_first : (a : Stamp) (o : Option Stamp) (s : Stamp)
    → IsAbove (joined_if_both joined_stamps (Some a) o) s → stamp_cmp a s ≡ Less
above_first a None s h = h
above_first a (Some t) s h =
    elim (is_lt (stamp_cmp a t)) as
    (λ b. is_lt (stamp_cmp a t) ≡ b → stamp_cmp (cond b t a) s ≡ Less → stamp_cmp a s ≡ Less) [
      | true ↦ λ b k. stamp_cmp_total.trans a t s (less_of (stamp_cmp a t) b) k
      | false ↦ λ b k. k
    ] refl h

above_second : (a : Stamp) (o : Option Stamp) (s : Stamp)
    → IsAbove (joined_if_both joined_stamps (Some a) o) s → IsAbove o s
above_second a None s h = tt
above_second a (Some t) s h =
    elim (is_lt (stamp_cmp a t)) as
    (λ b. is_lt (stamp_cmp a t) ≡ b → stamp_cmp (cond b t a) s ≡ Less → stamp_cmp t s ≡ Less) [
      | true ↦ λ b k. k
      | false ↦ λ b k. below (stamp_cmp t a) refl (λ less. not_less_of (stamp_cmp a t) b less) k
    ] refl h
  where
    below : (r : Ordering) → stamp_cmp t a ≡ r → (stamp_cmp a t ≡ Less → ⊥) → stamp_cmp a s ≡ Less
        → stamp_cmp t s ≡ Less
    below Less e never k = stamp_cmp_total.trans t a s e k
    below Equal e never k = stamp_cmp_total.congr t a s e ∙ k
    below Greater e never k = absurd (never (stamp_cmp_total.antisymm a t ∙ ap ordering_reverse e))

-- Each cell has a smaller stamp than one that is above all of them.
pub held_less : (es : Entries) (k : EntryKey) (c : Cell) (s : Stamp) → IsAbove (latest_of es) s
    → find key_cmp k es ≡ Some c → stamp_cmp c.stamp s ≡ Less
held_less [] k c s h is = absurd (cc)
held_less (e ∷ es) k c s h is =
    elim (eq_by_cmp key_cmp k e.0) as
    (λ t. cond t (Some e.1) (find key_cmp k es) ≡ Some c → stamp_cmp c.stamp s ≡ Less) [
      | true ↦
          λ is. subst (λ (x : Cell). stamp_cmp x.stamp s ≡ Less) (some_same e.1 c is)
          (above_first e.1.stamp (latest_of es) s h)
      | false ↦ λ is. held_less es k c s (above_second e.1.stamp (latest_of es) s h) is
    ] is

less_with : (a : Stamp) (o : Option Stamp) (s : Stamp) → stamp_cmp a s ≡ Less → IsAbove o s
    → IsAbove (joined_if_both joined_stamps (Some a) o) s
less_with a None s less above = less
less_with a (Some t) s less above =
    elim (is_lt (stamp_cmp a t)) as (λ b. stamp_cmp (cond b t a) s ≡ Less) [
      | true ↦ above
      | false ↦ less
    ]

below_each : (es : Entries) (s : Stamp) → IsAbove (latest_of es) s → (e : Entry) → In es e
    → stamp_cmp e.1.stamp s ≡ Less
below_each [] s h e there = absurd there
below_each (x ∷ es) s h e there = elim there as (λ _. stamp_cmp e.1.stamp s ≡ Less) [
  | inl is ↦
      subst (λ (y : Entry). stamp_cmp y.1.stamp s ≡ Less) is
      (above_first x.1.stamp (latest_of es) s h)
  | inr later ↦ below_each es s (above_second x.1.stamp (latest_of es) s h) e later
]

above_all : (es : Entries) (s : Stamp) → ((e : Entry) → In es e → stamp_cmp e.1.stamp s ≡ Less)
    → IsAbove (latest_of es) s
above_all [] s h = tt
above_all (x ∷ es) s h =
    less_with x.1.stamp (latest_of es) s (h x (inl refl))
    (above_all es s (λ e there. h e (inr there)))

-- A stamp is above the latest of some cells exactly where it is above that of each.
pub above_each : (es : Entries) (s : Stamp) → IsAbove (latest_of es) s
    ↔ ((e : Entry) → Contains es e → stamp_cmp e.1.stamp s ≡ Less)
above_each es s = (
  (λ h e there. below_each es s h e (in_from_Contains es e there)),
  (λ h. above_all es s (λ e there. h e (Contains-from_in es e there))),
)

joined_above : (o : Option Stamp) (s : Stamp) → IsAbove o s
    → joined_if_both joined_stamps o (Some s) ≡ Some s
joined_above None s h = refl
joined_above (Some t) s h = ap (λ r. Some (cond (is_lt r) s t)) h

joined_below : (s : Stamp) (o : Option Stamp) → IsAbove o s
    → joined_if_both joined_stamps (Some s) o ≡ Some s
joined_below s None h = refl
joined_below s (Some t) h =
    ap (λ r. Some (cond (is_lt r) t s)) (stamp_cmp_total.antisymm s t ∙ ap ordering_reverse h)

-- a cell with a stamp above all has the latest
pub latest_put : (k : EntryKey) (c : Cell) (es : Entries) → IsAbove (latest_of es) c.stamp
    → latest_of (put key_cmp k c es) ≡ Some c.stamp
latest_put k c [] h = refl
latest_put k c (e ∷ es) h =
    elim (key_cmp k e.0) as
    (λ r. latest_of (by_order r ((k, c) ∷ e ∷ es) ((e.0, c) ∷ es) (e ∷ put key_cmp k c es))
    ≡ Some c.stamp) [
      | Less ↦ joined_below c.stamp (latest_of (e ∷ es)) h
      | Equal ↦
          joined_below c.stamp (latest_of es) (above_second e.1.stamp (latest_of es) c.stamp h)
      | Greater ↦
          ap (joined_if_both joined_stamps (Some e.1.stamp))
          (latest_put k c es (above_second e.1.stamp (latest_of es) c.stamp h))
          ∙ joined_above (Some e.1.stamp) c.stamp (above_first e.1.stamp (latest_of es) c.stamp h)
    ]

-- ---- it is the latest

record IsLatestIn (cells : Entries) (s : Stamp) : Type 0 where
  entry : Entry
  held : In cells entry
  stamp_is : entry.1.stamp ≡ s
  latest : (e : Entry) → In cells e → stamp_cmp s e.1.stamp ≢ Less

latest_in : (es : Entries) (s : Stamp) → latest_of es ≡ Some s → IsLatestIn es s
latest_in [] s h = absurd (cc)
latest_in (e ∷ es) s h =
    elim (latest_of es) as
    (λ o. latest_of es ≡ o → joined_if_both joined_stamps (Some e.1.stamp) o ≡ Some s
    → IsLatestIn (e ∷ es) s) [
      | None ↦ λ none is.
          let same : e.1.stamp ≡ s = some_same e.1.stamp s is in
          record {
            entry = e;
            held = inl refl;
            stamp_is = same;
            latest = λ f there. elim there as (λ _. stamp_cmp s f.1.stamp ≢ Less) [
              | inl at ↦
                  subst (λ t. stamp_cmp t f.1.stamp ≢ Less) same
                  (subst (λ (x : Entry). stamp_cmp e.1.stamp x.1.stamp ≢ Less) at
                  (not_less_self e.1.stamp))
              | inr rest ↦ absurd (no_cells es none f rest)
            ];
          }
      | Some t ↦ λ some is.
          let below = latest_in es t some in
          elim (is_lt (stamp_cmp e.1.stamp t)) as
          (λ b. is_lt (stamp_cmp e.1.stamp t) ≡ b → Some (cond b t e.1.stamp) ≡ Some s
          → IsLatestIn (e ∷ es) s) [
            | true ↦ λ b k.
                let same : t ≡ s = some_same t s k in
                record {
                  entry = below.entry;
                  held = inr below.held;
                  stamp_is = below.stamp_is ∙ same;
                  latest = λ f there. elim there as (λ _. stamp_cmp s f.1.stamp ≢ Less) [
                    | inl at ↦
                        subst (λ x. stamp_cmp x f.1.stamp ≢ Less) same
                        (subst (λ (x : Entry). stamp_cmp t x.1.stamp ≢ Less) at
                        (not_less_back e.1.stamp t (less_of (stamp_cmp e.1.stamp t) b)))
                    | inr rest ↦
                        subst (λ x. stamp_cmp x f.1.stamp ≢ Less) same (below.latest f rest)
                  ];
                }
            | false ↦ λ b k.
                let same : e.1.stamp ≡ s = some_same e.1.stamp s k in
                record {
                  entry = e;
                  held = inl refl;
                  stamp_is = same;
                  latest = λ f there. elim there as (λ _. stamp_cmp s f.1.stamp ≢ Less) [
                    | inl at ↦
                        subst (λ x. stamp_cmp x f.1.stamp ≢ Less) same
                        (subst (λ (x : Entry). stamp_cmp e.1.stamp x.1.stamp ≢ Less) at
                        (not_less_self e.1.stamp))
                    | inr rest ↦
                        subst (λ x. stamp_cmp x f.1.stamp ≢ Less) same
                        (not_less_trans e.1.stamp t f.1.stamp
                        (λ less. not_less_of (stamp_cmp e.1.stamp t) b less) (below.latest f rest))
                  ];
                }
          ] refl is
    ] refl h
  where
    no_cells : (xs : Entries) → latest_of xs ≡ None → (f : Entry) → In xs f → ⊥
    no_cells [] h f there = there
    no_cells (x ∷ xs) h f there =
        elim (latest_of xs) as (λ o. joined_if_both joined_stamps (Some x.1.stamp) o ≡ None → ⊥) [
          | None ↦ λ k. absurd (cc)
          | Some t ↦ λ k. absurd (cc)
        ] h

latest_none : (es : Entries) → latest_of es ≡ None → es ≡ []
latest_none [] h = refl
latest_none (e ∷ es) h =
    absurd
    (elim (latest_of es) as (λ o. joined_if_both joined_stamps (Some e.1.stamp) o ≡ None → ⊥) [
      | None ↦ λ k. absurd (cc)
      | Some t ↦ λ k. absurd (cc)
    ] h)

-- The computed latest stamp belongs to a cell and no cell has a later one, or there are no cells.
pub latest_is : (es : Entries) (latest : Option Stamp) → latest ≡ latest_of es → IsLatest es latest
latest_is es None h = latest_none es (sym h)
latest_is es (Some s) h =
    let g = latest_in es s (sym h) in
    record {
      entry = g.entry;
      held = Contains-from_in es g.entry g.held;
      stamp_is =
          g.stamp_is;
      latest = λ e there. g.latest e (in_from_Contains es e there);
    }

-- the latest stamp after a write above all
pub latest_written : (es new : Entries) (k : EntryKey) (c : Cell) (s : Stamp)
    → new ≡ put key_cmp k c es → IsAbove (latest_of es) c.stamp → s ≡ c.stamp
    → Some s ≡ latest_of new
latest_written es new k c s is above same =
    ap Some same ∙ sym (ap latest_of is ∙ latest_put k c es above)
