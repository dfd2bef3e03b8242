-- That premises of the laws are needed: edits and runs that show it.
--
-- For each premise there is a small example in which it fails and the law is false. Two cells of
-- one stamp make a list that is not settled, so that its catalogue depends on the order. Two sites
-- that edit with one stamp take the same edits and end with different cells. A delta loses cells if
-- its receiver lacks what its summary shows. Each example is computed.
use Rattle.std.proofs.Common.{◌≡◌, ◌≢◌, ℕ, zero, suc, List, [], ◌∷◌, Some, None, inl, inr, refl}
use Rattle.std.proofs.Common.{sym, ap, ◌∙◌, arith}
use Rattle.std.specs.Prelude.{Contains, All, ◌<◌, slice_index_or}
use Rattle.std.specs.FinMap.Entries.{find}
use Rattle.cell_core.specs.declared.cell.Cell.{Cell}
use Rattle.cell_core.specs.declared.stamp.Stamp.{Stamp}
use Rattle.cell_core.specs.Stamp.{stamp_cmp}
use Rattle.cata_core.specs.declared.step.Step.{Step}
use Rattle.cata_core.specs.declared.step.Step.TheVariants.{Edit, Tell, Post, Deliver}
use Rattle.cell_core.specs.Entry.{EntryKey, key_cmp}
use Rattle.catalogue.specs.Entries.{Entry, Entries, Agree, joined}
use Rattle.catalogue.specs.Edits.{IsBest, IsSettled, IsConsistent, SameMembers, catalogue_of}
use Rattle.cata_core.specs.Delta.{Stamps, summary_of, delta_of}
use Rattle.cata_core.specs.RunsTaken.{taken}
use Rattle.cata_core.specs.WorldHeld.{held, nothing_held}
use Rattle.cata_core.specs.PlayFault.{NoneFaulty}
use Rattle.catalogue.proofs.Basics.{some_same}
use Rattle.catalogue.proofs.CatalogueMembersLemmas.{In, in_from_Contains, Contains-from_in}
use Rattle.catalogue.proofs.EditStampOrderLemmas.{not_less_self}
use Rattle.catalogue.proofs.CatalogueApplyLemmas.{with_none}
use Rattle.cata_core.proofs.RunsMachineLemmas.{AllSound, none_faulty}

abbrev key : EntryKey
key = ([], [])

abbrev early : Stamp
early = record { time = 0; site = []; count = 0 }

abbrev late : Stamp
late = record { time = 1; site = []; count = 0 }

-- two cells of one stamp, and one of a later stamp
abbrev gone : Cell
gone = record { stamp = early; label = None }

abbrev kept : Cell
kept = record { stamp = early; label = Some [] }

abbrev later : Cell
later = record { stamp = late; label = None }

differ : gone ≢ kept
differ e = let labels : None ≡ Some [] = ap (λ (c : Cell). c.label) e in cc

-- ---- settled

swap_one : (a b e : Entry) → Contains (a ∷ b ∷ []) e → Contains (b ∷ a ∷ []) e
swap_one a b e h =
    Contains-from_in (b ∷ a ∷ []) e
    (elim (in_from_Contains (a ∷ b ∷ []) e h) as (λ _. In (b ∷ a ∷ []) e) [
      | inl s ↦ inr (inl s)
      | inr r ↦ elim r as (λ _. In (b ∷ a ∷ []) e) [ inl s ↦ inl s | inr none ↦ absurd none ]
    ])

swapped : (a b : Entry) → SameMembers (a ∷ b ∷ []) (b ∷ a ∷ [])
swapped a b e = (swap_one a b e, swap_one b a e)

abbrev unsettled : List Entry
unsettled = (key, gone) ∷ (key, kept) ∷ []

abbrev turned : List Entry
turned = (key, kept) ∷ (key, gone) ∷ []

-- Lists with the same members may have different catalogues, if they are not settled.
pub two_catalogues : (xs : List Entry) × (ys : List Entry) × SameMembers xs ys
    × (catalogue_of xs ≢ catalogue_of ys)
two_catalogues = (
  unsettled,
  turned,
  swapped (key, gone) (key, kept),
  λ e. differ
      (some_same gone kept (ap (find key_cmp key) e)),
)

-- the second edit is as good as the first
kept_best : IsBest unsettled key kept
kept_best = record {
  member = Contains-from_in unsettled (key, kept) (inr (inl refl));
  greatest = λ d has less. elim (in_from_Contains unsettled (key, d) has) as (λ _. ⊥) [
    | inl s ↦ not_less_self early (ap (λ (x : Entry). stamp_cmp early x.1.stamp) s ∙ less)
    | inr r ↦
        elim r as
        (λ _. ⊥) [
          | inl s ↦
              not_less_self early (ap (λ (x : Entry). stamp_cmp early x.1.stamp) s ∙ less)
          | inr none ↦
              none
        ]
  ];
}

-- A best edit may be missing from the catalogue, if the list is not settled.
pub best_not_found : (xs : List Entry) × (k : EntryKey) × (c : Cell) × IsBest xs k c
    × (find key_cmp k (catalogue_of xs) ≢ Some c)
best_not_found = (unsettled, key, kept, kept_best, λ e. differ (some_same gone kept e))

-- ---- consistent

abbrev hidden : List Entry
hidden = (key, gone) ∷ (key, kept) ∷ (key, later) ∷ []

-- an earlier edit is not best
beaten : (k : EntryKey) (c d : Cell) → IsBest hidden k c → ◌≡◌ {A = Entry} (key, d) (k, c)
    → d.stamp ≡ early → ⊥
beaten k c d best s at =
    best.greatest later
    (Contains-from_in hidden (k, later) (inr (inr (inl (ap (λ (e : Entry). (e.0, later)) s)))))
    (ap (λ (e : Entry). stamp_cmp e.1.stamp late) (sym s) ∙ ap (λ t. stamp_cmp t late) at)

best_is_later : (k : EntryKey) (c : Cell) → IsBest hidden k c → later ≡ c
best_is_later k c best = elim (in_from_Contains hidden (k, c) best.member) as (λ _. later ≡ c) [
  | inl s ↦ absurd (beaten k c gone best s refl)
  | inr r ↦ elim r as (λ _. later ≡ c) [
    | inl s ↦ absurd (beaten k c kept best s refl)
    | inr q ↦
        elim q as (λ _. later ≡ c) [ inl s ↦ ap (λ (e : Entry). e.1) s | inr none ↦ absurd none ]
  ]
]

-- A settled list may be inconsistent.
pub settled_inconsistent : (xs : List Entry) × IsSettled xs × ¬ (IsConsistent xs)
settled_inconsistent = (
  hidden,
  (λ k c d p q. sym (best_is_later k c p) ∙ best_is_later k d q),
  λ consistent.
      differ
      (consistent key gone kept (Contains-from_in hidden (key, gone) (inl refl))
      (Contains-from_in hidden (key, kept) (inr (inl refl))) refl),
)

-- two sites edit with one stamp, and each tells the other, so that neither edit is sent
abbrev silent : List Step
silent =
    Edit 0 (key, gone) ∷ Edit 1 (key, kept) ∷ Tell 0 ∷ Tell 1 ∷ Post 1 0 ∷ Post 0 1 ∷ Deliver 0
    ∷ Deliver 1 ∷ []

agrees_none : (e : Entry) → Agree (e ∷ []) []
agrees_none e =
    inr (record { first = tt; second = tt; at = λ q. with_none (find key_cmp q (e ∷ [])) })

none_agrees : (e : Entry) → Agree [] (e ∷ [])
none_agrees e = inr (record { first = tt; second = tt; at = λ q. tt })

alone : (n : ℕ) → n < 2 → All (λ site. site < 2) (n ∷ [])
alone n lt k d below = at k d below
  where
    at : (k d : ℕ) → k < 1 → slice_index_or (n ∷ []) k d < 2
    at zero d below = lt
    at (suc k) d below = absurd (omega (arith, below))

nobody : All (λ site. site < 2) []
nobody k d below = absurd (omega (arith, below))

silent_sound : AllSound 2 nothing_held silent
silent_sound = (
  record {
    sites_there = alone 0 (omega arith);
    posts_there = tt;
    agrees =
        none_agrees (key, gone);
  },
  (
    record {
      sites_there = alone 1 (omega arith);
      posts_there = tt;
      agrees =
          none_agrees (key, kept);
    },
    (
      record { sites_there = alone 0 (omega arith); posts_there = tt; agrees = tt },
      (
        record { sites_there = alone 1 (omega arith); posts_there = tt; agrees = tt },
        (
          record { sites_there = alone 1 (omega arith); posts_there = (omega arith); agrees = tt },
          (
            record {
              sites_there = alone 0 (omega arith);
              posts_there = (omega arith);
              agrees =
                  tt;
            },
            (
              record {
                sites_there = nobody;
                posts_there = (omega arith);
                agrees =
                    agrees_none (key, gone);
              },
              (
                record {
                  sites_there = nobody;
                  posts_there = (omega arith);
                  agrees =
                      agrees_none (key, kept);
                },
                tt,
              ),
            ),
          ),
        ),
      ),
    ),
  ),
)

-- In a run without a fault two sites may take the same edits and have different cells.
pub unequal_sites : (steps : List Step) × (s : ℕ) × (t : ℕ) × NoneFaulty 2 steps
    × SameMembers (taken steps s) (taken steps t) × (held steps s ≢ held steps t)
unequal_sites = (
  silent,
  0,
  1,
  none_faulty 2 silent silent_sound,
  swapped (key, gone) (key, kept),
  λ e. differ
      (some_same gone kept (ap (find key_cmp key) e)),
)

-- ---- the receiver has all of the summary

-- A delta may lose cells, if the receiver does not have all of the summary.
pub delta_too_small : (own : Entries) × (sender : Entries) × (summary : Stamps) × Agree own sender
    × (joined own (delta_of sender summary) ≢ joined own sender)
delta_too_small = (
  [],
  (key, gone) ∷ [],
  summary_of ((key, gone) ∷ []),
  none_agrees (key, gone),
  λ e. let lost : None ≡ Some gone = ap (find key_cmp key) e in cc,
)
