-- A site lacks no edit of its own, and how the first that it lacks is found.
--
-- In a consistent run each cell that is held, or on its way, is an edit of some step. If its stamp
-- names a site, that site made it, so it is among the edits that the site took; and of those the
-- site holds at each key the greatest.
use Rattle.std.proofs.Common.{◌≡◌, ◌∙◌, ◌+◌, ◌<◌, ◌^◌, ℕ, List, [], ◌∷◌, ◌++◌, ap, inl}
use Rattle.std.proofs.Common.{append_assoc, arith, false, inr, length, length-append, nat_eq, refl}
use Rattle.std.proofs.Common.{subst, sym, true, true≢false}
use Rattle.std.specs.Prelude.{◌⊎◌, All, Contains, None, Option, Some}
use Rattle.std.specs.FinMap.Entries.{find}
use Rattle.std.specs.Cmp.Lexicographic.{bytes_decides, pointwise}
use Rattle.std.specs.declared.cmp.Ordering.TheVariants.{Equal, Greater, Less}
use Rattle.std.proofs.lemmas.List.Elements.{All-cons, All-contains, All-nil, All-push}
use Rattle.cell_core.specs.Entry.{key_cmp}
use Rattle.cell_core.specs.Stamp.{stamp_cmp}
use Rattle.cell_core.specs.declared.cell.Cell.{Cell}
use Rattle.catalogue.specs.Edits.{IsConsistent}
use Rattle.catalogue.specs.Entries.{Entries, Entry}
use Rattle.catalogue.proofs.Basics.{append_nil}
use Rattle.catalogue.proofs.CatalogueLemmas.{found_best, has_cell}
use Rattle.catalogue.proofs.CatalogueMembersLemmas.{Contains-from_in, In, in_append_cases}
use Rattle.catalogue.proofs.CatalogueMembersLemmas.{in_append_left, in_append_right}
use Rattle.cata_core.specs.Delta.{HasAtLeast}
use Rattle.cata_core.specs.OwnEdits.{AreMadeAtHome, IsFirstLacked, IsLackedEdit, LacksNoEdit}
use Rattle.cata_core.specs.RunsTaken.{edits_by, edits_of, nothing_taken, taken}
use Rattle.cata_core.specs.WorldHeld.{cells_in, held, held_after, nothing_held}
use Rattle.cata_core.specs.declared.step.Step.{Step}
use Rattle.cata_core.specs.declared.step.Step.TheVariants.{Deliver, Edit}
use Rattle.cata_core.proofs.LatestTakenLemmas.{in_catalogue}
use Rattle.cata_core.proofs.RunsSpreadingLemmas.{edited, only_edits_taken, steps_have}
use Rattle.cata_core.proofs.RunsTakenAndHeldLemmas.{brought_known, held_is_catalogue}

-- ---- the first row that is lacked

-- of the rows so far none is lacked, and their number is known, where all can be counted
pub record IsSought (name : List ℕ) (cells rows left : Entries) (row : ℕ) : Type 0 where
  pub before : Entries
  pub rows_are : rows ≡ before ++ left
  pub none : LacksNoEdit name cells before
  pub row_is : length rows < 2 ^ 64 → length before ≡ row

-- no row was looked at yet
pub sought_none : (name : List ℕ) (cells rows left : Entries) → left ≡ rows
    → IsSought name cells rows left 0
sought_none name cells rows left is = record {
  before = [];
  rows_are = sym is;
  none = All-nil
      (λ (e : Entry). ¬ (IsLackedEdit name cells e));
  row_is = λ _. refl;
}

-- where none is left none is lacked
pub sought_all : (name : List ℕ) (cells rows left : Entries) (row : ℕ)
    → IsSought name cells rows left row → left ≡ [] → LacksNoEdit name cells rows
sought_all name cells rows left row so none =
    subst (LacksNoEdit name cells)
    (sym (so.rows_are ∙ ap (λ (es : Entries). so.before ++ es) none ∙ append_nil so.before)) so.none

-- one row more is not lacked
pub sought_next : (name : List ℕ) (cells rows left rest : Entries) (e : Entry) (row next : ℕ)
    → IsSought name cells rows left row → left ≡ e ∷ rest → ¬ (IsLackedEdit name cells e)
    → (row + 1 < 2 ^ 64 → next ≡ row + 1) → IsSought name cells rows rest next
sought_next name cells rows left rest e row next so is held counted =
    let whole : rows ≡ (so.before ++ e ∷ []) ++ rest = so.rows_are
    ∙ ap (λ (es : Entries). so.before ++ es) is
    ∙ sym (append_assoc so.before (e ∷ []) rest) in record {
      before = so.before ++ e ∷ [];
      rows_are = whole;
      none = All-push (λ (d : Entry). ¬ (IsLackedEdit name cells d)) so.before e so.none held;
      row_is = λ few.
          let front = length-append so.before (e ∷ []) in
          let all = length-append (so.before ++ e ∷ []) rest in
          let count = ap length whole in
          let here = so.row_is few in
          let one = counted (omega (arith, few, front, all, count, here)) in
          omega (arith, front, here, one);
    }

-- the next row is the first that is lacked
pub sought_first : (name : List ℕ) (cells rows left rest : Entries) (e : Entry) (row : ℕ)
    → IsSought name cells rows left row → left ≡ e ∷ rest → IsLackedEdit name cells e
    → length rows < 2 ^ 64 → IsFirstLacked name cells rows row
sought_first name cells rows left rest e row so is lacked few = record {
  before = so.before;
  edit = e;
  after = rest;
  rows_are = so.rows_are ∙ ap (λ (es : Entries). so.before ++ es) is;
  row_is = so.row_is few;
  none_before = so.none;
  is_lacked = lacked;
}

-- ---- where one is lacked

module _ (name : List ℕ) (cells : Entries) (e : Entry) (o : Option Cell)
    (is : find key_cmp e.0 cells ≡ o) where
  lacks : pointwise nat_eq e.1.stamp.site name ≡ true → ¬ (HasAtLeast o e.1.stamp)
      → IsLackedEdit name cells e
  lacks own none = record {
    own = (bytes_decides e.1.stamp.site name).0 own;
    lacked = subst (λ (o : Option Cell). ¬ (HasAtLeast o e.1.stamp)) (sym is) none;
  }

  holds : HasAtLeast o e.1.stamp → ¬ (IsLackedEdit name cells e)
  holds has lacked =
      lacked.lacked (subst (λ (o : Option Cell). HasAtLeast o e.1.stamp) (sym is) has)

-- a row is lacked, or it is not
lacked_or_not : (name : List ℕ) (cells : Entries) (e : Entry) (o : Option Cell)
    → find key_cmp e.0 cells ≡ o
    → IsLackedEdit name cells e ⊎ (¬ (IsLackedEdit name cells e))
lacked_or_not name cells e o is = elim (pointwise nat_eq e.1.stamp.site name) as
    (λ t. pointwise nat_eq e.1.stamp.site name ≡ t
    → IsLackedEdit name cells e ⊎ (¬ (IsLackedEdit name cells e))) [
      | true ↦ λ t. own t o is
      | false ↦ λ t. inr
          (λ lacked. true≢false (sym ((bytes_decides e.1.stamp.site name).1 lacked.own) ∙ t))
    ] refl
  where
    own : pointwise nat_eq e.1.stamp.site name ≡ true → (o : Option Cell)
        → find key_cmp e.0 cells ≡ o
        → IsLackedEdit name cells e ⊎ (¬ (IsLackedEdit name cells e))
    own t None is = inl (lacks name cells e None is t (λ has. has))
    own t (Some c) is = elim (stamp_cmp c.stamp e.1.stamp) as
        (λ r. stamp_cmp c.stamp e.1.stamp ≡ r
        → IsLackedEdit name cells e ⊎ (¬ (IsLackedEdit name cells e))) [
          | Less ↦ λ r. inl (lacks name cells e (Some c) is t (λ has. has r))
          | Equal ↦ λ r. inr (holds name cells e (Some c) is
              (λ less. let no : Equal ≡ Less = sym r ∙ less in cc))
          | Greater ↦ λ r. inr (holds name cells e (Some c) is
              (λ less. let no : Greater ≡ Less = sym r ∙ less in cc))
        ] refl

-- of some rows none is lacked, or one is the first
pub none_or_first : (name : List ℕ) (cells rows : Entries)
    → LacksNoEdit name cells rows ⊎ ((row : ℕ) × IsFirstLacked name cells rows row)
none_or_first name cells [] = inl (All-nil (λ (e : Entry). ¬ (IsLackedEdit name cells e)))
none_or_first name cells (d ∷ rows) =
    let Held = λ (e : Entry). ¬ (IsLackedEdit name cells e) in
    elim (lacked_or_not name cells d (find key_cmp d.0 cells) refl) as
    (λ _. LacksNoEdit name cells (d ∷ rows)
    ⊎ ((row : ℕ) × IsFirstLacked name cells (d ∷ rows) row)) [
      | inl lacked ↦ inr (
        0,
        record {
          before = [];
          edit = d;
          after = rows;
          rows_are = refl;
          row_is = refl;
          none_before = All-nil Held;
          is_lacked = lacked;
        },
      )
      | inr held ↦ elim (none_or_first name cells rows) as
          (λ _. LacksNoEdit name cells (d ∷ rows)
          ⊎ ((row : ℕ) × IsFirstLacked name cells (d ∷ rows) row)) [
            | inl none ↦ inl (All-cons Held d rows held none)
            | inr (row, first) ↦ inr (
              row + 1,
              record {
                before = d ∷ first.before;
                edit = first.edit;
                after = first.after;
                rows_are = ap (λ (es : Entries). d ∷ es) first.rows_are;
                row_is = (let was = first.row_is in omega (arith, was));
                none_before = All-cons Held d first.before held first.none_before;
                is_lacked = first.is_lacked;
              },
            )
          ]
    ]

-- where a row is lacked one is the first
pub first_of_lacked : (name : List ℕ) (cells rows : Entries) (e : Entry) → Contains rows e
    → IsLackedEdit name cells e → (row : ℕ) × IsFirstLacked name cells rows row
first_of_lacked name cells rows e at lacked = elim (none_or_first name cells rows) [
  | inl none ↦ absurd
      (All-contains (λ (d : Entry). ¬ (IsLackedEdit name cells d)) rows e none at lacked)
  | inr found ↦ found
]

-- ---- that none is lacked

-- what is true of each member is true of all
pub all_of_members : {X : Type 0} (P : X → Type 0) (xs : List X) → ((x : X) → In xs x → P x)
    → All P xs
all_of_members P [] each = All-nil P
all_of_members P (x ∷ xs) each =
    All-cons P x xs (each x (inl refl)) (all_of_members P xs (λ y at. each y (inr at)))

-- the edits of a run are among those of a longer one
edits_stay : (p q : List Step) (e : Entry) → In (edits_of p) e → In (edits_of (p ++ q)) e
edits_stay [] q e h = absurd h
edits_stay (step ∷ p) q e h =
    elim (in_append_cases (edits_by step) (edits_of p) e h) as
    (λ _. In (edits_by step ++ edits_of (p ++ q)) e) [
      | inl a ↦ in_append_left (edits_by step) (edits_of (p ++ q)) e a
      | inr b ↦ in_append_right (edits_by step) (edits_of (p ++ q)) e (edits_stay p q e b)
    ]

module _ (names : ℕ → List ℕ) (steps : List Step) (consistent : IsConsistent (edits_of steps))
    (at_home : AreMadeAtHome names steps) (a : ℕ) where
  -- the site holds each edit that its name is in, or a later one
  holds_own : (e : Entry) → In (edits_of steps) e → e.1.stamp.site ≡ names a
      → HasAtLeast (find key_cmp e.0 (held steps a)) e.1.stamp
  holds_own e made own =
      let step = steps_have steps e made in
      let here : step.0 ≡ a =
      at_home.apart step.0 a
      (sym (at_home.home step.0 e (Contains-from_in steps (Edit step.0 e) step.1)) ∙ own) in
      let took : In (taken steps a) e =
      subst (λ s. In (taken steps s) e) here (edited nothing_taken steps step.0 e step.1) in
      let kept = has_cell (taken steps a) e.0 e.1 took in
      let best = found_best (taken steps a) e.0 kept.0 kept.1 in
      let held_is : find key_cmp e.0 (held steps a) ≡ Some kept.0 =
      ap (find key_cmp e.0) (held_is_catalogue steps consistent a) ∙ kept.1 in
      subst (λ (o : Option Cell). HasAtLeast o e.1.stamp) (sym held_is)
      (best.greatest e.1 (Contains-from_in (taken steps a) e took))

  -- of rows that are edits of the run it lacks none of its own
  none_lacked : (rows : Entries) → ((e : Entry) → In rows e → In (edits_of steps) e)
      → LacksNoEdit (names a) (held steps a) rows
  none_lacked rows made =
      all_of_members (λ (e : Entry). ¬ (IsLackedEdit (names a) (held steps a) e)) rows
      (λ e at lacked. lacked.lacked (holds_own e (made e at) lacked.own))

  -- so of what another holds
  pub no_site_lacks : (b : ℕ) → LacksNoEdit (names a) (held steps a) (held steps b)
  no_site_lacks b =
      none_lacked (held steps b)
      (λ e at. only_edits_taken steps b e
      (in_catalogue (taken steps b) e
      (subst (λ es. In es e) (held_is_catalogue steps consistent b) at)))

-- and of what a delta brings, that was posted before
pub no_delta_shows : (names : ℕ → List ℕ) (earlier later : List Step) (a post : ℕ)
    (brought : ℕ × Entries) → let steps = earlier ++ later in
    IsConsistent (edits_of steps) → AreMadeAtHome names steps
    → cells_in (held_after nothing_held earlier) (Deliver post) ≡ Some brought
    → LacksNoEdit (names a) (held steps a) brought.1
no_delta_shows names earlier later a post brought consistent at_home is =
    none_lacked names (earlier ++ later) consistent at_home a brought.1
    (brought_known (edits_of (earlier ++ later)) consistent earlier (edits_stay earlier later) post
    brought is)
