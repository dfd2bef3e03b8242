-- What a summary shows: the keys of its stamps, and at each place its digest.
use Rattle.std.proofs.Common.{◌≡◌, ◌∙◌, ◌&&◌, ℕ, zero, suc, Bool, true, false, cond, List, [], ◌∷◌}
use Rattle.std.proofs.Common.{Option, None, Some, ap, ap₂, length, map, refl, subst, sym}
use Rattle.std.specs.Prelude.{T, slice_get}
use Rattle.std.specs.Option.{option_map}
use Rattle.std.specs.Ordering.{eq_by_cmp, is_lt}
use Rattle.std.specs.FinMap.Entries.{below_all, find, is_sorted}
use Rattle.cell_core.specs.declared.cell.Cell.{Cell}
use Rattle.cell_core.specs.declared.stamp.Stamp.{Stamp}
use Rattle.cell_core.specs.Keyed.{IsMap}
use Rattle.cell_core.specs.Entry.{EntryKey, key_cmp}
use Rattle.catalogue.specs.Entries.{Entries}
use Rattle.catalogue.proofs.ChangesMappedLemmas.{find-mapped}
use Rattle.cata_core.specs.Delta.{Stamps, summary_of}
use Rattle.summary_docs.specs.Digest.{digest}
use Rattle.summary_docs.specs.Shown.{KnownCell, ShownState, digests_of, known_of, shown_of}

-- ---- the keys are those of the stamps

known-below : (k : EntryKey) (ss : Stamps) (ds : List (List ℕ))
    → below_all key_cmp k (known_of ss ds) ≡ below_all key_cmp k ss
known-below k [] ds = refl
known-below k (s ∷ ss) [] = ap (λ b. is_lt (key_cmp k s.0) && b) (known-below k ss [])
known-below k (s ∷ ss) (d ∷ ds) = ap (λ b. is_lt (key_cmp k s.0) && b) (known-below k ss ds)

known-sorted : (ss : Stamps) (ds : List (List ℕ))
    → is_sorted key_cmp (known_of ss ds) ≡ is_sorted key_cmp ss
known-sorted [] ds = refl
known-sorted (s ∷ ss) [] =
    ap (λ b. b && is_sorted key_cmp (known_of ss [])) (known-below s.0 ss [])
    ∙ ap (λ b. below_all key_cmp s.0 ss && b) (known-sorted ss [])
known-sorted (s ∷ ss) (d ∷ ds) =
    ap (λ b. b && is_sorted key_cmp (known_of ss ds)) (known-below s.0 ss ds)
    ∙ ap (λ b. below_all key_cmp s.0 ss && b) (known-sorted ss ds)

-- what a summary shows is a map, as its stamps are
pub known-IsMap : (ss : Stamps) (ds : List (List ℕ)) → IsMap key_cmp ss
    → IsMap key_cmp (known_of ss ds)
known-IsMap ss ds ascends = subst T (sym (known-sorted ss ds)) ascends

-- it shows as many cells as it has stamps
pub known-length : (ss : Stamps) (ds : List (List ℕ)) → length (known_of ss ds) ≡ length ss
known-length [] ds = refl
known-length (s ∷ ss) [] = ap suc (known-length ss [])
known-length (s ∷ ss) (d ∷ ds) = ap suc (known-length ss ds)

-- a stamp, with the digest at a place
abbrev pub at_place : List (List ℕ) → ℕ → EntryKey × Stamp → EntryKey × KnownCell
at_place ds place s = (s.0, record { stamp = s.1; digest = slice_get ds place })

-- at a place it shows the stamp and the digest there
pub known-slice : (ss : Stamps) (ds : List (List ℕ)) (place : ℕ)
    → slice_get (known_of ss ds) place ≡ option_map (at_place ds place) (slice_get ss place)
known-slice [] ds place = refl
known-slice (s ∷ ss) [] zero = refl
known-slice (s ∷ ss) [] (suc place) = known-slice ss [] place
known-slice (s ∷ ss) (d ∷ ds) zero = refl
known-slice (s ∷ ss) (d ∷ ds) (suc place) = known-slice ss ds place

stamp_or : (b : Bool) (known : KnownCell) (rest : Option KnownCell) (other : Option Stamp)
    → option_map (λ k. k.stamp) rest ≡ other
    → option_map (λ k. k.stamp) (cond b (Some known) rest) ≡ cond b (Some known.stamp) other
stamp_or true known rest other same = refl
stamp_or false known rest other same = same

-- of a key it shows the stamp
pub known-stamp : (k : EntryKey) (ss : Stamps) (ds : List (List ℕ))
    → option_map (λ (x : KnownCell). x.stamp) (find key_cmp k (known_of ss ds)) ≡ find key_cmp k ss
known-stamp k [] ds = refl
known-stamp k (s ∷ ss) [] =
    stamp_or (eq_by_cmp key_cmp k s.0) (record { stamp = s.1; digest = None })
    (find key_cmp k (known_of ss [])) (find key_cmp k ss) (known-stamp k ss [])
known-stamp k (s ∷ ss) (d ∷ ds) =
    stamp_or (eq_by_cmp key_cmp k s.0) (record { stamp = s.1; digest = Some d })
    (find key_cmp k (known_of ss ds)) (find key_cmp k ss) (known-stamp k ss ds)

-- ---- stamps alone, and the cells of a site

-- a stamp alone
abbrev pub stamp_alone : Stamp → KnownCell
stamp_alone s = record { stamp = s; digest = None }

-- a stamp, and the digest of the label
abbrev pub known_cell : Cell → KnownCell
known_cell c = record { stamp = c.stamp; digest = Some (digest c.label) }

alone : (ss : Stamps) → known_of ss [] ≡ map (λ s. (s.0, stamp_alone s.1)) ss
alone [] = refl
alone (s ∷ ss) = ap (λ t. (s.0, stamp_alone s.1) ∷ t) (alone ss)

of_cells : (es : Entries)
    → known_of (summary_of es) (digests_of es) ≡ map (λ e. (e.0, known_cell e.1)) es
of_cells [] = refl
of_cells (e ∷ es) = ap (λ t. (e.0, known_cell e.1) ∷ t) (of_cells es)

-- without digests it shows of a key the stamp alone
pub find-alone : (k : EntryKey) (ss : Stamps)
    → find key_cmp k (known_of ss []) ≡ option_map stamp_alone (find key_cmp k ss)
find-alone k ss = ap (find key_cmp k) (alone ss) ∙ find-mapped key_cmp stamp_alone k ss

-- the summary of some cells shows of a key the cell's stamp and the digest of its label
pub find-of_cells : (k : EntryKey) (es : Entries)
    → find key_cmp k (known_of (summary_of es) (digests_of es))
    ≡ option_map known_cell (find key_cmp k es)
find-of_cells k es = ap (find key_cmp k) (of_cells es) ∙ find-mapped key_cmp known_cell k es

-- the stamps and the digests of some cells, for this owner
pub shown-is : (owner : List ℕ) (cells : Entries) (stamps : Stamps) (digests : List (List ℕ))
    → stamps ≡ summary_of cells → digests ≡ digests_of cells
    → (let shown : ShownState =
    record { summary = record { owner = owner; stamps = stamps }; digests = digests } in
    shown ≡ shown_of owner cells)
shown-is owner cells stamps digests p q =
    ap₂ (λ (ss : Stamps) (ds : List (List ℕ)). let r : ShownState =
    record { summary = record { owner = owner; stamps = ss }; digests = ds } in r) p q
