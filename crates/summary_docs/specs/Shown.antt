-- What a summary shows of a site: stamps, and digests of labels where it shows them. What it lacks.
use Rattle.std.specs.Prelude.{◌≡◌, ℕ, List, [], ◌∷◌, Bool, true, false, not, Option, None, Some}
use Rattle.std.specs.Prelude.{filter, map}
use Rattle.std.specs.Ordering.{match_ordering}
use Rattle.std.specs.Str.{bytes_eq}
use Rattle.std.specs.FinMap.Entries.{find}
use Rattle.cell_core.specs.declared.cell.Cell.{Cell}
use Rattle.cell_core.specs.declared.stamp.Stamp.{Stamp}
use Rattle.cell_core.specs.Stamp.{stamp_cmp}
use Rattle.cell_core.specs.Entry.{EntryKey, key_cmp}
use Rattle.catalogue.specs.Entries.{Entries}
use Rattle.cata_core.specs.Delta.{Stamps, summary_of}
use Rattle.cata_core.specs.Summary.{SummaryState}
use Rattle.summary_docs.specs.Digest.{digest}

-- a summary, and the digests of the labels in its order; none where it shows no labels
pub record ShownState : Type 0 where
  pub summary : SummaryState
  pub digests : List (List ℕ)

-- what is known of a cell: its stamp, and the digest of its label where labels are shown
pub record KnownCell : Type 0 where
  pub stamp : Stamp
  pub digest : Option (List ℕ)

-- what is known of each cell, by its key
abbrev pub known_of : Stamps → List (List ℕ) → List (EntryKey × KnownCell)
known_of [] digests = []
known_of (s ∷ ss) [] = (s.0, record { stamp = s.1; digest = None }) ∷ known_of ss []
known_of (s ∷ ss) (d ∷ ds) = (s.0, record { stamp = s.1; digest = Some d }) ∷ known_of ss ds

-- what a summary shows of each cell
abbrev pub known_in : ShownState → List (EntryKey × KnownCell)
known_in shown = known_of shown.summary.stamps shown.digests

-- the digests of the labels, in the order of the cells
abbrev pub digests_of : Entries → List (List ℕ)
digests_of = map (λ e. digest e.1.label)

-- the summary that shows the labels of these cells, for this owner
abbrev pub shown_of : List ℕ → Entries → ShownState
shown_of owner cells = record {
  summary = record { owner = owner; stamps = summary_of cells };
  digests = digests_of cells;
}

-- ---- what it lacks

-- a digest is shown, and it is of another label
abbrev pub is_of_another : Option (List ℕ) → Option (List (List ℕ)) → Bool
is_of_another None label = false
is_of_another (Some shown) label = not (bytes_eq shown (digest label))

-- nothing is known of the key, or an older stamp, or this stamp with another label
abbrev pub is_lacked : Option KnownCell → Cell → Bool
is_lacked None cell = true
is_lacked (Some known) cell =
    match_ordering (stamp_cmp known.stamp cell.stamp) true (is_of_another known.digest cell.label)
    false

-- the cells that are lacked by what is known
abbrev pub lacked_of : Entries → List (EntryKey × KnownCell) → Entries
lacked_of cells known = filter (λ e. is_lacked (find key_cmp e.0 known) e.1) cells

-- the delta for a summary, with or without digests
abbrev pub delta_for : Entries → ShownState → Entries
delta_for cells shown = lacked_of cells (known_in shown)

-- where both have a key with one stamp and one digest, they have one label
abbrev pub DigestsTell : Entries → Entries → Type 0
DigestsTell own other =
    (key : EntryKey) (mine theirs : Cell) → find key_cmp key own ≡ Some mine
    → find key_cmp key other ≡ Some theirs → mine.stamp ≡ theirs.stamp
    → digest mine.label ≡ digest theirs.label → mine.label ≡ theirs.label
