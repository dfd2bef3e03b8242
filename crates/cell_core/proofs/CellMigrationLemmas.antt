-- Migration keeps the order of stamps, and the joins of stamps and cells.
use Rattle.std.proofs.Common.{◌≡◌, ℕ, ◌<◌, ◌^◌, Bool, true, false, cond, sym, ap, ◌∙◌, refl}
use Rattle.std.specs.Ordering.{nat_cmp, ordering_then, is_lt}
use Rattle.std.specs.Cmp.{tied_itself}
use Rattle.std.specs.Cmp.Lexicographic.{slice_cmp, nat_list_cmp_total}
use Rattle.std.proofs.lemmas.Map.Lookups.{exact_unsigned}
use Rattle.cell_core.specs.SiteName.{padded_name}
use Rattle.cell_core.specs.Stamp.{stamp_cmp}
use Rattle.cell_core.specs.Cell.{AgreeStamps, joined_stamps, AgreeCells, joined_cells}
use Rattle.cell_core.specs.CellMigration.{OldStamp, IsOldStamp, OldCell, old_stamp_cmp}
use Rattle.cell_core.specs.CellMigration.{AgreeOldStamps}
use Rattle.cell_core.specs.CellMigration.{joined_old_stamps, AgreeOldCells, joined_old_cells}
use Rattle.cell_core.specs.CellMigration.{migrated_stamp, migrated_cell, KeepsJoins}
use Rattle.cell_core.proofs.SiteNamePaddedLemmas.{cmp-padded_name}

-- Migrated stamps are in the order that they had before the migration.
pub cmp-migrated : (s t : OldStamp) → IsOldStamp s → IsOldStamp t
    → stamp_cmp (migrated_stamp s) (migrated_stamp t) ≡ old_stamp_cmp s t
cmp-migrated s t p q =
    ap (λ r. ordering_then (nat_cmp s.time t.time) (ordering_then r (nat_cmp s.count t.count)))
    (cmp-padded_name s.site t.site p.site_fits q.site_fits)

-- different numbers have different names
pub padded_name-injective : (m n : ℕ) → m < 2 ^ 32 → n < 2 ^ 32 → padded_name m ≡ padded_name n
    → m ≡ n
padded_name-injective m n p q same =
    exact_unsigned m n
    (sym (cmp-padded_name m n p q) ∙ ap (slice_cmp nat_cmp (padded_name m)) (sym same)
    ∙ tied_itself nat_list_cmp_total (padded_name m))

-- stamps that are one after the migration were one
pub migrated_stamp-injective : (s t : OldStamp) → IsOldStamp s → IsOldStamp t
    → migrated_stamp s ≡ migrated_stamp t → s ≡ t
migrated_stamp-injective s t p q same =
    let site =
    padded_name-injective s.site t.site p.site_fits q.site_fits (ap (λ u. u.site) same) in
    λ i. record { time = ap (λ u. u.time) same i; site = site i; count = ap (λ u. u.count) same i }

-- a function of the later is the later of its values
of_later : {X Y : Type 0} (f : X → Y) (t : Bool) (a b : X) → f (cond t b a) ≡ cond t (f b) (f a)
of_later f true a b = refl
of_later f false a b = refl

-- Migration keeps the joins of stamps, and which of them agree.
pub keeps_stamp_joins : (s t : OldStamp) → IsOldStamp s → IsOldStamp t
    → KeepsJoins migrated_stamp AgreeOldStamps joined_old_stamps AgreeStamps joined_stamps s t
keeps_stamp_joins s t p q = record {
  agrees = λ _. tt;
  agreed = λ _. tt;
  joins =
      λ _. of_later migrated_stamp (is_lt (old_stamp_cmp s t)) s t
      ∙ ap (λ r. cond (is_lt r) (migrated_stamp t) (migrated_stamp s)) (sym (cmp-migrated s t p q));
}

-- Migration keeps the joins of cells, and which of them agree.
pub keeps_cell_joins : (a b : OldCell) → IsOldStamp a.stamp → IsOldStamp b.stamp
    → KeepsJoins migrated_cell AgreeOldCells joined_old_cells AgreeCells joined_cells a b
keeps_cell_joins a b p q = record {
  agrees = λ agree same. agree (migrated_stamp-injective a.stamp b.stamp p q same);
  agreed = λ agree same. agree (ap migrated_stamp same);
  joins = λ _. of_later migrated_cell (is_lt (old_stamp_cmp a.stamp b.stamp)) a b
      ∙ ap (λ r. cond (is_lt r) (migrated_cell b) (migrated_cell a))
      (sym (cmp-migrated a.stamp b.stamp p q));
}
