-- Migration keeps the joins of catalogues.
use Rattle.std.proofs.Common.{◌≡◌, Option, Some, None, inl, inr, subst}
use Rattle.std.specs.Prelude.{◌↔◌}
use Rattle.std.specs.FinMap.Entries.{find}
use Rattle.cell_core.specs.Cell.{AgreeCells, joined_cells}
use Rattle.cell_core.specs.inner.Cell.{cell_laws}
use Rattle.cell_core.specs.Keyed.{AgreeIfBoth}
use Rattle.cell_core.specs.inner.KeyedLaws.{at_of}
use Rattle.cell_core.specs.CellMigration.{IsOldStamp, OldCell, AgreeOldCells, joined_old_cells}
use Rattle.cell_core.specs.CellMigration.{migrated_cell}
use Rattle.cell_core.proofs.CellMigrationLemmas.{keeps_cell_joins}
use Rattle.cell_core.specs.Entry.{EntryKey, key_cmp}
use Rattle.cell_core.specs.inner.Entry.{key_cmp_total, key_cmp_exact}
use Rattle.cata_core.specs.SiteMigration.{OldEntries, IsOldMap, AgreeOld, KeepsCatalogueJoins}
use Rattle.cata_core.specs.SiteMigration.{migrated_entries}
use Rattle.catalogue.proofs.ChangesMappedLemmas.{mapped-IsMap, mapped_joined, mapped_agree}

abbrev HasOldStamp : OldCell → Type 0
HasOldStamp c = IsOldStamp c.stamp

refl_old : (c : OldCell) → AgreeOldCells c c
refl_old c = λ e i. c.label

-- what agrees as maps agrees at each key
at_each : (a b : OldEntries) → AgreeOld a b → (k : EntryKey)
    → AgreeIfBoth AgreeOldCells (find key_cmp k a) (find key_cmp k b)
at_each a b h k = elim h as (λ _. AgreeIfBoth AgreeOldCells (find key_cmp k a) (find key_cmp k b)) [
  | inl e ↦
      subst (λ m. AgreeIfBoth AgreeOldCells (find key_cmp k a) (find key_cmp k m)) e
      (same (find key_cmp k a))
  | inr r ↦ r.at k
]
  where
    same : (o : Option OldCell) → AgreeIfBoth AgreeOldCells o o
    same None = tt
    same (Some c) = refl_old c

agrees_old : (x y : OldCell) → HasOldStamp x → HasOldStamp y → AgreeOldCells x y
    ↔ AgreeCells (migrated_cell x) (migrated_cell y)
agrees_old x y p q = let kept = keeps_cell_joins x y p q in (kept.agrees, kept.agreed)

joins_old : (x y : OldCell) → HasOldStamp x → HasOldStamp y → AgreeOldCells x y
    → migrated_cell (joined_old_cells x y) ≡ joined_cells (migrated_cell x) (migrated_cell y)
joins_old x y p q = let kept = keeps_cell_joins x y p q in kept.joins

-- Migrated catalogues agree exactly where the old ones do, and their join is the migrated join.
pub keeps_catalogue_joins : (a b : OldEntries) → IsOldMap a → IsOldMap b → KeepsCatalogueJoins a b
keeps_catalogue_joins a b m n =
    let both =
    mapped_agree key_cmp migrated_cell HasOldStamp AgreeOldCells AgreeCells agrees_old a b
    m.stamps n.stamps in
    let first = mapped-IsMap key_cmp migrated_cell a m.map in
    let second = mapped-IsMap key_cmp migrated_cell b n.map in
    record {
      agrees = λ h. inr (record { first = first; second = second; at = both.0 (at_each a b h) });
      agreed =
          λ h. inr
          (record {
            first = m.map;
            second = n.map;
            at =
                both.1
                (at_of key_cmp key_cmp_total key_cmp_exact cell_laws (migrated_entries a)
                (migrated_entries b) h);
          });
      joins =
          λ h. mapped_joined key_cmp migrated_cell HasOldStamp AgreeOldCells joined_old_cells
          joined_cells joins_old key_cmp_total key_cmp_exact a b m.map n.map m.stamps n.stamps
          (at_each a b h);
    }
