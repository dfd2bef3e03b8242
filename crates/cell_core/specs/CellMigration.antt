-- Stamps and cells of numbered sites, as documents of version 1 have them, and what they become
-- (project rules).
use Rattle.std.specs.Prelude.{◌≡◌, ℕ, ◌<◌, ◌^◌, List, Option}
use Rattle.std.specs.Ordering.{nat_cmp}
use Rattle.std.specs.declared.cmp.Ordering.{Ordering}
use Rattle.cell_core.specs.declared.stamp.Stamp.{Stamp}
use Rattle.cell_core.specs.declared.cell.Cell.{Cell}
use Rattle.cell_core.specs.Stamp.{by_time_site_count}
use Rattle.cell_core.specs.StampLater.{later_by}
use Rattle.cell_core.specs.Cell.{AgreeBy}
use Rattle.cell_core.specs.SiteName.{padded_name}

-- a stamp of a numbered site
pub record OldStamp : Type 0 where
  pub time : ℕ
  pub site : ℕ
  pub count : ℕ

-- time of 64 bits, site and count of 32
pub record IsOldStamp (s : OldStamp) : Type 0 where
  pub time_fits : s.time < 2 ^ 64
  pub site_fits : s.site < 2 ^ 32
  pub count_fits : s.count < 2 ^ 32

-- the order of stamps, with sites by their numbers
abbrev pub old_stamp_cmp : OldStamp → OldStamp → Ordering
old_stamp_cmp = by_time_site_count (λ s. s.time) (λ s. s.site) (λ s. s.count) nat_cmp

-- such a stamp with a label or with none
pub record OldCell : Type 0 where
  pub stamp : OldStamp
  pub label : Option (List (List ℕ))

-- old stamps always agree
abbrev pub AgreeOldStamps : OldStamp → OldStamp → Type 0
AgreeOldStamps a b = Unit {0}

-- the greater old stamp
abbrev pub joined_old_stamps : OldStamp → OldStamp → OldStamp
joined_old_stamps = later_by (λ s. s) old_stamp_cmp

-- old cells agree where their stamps differ or their labels are equal
abbrev pub AgreeOldCells : OldCell → OldCell → Type 0
AgreeOldCells = AgreeBy (λ c. c.stamp) (λ c. c.label)

-- the old cell with the greater stamp
abbrev pub joined_old_cells : OldCell → OldCell → OldCell
joined_old_cells = later_by (λ c. c.stamp) old_stamp_cmp

-- the same with the site's padded name
abbrev pub migrated_stamp : OldStamp → Stamp
migrated_stamp s = record { time = s.time; site = padded_name s.site; count = s.count }

-- the same cell with its stamp so
abbrev pub migrated_cell : OldCell → Cell
migrated_cell c = record { stamp = migrated_stamp c.stamp; label = c.label }

-- what is joined before the migration and what is joined after it are the same, and agree alike
pub record KeepsJoins {X Y : Type 0} (migrated : X → Y) (agree_old : X → X → Type 0)
    (joined_old : X → X → X) (agree : Y → Y → Type 0) (joined : Y → Y → Y) (a b : X) : Type 0 where
  pub agrees : agree_old a b → agree (migrated a) (migrated b)
  pub agreed : agree (migrated a) (migrated b) → agree_old a b
  pub joins : agree_old a b → migrated (joined_old a b) ≡ joined (migrated a) (migrated b)
