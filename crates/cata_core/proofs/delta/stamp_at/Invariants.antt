use Rattle.std.proofs.Common.{◌≡◌, ◌≢◌, length}
use Rattle.std.specs.declared.cmp.Ordering.TheVariants.{Greater}
use Rattle.std.specs.FinMap.Entries.{find}
use Rattle.cell_core.specs.Keyed.{IsMap}
use Rattle.cell_core.specs.Entry.{EntryKey, key_cmp}
use Rattle.cata_core.proofs.delta.stamp_at.Given as goal

abbrev pub invariant-loop-first : goal.invariant-loop-first
invariant-loop-first l =
    IsMap key_cmp l.rest
    × ((q : EntryKey) → key_cmp (l.id, l.lang) q ≢ Greater
    → find key_cmp q l.rest ≡ find key_cmp q l.entries)

abbrev pub decreases-loop-first : goal.decreases-loop-first
decreases-loop-first l = length l.rest
