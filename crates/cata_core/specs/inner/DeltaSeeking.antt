-- Walks through the stamps of a summary, past one key.
use Rattle.std.specs.Prelude.{◌≡◌}
use Rattle.std.specs.declared.cmp.Ordering.TheVariants.{Less}
use Rattle.std.specs.FinMap.Entries.{find}
use Rattle.cell_core.specs.Keyed.{IsMap}
use Rattle.cell_core.specs.Entry.{EntryKey, key_cmp}
use Rattle.cata_core.specs.Delta.{Stamps}

-- after this key, the rest has what all of them have
pub record IsRestAfter (key : EntryKey) (all rest : Stamps) : Type 0 where
  pub sorted : IsMap key_cmp rest
  pub same : (q : EntryKey) → key_cmp key q ≡ Less → find key_cmp q rest ≡ find key_cmp q all
