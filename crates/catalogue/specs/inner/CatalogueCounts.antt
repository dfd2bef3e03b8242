-- How many cells come in.
use Rattle.std.specs.Prelude.{ℕ, length, filter}
use Rattle.std.specs.Option.{is_none}
use Rattle.std.specs.FinMap.Entries.{find}
use Rattle.cell_core.specs.Entry.{key_cmp}
use Rattle.catalogue.specs.Entries.{Entries}

-- how many of the other's cells have keys that are not held
abbrev pub count_absent : Entries → Entries → ℕ
count_absent own other = length (filter (λ e. is_none (find key_cmp e.0 own)) other)
