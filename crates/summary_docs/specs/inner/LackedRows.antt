-- What is left of a list past a key.
use Rattle.std.specs.Prelude.{◌≡◌, List}
use Rattle.std.specs.declared.cmp.Ordering.TheVariants.{Less}
use Rattle.std.specs.FinMap.Entries.{find}
use Rattle.cell_core.specs.Entry.{EntryKey, key_cmp}

-- what is left of a list has what all of it has of each key that is greater than this one
abbrev pub IsPassed : {V : Type 0} → EntryKey → List (EntryKey × V) → List (EntryKey × V) → Type 0
IsPassed key all left =
    (q : EntryKey) → key_cmp key q ≡ Less → find key_cmp q left ≡ find key_cmp q all
