-- What an iterator over the entries of a map has still to give.
use Rattle.std.specs.Prelude.{List, ◌++◌}
use Rattle.cell_core.specs.declared.keyed.iter.Iter.{Iter}
use Rattle.cell_core.specs.Chunks.{all_of}

-- what is left of the chunk at hand, then all of the chunks after it
abbrev pub entries_left : {K J : Type 0} → Iter K J → List (K × J)
entries_left s = s.rest.now ++ all_of s.chunks.now
