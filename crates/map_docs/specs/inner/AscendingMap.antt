-- Maps that are filled once, seen as their entries in ascending order of key.
use Rattle.std.specs.Prelude.{List}
use Rattle.map_docs.specs.declared.ascending_map.AscendingMap as map
use Rattle.map_docs.specs.declared.ascending_map.AscendingMap.TheVariants.{List as InList, Tree}

-- the entries in order
abbrev pub entries_of : {K X : Type 0} → map.AscendingMap K X → List (K × X)
entries_of (InList list) = list.items
entries_of (Tree tree) = tree.entries
