use Rattle.std.proofs.Common.{◌≡◌, ◌++◌}
use Rattle.cell_core.specs.Iter.{entries_left}
use Rattle.nego_core.specs.Filtering.{texts_of}
use Rattle.catalogue.specs.Languages.{texts_in}
use Rattle.catalogue.proofs.languages.list_languages.Given as goal

abbrev pub invariant-loop-lang : goal.invariant-loop-lang
invariant-loop-lang l =
    texts_of l.listed.items ++ texts_in (entries_left l.lang-iterator) ≡ texts_in l.langs
