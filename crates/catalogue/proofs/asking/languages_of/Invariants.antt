use Rattle.std.proofs.Common.{◌≡◌, take}
use Rattle.nego_core.specs.Filtering.{texts_of}
use Rattle.catalogue.specs.Live.{languages}
use Rattle.catalogue.specs.inner.EntriesBorrowed.{labelled_of}
use Rattle.catalogue.proofs.asking.languages_of.Given as goal

abbrev pub invariant-loop-lang : goal.invariant-loop-lang
invariant-loop-lang l =
    texts_of l.langs.items ≡ languages (labelled_of (take l.lang-index l.labels))
