use Rattle.catalogue.specs.Cells.{cells_left}
use Rattle.catalogue.proofs.LanguageLemmas.{IsGathering}
use Rattle.catalogue.proofs.catalogue.Catalogue.languages.Given as goal

abbrev pub invariant-loop-lang : goal.invariant-loop-lang
invariant-loop-lang l = IsGathering l.self (cells_left l.lang-iterator) l.langs
