use Rattle.std.proofs.Common.{sym, subst, refl}
use Rattle.std.specs.Prelude.{IsSome}
use Rattle.catalogue.proofs.CatalogueMembersLemmas.{in_from_Contains}
use Rattle.catalogue.proofs.CatalogueLemmas.{catalogue_of-IsMap, found_best, best_found, has_cell}
use Rattle.catalogue.proofs.laws.catalogue_has_best_edits.Goals as goal

pub returns-clause-map : goal.returns-clause-map
returns-clause-map c = catalogue_of-IsMap

pub returns-clause-best : goal.returns-clause-best
returns-clause-best c = λ xs settled k cell. (found_best xs k cell, best_found xs settled k cell)

pub returns-clause-all : goal.returns-clause-all
returns-clause-all c = λ xs e has. let d = has_cell xs e.0 e.1 (in_from_Contains xs e has) in
    subst IsSome (sym d.1) refl
