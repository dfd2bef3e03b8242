use Rattle.std.proofs.Common.{ap}
use Rattle.cata_core.specs.RunsTaken.{taken}
use Rattle.cata_core.specs.WorldHeld.{held}
use Rattle.cata_core.specs.Answer.{cells_answer}
use Rattle.catalogue.proofs.CatalogueLemmas.{same_catalogue}
use Rattle.cata_core.proofs.SiteEqualLemmas.{equal_sites, answer_alike}
use Rattle.cata_core.proofs.laws.same_edits_equal_sites.Goals as goal

pub returns-clause-held : goal.returns-clause-held
returns-clause-held c = equal_sites

pub returns-clause-answers : goal.returns-clause-answers
returns-clause-answers c =
    λ p q s t h k same. answer_alike (held p) s (held q) t (equal_sites p q s t h k same)

pub returns-clause-catalogues : goal.returns-clause-catalogues
returns-clause-catalogues c = λ p q s t settled same. let e =
    same_catalogue (taken p s) (taken q t) settled same in (e, ap cells_answer e)
