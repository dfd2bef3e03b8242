use Rattle.catalogue.proofs.CatalogueLemmas.{same_settled, same_catalogue}
use Rattle.catalogue.proofs.laws.same_edits_same_catalogue.Goals as goal

pub returns : goal.returns
returns c =
    λ xs ys settled same. (same_settled xs ys settled same, same_catalogue xs ys settled same)
