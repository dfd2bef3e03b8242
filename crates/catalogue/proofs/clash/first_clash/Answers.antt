use Rattle.catalogue.proofs.CatalogueNestedLemmas.{agree_both_ways}
use Rattle.catalogue.proofs.clash.first_clash.Goals as goal

pub returns-then-agrees : goal.returns-then-agrees
returns-then-agrees c =
    let both =
    agree_both_ways c.args.mine.now c.args.theirs.now c.requires.mine c.requires.theirs in
    both.0 (c.agrees.ensures.0 c.if-agrees.true)
