use Rattle.front_core.proofs.editing.missing_change.Goals as goal

pub returns : goal.returns
returns c =
    λ old now m of changed. c.missing_more.ensures old c.args.site.now of
    (c.in_ok-came.ensures old now m changed)
