use Rattle.std.proofs.Common.{◌≢◌, ◌∙◌, ap, inl, rules}
use Rattle.catalogue.specs.declared.cata_fault.CataFault.TheVariants as cata
use Rattle.front_core.specs.Fault.{site_fault}
use Rattle.front_core.proofs.editing.take_in.Goals as goal

-- the delta is for another site
pub returns-then-ne-clause-err : goal.returns-then-ne-clause-err
returns-then-ne-clause-err c =
    let apart : c.args.share.now.value.name ≢ c.args.delta.now.addressee = search rules in
    inl (inl (
      apart,
      c.from.ensures ∙ ap (λ name. site_fault (cata.NotForMe name)) c.addressee-addressee.ensures,
    ))
