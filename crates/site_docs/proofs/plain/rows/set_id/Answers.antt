use Rattle.std.proofs.Common.{◌≡◌, ◌∙◌, rules, subst, sym}
use Rattle.std.specs.declared.cmp.Ordering.TheVariants.{Equal}
use Rattle.std.proofs.lemmas.Map.Lookups.{exact_bytes}
use Rattle.cell_core.specs.MessageId.{IsMessageId}
use Rattle.site_docs.proofs.plain.rows.set_id.Goals as goal

-- texts that are ordered as equal are the same
pub returns-else-is_ne-clause-ok : goal.returns-else-is_ne-clause-ok
returns-else-is_ne-clause-ok c =
    let equal : c.args.order ≡ Equal = search rules in
    let same = exact_bytes c.args.id.now c.args.text.now (sym c.requires.order ∙ equal) in
    (same, subst IsMessageId same c.requires.id)

-- the id with the new text
pub returns-in_ok-id-clause-ok : goal.returns-in_ok-id-clause-ok
returns-in_ok-id-clause-ok c = c.in_ok-id.ensures
