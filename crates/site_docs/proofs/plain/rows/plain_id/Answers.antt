use Rattle.std.proofs.Common.{◌∙◌, ◌++◌, ◌∷◌, ap}
use Rattle.json.specs.Print.{escape}
use Rattle.site_docs.proofs.PlainLemmas.{plain_id_taken}
use Rattle.site_docs.proofs.plain.rows.plain_id.Goals as goal

pub returns : goal.returns
returns c =
    let id = c.in_ok-id.id.now in
    plain_id_taken id c.args.text.now c.in_ok-rest.rest.now c.in_ok-left.left.now
    (c.in_ok-open.ensures ∙ ap (λ r. 91 ∷ r) c.in_ok-rest.ensures)
    (c.in_ok-id.ensures ∙ ap (λ r. escape id ++ 34 ∷ 44 ∷ r) c.in_ok-left.ensures)
