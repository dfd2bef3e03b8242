use Rattle.std.proofs.Common.{◌∙◌, ◌++◌, ◌∷◌, ap, string_bytes}
use Rattle.json.specs.Print.{quoted}
use Rattle.site_docs.proofs.plain.rows.escaped_id.Goals as goal

pub returns : goal.returns
returns c =
    c.in_ok-rest.ensures
    ∙ ap (λ r. 91 ∷ r)
    (c.in_ok-id.ensures
    ∙ ap (λ r. quoted (string_bytes c.in_ok-id.id) ++ r) c.in_ok-rest-2.ensures)
