use Rattle.std.proofs.Common.{◌≡◌, ◌∙◌, [], Some, ap, sym}
use Rattle.json.specs.Json.{skip_value}
use Rattle.json.specs.Lex.{tokens}
use Rattle.json_docs.proofs.TextWholeLemmas.{value_whole}
use Rattle.json_docs.proofs.json_text.text.check_value.Goals as goal

-- nothing follows the value
pub returns-in-None : goal.returns-in-None
returns-in-None c =
    let passed : skip_value 127 (tokens c.args.text.now) ≡ Some [] =
    sym (ap (skip_value 127) c.in-Ok.ensures.ok) ∙ c.in-Ok-skip_value.ensures.value
    ∙ ap (λ ts. Some ts) c.in-None.ensures.value.0 in
    value_whole c.args.text.now c.requires passed
