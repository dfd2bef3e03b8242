use Rattle.std.proofs.Common.{◌≡◌, ◌∙◌}
use Rattle.lang_core.proofs.range.Range.matches_extended.Goals as goal

pub returns : goal.returns
returns c =
    let range : c.as_bytes.result.now ≡ c.args.self.now = c.as_bytes.ensures ∙ c.self.view_is in
    let tag : c.as_bytes-2.result.now ≡ c.args.tag.now =
    c.as_bytes-2.ensures.value ∙ c.as_str.ensures.text in
    rw (← range, ← tag) c.matches_extended.ensures
