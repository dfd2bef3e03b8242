use Rattle.std.proofs.Common.{◌≡◌, ◌∙◌, ap, sym}
use Rattle.lang_core.specs.LowerTextBytes.{kept_bytes}
use Rattle.lang_core.proofs.lower_text.LowerText.equals.Goals as goal

pub returns-in-Short-Short : goal.returns-in-Short-Short
returns-in-Short-Short c =
    let short = c.in-Short-Short in
    let mine : short.text ≡ c.args.self.now = ap kept_bytes (sym short.is-0) ∙ c.self.view_is in
    let others : short.other_text ≡ c.args.other.now =
    ap kept_bytes (sym short.is-1) ∙ c.other.view_is in
    rw (← mine, ← others) c.equals.ensures
