use Rattle.std.proofs.Common.{◌≤◌, length, take, sym, ap, ◌∙◌, arith}
use Rattle.std.specs.Int.{from_be_bytes, w128}
use Rattle.lang_core.proofs.lower_text.ShortText.number.Goals as goal

pub returns-clause-value : goal.returns-clause-value
returns-clause-value c =
    rw (← c.self.view_is)
    (c.from_be_bytes.ensures ∙ ap (from_be_bytes w128) (sym c.self.invariant.zeros))

pub returns-clause-text : goal.returns-clause-text
returns-clause-text c =
    let kept = c.self.invariant in
    let short : length (take c.self.inside.len c.self.inside.bytes) ≤ 16 =
    omega (arith, kept.size, kept.short) in
    rw (← c.self.view_is) (short, kept.nonzero)
