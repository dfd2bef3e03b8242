use Rattle.std.proofs.Common.{◌∙◌}
use Rattle.lang_core.specs.Grammar.{is_letter}
use Rattle.lang_core.proofs.SubtagLemmas.{run_when, run_unless}
use Rattle.lang_core.proofs.subtag.Subtag.is_letters.Goals as goal

pub returns-then-has_len : goal.returns-then-has_len
returns-then-has_len c =
    run_when is_letter c.args.low c.args.high c.args.self.now _ c.has_len.result
    c.self.inside.has_letters_only c.self.view_is c.if-has_len.true c.has_len.ensures
    c.self.invariant.1

pub returns-else-has_len : goal.returns-else-has_len
returns-else-has_len c =
    c.if-has_len.false
    ∙ run_unless is_letter c.args.low c.args.high c.args.self.now c.has_len.result
    c.if-has_len.false c.has_len.ensures
