use Rattle.lang_core.proofs.SubtagLemmas.{run_alphanum}
use Rattle.lang_core.proofs.subtag.Subtag.is_alphanums.Goals as goal

pub returns : goal.returns
returns c =
    run_alphanum c.args.low c.args.high c.args.self.now _ c.has_len.result c.self.view_is
    c.self.invariant.0 c.has_len.ensures
