use Rattle.std.proofs.Common.{inr}
use Rattle.lang_core.specs.Text.{pieces}
use Rattle.lang_core.proofs.PartsLemmas.{langtag_first}
use Rattle.lang_core.proofs.parts.language.Goals as goal

pub returns-in-Some : goal.returns-in-Some
returns-in-Some c = inr (
  c.in-Some.ensures.0,
  (langtag_first (pieces c.args.tag.now) c.in-Some.ensures.0 c.in-Some.language.now _
      c.in-Some.ensures.1).0,
)
