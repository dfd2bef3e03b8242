use Rattle.std.proofs.Common.{◌∙◌, ap, List, ℕ}
use Rattle.lang_core.specs.Text.{pieces}
use Rattle.lang_core.specs.TruncationsCandidates.{candidates}
use Rattle.lang_core.proofs.LookupTextLemmas.{pieces-lookup_text}
use Rattle.lang_core.proofs.range.Range.truncations.Goals as goal

pub returns : goal.returns
returns c =
    c.new.ensures
    ∙ (ap (λ (text : List ℕ). candidates (pieces text)) c.lookup_text.ensures
    ∙ ap candidates (pieces-lookup_text c.args.self.now))
