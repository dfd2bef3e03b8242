use Rattle.summary_docs.proofs.ShownDeltaLemmas.{shown_suffices}
use Rattle.summary_docs.proofs.laws.a_shown_delta_suffices.Goals as goal

pub returns : goal.returns
returns c = shown_suffices
