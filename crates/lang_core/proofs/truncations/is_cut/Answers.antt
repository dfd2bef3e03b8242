use Rattle.std.proofs.Common.{ℕ, List, ◌≡◌, ap, sym, ◌∙◌}
use Rattle.std.specs.Prelude.{◌||◌}
use Rattle.lang_core.specs.Grammar.{is_star}
use Rattle.lang_core.specs.Text.{pieces}
use Rattle.lang_core.specs.TruncationsCandidates.{is_cut, is_single}
use Rattle.lang_core.proofs.TruncationsLemmas.{is_cut_one, is_cut_push}
use Rattle.lang_core.proofs.PiecesLemmas.{some_pieces}
use Rattle.lang_core.proofs.truncations.is_cut.Goals as goal

pub returns-in-Some : goal.returns-in-Some
returns-in-Some c =
    c.is_single.ensures ∙ (ap is_single c.as_bytes.ensures.value
    ∙ sym (ap is_cut c.in-Some.ensures.parts
    ∙ is_cut_push (pieces c.in-Some.field-0-0.now) c.in-Some.last.now
    (some_pieces c.in-Some.field-0-0.now)))

pub returns-in-None : goal.returns-in-None
returns-in-None c =
    let whole : is_cut (pieces c.args.text.now)
    ≡ (is_single c.args.text.now || is_star c.args.text.now) =
    ap is_cut c.in-None.ensures.parts ∙ is_cut_one c.args.text.now in
    c.is_character.ensures
    ∙ (ap (λ (s : List ℕ). is_single s || is_star s) c.as_bytes-in-None.ensures.value
    ∙ sym whole)
