-- A text is replayed as one text at most.
use Rattle.std.proofs.Common.{◌≡◌, ◌∙◌, ℕ, List, [], ap, sym, subst}
use Rattle.cata_core.specs.WorldHeld.{held}
use Rattle.cata_core.proofs.AnswerLemmas.{one_by}
use Rattle.script_docs.proofs.ReadingOneScript.{one_script}
use Rattle.query_docs.specs.Lines.{lines}
use Rattle.docs_core.specs.Replaying.{IsPlayed, Replays}

-- one script, one list of answers, one text
pub one_replay : (bytes x y : List ℕ) → Replays bytes x → Replays bytes y → x ≡ y
one_replay bytes x y p q =
    let script : q.0 ≡ p.0 = one_script bytes q.0 p.0 q.1 p.1 in
    let played : IsPlayed p.0 q.2.0 = subst (λ s. IsPlayed s q.2.0) script q.2.1 in
    let answers : p.2.0 ≡ q.2.0 = one_by held [] p.0.steps p.2.0 q.2.0 p.2.1.held played.held in
    p.2.2 ∙ ap lines answers ∙ sym q.2.2
