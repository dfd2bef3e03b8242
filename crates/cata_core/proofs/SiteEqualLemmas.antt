-- Sites that took the same edits hold the same, and answer alike.
use Rattle.std.proofs.Common.{◌≡◌, ℕ, List, sym, ◌∙◌, subst}
use Rattle.cata_core.specs.declared.step.Step.{Step}
use Rattle.cata_core.specs.declared.step.Step.TheVariants.{AskFilter, AskLookup, AskCells}
use Rattle.catalogue.specs.Entries.{Entries}
use Rattle.catalogue.specs.Edits.{IsConsistent, SameMembers}
use Rattle.cata_core.specs.RunsTaken.{taken, edits_of}
use Rattle.cata_core.specs.WorldHeld.{held}
use Rattle.cata_core.specs.Answer.{IsAnswered}
use Rattle.cata_core.specs.AnswerAlike.{AnswerAlike}
use Rattle.catalogue.proofs.CatalogueLemmas.{same_catalogue}
use Rattle.cata_core.proofs.RunsSpreadingLemmas.{only_edits_taken}
use Rattle.catalogue.proofs.CatalogueSettledLemmas.{settled_part}
use Rattle.cata_core.proofs.RunsTakenAndHeldLemmas.{held_is_catalogue}
use Rattle.cata_core.proofs.AnswerLemmas.{one_answered}

-- Sites that took the same edits, all consistent, have the same cells, even in different runs.
pub equal_sites : (p q : List Step) (s t : ℕ) → IsConsistent (edits_of p)
    → IsConsistent (edits_of q) → SameMembers (taken p s) (taken q t) → held p s ≡ held q t
equal_sites p q s t h k same =
    held_is_catalogue p h s
    ∙ same_catalogue (taken p s) (taken q t)
    (settled_part (edits_of p) (taken p s) h (only_edits_taken p s)) same
    ∙ sym (held_is_catalogue q k t)

-- sites with equal cells answer alike
pub answer_alike : (mine : ℕ → Entries) (s : ℕ) (theirs : ℕ → Entries) (t : ℕ) → mine s ≡ theirs t
    → AnswerAlike mine s theirs t
answer_alike mine s theirs t e = record {
  filter =
      λ id scheme list a b f g. one_answered mine (AskFilter s id scheme list) a b f
      (subst (λ (x : Entries). IsAnswered (λ _. x) (AskFilter s id scheme list) b) (sym e) g);
  lookup =
      λ id list default a b f g. one_answered mine (AskLookup s id list default) a b f
      (subst (λ (x : Entries). IsAnswered (λ _. x) (AskLookup s id list default) b) (sym e) g);
  cells =
      λ a b f g. one_answered mine (AskCells s) a b f
      (subst (λ (x : Entries). IsAnswered (λ _. x) (AskCells s) b) (sym e) g);
}
