-- A run has one list of answers.
use Rattle.std.proofs.Common.{◌≡◌, ℕ, List, [], ◌∷◌, ◌++◌, sym, ap, ◌∙◌}
use Rattle.cata_core.specs.declared.step.Step.{Step}
use Rattle.cata_core.specs.declared.step.Step.TheVariants.{Edit, Merge, AskFilter, AskLookup}
use Rattle.cata_core.specs.declared.step.Step.TheVariants.{AskCells, Tell, Post, Deliver}
use Rattle.cata_core.specs.declared.answer.Answer.{Answer}
use Rattle.cata_core.specs.declared.answer.Answer.TheVariants.{Filter, Lookup}
use Rattle.catalogue.specs.Entries.{Entries}
use Rattle.cata_core.specs.Answer.{IsAnswered, AreAnswersBy}
use Rattle.catalogue.proofs.AskingLemmas.{one_filter_answer, one_lookup_answer}

-- A step has only one list of answers over the cells of the sites.
pub one_answered : (cells : ℕ → Entries) (step : Step) (a b : List Answer) → IsAnswered cells step a
    → IsAnswered cells step b → a ≡ b
one_answered cells (AskFilter site id scheme list) a b f g =
    f.1 ∙ ap (λ x. Filter x ∷ []) (one_filter_answer (cells site) id scheme list f.0 g.0 f.2 g.2)
    ∙ sym g.1
one_answered cells (AskLookup site id list default) a b f g =
    f.1 ∙ ap (λ x. Lookup x ∷ []) (one_lookup_answer (cells site) id list default f.0 g.0 f.2 g.2)
    ∙ sym g.1
one_answered cells (AskCells site) a b f g = f ∙ sym g
one_answered cells (Edit site edit) a b f g = f ∙ sym g
one_answered cells (Merge into source) a b f g = f ∙ sym g
one_answered cells (Tell site) a b f g = f ∙ sym g
one_answered cells (Post site told) a b f g = f ∙ sym g
one_answered cells (Deliver post) a b f g = f ∙ sym g

-- A run has only one list of answers, for given cells before each step.
pub one_by : (cells : List Step → ℕ → Entries) (before steps : List Step) (a b : List Answer)
    → AreAnswersBy cells before steps a → AreAnswersBy cells before steps b → a ≡ b
one_by cells before [] a b f g = f ∙ sym g
one_by cells before (step ∷ steps) a b f g =
    f.2 ∙ (λ i. one_answered (cells before) step f.0 g.0 f.3 g.3 i
    ++ one_by cells (before ++ step ∷ []) steps f.1 g.1 f.4 g.4 i) ∙ sym g.2
