-- The answers to the questions of a run.
use Rattle.std.specs.Prelude.{◌≡◌, ℕ, List, [], ◌∷◌, ◌++◌}
use Rattle.cata_core.specs.declared.step.Step.{Step}
use Rattle.cata_core.specs.declared.step.Step.TheVariants.{AskFilter, AskLookup, AskCells}
use Rattle.cata_core.specs.declared.answer.Answer.{Answer}
use Rattle.cata_core.specs.declared.answer.Answer.TheVariants.{Filter, Lookup, Cells}
use Rattle.catalogue.specs.declared.reply.Reply.{Reply}
use Rattle.catalogue.specs.Entries.{Entries}
use Rattle.catalogue.specs.Asking.{Weighed, IsFilterAnswer, IsLookupAnswer}
use Rattle.catalogue.specs.Edits.{catalogue_of}
use Rattle.cata_core.specs.RunsTaken.{taken}
use Rattle.cata_core.specs.WorldHeld.{held}

-- all cells, as edits
abbrev pub cells_answer : Entries → Answer
cells_answer cells = Cells cells

-- what is answered to a step where the sites have these cells: one answer to a question, and else
-- none
abbrev pub IsAnswered : (ℕ → Entries) → Step → List Answer → Type 0
IsAnswered cells (AskFilter site id scheme list) answers =
    (entries : Weighed) × (answers ≡ Filter entries ∷ [])
    × IsFilterAnswer (cells site) id scheme list entries
IsAnswered cells (AskLookup site id list default) answers =
    (reply : Reply) × (answers ≡ Lookup reply ∷ [])
    × IsLookupAnswer (cells site) id list default reply
IsAnswered cells (AskCells site) answers = answers ≡ cells_answer (cells site) ∷ []
IsAnswered cells _ answers = answers ≡ []

-- the answers to the steps, in order, where the sites have these cells after the steps before each
abbrev pub AreAnswersBy : (List Step → ℕ → Entries) → List Step → List Step → List Answer → Type 0
AreAnswersBy cells before [] answers = answers ≡ []
AreAnswersBy cells before (step ∷ steps) answers =
    (now : List Answer) × (later : List Answer) × (answers ≡ now ++ later)
    × IsAnswered (cells before) step now × AreAnswersBy cells (before ++ step ∷ []) steps later

-- the answers by what the sites hold
abbrev pub AreHeldAnswers : List Step → List Answer → Type 0
AreHeldAnswers = AreAnswersBy held []

-- the expected answers: by the catalogues of what the sites took
abbrev pub AreAnswers : List Step → List Answer → Type 0
AreAnswers = AreAnswersBy (λ before site. catalogue_of (taken before site)) []
