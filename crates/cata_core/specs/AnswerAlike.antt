-- Sites that answer the questions of a run alike.
use Rattle.std.specs.Prelude.{◌≡◌, ℕ, List, Option}
use Rattle.list_core.specs.Item.{Item}
use Rattle.list_core.specs.declared.scheme.Scheme.{Scheme}
use Rattle.cata_core.specs.declared.step.Step.TheVariants.{AskFilter, AskLookup, AskCells}
use Rattle.cata_core.specs.declared.answer.Answer.{Answer}
use Rattle.catalogue.specs.Entries.{Entries}
use Rattle.cata_core.specs.Answer.{IsAnswered}

-- whatever is answered to a question at the one site, and to the same question at the other, is the
-- same
pub record AnswerAlike (mine : ℕ → Entries) (s : ℕ) (theirs : ℕ → Entries) (t : ℕ) : Type 0 where
  pub filter : (id : List ℕ) (scheme : Scheme) (list : List Item) (a b : List Answer)
      → IsAnswered mine (AskFilter s id scheme list) a
      → IsAnswered theirs (AskFilter t id scheme list) b → a ≡ b
  pub lookup : (id : List ℕ) (list : List Item) (default : Option (List ℕ)) (a b : List Answer)
      → IsAnswered mine (AskLookup s id list default) a
      → IsAnswered theirs (AskLookup t id list default) b → a ≡ b
  pub cells : (a b : List Answer) → IsAnswered mine (AskCells s) a
      → IsAnswered theirs (AskCells t) b → a ≡ b
