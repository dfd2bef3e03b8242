-- What the command answers to arguments and an input in memory (project rules).
use Rattle.std.specs.Prelude.{Bool, true, false, ◌≡◌, ◌⊎◌, ℕ, List, [], codes}
use Rattle.std_io.specs.declared.io.kind.ErrorKind.{ErrorKind}
use Rattle.clap.specs.Words.{Text}
use Rattle.command_core.specs.OutputEndings.{LacksWords}
use Rattle.command_core.specs.ProgramHelp.{words_meant}
use Rattle.command_core.specs.Program.{RunsBy}
use Rattle.command_core.specs.OutputStreams.{Reader, streams}
use Rattle.command_c.specs.Memory.{absent, given, keeps}
use Rattle.command_c.specs.Words.{AreUtf8, LacksTexts}

-- what the command leaves: its status, what it wrote to its output, and what it reported
pub record Ended : Type 0 where
  pub status : ℕ
  pub output : List ℕ
  pub errors : List ℕ

-- the command, run on these words over this input, leaves it; no write of it failed
abbrev pub Runs : {R : Type 0} → List Text → Reader R → Ended → Type 0
Runs words reader ended =
    RunsBy (words_meant words) (streams reader (keeps ended.output) (keeps ended.errors))
    ended.status

-- so it ends where its arguments are no texts, for this cause
abbrev pub IsRefused : ErrorKind → Ended → Type 0
IsRefused kind ended =
    LacksWords kind (keeps ended.errors) ended.status × (ended.output ≡ [])

-- memory ended: the line of refusal 26, with status 5
abbrev pub out_of_memory : Ended
out_of_memory = record {
  status = 5;
  output = [];
  errors = codes "refused 26: out of memory\n";
}

-- the command reads its input: over one that is not there the read fails
abbrev pub ReadsInput : List Text → Type 0
ReadsInput words = (ended : Ended) × Runs words (absent true) ended

-- what the command answers to these texts and this input, and whether it reads it: where it does
-- not, it answers over an input that is not there
abbrev pub AnswersTexts : List Text → List ℕ → Bool → Ended → Type 0
AnswersTexts words input false ended = Runs words (absent false) ended ⊎ (ended ≡ out_of_memory)
AnswersTexts words input true ended = ReadsInput words
    × (((left : List ℕ) × Runs words (given input left) ended) ⊎ (ended ≡ out_of_memory))

-- the same of any arguments; those that are no texts are refused as those of a process are
abbrev pub Answers : List Text → List ℕ → Bool → Ended → Type 0
Answers words input is_read ended = (AreUtf8 words × AnswersTexts words input is_read ended)
    ⊎ ((is_read ≡ false) × (kind : ErrorKind) × LacksTexts words kind
    × (IsRefused kind ended ⊎ (ended ≡ out_of_memory)))
