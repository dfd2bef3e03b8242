-- How the answer is reported to C (project rules).
use Rattle.std.specs.Prelude.{◌≡◌, ◌≤◌, ◌<◌, ◌++◌, ◌⊎◌, ℕ, ℤ, pos, Bool, true, false, List, length}
use Rattle.std.specs.Prelude.{drop}
use Rattle.clap.specs.Words.{Text}
use Rattle.command_c.specs.Answer.{Ended, Answers}
use Rattle.command_c.specs.declared.report.CommandTold.{CommandTold}

-- the text is at the front of the buffer, and the rest of it is as it was; or there is no room,
-- and all of it is
abbrev pub IsWrittenTo : List ℕ → List ℕ → List ℕ → Type 0
IsWrittenTo text old new = ((length text ≤ length old) × (new ≡ text ++ drop (length text) old))
    ⊎ ((length old < length text) × (new ≡ old))

-- 1 where the input is read, else 0
abbrev pub read_number : Bool → ℕ
read_number true = 1
read_number false = 0

-- the report of what the command leaves, and of whether it reads its input
abbrev pub report_of : Ended → Bool → CommandTold
report_of ended is_read = record {
  out_len = length ended.output;
  err_len = length ended.errors;
  input_read = read_number is_read;
}

-- what the command leaves is in the buffers, as far as they have room, and reported
abbrev pub Reports : Ended → Bool → List ℕ → List ℕ → List ℕ → List ℕ → CommandTold → ℤ → Type 0
Reports ended is_read old_out new_out old_err new_err told status =
    IsWrittenTo ended.output old_out new_out × IsWrittenTo ended.errors old_err new_err
    × (told ≡ report_of ended is_read) × (status ≡ pos ended.status)

-- the same of what it answers to these words and this input
abbrev pub ReportsCommand : List Text → List ℕ → List ℕ → List ℕ → List ℕ → List ℕ → CommandTold → ℤ
    → Type 0
ReportsCommand words input old_out new_out old_err new_err told status =
    (ended : Ended) × (is_read : Bool) × Answers words input is_read ended
    × Reports ended is_read old_out new_out old_err new_err told status
