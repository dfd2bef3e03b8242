-- What the program ends with (project rule).
use Rattle.std.specs.Prelude.{ℕ, Bool, ◌==◌, ◌||◌, if◌then◌else◌}
use Rattle.front_core.specs.Ask.{is_found}
use Rattle.front_core.specs.declared.answer.Outcome.{Outcome}

-- the status of a refusal, by its number: 24 and 25 are faults of a stream, 26 is out of memory
abbrev pub status_of : ℕ → ℕ
status_of number = if (number == 24) || (number == 25) then 4 else (if number == 26 then 5 else 3)

-- the status of an answer: 1 where nothing was found
abbrev pub found_status : Bool → ℕ
found_status found = if found then 0 else 1

-- the status of an answer by its outcome
abbrev pub answer_status : Outcome → ℕ
answer_status outcome = found_status (is_found outcome)
