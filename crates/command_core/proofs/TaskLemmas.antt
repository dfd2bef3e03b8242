-- From the matched subcommand to the task that its arguments give, and from what clap says of one
-- value to the number that it gives.
use Rattle.std.proofs.Common.{◌≡◌, ℕ, List, Option, None, Some, Result, Ok, Err, ap₂, option_map}
use Rattle.std.proofs.Common.{refl, subst}
use Rattle.std.specs.Prelude.{MatchOption}
use Rattle.std.specs.Str.Parse.{ParsesUnsigned}
use Rattle.catalogue.proofs.Basics.{some_same}
use Rattle.clap.specs.Matches.{ReadsOne}
use Rattle.clap.specs.Words.{Row, Text}
use Rattle.command_core.specs.TaskWords.{GivesTask, IsNumberOf, TaskWords}

-- The task of the matched subcommand's name and arguments is the one it gives.
pub gives_task : {S : Type 0} (name_of : S → Text) (rows_in : S → List Row) (met : Option S)
    (name : Text) (rows : List Row) (asked : Option TaskWords)
    → Some name ≡ option_map name_of met
    → Some rows
    ≡ option_map (λ (p : Text × List Row). p.1) (option_map (λ s. (name_of s, rows_in s)) met)
    → GivesTask (Some (name, rows)) asked
    → GivesTask (option_map (λ s. (name_of s, rows_in s)) met) asked
gives_task name_of rows_in None name rows asked named has gives =
    let no : Some name ≡ None = named in absurd (cc)
gives_task name_of rows_in (Some s) name rows asked named has gives =
    let same_name = some_same name (name_of s) named in
    let same_rows = some_same rows (rows_in s) has in
    subst (λ (met : Text × List Row). GivesTask (Some met) asked)
    (ap₂ (λ (n : Text) (r : List Row). (n, r)) same_name same_rows) gives

-- The number that clap gives of a value is the one that its text is in decimal digits.
pub gives_number : {E : Type 0} (gives : Text → Result ℕ E → Type 0) (one : Option Text)
    (now : Option ℕ) → (one ≡ None → now ≡ None)
    → ((t : Text) → one ≡ Some t → ReadsOne gives t now)
    → ((t : Text) (r : Result ℕ E) → gives t r → ParsesUnsigned 64 10 t r)
    → MatchOption one (now ≡ None) (λ text. IsNumberOf text now)
gives_number gives None now none value parses = none refl
gives_number gives (Some t) None none value parses = let h = value t refl in parses t (Err h.0) h.1
gives_number gives (Some t) (Some n) none value parses = let h = parses t (Ok n) (value t refl) in
    (h.0.0, h.0.1, h.1)
