-- The tasks that the arguments of each command give (project rules).
use Rattle.std.specs.Prelude.{◌≡◌, ◌<◌, ◌^◌, ◌∷◌, [], ℕ, Bool, true, false, List, Option, None}
use Rattle.std.specs.Prelude.{Some, codes}
use Rattle.std.specs.Prelude.{option_and_then, option_map, if◌then◌else◌, MatchOption}
use Rattle.std.specs.Str.{bytes_eq}
use Rattle.std.specs.Str.Parse.{IsNumeral, digits_value, without_leading_plus}
use Rattle.clap.specs.Words.{Row, Text, first_of, one_of}
use Rattle.site_docs.specs.declared.checks.Checks.{Checks}
use Rattle.site_docs.specs.declared.checks.OwnEdits.{OwnEdits}
use Rattle.site_docs.specs.declared.checks.OwnEdits.TheVariants.{Checked, Unchecked}
use Rattle.summary_docs.specs.declared.summaries.Shows.{Shows}
use Rattle.summary_docs.specs.declared.summaries.Shows.TheVariants.{Labels, Stamps}
use Rattle.front_core.specs.declared.exchange.View.{View as SiteView}
use Rattle.front_core.specs.declared.exchange.View.TheVariants as view
use Rattle.command_core.specs.TaskQuestionWords.{FilterWords, LookupWords, OutdatedWords}
use Rattle.command_core.specs.TaskQuestionWords.{PickAllWords, PickWords}
use Rattle.command_core.specs.TaskQuestionWords.{filter_words, is_refusal, lookup_words}
use Rattle.command_core.specs.TaskQuestionWords.{outdated_words}
use Rattle.command_core.specs.TaskQuestionWords.{pick_all_words, pick_words}
use Rattle.command_core.specs.TaskEditWords.{EditWords, delete_words, put_words}
use Rattle.command_core.specs.TaskFieldWords.{ReaderWords, is_given, reader_words}
use Rattle.command_core.specs.Explaining.{number_named}
use Rattle.command_core.specs.declared.documents.DocumentTask.{DocumentTask}
use Rattle.command_core.specs.declared.documents.DocumentTask.TheVariants as document
use Rattle.command_core.specs.declared.task.Numbers.{Numbers}

-- the number of 64 bits that a text is in decimal digits, where a plus may come first, or none
-- where it is no such number
abbrev pub IsNumberOf : Text → Option ℕ → Type 0
IsNumberOf text None =
    ¬ (IsNumeral 10 (without_leading_plus text)
    × (digits_value 10 (without_leading_plus text) < 2 ^ 64))
IsNumberOf text (Some n) =
    IsNumeral 10 (without_leading_plus text)
    × (digits_value 10 (without_leading_plus text) < 2 ^ 64)
    × (n ≡ digits_value 10 (without_leading_plus text))

-- the number that this argument gives
abbrev pub GivesNumber : Text → List Row → Option ℕ → Type 0
GivesNumber id rows number =
    MatchOption (one_of id rows) (number ≡ None) (λ text. IsNumberOf text number)

-- the number of the refusal that is named, by itself or by its word
abbrev pub GivesError : List Row → Option ℕ → Type 0
GivesError rows error = (number : Option ℕ) × GivesNumber (codes "error") rows number
    × (error ≡ number_named number (first_of (codes "error") rows))

-- the moment, the latest time that is taken, and the number of a refusal
abbrev pub GivesNumbers : List Row → Numbers → Type 0
GivesNumbers rows numbers =
    GivesNumber (codes "now") rows numbers.now
    × GivesNumber (codes "not-after") rows numbers.not_after
    × GivesError rows numbers.error

-- what the program is asked to do, by the words of its arguments
pub data TaskWords : Type 0 where
  Pick : (words : PickWords) → TaskWords
  PickAll : (words : PickAllWords) → TaskWords
  New : (name : Text) → TaskWords
  Edit : (words : EditWords) → TaskWords
  Document : (task : DocumentTask) → TaskWords
  View : (view : SiteView) → TaskWords
  Missing : (word : Text) → TaskWords
  Outdated : (words : OutdatedWords) → TaskWords
  Changes : TaskWords
  Filter : (words : FilterWords) → TaskWords
  Lookup : (words : LookupWords) → TaskWords
  Bundle : (words : ReaderWords) → TaskWords
  Sync : (checks : Checks) → TaskWords
  Replay : TaskWords
  Explain : (number : ℕ) → TaskWords

-- one tag or all that fit; none where the words do not go with all
abbrev pick_asked : Bool → PickWords → Option TaskWords
pick_asked false words = Some (Pick words)
pick_asked true words = option_map PickAll (pick_all_words words)

-- all tags that fit where `--all` is given, which goes with no default, no widening and no table of
-- fallbacks; else the one that fits best
abbrev pub pick_task : List Row → Option TaskWords
pick_task rows =
    option_and_then (pick_asked (is_given (first_of (codes "all") rows))) (pick_words rows)

-- an edit by documents, which has a moment
abbrev edit_task : (ℕ → DocumentTask) → Option ℕ → Option TaskWords
edit_task edit now = option_map (λ n. Document (edit n)) now

-- a refusal is explained, where one has this number
abbrev pub explain_task : Option ℕ → Option TaskWords
explain_task None = None
explain_task (Some number) = if is_refusal number then Some (Explain number) else None

-- whether edits of the site's own are looked for
abbrev pub own_edits_of : Bool → OwnEdits
own_edits_of checked = if checked then Checked else Unchecked

-- what an exchange tests: the limit on times, and edits of the site's own with `--check-own`
abbrev pub checks_words : Option ℕ → List Row → Checks
checks_words limit rows = record {
  not_after = limit;
  own_edits = own_edits_of (is_given (first_of (codes "check-own") rows));
}

-- what a summary shows: labels too with `--labels`
abbrev pub shows_of : Bool → Shows
shows_of shows_labels = if shows_labels then Labels else Stamps

-- a command: its name, and the task that its numbers and arguments give, or none where a word is
-- missing, or two do not go together
abbrev pub CommandTask : Type 0
CommandTask = Text × (Numbers → List Row → Option TaskWords)

-- the commands of the program
abbrev pub command_tasks : List CommandTask
command_tasks =
    (codes "pick", λ numbers rows. pick_task rows)
    ∷ (codes "new", λ numbers rows. option_map New (first_of (codes "site") rows))
    ∷ (codes "put", λ numbers rows. option_map Edit (put_words numbers.now rows))
    ∷ (codes "delete", λ numbers rows. option_map Edit (delete_words numbers.now rows))
    ∷ (codes "status", λ numbers rows. Some (View view.Status))
    ∷ (codes "import", λ numbers rows. edit_task document.Import numbers.now)
    ∷ (codes "update", λ numbers rows. edit_task document.Update numbers.now)
    ∷ (codes "export", λ numbers rows. Some (View view.Export))
    ∷ (codes "missing", λ numbers rows. option_map Missing (first_of (codes "lang") rows))
    ∷ (codes "outdated", λ numbers rows. option_map Outdated (outdated_words rows))
    ∷ (codes "changes", λ numbers rows. Some Changes)
    ∷ (codes "labels", λ numbers rows. Some (View view.Labels))
    ∷ (codes "filter", λ numbers rows. option_map Filter (filter_words rows))
    ∷ (codes "lookup", λ numbers rows. option_map Lookup (lookup_words rows))
    ∷ (codes "bundle", λ numbers rows. option_map Bundle (reader_words rows))
    ∷ (
      codes "summary",
      λ numbers rows. Some (View (view.Summary (shows_of (is_given
          (first_of (codes "labels") rows))))),
    )
    ∷ (codes "delta", λ numbers rows. Some (Document document.Delta))
    ∷ (
      codes "take",
      λ numbers rows. Some (Document (document.Take (checks_words numbers.not_after rows))),
    )
    ∷ (codes "sync", λ numbers rows. Some (Sync (checks_words numbers.not_after rows)))
    ∷ (
      codes "merge",
      λ numbers rows. Some (Document (document.Merge (checks_words numbers.not_after rows))),
    )
    ∷ (codes "replay", λ numbers rows. Some Replay)
    ∷ (codes "explain", λ numbers rows. explain_task numbers.error) ∷ []

-- the task of the first of the commands that has this name, or none where none has
abbrev pub task_among : List CommandTask → Text → Numbers → List Row → Option TaskWords
task_among [] name numbers rows = None
task_among (command ∷ commands) name numbers rows = if bytes_eq name command.0 then
    command.1 numbers rows else task_among commands name numbers rows

-- the task of the command of this name with these numbers, or none
abbrev pub task_words : Text → Numbers → List Row → Option TaskWords
task_words = task_among command_tasks

-- the task of the matched subcommand, with the numbers that its arguments give
abbrev pub GivesTask : Option (Text × List Row) → Option TaskWords → Type 0
GivesTask met asked = MatchOption met (asked ≡ None)
    (λ p. (numbers : Numbers) × GivesNumbers p.1 numbers × (asked ≡ task_words p.0 numbers p.1))
