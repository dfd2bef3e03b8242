-- What a task holds of its words.
use Rattle.std.specs.Prelude.{map, option_map}
use Rattle.front_core.specs.Offering.{offers_of}
use Rattle.front_core.specs.Preferences.{field_text}
use Rattle.command_core.specs.TaskEditWords.{EditWords}
use Rattle.command_core.specs.TaskFieldWords.{PreferenceWords, ReaderWords}
use Rattle.command_core.specs.TaskWords.{TaskWords, Pick, PickAll, New, Edit, Document, Missing}
use Rattle.command_core.specs.TaskWords.{Outdated, Changes, Filter, Lookup, Bundle, Sync, Replay}
use Rattle.command_core.specs.TaskWords.{Explain, View}
use Rattle.command_core.specs.declared.edits.EditValues.{EditValues}
use Rattle.command_core.specs.declared.task.PreferenceValues.{PreferenceValues}
use Rattle.command_core.specs.declared.task.ReaderValues.{ReaderValues}
use Rattle.command_core.specs.declared.task.Task.{Task}
use Rattle.command_core.specs.declared.task.Task.TheVariants as task

-- the words of an edit, by their bytes
abbrev pub edit_values : EditValues → EditWords
edit_values values =
    record {
      now = values.now;
      id = values.id.now;
      lang = values.lang.now;
      texts =
          option_map (λ texts. map (λ s. s.now) texts.now) values.texts;
    }

-- the words of what a reader prefers, by their bytes
abbrev pub preference_values : PreferenceValues → PreferenceWords
preference_values values = record {
  field = field_text values.field;
  default = option_map (λ s. s.now) values.default;
}

-- the words of a reader, by their bytes
abbrev pub reader_values : ReaderValues → ReaderWords
reader_values values = record {
  offers = offers_of values.offering;
  preferences = preference_values values.preferences;
}

-- the words of a task, by their bytes
abbrev pub task_values : Task → TaskWords
task_values (task.Pick preferences tags) =
    Pick (record { preferences = preference_values preferences; tags = map (λ s. s.now) tags.now })
task_values (task.PickAll field tags) =
    PickAll (record { field = field_text field; tags = map (λ s. s.now) tags.now })
task_values (task.New name) = New name.now
task_values (task.Edit values) = Edit (edit_values values)
task_values (task.Document document) = Document document
task_values (task.View view) = View view
task_values (task.Missing lang) = Missing lang.now
task_values (task.Outdated lang source) =
    Outdated (record { lang = lang.now; source = source.now })
task_values task.Changes = Changes
task_values (task.Filter id offering field) =
    Filter (record { id = id.now; offers = offers_of offering; field = field_text field })
task_values (task.Lookup id reader) =
    Lookup (record { id = id.now; reader = reader_values reader })
task_values (task.Bundle reader) = Bundle (reader_values reader)
task_values (task.Sync checks) = Sync checks
task_values task.Replay = Replay
task_values (task.Explain it) = Explain it
