use Rattle.std.proofs.Common.{arith, rules, ◌≡◌, ◌≤◌, ◌∷◌, [], ℕ, List, None, Option, length, map}
use Rattle.std.proofs.Common.{option_map, refl}
use Rattle.nego_core.specs.declared.widening.Widening.TheVariants.{Off}
use Rattle.front_core.specs.Preferences.{field_text}
use Rattle.command_core.specs.TaskQuestionWords.{PickAllWords, where_plain}
use Rattle.command_core.proofs.task.pick_of.Goals as goal

-- A table of fallbacks that has bytes does not go with all tags.
some_table : (table : List ℕ) (default : Option (List ℕ)) (words : PickAllWords)
    → 1 ≤ length table → where_plain Off table default words ≡ None
some_table [] default words long = absurd (omega (arith, long))
some_table (byte ∷ table) default words long = refl

pub returns-in-Off-len1-up-default : goal.returns-in-Off-len1-up-default
returns-in-Off-len1-up-default c =
    let preferences = c.in_ok-preferences.preferences in
    let none = some_table preferences.field.fallbacks.now
    (option_map (λ text. text.now) preferences.default)
    (record {
      field = field_text preferences.field;
      tags = map (λ text. text.now) c.in_ok-tags.tags.now;
    }) c.in-Off-len1-up-default.len_at_least in
    search rules
