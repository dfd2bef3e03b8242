-- What lookup chooses among the languages of live labels.
use Rattle.std.specs.Prelude.{ℕ, List, Option, Some, None}
use Rattle.lang_core.specs.Text.{pieces}
use Rattle.list_core.specs.Item.{Item}
use Rattle.nego_core.specs.declared.choosing.Choice.{Choice}
use Rattle.nego_core.specs.declared.choosing.Choice.TheVariants as choice
use Rattle.nego_core.specs.declared.widening.Widening.{Widening}
use Rattle.nego_core.specs.Choosing.{HasOpenDefault}
use Rattle.catalogue.specs.Live.{Labelled, is_live}
use Rattle.catalogue.specs.Asking.{Finds}

-- what is chosen: the language found, or the default where that is live (project rule)
abbrev pub IsChosenIn : Widening → Labelled → List Item → Option (List ℕ) → Choice → Type 0
IsChosenIn widening labels items default (choice.Matched text) =
    Finds widening labels items (Some (pieces text.now))
IsChosenIn widening labels items default choice.Default =
    Finds widening labels items None × HasOpenDefault items (is_live labels) default
IsChosenIn widening labels items default choice.Nothing =
    Finds widening labels items None × ¬ (HasOpenDefault items (is_live labels) default)
