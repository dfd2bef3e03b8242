-- What is replied to a choice.
use Rattle.std.specs.Prelude.{◌≡◌, ℕ, List, Option, Some}
use Rattle.std.specs.FinMap.Entries.{find}
use Rattle.nego_core.specs.declared.choosing.Choice.{Choice}
use Rattle.nego_core.specs.declared.choosing.Choice.TheVariants as choice
use Rattle.catalogue.specs.declared.reply.Reply.{Reply}
use Rattle.catalogue.specs.declared.reply.Reply.TheVariants.{Matched, Default, Nothing}
use Rattle.cell_core.specs.Entry.{text_cmp}
use Rattle.catalogue.specs.Live.{Labelled}

-- the reply is the choice, with the label of its language
abbrev pub IsReplyTo : Labelled → Option (List ℕ) → Choice → Reply → Type 0
IsReplyTo labels default (choice.Matched text) (Matched lang label) =
    (lang ≡ text.now) × (find text_cmp lang labels ≡ Some label)
IsReplyTo labels default (choice.Matched text) (Default lang label) = ⊥
IsReplyTo labels default (choice.Matched text) Nothing = ⊥
IsReplyTo labels default choice.Default (Matched lang label) = ⊥
IsReplyTo labels default choice.Default (Default lang label) =
    (default ≡ Some lang) × (find text_cmp lang labels ≡ Some label)
IsReplyTo labels default choice.Default Nothing = ⊥
IsReplyTo labels default choice.Nothing (Matched lang label) = ⊥
IsReplyTo labels default choice.Nothing (Default lang label) = ⊥
IsReplyTo labels default choice.Nothing Nothing = Unit {0}
