-- The label that a lookup answers.
use Rattle.std.specs.Prelude.{ℕ, List, None, Option, Some}
use Rattle.catalogue.specs.declared.reply.Reply.{Reply}
use Rattle.catalogue.specs.declared.reply.Reply.TheVariants.{Default, Matched, Nothing}

-- the language that was answered, with its label
abbrev pub answered : Reply → Option (List ℕ × List (List ℕ))
answered (Matched lang label) = Some (lang, label)
answered (Default lang label) = Some (lang, label)
answered Nothing = None
