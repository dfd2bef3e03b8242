-- Which labels a reply may have.
use Rattle.std.specs.Prelude.{◌≡◌, Some, ⊤}
use Rattle.std.specs.FinMap.Entries.{find}
use Rattle.catalogue.specs.declared.reply.Reply.{Reply}
use Rattle.catalogue.specs.declared.reply.Reply.TheVariants.{Matched, Default, Nothing}
use Rattle.cell_core.specs.Entry.{text_cmp}
use Rattle.catalogue.specs.Live.{Labelled}

-- the reply has a label of these, under its own language, or none
abbrev pub IsOfLabels : Labelled → Reply → Type 0
IsOfLabels labels (Matched lang label) = find text_cmp lang labels ≡ Some label
IsOfLabels labels (Default lang label) = find text_cmp lang labels ≡ Some label
IsOfLabels labels Nothing = ⊤
