-- The messages with live labels that an iterator has still to give.
use Rattle.std.specs.Prelude.{ℕ, List, Option}
use Rattle.std.specs.List.{filter_map}
use Rattle.std.specs.Option.{option_map}
use Rattle.cell_core.specs.Iter.{entries_left}
use Rattle.catalogue.specs.declared.messages.Messages.{Messages}
use Rattle.catalogue.specs.Live.{live_of}
use Rattle.catalogue.specs.CatalogueNested.{Inner, Nested}
use Rattle.catalogue.specs.LiveMessages.{LiveMessage, if_any}

-- a message with its live labels, where it has any
abbrev pub with_live : List ℕ × Inner → Option LiveMessage
with_live e = option_map (λ labels. (e.0, labels)) (if_any (live_of e.1))

-- the messages of a map of maps that have live labels
abbrev pub live_messages : Nested → List LiveMessage
live_messages es = filter_map with_live es

-- the messages with live labels among those left
abbrev pub messages_left : Messages → List LiveMessage
messages_left m = live_messages (entries_left m.messages)
