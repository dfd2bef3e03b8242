-- What of a catalogue readers are offered (project rules).
use Rattle.std.specs.Prelude.{List, filter}
use Rattle.list_core.specs.Item.{Item}
use Rattle.nego_core.specs.Offer.{is_offered}
use Rattle.catalogue.specs.Entries.{Entries}
use Rattle.catalogue.specs.Live.{Labelled}

-- the labels whose languages a list offers
abbrev pub offered_labels : List Item → Labelled → Labelled
offered_labels items labels = filter (λ e. is_offered items e.0) labels

-- the cells whose languages a list offers: the catalogue without the labels that are not offered
abbrev pub offered_cells : List Item → Entries → Entries
offered_cells items cells = filter (λ e. is_offered items e.0.1) cells
