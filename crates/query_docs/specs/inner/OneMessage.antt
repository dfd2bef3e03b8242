-- The cells of one message, which are kept as a site is read.
use Rattle.std.specs.Prelude.{◌≡◌, ℕ, Bool, List}
use Rattle.std.specs.Ordering.{is_eq}
use Rattle.cell_core.specs.Entry.{text_cmp}
use Rattle.catalogue.specs.Entries.{Entries}
use Rattle.catalogue.specs.CatalogueParts.{part_of}
use Rattle.query_docs.specs.declared.one_message.OneMessage.{OneMessage}

-- whether an id is this one
abbrev pub is_of : List ℕ → List ℕ → Bool
is_of id other = is_eq (text_cmp id other)

-- of these cells those of the message were kept
pub record KeepsMessage (first message : OneMessage) (seen : Entries) : Type 0 where
  pub id_is : message.id.now ≡ first.id.now
  pub cells_are : message.cells ≡ part_of (is_of first.id.now) seen
