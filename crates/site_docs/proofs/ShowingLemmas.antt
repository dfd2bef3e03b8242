-- Cells that are shown one after another.
use Rattle.std.proofs.Common.{◌≡◌, ◌++◌, ◌∷◌, subst, sym}
use Rattle.cell_core.specs.Keyed.{IsMap}
use Rattle.cell_core.specs.Entry.{key_cmp}
use Rattle.catalogue.specs.Entries.{Entries, Entry, IsAboveAll}
use Rattle.catalogue.proofs.CatalogueAboveLemmas.{front_below}

-- A cell of a catalogue has a greater key than those before it.
pub shown_above : (all done left : Entries) (e : Entry) → IsMap key_cmp all
    → done ++ e ∷ left ≡ all → IsAboveAll e.0 done
shown_above all done left e map is =
    front_below done left e.0 e.1 (subst (IsMap key_cmp) (sym is) map)
