use Rattle.std.specs.FinMap.Entries.{find}
use Rattle.cell_core.specs.Entry.{key_cmp}
use Rattle.catalogue.specs.Entries.{Entry}
use Rattle.catalogue.proofs.EntriesFilteredLemmas.{filter-IsMap}
use Rattle.summary_docs.specs.Shown.{is_lacked, lacked_of}
use Rattle.summary_docs.proofs.lacked_rows.LackedRows.close.Goals as goal

-- what is lacked of a map is one
pub returns : goal.returns
returns c = λ cells known holds map.
    c.close_delta.ensures (lacked_of cells known) holds.draft
    (filter-IsMap key_cmp (λ (e : Entry). is_lacked (find key_cmp e.0 known) e.1) cells map)
