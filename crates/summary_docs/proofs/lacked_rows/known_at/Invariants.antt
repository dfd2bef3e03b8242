use Rattle.std.proofs.Common.{◌≡◌, ◌≢◌, drop}
use Rattle.std.specs.declared.cmp.Ordering.TheVariants.{Greater}
use Rattle.std.specs.FinMap.Entries.{find}
use Rattle.cell_core.specs.Entry.{EntryKey, key_cmp}
use Rattle.summary_docs.specs.Shown.{known_in}
use Rattle.summary_docs.proofs.lacked_rows.known_at.Given as goal

-- those passed have lesser keys
abbrev pub invariant-loop-place : goal.invariant-loop-place
invariant-loop-place l =
    (q : EntryKey) → key_cmp (l.fn.id, l.fn.lang) q ≢ Greater
    → find key_cmp q (drop l.place (known_in l.fn.summary))
    ≡ find key_cmp q (drop l.fn.start (known_in l.fn.summary))
