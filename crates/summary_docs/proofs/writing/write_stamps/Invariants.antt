use Rattle.std.proofs.Common.{take}
use Rattle.std.specs.List.{All}
use Rattle.row_docs.specs.Entries.{stamps_values}
use Rattle.row_docs.specs.EntriesValid.{IsKeptStamp}
use Rattle.row_docs.specs.WritingTexts.{Adds}
use Rattle.row_docs.specs.inner.WritingTexts.{row_tokens}
use Rattle.summary_docs.proofs.writing.write_stamps.Given as goal

-- the stamps so far are written
abbrev pub invariant-loop-place : goal.invariant-loop-place
invariant-loop-place l =
    Adds l.fn.draft l.draft (row_tokens (stamps_values (take l.place l.fn.summary.stamps)))
    × All IsKeptStamp (take l.place l.fn.summary.stamps)
