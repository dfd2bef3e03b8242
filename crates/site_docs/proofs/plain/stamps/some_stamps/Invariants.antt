use Rattle.std.proofs.Common.{◌≡◌, ◌∷◌, ◌++◌, false, true, length}
use Rattle.std.specs.Prelude.{Some}
use denote.Text.{Utf8}
use denote.Shadow.{shadow}
use Rattle.row_docs.specs.Entries.{stamps_values}
use Rattle.row_docs.specs.EntriesValid.{AreKeptStamps}
use Rattle.site_docs.specs.Plain.{is_later, open_items}
use Rattle.site_docs.specs.PlainRows.{IsSpelled, key_in}
use Rattle.site_docs.specs.inner.PlainRows.{IsLastOf}
use Rattle.site_docs.proofs.plain.stamps.some_stamps.Given as goal

-- the rows that were read, and what is left
abbrev pub invariant-loop-row : goal.invariant-loop-row
invariant-loop-row l =
    shadow (Utf8 l.rest)
    × AreKeptStamps l.summary.stamps × IsLastOf (Some (key_in l.last.front)) l.summary.stamps
    × (is_later l.summary.stamps ≡ true)
    × (l.fn.text ≡ 91 ∷ (open_items false (stamps_values l.summary.stamps) ++ l.rest))
    × IsSpelled l.last

abbrev pub decreases-loop-row : goal.decreases-loop-row
decreases-loop-row l = length l.rest
