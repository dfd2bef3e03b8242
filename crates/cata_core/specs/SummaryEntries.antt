-- The keys and stamps that an iterator has still to give.
use Rattle.cata_core.specs.declared.summary_entries.SummaryEntries.{SummaryEntries}
use Rattle.cata_core.specs.Delta.{Stamps}

-- the entries left, each as its key and its stamp
abbrev pub stamps_left : SummaryEntries → Stamps
stamps_left s = s.entries.now
