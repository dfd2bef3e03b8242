use Rattle.docs_core.specs.Lines.{lines_left}
use Rattle.docs_core.proofs.MergingLemmas.{IsMergedTo}
use Rattle.docs_core.proofs.call.merging.merge_documents.Given as goal

-- the documents before the lines that are left are merged
abbrev pub invariant-loop-other : goal.invariant-loop-other
invariant-loop-other l =
    IsMergedTo l.checks l.sites (lines_left l.other-iterator) l.document l.site
