use Rattle.docs_core.specs.Lines.{lines_left, lines_of}
use Rattle.nego_core.specs.Offer.{items_of}
use Rattle.front_core.specs.inner.TagFilter.{texts_of}
use Rattle.front_core.proofs.TagsLemmas.{IsReadTo}
use Rattle.front_core.proofs.tags.read_lines.Given as goal

-- the languages so far are those of the lines before that are offered
abbrev pub invariant-loop-line : goal.invariant-loop-line
invariant-loop-line l =
    IsReadTo (items_of l.offer) (lines_of l.tags) (lines_left l.line-iterator)
    (texts_of l.names.items) l.langs.items
