use Rattle.std.proofs.Common.{◌∙◌, ◌++◌, [], ℕ, List, ap, subst, sym}
use Rattle.nego_core.specs.WidenedChoice.{MatchEarliest}
use Rattle.catalogue.specs.Live.{languages}
use Rattle.catalogue.proofs.Basics.{append_nil}
use Rattle.query_docs.proofs.LiveCellsLemmas.{labels_past, language_with}
use Rattle.query_docs.proofs.live_cells.earlier_of.Goals as goal

pub returns-then-is_label : goal.returns-then-is_label
returns-then-is_label c = λ langs earliest.
    let ranges = c.args.ranges.now in
    subst (λ (own : List (List ℕ)). MatchEarliest ranges.scheme ranges.list.now (langs ++ own)
    c.earlier.result)
    (sym (language_with c.args.cell.now (sym c.is_label.ensures ∙ c.if-is_label.true)))
    (c.earlier.ensures langs earliest)

pub returns-else-is_label : goal.returns-else-is_label
returns-else-is_label c = λ langs earliest.
    let ranges = c.args.ranges.now in
    subst (λ (all : List (List ℕ)). MatchEarliest ranges.scheme ranges.list.now all
    c.args.earliest)
    (sym (ap (λ (own : List (List ℕ)). langs ++ own)
    (ap languages (labels_past c.args.cell.now [] (sym c.is_label.ensures ∙ c.if-is_label.false)))
    ∙ append_nil langs)) earliest
