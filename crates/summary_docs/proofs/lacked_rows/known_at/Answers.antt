use Rattle.std.proofs.Common.{◌∙◌, ◌+◌, arith, ap, ap₂, drop, refl, sym}
use Rattle.std.specs.FinMap.Entries.{find}
use Rattle.std.specs.Ordering.{ordering_then}
use Rattle.cell_core.specs.Entry.{EntryKey, key_cmp}
use Rattle.cata_core.proofs.SummaryListsLemmas.{not_greater_self}
use Rattle.summary_docs.specs.Shown.{known_in}
use Rattle.summary_docs.specs.inner.ShownCells.{known_as}
use Rattle.summary_docs.proofs.LackedRowsLemmas.{drop_at, drop_past, drop_sorted}
use Rattle.summary_docs.proofs.LackedRowsPassedLemmas.{absent_first, found_first, found_passed}
use Rattle.summary_docs.proofs.LackedRowsPassedLemmas.{passed_less}
use Rattle.summary_docs.proofs.lacked_rows.known_at.Goals as goal

pub loop-place-init : goal.loop-place-init
loop-place-init c = λ q from. refl

-- the cell at this place is of a lesser key
pub loop-place-preserved : goal.loop-place-preserved
loop-place-preserved c =
    let k : EntryKey = (c.in-Some.other.now, c.in-Some.other_lang.now) in
    let all = known_in c.args.summary.now in
    let place = c.loop-place.place in
    passed_less (drop c.args.start all) (drop place all) (c.args.id.now, c.args.lang.now) k
    (known_as c.in-Some.known) (drop (place + 1) all)
    (drop_at all place (k, known_as c.in-Some.known) (sym c.in-Some.ensures))
    (drop_sorted place all c.len-place-end.ensures.sorted) c.loop-place.invariant
    (sym (c.in-Less.ensures ∙ ap₂ ordering_then c.cmp.ensures c.cmp-in-loop-place.ensures))

pub returns-in-Equal-clause-known : goal.returns-in-Equal-clause-known
returns-in-Equal-clause-known c =
    let k : EntryKey = (c.in-Some.other.now, c.in-Some.other_lang.now) in
    let all = known_in c.args.summary.now in
    let place = c.loop-place.place in
    found_first (drop c.args.start all) (drop place all) (c.args.id.now, c.args.lang.now) k
    (known_as c.in-Some.known) (drop (place + 1) all)
    (drop_at all place (k, known_as c.in-Some.known) (sym c.in-Some.ensures))
    (drop_sorted place all c.len-place-end.ensures.sorted) c.loop-place.invariant
    (sym (c.in-Equal.ensures ∙ ap₂ ordering_then c.cmp.ensures c.cmp-in-loop-place.ensures))

pub returns-in-Equal-clause-passed : goal.returns-in-Equal-clause-passed
returns-in-Equal-clause-passed c =
    let k : EntryKey = (c.in-Some.other.now, c.in-Some.other_lang.now) in
    let all = known_in c.args.summary.now in
    let place = c.loop-place.place in
    found_passed (drop c.args.start all) (drop place all) (c.args.id.now, c.args.lang.now) k
    (known_as c.in-Some.known) (drop (place + 1) all)
    (drop_at all place (k, known_as c.in-Some.known) (sym c.in-Some.ensures))
    (drop_sorted place all c.len-place-end.ensures.sorted) c.loop-place.invariant
    (sym (c.in-Equal.ensures ∙ ap₂ ordering_then c.cmp.ensures c.cmp-in-loop-place.ensures))

pub returns-in-Greater-clause-known : goal.returns-in-Greater-clause-known
returns-in-Greater-clause-known c =
    let k : EntryKey = (c.in-Some.other.now, c.in-Some.other_lang.now) in
    let all = known_in c.args.summary.now in
    let place = c.loop-place.place in
    absent_first (drop c.args.start all) (drop place all) (c.args.id.now, c.args.lang.now) k
    (known_as c.in-Some.known) (drop (place + 1) all)
    (drop_at all place (k, known_as c.in-Some.known) (sym c.in-Some.ensures))
    (drop_sorted place all c.len-place-end.ensures.sorted) c.loop-place.invariant
    (sym (c.in-Greater.ensures ∙ ap₂ ordering_then c.cmp.ensures c.cmp-in-loop-place.ensures))

-- no cell is left
pub returns-clause-known : goal.returns-clause-known
returns-clause-known c =
    let key : EntryKey = (c.args.id.now, c.args.lang.now) in
    let all = known_in c.args.summary.now in
    ap (find key_cmp key) (sym (drop_past all c.loop-place.place (omega arith)))
    ∙ c.loop-place.invariant key (not_greater_self key)
