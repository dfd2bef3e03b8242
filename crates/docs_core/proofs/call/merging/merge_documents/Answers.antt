use Rattle.std.proofs.Common.{◌∙◌, ◌+◌, ap, arith, refl}
use Rattle.std.proofs.lemmas.Result.{err_from_is_err_and}
use Rattle.map_docs.proofs.MapsLabelsLemmas.{else_by}
use Rattle.docs_core.specs.Lines.{lines_left}
use Rattle.docs_core.proofs.MergingLemmas.{first_refused, merge_goes_on, merge_refused}
use Rattle.docs_core.proofs.MergingLemmas.{merge_starts}
use Rattle.docs_core.proofs.MergingLemmas.{next_fits}
use Rattle.docs_core.proofs.call.merging.merge_documents.Goals as goal

pub returns-in_err-site : goal.returns-in_err-site
returns-in_err-site c =
    let p = err_from_is_err_and c.from_residual.result c.from_residual.ensures.1 in
    rw (p.1, p.2) (else_by c.in_err-site.ensures (first_refused c.args.checks c.args.sites.now
    _ _ _ c.two_documents.ensures))

-- the first document was read
pub loop-other-init : goal.loop-other-init
loop-other-init c =
    let others = c.into_iter-other-iterator in
    merge_starts c.args.checks c.args.sites.now c.two_documents.result.0.now
    c.two_documents.result.1.now (lines_left others.result) c.in_ok-site.site
    c.two_documents.ensures
    (ap lines_left others.ensures.into_iter_gives ∙ c.new-other-items.ensures)
    c.in_ok-site.ensures

pub overflow_add-document : goal.overflow_add-document
overflow_add-document c =
    let fits = next_fits c.args.checks c.args.sites.now
    (lines_left c.loop-other.other-iterator) (lines_left c.next.new.self) c.in-Some.other.now
    c.loop-other.document c.loop-other.site c.loop-other.invariant c.in-Some.ensures.steps in
    omega (arith, fits)

pub loop-other-preserved : goal.loop-other-preserved
loop-other-preserved c =
    merge_goes_on c.args.checks c.args.sites.now (lines_left c.loop-other.other-iterator)
    (lines_left c.next.new.self) c.in-Some.other.now c.loop-other.document
    (c.loop-other.document + 1) c.loop-other.site c.merge_document.new.site
    c.loop-other.invariant c.in-Some.ensures.steps refl c.in_ok-merge_document.ensures.ok

-- this document is refused, and those before it are merged
pub returns-in_err-merge_document : goal.returns-in_err-merge_document
returns-in_err-merge_document c =
    let p = err_from_is_err_and c.from_residual-in_err-merge_document.result
    c.from_residual-in_err-merge_document.ensures.1 in
    rw (p.1, p.2) (else_by c.in_err-merge_document.ensures.err
    (merge_refused c.args.checks c.args.sites.now (lines_left c.loop-other.other-iterator)
    (lines_left c.next.new.self) c.in-Some.other.now c.loop-other.document
    (c.loop-other.document + 1) c.loop-other.site _ c.loop-other.invariant
    c.in-Some.ensures.steps refl))
