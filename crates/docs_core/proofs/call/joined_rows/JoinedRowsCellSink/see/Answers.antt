use Rattle.std.proofs.Common.{◌∙◌, ◌+◌, [], ◌∷◌, ap, length-append, sym}
use Rattle.site_docs.specs.Sink.{entry_of}
use Rattle.docs_core.specs.inner.JoinedRows.{left_of}
use Rattle.docs_core.proofs.JoinedRowsLemmas.{known_stays, none_known}
use Rattle.docs_core.proofs.call.joined_rows.JoinedRowsCellSink.see.Goals as goal

-- the clash is known already
pub returns-then-is_some : goal.returns-then-is_some
returns-then-is_some c = λ first before held above.
    let self = c.args.self.now in
    let e = entry_of c.args.cell in (
      held.0,
      (
        c.in_ok-self.ensures ∙ ap (λ n. n + 1) held.1.0 ∙ sym (length-append before (e ∷ [])),
        known_stays self.clash (left_of self.left) self.draft first.others.now before e
            (sym c.is_some.ensures ∙ c.if-is_some.true) held.1.1,
      ),
    )

-- the row is joined, or does not agree
pub returns : goal.returns
returns c = λ first before held above.
    let self = c.args.self.now in
    let e = entry_of c.args.cell in
    let so_far = none_known self.clash (left_of self.left) self.draft first.others.now before
    (sym c.is_some.ensures ∙ c.if-is_some.false) held.1.1 in (
      held.0,
      (
        c.in_ok-self.ensures ∙ ap (λ n. n + 1) held.1.0 ∙ sym (length-append before (e ∷ [])),
        c.in_ok-self-2.ensures first.others.now before so_far.0 so_far.1 so_far.2 above held.1.0,
      ),
    )
