use Rattle.std.proofs.Common.{◌∙◌, ◌++◌, ◌∷◌, [], ℕ, List, ap, ap₂, string_bytes, sym}
use Rattle.std.proofs.lemmas.List.{map-append}
use Rattle.std.proofs.lemmas.Result.{IfOk-weaker}
use Rattle.catalogue.specs.Entries.{Entry}
use Rattle.cell_core.specs.Label.{texts_of}
use Rattle.site_docs.specs.Sink.{entry_of}
use Rattle.summary_docs.specs.Digest.{digest}
use Rattle.summary_docs.specs.Shown.{ShownState}
use Rattle.summary_docs.proofs.shown.ShownSummaryCellSink.see.Goals as goal

-- the stamps are those of the cells before
pub see-requires : goal.see-requires
see-requires c =
    let holds = c.requires.holds in
    let stamps = ap (λ (s : ShownState). s.summary.stamps) c.self.view_is ∙ holds.2.0 in (
      (c.self.inside.summary, holds.1, stamps, holds.3),
      (c.requires.label, c.requires.row),
    )

-- one stamp more, and one digest
pub returns : goal.returns
returns c =
    IfOk-weaker c.see.result _ _ (λ _ saw. λ first before held above.
    let e = entry_of c.args.cell in
    let stamps = ap (λ (s : ShownState). s.summary.stamps) c.self.view_is ∙ held.0 in
    let digests = ap (λ (s : ShownState). s.digests) c.self.view_is ∙ held.1 in (
      saw c.self.inside.summary before stamps above,
      ap texts_of c.in_ok-push.ensures.items
          ∙ map-append string_bytes c.self.inside.digests.items (c.in_ok-digest.digest ∷ [])
          ∙ ap₂ (λ (xs : List (List ℕ)) (x : List ℕ). xs ++ x ∷ []) digests
          c.in_ok-digest.ensures
          ∙ sym (map-append (λ (x : Entry). digest x.1.label) before (e ∷ [])),
    )) c.see.ensures
