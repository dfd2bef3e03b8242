use Rattle.std.proofs.Common.{◌∙◌, ap}
use Rattle.cata_core.specs.Delta.{Stamps}
use Rattle.site_docs.proofs.plain.summaries.summary_in_any_form.Goals as goal

-- the stamps of the cells that were shown, for the site of the document
pub returns : goal.returns
returns c =
    let shown = c.in_ok-owner.ensures.ok in
    let owner = c.in_ok-owner.owner in (
      record { name = owner; cells = shown.4.0 },
      (shown.0, shown.1, shown.2, record { name = shown.3; cells = shown.4.1.are }),
      c.with_owner.ensures
          ∙ ap (λ (s : Stamps). record { owner = owner; stamps = s }) shown.4.2,
    )
