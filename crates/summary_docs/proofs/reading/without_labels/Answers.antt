use Rattle.std.proofs.Common.{◌∙◌, ap, codes, sym}
use Rattle.std.specs.Prelude.{option_map}
use Rattle.serde_json.specs.Data.{object}
use Rattle.serde_json.specs.Find.{get}
use Rattle.serde_json.specs.View.{members_view, view}
use Rattle.serde_json.specs.declared.value.Value.{Value}
use Rattle.serde_json.proofs.Views.{view-Object, view-lookup}
use Rattle.summary_docs.specs.Reading.{without}
use Rattle.summary_docs.proofs.ReadingLemmas.{members_view-removed}
use Rattle.summary_docs.proofs.reading.without_labels.Goals as goal

-- there is no such member
pub returns-in_default-remove : goal.returns-in_default-remove
returns-in_default-remove c =
    let m = c.in-Object.members in
    ap (λ (v : Value). get (codes "labels") (view v)) c.in-Object.is
    ∙ ap (get (codes "labels")) (view-Object m) ∙ sym (view-lookup (codes "labels") m.entries)
    ∙ ap (option_map view) (sym c.remove.ensures.value ∙ c.in_default-remove.is)

-- the member, and what is left without it
pub returns : goal.returns
returns c =
    let m = c.in-Object.members in (
      view-Object c.remove.new.self
          ∙ ap (λ es. object (members_view es)) c.remove.ensures.entries
          ∙ ap object (members_view-removed (codes "labels") m.entries)
          ∙ sym (ap (without (codes "labels")) (view-Object m))
          ∙ sym (ap (λ (v : Value). without (codes "labels") (view v)) c.in-Object.is),
      ap (λ (v : Value). get (codes "labels") (view v)) c.in-Object.is
          ∙ ap (get (codes "labels")) (view-Object m)
          ∙ sym (view-lookup (codes "labels") m.entries)
          ∙ ap (option_map view) (sym c.remove.ensures.value ∙ c.in-Some.is),
    )
