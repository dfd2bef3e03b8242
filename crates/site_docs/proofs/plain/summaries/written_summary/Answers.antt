use Rattle.std.proofs.Common.{◌≡◌, ◌∙◌, List, ℕ, refl, sym}
use Rattle.std.proofs.lemmas.Slice.Eq.{bytes_eq-Decides}
use Rattle.std.specs.Str.{bytes_eq}
use Rattle.cata_core.specs.Delta.{summary_of}
use Rattle.cata_core.proofs.SummaryLemmas.{summary-IsMap}
use Rattle.site_docs.specs.declared.stamps_draft.StampsDraft.{StampsDraft}
use Rattle.lang_core.proofs.Basics.{not_false as holds_from_not}
use Rattle.site_docs.proofs.PlainReads.{summarised}
use Rattle.site_docs.proofs.plain.summaries.written_summary.Goals as goal

-- no row is written yet
pub show_plain-requires : goal.show_plain-requires
show_plain-requires c = λ κs.
    let begun : StampsDraft = record { owner = c.in_ok-owner.owner; rows = c.in-Ok.draft.rows } in
    ((refl, tt), (begun, c.in-Ok.ensures))

-- The text is the summary of a site that the bytes read as: the rows taken are that site's, and the
-- owner that was written first is its name.
pub returns-in-Ok-close : goal.returns-in-Ok-close
returns-in-Ok-close c =
    let name : List ℕ = c.in_ok-name.name in
    let owner : List ℕ = c.in_ok-owner.owner in
    let found = c.as_str.result.now in
    let begun_with = c.as_str-2.result.now in
    let same : name ≡ owner =
    sym c.as_str.ensures.text
    ∙ (bytes_eq-Decides found begun_with).0
    (holds_from_not (bytes_eq found begun_with) (sym c.ne.ensures ∙ c.if-ne.false))
    ∙ c.as_str-2.ensures.text in
    let taken = c.in_ok-name.ensures in
    let begun : StampsDraft = record { owner = owner; rows = c.in-Ok.draft.rows } in
    summarised c.args.bytes.now name owner c.in-Ok-close.doc taken.0 taken.1 same
    (c.in-Ok-close.ensures owner (summary_of taken.0) (taken.2 begun c.in-Ok.ensures)
    (summary-IsMap taken.0 taken.1.kept.map))
