use Rattle.std.proofs.Common.{◌≡◌, ◌∙◌, ap, arith, inr, length, string_bytes, subst, sym}
use Rattle.std.proofs.lemmas.List.{length-map}
use Rattle.std.proofs.lemmas.Result.{err_from_is_err_and}
use Rattle.cell_core.specs.Label.{texts_of}
use Rattle.json_docs.specs.declared.fault.DocCause.TheVariants.{Shape}
use Rattle.json_docs.specs.declared.fault.Spot.TheVariants.{Document}
use Rattle.serde_json.specs.View.{view}
use Rattle.summary_docs.specs.Reading.{ReadsAsShown}
use Rattle.summary_docs.proofs.ReadingLemmas.{digests_refused, has_these, labelled_caused}
use Rattle.summary_docs.proofs.ReadingLemmas.{labelled_reads, miscounted, no_digests, plain_text}
use Rattle.summary_docs.proofs.ReadingLemmas.{shows-member, shows-no_member, shows-no_version}
use Rattle.summary_docs.proofs.ReadingLemmas.{unshown_refused}
use Rattle.summary_docs.proofs.reading.labelled_at.Goals as goal

-- it shows no labels in another version
pub returns-then-not-is_of_version_2 : goal.returns-then-not-is_of_version_2
returns-then-not-is_of_version_2 c =
    let d = view c.in-Ok.value in
    let json = c.in-Ok.ensures.ok in
    inr (
      Shape Document,
      unshown_refused c.args.bytes.now d json c.requires
          (shows-no_version d (sym c.is_of_version_2.ensures ∙ c.if-not-is_of_version_2.true)),
      c.of_document-no_document.ensures,
    )

-- nor without the member
pub returns-in_default-without_labels : goal.returns-in_default-without_labels
returns-in_default-without_labels c =
    let d = view c.in-Ok.value in
    let json = c.in-Ok.ensures.ok in
    inr (
      Shape Document,
      unshown_refused c.args.bytes.now d json c.requires
          (shows-no_member d c.in_default-without_labels.ensures),
      c.of_document-no_document.ensures,
    )

-- the member is no array of digests
pub returns-in_default-2 : goal.returns-in_default-2
returns-in_default-2 c =
    let d = view c.in-Ok.value in
    let json = c.in-Ok.ensures.ok in
    let labels = view c.in-Some.labels in
    let two = sym c.is_of_version_2.ensures ∙ c.if-not-is_of_version_2.false in
    let there = c.in-Some.ensures.1 in
    let shows = shows-member d labels two there in
    inr (
      Shape Document,
      digests_refused c.args.bytes.now d json shows
          (no_digests d labels there (rw c.in_default-2.is at c.in_ok-digests.ensures)),
      c.of_document-no_document.ensures,
    )

-- there is not one for each stamp
pub returns-then-as_slice-count : goal.returns-then-as_slice-count
returns-then-as_slice-count c =
    let d = view c.in-Ok.value in
    let json = c.in-Ok.ensures.ok in
    let labels = view c.in-Some.labels in
    let two = sym c.is_of_version_2.ensures ∙ c.if-not-is_of_version_2.false in
    let there = c.in-Some.ensures.1 in
    let shows = shows-member d labels two there in
    let items = c.in-Some-2.digests.items in
    let found = rw c.in-Some-2.is at c.in_ok-digests.ensures in
    inr (
      Shape Document,
      digests_refused c.args.bytes.now d json shows
          (miscounted d labels found.0 (texts_of items) there found.1 found.2 (λ same.
          let equal : length c.as_slice.result.now ≡ c.count_of_stamps-count.result =
          ap length c.as_slice.ensures.value ∙ sym (length-map items string_bytes)
          ∙ same ∙ sym c.count_of_stamps-count.ensures in absurd (omega (arith, equal)))),
      c.of_document-no_document.ensures,
    )

-- the document without labels is refused
pub returns-in_err-summary : goal.returns-in_err-summary
returns-in_err-summary c =
    let d = view c.in-Ok.value in
    let json = c.in-Ok.ensures.ok in
    let labels = view c.in-Some.labels in
    let two = sym c.is_of_version_2.ensures ∙ c.if-not-is_of_version_2.false in
    let there = c.in-Some.ensures.1 in
    let shows = shows-member d labels two there in
    let items = c.in-Some-2.digests.items in
    let found = rw c.in-Some-2.is at c.in_ok-digests.ensures in
    let equal : length c.as_slice.result.now ≡ c.count_of_stamps-count.result = omega arith in
    let each = length-map items string_bytes ∙ sym (ap length c.as_slice.ensures.value)
    ∙ equal ∙ c.count_of_stamps-count.ensures in
    let has = has_these d labels found.0 (texts_of items) there found.1 found.2 each in
    let text = c.as_slice-2.result.now in
    let plain = plain_text d (view c.in-Some.plain) text c.in_ok-text.text.items
    c.as_slice-2.ensures.value c.in-Some.ensures.0 c.in-Ok.ensures.nests c.in_ok-text.ensures.utf8
    c.in_ok-text.ensures.reads_back in
    let p = err_from_is_err_and c.from_residual-in_err-summary.result
    c.from_residual-in_err-summary.ensures.1 in
    rw (p.1, p.2) (labelled_caused c.args.bytes.now text d (texts_of items) json shows has plain
    c.args.document _ c.in_err-summary.ensures)

-- it is read, with the digests
pub returns : goal.returns
returns c =
    let d = view c.in-Ok.value in
    let json = c.in-Ok.ensures.ok in
    let labels = view c.in-Some.labels in
    let two = sym c.is_of_version_2.ensures ∙ c.if-not-is_of_version_2.false in
    let there = c.in-Some.ensures.1 in
    let shows = shows-member d labels two there in
    let items = c.in-Some-2.digests.items in
    let found = rw c.in-Some-2.is at c.in_ok-digests.ensures in
    let equal : length c.as_slice.result.now ≡ c.count_of_stamps-count.result = omega arith in
    let each = length-map items string_bytes ∙ sym (ap length c.as_slice.ensures.value)
    ∙ equal ∙ c.count_of_stamps-count.ensures in
    let has = has_these d labels found.0 (texts_of items) there found.1 found.2 each in
    let text = c.as_slice-2.result.now in
    let plain = plain_text d (view c.in-Some.plain) text c.in_ok-text.text.items
    c.as_slice-2.ensures.value c.in-Some.ensures.0 c.in-Ok.ensures.nests c.in_ok-text.ensures.utf8
    c.in_ok-text.ensures.reads_back in
    subst (ReadsAsShown c.args.bytes.now) (sym c.new.ensures)
    (labelled_reads c.args.bytes.now text d (texts_of items) json shows has plain
    c.in_ok-summary.summary c.in_ok-summary.ensures)
