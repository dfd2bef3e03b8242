use Rattle.std.proofs.Common.{◌≡◌, inl, of_z, rules, to_z, w32}
use Rattle.front_core.proofs.WrittenLemmas.{same_text}
use Rattle.front_c.specs.Reporting.{ReportsLabelText}
use Rattle.front_c.proofs.ReportingAskedLemmas.{refused_reports}
use Rattle.front_c.proofs.reporting.report_text_in.Goals as goal

-- the part has the live labels that the text is of
pub returns-in-Ok-clause-written : goal.returns-in-Ok-clause-written
returns-in-Ok-clause-written c = λ site written.
    let same : to_z w32 (of_z w32 c.report_label_text.result) ≡ c.report_label_text.result =
    search rules in
    let found = same_text c.in-Ok.part.cells site.cells c.args.asked.now c.args.place _
    (c.in-Ok.ensures site written) c.text.ensures in
    rw same (inl (c.text.result, found, c.report_label_text.ensures))

-- of such a document no text is found for want of memory alone
pub returns-in-Err-clause-written : goal.returns-in-Err-clause-written
returns-in-Err-clause-written c = λ site compact.
    refused_reports _ _ ReportsLabelText c.in-Err.fault _ _ _ (c.in-Err.ensures site compact)
    (search rules)
