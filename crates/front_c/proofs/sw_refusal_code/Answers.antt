use Rattle.std.proofs.Common.{◌≡◌, rules, of_z, to_z, w32}
use Rattle.std.specs.Prelude.{option_map}
use Rattle.front_core.specs.Refusal.{refusal_of}
use Rattle.front_c.proofs.ReportingAskedLemmas.{line_as}
use Rattle.front_c.proofs.sw_refusal_code.Goals as goal

pub returns-in-Some : goal.returns-in-Some
returns-in-Some c =
    let same : to_z w32 (of_z w32 c.report_text.result) ≡ c.report_text.result = search rules in
    rw same
    (line_as (option_map (λ texts. texts.code) (refusal_of c.args.number))
    c.as_bytes.result.now c.args.out.now c.report_text.new.out c.report_text.new.told _
    (rw (← c.explained.ensures, c.in-Some.is) (search rules)) c.report_text.ensures)
