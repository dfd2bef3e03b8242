use Rattle.std.proofs.Common.{rules}
use Rattle.front_c.specs.Reporting.{ReportsPicked}
use Rattle.front_c.proofs.ReportingAskedLemmas.{refused_reports}
use Rattle.front_c.proofs.reporting.report_pick.Goals as goal

pub returns-in-Err : goal.returns-in-Err
returns-in-Err c = refused_reports _ _ ReportsPicked c.in-Err.fault _ _ _
    (rw (← c.default_of.ensures) c.in-Err.ensures) (search rules)
