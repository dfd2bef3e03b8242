use Rattle.std.proofs.Common.{rules}
use Rattle.front_core.specs.Translate.{AnswersOutdated, IsOutdated, RefusesOutdated}
use Rattle.front_c.specs.Handles.{site_of}
use Rattle.front_c.proofs.ReportingAskedLemmas.{asked_as}
use Rattle.front_c.proofs.sw_site_outdated.Goals as goal

pub returns-clause-answer : goal.returns-clause-answer
returns-clause-answer c =
    let lang = c.args.lang.now in
    let source = c.args.source.now in
    asked_as c.read.result (IsOutdated lang source) (RefusesOutdated lang source) AnswersOutdated
    (site_of c.args.site.now) c.args.out.now c.ask.new.out c.ask.new.told _ c.read.ensures
    (search rules)
