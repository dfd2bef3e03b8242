use Rattle.std.proofs.Common.{◌≡◌, rules, of_z, to_z, w32}
use Rattle.front_core.specs.Translate.{AnswersMissing, IsMissing, RefusesMissing}
use Rattle.front_c.specs.Handles.{site_of}
use Rattle.front_c.proofs.ReportingAskedLemmas.{asked_as}
use Rattle.front_c.proofs.sw_site_missing.Goals as goal

pub returns-clause-answer : goal.returns-clause-answer
returns-clause-answer c =
    let lang = c.args.lang.now in
    let same : to_z w32 (of_z w32 c.ask.result) ≡ c.ask.result = search rules in
    rw same
    (asked_as c.read.result (IsMissing lang) (RefusesMissing lang) AnswersMissing
    (site_of c.args.site.now) c.args.out.now c.ask.new.out c.ask.new.told _ c.read.ensures
    c.ask.ensures.answer)
