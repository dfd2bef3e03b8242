use Rattle.std.proofs.Common.{rules}
use Rattle.front_core.specs.Preferences.{field_text}
use Rattle.front_core.specs.Reader.{IsReader, RefusesReader}
use Rattle.front_core.specs.Ask.{AnswersBundle}
use Rattle.front_c.specs.Calls.{ReportsQuestion}
use Rattle.front_c.specs.Handles.{site_of}
use Rattle.front_c.specs.Question.{default_of, lookup_field_of}
use Rattle.front_c.specs.Rules.{offered_by}
use Rattle.front_c.proofs.ReportingAskedLemmas.{asked_as, field_as}
use Rattle.front_c.proofs.sw_site_bundle.Goals as goal

pub returns-in-Some-clause-answer : goal.returns-in-Some-clause-answer
returns-in-Some-clause-answer c =
    let site = site_of c.args.site.now in
    let offers = offered_by c.args.rules.now in
    let default = default_of c.args.default.now in
    let read = field_text c.in-Some.field in
    field_as (lookup_field_of c.args.flags c.args.rules.now.fallbacks.now c.args.field.now)
    (λ f. ReportsQuestion site (IsReader offers f default) (RefusesReader offers f default)
    (λ asked s. AnswersBundle s.cells asked))
    read c.args.out.now c.ask.new.out c.ask.new.told _ (search rules)
    (asked_as c.read-asked.result (IsReader offers read default) (RefusesReader offers read default)
    (λ asked s. AnswersBundle s.cells asked) site c.args.out.now c.ask.new.out c.ask.new.told _
    (rw (← c.default_of.ensures, ← c.offering.ensures) c.read-asked.ensures) (search rules))
