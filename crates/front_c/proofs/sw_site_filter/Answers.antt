use Rattle.std.proofs.Common.{◌≡◌, rules, of_z, to_z, w32}
use Rattle.front_core.specs.Preferences.{field_text}
use Rattle.front_core.specs.Ask.{AnswersFilter, IsFilter, RefusesFilter}
use Rattle.front_c.specs.Calls.{ReportsQuestion}
use Rattle.front_c.specs.Handles.{site_of}
use Rattle.front_c.specs.Question.{field_of}
use Rattle.front_c.specs.Rules.{offered_by}
use Rattle.front_c.proofs.ReportingAskedLemmas.{asked_as, field_as}
use Rattle.front_c.proofs.sw_site_filter.Goals as goal

pub returns-in-Some-clause-answer : goal.returns-in-Some-clause-answer
returns-in-Some-clause-answer c =
    let site = site_of c.args.site.now in
    let id = c.args.id.now in
    let offers = offered_by c.args.rules.now in
    let read = field_text c.in-Some.field in
    let same : to_z w32 (of_z w32 c.ask.result) ≡ c.ask.result = search rules in
    rw same
    (field_as (field_of c.args.flags c.args.field.now)
    (λ f. ReportsQuestion site (IsFilter id offers f) (RefusesFilter id offers f)
    (λ asked s. AnswersFilter s.cells asked))
    read c.args.out.now c.ask.new.out c.ask.new.told _ (search rules)
    (asked_as c.read.result (IsFilter id offers read) (RefusesFilter id offers read)
    (λ asked s. AnswersFilter s.cells asked) site c.args.out.now c.ask.new.out c.ask.new.told _
    (rw (← c.offering.ensures) c.read.ensures) c.ask.ensures.answer))
