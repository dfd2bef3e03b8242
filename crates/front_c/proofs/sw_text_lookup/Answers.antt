use Rattle.std.proofs.Common.{◌≡◌, Some, inl, inr, rules, of_z, to_z, w32}
use Rattle.front_core.specs.Ask.{AnswersLookup, IsAnswer, IsLookup, RefusesAnswer, RefusesLookup}
use Rattle.front_core.specs.Preferences.{field_text}
use Rattle.front_c.specs.Calls.{ReportsQuestion}
use Rattle.front_c.specs.Question.{default_of, lookup_field_of}
use Rattle.front_c.specs.Rules.{offered_by}
use Rattle.front_c.specs.Reporting.{ReportsAnswer, ReportsRead}
use Rattle.front_c.proofs.ReportingAskedLemmas.{field_as, report_as, some_as, written_as}
use Rattle.front_c.proofs.sw_text_lookup.Goals as goal

-- The answer over the text is that over the site which it is written for.
pub returns-in-Ok-clause-written : goal.returns-in-Ok-clause-written
returns-in-Ok-clause-written c = λ site written.
    let id = c.args.id.now in
    let offers = offered_by c.args.rules.now in
    let default = default_of c.args.default.now in
    let read = field_text c.in-Some.field in
    let same : to_z w32 (of_z w32 c.report.result) ≡ c.report.result = search rules in
    rw same
    (field_as (lookup_field_of c.args.flags c.args.rules.now.fallbacks.now c.args.field.now)
    (λ f. ReportsQuestion (Some site) (IsLookup id offers f default)
    (RefusesLookup id offers f default)
    (λ asked s. AnswersLookup s.cells asked))
    read c.args.out.now c.report.new.out c.report.new.told _ (search rules)
    (report_as c.answer_in.result
    (IsAnswer (IsLookup id offers read default) (λ asked s. AnswersLookup s.cells asked) site)
    (RefusesAnswer (IsLookup id offers read default) (RefusesLookup id offers read default))
    c.args.out.now c.report.new.out c.report.new.told _
    (written_as (IsLookup id offers read default) (RefusesLookup id offers read default)
    (λ asked s. AnswersLookup s.cells asked) c.in-Ok.lookup site c.answer_in.result
    (rw (← c.default_of.ensures, ← c.offering.ensures) c.in-Ok.ensures)
    (c.answer_in.ensures site written))
    c.report.ensures))

-- Whatever the text is, an answer or a refusal is reported where the arguments read as a question.
pub returns-in-Ok-clause-read : goal.returns-in-Ok-clause-read
returns-in-Ok-clause-read c =
    let id = c.args.id.now in
    let offers = offered_by c.args.rules.now in
    let default = default_of c.args.default.now in
    let same : to_z w32 (of_z w32 c.report.result) ≡ c.report.result = search rules in
    rw same
    (field_as (lookup_field_of c.args.flags c.args.rules.now.fallbacks.now c.args.field.now)
    (λ f. ReportsRead (IsLookup id offers f default)
    (RefusesLookup id offers f default) ReportsAnswer)
    (field_text c.in-Some.field) c.args.out.now c.report.new.out c.report.new.told _ (search rules)
    (inl (
      (c.in-Ok.lookup, rw (← c.default_of.ensures, ← c.offering.ensures) c.in-Ok.ensures),
      some_as c.answer_in.result c.args.out.now c.report.new.out c.report.new.told _
          c.report.ensures,
    )))

-- The arguments are refused before the text is asked.
pub returns-in-Err-clause-written : goal.returns-in-Err-clause-written
returns-in-Err-clause-written c = λ site written.
    let id = c.args.id.now in
    let offers = offered_by c.args.rules.now in
    let default = default_of c.args.default.now in
    let read = field_text c.in-Some.field in
    field_as (lookup_field_of c.args.flags c.args.rules.now.fallbacks.now c.args.field.now)
    (λ f. ReportsQuestion (Some site) (IsLookup id offers f default)
    (RefusesLookup id offers f default)
    (λ asked s. AnswersLookup s.cells asked))
    read c.args.out.now c.args.out.now c.report_refusal.new.told _ (search rules)
    (inr (
      c.in-Err.fault,
      inl (rw
          (← c.default_of.ensures, ← c.offering.ensures) c.in-Err.ensures),
      search rules,
    ))

-- So it is whatever the text is.
pub returns-in-Err-clause-read : goal.returns-in-Err-clause-read
returns-in-Err-clause-read c =
    let id = c.args.id.now in
    let offers = offered_by c.args.rules.now in
    let default = default_of c.args.default.now in
    field_as (lookup_field_of c.args.flags c.args.rules.now.fallbacks.now c.args.field.now)
    (λ f. ReportsRead (IsLookup id offers f default)
    (RefusesLookup id offers f default) ReportsAnswer)
    (field_text c.in-Some.field) c.args.out.now c.args.out.now c.report_refusal.new.told _
    (search rules)
    (inr (
      c.in-Err.fault,
      rw
          (← c.default_of.ensures, ← c.offering.ensures) c.in-Err.ensures,
      search rules,
    ))
