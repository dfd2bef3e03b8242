use Rattle.std.proofs.Common.{◌≡◌, Some, inl, inr, rules, of_z, to_z, w32}
use Rattle.front_core.specs.Ask.{IsLookup, IsLookupText, RefusesLookup}
use Rattle.front_core.specs.Preferences.{field_text}
use Rattle.front_c.specs.Calls.{ReportsOpen}
use Rattle.front_c.specs.Question.{default_of, lookup_field_of}
use Rattle.front_c.specs.Rules.{offered_by}
use Rattle.front_c.specs.Reporting.{ReportsEither, ReportsLabelText, ReportsRead}
use Rattle.front_c.proofs.ReportingAskedLemmas.{field_as, text_as}
use Rattle.front_c.proofs.sw_text_text.Goals as goal

-- The text that is reported is of the site which the document is written for.
pub returns-in-Ok-clause-written : goal.returns-in-Ok-clause-written
returns-in-Ok-clause-written c = λ site written.
    let id = c.args.id.now in
    let offers = offered_by c.args.rules.now in
    let default = default_of c.args.default.now in
    let read = field_text c.in-Some.field in
    let same : to_z w32 (of_z w32 c.report_text_in.result) ≡ c.report_text_in.result = search rules
    in
    rw same
    (field_as (lookup_field_of c.args.flags c.args.rules.now.fallbacks.now c.args.field.now)
    (λ f. ReportsOpen (Some site) (λ s. ReportsEither (IsLookupText s.cells id offers f default
    c.args.place) (RefusesLookup id offers f default) ReportsLabelText))
    read c.args.out.now c.report_text_in.new.out c.report_text_in.new.told _ (search rules)
    (text_as site c.in-Ok.asked id offers read default c.args.place c.args.out.now
    c.report_text_in.new.out c.report_text_in.new.told _
    (rw (← c.default_of.ensures, ← c.offering.ensures) c.in-Ok.ensures)
    (c.report_text_in.ensures.written site written)))

-- Whatever the text is, a text or a refusal is reported where the arguments read as a question.
pub returns-in-Ok-clause-read : goal.returns-in-Ok-clause-read
returns-in-Ok-clause-read c =
    let id = c.args.id.now in
    let offers = offered_by c.args.rules.now in
    let default = default_of c.args.default.now in
    let same : to_z w32 (of_z w32 c.report_text_in.result) ≡ c.report_text_in.result = search rules
    in
    rw same
    (field_as (lookup_field_of c.args.flags c.args.rules.now.fallbacks.now c.args.field.now)
    (λ f. ReportsRead (IsLookup id offers f default)
    (RefusesLookup id offers f default) ReportsLabelText)
    (field_text c.in-Some.field) c.args.out.now c.report_text_in.new.out c.report_text_in.new.told _
    (search rules)
    (inl (
      (c.in-Ok.asked, rw (← c.default_of.ensures, ← c.offering.ensures) c.in-Ok.ensures),
      c.report_text_in.ensures.some,
    )))

-- The arguments are refused before the text is asked.
pub returns-in-Err-clause-written : goal.returns-in-Err-clause-written
returns-in-Err-clause-written c = λ site written.
    let id = c.args.id.now in
    let offers = offered_by c.args.rules.now in
    let default = default_of c.args.default.now in
    let read = field_text c.in-Some.field in
    field_as (lookup_field_of c.args.flags c.args.rules.now.fallbacks.now c.args.field.now)
    (λ f. ReportsOpen (Some site) (λ s. ReportsEither (IsLookupText s.cells id offers f default
    c.args.place) (RefusesLookup id offers f default) ReportsLabelText))
    read c.args.out.now c.args.out.now c.report_refusal.new.told _ (search rules)
    (inr (
      c.in-Err.fault,
      rw
          (← c.default_of.ensures, ← c.offering.ensures) c.in-Err.ensures,
      search rules,
    ))

-- So it is whatever the text is.
pub returns-in-Err-clause-read : goal.returns-in-Err-clause-read
returns-in-Err-clause-read c =
    let id = c.args.id.now in
    let offers = offered_by c.args.rules.now in
    let default = default_of c.args.default.now in
    field_as (lookup_field_of c.args.flags c.args.rules.now.fallbacks.now c.args.field.now)
    (λ f. ReportsRead (IsLookup id offers f default)
    (RefusesLookup id offers f default) ReportsLabelText)
    (field_text c.in-Some.field) c.args.out.now c.args.out.now c.report_refusal.new.told _
    (search rules)
    (inr (
      c.in-Err.fault,
      rw
          (← c.default_of.ensures, ← c.offering.ensures) c.in-Err.ensures,
      search rules,
    ))
