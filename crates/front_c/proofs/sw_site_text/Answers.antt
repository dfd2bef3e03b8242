use Rattle.std.proofs.Common.{inl, inr, rules}
use Rattle.front_core.specs.Preferences.{field_text}
use Rattle.front_core.specs.Ask.{IsLookupText, RefusesLookup}
use Rattle.front_c.specs.Calls.{ReportsOpen}
use Rattle.front_c.specs.Handles.{site_of}
use Rattle.front_c.specs.Question.{default_of, lookup_field_of}
use Rattle.front_c.specs.Rules.{offered_by}
use Rattle.front_c.specs.Reporting.{ReportsEither, ReportsLabelText}
use Rattle.front_c.proofs.ReportingAskedLemmas.{field_as, open_as}
use Rattle.front_c.proofs.sw_site_text.Goals as goal

-- The text at the place is reported of the label that the lookup asked finds.
pub returns-in-Ok-clause-answer : goal.returns-in-Ok-clause-answer
returns-in-Ok-clause-answer c =
    let site = site_of c.args.site.now in
    let id = c.args.id.now in
    let offers = offered_by c.args.rules.now in
    let default = default_of c.args.default.now in
    let read = field_text c.in-Some.field in
    field_as (lookup_field_of c.args.flags c.args.rules.now.fallbacks.now c.args.field.now)
    (λ f. ReportsOpen site (λ s. ReportsEither
    (IsLookupText s.cells id offers f default c.args.place)
    (RefusesLookup id offers f default) ReportsLabelText))
    read c.args.out.now c.report_label_text.new.out c.report_label_text.new.told _ (search rules)
    (open_as site (λ s. ReportsEither (IsLookupText s.cells id offers read default c.args.place)
    (RefusesLookup id offers read default) ReportsLabelText) c.in-Some-open.held.now c.args.out.now
    c.report_label_text.new.out
    c.report_label_text.new.told _ (search rules)
    (inl (
      c.text.result,
      (
        c.in-Ok.asked,
        rw (← c.default_of.ensures, ← c.offering.ensures) c.in-Ok.ensures,
        rw (← c.site.ensures) c.text.ensures,
      ),
      search rules,
    )))

-- The arguments are refused, and no text is reported.
pub returns-in-Err-clause-answer : goal.returns-in-Err-clause-answer
returns-in-Err-clause-answer c =
    let site = site_of c.args.site.now in
    let id = c.args.id.now in
    let offers = offered_by c.args.rules.now in
    let default = default_of c.args.default.now in
    let read = field_text c.in-Some.field in
    field_as (lookup_field_of c.args.flags c.args.rules.now.fallbacks.now c.args.field.now)
    (λ f. ReportsOpen site (λ s. ReportsEither
    (IsLookupText s.cells id offers f default c.args.place)
    (RefusesLookup id offers f default) ReportsLabelText))
    read c.args.out.now c.args.out.now c.report_refusal.new.told _ (search rules)
    (open_as site (λ s. ReportsEither (IsLookupText s.cells id offers read default c.args.place)
    (RefusesLookup id offers read default) ReportsLabelText) c.in-Some-open.held.now c.args.out.now
    c.args.out.now
    c.report_refusal.new.told _ (search rules)
    (inr (
      c.in-Err.fault,
      rw
          (← c.default_of.ensures, ← c.offering.ensures) c.in-Err.ensures,
      search rules,
    )))
