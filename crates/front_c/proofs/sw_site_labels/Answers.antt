use Rattle.std.proofs.Common.{◌≡◌, refl, rules, of_z, to_z, w32}
use Rattle.std.specs.Prelude.{Ok}
use Rattle.front_core.specs.Exchange.{ShowsView}
use Rattle.front_core.specs.declared.exchange.View.TheVariants.{Labels}
use Rattle.front_c.specs.Handles.{site_of}
use Rattle.front_c.proofs.ReportingAskedLemmas.{asked_as, shown_as}
use Rattle.front_c.proofs.sw_site_labels.Goals as goal

pub returns-clause-answer : goal.returns-clause-answer
returns-clause-answer c =
    let site = site_of c.args.site.now in
    let same : to_z w32 (of_z w32 c.ask.result) ≡ c.ask.result = search rules in
    rw same
    (shown_as Labels site c.args.out.now c.ask.new.out c.ask.new.told _
    (asked_as (Ok Labels) (λ asked. asked ≡ Labels) (λ _. ⊥) ShowsView site c.args.out.now
    c.ask.new.out c.ask.new.told _ refl c.ask.ensures.answer))
