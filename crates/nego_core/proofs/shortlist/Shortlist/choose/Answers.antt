use Rattle.std.proofs.Common.{Some, None, sym, ◌∙◌}
use Rattle.std.specs.Prelude.{option_map}
use Rattle.list_core.proofs.Basics.{false_true}
use Rattle.nego_core.proofs.ShortlistLemmas.{chosen_default, chosen_match, chosen_nothing}
use Rattle.nego_core.proofs.ShortlistLemmas.{default_there}
use Rattle.nego_core.proofs.shortlist.Shortlist.choose.Goals as goal

pub returns-in-Some-clause-chosen : goal.returns-in-Some-clause-chosen
returns-in-Some-clause-chosen g c =
    let default = option_map (λ l. l.now) c.args.default in
    let langs = g.L.Languages.texts c.args.langs.now in
    let s = c.self.inside in
    rw (← c.self.view_is) (λ among. chosen_match s.widening s.list.now langs default
    c.as_str.result (rw c.as_str.ensures.text (c.self.invariant.finds langs
    (Some c.in-Some.lang.now) among (rw c.deref.ensures.value at c.in-Some.ensures))))

-- The answer is the one that the walk over the ranking found.
pub returns-in-Some-clause-first : goal.returns-in-Some-clause-first
returns-in-Some-clause-first g c =
    rw (← c.self.view_is, c.as_str.ensures.text) (rw c.deref.ensures.value at c.in-Some.ensures)

pub returns-then-has_open_default-clause-first : goal.returns-then-has_open_default-clause-first
returns-then-has_open_default-clause-first g c =
    rw (← c.self.view_is) (rw c.deref.ensures.value at c.in-None.ensures)

pub returns-else-has_open_default-clause-first : goal.returns-else-has_open_default-clause-first
returns-else-has_open_default-clause-first g c =
    rw (← c.self.view_is) (rw c.deref.ensures.value at c.in-None.ensures)

pub returns-then-has_open_default-clause-chosen : goal.returns-then-has_open_default-clause-chosen
returns-then-has_open_default-clause-chosen g c =
    let default = option_map (λ l. l.now) c.args.default in
    let langs = g.L.Languages.texts c.args.langs.now in
    let s = c.self.inside in
    rw (← c.self.view_is) (λ among. chosen_default s.widening s.list.now langs default
    (c.self.invariant.finds langs None among (rw c.deref.ensures.value at c.in-None.ensures))
    (c.has_open_default.ensures.0 c.if-has_open_default.true))

pub returns-then-has_open_default-clause-there : goal.returns-then-has_open_default-clause-there
returns-then-has_open_default-clause-there g c =
    let default = option_map (λ l. l.now) c.args.default in
    let langs = g.L.Languages.texts c.args.langs.now in
    default_there c.self.inside.list.now langs default
    (c.has_open_default.ensures.0 c.if-has_open_default.true)

pub returns-else-has_open_default-clause-chosen : goal.returns-else-has_open_default-clause-chosen
returns-else-has_open_default-clause-chosen g c =
    let default = option_map (λ l. l.now) c.args.default in
    let langs = g.L.Languages.texts c.args.langs.now in
    let s = c.self.inside in
    rw (← c.self.view_is) (λ among. chosen_nothing s.widening s.list.now langs default
    (c.self.invariant.finds langs None among (rw c.deref.ensures.value at c.in-None.ensures))
    (λ d. false_true (sym c.if-has_open_default.false ∙ c.has_open_default.ensures.1 d)))
