use Rattle.std.proofs.Common.{arith, ◌∙◌, sym, subst, List, ℕ}
use Rattle.lang_core.specs.Text.{pieces}
use Rattle.lang_core.specs.inner.Kind.{is_of}
use Rattle.lang_core.specs.Subtags.{subtags_left}
use Rattle.lang_core.proofs.SubtagsRunsLemmas.{IsRunSoFar, run_fits, run_on}
use Rattle.lang_core.proofs.subtags.run_len.Goals as goal

pub overflow_add-len-in-loop-subtag : goal.overflow_add-len-in-loop-subtag
overflow_add-len-in-loop-subtag c =
    let fits =
    run_fits (is_of c.args.kind) c.args.text.now (subtags_left c.next.new.self)
    c.in-Some.subtag.now c.loop-subtag.len
    (subst (λ (x : List (List ℕ)). IsRunSoFar (is_of c.args.kind) (pieces c.args.text.now) x
    c.loop-subtag.len) c.in-Some.ensures.steps c.loop-subtag.invariant) in
    omega arith

pub loop-subtag-preserved : goal.loop-subtag-preserved
loop-subtag-preserved c =
    run_on (is_of c.args.kind) (pieces c.args.text.now) (subtags_left c.next.new.self)
    c.in-Some.subtag.now c.loop-subtag.len
    (subst (λ (x : List (List ℕ)). IsRunSoFar (is_of c.args.kind) (pieces c.args.text.now) x
    c.loop-subtag.len) c.in-Some.ensures.steps c.loop-subtag.invariant)
    (sym c.has.ensures ∙ c.if-not-has.false)
