use Rattle.std.proofs.Common.{arith, ◌≡◌, ◌∙◌, ◌-◌, ap, take, drop, subst, ℕ}
use Rattle.std.specs.Str.{IsCharBoundary}
use Rattle.std.proofs.lemmas.Str.{IsCharBoundary-before_ascii, IsCharBoundary-after_ascii}
use Rattle.lang_core.specs.Text.{pieces}
use Rattle.lang_core.specs.inner.Kind.{is_of}
use Rattle.lang_core.proofs.SubtagsRunsLemmas.{no_run, all_run, cut_run, split_as}
use Rattle.lang_core.proofs.subtags.Subtags.split_text.Goals as goal

pub range-requires-clause-end_boundary : goal.range-requires-clause-end_boundary
range-requires-clause-end_boundary c =
    let cut =
    cut_run (is_of c.args.kind) c.args.text.now c.run_len-len.result c.requires
    c.run_len-len.ensures (omega arith) (omega arith) in
    let hyphen = cut.hyphen in
    IsCharBoundary-before_ascii c.args.text.now (c.run_len-len.result - 1) cut.inside (omega arith)

pub range_from-requires : goal.range_from-requires
range_from-requires c =
    let cut =
    cut_run (is_of c.args.kind) c.args.text.now c.run_len-len.result c.requires
    c.run_len-len.ensures (omega arith) (omega arith) in
    let hyphen = cut.hyphen in
    λ _. subst (λ (n : ℕ). IsCharBoundary c.args.text.now n) (omega arith)
    (IsCharBoundary-after_ascii c.args.text.now (c.run_len-len.result - 1) c.utf8.text cut.inside
    (omega arith))

pub returns-then-len-eq0 : goal.returns-then-len-eq0
returns-then-len-eq0 c =
    no_run (is_of c.args.kind) c.args.text.now c.run_len-len.result _ _ c.run_len-len.ensures
    (omega arith) c.none.ensures c.new.ensures

pub returns-then-len-text : goal.returns-then-len-text
returns-then-len-text c =
    all_run (is_of c.args.kind) c.args.text.now c.run_len-len.result _ _ c.run_len-len.ensures
    (omega arith) c.new-then-len-text.ensures c.none-then-len-text.ensures

pub returns-else-len-text : goal.returns-else-len-text
returns-else-len-text c =
    let cut =
    cut_run (is_of c.args.kind) c.args.text.now c.run_len-len.result c.requires
    c.run_len-len.ensures (omega arith) (omega arith) in
    let front : c.range.result.now ≡ take (c.run_len-len.result - 1) c.args.text.now =
    c.range.ensures.value ∙ grind arith in
    let back : c.range_from.result.now ≡ drop c.run_len-len.result c.args.text.now =
    c.range_from.ensures.value in
    split_as (is_of c.args.kind) (pieces c.args.text.now) c.run_len-len.ensures.run
    c.run_len-len.ensures.rest _ _ c.run_len-len.ensures.split
    (c.new-else-len-text.ensures ∙ (ap pieces front ∙ cut.front))
    (c.new-else-len-text-2.ensures ∙ (ap pieces back ∙ cut.back))
