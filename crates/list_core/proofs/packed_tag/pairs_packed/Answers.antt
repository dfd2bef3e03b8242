use Rattle.std.proofs.Common.{rules, ◌≡◌, ◌∙◌, ap, sym, [], ◌∷◌, List, ℕ, drop}
use Rattle.std.specs.List.{list_all}
use Rattle.lang_core.specs.Grammar.{AreAll}
use Rattle.lang_core.specs.Subtags.{subtags_left}
use Rattle.list_core.specs.inner.PackedTag.{is_packable, packed, all_packed, greedy_packed}
use Rattle.lang_core.proofs.Basics.{each_true}
use Rattle.list_core.proofs.PackedTagLemmas.{number_all, number_star}
use Rattle.list_core.proofs.packed_tag.pairs_packed.Goals as goal

pub loop-subtag-preserved : goal.loop-subtag-preserved
loop-subtag-preserved c =
    let piece : List ℕ = c.in-Some.subtag.now in
    let rest : List (List ℕ) = subtags_left c.next.new.self in
    let given : List ℕ = drop c.loop-subtag.from c.args.given.now in
    let whole : AreAll is_packable (piece ∷ rest) =
    rw c.in-Some.ensures.steps at c.loop-subtag.invariant.0 in (
      (each_true (is_packable piece) (list_all is_packable rest) whole).1,
      c.loop-subtag.invariant.1
          ∙ (ap (λ (list : List (List ℕ)). greedy_packed (all_packed list) given)
          c.in-Some.ensures.steps
          ∙ number_star (packed piece) (all_packed rest) given
          (ap packed (sym c.as_bytes.ensures.value)
          ∙ (sym c.pack-number.ensures ∙ c.if-number-ne-STAR.false))),
    )

pub returns : goal.returns
returns c =
    let none : subtags_left c.loop-subtag.subtag-iterator ≡ [] = search rules in
    let given : List ℕ = drop c.loop-subtag.from c.args.given.now in
    sym (c.loop-subtag.invariant.1
    ∙ (ap (λ (list : List (List ℕ)). greedy_packed (all_packed list) given) none
    ∙ number_all given))
