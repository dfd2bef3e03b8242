use Rattle.std.proofs.Common.{ℕ, List, [], ◌≡◌, ◌∙◌, ap, length, rules, subst, sym}
use Rattle.std.specs.Borrow.{Bor}
use Rattle.std.specs.Prelude.{Option, Some, option_map}
use Rattle.list_core.specs.Fallbacks.{skip_gaps, trim_end}
use Rattle.list_core.proofs.FieldWalk.{no_bytes}
use Rattle.list_core.proofs.FallbacksLemmas.{IsCutAt, IsReadTo, cut_at, read_element, read_gap}
use Rattle.list_core.proofs.fallbacks.Fallbacks.parse.Goals as goal

-- A piece that is empty but for gaps adds nothing to what was read.
pub loop-rest-preserved : goal.loop-rest-preserved
loop-rest-preserved c =
    let cut : IsCutAt c.in-Some.left.now c.cut_piece.result.0.now
    (option_map (λ r. r.now) c.cut_piece.result.1) =
    cut_at c.in-Some.left.now c.cut_piece.result.0.now c.cut_piece.result.1
    c.cut_piece.ensures.pieces c.cut_piece.ensures.length in
    let read : IsReadTo c.args.text.now c.loop-rest.elements.items (Some c.in-Some.left.now) =
    subst
    (λ (o : Option (Bor (List ℕ))). IsReadTo c.args.text.now c.loop-rest.elements.items
    (option_map (λ r. r.now) o))
    c.in-Some.is c.loop-rest.invariant.1 in
    let none : length c.skip_gaps-begun.result.now ≡ 0 = search rules in
    let empty : skip_gaps c.cut_piece.result.0.now ≡ [] =
    sym c.skip_gaps-begun.ensures.gaps ∙ no_bytes _ none in
    (c.loop-rest.invariant.0, read_gap _ _ _ _ _ read cut empty)

-- A new element is added to what was read.
pub loop-rest-preserved-in_ok-push-in-Some-2 : goal.loop-rest-preserved-in_ok-push-in-Some-2
loop-rest-preserved-in_ok-push-in-Some-2 c =
    let cut : IsCutAt c.in-Some.left.now c.cut_piece.result.0.now
    (option_map (λ r. r.now) c.cut_piece.result.1) =
    cut_at c.in-Some.left.now c.cut_piece.result.0.now c.cut_piece.result.1
    c.cut_piece.ensures.pieces c.cut_piece.ensures.length in
    let read : IsReadTo c.args.text.now c.loop-rest.elements.items (Some c.in-Some.left.now) =
    subst
    (λ (o : Option (Bor (List ℕ))). IsReadTo c.args.text.now c.loop-rest.elements.items
    (option_map (λ r. r.now) o))
    c.in-Some.is c.loop-rest.invariant.1 in
    let found =
    rw (c.trim_end.ensures, c.skip_gaps-begun.ensures.gaps, c.deref.ensures.value)
    at rw c.in-Some-2.is at c.in_ok-element.ensures in (
      c.loop-rest.invariant.0,
      rw c.in_ok-push-in-Some-2.ensures.items
          (read_element _ _ _ _ c.in-Some-2.element _ read cut found.0 found.1),
    )
