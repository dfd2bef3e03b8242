use Rattle.std.proofs.Common.{ℕ, List, [], ◌∷◌, ◌++◌, ◌≡◌, ◌∙◌, ap, false, rules, subst, sym, true}
use Rattle.std.specs.Prelude.{None, Some, map, option_map, string_bytes}
use Rattle.lang_core.specs.Text.{pieces}
use Rattle.lang_core.specs.Truncations.{truncations_left}
use Rattle.lang_core.specs.TruncationsCandidates.{candidates}
use Rattle.std.proofs.lemmas.List.{map-append}
use Rattle.list_core.specs.Fallbacks.{is_in, right_of, walk}
use Rattle.list_core.specs.inner.Fallbacks.{AreUnused, LeadsOn, chain_from}
use Rattle.list_core.specs.declared.fallbacks.Fallback.{Fallback}
use Rattle.list_core.proofs.FallbacksChainLemmas.{added, added_unused, again, is_in_map, leads}
use Rattle.list_core.proofs.fallbacks.Fallbacks.extend.Goals as goal

-- A text that was tried before is passed over, and the chain of what is left stays.
pub loop-tried-preserved-then-is_in : goal.loop-tried-preserved-then-is_in
loop-tried-preserved-then-is_in c = λ n unused u.
    let chain = c.loop-tried.chain.items in
    let tried = map (λ text. string_bytes text) chain in
    let inv = c.loop-tried.invariant n unused u in
    let old : is_in tried c.in-Some.tried.now ≡ true =
    sym (is_in_map (λ text. string_bytes text) chain c.in-Some.tried.now)
    ∙ (sym (rw c.deref.ensures.value at c.is_in.ensures) ∙ c.if-is_in.true) in (
      inv.0,
      inv.1
          ∙ (ap (λ x. chain_from tried (walk n unused x)) c.in-Some.ensures.steps
          ∙ again c.args.self.now tried n unused c.in-Some.tried.now _ inv.0 old),
    )

-- A new text with an element ends the walk: the chain goes on from the right side of that element.
pub returns-in-Some-right_of : goal.returns-in-Some-right_of
returns-in-Some-right_of c = λ n unused u.
    let chain = c.loop-tried.chain.items in
    let tried = map (λ text. string_bytes text) chain in
    let inv = c.loop-tried.invariant n unused u in
    let new : is_in tried c.in-Some.tried.now ≡ false =
    sym (is_in_map (λ text. string_bytes text) chain c.in-Some.tried.now)
    ∙ (sym (rw c.deref.ensures.value at c.is_in.ensures) ∙ c.if-is_in.false) in
    let more : map (λ text. string_bytes text) c.push.new.self.items
    ≡ tried ++ c.in-Some.tried.now ∷ [] =
    ap (map (λ text. string_bytes text)) c.in_ok-push.ensures.items
    ∙ (map-append (λ text. string_bytes text) chain (c.in_ok-from_str.field-0 ∷ [])
    ∙ ap (λ (x : List ℕ). tried ++ x ∷ []) c.in_ok-from_str.ensures.ok) in
    let some : right_of c.args.self.now c.in-Some.tried.now ≡ Some c.in-Some-right_of.right.now =
    sym c.right_of.ensures ∙ ap (option_map (λ right. right.now)) c.in-Some-right_of.is in
    subst
    (λ (x : List (List ℕ)). LeadsOn c.args.self.now
    (chain_from (map (λ text. string_bytes text) c.args.chain.now.items)
    (walk n unused (candidates (pieces c.args.text.now)))) n x c.in-Some-right_of.right.now)
    (sym more)
    (subst
    (λ (x : List (List ℕ)). LeadsOn c.args.self.now x n (tried ++ c.in-Some.tried.now ∷ [])
    c.in-Some-right_of.right.now)
    (sym (inv.1 ∙ ap (λ x. chain_from tried (walk n unused x)) c.in-Some.ensures.steps))
    (leads c.args.self.now tried n unused c.in-Some.tried.now c.in-Some-right_of.right.now _ inv.0
    new some))

-- A new text without an element is added, and the chain of what is left stays.
pub loop-tried-preserved : goal.loop-tried-preserved
loop-tried-preserved c = λ n unused u.
    let chain = c.loop-tried.chain.items in
    let tried = map (λ text. string_bytes text) chain in
    let inv = c.loop-tried.invariant n unused u in
    let new : is_in tried c.in-Some.tried.now ≡ false =
    sym (is_in_map (λ text. string_bytes text) chain c.in-Some.tried.now)
    ∙ (sym (rw c.deref.ensures.value at c.is_in.ensures) ∙ c.if-is_in.false) in
    let more : map (λ text. string_bytes text) c.push.new.self.items
    ≡ tried ++ c.in-Some.tried.now ∷ [] =
    ap (map (λ text. string_bytes text)) c.in_ok-push.ensures.items
    ∙ (map-append (λ text. string_bytes text) chain (c.in_ok-from_str.field-0 ∷ [])
    ∙ ap (λ (x : List ℕ). tried ++ x ∷ []) c.in_ok-from_str.ensures.ok) in
    let none : right_of c.args.self.now c.in-Some.tried.now ≡ None =
    sym c.right_of.ensures ∙ ap (option_map (λ right. right.now)) c.in-None-right_of.is in (
      subst (λ (x : List (List ℕ)). AreUnused c.args.self.now x n unused) (sym more)
          (added_unused c.args.self.now tried n unused c.in-Some.tried.now inv.0 none),
      inv.1
          ∙ (ap (λ x. chain_from tried (walk n unused x)) c.in-Some.ensures.steps
          ∙ (added c.args.self.now tried n unused c.in-Some.tried.now _ inv.0 new none
          ∙ ap (λ (x : List (List ℕ)). chain_from x
          (walk n unused (truncations_left c.next.new.self))) (sym more))),
    )
