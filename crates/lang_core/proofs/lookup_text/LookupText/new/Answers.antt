use Rattle.std.proofs.Common.{◌≡◌, ◌∷◌, [], true, false, length, sym, ◌∙◌, ap, arith}
use Rattle.std.specs.List.{list_any}
use Rattle.lang_core.specs.Text.{pieces}
use Rattle.lang_core.specs.Grammar.{is_star}
use Rattle.lang_core.specs.Subtags.{subtags_left}
use Rattle.lang_core.proofs.LookupTextLemmas.{lookup_star, lookup_kept}
use Rattle.lang_core.proofs.LookupTextOther.{other_text, own_text}
use Rattle.lang_core.proofs.PiecesLemmas.{some_pieces}
use Rattle.lang_core.proofs.RangeStars.{star_only}
use Rattle.lang_core.proofs.lookup_text.LookupText.new.Goals as goal

pub unreachable-requires : goal.unreachable-requires
unreachable-requires c =
    let list : pieces c.args.range.now ≡ [] =
    sym c.new-subtags.ensures ∙ c.in-None.ensures.steps.0 in
    let size : length (pieces c.args.range.now) ≡ 0 = ap length list in
    let some = some_pieces c.args.range.now in
    omega arith

pub returns-then-is_star-clause-text : goal.returns-then-is_star-clause-text
returns-then-is_star-clause-text c =
    let list : pieces c.args.range.now ≡ c.in-Some.first.now ∷ subtags_left c.next.new.self =
    sym c.new-subtags.ensures ∙ c.in-Some.ensures.steps in
    let star : is_star c.in-Some.first.now ≡ true =
    ap is_star (sym c.as_bytes.ensures.value) ∙ (sym c.is_star.ensures ∙ c.if-is_star.true) in (
      sym (star_only c.in-Some.first.now star)
          ∙ lookup_star c.args.range.now c.in-Some.first.now (subtags_left c.next.new.self) list
          star,
      tt,
    )

pub returns-in_ok-text-in-Some-clause-text : goal.returns-in_ok-text-in-Some-clause-text
returns-in_ok-text-in-Some-clause-text c =
    let list : pieces c.args.range.now ≡ c.in-Some.first.now ∷ subtags_left c.next.new.self =
    sym c.new-subtags.ensures ∙ c.in-Some.ensures.steps in
    let kept : is_star c.in-Some.first.now ≡ false =
    ap is_star (sym c.as_bytes.ensures.value) ∙ (sym c.is_star.ensures ∙ c.if-is_star.false) in
    let some =
    ap (list_any is_star) (sym c.new.ensures)
    ∙ (sym c.has_star.ensures ∙ c.if-not-has_star.false) in (
      c.in_ok-text-in-Some.ensures
          ∙ lookup_kept c.args.range.now c.in-Some.first.now (subtags_left c.next.new.self) list
          kept,
      other_text c.args.range.now c.in-Some.first.now (subtags_left c.next.new.self) list kept
          some,
    )

pub returns-in_err-text-in-Some-clause-memory : goal.returns-in_err-text-in-Some-clause-memory
returns-in_err-text-in-Some-clause-memory c =
    let list : pieces c.args.range.now ≡ c.in-Some.first.now ∷ subtags_left c.next.new.self =
    sym c.new-subtags.ensures ∙ c.in-Some.ensures.steps in
    let first : is_star c.in-Some.first.now ≡ false =
    ap is_star (sym c.as_bytes.ensures.value) ∙ (sym c.is_star.ensures ∙ c.if-is_star.false) in
    let some =
    ap (list_any is_star) (sym c.new.ensures)
    ∙ (sym c.has_star.ensures ∙ c.if-not-has_star.false) in
    λ _. other_text c.args.range.now c.in-Some.first.now (subtags_left c.next.new.self) list first
    some

pub returns-then-not-has_star-clause-text : goal.returns-then-not-has_star-clause-text
returns-then-not-has_star-clause-text c = (
  own_text c.args.range.now
      (ap (list_any is_star) (sym c.new.ensures)
      ∙ (sym c.has_star.ensures ∙ c.if-not-has_star.true)),
  tt,
)
