use Rattle.std.proofs.Common.{◌≡◌, ◌∷◌, [], true, false, ◌∙◌, sym, ap, length, arith}
use Rattle.lang_core.specs.Text.{pieces, subtags}
use Rattle.lang_core.specs.inner.TagTable.{is_staged}
use Rattle.lang_core.specs.Subtags.{subtags_left}
use Rattle.std.proofs.lemmas.Slice.Eq.{bytes_eq-Decides}
use Rattle.lang_core.proofs.PartsLemmas.{unstaged, no_langtag, staged_langtag}
use Rattle.lang_core.proofs.PiecesLemmas.{some_pieces}
use Rattle.lang_core.proofs.parts.cut_language.Goals as goal

pub returns-then-not-is_staged : goal.returns-then-not-is_staged
returns-then-not-is_staged c =
    let staged : is_staged (subtags c.args.tag.now) ≡ false =
    ap (λ text. is_staged (subtags text)) (sym c.as_bytes.ensures.value)
    ∙ (sym c.is_staged.ensures ∙ c.if-not-is_staged.true) in
    unstaged c.args.tag.now c.requires staged

pub unreachable-requires : goal.unreachable-requires
unreachable-requires c =
    let list : pieces c.args.tag.now ≡ [] = sym c.new-subtags.ensures ∙ c.in-None.ensures.steps.0 in
    let size : length (pieces c.args.tag.now) ≡ 0 = ap length list in
    let some = some_pieces c.args.tag.now in
    omega arith

pub returns-then-eq : goal.returns-then-eq
returns-then-eq c =
    let list : pieces c.args.tag.now ≡ c.in-Some.first.now ∷ subtags_left c.next.new.self =
    sym c.new-subtags.ensures ∙ c.in-Some.ensures.steps in
    no_langtag (pieces c.args.tag.now) c.in-Some.first.now (subtags_left c.next.new.self) list
    ((bytes_eq-Decides _ _).0 (sym c.eq.ensures ∙ c.if-eq.true))

pub returns-else-eq : goal.returns-else-eq
returns-else-eq c =
    let list : pieces c.args.tag.now ≡ c.in-Some.first.now ∷ subtags_left c.next.new.self =
    sym c.new-subtags.ensures ∙ c.in-Some.ensures.steps in
    let staged : is_staged (subtags c.args.tag.now) ≡ true =
    ap (λ text. is_staged (subtags text)) (sym c.as_bytes.ensures.value)
    ∙ (sym c.is_staged.ensures ∙ c.if-not-is_staged.false) in (
      staged_langtag c.args.tag.now c.in-Some.first.now (subtags_left c.next.new.self) c.requires
          staged list
          (λ x. let e = (bytes_eq-Decides c.in-Some.first.now (120 ∷ [])).1 x in
          let n = c.eq.ensures in let f = c.if-eq.false in cc),
      list,
    )
