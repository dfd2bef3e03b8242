use Rattle.std.proofs.Common.{◌≡◌, ◌≤◌, ◌∙◌, ap, subst, length, refl, arith, List, ℕ}
use Rattle.lang_core.specs.Text.{pieces}
use Rattle.lang_core.specs.Grammar.{AreAll}
use Rattle.lang_core.specs.Subtags.{subtags_left}
use Rattle.list_core.specs.inner.PackedTag.{is_packable}
use Rattle.list_core.proofs.PackedTagLemmas.{few_subtags, packable_tag, packed_room}
use Rattle.list_core.proofs.packed_tag.PackedTag.new.Goals as goal

pub loop-subtag-init : goal.loop-subtag-init
loop-subtag-init c =
    let left : subtags_left c.into_iter-subtag-iterator.result ≡ pieces c.args.tag.now =
    ap subtags_left c.into_iter-subtag-iterator.ensures.into_iter_gives
    ∙ c.subtags-subtag-items.ensures in (
      rw left
          (subst (λ (t : List ℕ). AreAll is_packable (pieces t)) c.as_str-bytes.ensures.text
          (packable_tag c.as_str-bytes.result.now c.as_str-bytes.ensures.tag.1)),
      rw (left, c.new-subtags.ensures) refl,
    )

pub push-requires : goal.push-requires
push-requires c =
    let few : length (pieces c.args.tag.now) ≤ 128 =
    few_subtags c.args.tag.now c.as_str-bytes.result.now c.as_str-bytes.ensures.text
    c.as_str-bytes.ensures.tag in
    let room =
    packed_room c.loop-subtag.subtags.items c.in-Some.subtag.now (subtags_left c.next.new.self)
    (pieces c.args.tag.now) (rw c.in-Some.ensures.steps at c.loop-subtag.invariant.1) few in
    (omega arith, omega arith)
