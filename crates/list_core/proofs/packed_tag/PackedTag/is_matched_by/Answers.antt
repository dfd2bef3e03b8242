use Rattle.std.proofs.Common.{◌≡◌, ◌∙◌, ap, subst, List, ℕ}
use Rattle.lang_core.specs.Text.{pieces}
use Rattle.lang_core.specs.Grammar.{AreAll}
use Rattle.list_core.specs.inner.PackedTag.{is_packable, all_packed, extended_packed}
use Rattle.list_core.proofs.PackedTagLemmas.{extended_packed_is, packable_range, packable_tag}
use Rattle.list_core.proofs.packed_tag.PackedTag.is_matched_by.Goals as goal

pub matches_packed-requires : goal.matches_packed-requires
matches_packed-requires c = packable_range _ c.subtags.ensures.range

pub returns : goal.returns
returns c =
    let tag : c.self.inside.tag.now ≡ c.args.self.now = c.self.view_is in
    let given : c.as_slice.result.now ≡ all_packed (pieces c.args.self.now) =
    c.as_slice.ensures.value
    ∙ (c.self.invariant.1 ∙ ap (λ (t : List ℕ). all_packed (pieces t)) tag) in
    extended_packed_is (pieces c.args.range.now) (pieces c.args.self.now) c.matches_packed.result
    (subst (AreAll is_packable) c.subtags.ensures.subtags
    (packable_range _ c.subtags.ensures.range))
    (subst (λ (t : List ℕ). AreAll is_packable (pieces t)) tag
    (packable_tag c.self.inside.tag.now c.self.invariant.0.1))
    (c.matches_packed.ensures
    ∙ (λ i. extended_packed (all_packed (c.subtags.ensures.subtags i)) (given i)))
