use Rattle.std.proofs.Common.{◌≡◌, ◌∙◌, List, ◌∷◌, ap, subst, sym}
use Rattle.cell_core.specs.Keyed.{IsMap}
use Rattle.cell_core.specs.Entry.{EntryKey, key_cmp}
use Rattle.map_docs.specs.Maps.{Labelled}
use Rattle.docs_core.specs.inner.Revised.{IsFirstRevised}
use Rattle.docs_core.proofs.UpdatingLemmas.{first_added, first_kept, first_removed}
use Rattle.docs_core.proofs.call.revised.first_revised.Goals as goal
use Rattle.docs_core.proofs.call.revised.first_revised.Goals.{in-Equal, in-Greater, in-Less}

-- It is the least key of both lists: the lesser of their first ones, which is removed or added, or
-- the one that both begin with.
pub returns-after-compare-clause-first : goal.returns-after-compare-clause-first
returns-after-compare-clause-first c =
    let left = c.in-Some-Some.left.now in
    let right = c.in-Some-Some.right.now in
    let olds = c.in-Some-Some.olds.now in
    let news = c.in-Some-Some.news.now in
    let was : EntryKey = left.0 in
    let is : EntryKey = right.0 in
    let keyed : is ≡ (c.id.result.now, c.lang.result.now) =
    λ j. (sym c.id.ensures j, sym c.lang.ensures j) in
    let old_is : c.args.old.now ≡ left ∷ olds = c.in-Some-Some.ensures.cases.0 in
    let new_is : c.args.new.now ≡ right ∷ news = c.in-Some-Some.ensures'.cases.0 in
    let m = subst (λ (ls : List Labelled). IsMap key_cmp ls) old_is c.requires.old in
    let n = subst (λ (ls : List Labelled). IsMap key_cmp ls) new_is c.requires.new in
    rw (old_is, new_is)
    (elim c.match-compare.branch as (λ _.
    IsFirstRevised c.match-compare.result.0 (left ∷ olds)
    (right ∷ news) c.match-compare.result.1.now
    c.match-compare.result.2.now) [
      | in-Less w ↦
          rw (w.result-is, new_is)
          (first_removed w.removed-in-Less.result was is olds news
          left.1 right.1 w.removed-in-Less.ensures.key w.removed-in-Less.ensures.old
          w.removed-in-Less.ensures.new
          (ap (key_cmp was) keyed ∙ sym w.in-Less.ensures) m n)
      | in-Greater w ↦
          rw (w.result-is, old_is)
          (first_added w.added-in-Greater.result was is olds news left.1
          right.1 w.added-in-Greater.ensures.key w.added-in-Greater.ensures.old
          w.added-in-Greater.ensures.new
          (ap (key_cmp was) keyed ∙ sym w.in-Greater.ensures) m n)
      | in-Equal w ↦
          rw w.result-is
          (first_kept w.kept.result was is olds news left.1 right.1
          w.kept.ensures.key w.kept.ensures.old w.kept.ensures.new (ap (key_cmp was) keyed ∙ sym
          w.in-Equal.ensures) m n)
    ])
