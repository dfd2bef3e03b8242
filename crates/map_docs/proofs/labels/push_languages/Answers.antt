use Rattle.std.proofs.Common.{◌≡◌, ◌∙◌, ℕ, List, Some, ◌∷◌, ◌++◌, ap, sym, subst}
use Rattle.cell_core.specs.Keyed.{IsMap}
use Rattle.cell_core.specs.Entry.{key_cmp}
use Rattle.catalogue.specs.Entries.{IsAboveAll}
use Rattle.catalogue.specs.CatalogueFlat.{under}
use Rattle.map_docs.specs.inner.MembersRowsSeen.{Found, live}
use Rattle.map_docs.proofs.MapsLabelsLemmas.{above_front}
use Rattle.map_docs.proofs.labels.push_languages.Goals as goal

-- it is above those before it, since all ascend
pub push-requires : goal.push-requires
push-requires c =
    let next : c.loop-lang.lang-iterator
    ≡ (c.in-Some.lang, Some c.in-Some-label.label) ∷ c.next.new.self =
    c.in-Some.ensures.steps ∙ ap (λ o. (c.in-Some.lang, o) ∷ c.next.new.self) c.in-Some-label.is in
    let sorted =
    subst (λ (left : Found). IsMap key_cmp (c.loop-lang.maps ++ under c.args.id.now (live left)))
    next c.loop-lang.invariant.sorted in
    let id : c.in_ok-copy.field-0 ≡ c.args.id.now = c.in_ok-copy.ensures.equal in
    subst (λ (i : List ℕ). IsAboveAll (i, c.in-Some.lang) c.loop-lang.maps) (sym id)
    (above_front c.loop-lang.maps ((c.args.id.now, c.in-Some.lang), c.in-Some-label.label)
    (under c.args.id.now (live c.next.new.self)) sorted)
