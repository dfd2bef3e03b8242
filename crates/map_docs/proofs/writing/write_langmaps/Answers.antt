use Rattle.std.proofs.Common.{◌≡◌, ◌∙◌, ◌+◌, List, ◌∷◌, ap, drop, subst, sym}
use Rattle.std.specs.Prelude.{option_map}
use Rattle.map_docs.specs.Maps.{Labelled}
use Rattle.map_docs.specs.WritingMaps.{IsWriting}
use Rattle.list_core.proofs.Basics.{element_at as first_left}
use Rattle.map_docs.proofs.WritingLemmas.{open_id, writing_next}
use Rattle.map_docs.proofs.writing.write_langmaps.Goals as goal

-- one label more is written
pub loop-label-preserved : goal.loop-label-preserved
loop-label-preserved c =
    let items = c.labels-label-items.result.now in
    let k = c.loop-label.label-index in
    let item = c.label-item.result in
    let e : Labelled = ((c.id-id.result.now, c.lang.result.now), c.value.result.now) in
    let same : item ≡ e =
    λ j. ((sym c.id-id.ensures j, sym c.lang.ensures j), sym c.value.ensures j) in
    let inv = c.loop-label.invariant in
    let current = option_map (λ id. id.now) c.loop-label.current in
    let opened = c.in_ok-open_message.ensures in
    let wrote = c.in_ok-write_label.ensures in
    let id = open_id c.in_ok-open_message.field-0 current e.0.0 opened.id opened.same inv.1 in
    let next =
    first_left items k item c.loop-label-test.true c.label-item.is
    ∙ ap (λ (l : Labelled). l ∷ drop (k + 1) items) same in (
      writing_next c.loop-label.draft c.open_message.new.out c.write_label.new.out current e
          (drop (k + 1) items) items
          (subst (λ (left : List Labelled). IsWriting c.loop-label.draft current left
          items) next inv.0)
          opened.tokens wrote.tokens
          (record { id = id; language = wrote.lang; label = wrote.label }),
      id,
    )
