use Rattle.std.proofs.Common.{◌∙◌, ap}
use Rattle.std.specs.Option.{option_copied}
use Rattle.docs_core.specs.Lines.{lines_of}
use Rattle.front_core.specs.Tags.{offered_tags}
use Rattle.front_core.proofs.TagPickLemmas.{found_by, found_within, picked_tag}
use Rattle.front_core.proofs.tag_pick.pick.Goals as goal

pub tag_at-requires : goal.tag_at-requires
tag_at-requires c =
    let asked = c.in_ok-asked.asked.preferences in
    rw c.deref-2.ensures.value
    (found_within asked.widening asked.list _ c.in_ok-offered.offered.langs.items
    c.deref.result.now (option_copied c.as_ref.result) c.lookup_by-found.result
    c.deref.ensures.value c.in_ok-offered.ensures.2
    (found_by asked.widening asked.list _ _ _ c.lookup_by-found.ensures))

-- The tag is picked among those that are offered.
pub returns : goal.returns
returns c =
    let asked = c.in_ok-asked.asked.preferences in
    let read = c.in_ok-asked.ensures in
    let offered = c.in_ok-offered.ensures in
    let names = offered.1 ∙ ap (λ items. offered_tags items (lines_of c.args.tags.now))
    c.offer.ensures in (
      offered.0,
      (
        c.in_ok-asked.asked.offer,
        read.0,
        rw (← names)
            (picked_tag asked.widening _ _ asked.list _ c.in_ok-offered.offered.langs.items
            c.deref.result.now asked.default (option_copied c.as_ref.result)
            c.lookup_by-found.result c.tag_at.result read.1.2 c.deref.ensures.value
            c.as_ref.ensures.value read.1.1 read.1.0 offered.2
            (found_by asked.widening asked.list _ _ _ c.lookup_by-found.ensures)
            (rw (← c.deref-2.ensures.value) c.tag_at.ensures)),
      ),
    )
