use Rattle.std.proofs.Common.{◌∙◌, List, ap, string_bytes, sym, ℕ}
use Rattle.std.proofs.lemmas.Option.{slice_get-map}
use Rattle.std.specs.Prelude.{Option, Some, option_map, slice_get}
use Rattle.cell_core.specs.Entry.{EntryKey}
use Rattle.cell_core.specs.Label.{texts_of}
use Rattle.summary_docs.specs.Shown.{KnownCell, ShownState, known_in}
use Rattle.summary_docs.proofs.ShownLemmas.{at_place, known-slice}
use Rattle.summary_docs.proofs.shown.ShownSummary.nth.Goals as goal

-- there is no stamp, so nothing is shown
pub returns-in_default : goal.returns-in_default
returns-in_default c =
    let ss = c.self.inside.summary.stamps in
    let ds = texts_of c.self.inside.digests.items in
    ap (option_map (at_place ds c.args.place)) c.in_default.ensures
    ∙ sym (known-slice ss ds c.args.place)
    ∙ ap (λ (s : ShownState). slice_get (known_in s) c.args.place) c.self.view_is

-- the stamp and the digest are those at the place
pub returns : goal.returns
returns c =
    let ss = c.self.inside.summary.stamps in
    let ds = texts_of c.self.inside.digests.items in
    let key : EntryKey = (c.in-Some.id.now, c.in-Some.lang.now) in
    ap (λ (d : Option (List ℕ)). let k : KnownCell =
    record { stamp = c.in-Some.stamp; digest = d } in Some (key, k))
    (c.digest_at-digest.ensures
    ∙ ap (λ items. option_map string_bytes (slice_get items c.args.place)) c.as_slice.ensures.value
    ∙ sym (slice_get-map string_bytes c.self.inside.digests.items c.args.place))
    ∙ ap (option_map (at_place ds c.args.place)) c.in-Some.ensures
    ∙ sym (known-slice ss ds c.args.place)
    ∙ ap (λ (s : ShownState). slice_get (known_in s) c.args.place) c.self.view_is
