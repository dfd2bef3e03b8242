use Rattle.std.proofs.Common.{sym, ◌∙◌, subst, Some, true≢false, ◌+◌, ◌≤◌, get_or}
use Rattle.std.specs.FinMap.Entries.{find}
use Rattle.cell_core.specs.Keyed.{AgreeIfBoth}
use Rattle.cell_core.specs.inner.KeyedPlaces.{place_of}
use Rattle.cell_core.proofs.KeyedPlacesLemmas.{agree_one_more, find_entry, find_at_place}
use Rattle.cell_core.proofs.KeyedWalkLemmas.{on_after_place, on_after_gap}
use Rattle.cell_core.proofs.pairs.agree_pairs.Goals as goal
use Rattle.cell_core.proofs.pairs.agree_pairs.Goals.{in-Ok+else-not-agrees, in-Err}

-- The values at one key of both do not agree, so the maps do not.
pub returns-then-not-agrees : goal.returns-then-not-agrees
returns-then-not-agrees g c =
    let cmp = g.K.Ord.cmp in
    let agree = g.J.Join.agree in
    let mine = c.args.mine.now in
    let theirs = c.args.theirs.now in
    let k = c.loop-key-item.result.0 in
    let v = c.loop-key-item.result.1 in
    let e = c.index-theirs-place.result in
    let there = find_at_place k theirs c.in-Ok.place e c.in-Ok.ensures.found in
    let here =
    find_entry cmp g.met.K.Ord.total mine c.loop-key.key-index k v c.requires.mine
    c.loop-key-test.true c.loop-key-item.is in (
      λ no. absurd (true≢false (sym no)),
      λ h. absurd (true≢false (sym (c.agrees.ensures.1
          (subst (λ o. AgreeIfBoth agree o (let f = get_or theirs c.in-Ok.place e in Some f.1)) here
          (subst (AgreeIfBoth agree (find cmp k mine)) there (h k)))) ∙ c.if-not-agrees.true)),
    )

-- The entries before this one agree with theirs: this key's values agree, or they have not the key.
-- The place reached there is not after that of the next key.
pub loop-key-preserved : goal.loop-key-preserved
loop-key-preserved g c =
    let cmp = g.K.Ord.cmp in
    let total = g.met.K.Ord.total in
    let agree = g.J.Join.agree in
    let mine = c.args.mine.now in
    let theirs = c.args.theirs.now in
    let i = c.loop-key.key-index in
    let k = c.loop-key-item.result.0 in
    let v = c.loop-key-item.result.1 in
    record {
      agree =
          agree_one_more total agree mine theirs i k v c.requires.mine c.loop-key-test.true
          c.loop-key-item.is
          (elim c.match-seek.branch as (λ _. AgreeIfBoth agree (Some v) (find cmp k theirs)) [
            | in-Ok+else-not-agrees w ↦
                let e = w.index-theirs-place.result in
                let there = find_at_place k theirs w.in-Ok.place e w.in-Ok.ensures.found in
                subst (AgreeIfBoth agree (Some v)) (sym there)
                (w.agrees.ensures.0 w.if-not-agrees.false)
            | in-Err w ↦ subst (AgreeIfBoth agree (Some v)) (sym w.in-Err.ensures.absent.absent) tt
          ])
          c.loop-key.invariant.agree;
      next =
          λ d lt. elim c.match-seek.branch as
          (λ _. let f = get_or mine (i + 1) d in c.match-seek.at ≤ place_of cmp f.0 theirs) [
            | in-Ok+else-not-agrees w ↦
                rw w.at-is
                (on_after_place cmp total mine theirs i w.in-Ok.place k v d c.requires.mine
                c.requires.theirs c.loop-key-item.is w.in-Ok.ensures.found lt)
            | in-Err w ↦
                rw w.at-is
                (on_after_gap cmp total mine theirs i w.in-Err.place k v d c.requires.mine
                c.loop-key-item.is w.in-Err.ensures.absent lt)
          ];
    }
