use Rattle.std.proofs.Common.{subst, ◌+◌, ◌≤◌, get_or, take}
use Rattle.cell_core.specs.inner.InterleaveMissing.{IsCommonJoined}
use Rattle.cell_core.specs.inner.KeyedPlaces.{place_of}
use Rattle.cell_core.proofs.Basics.{on_err_always}
use Rattle.cell_core.proofs.KeyedWalkLemmas.{on_after_place, on_after_gap}
use Rattle.cell_core.proofs.PairsCommonLemmas.{may_join, stopped_between, stopped_in_join}
use Rattle.cell_core.proofs.PairsCommonLemmas.{common_one_more, missing_one_more}
use Rattle.cell_core.proofs.pairs.join_common.Goals as goal
use Rattle.cell_core.proofs.pairs.join_common.Goals.{in-Ok+in_ok-join-in-Ok}
use Rattle.cell_core.proofs.pairs.join_common.Goals.{in-Err+in_ok-copy-in-Err+in_ok-copy-in-Err-2+in_ok-push_in_room-in-Err}

pub join-requires : goal.join-requires
join-requires g c =
    may_join g.met.K.Ord.total g.met.J.Join.laws c.args.mine.now c.args.theirs.now c.requires.mine
    c.requires.theirs c.requires.agree c.loop-key.mine c.loop-key.key-index
    c.loop-key.missing.items c.loop-key.invariant.common
    c.loop-key-item.result.0 c.loop-key-item.result.1 c.loop-key-test.true c.loop-key-item.is
    c.in-Ok.place c.index-mine-place.result c.in-Ok.ensures.found

pub returns-in_err-join-in-Ok-clause-err : goal.returns-in_err-join-in-Ok-clause-err
returns-in_err-join-in-Ok-clause-err g c =
    on_err_always c.from_residual.result
    (stopped_in_join g.met.K.Ord.total g.met.J.Join.laws c.args.mine.now c.args.theirs.now
    c.requires.mine c.requires.theirs c.requires.agree c.loop-key.mine c.loop-key.key-index
    c.loop-key.missing.items c.loop-key.invariant.common
    c.loop-key-item.result.0 c.loop-key-item.result.1 c.loop-key-test.true c.loop-key-item.is
    c.in-Ok.place c.index-mine-place.result c.in-Ok.ensures.found c.join.new.self
    c.in_err-join-in-Ok.ensures.err)

pub returns-in_err-copy-in-Err-clause-err : goal.returns-in_err-copy-in-Err-clause-err
returns-in_err-copy-in-Err-clause-err g c =
    on_err_always c.from_residual-in_err-copy-in-Err.result
    (stopped_between g.met.K.Ord.total g.met.J.Join.laws c.args.mine.now c.args.theirs.now
    c.requires.mine c.requires.theirs c.requires.agree c.loop-key.mine c.loop-key.key-index
    c.loop-key.missing.items c.loop-key.invariant.common)

pub returns-in_err-copy-in-Err-2-clause-err : goal.returns-in_err-copy-in-Err-2-clause-err
returns-in_err-copy-in-Err-2-clause-err g c =
    on_err_always _
    (stopped_between g.met.K.Ord.total g.met.J.Join.laws c.args.mine.now c.args.theirs.now
    c.requires.mine c.requires.theirs c.requires.agree c.loop-key.mine c.loop-key.key-index
    c.loop-key.missing.items c.loop-key.invariant.common)

pub returns-in_err-push_in_room-in-Err-clause-err :
    goal.returns-in_err-push_in_room-in-Err-clause-err
returns-in_err-push_in_room-in-Err-clause-err g c =
    on_err_always _
    (stopped_between g.met.K.Ord.total g.met.J.Join.laws c.args.mine.now c.args.theirs.now
    c.requires.mine c.requires.theirs c.requires.agree c.loop-key.mine c.loop-key.key-index
    c.loop-key.missing.items c.loop-key.invariant.common)

-- The values of the common keys read are joined, and the missing ones noted: this key's is joined
-- at its place or noted. The place reached is not after that of the next key.
pub loop-key-preserved : goal.loop-key-preserved
loop-key-preserved g c =
    let cmp = g.K.Ord.cmp in
    let total = g.met.K.Ord.total in
    let old = c.args.mine.now in
    let theirs = c.args.theirs.now in
    let now = c.loop-key.mine in
    let i = c.loop-key.key-index in
    let k = c.loop-key-item.result.0 in
    let v = c.loop-key-item.result.1 in
    record {
      common =
          elim c.match-seek.branch as
          (λ _. IsCommonJoined cmp g.J.Join.joined old (take (i + 1) theirs) c.match-seek.mine
          c.match-seek.missing.items) [
            | in-Ok+in_ok-join-in-Ok w ↦
                rw (w.mine-is, w.missing-is)
                (common_one_more total g.met.J.Join.laws old theirs c.requires.mine
                c.requires.theirs
                c.requires.agree now i c.loop-key.missing.items c.loop-key.invariant.common
                k v c.loop-key-test.true c.loop-key-item.is w.in-Ok.place w.index-mine-place.result
                w.in-Ok.ensures.found w.join.new.self w.in_ok-join-in-Ok.ensures.ok)
            | in-Err+in_ok-copy-in-Err+in_ok-copy-in-Err-2+in_ok-push_in_room-in-Err w ↦
                rw (w.mine-is, w.missing-is, w.in_ok-push_in_room-in-Err.ensures)
                (missing_one_more total g.met.J.Join.laws old theirs c.requires.mine
                c.requires.theirs
                c.requires.agree now i c.loop-key.missing.items c.loop-key.invariant.common
                k v c.loop-key-test.true c.loop-key-item.is w.in-Err.place
                w.in_ok-copy-in-Err.field-0
                w.in_ok-copy-in-Err-2.field-0 w.in-Err.ensures.absent w.in_ok-copy-in-Err.ensures
                w.in_ok-copy-in-Err-2.ensures)
          ];
      next =
          λ d lt. elim c.match-seek.branch as
          (λ _. let f = get_or theirs (i + 1) d in c.match-seek.at ≤ place_of cmp f.0 old) [
            | in-Ok+in_ok-join-in-Ok w ↦
                rw w.at-is
                (let f = get_or theirs (i + 1) d in
                subst (λ n. w.in-Ok.place + 1 ≤ n) (c.loop-key.invariant.common.same f.0)
                (on_after_place cmp total theirs now i w.in-Ok.place k v d c.requires.theirs
                c.loop-key.invariant.common.map c.loop-key-item.is w.in-Ok.ensures.found lt))
            | in-Err+in_ok-copy-in-Err+in_ok-copy-in-Err-2+in_ok-push_in_room-in-Err w ↦
                rw w.at-is
                (let f = get_or theirs (i + 1) d in
                subst (λ n. w.in-Err.place ≤ n) (c.loop-key.invariant.common.same f.0)
                (on_after_gap cmp total theirs now i w.in-Err.place k v d c.requires.theirs
                c.loop-key-item.is w.in-Err.ensures.absent lt))
          ];
    }
