use Rattle.std.proofs.Common.{◌≡◌, arith, length, sym}
use Rattle.std.proofs.Math.Seq.{take-length}
use Rattle.cell_core.specs.Entry.{EntryKey}
use Rattle.cell_core.specs.declared.stamp.Stamp.{Stamp}
use Rattle.catalogue.proofs.Basics.{there as some_at}
use Rattle.summary_docs.proofs.WritingLemmas.{stamp_more}
use Rattle.summary_docs.proofs.writing.write_stamps.Goals as goal
use Rattle.summary_docs.proofs.writing.write_stamps.Goals.{in-Some+in_ok-write_stamped, in_default}

-- the stamp at this place, which is there, was written after those before
pub loop-place-preserved : goal.loop-place-preserved
loop-place-preserved c =
    let stamps = c.args.summary.now.stamps in
    let place = c.loop-place.place in
    elim c.match-nth.branch [
      | in-Some+in_ok-write_stamped w ↦
          let t : EntryKey × Stamp = ((w.in-Some.id.now, w.in-Some.lang.now), w.in-Some.stamp) in
          rw w.draft-is
          (stamp_more c.args.draft.now c.loop-place.draft w.write_stamped.new.out stamps place t
          (sym w.in-Some.ensures) c.loop-place.invariant w.in_ok-write_stamped.ensures.tokens
          w.in_ok-write_stamped.ensures.kept)
      | in_default w ↦ absurd (some_at stamps place
          (rw c.len-place-end.ensures.len at c.loop-place-test.true) (sym w.in_default.ensures))
    ]

-- all stamps are written
pub returns-clause-rows : goal.returns-clause-rows
returns-clause-rows c =
    let all : c.loop-place.place ≡ length c.args.summary.now.stamps = omega arith in
    (rw (all, take-length) at c.loop-place.invariant).0

-- and are kept
pub returns-clause-kept : goal.returns-clause-kept
returns-clause-kept c =
    let all : c.loop-place.place ≡ length c.args.summary.now.stamps = omega arith in
    record {
      each = (rw (all, take-length) at c.loop-place.invariant).1;
      map = c.len-place-end.ensures.sorted;
    }
