use Rattle.std.proofs.Common.{◌≡◌, arith, length, subst, sym, take}
use Rattle.std.proofs.Math.Seq.{take-length}
use Rattle.cata_core.specs.Delta.{Stamps}
use Rattle.cell_core.specs.Entry.{EntryKey}
use Rattle.cell_core.specs.declared.stamp.Stamp.{Stamp}
use Rattle.site_docs.specs.inner.StampsDraft.{HoldsStamps}
use Rattle.catalogue.proofs.Basics.{there as some_at}
use Rattle.site_docs.proofs.DocumentsLemmas.{taken_more}
use Rattle.site_docs.proofs.document.writing.stamps_of.Goals as goal
use Rattle.site_docs.proofs.document.writing.stamps_of.Goals.{in-Some+in_ok-add, in_default}

-- the stamp at this place, which is there, was written after those before
pub loop-place-preserved : goal.loop-place-preserved
loop-place-preserved c =
    let owner = c.args.summary.now.owner in
    let stamps = c.args.summary.now.stamps in
    let place = c.loop-place.place in
    elim c.match-nth.branch [
      | in-Some+in_ok-add w ↦
          let t : EntryKey × Stamp = ((w.in-Some.id.now, w.in-Some.lang.now), w.in-Some.stamp) in
          rw w.draft-is
          (subst (λ (all : Stamps). HoldsStamps w.add.new.self owner all)
          (sym (taken_more stamps place t (sym w.in-Some.ensures)))
          (w.in_ok-add.ensures owner (take place stamps) c.loop-place.invariant))
      | in_default w ↦ absurd (some_at stamps place
          (rw c.len-place-end.ensures.len at c.loop-place-test.true) (sym w.in_default.ensures))
    ]

-- all stamps are written
pub returns-clause-rows : goal.returns-clause-rows
returns-clause-rows c =
    let all : c.loop-place.place ≡ length c.args.summary.now.stamps = omega arith in
    rw (all, take-length) at c.loop-place.invariant
