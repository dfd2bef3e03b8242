use Rattle.std.proofs.Common.{◌∙◌, arith}
use Rattle.json_docs.proofs.Streams.{Consumes-rest}
use Rattle.json_docs.proofs.stream.sources.read_all.Goals as goal

-- what was read before, and what this read gave after it
pub loop-filled-preserved : goal.loop-filled-preserved
loop-filled-preserved g c =
    let inv = c.loop-filled.invariant in
    let front = c.read_after.ensures.front ∙ c.in_ok-make_room.ensures.front in
    record {
      room = omega arith;
      within = c.in-Ok.ensures.bound;
      given =
          Consumes-rest _ _ _ c.loop-filled.filled c.in-Ok.count _ _ inv.given front
          c.in-Ok.ensures.bytes.0;
      unfailed = rw inv.unfailed at c.in-Ok.ensures.failed;
    }
