use Rattle.std.proofs.Common.{rules, ◌++◌, take}
use Rattle.json_docs.proofs.Streams.{Appends-then, split_more}
use Rattle.json_docs.proofs.stream.sinks.write_out.Goals as goal

-- what the write took goes from the rest to the front
pub loop-rest-preserved : goal.loop-rest-preserved
loop-rest-preserved g c =
    let inv = c.loop-rest.invariant in (
      inv.0 ++ take c.in-Ok.count c.loop-rest.rest.now,
      split_more _ inv.0 c.loop-rest.rest.now c.in-Ok.count inv.1,
      Appends-then _ _ _ _ _ inv.2 c.in-Ok.ensures.bytes,
      search rules,
    )
