use Rattle.std.proofs.Common.{refl}
use Rattle.command_core.specs.OutputStreams.{reads, streams, writes}
use Rattle.command_core.proofs.TaskActsLemmas.{not_replayed, replayed}
use Rattle.command_core.proofs.task.replay.Goals as goal

pub returns-in-Ok : goal.returns-in-Ok
returns-in-Ok g c =
    let h = c.in-Ok.ensures.ok in
    let run = streams
    (reads g.R.Source.remaining g.R.Source.failed c.args.reader.now c.replay.new.reader)
    (writes g.W.Sink.contents g.W.Sink.failed c.args.writer.now c.replay.new.writer)
    (writes g.F.Sink.contents g.F.Sink.failed c.args.faults.now c.args.faults.now) in
    record { acts = replayed h.0 h.1 run h.2 h.3 h.4 h.5 refl }

pub returns-in-Err : goal.returns-in-Err
returns-in-Err g c =
    let run = streams
    (reads g.R.Source.remaining g.R.Source.failed c.args.reader.now c.replay.new.reader)
    (writes g.W.Sink.contents g.W.Sink.failed c.args.writer.now c.replay.new.writer)
    (writes g.F.Sink.contents g.F.Sink.failed c.args.faults.now c.refuse.new.faults) in
    record {
      acts =
          not_replayed c.in-Err.fault run c.refuse.result
          (rw (← c.from.ensures) c.refuse.ensures.status)
          (rw (← c.from.ensures) c.refuse.ensures.reported) c.in-Err.ensures.err;
    }
