use Rattle.std.proofs.Common.{refl}
use Rattle.command_core.specs.OutputStreams.{reads, streams, writes}
use Rattle.command_core.proofs.ProgramLemmas.{reported}
use Rattle.command_core.proofs.program.answer_words.Goals as goal

pub returns-in-Err : goal.returns-in-Err
returns-in-Err g c =
    let run = streams
    (reads g.R.Source.remaining g.R.Source.failed c.args.reader.now c.args.reader.now)
    (writes g.W.Sink.contents g.W.Sink.failed c.args.writer.now c.report.new.writer)
    (writes g.F.Sink.contents g.F.Sink.failed c.args.faults.now c.report.new.faults) in
    record {
      runs = record {
        app = c.in-Err.ensures.app;
        app_ok = c.in-Err.ensures.app_ok;
        done = reported _ _ c.in-Err.error run c.report.result refl c.in-Err.ensures.fails
            c.report.ensures.reports;
      };
    }
