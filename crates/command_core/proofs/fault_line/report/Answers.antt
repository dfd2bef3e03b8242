use Rattle.std.proofs.Common.{rules}
use Rattle.command_core.specs.OutputStreams.{writes}
use Rattle.command_core.proofs.FaultLineLemmas.{printed, reported}
use Rattle.command_core.proofs.fault_line.report.Goals as goal

pub returns-then-not-failed : goal.returns-then-not-failed
returns-then-not-failed g c =
    let sink =
    writes g.S.Sink.contents g.S.Sink.failed c.args.faults.now c.write_out.new.writer in
    let prints = printed c.as_bytes.result.now sink c.write_out.result c.write_out.ensures.ok
    c.write_out.ensures.err c.write_out.ensures.failed in
    reported c.args.number (g.T.Display.output c.args.text.now) c.args.row c.args.document sink
    c.as_str.result.now (search rules)
    (c.as_str.ensures.len, rw c.as_str.ensures.value c.of-text.ensures.text)
    (rw (
      ← c.line_of-line.ensures,
      ← c.as_str-then-not-failed.ensures.value,
      ←
          c.as_bytes.ensures.value,
    ) prints)
