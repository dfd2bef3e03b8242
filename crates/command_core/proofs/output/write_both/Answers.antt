use Rattle.std.proofs.Common.{◌∙◌, ◌++◌, ap, append_assoc, sym}
use Rattle.json_docs.proofs.Streams.{Appends-then}
use Rattle.command_core.proofs.output.write_both.Goals as goal

pub returns-in_err-write_out-clause-front : goal.returns-in_err-write_out-clause-front
returns-in_err-write_out-clause-front g c =
    let part = c.write_out.ensures.err in
    let second = c.args.second.now in (
      part.0,
      part.1 ++ second,
      ap (λ t. t ++ second) (sym c.bytes.ensures ∙ part.2)
          ∙ append_assoc part.0 part.1 second,
      part.3,
    )

pub returns-clause-front : goal.returns-clause-front
returns-clause-front g c =
    let contents = g.W.Sink.contents in
    let part = c.write_out-2.ensures.err in
    let first = c.args.first.now in
    let one = c.in_ok-write_out.ensures.ok in
    let whole =
    Appends-then (contents c.args.writer.now) (contents c.write_out.new.writer)
    (contents c.write_out-2.new.writer) c.bytes.result.now part.0 one part.3 in (
      first ++ part.0,
      part.1,
      ap (λ t. first ++ t) (sym c.bytes-2.ensures ∙ part.2)
          ∙ sym (append_assoc first part.0 part.1),
      rw c.bytes.ensures at whole,
    )
