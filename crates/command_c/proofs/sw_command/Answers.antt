use Rattle.std.proofs.Common.{rules}
use Rattle.std.specs.Prelude.{unwrap_or}
use Rattle.command_c.specs.Answer.{out_of_memory}
use Rattle.command_c.specs.inner.Answer.{is_read}
use Rattle.command_c.proofs.sw_command.Goals as goal

pub returns : goal.returns
returns c =
    let reported = c.report.ensures in (
      unwrap_or c.answer_to.result.ended out_of_memory,
      is_read c.answer_to.result.reading,
      c.answer_to.ensures,
      (reported.0, reported.1, reported.2, search rules),
    )
