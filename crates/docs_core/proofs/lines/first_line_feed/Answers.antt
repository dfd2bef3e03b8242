use Rattle.std.proofs.Common.{◌==◌}
use Rattle.docs_core.proofs.LinesFirstByteLemmas.{first_is_position}
use Rattle.docs_core.proofs.lines.first_line_feed.Goals as goal

pub returns : goal.returns
returns c = first_is_position (λ byte. byte == 10) c.args.input.now c.memchr.result c.memchr.ensures
