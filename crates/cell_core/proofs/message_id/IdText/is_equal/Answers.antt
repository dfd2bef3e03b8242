use Rattle.std.proofs.Common.{rules}
use Rattle.cell_core.proofs.message_id.IdText.is_equal.Goals as goal

pub returns : goal.returns
returns c = search rules
