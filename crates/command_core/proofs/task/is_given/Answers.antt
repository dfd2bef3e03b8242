use Rattle.std.proofs.Common.{ap, ◌∙◌}
use Rattle.command_core.specs.TaskFieldWords.{is_given}
use Rattle.command_core.proofs.task.is_given.Goals as goal

pub returns : goal.returns
returns c = c.is_true.ensures ∙ ap is_given c.text_of.ensures
