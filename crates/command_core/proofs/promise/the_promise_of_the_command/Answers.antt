use Rattle.command_core.proofs.PromiseLemmas.{replayed}
use Rattle.command_core.proofs.promise.the_promise_of_the_command.Goals as goal

pub returns : goal.returns
returns c = λ _. record { replays = λ run done. replayed run done }
