use Rattle.catalogue.proofs.MessagesLemmas.{one_list_of_messages}
use Rattle.catalogue.proofs.laws.one_list_of_messages.Goals as goal

pub returns : goal.returns
returns c = one_list_of_messages
