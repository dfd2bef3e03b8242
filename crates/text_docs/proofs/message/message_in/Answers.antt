use Rattle.std.proofs.Common.{refl}
use Rattle.text_docs.proofs.MessageLemmas.{answers_message}
use Rattle.text_docs.proofs.message.message_in.Goals as goal

-- the whole document is read
pub returns-in-None : goal.returns-in-None
returns-in-None c = λ site compact.
    answers_message c.args.text.now c.args.id.now site.cells site c.read_message.result
    compact.reads refl c.read_message.ensures
