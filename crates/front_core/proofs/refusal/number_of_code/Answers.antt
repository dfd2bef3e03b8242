use Rattle.front_core.proofs.RefusalLemmas.{by_word}
use Rattle.front_core.proofs.refusal.number_of_code.Goals as goal

pub returns-in-Some : goal.returns-in-Some
returns-in-Some c =
    by_word c.table.result.now c.args.code.now _ c.table.ensures.texts
    (rw c.in-Some.is at c.place_of.ensures.place)

pub returns-in-None : goal.returns-in-None
returns-in-None c =
    by_word c.table.result.now c.args.code.now _ c.table.ensures.texts
    (rw c.in-None.is at c.place_of.ensures.place)
