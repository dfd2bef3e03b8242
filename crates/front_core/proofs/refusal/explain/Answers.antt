use Rattle.std.proofs.Common.{◌∙◌, ap, length, refl, rules, sym}
use Rattle.std.specs.Prelude.{option_map}
use Rattle.std.proofs.lemmas.Option.{slice_get_past, slice_get_read}
use Rattle.front_core.specs.Refusal.{refusal_texts}
use Rattle.front_core.proofs.RefusalLemmas.{by_number}
use Rattle.front_core.proofs.refusal.explain.Goals as goal

pub returns-in-Some-clause-texts : goal.returns-in-Some-clause-texts
returns-in-Some-clause-texts c =
    let table = c.table.result.now in
    let it = c.in-Some.refusal.now in
    let read = slice_get_read table (length table) c.from.result it refl
    c.in-Some.ensures.lookup.3.0 (c.in-Some.ensures.lookup.3.1 it) in
    sym (by_number table c.args.number c.table.ensures.texts (search rules)
    ∙ ap (option_map refusal_texts) (rw c.from.ensures at read))

pub returns-in-None-clause-texts : goal.returns-in-None-clause-texts
returns-in-None-clause-texts c =
    let table = c.table.result.now in
    sym (by_number table c.args.number c.table.ensures.texts (search rules)
    ∙ ap (option_map refusal_texts)
    (rw c.from.ensures at (slice_get_past table c.from.result c.in-None.ensures.lookup.3)))
