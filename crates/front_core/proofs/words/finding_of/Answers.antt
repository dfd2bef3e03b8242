use Rattle.std.specs.Option.{option_copied}
use Rattle.front_core.proofs.TagPickLemmas.{found_by, found_default, found_lang, found_nothing}
use Rattle.front_core.proofs.words.finding_of.Goals as goal

pub returns-in-Matched : goal.returns-in-Matched
returns-in-Matched c =
    let asked = c.args.asked.now in
    found_lang asked.widening asked.list c.args.langs.items c.as_slice.result.now c.in-Matched.place
    c.swap_remove.result c.as_slice.ensures.value
    (found_by asked.widening asked.list _ _ _ c.in-Matched.ensures) c.swap_remove.ensures.value

pub returns-in-Default : goal.returns-in-Default
returns-in-Default c =
    let asked = c.args.asked.now in
    found_default asked.widening asked.list c.args.langs.items c.as_slice.result.now
    (option_copied c.as_ref.result) asked.default c.in-Default.place
    c.swap_remove-in-Default.result c.as_slice.ensures.value c.as_ref.ensures.value
    (found_by asked.widening asked.list _ _ _ c.in-Default.ensures)
    c.swap_remove-in-Default.ensures.value

pub returns : goal.returns
returns c =
    let asked = c.args.asked.now in
    found_nothing asked.widening asked.list c.args.langs.items c.as_slice.result.now
    (option_copied c.as_ref.result) asked.default c.as_slice.ensures.value
    c.as_ref.ensures.value (found_by asked.widening asked.list _ _ _ c.in-Nothing.ensures)
