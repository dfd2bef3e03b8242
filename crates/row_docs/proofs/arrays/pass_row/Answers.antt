use Rattle.std.proofs.Common.{refl}
use Rattle.json_docs.proofs.ObjectMembersLemmas.{not_skipped, skipped}
use Rattle.row_docs.proofs.arrays.pass_row.Goals as goal

pub returns-in-Ok-clause-read : goal.returns-in-Ok-clause-read
returns-in-Ok-clause-read c =
    let there = skipped c.args.depth c.args.reader.now c.skip_value.new.self c.requires
    c.in-Ok.ensures.value in
    (there.0, there.1, refl)

pub returns-in-Ok-clause-left : goal.returns-in-Ok-clause-left
returns-in-Ok-clause-left c =
    let there = skipped c.args.depth c.args.reader.now c.skip_value.new.self c.requires
    c.in-Ok.ensures.value in there.2

pub returns-in-Err-clause-read : goal.returns-in-Err-clause-read
returns-in-Err-clause-read c =
    (refl, not_skipped c.args.depth c.args.reader.now c.in-Err.ensures.value)
