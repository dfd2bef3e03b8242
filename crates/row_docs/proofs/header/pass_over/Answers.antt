use Rattle.std.proofs.Common.{refl}
use Rattle.json_docs.proofs.ObjectMembersLemmas.{skipped}
use Rattle.row_docs.proofs.header.pass_over.Goals as goal

pub returns-in-Ok : goal.returns-in-Ok
returns-in-Ok c =
    let there = skipped 126 c.args.reader.now c.skip_value.new.self c.requires c.in-Ok.ensures.value
    in
    (there.0, record { read = there.1; left = there.2; shorter = c.in-Ok.ensures.shorter }, refl)
