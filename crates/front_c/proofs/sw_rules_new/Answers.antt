use Rattle.std.proofs.Common.{◌≡◌, inl, of_z, rules, to_z, w32}
use Rattle.front_c.proofs.sw_rules_new.Goals as goal

-- The rules have the text that was read.
pub returns-in-Ok : goal.returns-in-Ok
returns-in-Ok c =
    let same : to_z w32 (of_z w32 c.report_done.result) ≡ c.report_done.result = search rules in
    rw same (inl (c.in-Ok.ensures, c.report_done.ensures))
