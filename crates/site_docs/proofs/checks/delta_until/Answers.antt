use Rattle.std.proofs.Common.{◌<◌, ◌^◌, arith, length, subst, sym}
use Rattle.catalogue.specs.Entries.{Entries}
use Rattle.site_docs.proofs.ChecksRowsFit.{delta_fits}
use Rattle.site_docs.proofs.checks.delta_until.Goals as goal

pub check_times-requires : goal.check_times-requires
check_times-requires c =
    let few = delta_fits c.args.bytes.now c.in_ok-delta.delta c.in_ok-delta.ensures in
    subst (λ (cells : Entries). length cells < 2 ^ 64) (sym c.cells.ensures) (omega (arith, few))
