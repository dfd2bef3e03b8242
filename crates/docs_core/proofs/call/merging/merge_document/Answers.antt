use Rattle.std.proofs.Common.{◌<◌, ◌^◌, arith, length, subst, sym}
use Rattle.catalogue.specs.Entries.{Entries}
use Rattle.site_docs.proofs.ChecksRowsFit.{site_fits}
use Rattle.docs_core.proofs.call.merging.merge_document.Goals as goal

pub check_times-requires : goal.check_times-requires
check_times-requires c =
    let few = site_fits c.args.bytes.now c.in_ok-other.other c.in_ok-other.ensures in
    subst (λ (cells : Entries). length cells < 2 ^ 64) (sym c.catalogue.ensures) (omega
    (arith, few))

pub check_own-requires : goal.check_own-requires
check_own-requires c =
    let few = site_fits c.args.bytes.now c.in_ok-other.other c.in_ok-other.ensures in
    subst (λ (cells : Entries). length cells < 2 ^ 64) (sym c.catalogue-2.ensures) (omega
    (arith, few))
