use Rattle.std.proofs.Common.{◌∙◌, ap}
use Rattle.json_docs.specs.Parts.{u64_in}
use Rattle.row_docs.proofs.CutsLemmas.{u64_in-cut}
use Rattle.row_docs.proofs.header.read_version.Goals as goal

pub returns : goal.returns
returns c =
    let found = c.in_ok-version.ensures in
    let d = found.read.0 in
    let cut = found.read.2 in (
      d,
      record { read = found.read.1; left = found.left; shorter = found.shorter },
      ap (λ n. record c.args.header { version = n }) (c.u64_of.ensures
          ∙ (ap u64_in cut.value ∙ u64_in-cut 0 d)),
    )
