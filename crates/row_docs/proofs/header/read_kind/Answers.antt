use Rattle.std.proofs.Common.{◌∙◌, ap}
use Rattle.serde_json.specs.Find.{as_str}
use Rattle.row_docs.specs.inner.HeaderSeen.{is_text}
use Rattle.row_docs.specs.Kinds.{kind_text}
use Rattle.row_docs.proofs.CutsLemmas.{as_str-cut}
use Rattle.row_docs.proofs.header.read_kind.Goals as goal

pub returns : goal.returns
returns c =
    let found = c.in_ok-kept.ensures in
    let d = found.read.0 in
    let cut = found.read.2 in (
      d,
      record { read = found.read.1; left = found.left; shorter = found.shorter },
      ap (λ b. record c.args.header { is_kind = b }) (c.is_kind.ensures
          ∙ ap (is_text (kind_text c.args.kind)) (ap as_str cut.value ∙ as_str-cut 0 d)),
    )
