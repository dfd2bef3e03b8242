use Rattle.std.proofs.Common.{◌∙◌, ap, refl}
use Rattle.serde_json.specs.Find.{as_str}
use Rattle.json_docs.specs.Parts.{u64_in}
use Rattle.row_docs.proofs.CutsLemmas.{as_str-cut, subject_kept, u64_in-cut}
use Rattle.row_docs.proofs.header.read_subject.Goals as goal

pub returns : goal.returns
returns c =
    let found = c.in_ok-subject.ensures in
    let d = found.read.0 in
    let cut = found.read.2 in (
      d,
      record { read = found.read.1; left = found.left; shorter = found.shorter },
      (
        c.subject_of.result,
        subject_kept c.subject_of.result _ d (ap as_str cut.value ∙ as_str-cut 0 d)
            (ap u64_in cut.value ∙ u64_in-cut 0 d) c.subject_of.ensures,
        refl,
      ),
    )
