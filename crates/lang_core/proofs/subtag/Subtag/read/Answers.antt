use Rattle.std.proofs.Common.{arith, refl, ◌∙◌, ◌≡◌, true}
use Rattle.std.specs.Str.{str_to_ascii_lowercase}
use Rattle.lang_core.specs.Grammar.{is_private_piece}
use Rattle.lang_core.proofs.SubtagCaseLemmas.{letters-lower, digits-lower}
use Rattle.lang_core.proofs.SubtagClassSums.{sum_of_other, sum_of_alphanums, sum_of_letters}
use Rattle.lang_core.proofs.SubtagClassSums.{sum_of_digits}
use Rattle.lang_core.proofs.SubtagLemmas.{too_short, too_long, no_alphanum, alphanums_read}
use Rattle.lang_core.proofs.subtag.Subtag.read.Goals as goal
use Rattle.lang_core.proofs.subtag.Subtag.read.Goals.{then-is_empty-via-then-is_empty}
use Rattle.lang_core.proofs.subtag.Subtag.read.Goals.{then-is_empty-via-else-is_empty+then-text-gt8}

pub returns-then-is_empty : goal.returns-then-is_empty
returns-then-is_empty c = elim c.then-is_empty.branch [
  | then-is_empty-via-then-is_empty w ↦ too_short c.args.text.now (grind arith)
  | then-is_empty-via-else-is_empty+then-text-gt8 w ↦ too_long c.args.text.now (omega arith)
]

pub returns-then-sum-ge-OTHER : goal.returns-then-sum-ge-OTHER
returns-then-sum-ge-OTHER c =
    no_alphanum c.args.text.now
    (sum_of_other c.args.text.now _ (omega arith) c.class_sum-sum.ensures (omega arith))

pub invariant_of-result : goal.invariant_of-result
invariant_of-result c =
    let piece : is_private_piece (str_to_ascii_lowercase c.args.text.now) ≡ true =
    alphanums_read c.args.text.now (grind arith) (omega arith)
    (sum_of_alphanums c.args.text.now _ c.class_sum-sum.ensures (omega arith)) in (
      piece,
      sum_of_letters c.args.text.now _ c.class_sum-sum.ensures
          ∙ letters-lower c.args.text.now,
      sum_of_digits c.args.text.now _
          (c.from.ensures ∙ c.class_sum-sum.ensures) (omega (arith, c.from.ensures))
          ∙ digits-lower c.args.text.now,
    )

pub returns : goal.returns
returns c = (
  refl,
  alphanums_read c.args.text.now (grind arith) (omega arith)
      (sum_of_alphanums c.args.text.now _ c.class_sum-sum.ensures (omega arith)),
)
