use Rattle.std.proofs.Common.{◌∙◌, ap, inr, refl, sym}
use Rattle.json_docs.specs.Numbers.{are_in_range}
use Rattle.json_docs.proofs.TextWholeLemmas.{numbers_refused}
use Rattle.json_docs.proofs.json_text.text.check_numbers.Goals as goal

pub returns-else-has_numbers_in_range : goal.returns-else-has_numbers_in_range
returns-else-has_numbers_in_range c =
    inr (
      refl,
      numbers_refused c.args.text.now
          (ap are_in_range (sym c.in-Ok.ensures.ok) ∙ sym c.if-has_numbers_in_range.ensures),
    )
