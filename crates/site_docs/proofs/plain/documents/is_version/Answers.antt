use Rattle.std.proofs.Common.{ℕ, List, ◌++◌, ◌∙◌, ap, arith, sym}
use Rattle.std.proofs.lemmas.Fmt.{decimal_digit}
use Rattle.site_docs.proofs.plain.documents.is_version.Goals as goal

-- the digit is the number in decimal
pub returns-in-Some : goal.returns-in-Some
returns-in-Some c = λ is. (
  c.in-Some.rest.now,
  c.is_end.ensures is,
  c.in-Some.ensures
      ∙ ap (λ (digits : List ℕ). digits ++ c.in-Some.rest.now)
      (sym (decimal_digit 2 (omega arith))),
)
