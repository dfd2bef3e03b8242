use Rattle.std.proofs.Common.{◌∙◌, ◌≡◌, ◌∷◌, List, ℕ, ap, subst, true}
use Rattle.text_docs.specs.inner.Row.{is_simple}
use Rattle.text_docs.specs.RowStrings.{IsString}
use Rattle.text_docs.proofs.IdOrderLemmas.{nothing_written, plain_front, read_after}
use Rattle.text_docs.proofs.id_order.unescaped.Goals as goal

-- nothing is written for an empty text
pub returns-in_default-clause-is : goal.returns-in_default-clause-is
returns-in_default-clause-is c = λ text is simple.
    nothing_written text (subst (λ (bs : List ℕ). IsString bs text) c.in_default.ensures is)

-- the first byte is written as it is
pub returns-then-first-ne92-clause-is : goal.returns-then-first-ne92-clause-is
returns-then-first-ne92-clause-is c = λ text is simple.
    plain_front text c.in-Some.rest.now c.in-Some.first
    (subst (λ (bs : List ℕ). IsString bs text) c.in-Some.ensures is)
    (subst (λ (bs : List ℕ). is_simple bs ≡ true) c.in-Some.ensures simple)
    c.if-first-ne92.true

-- the first byte is written after a backslash, which is not written last
pub returns-clause-is : goal.returns-clause-is
returns-clause-is c = λ text is simple.
    let rest = c.in-Some.rest.now in
    let backslash = c.in-Some.ensures ∙ ap (λ b. b ∷ rest) c.if-first-ne92.false in
    read_after text rest c.split-2.result
    (subst (λ (bs : List ℕ). IsString bs text) backslash is)
    (subst (λ (bs : List ℕ). is_simple bs ≡ true) backslash simple) c.split-2.ensures
