use Rattle.std.proofs.Common.{inl, refl}
use Rattle.std.proofs.lemmas.Result.{err_from_is_err_and}
use Rattle.row_docs.specs.Reading.{no_memory}
use Rattle.front_core.proofs.WrittenLemmas.{same_lookup}
use Rattle.front_core.proofs.ask.LookupQuestion.answer.Goals as goal

-- the part that was read has the live labels of the site
pub returns-in_ok-answer-in-Document : goal.returns-in_ok-answer-in-Document
returns-in_ok-answer-in-Document c =
    let read = c.in_ok-site-in-Document.ensures in
    rw c.in-Document.is (
      read.0,
      read.1,
      same_lookup c.in_ok-site-in-Document.site.cells read.0.cells c.args.self.now _ read.3
          c.in_ok-answer-in-Document.ensures,
    )

pub returns-in_err-answer-in-Document : goal.returns-in_err-answer-in-Document
returns-in_err-answer-in-Document c =
    let p = err_from_is_err_and c.from_residual-in_err-answer-in-Document.result
    c.from_residual-in_err-answer-in-Document.ensures.1 in
    rw (c.in-Document.is, p.1) (no_memory, inl refl, p.2)
