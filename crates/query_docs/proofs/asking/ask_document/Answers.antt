use Rattle.std.proofs.Common.{subst}
use Rattle.catalogue.specs.Entries.{Entries}
use Rattle.query_docs.specs.Asking.{Answers}
use Rattle.query_docs.proofs.OneMessageLemmas.{same_answers}
use Rattle.query_docs.proofs.asking.ask_document.Goals as goal

pub returns : goal.returns
returns c =
    let read = c.in_ok-site.ensures in
    let answer = c.in_ok-answer.answer in (
      read.0,
      read.1,
      same_answers c.in_ok-site.site.cells read.0.cells c.args.id.now c.args.ask.now answer.0
          answer.1 read.3
          (subst (λ (cells : Entries). Answers cells c.args.id.now c.args.ask.now answer.0 answer.1)
          c.catalogue.ensures c.in_ok-answer.ensures),
    )
