use Rattle.std.proofs.Common.{refl}
use Rattle.row_docs.specs.Kinds.{kind_text, subject_of}
use Rattle.site_docs.proofs.PlainLemmas.{members_taken}
use Rattle.site_docs.proofs.plain.documents.last_name.Goals as goal

pub returns-in-Ok-clause-text : goal.returns-in-Ok-clause-text
returns-in-Ok-clause-text c =
    let last = c.if-not-is_version.ensures refl in
    let kind = rw c.text.ensures at c.in_ok-rest-2.ensures in
    let subject = rw c.subject.ensures at c.in_ok-rest-3.ensures in (
      last.0,
      last.1,
      rw c.in-Ok.ensures.1
          (members_taken (kind_text c.args.kind) (subject_of c.args.kind) c.in_ok-name.name.now
          c.args.text.now c.in_ok-rest.rest.now c.in_ok-rest-2.rest.now c.in_ok-rest-3.rest.now
          c.in_ok-name.rest.now c.in_ok-rest-4.rest.now last.0 c.in_ok-rest.ensures kind subject
          c.in_ok-name.ensures c.in_ok-rest-4.ensures last.2),
    )
