use Rattle.std.proofs.Common.{inr}
use Rattle.serde_json.specs.Data.{object}
use Rattle.json_docs.proofs.ObjectMembersLemmas.{both_weaker}
use Rattle.row_docs.proofs.TestedHeaderLemmas.{has_header, header_fails}
use Rattle.row_docs.proofs.tested_header.read_as.Goals as goal

-- The text is an object, whose members the header shows: where the header passes they pass, and
-- where it fails they fail the same test first.
pub returns-in-Some : goal.returns-in-Some
returns-in-Some g c =
    let e = rw c.in-Some.is at c.in_ok-header.ensures in
    let ms = e.0 in
    both_weaker c.test_header.result _ _ _ _ c.test_header.ensures
    (λ tested passes. (
      object ms,
      e.1,
      has_header c.args.wanted.now.kind (g.R.Rows.Checks c.args.wanted.now.version)
          (g.R.Rows.Holds c.args.wanted.now.start.now c.args.wanted.now.version) c.in-Some.header
          c.read_object.new.rows ms e.2 tested passes,
    ))
    (λ cause fails. inr (inr (
      object ms,
      e.1,
      header_fails c.args.wanted.now.kind
          (g.R.Rows.Checks c.args.wanted.now.version)
          (g.R.Rows.Holds c.args.wanted.now.start.now c.args.wanted.now.version)
          c.in-Some.header c.read_object.new.rows ms e.2 cause fails,
    )))
