use Rattle.std.proofs.Common.{◌∙◌}
use Rattle.json_docs.proofs.ObjectMembersLemmas.{ok_weaker}
use Rattle.row_docs.proofs.HeadersLemmas.{Shows-kind, Shows-other, Shows-rows, Shows-subject}
use Rattle.row_docs.proofs.HeadersLemmas.{Shows-version}
use Rattle.row_docs.proofs.header.read_member.Goals as goal

pub returns-in-Kind : goal.returns-in-Kind
returns-in-Kind g c =
    ok_weaker c.read_kind.result _ _ _ c.read_kind.ensures
    (λ next read. (
      read.0,
      read.1,
      λ name ms is shown. rw read.2
          (Shows-kind c.args.wanted.now.kind (g.R.Rows.Checks c.args.wanted.now.version)
          (g.R.Rows.Holds c.args.wanted.now.start.now c.args.wanted.now.version) c.args.header
          c.args.rows.now name read.0 ms shown
          (is ∙ c.in-Kind.is)),
    ))

pub returns-in-Version : goal.returns-in-Version
returns-in-Version g c =
    ok_weaker c.read_version.result _ _ _ c.read_version.ensures
    (λ next read. (
      read.0,
      read.1,
      λ name ms is shown. rw read.2
          (Shows-version c.args.wanted.now.kind (g.R.Rows.Checks c.args.wanted.now.version)
          (g.R.Rows.Holds c.args.wanted.now.start.now c.args.wanted.now.version) c.args.header
          c.args.rows.now name read.0 ms shown
          (is ∙ c.in-Version.is)),
    ))

pub returns-in-Subject : goal.returns-in-Subject
returns-in-Subject g c =
    ok_weaker c.read_subject.result _ _ _ c.read_subject.ensures
    (λ next read. (
      read.0,
      read.1,
      λ name ms is shown. rw read.2.2
          (Shows-subject c.args.wanted.now.kind (g.R.Rows.Checks c.args.wanted.now.version)
          (g.R.Rows.Holds c.args.wanted.now.start.now c.args.wanted.now.version) c.args.header
          c.args.rows.now name read.0 ms shown
          read.2.0 read.2.1 (is ∙ c.in-Subject.is)),
    ))

pub returns-in-Rows : goal.returns-in-Rows
returns-in-Rows g c =
    ok_weaker c.read_array.result _ _ _ c.read_array.ensures
    (λ next read. (
      read.0,
      read.1,
      λ name ms is shown. rw read.2.2
          (Shows-rows c.args.wanted.now.kind (g.R.Rows.Checks c.args.wanted.now.version)
          (g.R.Rows.Holds c.args.wanted.now.start.now c.args.wanted.now.version) c.args.header
          c.args.rows.now name read.0 ms shown
          c.read_array.new.rows read.2.0 read.2.1 (is ∙ c.in-Rows.is)),
    ))

pub returns-in-Other : goal.returns-in-Other
returns-in-Other g c =
    ok_weaker c.pass_over.result _ _ _ c.pass_over.ensures
    (λ next read. (
      read.0,
      read.1,
      λ name ms is shown. rw read.2
          (Shows-other c.args.wanted.now.kind (g.R.Rows.Checks c.args.wanted.now.version)
          (g.R.Rows.Holds c.args.wanted.now.start.now c.args.wanted.now.version) c.args.header
          c.args.rows.now name read.0 ms shown
          (is ∙ c.in-Other.is)),
    ))
