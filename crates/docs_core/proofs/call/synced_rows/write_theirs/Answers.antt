use Rattle.std.proofs.Common.{refl}
use Rattle.site_docs.specs.WrittenRows.{entry_of}
use Rattle.docs_core.proofs.call.synced_rows.write_theirs.Goals as goal

-- the row is one more, and the site that is seen did not make it
pub returns-in-Ok : goal.returns-in-Ok
returns-in-Ok c = (
  c.if-is_of.ensures refl,
  λ cells holds. c.in-Ok.ensures cells (entry_of c.args.row.now) holds c.requires.kept
      c.requires.text,
)
