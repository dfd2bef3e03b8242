use Rattle.std.proofs.Common.{◌++◌}
use Rattle.site_docs.specs.WrittenRows.{current_of}
use Rattle.docs_core.proofs.call.synced_rows.advance.Goals as goal

-- one row more is read
pub is_in_time-requires : goal.is_in_time-requires
is_in_time-requires c = (
  c.requires.0,
  c.requires.1 ++ current_of c.advance.new.self,
  c.in_ok-advance.ensures.read c.requires.0 c.requires.1 c.requires.2,
)
