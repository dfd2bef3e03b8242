use Rattle.std.proofs.Common.{refl}
use Rattle.site_docs.specs.WrittenRows.{current_of}
use Rattle.docs_core.proofs.call.synced_rows.rows_in_time.Goals as goal

-- the first row is read
pub is_in_time-requires : goal.is_in_time-requires
is_in_time-requires c = (c.args.bytes.now, current_of c.in_ok-rows.rows, c.in_ok-rows.ensures)

pub returns-then-is_in_time : goal.returns-then-is_in_time
returns-then-is_in_time c = (c.in_ok-rows.ensures, c.if-is_in_time.ensures refl)
