use Rattle.std.proofs.Common.{refl}
use Rattle.docs_core.proofs.SyncedRowsLemmas.{synced_all, synced_whole}
use Rattle.catalogue.specs.Entries.{joined}
use Rattle.docs_core.proofs.call.synced_rows.SyncedRows.close_both.Goals as goal

-- the rows are read as far as they are joined
pub write_all-requires : goal.write_all-requires
write_all-requires c =
    let so_far = rw c.in_ok-rows.was at c.requires.1 in
    (c.args.self.other.now, so_far.read, so_far.has_read)

-- all rows of both are written: the two texts are the join of their cells under each name
pub returns-in-Ok : goal.returns-in-Ok
returns-in-Ok c = λ cells holds.
    let self = c.args.self in
    let bytes = self.other.now in
    let so_far = rw c.in_ok-rows.was at holds in
    let all = c.in_ok-write_all.ensures in
    let rows = c.write_all.new.rows in
    let draft = c.write_all.new.draft in
    let whole = synced_whole self.tests bytes rows draft cells
    (all.1 bytes cells (synced_all self.tests bytes c.in_ok-rows.rows self.draft cells so_far))
    all.0 in
    let docs = c.in-Ok.ensures (joined cells whole.read) whole.holds whole.map in (
      record { name = c.in_ok-other.other; cells = whole.read },
      c.in_ok-other.ensures bytes whole.read whole.has_read,
      whole.in_time,
      (c.if-not-is_name.ensures refl, c.if-not-is_name-2.ensures refl),
      whole.lack,
      whole.agree,
      docs.0,
      docs.1,
    )
