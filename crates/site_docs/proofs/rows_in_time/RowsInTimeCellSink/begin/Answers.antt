use Rattle.std.proofs.Common.{[], subst, sym}
use Rattle.site_docs.proofs.rows_in_time.RowsInTimeCellSink.begin.Goals as goal

-- no row was seen
pub returns : goal.returns
returns g c = (
  c.new.ensures.limit,
  c.new.ensures.none,
  subst (λ (s : _). g.S.CellSink.Holds c.args.self.now.sink s []) (sym c.new.ensures.sink)
      c.in_ok-sink.ensures,
)
