use Rattle.site_docs.proofs.RowsInTimeLemmas.{after_stays}
use Rattle.site_docs.proofs.rows_in_time.first_ahead.Goals as goal

-- the first stays
pub returns-in-Some : goal.returns-in-Some
returns-in-Some c = λ cells e at count timed.
    after_stays c.args.not_after cells e c.in-Some.row (rw c.in-Some.is at timed)

-- it may be this row
pub returns-in-None : goal.returns-in-None
returns-in-None c = λ cells e at count timed.
    c.ahead_at.ensures cells e at count (rw c.in-None.is at timed)
