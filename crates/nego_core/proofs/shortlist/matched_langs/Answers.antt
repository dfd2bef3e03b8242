use Rattle.nego_core.specs.Filtering.{texts_of}
use Rattle.nego_core.proofs.ShortlistRankingLemmas.{matched_sorted}
use Rattle.nego_core.proofs.shortlist.matched_langs.Goals as goal

pub returns-in_ok-matched-in-By : goal.returns-in_ok-matched-in-By
returns-in_ok-matched-in-By c =
    rw c.in-By.is
    (matched_sorted c.in-By.scheme c.args.list.now (texts_of c.args.langs.now)
    c.in_ok-matched-in-By.matched.items c.sort_matched.new.matched.items
    c.sort_matched.ensures.same c.sort_matched.ensures.ascending
    (rw (c.new-in-By.ensures.list, c.new-in-By.ensures.scheme) at c.in_ok-matched-in-By.ensures))
