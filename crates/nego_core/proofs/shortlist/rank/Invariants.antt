use Rattle.std.proofs.Common.{◌-◌, length}
use Rattle.list_core.specs.Candidates.{candidates_left}
use Rattle.nego_core.specs.Filtering.{texts_of}
use Rattle.nego_core.proofs.ShortlistRankingLemmas.{AtCandidates, AtKey, AtMatched}
use Rattle.nego_core.proofs.shortlist.rank.Given as goal

abbrev pub invariant-loop-text : goal.invariant-loop-text
invariant-loop-text l =
    AtCandidates l.fn.widening l.list (texts_of l.langs) l.matched.items l.keys l.at l.next l.left
    l.ranked.items (candidates_left l.text-iterator)

abbrev pub invariant-loop-next : goal.invariant-loop-next
invariant-loop-next l =
    AtMatched l.fn.widening l.list (texts_of l.langs) l.matched.items l.keys l.at l.next l.left
    l.ranked.items

abbrev pub decreases-loop-next : goal.decreases-loop-next
decreases-loop-next l = length l.matched.items - l.next

abbrev pub invariant-loop-at : goal.invariant-loop-at
invariant-loop-at l =
    AtKey l.fn.widening l.list (texts_of l.langs) l.matched.items l.keys l.at l.next l.left
    l.ranked.items
