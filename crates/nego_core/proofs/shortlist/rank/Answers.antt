use Rattle.std.proofs.Common.{◌≡◌, ◌<◌, sym, ◌∙◌, ap, arith, inl, length, subst}
use Rattle.std.proofs.lemmas.Option.{slice_get_past}
use Rattle.list_core.specs.Candidates.{candidates_left}
use Rattle.nego_core.specs.Filtering.{texts_of}
use Rattle.list_core.proofs.Basics.{false_true, same_default}
use Rattle.nego_core.specs.declared.shortlist.MatchedLang.{MatchedLang}
use Rattle.nego_core.proofs.ShortlistRankingLemmas.{AtCandidates, Pieces}
use Rattle.nego_core.proofs.ShortlistRankingLemmas.{candidate_passed, candidate_taken}
use Rattle.nego_core.proofs.ShortlistRankingLemmas.{candidate_there}
use Rattle.nego_core.proofs.ShortlistRankingLemmas.{candidates_begin, candidates_none, key_follows}
use Rattle.nego_core.proofs.ShortlistRankingLemmas.{match_passed, match_taken, rank_ends, read_at}
use Rattle.nego_core.proofs.ShortlistRankingLemmas.{read_other, walk_begins}
use Rattle.nego_core.proofs.shortlist.rank.Goals as goal
use Rattle.nego_core.proofs.shortlist.rank.Goals.{in-Some+in-None-text, in-None}
use Rattle.nego_core.proofs.shortlist.rank.Goals.{in-Some-take-2+in_ok-push-in-Some-take-2}
use Rattle.nego_core.proofs.shortlist.rank.Goals.{in-None-take-2, else-loop-next-test}
use Rattle.nego_core.proofs.shortlist.rank.Goals.{then-loop-next-test+else-index-at}

pub loop-at-init : goal.loop-at-init
loop-at-init c =
    walk_begins c.args.widening c.args.list.now (texts_of c.args.langs.now) c.in_ok-left.left
    c.in_ok-matched.matched.items c.order-keys.result.now c.new-ranked.result.items
    c.new-ranked.ensures.items c.in_ok-left.ensures

pub loop-text-init : goal.loop-text-init
loop-text-init c =
    candidates_begin c.args.widening c.args.list.now (texts_of c.args.langs.now) c.loop-at.left
    c.in_ok-matched.matched.items c.order-keys.result.now c.loop-at.at c.loop-at.next
    c.loop-at.ranked.items c.in-Some.item.now _ c.loop-at-test.true
    (let read = rw c.items-items.ensures.items at c.in-Some.ensures.lookup in
    read_at c.args.list.now _ c.in-Some.item.now read.0 read.1)
    (ap candidates_left c.into_iter-text-iterator.ensures.into_iter_gives
    ∙ c.candidates-text-items.ensures)
    c.loop-at.invariant

pub loop-text-preserved-in-Continue-branch-3 : goal.loop-text-preserved-in-Continue-branch-3
loop-text-preserved-in-Continue-branch-3 c =
    candidate_taken c.args.widening c.args.list.now (texts_of c.args.langs.now) c.loop-text.left
    c.take.new.self c.in_ok-matched.matched.items c.order-keys.result.now c.loop-at.at
    c.loop-at.next c.loop-text.ranked.items c.push.new.self.items _ _ c.in-Some-text.text.now
    c.in-Some-take.lang c.in-Some-text.ensures.steps (c.is_open.ensures.0 c.if-is_open.true)
    c.in-Some-take.ensures c.in_ok-push-in-Some-take.ensures.items c.loop-text.invariant

pub loop-text-preserved-in-None-take : goal.loop-text-preserved-in-None-take
loop-text-preserved-in-None-take c =
    absurd
    (candidate_there c.args.list.now c.loop-text.left c.take.new.self c.in-Some-text.text.now
    (c.is_open.ensures.0 c.if-is_open.true) c.in-None-take.ensures)

pub loop-text-preserved : goal.loop-text-preserved
loop-text-preserved c =
    candidate_passed c.args.widening c.args.list.now (texts_of c.args.langs.now) c.loop-text.left
    c.in_ok-matched.matched.items c.order-keys.result.now c.loop-at.at c.loop-at.next
    c.loop-text.ranked.items _ _ _ c.in-Some-text.ensures.steps
    (λ o. false_true (sym c.if-is_open.false ∙ c.is_open.ensures.1 o)) c.loop-text.invariant

-- Where the candidates of the key's item are done, or it has no item, its matches come.
pub loop-next-init : goal.loop-next-init
loop-next-init c = elim c.match-get.branch [
  | in-Some+in-None-text w ↦
      rw (w.left-is, w.ranked-is)
      (subst (λ (ys : Pieces). AtCandidates c.args.widening c.args.list.now
      (texts_of c.args.langs.now) c.in_ok-matched.matched.items c.order-keys.result.now c.loop-at.at
      c.loop-at.next w.loop-text.left w.loop-text.ranked.items ys) w.in-None-text.ensures.steps.0
      w.loop-text.invariant)
  | in-None w ↦
      rw (w.left-is, w.ranked-is)
      (candidates_none c.args.widening c.args.list.now (texts_of c.args.langs.now) c.loop-at.left
      c.in_ok-matched.matched.items c.order-keys.result.now c.loop-at.at c.loop-at.next
      c.loop-at.ranked.items c.loop-at-test.true
      (sym (slice_get_past c.args.list.now _ (rw c.items-items.ensures.items at
      w.in-None.ensures.lookup).3)) c.loop-at.invariant)
]

-- The next match is ranked where it is left, as it is the least of those; else it was before.
pub loop-next-preserved : goal.loop-next-preserved
loop-next-preserved c =
    let ms = c.in_ok-matched.matched.items in
    let next = c.loop-next.next in
    let m = c.index-in-loop-next.result.now in
    let low : next < length ms = (let size = c.len.ensures in let test = c.loop-next-test.true in
    let ok = c.in_ok-matched.matched.ok in omega arith) in
    let same : m ≡ c.index.result.now = c.index-in-loop-next.ensures
    ∙ (same_default ms next m c.index.result.now low ∙ sym c.index.ensures) in
    let tried : m.tried ≡ c.loop-at.at = ap (λ (x : MatchedLang). x.tried) same
    ∙ c.if-index-at.true in
    elim c.match-take-2.branch [
      | in-Some-take-2+in_ok-push-in-Some-take-2 w ↦
          rw w.ranked-is
          (match_taken c.args.widening c.args.list.now (texts_of c.args.langs.now) c.loop-next.left
          c.take-in-loop-next.new.self ms c.order-keys.result.now c.loop-at.at next
          c.loop-next.ranked.items w.push-in-Some-take-2.new.self.items m w.in-Some-take-2.lang
          c.in_ok-matched.ensures c.order-keys.ensures c.loop-at-test.true low
          c.index-in-loop-next.ensures tried (rw c.text.ensures at w.in-Some-take-2.ensures)
          w.in_ok-push-in-Some-take-2.ensures.items c.loop-next.invariant)
      | in-None-take-2 w ↦
          rw w.ranked-is
          (match_passed c.args.widening c.args.list.now (texts_of c.args.langs.now)
          c.loop-next.left c.take-in-loop-next.new.self ms c.order-keys.result.now c.loop-at.at next
          c.loop-next.ranked.items m low c.index-in-loop-next.ensures
          (rw c.text.ensures at w.in-None-take-2.ensures) c.loop-next.invariant)
    ]

pub loop-at-preserved : goal.loop-at-preserved
loop-at-preserved c =
    key_follows c.args.widening c.args.list.now (texts_of c.args.langs.now) c.loop-next.left
    c.in_ok-matched.matched.items c.order-keys.result.now c.loop-at.at c.loop-next.next
    c.loop-next.ranked.items c.in_ok-matched.ensures c.order-keys.ensures c.loop-at-test.true
    (elim c.loop-next-test.branch [
      | then-loop-next-test+else-index-at w ↦
          read_other c.in_ok-matched.matched.items c.loop-next.next c.loop-at.at
          w.index.result.now (let size = c.len.ensures in let low = w.loop-next-test.true in
          let ok = c.in_ok-matched.matched.ok in omega arith) w.index.ensures w.if-index-at.false
      | else-loop-next-test w ↦ inl (let size = c.len.ensures in
          let past = w.loop-next-test.false in
          let ok = c.in_ok-matched.matched.ok in omega arith)
    ]) c.loop-next.invariant

pub returns : goal.returns
returns c =
    rank_ends c.args.widening c.args.list.now (texts_of c.args.langs.now) c.loop-at.left
    c.order-keys.result.now (texts_of c.loop-at.ranked.items) c.loop-at.at c.order-keys.ensures
    c.loop-at-test.false c.loop-at.invariant.1
