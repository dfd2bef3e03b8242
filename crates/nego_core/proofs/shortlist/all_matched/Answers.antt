use Rattle.std.proofs.Common.{List, ℕ, ◌∙◌}
use Rattle.std.specs.Borrow.{Bor}
use Rattle.nego_core.specs.Filtering.{texts_of}
use Rattle.nego_core.proofs.FilteringKeys.{text_at, text_within}
use Rattle.nego_core.proofs.ShortlistRankingLemmas.{lang_matched, lang_unmatched}
use Rattle.nego_core.proofs.shortlist.all_matched.Goals as goal
use Rattle.nego_core.proofs.shortlist.all_matched.Goals.{in-Some+in_ok-push-in-Some, in-None}

-- The languages so far that are matched are listed: the next one is added where it is matched.
pub loop-lang-preserved : goal.loop-lang-preserved
loop-lang-preserved c =
    let s = c.args.ranges.now.scheme in
    let items = c.args.ranges.now.list.now in
    let langs = c.args.langs.now in
    let text : Bor (List ℕ) → List ℕ = λ b. b.now in
    let k = c.loop-lang.lang-index in
    let lang = c.lang-item.result in
    let low = text_within text langs k c.loop-lang-test.true in
    let here = text_at text langs k lang c.loop-lang-test.true c.lang-item.is in
    elim c.match-first_tried.branch [
      | in-Some+in_ok-push-in-Some w ↦
          rw (w.matched-is, w.in_ok-push-in-Some.ensures.items)
          (lang_matched s items (texts_of langs) k lang.now c.loop-lang.matched.items _ low here
          (w.new.ensures ∙ w.as_str.ensures.text) w.in-Some.ensures c.loop-lang.invariant)
      | in-None w ↦
          rw w.matched-is
          (lang_unmatched s items (texts_of langs) k lang.now c.loop-lang.matched.items low here
          w.in-None.ensures c.loop-lang.invariant)
    ]
