use Rattle.std.proofs.Common.{◌∙◌, ap, sym}
use Rattle.site_docs.specs.PlainRows.{key_in, row_in}
use Rattle.site_docs.specs.inner.PlainRows.{row_until}
use Rattle.site_docs.proofs.PlainStampsLemmas.{stamp_taken}
use Rattle.site_docs.proofs.plain.stamps.next_stamp.Goals as goal

-- the key is greater than the last one, and so than all
pub push-requires-clause-above : goal.push-requires-clause-above
push-requires-clause-above c =
    c.requires.last (key_in c.follow.new.self.front) c.in-Ok.ensures.key

-- the text begins with the row whose key and stamp were pushed
pub returns : goal.returns
returns c =
    let front = c.follow.new.self.front in
    let followed = c.in-Ok.ensures in
    let rest = c.in_ok-front.rest.now in (
      followed.spelled,
      followed.key,
      stamp_taken (row_in front) c.args.text.now rest
          (c.in_ok-front.ensures ∙ ap (λ row. row_until 93 row rest) (sym followed.front)),
      c.in_ok-push.ensures.pushed,
      c.in_ok-push.ensures.kept,
    )
