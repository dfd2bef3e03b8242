use Rattle.std.proofs.Common.{◌∙◌, ap, subst, sym}
use Rattle.std.specs.Prelude.{List, option_map}
use Rattle.std.proofs.lemmas.Result.{IfOk-weaker}
use Rattle.nego_core.specs.Filtering.{texts_of}
use Rattle.catalogue.specs.Reply.{reply_of}
use Rattle.catalogue.specs.LiveMessages.{LiveMessage}
use Rattle.catalogue.specs.Messages.{messages_left}
use Rattle.query_docs.proofs.BundlingLemmas.{AreLive, IsBundling, are_live, bundling_first}
use Rattle.query_docs.proofs.BundlingLemmas.{bundling_found, bundling_last, bundling_passed}
use Rattle.query_docs.proofs.BundlingLemmas.{offered_messages, shortlisted, shown, shown_all}
use Rattle.nego_core.specs.Offer.{items_of}
use Rattle.catalogue.specs.EntriesOffered.{offered_cells}
use Rattle.query_docs.proofs.bundling.write_bundle_by.Goals as goal

pub loop-message-init : goal.loop-message-init
loop-message-init c =
    let default = option_map (λ l. l.now) c.args.default in
    let offer = items_of c.args.offer in
    let cells = offered_cells offer c.args.catalogue.now in
    let all = ap messages_left c.into_iter-message-iterator.ensures.into_iter_gives in
    let messages = messages_left c.messages-message-items.result in
    let are = c.messages-message-items.ensures.messages in (
      subst (λ (left : List LiveMessage). IsBundling c.args.widening cells c.args.list.now default
          c.in_ok-draft.draft (shown_all offer left)) (sym all)
          (bundling_first c.args.widening cells c.args.list.now default c.in_ok-draft.draft
          (shown_all offer messages) (offered_messages offer c.args.catalogue.now messages are)
          c.in_ok-draft.ensures),
      subst (AreLive c.args.catalogue.now) (sym all) (are_live c.args.catalogue.now messages are),
    )

pub returns : goal.returns
returns c =
    let default = option_map (λ l. l.now) c.args.default in
    let offer = items_of c.args.offer in
    let cells = offered_cells offer c.args.catalogue.now in
    let b = subst (λ (left : List LiveMessage). IsBundling c.args.widening cells
    c.args.list.now default c.loop-message.draft (shown_all offer left)) c.in-None.ensures.steps.0
    c.loop-message.invariant.0 in
    let last = bundling_last c.args.widening cells c.args.list.now default
    c.loop-message.draft b in
    IfOk-weaker c.close.result _ _
    (λ _ closed. (last.0, last.1, closed last.0 last.2 last.1.ascending)) c.close.ensures

-- The draft has the labels of the messages so far: this one's lookup found a label, by a shortlist
-- of languages that have all of its own, and that label was added.
pub loop-message-preserved-in-Continue-branch-5 : goal.loop-message-preserved-in-Continue-branch-5
loop-message-preserved-in-Continue-branch-5 c =
    let all = c.args.catalogue.now in
    let offer = items_of c.args.offer in
    let cells = offered_cells offer all in
    let default = option_map (λ l. l.now) c.args.default in
    let left = messages_left c.next.new.self in
    let message = shown offer c.in-Some.message in
    let b = subst (λ (left : List LiveMessage). IsBundling c.args.widening cells
    c.args.list.now default c.loop-message.draft (shown_all offer left)) c.in-Some.ensures.steps
    c.loop-message.invariant.0 in
    let live = subst (AreLive all) c.in-Some.ensures.steps c.loop-message.invariant.1 in
    let reply = reply_of c.lookup_within.result in
    let texts = ap texts_of c.deref.ensures.value ∙ c.in_ok-listed.ensures in
    let found = shortlisted c.args.widening all c.args.list.now c.in_ok-langs.langs
    c.in_ok-shortlist.shortlist c.in-Some.message message.1 default reply
    (texts_of c.deref.result.now)
    c.in_ok-shortlist.ensures texts c.in_ok-langs.ensures live.0 c.lookup_within.ensures.within in (
      bundling_found c.args.widening cells c.args.list.now default c.loop-message.draft
          c.add.new.self message (shown_all offer left) reply
          c.id.result.now c.in-Some-answered.lang.now c.in-Some-answered.label.now
          c.id.ensures b
          found c.in-Some-answered.ensures c.in_ok-add.ensures,
      live.1,
    )

-- The same where the lookup found nothing: nothing was added.
pub loop-message-preserved : goal.loop-message-preserved
loop-message-preserved c =
    let all = c.args.catalogue.now in
    let offer = items_of c.args.offer in
    let cells = offered_cells offer all in
    let default = option_map (λ l. l.now) c.args.default in
    let left = messages_left c.next.new.self in
    let message = shown offer c.in-Some.message in
    let b = subst (λ (left : List LiveMessage). IsBundling c.args.widening cells
    c.args.list.now default c.loop-message.draft (shown_all offer left)) c.in-Some.ensures.steps
    c.loop-message.invariant.0 in
    let live = subst (AreLive all) c.in-Some.ensures.steps c.loop-message.invariant.1 in
    let reply = reply_of c.lookup_within.result in
    let texts = ap texts_of c.deref.ensures.value ∙ c.in_ok-listed.ensures in
    let found = shortlisted c.args.widening all c.args.list.now c.in_ok-langs.langs
    c.in_ok-shortlist.shortlist c.in-Some.message message.1 default reply
    (texts_of c.deref.result.now)
    c.in_ok-shortlist.ensures texts c.in_ok-langs.ensures live.0 c.lookup_within.ensures.within in (
      bundling_passed c.args.widening cells c.args.list.now default c.loop-message.draft
          message (shown_all offer left) reply b found c.in_default.ensures,
      live.1,
    )
