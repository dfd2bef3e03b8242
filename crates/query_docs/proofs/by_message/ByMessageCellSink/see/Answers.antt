use Rattle.std.proofs.Common.{◌≡◌, ap, refl}
use Rattle.site_docs.specs.Sink.{entry_of, texts_of}
use Rattle.query_docs.specs.inner.ByMessage.{cell_of}
use Rattle.query_docs.specs.declared.by_message.ByMessage.{ByMessage}
use Rattle.query_docs.specs.declared.by_message.MessageCell.{MessageCell}
use Rattle.query_docs.proofs.ByMessageLemmas.{seen_more}
use Rattle.query_docs.proofs.by_message.ByMessageCellSink.see.Goals as goal

-- The cells at hand, after those given on by message, are all that were seen, with this one: where
-- it begins another message those before were given on, else it joins them.
pub returns : goal.returns
returns g c = λ first before has above.
    let e = entry_of c.args.cell in
    let id = c.args.cell.id.now in
    let old = c.reach.new.self in
    let reached = c.in_ok-reach.ensures in
    let new : ByMessage g.row.T.Denot =
    record { sink = old.sink; id = old.id; cells = c.push.new.self } in
    let cell : MessageCell = record {
      lang = c.in_ok-lang.lang;
      stamp = c.args.cell.stamp;
      label = c.args.cell.label;
    } in
    let own : cell_of id cell ≡ e =
    ap (λ l. ((id, l), record { stamp = cell.stamp; label = texts_of cell.label }))
    c.in_ok-lang.ensures.equal in
    seen_more g.T.MessageSink.Holds first.sink old new cell id e _ reached.id refl
    c.in_ok-push.ensures.items own reached.labels c.requires.label
    (reached.given first.sink before e refl above has.given)
