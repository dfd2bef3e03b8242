use Rattle.std.proofs.Common.{◌∙◌, ◌++◌, [], ◌∷◌, List, subst, sym}
use Rattle.query_docs.specs.inner.ByMessage.{HasGiven, cells_of, entries_in}
use Rattle.query_docs.specs.declared.by_message.MessageCell.{MessageCell}
use Rattle.query_docs.proofs.ByMessageLemmas.{IsOther, IsSame, given_more, given_on, other_of}
use Rattle.query_docs.proofs.ByMessageLemmas.{same_of}
use Rattle.query_docs.proofs.by_message.ByMessage.reach.Goals as goal

-- it is the message that is read
pub returns-then-is_of-clause-id : goal.returns-then-is_of-clause-id
returns-then-is_of-clause-id g c =
    (same_of c.args.self.now c.args.id.now (sym c.is_of.ensures ∙ c.if-is_of.true)).0

-- a cell of the message that is read joins its cells
pub returns-then-is_of-clause-given : goal.returns-then-is_of-clause-given
returns-then-is_of-clause-given g c = λ first seen e at above has.
    let self = c.args.self.now in
    let same = same_of self c.args.id.now (sym c.is_of.ensures ∙ c.if-is_of.true) in
    given_more g.T.MessageSink.Holds first self.sink e (entries_in self) seen
    (subst (IsSame (entries_in self)) (sym at) same.1) above has

-- a cell of another message is its first, after the cells of the message that was read were given
-- on
pub returns-clause-given : goal.returns-clause-given
returns-clause-given g c = λ first seen e at above has.
    let self = c.args.self.now in
    let sink = c.end_message.new.self.sink in
    let ended = c.in_ok-end_message.ensures in
    let other = other_of self c.args.id.now (sym c.is_of.ensures ∙ c.if-is_of.false) in
    let given = given_on g.T.MessageSink.Holds first self.sink e sink (entries_in self) seen
    (subst (IsOther (entries_in self)) (sym at) other) above (ended.given first) has in
    subst
    (λ (cells : List MessageCell). HasGiven g.T.MessageSink.Holds first sink
    (cells_of c.in_ok-copy.field-0 cells ++ e ∷ []) (seen ++ e ∷ [])) (sym ended.cells) given
