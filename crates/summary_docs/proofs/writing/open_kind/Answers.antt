use Rattle.std.proofs.Common.{[], ◌∷◌, codes}
use Rattle.std.proofs.lemmas.Result.{IfOk-weaker}
use Rattle.json.specs.Token.{begin_object, key, string}
use Rattle.row_docs.proofs.WritingTextsLemmas.{Adds-then}
use Rattle.summary_docs.proofs.writing.open_kind.Goals as goal

-- one token after another
pub returns : goal.returns
returns c =
    let a = c.args.draft.now in
    let b = c.begin_object.new.self in
    let d = c.key.new.self in
    let e = c.string.new.self in
    let begun = c.in_ok-begin_object.ensures in
    let named = c.in_ok-key.ensures in
    let told = c.in_ok-string.ensures in
    let two = Adds-then a b d (begin_object ∷ []) (key (codes "kind") ∷ []) (begun.room.0, begun.ok)
    (named.room.0, named.ok) in
    let three = Adds-then a d e (begin_object ∷ key (codes "kind") ∷ [])
    (string (codes "summary") ∷ []) two (told.room.0, told.ok) in
    IfOk-weaker c.key-2.result _ _
    (λ _ wrote. Adds-then a e c.key-2.new.self
    (begin_object ∷ key (codes "kind") ∷ string (codes "summary") ∷ [])
    (key (codes "labels") ∷ []) three (c.key-2.ensures.room.0, wrote)) c.key-2.ensures.ok
