use Rattle.std.proofs.Common.{[], ◌∷◌}
use Rattle.std.proofs.lemmas.Result.{IfOk-weaker}
use Rattle.query_docs.specs.declared.draft.Draft.{Draft}
use Rattle.query_docs.proofs.DraftLemmas.{added}
use Rattle.query_docs.proofs.draft.Draft.add_text.Goals as goal

pub returns : goal.returns
returns c =
    let reached = c.in_ok-reach.ensures in
    let mid = c.reach.new.self in
    let new : Draft = record { out = c.write_text.new.out; current = mid.current } in
    let wrote = c.write_text.ensures in
    IfOk-weaker c.write_text.result _ _ (λ _ adds. λ labels has.
    added c.args.self.now mid new ((c.args.id.now, c.args.lang.now), c.args.text.now ∷ []) labels
    reached.tokens adds
    (record { id = reached.id has.1; language = wrote.lang; label = c.requires })
    reached.current has) wrote.tokens
