use Rattle.std.proofs.Common.{◌∙◌, [], ℕ, List, Option, subst, sym}
use Rattle.map_docs.specs.WritingMaps.{IsWriting}
use Rattle.map_docs.proofs.WritingLemmas.{found_last}
use Rattle.query_docs.proofs.DraftLemmas.{all_written}
use Rattle.query_docs.proofs.draft.Draft.close.Goals as goal

pub returns : goal.returns
returns c = λ labels has map.
    let all = all_written c.args.self labels has in
    let out = c.args.self.out in
    let current = c.args.self.current in (
      c.in_ok-doc.ensures labels map (subst (λ (o : Option (List ℕ)). IsWriting out o [] labels)
          (sym c.as_ref.ensures.value) all),
      c.is_some.ensures ∙ found_last out current labels all,
    )
