use Rattle.std.proofs.Common.{◌∙◌, ◌++◌, [], ◌∷◌, ap, map, rules, string_bytes}
use Rattle.std.proofs.lemmas.List.{map-append}
use Rattle.json.specs.Print.{quoted}
use Rattle.serde_json.specs.Data.{string}
use Rattle.site_docs.proofs.PlainLemmas.{array_taken, text_taken, texts_later}
use Rattle.site_docs.proofs.plain.labels.several_texts.Goals as goal

-- one text more
pub loop-next-preserved : goal.loop-next-preserved
loop-next-preserved c =
    let inv = c.loop-next.invariant in
    let old = map string_bytes c.loop-next.texts.items in
    let next = string_bytes c.in-Some.next in
    let whole = 91 ∷ (quoted (string_bytes c.args.first) ++ c.args.text.now) in
    let pushed = ap (map string_bytes) c.in-Ok-push.ensures.items
    ∙ map-append string_bytes c.loop-next.texts.items (c.in-Some.next ∷ []) in (
      search rules,
      texts_later old _ next pushed,
      rw pushed
          (text_taken old next whole c.loop-next.rest.now c.in-Some.left.now inv.1 inv.2
          c.in-Some.ensures),
    )

-- all texts, and the bracket
pub returns-in-Ok-from_texts-clause-text : goal.returns-in-Ok-from_texts-clause-text
returns-in-Ok-from_texts-clause-text c =
    rw c.in-Ok-from_texts.ensures.1
    (array_taken (map string (map string_bytes c.loop-next.texts.items))
    (91 ∷ (quoted (string_bytes c.args.first) ++ c.args.text.now)) c.loop-next.rest.now
    c.in_ok-rest.rest.now c.loop-next.invariant.2 c.in_ok-rest.ensures)
