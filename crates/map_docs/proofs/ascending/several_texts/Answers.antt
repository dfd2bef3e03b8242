use Rattle.std.proofs.Common.{◌≡◌, ◌∙◌, ◌-◌, ◌++◌, ◌∷◌, [], List, ℕ, Some, ap, append-nil, arith}
use Rattle.std.proofs.Common.{length, map, string_bytes, subst, sym}
use Rattle.std.proofs.lemmas.List.{map-append}
use Rattle.json.specs.Json.{items, parse_map, value}
use Rattle.json.specs.Reads.{token_of}
use Rattle.json.specs.Token as token
use Rattle.json.proofs.Grammar.{after_end_array-shorter}
use Rattle.serde_json.specs.Data.{no_items, string}
use Rattle.serde_json.specs.Read.{converted, of_items}
use Rattle.cell_core.specs.Label.{IsLabel, texts_of}
use Rattle.json_docs.proofs.ScanningArraysLemmas.{before, list_of-before, parse_map-push}
use Rattle.json_docs.proofs.ScanningReadingLemmas.{item_read, items_over}
use Rattle.map_docs.specs.MembersRows.{strings_of}
use Rattle.map_docs.proofs.AscendingLemmas.{strings_all, text_read}
use Rattle.map_docs.proofs.ascending.several_texts.Goals as goal

-- one string more
pub loop-alloc-preserved : goal.loop-alloc-preserved
loop-alloc-preserved c =
    let inv = c.loop-alloc.invariant in
    let going = c.loop-alloc-test.ensures in
    let text = c.in-Some-String.text.now in
    let front = map string (texts_of c.loop-alloc.texts.items) in
    let r = c.next.new.self in
    let next : c.loop-alloc.reader ≡ token.string text ∷ r =
    sym going.1 ∙ c.in-Some-String.ensures.value
    ∙ ap (λ t. token_of t ∷ r) c.in-Some-String.field-0-is in
    let fewer = ap length next in
    let turn =
    item_read (value 124) inv.0 c.loop-alloc.reader r (string text) (omega (arith, inv.1, fewer))
    going.0 (text_read 124 text c.loop-alloc.reader r next) in
    let left = converted of_items (items (value 124) (inv.0 - 1) r) in
    let more : map string (texts_of c.push.new.self.items) ≡ front ++ string text ∷ [] =
    ap (λ (ts : List (List ℕ)). map string ts)
    (ap texts_of c.in-Ok-push.ensures.items
    ∙ map-append string_bytes c.loop-alloc.texts.items (c.in-Ok.text ∷ [])
    ∙ ap (λ t. texts_of c.loop-alloc.texts.items ++ t ∷ []) c.in-Ok.ensures.ok)
    ∙ map-append string (texts_of c.loop-alloc.texts.items) (text ∷ []) in (
      inv.0 - 1,
      omega (arith, inv.1, fewer),
      inv.2
          ∙ ap (parse_map (before front)) turn
          ∙ parse_map-push front (string text) left
          ∙ ap (λ ds. parse_map (before ds) left) (sym more),
      omega (arith, inv.3, fewer),
    )

-- the end of the array
pub returns-in-Ok-from_texts : goal.returns-in-Ok-from_texts
returns-in-Ok-from_texts c =
    let inv = c.loop-alloc.invariant in
    let over = c.loop-alloc-test.ensures in
    let texts = texts_of c.loop-alloc.texts.items in
    let made = c.in-Ok-from_texts.ensures in
    let less = after_end_array-shorter c.loop-alloc.reader c.take_end_array.new.self over in (
      before (map string texts) no_items,
      inv.2
          ∙ ap (parse_map (before (map string texts)))
          (items_over (value 124) inv.0 c.loop-alloc.reader c.take_end_array.new.self inv.1 over),
      ap strings_of (list_of-before (map string texts) no_items ∙ append-nil (map string texts))
          ∙ strings_all texts
          ∙ ap Some (sym made.1),
      subst IsLabel (sym made.1) made.0,
      omega (arith, inv.3, less),
    )
