use Rattle.std.proofs.Common.{◌∙◌, ◌∷◌, Some, ap, arith, length, sym}
use Rattle.std.proofs.lemmas.Option.{IfSome_then}
use Rattle.json.specs.Reads.{token_of}
use Rattle.serde_json.specs.Data.{array, string}
use Rattle.map_docs.proofs.AscendingLemmas.{text_read, texts_read}
use Rattle.map_docs.proofs.ascending.next_label.Goals as goal

-- a string
pub returns-in-Some-String : goal.returns-in-Some-String
returns-in-Some-String c =
    let text = c.in-Some-String.text.now in
    let next = c.in-Some-String.ensures.value
    ∙ ap (λ t. token_of t ∷ c.next.new.self) c.in-Some-String.field-0-is in
    let fewer = ap length next in
    IfSome_then c.one_text.result c.one_text.ensures (λ label made. (
      string text,
      text_read 125 text c.args.reader.now c.next.new.self next,
      ap Some (sym made.0),
      made.1,
      omega (arith, fewer),
    ))

-- an array of strings
pub returns-in-Some-BeginArray : goal.returns-in-Some-BeginArray
returns-in-Some-BeginArray c =
    let next = c.in-Some-BeginArray.ensures.value
    ∙ ap (λ t. token_of t ∷ c.next.new.self) c.in-Some-BeginArray.field-0-is in
    let opened = ap length next in
    IfSome_then c.several_texts.result c.several_texts.ensures (λ label read.
    let fewer = read.4 in (
      array read.0,
      texts_read c.args.reader.now c.next.new.self c.several_texts.new.reader read.0 next read.1,
      read.2,
      read.3,
      omega (arith, opened, fewer),
    ))
