use Rattle.std.proofs.Common.{◌∷◌, map, take}
use Rattle.json.specs.Token.{begin_array}
use Rattle.serde_json.specs.Data.{string}
use Rattle.row_docs.specs.WritingTexts.{Adds}
use Rattle.row_docs.specs.inner.WritingTexts.{row_tokens}
use Rattle.cell_core.specs.Label.{texts_of}
use Rattle.row_docs.proofs.writing.write_texts.Given as goal

abbrev pub invariant-loop-text : goal.invariant-loop-text
invariant-loop-text l = Adds l.fn.out l.out
    (begin_array ∷ row_tokens (map string (texts_of (take l.text-index l.texts))))
