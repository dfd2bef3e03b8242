use Rattle.std.proofs.Common.{◌∙◌, ◌++◌, ap, string_bytes}
use Rattle.row_docs.proofs.PlainTextsLemmas.{byte_taken}
use Rattle.row_docs.proofs.plain_texts.take_piece.Goals as goal

pub returns-in-Ok : goal.returns-in-Ok
returns-in-Ok c =
    let escaped = c.in-Some.ensures in
    let bytes = rw c.from.ensures at c.in-Ok.ensures.bytes in
    let ascii = rw c.from.ensures at c.in-Ok.ensures.ascii in
    byte_taken (string_bytes c.args.content.now) (string_bytes c.push.new.self) c.in-Some.byte
    c.args.text.now c.in-Some.rest.now
    (bytes ∙ ap (λ e. string_bytes c.args.content.now ++ e) (ascii escaped.1)) escaped
