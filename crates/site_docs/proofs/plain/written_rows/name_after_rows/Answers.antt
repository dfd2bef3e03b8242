use Rattle.std.proofs.Common.{◌∙◌, ◌+◌, ◌++◌, ap, sym, take}
use Rattle.std.proofs.lemmas.List.{take-append-drop, take_rest}
use Rattle.std.proofs.lemmas.Option.{IfSome_then}
use Rattle.site_docs.proofs.plain.written_rows.name_after_rows.Goals as goal

pub returns : goal.returns
returns c =
    let bytes = c.args.bytes.now in
    let first = c.in_ok-bracket.bracket + 1 in
    let members = sym (take_rest bytes first) ∙ sym c.in-Ok.ensures.0 in
    IfSome_then c.last_name.result c.last_name.ensures.text
    (λ _ last. (
      take first bytes,
      last.0,
      last.1,
      sym (take-append-drop first bytes)
          ∙ ap (λ rest. take first bytes ++ rest) (members ∙ last.2),
    ))
