use Rattle.std.proofs.Common.{◌≡◌, ◌∙◌, ◌∷◌, Some, ap, sym}
use Rattle.std.specs.Prelude.{option_map}
use Rattle.std.proofs.lemmas.Result.{err_from_is_err_and}
use Rattle.json.specs.Lex.{tokens}
use Rattle.json.specs.Token.{begin_object}
use Rattle.map_docs.specs.MembersRows.{message_rows}
use Rattle.json_docs.proofs.ScanningArraysLemmas.{not_json}
use Rattle.json_docs.proofs.TextWholeLemmas.{not_object, not_whole, object_whole}
use Rattle.map_docs.proofs.members.read_rows.Goals as goal

pub returns-in_err-rows-clause-read : goal.returns-in_err-rows-clause-read
returns-in_err-rows-clause-read c =
    let ts = c.begins_object.new.reader in
    let first : tokens c.args.text.now ≡ begin_object ∷ ts =
    sym c.in_ok-reader.ensures.ok ∙ c.if-begins_object.ensures in
    let p =
    err_from_is_err_and c.from_residual-in_err-rows.result
    c.from_residual-in_err-rows.ensures.1 in
    rw (p.1, p.2) (not_json _ _ _ (not_whole c.args.text.now ts first) c.in_err-rows.ensures.read)

pub returns-in_ok-rows-clause-read : goal.returns-in_ok-rows-clause-read
returns-in_ok-rows-clause-read c =
    let ts = c.begins_object.new.reader in
    let first : tokens c.args.text.now ≡ begin_object ∷ ts =
    sym c.in_ok-reader.ensures.ok ∙ c.if-begins_object.ensures in
    let e = c.in_ok-rows.ensures.read in
    (_, object_whole c.args.text.now ts first e.0 e.1, ap (λ rows. Some rows) e.2)

pub returns-in_ok-check_value-clause-read : goal.returns-in_ok-check_value-clause-read
returns-in_ok-check_value-clause-read c =
    let e = c.in_ok-check_value.ensures in (
      e.0,
      e.1,
      sym
          (ap (option_map message_rows)
          (not_object (tokens c.args.text.now) e.0
          (rw c.in_ok-reader.ensures.ok at c.if-begins_object.ensures) e.1)),
    )
