use Rattle.std.proofs.Common.{◌≡◌, ◌∙◌, ◌∷◌, ap, arith, length, sym}
use Rattle.std.proofs.lemmas.Result.{err_from_is_err_and}
use Rattle.json.specs.Lex.{tokens}
use Rattle.json.specs.Token.{begin_object}
use Rattle.json_docs.proofs.ScanningArraysLemmas.{not_json}
use Rattle.json_docs.proofs.TextWholeLemmas.{length-tokens, not_object, not_whole, object_whole}
use Rattle.row_docs.proofs.tested_header.read_object.Goals as goal

pub read_rest-requires-clause-places : goal.read_rest-requires-clause-places
read_rest-requires-clause-places g c =
    let first : tokens c.args.text.now ≡ begin_object ∷ c.begins_object.new.reader =
    sym c.in-Ok.ensures.ok ∙ c.if-begins_object.ensures in
    omega (arith, ap length first, length-tokens c.args.text.now)

pub returns-in_err-header : goal.returns-in_err-header
returns-in_err-header g c =
    let ts = c.begins_object.new.reader in
    let first : tokens c.args.text.now ≡ begin_object ∷ ts = sym c.in-Ok.ensures.ok
    ∙ c.if-begins_object.ensures in
    let p = err_from_is_err_and c.from_residual.result c.from_residual.ensures.1 in
    rw (p.1, p.2) (not_json _ _ _ (not_whole c.args.text.now ts first) c.in_err-header.ensures)

pub returns-in_ok-header : goal.returns-in_ok-header
returns-in_ok-header g c =
    let ts = c.begins_object.new.reader in
    let first : tokens c.args.text.now ≡ begin_object ∷ ts = sym c.in-Ok.ensures.ok
    ∙ c.if-begins_object.ensures in
    let e = c.in_ok-header.ensures in
    (e.0, object_whole c.args.text.now ts first e.0 e.1, e.2)

pub returns-in_ok-check_value : goal.returns-in_ok-check_value
returns-in_ok-check_value g c =
    let e = c.in_ok-check_value.ensures in (
      e.0,
      e.1,
      not_object (tokens c.args.text.now) e.0
          (rw c.in-Ok.ensures.ok at c.if-begins_object.ensures) e.1,
    )
