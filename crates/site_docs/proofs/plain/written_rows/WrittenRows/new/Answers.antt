use Rattle.std.proofs.Common.{◌∙◌, refl, sym}
use Rattle.site_docs.proofs.WrittenRowsLemmas.{first_read, none_read}
use Rattle.site_docs.proofs.plain.written_rows.WrittenRows.new.Goals as goal

-- there is no row
pub returns-then-is_some : goal.returns-then-is_some
returns-then-is_some c =
    none_read c.args.bytes.now c.in_ok-body.body.now _
    (sym c.in-Ok.ensures.0 ∙ c.in_ok-body.ensures) c.in-Ok.ensures.1 c.in_ok-open.ensures refl

-- the first row
pub returns : goal.returns
returns c =
    let first = c.in_ok-row.ensures in
    first_read c.args.bytes.now c.in_ok-body.body.now c.in_ok-open.open.now _ c.in_ok-row.row
    (sym c.in-Ok.ensures.0 ∙ c.in_ok-body.ensures) c.in-Ok.ensures.1 c.in_ok-open.ensures refl
    first.0 first.1
