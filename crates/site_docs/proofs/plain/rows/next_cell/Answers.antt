use Rattle.std.proofs.Common.{◌∙◌, ap, refl, sym}
use Rattle.site_docs.specs.PlainRows.{entry_in, key_in}
use Rattle.site_docs.specs.inner.PlainRows.{row_before}
use Rattle.site_docs.proofs.plain.rows.next_cell.Goals as goal

-- the row as far as its label, whose key is greater than the last one, and so than all
pub show_cell-requires : goal.show_cell-requires
show_cell-requires g c = λ κs.
    let req = c.requires.holds in
    let followed = c.in-Ok.ensures in
    let rest = c.in_ok-front.rest.now in
    let above = req.3 (key_in c.follow.new.self.front) followed.key in
    let before = c.in_ok-front.ensures
    ∙ ap (λ row. row_before row rest) (sym followed.front) in
    ((refl, tt), (followed.spelled, (before, (req.0, req.1, req.2, above))))

-- the text begins with the row of an entry, which the sink saw after those before
pub returns : goal.returns
returns g c =
    let followed = c.in-Ok.ensures in
    let given = c.in_ok-rest.ensures in (
      entry_in c.follow.new.self.front given.0,
      refl,
      given.1,
      followed.spelled,
      followed.key,
      given.2,
      given.3,
    )
