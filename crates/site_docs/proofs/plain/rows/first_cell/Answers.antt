use Rattle.std.proofs.Common.{◌≡◌, ◌∙◌, [], ap, refl, sym}
use Rattle.std.proofs.lemmas.List.Elements.{All-nil}
use Rattle.std.specs.declared.cmp.Ordering.TheVariants.{Less}
use Rattle.cell_core.specs.Entry.{key_cmp}
use Rattle.catalogue.specs.Entries.{Entry}
use Rattle.site_docs.specs.PlainRows.{entry_in, key_in}
use Rattle.site_docs.specs.inner.PlainRows.{row_before}
use Rattle.site_docs.proofs.plain.rows.first_cell.Goals as goal

-- the row as far as its label, and there is no cell yet
pub show_cell-requires : goal.show_cell-requires
show_cell-requires g c = λ κs.
    let spelled = c.in-Ok in
    let rest = c.in_ok-front.rest.now in
    let none = All-nil (λ (e : Entry). key_cmp e.0 (key_in spelled.spelled.front) ≡ Less) in
    let before = c.in_ok-front.ensures
    ∙ ap (λ row. row_before row rest) (sym spelled.ensures.front) in (
      (refl, tt),
      (spelled.ensures.spelled, (before, (c.requires.0, [], c.requires.1, none))),
    )

-- the text begins with the row of an entry, which the sink saw as its first
pub returns : goal.returns
returns g c =
    let front = c.in-Ok.spelled.front in
    let given = c.in_ok-rest.ensures in
    let none = All-nil (λ (e : Entry). key_cmp e.0 (key_in front) ≡ Less) in (
      entry_in front given.0,
      refl,
      given.1,
      c.in-Ok.ensures.spelled,
      given.2,
      λ first begun. given.3 first [] begun none,
    )
