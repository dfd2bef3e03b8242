use Rattle.std.proofs.Common.{◌∙◌, ◌<◌, ◌^◌, ap, rules, subst, sym}
use Rattle.cell_core.specs.declared.stamp.Stamp.{Stamp}
use Rattle.site_docs.specs.inner.PlainRows.{row_before}
use Rattle.site_docs.proofs.plain.written_rows.ReadRow.new.Goals as goal

-- the row as far as its label
pub row_end-requires : goal.row_end-requires
row_end-requires c =
    c.in_ok-front.ensures
    ∙ ap (λ row. row_before row c.in_ok-front.rest.now) (sym c.in-Ok.ensures.front)

-- the row is that of its entry
pub returns : goal.returns
returns c =
    let end = c.in_ok-label.ensures in (
      record {
        spelled = c.in-Ok.ensures.spelled;
        stamp = c.stamp-stamp.ensures;
        label = end.label.0;
        kept = (
          record {
            id = c.in-Ok.ensures.spelled.is_id;
            lang = c.in-Ok.ensures.spelled.is_lang;
            time = subst (λ (s : Stamp). s.time < 2 ^ 64) c.stamp-stamp.ensures (search rules);
            site = c.in-Ok.ensures.spelled.is_site;
            count = subst (λ (s : Stamp). s.count < 2 ^ 32) c.stamp-stamp.ensures (search rules);
          },
          end.label.1,
        );
        text = end.text.0;
      },
      end.text.1,
    )
