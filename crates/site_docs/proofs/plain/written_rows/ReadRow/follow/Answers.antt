use Rattle.std.proofs.Common.{◌∙◌, ◌<◌, ◌^◌, ap, rules, subst, sym}
use Rattle.cell_core.specs.declared.stamp.Stamp.{Stamp}
use Rattle.site_docs.specs.inner.PlainRows.{row_before}
use Rattle.site_docs.proofs.plain.written_rows.ReadRow.follow.Goals as goal

-- the row as far as its label
pub row_end-requires : goal.row_end-requires
row_end-requires c =
    c.in_ok-front.ensures
    ∙ ap (λ row. row_before row c.in_ok-front.rest.now) (sym c.in-Ok.ensures.front)

-- the row is that of its entry, whose key is greater
pub returns : goal.returns
returns c =
    let followed = c.in-Ok.ensures in
    let end = c.in_ok-label.ensures in (
      record {
        spelled = followed.spelled;
        stamp = c.stamp-self.ensures;
        label = end.label.0;
        kept = (
          record {
            id = followed.spelled.is_id;
            lang = followed.spelled.is_lang;
            time = subst (λ (s : Stamp). s.time < 2 ^ 64) c.stamp-self.ensures (search rules);
            site = followed.spelled.is_site;
            count = subst (λ (s : Stamp). s.count < 2 ^ 32) c.stamp-self.ensures (search rules);
          },
          end.label.1,
        );
        text = end.text.0;
      },
      followed.key,
      end.text.1,
    )
