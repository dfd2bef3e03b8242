use Rattle.std.proofs.Common.{◌∙◌, ap₂, subst, sym}
use Rattle.cell_core.specs.MessageId.{IsMessageId}
use Rattle.cell_core.specs.Entry.{text_cmp}
use Rattle.site_docs.proofs.plain.rows.Spelled.follow.Goals as goal

-- the id is that of the last text
pub set_id-requires-clause-order : goal.set_id-requires-clause-order
set_id-requires-clause-order c =
    c.order_of-ids.ensures
    ∙ ap₂ text_cmp (c.as_str.ensures ∙ sym c.requires.id)
    (c.as_str-2.ensures ∙ sym c.as_str-3.ensures)

-- each value is that of its text
pub returns-clause-spelled : goal.returns-clause-spelled
returns-clause-spelled c = record {
  id = c.in_ok-set_id.ensures.ok.0 ∙ c.as_str-3.ensures;
  lang = c.in_ok-follow.ensures.ok.0;
  site = c.in_ok-set_site.ensures.ok.0;
  is_id = subst IsMessageId c.as_str-3.ensures c.in_ok-set_id.ensures.ok.1;
  is_lang = c.in_ok-follow.ensures.ok.1;
  is_site = c.in_ok-set_site.ensures.ok.1;
}
