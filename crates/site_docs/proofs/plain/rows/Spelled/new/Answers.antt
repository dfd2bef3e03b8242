use Rattle.std.proofs.Common.{◌∙◌, subst}
use Rattle.cell_core.specs.MessageId.{IsMessageId}
use Rattle.site_docs.proofs.plain.rows.Spelled.new.Goals as goal

-- each value is that of its text
pub returns-clause-spelled : goal.returns-clause-spelled
returns-clause-spelled c = record {
  id = c.in_ok-id.ensures.0 ∙ c.as_str.ensures;
  lang = c.in_ok-languages.ensures.0;
  site = c.in_ok-site.ensures.0;
  is_id = subst IsMessageId c.as_str.ensures c.in_ok-id.ensures.1;
  is_lang = c.in_ok-languages.ensures.1;
  is_site = c.in_ok-site.ensures.1;
}
