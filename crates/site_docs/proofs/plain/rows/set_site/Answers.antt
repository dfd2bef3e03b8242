use Rattle.site_docs.proofs.plain.rows.set_site.Goals as goal

-- the name with the new text
pub returns-in_ok-site-clause-ok : goal.returns-in_ok-site-clause-ok
returns-in_ok-site-clause-ok c = c.in_ok-site.ensures
