-- What a question about a message needs of the document of a site. Project rule.
use Rattle.std.specs.Prelude.{◌≡◌, ◌++◌, ℕ, All, List, false}
use Rattle.cata_core.specs.Site.{SiteState}
use Rattle.site_docs.specs.Reading.{ReadsAsSite}
use Rattle.text_docs.specs.Rows.{IsTail, opening}
use Rattle.text_docs.specs.RowsCompact.{CompactRow, IsCompactRow, entries, rows_text}

-- the document reads as this site; its members are in the order in which they are written, its rows
-- have no blanks in and between them, and their strings have any escapes
pub record IsCompactSite (text : List ℕ) (site : SiteState) : Type 0 where
  pub reads : ReadsAsSite text site
  pub rows : List CompactRow
  pub tail : List ℕ
  pub whole : text ≡ opening ++ (rows_text false rows ++ tail)
  pub is_tail : IsTail tail
  pub each : All IsCompactRow rows
  pub cells : entries rows ≡ site.cells
