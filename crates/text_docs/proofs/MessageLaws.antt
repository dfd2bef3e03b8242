-- What is written for a site is a document whose rows have no blanks.
use Rattle.std.proofs.Common.{◌∙◌, ◌++◌, ◌∷◌, ℕ, List, false, ap, codes, refl, subst, sym}
use Rattle.catalogue.specs.Entries.{Entries}
use Rattle.cata_core.specs.Site.{SiteState}
use Rattle.row_docs.specs.EntriesValid.{AreKeptCells}
use Rattle.row_docs.specs.declared.kind.Kind.TheVariants.{Site}
use Rattle.site_docs.specs.Plain.{IsPlainText, last_members}
use Rattle.site_docs.proofs.PlainReads.{plain_site}
use Rattle.text_docs.specs.Message.{IsCompactSite}
use Rattle.text_docs.specs.Rows.{opening}
use Rattle.text_docs.specs.inner.Rows.{AreRows}
use Rattle.text_docs.proofs.MessageTextLemmas.{rows_of_text}
use Rattle.text_docs.proofs.RowsPlainLemmas.{plain_compact, plain_entries, plain_rows}
use Rattle.text_docs.proofs.RowsPlainLemmas.{plain_rows_text}

-- a written document has the rows that are written for its cells, and then its last members
pub written_rows : (text name : List ℕ) (cells : Entries) → IsPlainText Site text name cells
    → (end : List ℕ)
    × AreRows text (plain_rows cells) (93 ∷ last_members (codes "site") (codes "site") name end)
written_rows text name cells plain =
    let rows = rows_of_text text name cells plain in
    let tail = 93 ∷ last_members (codes "site") (codes "site") name rows.0 in (
      rows.0,
      record {
        whole = rows.2 ∙ ap (λ bs. opening ++ bs) (sym (plain_rows_text false cells tail));
        is_tail = record {
          name = name;
          end = rows.0;
          is_name = plain.is_name;
          is_end = rows.1;
          tail_is = refl;
        };
        each = plain_compact cells;
        kept = subst AreKeptCells (sym (plain_entries cells)) plain.kept;
      },
    )

-- and so it has no blanks in its rows
pub written_compact : (text : List ℕ) (site : SiteState)
    → IsPlainText Site text site.name site.cells → IsCompactSite text site
written_compact text site plain =
    let written = written_rows text site.name site.cells plain in
    let are = written.1 in record {
      reads = plain_site text site.name site.cells plain;
      rows = plain_rows site.cells;
      tail = 93 ∷ last_members (codes "site") (codes "site") site.name written.0;
      whole = are.whole;
      is_tail = are.is_tail;
      each = are.each;
      cells = plain_entries site.cells;
    }
