use Rattle.std.proofs.Common.{◌≡◌, ◌∙◌, ◌++◌, ap, sym}
use Rattle.std.proofs.lemmas.Option.{IfSome_then}
use Rattle.std.specs.Prelude.{⊤}
use Rattle.std.specs.declared.cmp.Ordering.TheVariants.{Less}
use Rattle.cell_core.specs.Entry.{key_cmp}
use Rattle.catalogue.specs.Entries.{Entry, IsAboveAll}
use Rattle.site_docs.specs.WrittenRows.{current_of, entry_of}
use Rattle.site_docs.proofs.DocumentsLemmas.{kept_more}
use Rattle.docs_core.specs.inner.SyncedRows.{order_to}
use Rattle.docs_core.proofs.SyncedRowsLemmas.{row_written, some_both}
use Rattle.docs_core.proofs.call.synced_rows.write_row.Goals as goal

-- one row more is read
pub returns-clause-read : goal.returns-clause-read
returns-clause-read c =
    IfSome_then c.advance.result c.advance.ensures.read (λ _ reads. (
      c.requires.0,
      c.requires.1 ++ current_of c.advance.new.rows,
      reads c.requires.0 c.requires.1 c.requires.2,
    ))

-- the row comes before the key
pub returns-clause-before : goal.returns-clause-before
returns-clause-before c =
    let d = entry_of c.in-Some.row in
    let shown = c.in-Some.ensures in
    let theirs = c.in_ok-write_theirs.ensures in
    some_both c.advance.result c.advance.ensures.read c.advance.ensures.in_time
    (λ _ reads in_time. λ id lang bytes seen less so_far.
    row_written {Below = IsAboveAll (id, lang)} {After = IsAboveAll (id, lang)} d c.args.tests.now
    bytes c.args.rows.now c.advance.new.rows c.args.draft.now c.write_theirs.new.draft seen shown.0
    theirs.0 so_far (reads bytes) in_time
    theirs.1
    (λ taken below. kept_more (λ (x : Entry). key_cmp x.0 (id, lang) ≡ Less) taken d below
    (ap (order_to (id, lang)) (sym shown.0) ∙ less)))

-- no key is seen any more
pub returns-clause-all : goal.returns-clause-all
returns-clause-all c =
    let d = entry_of c.in-Some.row in
    let shown = c.in-Some.ensures in
    let theirs = c.in_ok-write_theirs.ensures in
    some_both c.advance.result c.advance.ensures.read c.advance.ensures.in_time
    (λ _ reads in_time. λ bytes seen so_far.
    row_written {Below = λ taken. ⊤} {After = λ taken. ⊤} d c.args.tests.now bytes c.args.rows.now
    c.advance.new.rows c.args.draft.now c.write_theirs.new.draft seen shown.0 theirs.0 so_far
    (reads bytes) in_time
    theirs.1 (λ taken below. tt))
