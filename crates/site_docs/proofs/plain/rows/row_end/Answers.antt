use Rattle.std.proofs.Common.{◌≡◌, ◌∙◌, ◌++◌, ◌∷◌, List, Option, ap, ℕ}
use Rattle.serde_json.specs.Written.{compact_text}
use Rattle.row_docs.specs.EntriesValues.{Row, cell_value, label_value}
use Rattle.site_docs.specs.PlainRows.{row_in}
use Rattle.site_docs.specs.inner.PlainRows.{row_before}
use Rattle.site_docs.specs.Sink.{texts_of}
use Rattle.site_docs.proofs.PlainLemmas.{row_taken}
use Rattle.site_docs.proofs.plain.rows.row_end.Goals as goal

-- the row is what it has before its label, its label and its bracket
whole : (row : Row) (label : Option (List (List ℕ))) (text rest bracket after : List ℕ)
    → text ≡ row_before row rest → rest ≡ compact_text (label_value label) ++ bracket
    → bracket ≡ 93 ∷ after → text ≡ compact_text (cell_value row label) ++ after
whole row label text rest bracket after before labelled last =
    row_taken row label text rest after before
    (labelled ∙ ap (λ r. compact_text (label_value label) ++ r) last)

-- the text is the row, and what comes after it
pub text_until-written-requires : goal.text_until-written-requires
text_until-written-requires c =
    let row = row_in c.args.row.now.front in
    let label = texts_of c.in_ok-label.label in (
      compact_text (cell_value row label),
      whole row label c.args.text.now c.args.rest.now c.in_ok-label.bracket.now
          c.in_ok-left.left.now c.requires c.in_ok-label.ensures.text c.in_ok-left.ensures,
    )

-- the same, where it is known
pub returns-clause-text : goal.returns-clause-text
returns-clause-text c =
    let row = row_in c.args.row.now.front in
    let label = texts_of c.in_ok-label.label in
    let is = whole row label c.args.text.now c.args.rest.now c.in_ok-label.bracket.now
    c.in_ok-left.left.now c.requires c.in_ok-label.ensures.text c.in_ok-left.ensures in
    (c.text_until-written.ensures (compact_text (cell_value row label)) is, is)
