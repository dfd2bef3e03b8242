use Rattle.std.proofs.Common.{◌≡◌, ◌∙◌, ◌++◌, ◌∷◌, ap, decimal, rules}
use Rattle.row_docs.specs.EntriesValues.{Row}
use Rattle.site_docs.specs.PlainRows.{text_in}
use Rattle.site_docs.proofs.PlainLemmas.{front_taken}
use Rattle.site_docs.proofs.plain.rows.next_front.Goals as goal

-- The text is what a row has before its label: each part was taken with the bytes around it, just
-- as they are written.
pub returns : goal.returns
returns c =
    let row : Row = record {
      id = text_in c.in_ok-id.id;
      language = c.in_ok-language.language.now;
      time = c.in_ok-time.time;
      site = c.in_ok-site.site.now;
      count = c.in-Ok.count;
    } in
    let rest = c.in_ok-count.rest.now in
    let count : c.in_ok-count.count ≡ c.in-Ok.count = search rules in
    let time = c.in_ok-time.ensures
    ∙ ap (λ r. decimal row.time ++ 44 ∷ r) c.in_ok-rest.ensures in
    front_taken c.args.end row c.args.text.now c.in_ok-id.rest.now
    c.in_ok-language.rest.now c.in_ok-rest.rest.now c.in_ok-site.rest.now rest
    c.in_ok-id.ensures c.in_ok-language.ensures time
    c.in_ok-site.ensures (c.in_ok-count.ensures ∙ ap (λ n. decimal n ++ c.args.end ∷ rest) count)
