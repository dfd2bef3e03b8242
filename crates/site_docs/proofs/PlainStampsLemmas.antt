-- Rows of summaries that are put together from what is written, and the documents of these.
use Rattle.std.proofs.Common.{◌≡◌, ◌∙◌, ◌++◌, ◌∷◌, [], ℕ, List, ap, append_assoc, append-nil, codes}
use Rattle.std.proofs.Common.{decimal, false, inl, inr, sym}
use Rattle.std.specs.Prelude.{IsUtf8}
use Rattle.std.proofs.lemmas.List.{map-append}
use Rattle.json.specs.Print.{quoted}
use Rattle.serde_json.specs.Read.{read}
use Rattle.serde_json.specs.Written.{comma_if, compact_text}
use Rattle.cell_core.specs.SiteName.{IsSiteName}
use Rattle.cell_core.specs.declared.stamp.Stamp.{Stamp}
use Rattle.cata_core.specs.Delta.{Stamps}
use Rattle.cell_core.specs.Entry.{EntryKey}
use Rattle.catalogue.specs.Entries.{IsAboveAll}
use Rattle.catalogue.proofs.CatalogueAboveLemmas.{IsMap-behind}
use Rattle.json_docs.proofs.TextLineFeed.{read-line_feed}
use Rattle.row_docs.specs.Entries.{stamped_value, stamps_values}
use Rattle.row_docs.specs.WritingTexts.{text}
use Rattle.row_docs.specs.EntriesValid.{AreKeptStamps, IsKeptStamp}
use Rattle.row_docs.specs.EntriesValues.{Row, stamp_value}
use Rattle.site_docs.specs.Plain.{IsEnd, is_later, open_items}
use Rattle.site_docs.specs.inner.PlainRows.{row_until}
use Rattle.site_docs.specs.inner.PlainStamps.{stamps_text}
use Rattle.site_docs.specs.Reading.{ReadsAsSummary}
use Rattle.site_docs.specs.DocumentsValues.{summary_value}
use Rattle.cata_core.specs.Summary.{SummaryState}
use Rattle.site_docs.proofs.DocumentsLemmas.{kept_more}
use Rattle.site_docs.proofs.PlainLemmas.{is_later-map, item_taken}
use Rattle.site_docs.proofs.WritingRoundTrip.{reads_summary}

-- a row is its key and its stamp, and its bracket
pub stamp_taken : (row : Row) (text after : List ℕ) → text ≡ row_until 93 row after
    → text ≡ compact_text (stamp_value row) ++ after
stamp_taken row text after is = is ∙ simp append_assoc

-- one row more
pub stamps_taken : (old : Stamps) (t : EntryKey × Stamp) (text rest after : List ℕ)
    → text ≡ 91 ∷ (open_items false (stamps_values old) ++ rest)
    → rest ≡ comma_if (is_later old) ++ (compact_text (stamped_value t) ++ after)
    → text ≡ 91 ∷ (open_items false (stamps_values (old ++ t ∷ [])) ++ after)
stamps_taken old t text rest after so_far next =
    let later : is_later old ≡ is_later (stamps_values old) = sym (is_later-map stamped_value old)
    in
    rw (map-append stamped_value old (t ∷ []))
    (item_taken (stamps_values old) (stamped_value t) text rest after so_far
    (next ∙ ap (λ b. comma_if b ++ (compact_text (stamped_value t) ++ after)) later))

-- with one row more they are as every summary keeps them
pub stamps_kept : (old : Stamps) (t : EntryKey × Stamp) → AreKeptStamps old → IsKeptStamp t
    → IsAboveAll t.0 old → AreKeptStamps (old ++ t ∷ [])
stamps_kept old t kept one above = record {
  each = kept_more IsKeptStamp old t kept.each one;
  map = IsMap-behind old t.0 t.1 kept.map above;
}

-- ---- documents

-- the text of a summary's document, up to what comes after its brace
document_is : (owner rows after : List ℕ)
    → 123 ∷ (quoted (codes "kind") ++ 58 ∷ (quoted (codes "summary") ++ 44 ∷
    (quoted (codes "owner") ++ 58 ∷ (quoted owner ++ 44 ∷ (quoted (codes "stamps") ++ 58 ∷
    (rows ++ 44 ∷ (quoted (codes "version") ++ 58 ∷ (decimal 2 ++ 125 ∷ after))))))))
    ≡ 123 ∷ (quoted (codes "kind") ++ 58 ∷ (quoted (codes "summary") ++ 44 ∷
    (quoted (codes "owner") ++ 58 ∷ (quoted owner ++ 44 ∷ (quoted (codes "stamps") ++ 58 ∷
    (rows ++ 44 ∷ (quoted (codes "version") ++ 58 ∷ (decimal 2 ++ 125 ∷ [])))))))) ++ after
document_is owner rows after = simp append_assoc

-- a document is its members, and ends in its line feed or without it
pub summary_taken : (bytes text r1 r2 r3 r4 r5 r6 r7 end : List ℕ) (owner : List ℕ)
    (stamps : Stamps) → (text ≡ bytes) × IsUtf8 bytes
    → text ≡ 123 ∷ (quoted (codes "kind") ++ 58 ∷ r1) → r1 ≡ quoted (codes "summary") ++ r2
    → r2 ≡ 44 ∷ (quoted (codes "owner") ++ 58 ∷ r3) → r3 ≡ quoted owner ++ r4
    → r4 ≡ 44 ∷ (quoted (codes "stamps") ++ 58 ∷ r5) → r5 ≡ stamps_text stamps ++ r6
    → r6 ≡ 44 ∷ (quoted (codes "version") ++ 58 ∷ r7) → r7 ≡ decimal 2 ++ end → IsEnd end
    → IsSiteName owner → AreKeptStamps stamps
    → ReadsAsSummary bytes (record { owner = owner; stamps = stamps })
summary_taken bytes text r1 r2 r3 r4 r5 r6 r7 end owner stamps is p1 p2 p3 p4 p5 p6 p7 p8 ends name
    kept = by ends
  where
    summary : SummaryState
    summary = record { owner = owner; stamps = stamps }

    members : (after : List ℕ) → end ≡ 125 ∷ after
        → bytes ≡ compact_text (summary_value owner (stamps_values stamps)) ++ after
    members after braced =
        sym is.0 ∙ p1
        ∙ ap (λ r. 123 ∷ (quoted (codes "kind") ++ 58 ∷ r))
        (p2 ∙ ap (λ r. quoted (codes "summary") ++ r)
        (p3 ∙ ap (λ r. 44 ∷ (quoted (codes "owner") ++ 58 ∷ r))
        (p4 ∙ ap (λ r. quoted owner ++ r)
        (p5 ∙ ap (λ r. 44 ∷ (quoted (codes "stamps") ++ 58 ∷ r))
        (p6 ∙ ap (λ r. stamps_text stamps ++ r)
        (p7 ∙ ap (λ r. 44 ∷ (quoted (codes "version") ++ 58 ∷ r))
        (p8 ∙ ap (λ r. decimal 2 ++ r) braced)))))))
        ∙ document_is owner (stamps_text stamps) after

    by : IsEnd end → ReadsAsSummary bytes summary
    by (inl fed) =
        reads_summary bytes summary name kept is.1
        (ap read (members (10 ∷ []) fed))
    by (inr cut) =
        let whole = members [] cut
        ∙ append-nil (compact_text (summary_value owner (stamps_values stamps))) in
        reads_summary bytes summary name kept is.1
        (sym (read-line_feed bytes) ∙ ap (λ r. read (r ++ 10 ∷ [])) whole)
