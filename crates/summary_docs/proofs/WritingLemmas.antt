-- The document of a summary that shows labels, as it is written, reads as that summary.
use Rattle.std.proofs.Common.{◌≡◌, ◌∙◌, ◌+◌, ◌<◌, ◌^◌, ◌++◌, ℕ, List, [], ◌∷◌, true}
use Rattle.std.proofs.Common.{cond}
use Rattle.std.proofs.Common.{ap, append_assoc, arith, codes, inr, length, map, refl, subst, sym}
use Rattle.std.proofs.Common.{take}
use Rattle.std.specs.Prelude.{IsUtf8, None, Option, Some, slice_get}
use Rattle.std.specs.List.{All, list_all}
use Rattle.std.specs.Str.{bytes_eq}
use Rattle.std.proofs.lemmas.List.{length-map, map-append}
use Rattle.json.specs.Print.{print}
use Rattle.json.specs.Written.{Written}
use Rattle.json.specs.Token.{Token, begin_array, begin_object, end_array, key}
use Rattle.json.specs.Token as token
use Rattle.json.proofs.Printed.Decimals.{IsNumber-decimal}
use Rattle.serde_json.specs.Data.{Data, string}
use Rattle.serde_json.specs.Read.{read}
use Rattle.serde_json.proofs.Numbers.{number_of-decimal}
use Rattle.lang_core.proofs.Basics.{each_true}
use Rattle.cell_core.specs.SiteName.{IsSiteName}
use Rattle.cell_core.specs.declared.stamp.Stamp.{Stamp}
use Rattle.cell_core.specs.Entry.{EntryKey}
use Rattle.cata_core.specs.Delta.{Stamps}
use Rattle.cata_core.specs.Summary.{SummaryState}
use Rattle.json_docs.specs.FaultChecks.{AllPass, Check, rows_checks}
use Rattle.json_docs.proofs.FaultChecksLemmas.{AllPass-both}
use Rattle.row_docs.specs.Ascending.{stamp_checks}
use Rattle.row_docs.specs.Entries.{stamped_value, stamps_values}
use Rattle.row_docs.specs.EntriesValid.{AreKeptStamps, IsKeptStamp}
use Rattle.row_docs.specs.EntriesValues.{texts_value}
use Rattle.row_docs.specs.Headers.{HasJust, header_checks, rows_in, subject_data, version_of}
use Rattle.row_docs.specs.Kinds.{names_of}
use Rattle.row_docs.specs.inner.WritingEnvelope.{version_tokens}
use Rattle.row_docs.specs.WritingTexts.{Adds, text, value_tokens}
use Rattle.row_docs.specs.inner.WritingTexts.{row_tokens}
use Rattle.row_docs.specs.declared.kind.Kind.TheVariants.{Summary}
use Rattle.row_docs.proofs.EntriesWrittenRows.{list_of-items_of, stamps_again, stamps_pass}
use Rattle.row_docs.proofs.EntriesWrittenTexts.{label_written, read-text, stamps_written}
use Rattle.row_docs.proofs.HeadersLemmas.{in_turn, some_member}
use Rattle.row_docs.proofs.WritingTextsLemmas.{Adds-then, printed, row_tokens-push, rows_member}
use Rattle.site_docs.proofs.DocumentsLemmas.{kept_more, taken_more}
use Rattle.site_docs.specs.DocumentsValues.{summary_value}
use Rattle.site_docs.specs.SiteDocuments.{IsSummaryDocument, subject_checks, summary_checks}
use Rattle.summary_docs.specs.Reading.{HasDigests, ReadsAsShown, digest_in, is_digest}
use Rattle.summary_docs.specs.Shown.{ShownState}
use Rattle.summary_docs.specs.Writing.{shown_text, shown_value}
use Rattle.summary_docs.specs.inner.Writing.{labels_opening}

-- ---- the tokens

-- the opening, the rows and the end are the document
pub shown_closed : (owner : List ℕ) (digests : List (List ℕ)) (rows : List Data)
    → (labels_opening owner digests ++ row_tokens rows) ++ end_array ∷ version_tokens
    ≡ value_tokens (shown_value owner digests rows)
shown_closed owner digests rows =
    let labels = value_tokens (texts_value digests) in
    let opened : List Token =
    key (codes "owner") ∷ token.string owner ∷ key (codes "stamps") ∷ begin_array ∷ [] in
    ap (λ t. begin_object ∷ key (codes "kind") ∷ token.string (codes "summary")
    ∷ key (codes "labels") ∷ t)
    (append_assoc (labels ++ opened) (row_tokens rows) (end_array ∷ version_tokens)
    ∙ append_assoc labels opened (row_tokens rows ++ end_array ∷ version_tokens)
    ∙ ap (λ t. labels ++ key (codes "owner") ∷ token.string owner ∷ key (codes "stamps")
    ∷ begin_array ∷ t) (sym (rows_member rows version_tokens)))

-- a draft that is opened, has the rows and is ended has the text of the document
pub shown_written : (start opened wrote ended : Written) (owner : List ℕ)
    (digests : List (List ℕ)) (stamps : Stamps) → start.before ≡ [] → start.tokens ≡ []
    → Adds start opened (labels_opening owner digests)
    → Adds opened wrote (row_tokens (stamps_values stamps))
    → Adds wrote ended (end_array ∷ version_tokens)
    → (ended.before ≡ []) × (ended.before ++ (print ended.tokens ++ 10 ∷ [])
    ≡ text (shown_value owner digests (stamps_values stamps)))
shown_written start opened wrote ended owner digests stamps none empty p q r =
    let all = Adds-then start wrote ended _ _ (Adds-then start opened wrote _ _ p q) r in
    let before : ended.before ≡ [] = all.0 ∙ none in
    let tokens : ended.tokens ≡ value_tokens (shown_value owner digests (stamps_values stamps)) =
    all.1
    ∙ ap (λ t. t ++ ((labels_opening owner digests ++ row_tokens (stamps_values stamps))
    ++ end_array ∷ version_tokens)) empty
    ∙ shown_closed owner digests (stamps_values stamps) in (
      before,
      ap (λ b. b ++ (print ended.tokens ++ 10 ∷ [])) before
          ∙ printed ended.tokens (shown_value owner digests (stamps_values stamps)) tokens,
    )

-- one stamp more
pub stamp_more : (a b c : Written) (stamps : Stamps) (place : ℕ) (t : EntryKey × Stamp)
    → slice_get stamps place ≡ Some t
    → Adds a b (row_tokens (stamps_values (take place stamps)))
    × All IsKeptStamp (take place stamps)
    → Adds b c (value_tokens (stamped_value t)) → IsKeptStamp t
    → Adds a c (row_tokens (stamps_values (take (place + 1) stamps)))
    × All IsKeptStamp (take (place + 1) stamps)
stamp_more a b c stamps place t is held wrote kept =
    let rows : row_tokens (stamps_values (take place stamps ++ t ∷ []))
    ≡ row_tokens (stamps_values (take place stamps)) ++ value_tokens (stamped_value t) =
    ap row_tokens (map-append stamped_value (take place stamps) (t ∷ []))
    ∙ row_tokens-push (stamps_values (take place stamps)) (stamped_value t) in
    subst (λ (ss : Stamps). Adds a c (row_tokens (stamps_values ss)) × All IsKeptStamp ss)
    (sym (taken_more stamps place t is)) (
      subst (Adds a c) (sym rows) (Adds-then a b c _ _ held.0 wrote),
      kept_more IsKeptStamp (take place stamps) t held.1 kept,
    )

-- ---- without labels

plain_names : (owner : List ℕ) (rows : List Data)
    → HasJust (names_of Summary) (summary_value owner rows)
plain_names owner rows q =
    rw (
      some_member q (codes "kind"),
      some_member q (codes "owner"),
      some_member q (codes "stamps"),
      some_member q (codes "version"),
    )
    (in_turn (bytes_eq q (codes "kind")) (bytes_eq q (codes "owner")) (bytes_eq q (codes "stamps"))
    (bytes_eq q (codes "version")))

-- the tests after those of the header
abbrev rest_checks : Data → List Check
rest_checks d = subject_checks (version_of d) (subject_data Summary d) ++ rows_checks
    (stamp_checks (version_of d)) [] (rows_in Summary d)

-- the value that is written without labels passes all tests
plain_passes : (summary : SummaryState) → IsSiteName summary.owner → AreKeptStamps summary.stamps
    → AllPass (summary_checks (summary_value summary.owner (stamps_values summary.stamps)))
plain_passes summary name kept =
    let d = summary_value summary.owner (stamps_values summary.stamps) in
    let header : AllPass (header_checks Summary d) = (
      (refl, refl),
      (inr refl, ((plain_names summary.owner (stamps_values summary.stamps), refl), tt)),
    ) in
    let rest : AllPass (rest_checks d) = (
      refl,
      (
        name,
        rw (list_of-items_of (stamps_values summary.stamps))
            (stamps_pass summary.stamps kept),
      ),
    ) in
    AllPass-both (header_checks Summary d) (rest_checks d) header rest

plain_is : (summary : SummaryState) → AreKeptStamps summary.stamps
    → IsSummaryDocument (summary_value summary.owner (stamps_values summary.stamps)) summary
plain_is summary kept = record {
  owner = refl;
  stamps = rw (list_of-items_of (stamps_values summary.stamps))
      (stamps_again summary.stamps kept.each);
}

-- ---- with labels

digests_again : (digests : List (List ℕ)) → list_all is_digest digests ≡ true
    → map digest_in (map string digests) ≡ map Some digests
digests_again [] are = refl
digests_again (d ∷ ds) are =
    let each = each_true (is_digest d) (list_all is_digest ds) are in
    let first : (let r : Option (List ℕ) = cond (is_digest d) (Some d) None in r ≡ Some d) =
    ap (λ b. cond b (Some d) None) each.0 in
    (λ i. first i ∷ digests_again ds each.1 i)

has_digests : (owner : List ℕ) (digests : List (List ℕ)) (stamps : Stamps)
    → list_all is_digest digests ≡ true → length digests ≡ length stamps
    → HasDigests (shown_value owner digests (stamps_values stamps)) digests
has_digests owner digests stamps are each = record {
  items = map string digests;
  there = ap Some (list_of-items_of (map string digests));
  are = digests_again digests are;
  each = each ∙ sym (ap length (list_of-items_of (stamps_values stamps))
      ∙ length-map stamps _);
}

two : 2 < 2 ^ 64
two = omega arith

-- the text is read as its value
read-shown : (owner : List ℕ) (digests : List (List ℕ)) (stamps : Stamps) → All IsKeptStamp stamps
    → read (text (shown_value owner digests (stamps_values stamps)))
    ≡ Some (shown_value owner digests (stamps_values stamps))
read-shown owner digests stamps kept =
    let rows = stamps_written stamps kept in
    let labels = label_written (Some digests) in
    read-text (shown_value owner digests (stamps_values stamps))
    (tt, (labels.numbers, (tt, (rows.numbers, (IsNumber-decimal 2 two, tt)))))
    (omega (arith, rows.shallow, labels.shallow))
    (rw (labels.back, rows.back, number_of-decimal 2 two) refl)

-- the text that is written for a summary with labels reads as that summary
pub shown_again : (shown : ShownState) → IsSiteName shown.summary.owner
    → AreKeptStamps shown.summary.stamps → list_all is_digest shown.digests ≡ true
    → length shown.digests ≡ length shown.summary.stamps → IsUtf8 (shown_text shown)
    → ReadsAsShown (shown_text shown) shown
shown_again shown name kept are each utf8 =
    let summary = shown.summary in
    let has = has_digests summary.owner shown.digests summary.stamps are each in (
      shown_value summary.owner shown.digests (stamps_values summary.stamps),
      (utf8, read-shown summary.owner shown.digests summary.stamps kept.each),
      ((shown.digests, has), plain_passes summary name kept),
      (plain_is summary kept, has),
    )
