-- The first 65 texts of a label are a label where all are, and are refused for the same cause, but
-- for the count of the texts.
use Rattle.std.proofs.Common.{◌≡◌, ◌∙◌, ◌≤◌, ℕ, List, [], ◌∷◌, true, length, take, refl}
use Rattle.std.proofs.Common.{ap, subst, sym, arith, inl, inr, take_all, length-take-le, nat_lt}
use Rattle.std.specs.Prelude.{◌⊎◌, Option, None, Some, is_some, option_map, MatchResult, Result, Ok}
use Rattle.std.specs.Prelude.{Err}
use Rattle.cell_core.specs.Fault.{RefusesTexts}
use Rattle.cell_core.specs.Label.{IsLabelCount}
use Rattle.cell_core.specs.declared.fault.CellFault.{CellFault}
use Rattle.cell_core.specs.declared.fault.CellFault.TheVariants.{IdRefused, TextTooLong, LabelCount}
use Rattle.cell_core.specs.declared.fault.CellFault.TheVariants.{ClockSpent, NoMemory, SiteName}
use Rattle.catalogue.specs.Entries.{Entry}
use Rattle.json_docs.specs.FaultChecks.{AllPass, FirstFails}
use Rattle.json_docs.specs.declared.fault.DocCause.{DocCause}
use Rattle.json_docs.specs.declared.fault.DocCause.TheVariants.{Field}
use Rattle.json_docs.specs.declared.fault.DocCause.TheVariants.{NoMemory as no_memory}
use Rattle.json_docs.specs.declared.fault.FieldFault.TheVariants.{Cell}
use Rattle.serde_json.specs.Data.{Data}
use Rattle.cell_core.specs.Entry.{EntryKey}
use Rattle.cell_core.specs.declared.stamp.Stamp.{Stamp}
use Rattle.json_docs.specs.ScanningReads.{seen}
use Rattle.row_docs.specs.Ascending.{entry_in, own_cell_checks, own_stamp_checks, stamped_in}
use Rattle.row_docs.specs.CutsSeen.{IsRow}
use Rattle.row_docs.specs.declared.cuts.Cut.{Cut}
use Rattle.row_docs.specs.Cuts.{recounted, texts_to}
use Rattle.row_docs.specs.EntriesValues.{Row}
use Rattle.row_docs.specs.Fields.{IsLabelRefusal, IsLabelText, cell_fields, entry_of, label_check}
use Rattle.row_docs.specs.Fields.{stamp_fields, stamped_of}
use Rattle.row_docs.specs.ShapesRows.{cell_in, stamp_in}
use Rattle.row_docs.specs.declared.version.Version.{Version}
use Rattle.row_docs.proofs.AscendingLemmas.{own_cell, own_stamp}
use Rattle.row_docs.proofs.CutsRowsLemmas.{cell_counted, first_of, first_texts, stamp_in-cut, uncut}
use Rattle.lang_core.proofs.Basics.{cases_bool, lt_is}
use Rattle.json_docs.proofs.FaultChecksLemmas.{AllPass-rest}
use Rattle.row_docs.proofs.CutsLemmas.{at_most}

-- where 64 are kept at most, all are kept
all_texts : (texts : List (List ℕ)) → length (take 65 texts) ≤ 64 → take 65 texts ≡ texts
all_texts texts few = elim (cases_bool (nat_lt 65 (length texts))) [
  | inl more ↦
      let many = lt_is 65 (length texts) more in
      let kept = length-take-le 65 texts (omega (arith, many)) in
      absurd (omega (arith, kept, few))
  | inr less ↦ take_all 65 texts (at_most 65 (length texts) less)
]

-- a label that is kept is the label
pub label_whole : (label : Option (List (List ℕ))) → IsLabelText (first_texts label)
    → first_texts label ≡ label
label_whole None is = refl
label_whole (Some texts) is = ap Some (all_texts texts is.count.most)

refused_as : (k n : ℕ) (texts : List (List ℕ)) (fault : CellFault) → n ≡ length texts
    → RefusesTexts (take 65 texts) fault
    → IsLabelRefusal k (Some texts) (recounted n (Field k (Cell fault)))
refused_as k n texts IdRefused many why = absurd why
refused_as k n texts (TextTooLong index) many why =
    let all = all_texts texts why.0.most in
    (TextTooLong index, subst (λ t. RefusesTexts t (TextTooLong index)) all why, refl)
refused_as k n texts (LabelCount count) many why = (
  LabelCount n,
  (
    many,
    λ (is : IsLabelCount (length texts)).
        why.1 (subst (λ (t : List (List ℕ)). IsLabelCount (length t))
        (sym (take_all 65 texts (omega (arith, is.most)))) is),
  ),
  refl,
)
refused_as k n texts ClockSpent many why = absurd why
refused_as k n texts NoMemory many why = absurd why
refused_as k n texts SiteName many why = absurd why

-- so many texts as a label has, where it has some
abbrev pub Counts : ℕ → Option (List (List ℕ)) → Type 0
Counts n None = Unit {0}
Counts n (Some texts) = n ≡ length texts

label_refused : (k n : ℕ) (label : Option (List (List ℕ))) (e : DocCause) → Counts n label
    → IsLabelRefusal k (first_texts label) e → IsLabelRefusal k label (recounted n e)
label_refused k n None e many why = absurd why
label_refused k n (Some texts) e many why =
    subst (λ c. IsLabelRefusal k (Some texts) (recounted n c)) (sym why.2)
    (refused_as k n texts why.0 many why.1)

module _ (k : ℕ) (row : Row) (label : Option (List (List ℕ))) where
  -- fields that pass as they are kept pass
  pub fields_pass : AllPass (cell_fields k row (first_texts label))
      → AllPass (cell_fields k row label) × (first_texts label ≡ label)
  fields_pass pass =
      let last = AllPass-rest (stamp_fields k row) (label_check k (first_texts label) ∷ []) pass in
      let whole = label_whole label last.0 in
      (subst (λ l. AllPass (cell_fields k row l)) whole pass, whole)

  -- fields that fail as they are kept fail for the same cause, but for the count of texts
  pub fields_fail : (n : ℕ) (e : DocCause) → Counts n label
      → FirstFails (cell_fields k row (first_texts label)) e
      → FirstFails (cell_fields k row label) (recounted n e)
  fields_fail n e many fails = elim fails [
    | inl id ↦ inl (id.0, ap (recounted n) id.1)
    | inr after_id ↦ inr (
      after_id.0,
      elim after_id.1 [
        | inl lang ↦ inl (lang.0, lang.1, lang.2, ap (recounted n) lang.3)
        | inr after_lang ↦ inr (
          after_lang.0,
          elim after_lang.1 [
            | inl site ↦ inl (site.0, ap (recounted n) site.1)
            | inr after_site ↦ inr (
              after_site.0,
              elim after_site.1 [
                | inl why ↦ inl (label_refused k n label e many why)
                | inr none ↦ absurd none.1
              ],
            )
          ],
        )
      ],
    )
  ]

-- how many texts are counted of the row that was kept
counts : (version : Version) (d : Data) (row : Row) (label : Option (List (List ℕ)))
    → Some (row, label) ≡ cell_in version d → Counts (texts_to 3 d) label
counts version d row None is = tt
counts version d row (Some texts) is = cell_counted version 1 row texts d (sym is)

module _ (version : Version) (k : ℕ) (d : Data) (row : Row) (kept : Option (List (List ℕ)))
    (is : Some (row, kept) ≡ option_map first_of (cell_in version d)) where
  -- a row that passes its tests as it is kept passes them
  pub kept_passes : (x : Entry) → AllPass (cell_fields k row kept) × (x ≡ entry_of row kept)
      → AllPass (own_cell_checks version k d) × (entry_in version d ≡ Some x)
  kept_passes x h =
      let found = uncut (cell_in version d) row kept is in
      let both = fields_pass k row found.0
      (subst (λ l. AllPass (cell_fields k row l)) found.2 h.0) in
      let made : x ≡ entry_of row found.0 = h.1 ∙ ap (entry_of row) (found.2 ∙ both.1) in
      own_cell (Ok x) version k d row found.0 found.1 (both.0, made)

  -- a row that fails a test as it is kept fails it, with the count of its texts
  pub kept_fails : (n : ℕ) (e : DocCause) → n ≡ texts_to 3 d
      → FirstFails (cell_fields k row kept) e
      → FirstFails (own_cell_checks version k d) (recounted n e)
  kept_fails n e many fails =
      let found = uncut (cell_in version d) row kept is in
      let all = subst (λ m. Counts m found.0) (sym many) (counts version d row found.0 found.1) in
      let failing = fields_fail k row found.0 n e all
      (subst (λ l. FirstFails (cell_fields k row l) e) found.2 fails) in
      rw (← found.1) (inr (refl, failing))

-- what is not there is not
pub not_there : {A : Type 0} (o : Option A) → None ≡ o → ¬ (is_some o ≡ true)
not_there None is = λ yes. cc
not_there (Some x) is = cc

-- the stamp of a row by itself, which is kept whole
pub stamp_by_itself : (r : Result (EntryKey × Stamp) DocCause) (version : Version) (k : ℕ)
    (row : Row) (kept : Cut) → Some row ≡ stamp_in version (seen kept.value)
    → MatchResult r (λ x. AllPass (stamp_fields k row) × (x ≡ stamped_of row))
    (λ e. (e ≡ no_memory) ⊎ FirstFails (stamp_fields k row) e)
    → MatchResult r
    (λ x. (d : Data) → IsRow d kept → AllPass (own_stamp_checks version k d)
    × (stamped_in version d ≡ Some x))
    (λ e. (e ≡ no_memory) ⊎ ((d : Data) → IsRow d kept
    → FirstFails (own_stamp_checks version k d) e))
stamp_by_itself (Ok x) version k row kept is h = λ d cut.
    own_stamp (Ok x) version k d row
    (is ∙ (ap (stamp_in version) cut.value ∙ stamp_in-cut version 2 d)) h
stamp_by_itself (Err e) version k row kept is h = elim h [
  | inl memory ↦ inl memory
  | inr fails ↦ inr (λ d cut.
      let same = is ∙ (ap (stamp_in version) cut.value ∙ stamp_in-cut version 2 d) in
      rw (← same) (inr (refl, fails)))
]
