-- No text is both read and refused, and it is refused for one cause.
--
-- A document is a list of tests, each with the causes for which it refuses. `IsTest` says of one
-- that nothing both passes and fails it, and that it refuses for one cause; `AreTests` of all. Then
-- a text that passes all is not refused, and the first test that fails gives the one cause. What is
-- left is to see that each test of each kind of document is one: of its fields that is
-- SitesFieldRefusals.
use Rattle.std.proofs.Common.{◌≡◌, ◌∙◌, ◌++◌, ◌+◌, ℕ, List, [], ◌∷◌, Bool, true, false, length, sym}
use Rattle.std.proofs.Common.{ap, subst, inl, inr}
use Rattle.std.specs.Prelude.{Option, None, Some, codes, unwrap_or}
use Rattle.serde_json.specs.Data.{Data}
use Rattle.cell_core.specs.declared.fault.CellFault.{CellFault}
use Rattle.lang_core.specs.declared.fault.LangFault.{LangFault}
use Rattle.list_core.specs.declared.fault.NegoFault.{NegoFault}
use Rattle.list_core.specs.declared.scheme.Scheme.{Scheme}
use Rattle.json_docs.specs.FaultChecks.{AllPass, AreJson, Check, FirstFails, IsRefusal}
use Rattle.json_docs.specs.FaultChecks.{IsTextRefusal}
use Rattle.json_docs.specs.FaultChecks.{check, rows_checks}
use Rattle.row_docs.specs.Fields.{IsLabelRefusal, IsLabelText, cell_fields, key_of, label_check}
use Rattle.row_docs.specs.Fields.{language_check, order_check, stamp_fields}
use Rattle.row_docs.specs.Headers.{header_checks, rows_in, subject_data, version_of}
use Rattle.map_docs.specs.LabelsChecks as maps
use Rattle.map_docs.specs.MembersRows as map_rows
use Rattle.json_docs.specs.declared.fault.DocCause.{DocCause}
use Rattle.json_docs.specs.declared.fault.DocCause.TheVariants.{Field}
use Rattle.json_docs.specs.declared.fault.FieldFault.TheVariants.{Cell, Language, Priorities}
use Rattle.site_docs.specs.SiteDocuments.{document_checks, subject_checks}
use Rattle.row_docs.specs.Reading.{Reads}
use Rattle.row_docs.specs.Ascending.{cell_checks, cell_row, entry_in, last_key, own_cell_checks}
use Rattle.row_docs.specs.Ascending.{own_stamp_checks, stamp_checks, stamp_row, stamped_in}
use Rattle.row_docs.specs.EntriesValues.{Row}
use Rattle.row_docs.specs.declared.kind.Kind.{Kind}
use Rattle.row_docs.specs.declared.kind.Kind.TheVariants.{Script, Summary}
use Rattle.row_docs.specs.declared.version.Version.{Version}
use Rattle.summary_docs.specs.Reading.{checks_by, shown_checks, shows_labels, without}
use Rattle.script_docs.specs.Reading.{script_checks, sites_check}
use Rattle.script_docs.specs.StepFields.{default_checks, list_check, shaped_fields, step_checks}
use Rattle.script_docs.specs.StepFields.{step_fields}
use Rattle.script_docs.specs.Steps.{StepText, edit_step, merge_step, filter_step, lookup_step}
use Rattle.script_docs.specs.Steps.{cells_step, tell_step, post_step, deliver_step, step_in}
use Rattle.docs_core.proofs.SitesFieldRefusals.{no_label, no_language, no_list, one_label_fault}
use Rattle.docs_core.proofs.SitesFieldRefusals.{one_language_fault, one_list_fault}

-- nothing both passes and fails it, and it refuses for one cause
pub record IsTest (c : Check) : Type 0 where
  pub apart : (e : DocCause) → c.passes → c.refuses e → ⊥
  pub one : (e f : DocCause) → c.refuses e → c.refuses f → e ≡ f

-- each of them is one
abbrev pub AreTests : List Check → Type 0
AreTests [] = Unit {0}
AreTests (c ∷ cs) = IsTest c × AreTests cs

both : (xs ys : List Check) → AreTests xs → AreTests ys → AreTests (xs ++ ys)
both [] ys p q = q
both (x ∷ xs) ys p q = (p.0, both xs ys p.1 q)

apart_all : (cs : List Check) (e : DocCause) → AreTests cs → AllPass cs → FirstFails cs e → ⊥
apart_all [] e t p q = q
apart_all (c ∷ cs) e t p q = elim q [
  | inl h ↦ t.0.apart e p.0 h
  | inr h ↦ apart_all cs e t.1 p.1 h.1
]

one_all : (cs : List Check) (e f : DocCause) → AreTests cs → FirstFails cs e → FirstFails cs f
    → e ≡ f
one_all [] e f t p q = absurd p
one_all (c ∷ cs) e f t p q = elim p [
  | inl h ↦ elim q [ inl k ↦ t.0.one e f h k | inr k ↦ absurd (t.0.apart e k.0 h) ]
  | inr h ↦ elim q [ inl k ↦ absurd (t.0.apart f h.0 k) | inr k ↦ one_all cs e f t.1 h.1 k.1 ]
]

-- ---- the tests

plain : (p : Type 0) (cause : DocCause) → IsTest (check p cause)
plain p cause = record { apart = λ e h r. r.0 h; one = λ e f r s. r.1 ∙ sym s.1 }

language : (k : ℕ) (text : List ℕ) → IsTest (language_check k text)
language k text = record {
  apart = λ e h r. no_language text h.0 r.0 r.1 h.1 r.2;
  one =
      λ e f r s. r.3
      ∙ ap (λ (x : LangFault). Field k (Language x))
      (one_language_fault text r.0 s.0 r.1 s.1 r.2 s.2) ∙ sym s.3;
}

label_apart : (k : ℕ) (texts : Option (List (List ℕ))) (e : DocCause) → IsLabelText texts
    → IsLabelRefusal k texts e → ⊥
label_apart k None e h r = r
label_apart k (Some texts) e h r = no_label texts r.0 h r.1

label_one : (k : ℕ) (texts : Option (List (List ℕ))) (e f : DocCause) → IsLabelRefusal k texts e
    → IsLabelRefusal k texts f → e ≡ f
label_one k None e f r s = absurd r
label_one k (Some texts) e f r s =
    r.2 ∙ ap (λ (x : CellFault). Field k (Cell x)) (one_label_fault texts r.0 s.0 r.1 s.1) ∙ sym s.2

label : (k : ℕ) (texts : Option (List (List ℕ))) → IsTest (label_check k texts)
label k texts = record { apart = label_apart k texts; one = label_one k texts }

strings_apart : (k : ℕ) (texts : List (List ℕ)) (e : DocCause) → maps.IsLabelOrNone texts
    → maps.IsStringsRefusal k texts e → ⊥
strings_apart k [] e h r = r
strings_apart k (t ∷ ts) e h r = label_apart k (Some (t ∷ ts)) e h r

strings_one : (k : ℕ) (texts : List (List ℕ)) (e f : DocCause) → maps.IsStringsRefusal k texts e
    → maps.IsStringsRefusal k texts f → e ≡ f
strings_one k [] e f r s = absurd r
strings_one k (t ∷ ts) e f r s = label_one k (Some (t ∷ ts)) e f r s

strings : (k : ℕ) (texts : List (List ℕ)) → IsTest (maps.strings_check k texts)
strings k texts = record { apart = strings_apart k texts; one = strings_one k texts }

list : (k : ℕ) (scheme : Scheme) (text : List ℕ) → IsTest (list_check k scheme text)
list k scheme text = record {
  apart = λ e h r. no_list scheme text r.0 r.1 h.0 h.1.0 h.1.1 r.2;
  one =
      λ e f r s. r.3
      ∙ ap (λ (x : NegoFault). Field k (Priorities x))
      (one_list_fault scheme text r.0 s.0 r.1 s.1 r.2 s.2) ∙ sym s.3;
}

-- ---- rows

rows : (checks : List Data → Data → List Check)
    → ((before : List Data) (d : Data) → AreTests (checks before d)) → (before ds : List Data)
    → AreTests (rows_checks checks before ds)
rows checks each before [] = tt
rows checks each before (d ∷ ds) =
    both (checks before d) (rows_checks checks (before ++ d ∷ []) ds) (each before d)
    (rows checks each (before ++ d ∷ []) ds)

stamps : (k : ℕ) (row : Row) → AreTests (stamp_fields k row)
stamps k row = (plain _ _, (language _ _, (plain _ _, tt)))

cells : (k : ℕ) (row : Row) (texts : Option (List (List ℕ))) → AreTests (cell_fields k row texts)
cells k row texts =
    both (stamp_fields k row) (label_check k texts ∷ []) (stamps k row) (label k texts, tt)

cell_rows : (version : Version) (before : List Data) (d : Data)
    → AreTests (cell_checks version before d)
cell_rows version before d =
    both (own_cell_checks version (length before) d)
    (order_check (length before) (last_key (entry_in version) before)
    (key_of (cell_row version d).0) ∷ [])
    (plain _ _, cells (length before) (cell_row version d).0 (cell_row version d).1)
    (plain _ _, tt)

stamp_rows : (version : Version) (before : List Data) (d : Data)
    → AreTests (stamp_checks version before d)
stamp_rows version before d =
    both (own_stamp_checks version (length before) d)
    (order_check (length before) (last_key (stamped_in version) before)
    (key_of (stamp_row version d)) ∷ [])
    (plain _ _, stamps (length before) (stamp_row version d)) (plain _ _, tt)

defaults : (k : ℕ) (text : Option (List ℕ)) → AreTests (default_checks k text)
defaults k None = tt
defaults k (Some text) = (language k text, tt)

steps : (k : ℕ) (text : StepText) → AreTests (step_fields k text)
steps k (edit_step site row) = cells k row.0 row.1
steps k (merge_step into source) = tt
steps k (filter_step site id scheme field) = (plain _ _, (list _ _ _, tt))
steps k (lookup_step site id field default) = (plain _ _, (list _ _ _, defaults k default))
steps k (cells_step site) = tt
steps k (tell_step site) = tt
steps k (post_step site told) = tt
steps k (deliver_step post) = tt

shaped : (k : ℕ) (text : Option StepText) → AreTests (shaped_fields k text)
shaped k None = tt
shaped k (Some text) = steps k text

step_rows : (version : Version) (before : List Data) (d : Data)
    → AreTests (step_checks version before d)
step_rows version before d = (plain _ _, shaped (length before) (step_in version d))

-- ---- documents

headers : (kind : Kind) (d : Data) → AreTests (header_checks kind d)
headers kind d = (plain _ _, (plain _ _, (plain _ _, tt)))

named : (kind : Kind) (checks : Version → List Data → Data → List Check)
    → ((version : Version) (before : List Data) (d : Data) → AreTests (checks version before d))
    → (d : Data) → AreTests (document_checks kind checks d)
named kind checks each d =
    both (header_checks kind d)
    (subject_checks (version_of d) (subject_data kind d)
    ++ rows_checks (checks (version_of d)) [] (rows_in kind d)) (headers kind d)
    (both (subject_checks (version_of d) (subject_data kind d))
    (rows_checks (checks (version_of d)) [] (rows_in kind d)) (plain _ _, (plain _ _, tt))
    (rows (checks (version_of d)) (each (version_of d)) [] (rows_in kind d)))

-- each test of a document of cells is one
pub cells_named : (kind : Kind) (d : Data) → AreTests (document_checks kind cell_checks d)
cells_named kind d = named kind cell_checks cell_rows d

-- each test of a document of stamps is one
pub stamps_named : (kind : Kind) (d : Data) → AreTests (document_checks kind stamp_checks d)
stamps_named kind d = named kind stamp_checks stamp_rows d

-- each test of a summary's document that may show labels is one
pub shown_named : (d : Data) → AreTests (shown_checks d)
shown_named d = by (shows_labels d)
  where
    by : (shows : Bool) → AreTests (checks_by shows d)
    by false = stamps_named Summary d
    by true = (plain _ _, stamps_named Summary (without (codes "labels") d))

-- each test of a document of a script is one
pub scripts : (d : Data) → AreTests (script_checks d)
scripts d =
    both (header_checks Script d)
    (sites_check (subject_data Script d)
    ∷ rows_checks (step_checks (version_of d)) [] (rows_in Script d)) (headers Script d) (
      plain _ _,
      rows (step_checks (version_of d)) (step_rows (version_of d)) []
          (rows_in Script d),
    )

-- ---- language maps

map_keys : (k : ℕ) (before : List (List ℕ)) (keys : map_rows.Keys)
    → AreTests (maps.keys_checks k before keys)
map_keys k before [] = tt
map_keys k before (m ∷ ms) =
    both (maps.key_checks k before m.0 m.1) (maps.keys_checks k (before ++ m.0 ∷ []) ms)
    (language _ _, (plain _ _, (plain _ _, (strings _ _, tt))))
    (map_keys k (before ++ m.0 ∷ []) ms)

unless : (marked : Bool) (cs : List Check) → AreTests cs → AreTests (maps.unless_marked marked cs)
unless true cs t = tt
unless false cs t = t

map_rows_tests : (k : ℕ) (rs : map_rows.Rows) → AreTests (maps.members_checks k rs)
map_rows_tests k [] = tt
map_rows_tests k (r ∷ rs) =
    both (maps.member_checks k r) (maps.members_checks (k + 1) rs)
    (unless (maps.is_marked r.0) (maps.message_checks k r.0 r.1)
    (plain _ _, (plain _ _, map_keys k [] (unwrap_or r.1 [])))) (map_rows_tests (k + 1) rs)

-- each test of a language-map document is one
pub langmaps : (d : Data) → AreTests (maps.langmaps_checks d)
langmaps d = (plain _ _, map_rows_tests 0 (unwrap_or (map_rows.message_rows_in d) []))

-- ---- texts

module _ (checks : Data → List Check) (tests : (d : Data) → AreTests (checks d)) where
  same_data : (bytes : List ℕ) (d f : Data) → AreJson bytes d → AreJson bytes f → f ≡ d
  same_data bytes d f p q = ap (λ (o : Option Data). unwrap_or o f) (sym q.1 ∙ p.1)

  no_json : (bytes : List ℕ) (d : Data) (e : DocCause) → AreJson bytes d → IsTextRefusal bytes e → ⊥
  no_json bytes d e json why = elim why [
    | inl text ↦ text.0 json.0
    | inr none ↦ let found = json.1 in let lost = none.1 in cc
  ]

  -- bytes that read as something are not refused
  pub read_not_refused : {X : Type 0} (Is : Data → X → Type 0) (bytes : List ℕ) (x : X)
      (e : DocCause) → Reads checks Is bytes x → IsRefusal checks bytes e → ⊥
  read_not_refused Is bytes x e reads why = elim why [
    | inl text ↦ no_json bytes reads.0 e reads.1 text
    | inr row ↦ apart_all (checks reads.0) e (tests reads.0) reads.2
        (subst (λ d. FirstFails (checks d) e) (same_data bytes reads.0 row.0 reads.1 row.1) row.2)
  ]

  one_text_refusal : (bytes : List ℕ) (e f : DocCause) → IsTextRefusal bytes e
      → IsTextRefusal bytes f → e ≡ f
  one_text_refusal bytes e f p q = elim p [
    | inl h ↦ elim q [ inl k ↦ h.1 ∙ sym k.1 | inr k ↦ absurd (h.0 k.0) ]
    | inr h ↦ elim q [ inl k ↦ absurd (k.0 h.0) | inr k ↦ h.2 ∙ sym k.2 ]
  ]

  -- refused bytes have one cause
  pub one_cause : (bytes : List ℕ) (e f : DocCause) → IsRefusal checks bytes e
      → IsRefusal checks bytes f → e ≡ f
  one_cause bytes e f p q = elim p [
    | inl h ↦ elim q [
      | inl k ↦ one_text_refusal bytes e f h k
      | inr k ↦ absurd (no_json bytes k.0 e k.1 h)
    ]
    | inr h ↦ elim q [
      | inl k ↦ absurd (no_json bytes h.0 f h.1 k)
      | inr k ↦ one_all (checks h.0) e f (tests h.0) h.2
          (subst (λ d. FirstFails (checks d) f) (same_data bytes h.0 k.0 h.1 k.1) k.2)
    ]
  ]
