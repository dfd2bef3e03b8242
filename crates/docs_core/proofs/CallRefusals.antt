-- No documents are both answered and refused by a call, and they are refused by one fault.
--
-- These are the stages that CallLaws puts together. A document is refused by its reader for one
-- cause. A time that is ahead, and an own edit that is missing, are each named by the first such
-- row: all rows before it pass, so two rows that are both the first are one. Cells clash at one
-- cell, since the first key at which they do not agree is one.
use Rattle.std.proofs.Common.{◌≡◌, ◌∙◌, ◌<◌, ℕ, List, [], ◌∷◌, ◌++◌, ap, arith, get_or}
use Rattle.std.proofs.Common.{inl, inr, length, refl, subst, sym}
use Rattle.std.specs.Prelude.{◌≢◌, All, None, Option, Some}
use Rattle.std.proofs.lemmas.List.{get_or_append_left}
use Rattle.std.proofs.Math.Seq.{get_or-append_seam}
use Rattle.std.proofs.lemmas.List.Elements.{All-head, All-tail}
use Rattle.cell_core.specs.Keyed.{IsMap}
use Rattle.catalogue.specs.CataFault.{IsRefusal}
use Rattle.cell_core.specs.Entry.{key_cmp}
use Rattle.catalogue.specs.Entries.{Agree, Entries, Entry}
use Rattle.cata_core.specs.OwnEdits.{IsLackedEdit}
use Rattle.cata_core.specs.Site.{SiteState}
use Rattle.catalogue.specs.declared.cata_fault.CataFault.{CataFault}
use Rattle.catalogue.specs.declared.cata_fault.CataFault.TheVariants as cata
use Rattle.catalogue.proofs.ClashLemmas.{clash_is_one, clash_not_agree}
use Rattle.json_docs.specs.Faults.{of_document, of_no_document, of_site}
use Rattle.json_docs.specs.declared.fault.DocCause.{DocCause}
use Rattle.json_docs.specs.declared.fault.DocCause.TheVariants.{OwnEditMissing, TimeAhead}
use Rattle.json_docs.specs.declared.fault.DocFault.{DocFault}
use Rattle.row_docs.specs.Headers.{rows_in, version_of}
use Rattle.row_docs.specs.Reading.{IsOfDocument}
use Rattle.row_docs.specs.Ascending.{cell_checks}
use Rattle.row_docs.specs.declared.kind.Kind.TheVariants as kind
use Rattle.row_docs.proofs.AscendingKeys.{cells_ascend}
use Rattle.site_docs.specs.Reading.{ReadsAsSite, RefusesSite}
use Rattle.site_docs.specs.SiteDocuments.{IsSiteDocument, site_checks}
use Rattle.docs_core.specs.Calls.{IsOfSite, RefusesJoin}
use Rattle.site_docs.specs.RowsInTime.{AreInTime, IsInTime, IsTimeAhead}
use Rattle.site_docs.specs.Checks.{IsOwnMissing, IsOwnMissingOfBoth, LackNoOwn, LacksNoOwn}
use Rattle.site_docs.specs.declared.checks.OwnEdits.{OwnEdits}
use Rattle.site_docs.specs.declared.checks.OwnEdits.TheVariants.{Checked, Unchecked}
use Rattle.docs_core.proofs.MigrationSitesLemmas.{document_rows}
use Rattle.docs_core.proofs.SitesOneRefusal.{cells_named, one_cause, read_not_refused}

-- ---- of a document

-- a document is refused by one fault
pub one_of_document : (number : ℕ) (Refuses : DocCause → Type 0)
    → ((a b : DocCause) → Refuses a → Refuses b → a ≡ b) → (x y : DocFault)
    → IsOfDocument number Refuses x → IsOfDocument number Refuses y
    → x ≡ y
one_of_document number Refuses one x y (a, p, is) (b, q, same) =
    is ∙ ap (of_document number) (one a b p q) ∙ sym same

-- a site's document is refused by one fault
pub one_of_site_document : (number : ℕ) (bytes : List ℕ) (x y : DocFault)
    → IsOfDocument number (RefusesSite bytes) x → IsOfDocument number (RefusesSite bytes) y → x ≡ y
one_of_site_document number bytes =
    one_of_document number (RefusesSite bytes) (one_cause site_checks (cells_named kind.Site) bytes)

-- a site's document that is read is not refused
pub site_not_refused : (number : ℕ) (bytes : List ℕ) (site : SiteState) (fault : DocFault)
    → ReadsAsSite bytes site → IsOfDocument number (RefusesSite bytes) fault → ⊥
site_not_refused number bytes site fault reads (cause, why, is) =
    read_not_refused site_checks (cells_named kind.Site) IsSiteDocument bytes site cause reads why

-- the keys of a site that is read ascend
pub site_ascends : (bytes : List ℕ) (site : SiteState) → ReadsAsSite bytes site
    → IsMap key_cmp site.cells
site_ascends bytes site (d, json, pass, is) =
    cells_ascend (version_of d) (rows_in kind.Site d) site.cells
    (document_rows kind.Site cell_checks d pass) is.cells

-- ---- of a time

-- what holds of all holds of an item at some place
pub all_at : {X : Type 0} (P : X → Type 0) (before : List X) (x : X) (after : List X)
    → All P (before ++ x ∷ after) → P x
all_at P [] x after all = All-head P x after all
all_at P (b ∷ before) x after all = all_at P before x after (All-tail P b _ all)

-- where a time is ahead not all are in the limit
pub ahead_not_in_time : (number : ℕ) (limit : Option ℕ) (cells : Entries) (fault : DocFault)
    → AreInTime limit cells → IsTimeAhead number limit cells fault → ⊥
ahead_not_in_time number None cells fault all ahead = ahead
ahead_not_in_time number (Some limit) cells fault all (row, first, is) =
    let in_time = all_at (IsInTime limit) first.before first.ahead first.after
    (subst (All (IsInTime limit)) first.cells_are all) in
    let late = first.is_ahead in
    absurd (omega (arith, in_time, late))

-- what is true of all before one item is not false of an item among them
not_before : {X : Type 0} (Good : X → Type 0) (xs a : List X) (x : X) (after b : List X) (y : X)
    (later : List X) → xs ≡ a ++ x ∷ after → xs ≡ b ++ y ∷ later → All Good b → ¬ (Good x)
    → length a < length b → ⊥
not_before {X = X} Good xs a x after b y later is same good bad inside =
    let here : get_or xs (length a) x ≡ x =
    ap (λ (es : List X). get_or es (length a) x) is ∙ get_or-append_seam a x after x in
    let there : get_or xs (length a) x ≡ get_or b (length a) x =
    ap (λ (es : List X). get_or es (length a) x) same
    ∙ get_or_append_left b (y ∷ later) x (length a) inside in
    bad (subst Good (sym there ∙ here) (good (length a) x inside))

-- the first item of which it is false is at one place
one_place : {X : Type 0} (Good : X → Type 0) (xs a : List X) (x : X) (after b : List X) (y : X)
    (later : List X) → xs ≡ a ++ x ∷ after → xs ≡ b ++ y ∷ later → All Good a → All Good b
    → ¬ (Good x) → ¬ (Good y) → length a ≡ length b
one_place Good xs a x after b y later is same good fine bad worse =
    let low : length a < length b → ⊥ = not_before Good xs a x after b y later is same fine bad in
    let high : length b < length a → ⊥ =
    not_before Good xs b y later a x after same is good worse in
    omega (arith, low, high)

-- a time is ahead in one row
pub one_ahead : (number : ℕ) (limit : Option ℕ) (cells : Entries) (x y : DocFault)
    → IsTimeAhead number limit cells x → IsTimeAhead number limit cells y → x ≡ y
one_ahead number None cells x y p q = absurd p
one_ahead number (Some limit) cells x y (row, a, is) (other, b, same) =
    let late = a.is_ahead in
    let later = b.is_ahead in
    let at =
    one_place (IsInTime limit) cells a.before a.ahead a.after b.before b.ahead b.after a.cells_are
    b.cells_are a.in_time b.in_time (λ fine. omega (arith, fine, late))
    (λ fine. omega (arith, fine, later)) in
    let place : row ≡ other = sym a.row_is ∙ at ∙ b.row_is in
    is ∙ (λ i. record { document = number; cause = TimeAhead (place i) }) ∙ sym same

-- ---- of an own edit that is missing

-- where one is missing the site lacks an own edit
pub missing_not_held : (number : ℕ) (own : OwnEdits) (site : SiteState) (rows : Entries)
    (fault : DocFault) → LacksNoOwn own site rows → IsOwnMissing number own site rows fault → ⊥
missing_not_held number Unchecked site rows fault none missing = missing
missing_not_held number Checked site rows fault none (row, first, is) =
    let Held = λ (e : Entry). ¬ (IsLackedEdit site.name site.cells e) in
    all_at Held first.before first.edit first.after (subst (All Held) first.rows_are none)
    first.is_lacked

-- it is missing in one row
pub one_missing : (number : ℕ) (own : OwnEdits) (site : SiteState) (rows : Entries)
    (x y : DocFault) → IsOwnMissing number own site rows x → IsOwnMissing number own site rows y
    → x ≡ y
one_missing number Unchecked site rows x y p q = absurd p
one_missing number Checked site rows x y (row, a, is) (other, b, same) =
    let at =
    one_place (λ (e : Entry). ¬ (IsLackedEdit site.name site.cells e)) rows a.before a.edit a.after
    b.before b.edit b.after a.rows_are b.rows_are a.none_before b.none_before
    (λ held. held a.is_lacked) (λ held. held b.is_lacked) in
    let place : row ≡ other = sym a.row_is ∙ at ∙ b.row_is in
    is ∙ (λ i. record { document = number; cause = OwnEditMissing (place i) }) ∙ sym same

-- ---- of two sites

-- cells that agree with a map are one
agree_ascends : (own other : Entries) → Agree own other → IsMap key_cmp other → IsMap key_cmp own
agree_ascends own other agree ascends = elim agree as (λ _. IsMap key_cmp own) [
  | inl same ↦ subst (IsMap key_cmp) (sym same) ascends
  | inr maps ↦ maps.first
]

-- cells that agree with those of a site that is read are not refused
pub cells_not_refused : (own other : Entries) (fault : DocFault) → Agree own other
    → IsMap key_cmp other → IsOfSite (IsRefusal own other) fault → ⊥
cells_not_refused own other fault agree ascends (cata.StampReused place stamp, apart, why, is) =
    clash_not_agree own other place stamp (agree_ascends own other agree ascends) why agree
cells_not_refused own other fault agree ascends (cata.ClockSpent, apart, why, is) = why
cells_not_refused own other fault agree ascends (cata.NotForMe addressee, apart, why, is) = why
cells_not_refused own other fault agree ascends (cata.NoMemory, apart, why, is) = apart refl

-- a site's call refuses by one fault, where it has one cause
pub one_of_site_call : (Refuses : CataFault → Type 0)
    → ((a b : CataFault) → a ≢ cata.NoMemory → b ≢ cata.NoMemory → Refuses a → Refuses b → a ≡ b)
    → (x y : DocFault) → IsOfSite Refuses x → IsOfSite Refuses y → x ≡ y
one_of_site_call Refuses one x y (a, first, p, is) (b, second, q, same) =
    is ∙ ap (λ (c : CataFault). of_no_document (of_site c)) (one a b first second p q) ∙ sym same

-- cells are refused for one cause
pub one_cell_cause : (own other : Entries) (a b : CataFault) → a ≢ cata.NoMemory
    → b ≢ cata.NoMemory → IsRefusal own other a → IsRefusal own other b → a ≡ b
one_cell_cause own other (cata.StampReused p s) (cata.StampReused q t) first second x y =
    let one = clash_is_one own other p q s t x y in
    λ i. cata.StampReused (one.0 i) (one.1 i)
one_cell_cause own other cata.NoMemory b first second x y = absurd (first refl)
one_cell_cause own other a cata.NoMemory first second x y = absurd (second refl)
one_cell_cause own other cata.ClockSpent b first second x y = absurd x
one_cell_cause own other (cata.NotForMe addressee) b first second x y = absurd x
one_cell_cause own other (cata.StampReused p s) cata.ClockSpent first second x y = absurd y
one_cell_cause own other (cata.StampReused p s) (cata.NotForMe addressee) first second x y =
    absurd y

-- cells are refused by one fault
pub one_of_cells : (own other : Entries) (x y : DocFault) → IsOfSite (IsRefusal own other) x
    → IsOfSite (IsRefusal own other) y → x ≡ y
one_of_cells own other = one_of_site_call (IsRefusal own other) (one_cell_cause own other)

-- ---- of a join of two sites

-- two sites that agree, and lack no own edits, are not refused
pub join_not_refused : (own : OwnEdits) (first second : SiteState) (fault : DocFault)
    → LackNoOwn own first second → Agree first.cells second.cells → IsMap key_cmp second.cells
    → RefusesJoin own first second fault → ⊥
join_not_refused own first second fault none agree ascends why = elim why as (λ _. ⊥) [
  | inl missing ↦ elim missing as (λ _. ⊥) [
    | inl one ↦ missing_not_held 1 own second first.cells fault none.0 one
    | inr two ↦ missing_not_held 2 own first second.cells fault none.1 two.1
  ]
  | inr clash ↦ cells_not_refused first.cells second.cells fault agree ascends clash.1
]

-- their own edits are missing in one row
one_missing_of_both : (own : OwnEdits) (first second : SiteState) (x y : DocFault)
    → IsOwnMissingOfBoth own first second x → IsOwnMissingOfBoth own first second y → x ≡ y
one_missing_of_both own first second x y p q = elim p [
  | inl a ↦ elim q [
    | inl b ↦ one_missing 1 own second first.cells x y a b
    | inr b ↦ absurd (missing_not_held 1 own second first.cells x b.0 a)
  ]
  | inr a ↦ elim q [
    | inl b ↦ absurd (missing_not_held 1 own second first.cells y a.0 b)
    | inr b ↦ one_missing 2 own first second.cells x y a.1 b.1
  ]
]

both_not_missing : (own : OwnEdits) (first second : SiteState) (fault : DocFault)
    → LackNoOwn own first second → IsOwnMissingOfBoth own first second fault → ⊥
both_not_missing own first second fault none missing = elim missing as (λ _. ⊥) [
  | inl one ↦ missing_not_held 1 own second first.cells fault none.0 one
  | inr two ↦ missing_not_held 2 own first second.cells fault none.1 two.1
]

-- the join of two sites is refused by one fault
pub one_join : (own : OwnEdits) (first second : SiteState) (x y : DocFault)
    → RefusesJoin own first second x → RefusesJoin own first second y → x ≡ y
one_join own first second x y p q = elim p [
  | inl a ↦ elim q [
    | inl b ↦ one_missing_of_both own first second x y a b
    | inr b ↦ absurd (both_not_missing own first second x b.0 a)
  ]
  | inr a ↦ elim q [
    | inl b ↦ absurd (both_not_missing own first second y a.0 b)
    | inr b ↦ one_of_cells first.cells second.cells x y a.1 b.1
  ]
]
