-- What is read of a text of version 1 fits, and two sites sync as they join before the migration.
--
-- A text of version 1 is read as the migrated data of its document. The numbers of a text that is
-- read are below 2^64 (NumbersSmall), and those of a site and a count below 2^32 by their tests, so
-- each stamp of the migrated data fits its fields. Keys ascend after the migration only if they did
-- before. Each kind of document is one case of this. Two sites of version 1 that agree then sync as
-- documents, and the result is the migrated join of the old maps.
use Rattle.std.proofs.Common.{◌≡◌, ◌∙◌, ◌<◌, ◌^◌, ◌&&◌, ◌++◌, ℕ, List, [], ◌∷◌, Bool, true, false}
use Rattle.std.proofs.Common.{T, ap, ap₂, cond, map, refl, subst, sym}
use Rattle.std.specs.Prelude.{All, Option, None, Some, option_map, option_and_then, unwrap_or}
use Rattle.std.specs.FinMap.Entries.{below_all, find, is_sorted}
use Rattle.std.specs.Ordering.{eq_by_cmp, is_lt}
use Rattle.std.proofs.lemmas.List.Elements.{All-cons, All-nil}
use Rattle.serde_json.specs.Data.{Data}
use Rattle.serde_json.specs.Find.{as_str, get}
use Rattle.cell_core.specs.Keyed.{IsMap}
use Rattle.cell_core.specs.CellMigration.{IsOldStamp, OldCell, OldStamp, migrated_cell}
use Rattle.cell_core.specs.CellMigration.{migrated_stamp}
use Rattle.cell_core.specs.Entry.{EntryKey, key_cmp}
use Rattle.catalogue.specs.Entries.{Agree, Entries, joined}
use Rattle.cata_core.specs.SiteMigration.{AgreeOld, IsOldMap, OldDelta, OldEntries, OldEntry}
use Rattle.cata_core.specs.SiteMigration.{OldSite}
use Rattle.cata_core.specs.SiteMigration.{OldStamps, OldSummary, joined_old, migrated_delta}
use Rattle.cata_core.specs.SiteMigration.{migrated_entries, migrated_site, migrated_summary}
use Rattle.cata_core.specs.StepMigration.{OldStep, OldEdit, OldMerge, OldAskFilter, OldAskLookup}
use Rattle.cata_core.specs.StepMigration.{OldAskCells, OldTell, OldPost, OldDeliver}
use Rattle.cata_core.specs.Site.{SiteState}
use Rattle.cata_core.specs.Summary.{SummaryState}
use Rattle.cata_core.specs.declared.delta.Delta.{Delta as DeltaState}
use Rattle.catalogue.proofs.Basics.{some_same}
use Rattle.cata_core.proofs.SiteMigrationLemmas.{keeps_catalogue_joins}
use Rattle.json_docs.specs.FaultChecks.{AllPass, AreJson, Check, rows_checks}
use Rattle.json_docs.specs.Parts.{items_in, u32_in, u64_in}
use Rattle.json_docs.proofs.FaultChecksLemmas.{AllPass-rest}
use Rattle.json_docs.proofs.NumbersSmall.{AreSmall, IsSmall, get_small, items_in_small, read_small}
use Rattle.json_docs.proofs.NumbersSmall.{u32_in_small, u64_in_small}
use Rattle.row_docs.specs.Headers.{header_checks, rows_in, subject_data, version_of}
use Rattle.row_docs.specs.Kinds.{rows_of}
use Rattle.row_docs.specs.Reading.{Reads}
use Rattle.site_docs.specs.Reading.{ReadsAsDelta, ReadsAsSite, ReadsAsSummary}
use Rattle.row_docs.specs.ShapesRows.{label_in}
use Rattle.site_docs.specs.SiteDocuments.{IsDeltaDocument, IsSiteDocument, IsSummaryDocument}
use Rattle.row_docs.specs.Ascending.{AreEntries, cell_checks, entry_in, stamp_checks}
use Rattle.site_docs.specs.SiteDocuments.{delta_checks, document_checks, site_checks}
use Rattle.site_docs.specs.SiteDocuments.{subject_checks, summary_checks}
use Rattle.row_docs.specs.declared.kind.Kind.{Kind}
use Rattle.row_docs.specs.declared.kind.Kind.TheVariants as kind
use Rattle.row_docs.specs.declared.version.Version.{Version}
use Rattle.row_docs.specs.declared.version.Version.TheVariants.{One}
use Rattle.row_docs.proofs.AscendingKeys.{cells_ascend, stamps_ascend}
use Rattle.script_docs.specs.Reading.{IsScriptDocument, ReadsAsScript, script_checks}
use Rattle.script_docs.specs.Scripts.{ScriptState}
use Rattle.docs_core.specs.Calls.{AreSynced}
use Rattle.site_docs.specs.declared.checks.Checks.{Checks}
use Rattle.script_docs.specs.ScriptsMigration.{AreOldStepsOf, IsOldScriptDocument}
use Rattle.site_docs.specs.DocumentsMigration.{IsOldDeltaDocument}
use Rattle.site_docs.specs.DocumentsMigration.{IsOldSiteDocument, IsOldSummaryDocument}
use Rattle.script_docs.specs.ScriptsMigration.{IsOldStepOf, OldScript}
use Rattle.script_docs.specs.ScriptsMigration.{migrated_script}
use Rattle.row_docs.specs.ShapesMigration.{old_entry_in, old_entry_of, old_parts_in}
use Rattle.row_docs.specs.ShapesMigration.{old_stamped, old_stamped_in, old_stamped_of}
use Rattle.docs_core.specs.MigrationSites.{IsOldDelta, IsOldScript, IsOldSite, IsOldStep}
use Rattle.docs_core.specs.MigrationSites.{IsOldSummary}
use Rattle.row_docs.proofs.ShapesMigrationLemmas.{old_parts_by}
use Rattle.site_docs.proofs.DocumentsMigrationLemmas.{delta_migrated, site_migrated}
use Rattle.site_docs.proofs.DocumentsMigrationLemmas.{summary_migrated}
use Rattle.script_docs.proofs.ScriptsMigrationLemmas.{script_migrated}
use Rattle.row_docs.proofs.OneReading.{read_is, read_passes, same_some}

-- ---- rows

-- a list of entries whose values all have a property
abbrev AllHold : {J : Type 0} → (J → Type 0) → List (EntryKey × J) → Type 0
AllHold P [] = Unit {0}
AllHold P (e ∷ es) = P e.1 × AllHold P es

found_by : {J : Type 0} (P : J → Type 0) (b : Bool) (x y : J) (rest : Option J) → P x
    → ((z : J) → rest ≡ Some z → P z) → cond b (Some x) rest ≡ Some y → P y
found_by P true x y rest here later is = subst P (some_same x y is) here
found_by P false x y rest here later is = later y is

found_holds : {J : Type 0} (P : J → Type 0) (es : List (EntryKey × J)) → AllHold P es
    → (k : EntryKey) (y : J) → find key_cmp k es ≡ Some y → P y
found_holds P [] all k y is = absurd (cc)
found_holds P (e ∷ es) all k y is =
    found_by P (eq_by_cmp key_cmp k e.0) e.1 y (find key_cmp k es) all.0
    (found_holds P es all.1 k) is

parts_fit : (oi ol : Option (List ℕ)) (ot os oc : Option ℕ) (p : EntryKey × OldStamp)
    → ((n : ℕ) → ot ≡ Some n → n < 2 ^ 64) → ((n : ℕ) → os ≡ Some n → n < 2 ^ 32)
    → ((n : ℕ) → oc ≡ Some n → n < 2 ^ 32)
    → old_parts_by oi ol ot os oc ≡ Some p
    → IsOldStamp p.1
parts_fit None ol ot os oc p time site count is = absurd (cc)
parts_fit (Some i) None ot os oc p time site count is = absurd (cc)
parts_fit (Some i) (Some l) None os oc p time site count is = absurd (cc)
parts_fit (Some i) (Some l) (Some t) None oc p time site count is = absurd (cc)
parts_fit (Some i) (Some l) (Some t) (Some s) None p time site count is = absurd (cc)
parts_fit (Some i) (Some l) (Some t) (Some s) (Some c) p time site count is =
    subst (λ (q : EntryKey × OldStamp). IsOldStamp q.1) (some_same (old_stamped i l t s c) p is)
    (record { time_fits = time t refl; site_fits = site s refl; count_fits = count c refl })

row_fits : (i l t s c : Data) (p : EntryKey × OldStamp) → IsSmall t
    → old_parts_in i l t s c ≡ Some p → IsOldStamp p.1
row_fits i l t s c p small is =
    parts_fit (as_str i) (as_str l) (u64_in t) (u32_in s) (u32_in c) p
    (λ n e. u64_in_small t n small e) (u32_in_small s) (u32_in_small c) is

-- an entry of a key with its stamp, and of a label
abbrev entry_with : EntryKey × OldStamp → Option (List (List ℕ)) → OldEntry
entry_with p label = (p.0, record { stamp = p.1; label = label })

labelled : (o : Option (EntryKey × OldStamp)) (label : Option (Option (List (List ℕ))))
    (old : OldEntry) → option_and_then (λ p. option_map (entry_with p) label) o ≡ Some old
    → (p : EntryKey × OldStamp) × (o ≡ Some p) × (p.1 ≡ old.1.stamp)
labelled None label old is = absurd (cc)
labelled (Some p) None old is = absurd (cc)
labelled (Some p) (Some label) old is =
    (p, refl, ap (λ (e : OldEntry). e.1.stamp) (some_same (entry_with p label) old is))

cell_fits : (ds : List Data) (old : OldEntry) → AreSmall ds → old_entry_of ds ≡ Some old
    → IsOldStamp old.1.stamp
cell_fits (i ∷ l ∷ t ∷ s ∷ c ∷ b ∷ []) old small is =
    let parts = labelled (old_parts_in i l t s c) (label_in b) old is in
    subst IsOldStamp parts.2 (row_fits i l t s c parts.0 small.1.1.0 parts.1)
cell_fits ds old small is = absurd (cc)

stamped_fits : (ds : List Data) (p : EntryKey × OldStamp) → AreSmall ds → old_stamped_of ds ≡ Some p
    → IsOldStamp p.1
stamped_fits (i ∷ l ∷ t ∷ s ∷ c ∷ []) p small is = row_fits i l t s c p small.1.1.0 is
stamped_fits ds p small is = absurd (cc)

-- what is made of the items of a value whose numbers are small
of_items : {A : Type 0} (P : A → Type 0) (f : List Data → Option A)
    → ((ds : List Data) (a : A) → AreSmall ds → f ds ≡ Some a → P a) → (o : Option (List Data))
    → ((ds : List Data) → o ≡ Some ds → AreSmall ds) → (a : A) → option_and_then f o ≡ Some a → P a
of_items P f each None small a is = absurd (cc)
of_items P f each (Some ds) small a is = each ds a (small ds refl) is

entry_fits : (d : Data) (old : OldEntry) → IsSmall d → old_entry_in d ≡ Some old
    → IsOldStamp old.1.stamp
entry_fits d old small is =
    of_items (λ (e : OldEntry). IsOldStamp e.1.stamp) old_entry_of cell_fits (items_in d)
    (λ ds e. items_in_small d ds small e) old is

entries_fit : (ds : List Data) (olds : OldEntries) → AreSmall ds
    → map old_entry_in ds ≡ map Some olds → AllHold (λ (c : OldCell). IsOldStamp c.stamp) olds
entries_fit [] [] small are = tt
entries_fit [] (e ∷ es) small are = absurd (cc)
entries_fit (d ∷ ds) [] small are = absurd (cc)
entries_fit (d ∷ ds) (e ∷ es) small are =
    let first : old_entry_in d ≡ Some e = cc in
    let later : map old_entry_in ds ≡ map Some es = cc in
    (entry_fits d e small.0 first, entries_fit ds es small.1 later)

stamps_fit : (ds : List Data) (olds : OldStamps) → AreSmall ds
    → map old_stamped_in ds ≡ map Some olds → AllHold IsOldStamp olds
stamps_fit [] [] small are = tt
stamps_fit [] (e ∷ es) small are = absurd (cc)
stamps_fit (d ∷ ds) [] small are = absurd (cc)
stamps_fit (d ∷ ds) (e ∷ es) small are =
    let first : old_stamped_in d ≡ Some e = cc in
    let later : map old_stamped_in ds ≡ map Some es = cc in
    let here = of_items (λ (p : EntryKey × OldStamp). IsOldStamp p.1) old_stamped_of stamped_fits
    (items_in d) (λ ds e. items_in_small d ds small.0 e) e first in
    (here, stamps_fit ds es small.1 later)

items_or : (o : Option (List Data)) → ((ds : List Data) → o ≡ Some ds → AreSmall ds)
    → AreSmall (unwrap_or o [])
items_or None small = tt
items_or (Some ds) small = small ds refl

member_items : (o : Option Data) → ((d : Data) → o ≡ Some d → IsSmall d)
    → AreSmall (unwrap_or (option_and_then items_in o) [])
member_items None small = tt
member_items (Some d) small = items_or (items_in d) (λ ds e. items_in_small d ds (small d refl) e)

-- the rows of a document whose numbers are small
rows_small : (kind : Kind) (d : Data) → IsSmall d → AreSmall (rows_in kind d)
rows_small kind d small =
    member_items (get (rows_of kind) d) (λ e is. get_small (rows_of kind) d e small is)

-- ---- keys

same_below : {J L : Type 0} (f : J → L) (k : EntryKey) (es : List (EntryKey × J))
    → below_all key_cmp k (map (λ e. let x : EntryKey × L = (e.0, f e.1) in x) es)
    ≡ below_all key_cmp k es
same_below f k [] = refl
same_below f k (e ∷ es) = ap (λ t. is_lt (key_cmp k e.0) && t) (same_below f k es)

same_sorted : {J L : Type 0} (f : J → L) (es : List (EntryKey × J))
    → is_sorted key_cmp (map (λ e. let x : EntryKey × L = (e.0, f e.1) in x) es)
    ≡ is_sorted key_cmp es
same_sorted f [] = refl
same_sorted f (e ∷ es) = ap₂ (λ s t. s && t) (same_below f e.0 es) (same_sorted f es)

-- where the migrated entries ascend, so do the old ones
old_ascend : (olds : OldEntries) (es : Entries) → es ≡ migrated_entries olds → IsMap key_cmp es
    → IsMap key_cmp olds
old_ascend olds es same ascend =
    subst T (ap (is_sorted key_cmp) same ∙ same_sorted migrated_cell olds) ascend

-- ---- documents

-- what a text of version 1 reads as is migrated from old data of its document, of which holds what
-- follows for such data where the document passes its tests and its numbers are small
fits : {X Old : Type 0} (checks : Data → List Check) (Is : Data → X → Type 0)
    (IsOld : Data → Old → Type 0) (Fits : Old → Type 0) (migrated : Old → X)
    → ((d : Data) (x : X) → version_of d ≡ One → Is d x
    → (old : Old) × IsOld d old × (x ≡ migrated old))
    → ((d : Data) (x : X) (old : Old) → AllPass (checks d) → IsSmall d → Is d x → IsOld d old
    → x ≡ migrated old → Fits old)
    → (bytes : List ℕ) (d : Data) (x : X) → AreJson bytes d → version_of d ≡ One
    → Reads checks Is bytes x → (old : Old) × Fits old × IsOld d old × (x ≡ migrated old)
fits checks Is IsOld Fits migrated becomes holds bytes d x json first reads =
    let is = read_is checks Is bytes d x json reads in
    let pass = read_passes checks Is bytes d x json reads in
    let old = becomes d x first is in
    (old.0, holds d x old.0 pass (read_small bytes d json.1) is old.1 old.2, old.1, old.2)

-- the tests of the rows of a document that passes
pub document_rows : (kind : Kind) (checks : Version → List Data → Data → List Check) (d : Data)
    → AllPass (document_checks kind checks d)
    → AllPass (rows_checks (checks (version_of d)) [] (rows_in kind d))
document_rows kind checks d pass =
    let subject = subject_checks (version_of d) (subject_data kind d) in
    let rows = rows_checks (checks (version_of d)) [] (rows_in kind d) in
    AllPass-rest subject rows (AllPass-rest (header_checks kind d) (subject ++ rows) pass)

-- the cells of a document of version 1 are an old map
cells_fit : (kind : Kind) (d : Data) (es : Entries) (olds : OldEntries)
    → AllPass (document_checks kind cell_checks d) → IsSmall d
    → AreEntries (entry_in (version_of d)) (rows_in kind d) es
    → map old_entry_in (rows_in kind d) ≡ map Some olds → es ≡ migrated_entries olds
    → IsOldMap olds
cells_fit kind d es olds pass small are olds_are same = record {
  map = old_ascend olds es same
      (cells_ascend (version_of d) (rows_in kind d) es (document_rows kind cell_checks d pass) are);
  stamps = found_holds (λ (c : OldCell). IsOldStamp c.stamp) olds
      (entries_fit (rows_in kind d) olds (rows_small kind d small) olds_are);
}

site_holds : (d : Data) (site : SiteState) (old : OldSite) → AllPass (site_checks d) → IsSmall d
    → IsSiteDocument d site → IsOldSiteDocument d old → site ≡ migrated_site old → IsOldSite old
site_holds d site old pass small is was same = record {
  number_fits = u32_in_small (subject_data kind.Site d) old.number was.number;
  cells = cells_fit kind.Site d site.cells old.cells pass small is.cells was.cells
      (ap (λ (s : SiteState). s.cells) same);
}

-- what a text of version 1 reads as is a migrated site, whose numbers fit and whose keys ascend
pub site_fits : (bytes : List ℕ) (d : Data) (site : SiteState) → AreJson bytes d
    → version_of d ≡ One → ReadsAsSite bytes site
    → (old : OldSite) × IsOldSite old × IsOldSiteDocument d old × (site ≡ migrated_site old)
site_fits =
    fits site_checks IsSiteDocument IsOldSiteDocument IsOldSite migrated_site site_migrated
    site_holds

delta_holds : (d : Data) (delta : DeltaState) (old : OldDelta) → AllPass (delta_checks d)
    → IsSmall d → IsDeltaDocument d delta → IsOldDeltaDocument d old → delta ≡ migrated_delta old
    → IsOldDelta old
delta_holds d delta old pass small is was same = record {
  addressee_fits = u32_in_small (subject_data kind.Delta d) old.addressee was.addressee;
  cells = cells_fit kind.Delta d delta.cells old.cells pass small is.cells was.cells
      (ap (λ (s : DeltaState). s.cells) same);
}

-- the same of deltas
pub delta_fits : (bytes : List ℕ) (d : Data) (delta : DeltaState) → AreJson bytes d
    → version_of d ≡ One → ReadsAsDelta bytes delta
    → (old : OldDelta) × IsOldDelta old × IsOldDeltaDocument d old × (delta ≡ migrated_delta old)
delta_fits =
    fits delta_checks IsDeltaDocument IsOldDeltaDocument IsOldDelta migrated_delta delta_migrated
    delta_holds

summary_holds : (d : Data) (summary : SummaryState) (old : OldSummary)
    → AllPass (summary_checks d) → IsSmall d → IsSummaryDocument d summary
    → IsOldSummaryDocument d old → summary ≡ migrated_summary old → IsOldSummary old
summary_holds d summary old pass small is was same =
    let rows = document_rows kind.Summary stamp_checks d pass in
    let ascend =
    stamps_ascend (version_of d) (rows_in kind.Summary d) summary.stamps rows is.stamps in
    record {
      owner_fits = u32_in_small (subject_data kind.Summary d) old.owner was.owner;
      stamps = record {
        map = subst T (ap (λ (s : SummaryState). is_sorted key_cmp s.stamps) same
            ∙ same_sorted migrated_stamp old.stamps) ascend;
        stamps = found_holds IsOldStamp old.stamps
            (stamps_fit (rows_in kind.Summary d) old.stamps (rows_small kind.Summary d small)
            was.stamps);
      };
    }

-- the same of summaries
pub summary_fits : (bytes : List ℕ) (d : Data) (summary : SummaryState) → AreJson bytes d
    → version_of d ≡ One → ReadsAsSummary bytes summary
    → (old : OldSummary) × IsOldSummary old × IsOldSummaryDocument d old
    × (summary ≡ migrated_summary old)
summary_fits =
    fits summary_checks IsSummaryDocument IsOldSummaryDocument IsOldSummary migrated_summary
    summary_migrated summary_holds

-- ---- scripts

step_fits : (d : Data) (old : OldStep) → IsSmall d → IsOldStepOf d old → IsOldStep old
step_fits d (OldEdit site edit) small (word, place, row, items, spelled, numbered, is) =
    let all = items_in_small d (word ∷ place ∷ row ∷ []) small items in
    entry_fits row edit all.1.1.0 is
step_fits d (OldMerge into source) small is = tt
step_fits d (OldAskFilter site id scheme list) small is = tt
step_fits d (OldAskLookup site id list default) small is = tt
step_fits d (OldAskCells site) small is = tt
step_fits d (OldTell site) small is = tt
step_fits d (OldPost site told) small is = tt
step_fits d (OldDeliver post) small is = tt

steps_fit : (ds : List Data) (olds : List OldStep) → AreSmall ds → AreOldStepsOf ds olds
    → All IsOldStep olds
steps_fit [] [] small are = All-nil IsOldStep
steps_fit [] (step ∷ steps) small are = absurd are
steps_fit (d ∷ ds) [] small are = absurd are
steps_fit (d ∷ ds) (step ∷ steps) small are =
    All-cons IsOldStep step steps (step_fits d step small.0 are.0)
    (steps_fit ds steps small.1 are.1)

script_holds : (d : Data) (script : ScriptState) (old : OldScript) → AllPass (script_checks d)
    → IsSmall d → IsScriptDocument d script → IsOldScriptDocument d old
    → script ≡ migrated_script old → IsOldScript old
script_holds d script old pass small is was same =
    steps_fit (rows_in kind.Script d) old.steps (rows_small kind.Script d small) was.steps

-- the same of scripts, whose stamps fit
pub script_fits : (bytes : List ℕ) (d : Data) (script : ScriptState) → AreJson bytes d
    → version_of d ≡ One → ReadsAsScript bytes script
    → (old : OldScript) × IsOldScript old × IsOldScriptDocument d old
    × (script ≡ migrated_script old)
script_fits =
    fits script_checks IsScriptDocument IsOldScriptDocument IsOldScript migrated_script
    script_migrated script_holds

-- ---- two sites

one_old_site : (d : Data) (s t : OldSite) → IsOldSiteDocument d s → IsOldSiteDocument d t → s ≡ t
one_old_site d s t p q =
    ap₂ (λ n es. let r : OldSite = record { number = n; cells = es } in r)
    (some_same s.number t.number (sym p.number ∙ q.number))
    (same_some s.cells t.cells (sym p.cells ∙ q.cells))

-- a text of version 1 with this site reads as the migrated one, and the site fits
site_read : (bytes : List ℕ) (d : Data) (old : OldSite) (site : SiteState) → AreJson bytes d
    → version_of d ≡ One → IsOldSiteDocument d old → ReadsAsSite bytes site
    → IsOldSite old × (site ≡ migrated_site old)
site_read bytes d old site json first is reads =
    let found = site_fits bytes d site json first reads in
    let same : found.0 ≡ old = one_old_site d found.0 old found.2 is in
    (subst IsOldSite same found.1, found.3 ∙ ap migrated_site same)

-- two texts of version 1 sync where their sites agree, and become the migrated join
pub sync_migrated : (checks : Checks) (a b x y : List ℕ) (d e : Data) (first second : OldSite)
    → AreJson a d → version_of d ≡ One → IsOldSiteDocument d first → AreJson b e
    → version_of e ≡ One → IsOldSiteDocument e second → AreSynced checks a b x y
    → let cells = joined_old first.cells second.cells in
    AgreeOld first.cells second.cells
    × ReadsAsSite x (migrated_site (record { number = first.number; cells = cells }))
    × ReadsAsSite y (migrated_site (record { number = second.number; cells = cells }))
sync_migrated checks a b x y d e first second ad av ai bd bv bi
    (s, t, mine, other, in_time, others_in_time, none, agree, xs, ys) =
    let left = site_read a d first s ad av ai mine in
    let right = site_read b e second t bd bv bi other in
    let kept = keeps_catalogue_joins first.cells second.cells left.0.cells right.0.cells in
    let cells : s.cells ≡ migrated_entries first.cells = ap (λ (u : SiteState). u.cells) left.1 in
    let others : t.cells ≡ migrated_entries second.cells =
    ap (λ (u : SiteState). u.cells) right.1 in
    let alike : Agree (migrated_entries first.cells) (migrated_entries second.cells) =
    subst (λ (es : Entries). Agree es (migrated_entries second.cells)) cells
    (subst (λ (es : Entries). Agree s.cells es) others agree) in
    let old = kept.agreed alike in
    let both : joined s.cells t.cells ≡ migrated_entries (joined_old first.cells second.cells) =
    ap₂ joined cells others ∙ sym (kept.joins old) in
    let made : List ℕ → Entries → SiteState = λ name es. record { name = name; cells = es } in (
      old,
      subst (ReadsAsSite x) (ap₂ made (ap (λ (u : SiteState). u.name) left.1) both) xs.1,
      subst (ReadsAsSite y) (ap₂ made (ap (λ (u : SiteState). u.name) right.1) both) ys.1,
    )
