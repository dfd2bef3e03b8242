-- The cells of a document that reads as a site are such as every catalogue keeps.
use Rattle.std.proofs.Common.{◌≡◌, ◌++◌, ◌∷◌, [], ◌<◌, ◌^◌, ℕ, List, length, map, ap, inl, inr}
use Rattle.std.proofs.Common.{refl, subst}
use Rattle.std.specs.Prelude.{None, Option, Some, option_and_then, option_map, unwrap_or}
use Rattle.std.specs.List.{All}
use Rattle.std.specs.Str.{str_to_ascii_lowercase}
use Rattle.std.proofs.lemmas.List.Elements.{All-cons, All-nil}
use Rattle.serde_json.specs.Data.{Data}
use Rattle.serde_json.specs.Find.{as_str, get}
use Rattle.lang_core.specs.Lang.{IsLang}
use Rattle.catalogue.specs.Entries.{Entries, Entry}
use Rattle.catalogue.proofs.Basics.{some_same}
use Rattle.cata_core.specs.Site.{SiteState}
use Rattle.json_docs.specs.FaultChecks.{AllPass, rows_checks}
use Rattle.json_docs.specs.Parts.{items_in, u32_in, u64_in}
use Rattle.json_docs.proofs.FaultChecksLemmas.{AllPass-front, AllPass-rest}
use Rattle.json_docs.proofs.NumbersSmall.{AreSmall, IsSmall, get_small, items_in_small, read_small}
use Rattle.json_docs.proofs.NumbersSmall.{u32_in_small, u64_in_small}
use Rattle.row_docs.specs.Ascending.{cell_checks, cell_row, entry_in, last_key, no_row}
use Rattle.row_docs.specs.Ascending.{own_cell_checks}
use Rattle.row_docs.specs.EntriesValid.{AreKeptCells, IsKeptCell}
use Rattle.row_docs.specs.EntriesValues.{Row}
use Rattle.row_docs.specs.Fields.{IsSpelled, cell_fields, entry_of, key_of, order_check}
use Rattle.row_docs.specs.Headers.{rows_in, version_of}
use Rattle.row_docs.specs.Kinds.{rows_of}
use Rattle.row_docs.specs.ShapesRows.{cell_in, cell_of, label_in, site_in}
use Rattle.row_docs.specs.declared.kind.Kind.TheVariants.{Site}
use Rattle.row_docs.specs.declared.version.Version.{Version}
use Rattle.site_docs.specs.Reading.{ReadsAsSite}
use Rattle.docs_core.proofs.CallRefusals.{site_ascends}
use Rattle.docs_core.proofs.MigrationSitesLemmas.{document_rows}

-- ---- numbers

abbrev Label : Type 0
Label = Option (List (List ℕ))

-- the numbers of these parts of a row are those of the row
parts_are : (i l : Option (List ℕ)) (t : Option ℕ) (s : Option (List ℕ)) (c : Option ℕ)
    (b : Option Label) (p : Row × Label)
    → option_and_then (λ (row : Row).
    option_map (λ (label : Label). let r : Row × Label = (row, label) in r) b)
    (option_and_then (λ id. option_and_then (λ language. option_and_then (λ time. option_and_then
    (λ site. option_map (λ count.
    let row : Row =
    record { id = id; language = language; time = time; site = site; count = count } in row)
    c) s) t) l) i) ≡ Some p
    → (t ≡ Some p.0.time) × (c ≡ Some p.0.count)
parts_are None l t s c b p is = absurd (cc)
parts_are (Some id) None t s c b p is = absurd (cc)
parts_are (Some id) (Some language) None s c b p is = absurd (cc)
parts_are (Some id) (Some language) (Some time) None c b p is = absurd (cc)
parts_are (Some id) (Some language) (Some time) (Some site) None b p is = absurd (cc)
parts_are (Some id) (Some language) (Some time) (Some site) (Some count) None p is = absurd (cc)
parts_are (Some id) (Some language) (Some time) (Some site) (Some count) (Some label) p is =
    let made : Row =
    record { id = id; language = language; time = time; site = site; count = count } in
    let same = some_same (made, label) p is in (
      ap (λ (q : Row × Label). Some q.0.time) same,
      ap (λ (q : Row × Label). Some q.0.count) same,
    )

-- they fit 64 and 32 bits
cell_fits : (version : Version) (ds : List Data) (p : Row × Label) → AreSmall ds
    → cell_of version ds ≡ Some p → (p.0.time < 2 ^ 64) × (p.0.count < 2 ^ 32)
cell_fits version [] p small is = absurd (cc)
cell_fits version (i ∷ []) p small is = absurd (cc)
cell_fits version (i ∷ l ∷ []) p small is = absurd (cc)
cell_fits version (i ∷ l ∷ t ∷ []) p small is = absurd (cc)
cell_fits version (i ∷ l ∷ t ∷ s ∷ []) p small is = absurd (cc)
cell_fits version (i ∷ l ∷ t ∷ s ∷ c ∷ []) p small is = absurd (cc)
cell_fits version (i ∷ l ∷ t ∷ s ∷ c ∷ b ∷ []) p small is =
    let are =
    parts_are (as_str i) (as_str l) (u64_in t) (site_in version s) (u32_in c) (label_in b) p is in (
      u64_in_small t p.0.time small.1.1.0 are.0,
      u32_in_small c p.0.count are.1,
    )
cell_fits version (i ∷ l ∷ t ∷ s ∷ c ∷ b ∷ d ∷ ds) p small is = absurd (cc)

row_fits : (version : Version) (d : Data) (p : Row × Label) → IsSmall d
    → cell_in version d ≡ Some p → (p.0.time < 2 ^ 64) × (p.0.count < 2 ^ 32)
row_fits version d p small = by (items_in d) (λ ds is. items_in_small d ds small is)
  where
    by : (o : Option (List Data)) → ((ds : List Data) → o ≡ Some ds → AreSmall ds)
        → option_and_then (cell_of version) o ≡ Some p
        → (p.0.time < 2 ^ 64) × (p.0.count < 2 ^ 32)
    by None each is = absurd (cc)
    by (Some ds) each is = cell_fits version ds p (each ds refl) is

-- ---- rows

lang_of : (text : List ℕ) → IsSpelled text → IsLang (str_to_ascii_lowercase text)
lang_of text (lang, inl none) = inl (ap str_to_ascii_lowercase none.0)
lang_of text (lang, inr tag) = inr tag.0

kept_row : (version : Version) (k : ℕ) (d : Data) (e : Entry) → IsSmall d
    → AllPass (own_cell_checks version k d) → entry_in version d ≡ Some e → IsKeptCell e
kept_row version k d e small pass is =
    by (cell_in version d) (λ p at. row_fits version d p small at) pass.1 is
  where
    by : (o : Option (Row × Label))
        → ((p : Row × Label) → o ≡ Some p → (p.0.time < 2 ^ 64) × (p.0.count < 2 ^ 32))
        → AllPass (cell_fields k (unwrap_or o (no_row, None)).0 (unwrap_or o (no_row, None)).1)
        → option_map (λ (p : Row × Label). entry_of p.0 p.1) o ≡ Some e → IsKeptCell e
    by None fits pass is = absurd (cc)
    by (Some p) fits pass is =
        let fit = fits p refl in
        subst IsKeptCell (some_same (entry_of p.0 p.1) e is) (
          record {
            id = pass.0;
            lang = lang_of p.0.language pass.1.0;
            time = fit.0;
            site = pass.1.1.0;
            count = fit.1;
          },
          pass.1.1.1.0,
        )

kept_rows : (version : Version) (before rows : List Data) (es : Entries) → AreSmall rows
    → AllPass (rows_checks (cell_checks version) before rows)
    → map (entry_in version) rows ≡ map Some es → All IsKeptCell es
kept_rows version before [] [] small pass are = All-nil IsKeptCell
kept_rows version before [] (e ∷ es) small pass are = absurd (cc)
kept_rows version before (d ∷ rows) [] small pass are = absurd (cc)
kept_rows version before (d ∷ rows) (e ∷ es) small pass are =
    let first : entry_in version d ≡ Some e = cc in
    let later : map (entry_in version) rows ≡ map Some es = cc in
    let rest = rows_checks (cell_checks version) (before ++ d ∷ []) rows in
    let here = AllPass-front (cell_checks version before d) rest pass in
    let order =
    order_check (length before) (last_key (entry_in version) before) (key_of (cell_row version d).0)
    ∷ [] in
    All-cons IsKeptCell e es
    (kept_row version (length before) d e small.0
    (AllPass-front (own_cell_checks version (length before) d) order here) first)
    (kept_rows version (before ++ d ∷ []) rows es small.1
    (AllPass-rest (cell_checks version before d) rest pass) later)

-- ---- a document

items_or : (o : Option (List Data)) → ((ds : List Data) → o ≡ Some ds → AreSmall ds)
    → AreSmall (unwrap_or o [])
items_or None small = tt
items_or (Some ds) small = small ds refl

member_items : (o : Option Data) → ((d : Data) → o ≡ Some d → IsSmall d)
    → AreSmall (unwrap_or (option_and_then items_in o) [])
member_items None small = tt
member_items (Some d) small = items_or (items_in d) (λ ds e. items_in_small d ds (small d refl) e)

-- the cells of a site that is read
pub kept_of_reads : (bytes : List ℕ) (site : SiteState) → ReadsAsSite bytes site
    → AreKeptCells site.cells
kept_of_reads bytes site (d, json, pass, is) = record {
  each =
      kept_rows (version_of d) [] (rows_in Site d) site.cells
      (member_items (get (rows_of Site) d)
      (λ e at. get_small (rows_of Site) d e (read_small bytes d json.1) at))
      (document_rows Site cell_checks d pass) is.cells;
  map = site_ascends bytes site (d, json, pass, is);
}
