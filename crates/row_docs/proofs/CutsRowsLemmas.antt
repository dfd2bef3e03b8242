-- What is kept of a row has the row's parts, and its label, or the first 65 texts of that.
use Rattle.std.proofs.Common.{◌≡◌, ◌∙◌, ℕ, suc, List, [], ◌∷◌, Bool, true, false, ◌&&◌, ◌||◌}
use Rattle.std.proofs.Common.{length, map, take, nat_lt, refl, ap, ap₂, sym, arith, take_all}
use Rattle.std.specs.Prelude.{Option, None, Some, is_some, if◌then◌else◌, option_map}
use Rattle.std.specs.Prelude.{option_and_then, unwrap_or}
use Rattle.std.proofs.lemmas.List.{length-map}
use Rattle.serde_json.specs.Data.{Data, null, boolean, number, string, array, object}
use Rattle.serde_json.specs.Find.{as_str}
use Rattle.serde_json.specs.View.{items_of}
use Rattle.lang_core.proofs.Basics.{and_false, lt_is, or_false, or_right}
use Rattle.json_docs.specs.Parts.{list_of, texts_in}
use Rattle.row_docs.specs.Cuts.{are_texts, cut_items, cut_to, fits, nothing, of_last, texts_among}
use Rattle.row_docs.specs.Cuts.{texts_to}
use Rattle.row_docs.specs.EntriesValues.{Row}
use Rattle.row_docs.specs.ShapesRows.{cell_in, cell_of, label_in, parts_in, site_in, stamp_in}
use Rattle.row_docs.specs.ShapesRows.{stamp_of}
use Rattle.row_docs.specs.declared.version.Version.{Version}
use Rattle.row_docs.specs.declared.version.Version.TheVariants.{One, Two}
use Rattle.row_docs.proofs.CutsLemmas.{as_str-cut, are_texts-push, is_some-texts_in}
use Rattle.row_docs.proofs.CutsLemmas.{length-texts_in}
use Rattle.row_docs.proofs.CutsLemmas.{list_of-items_of, same_of_cut, texts_in-cut, texts_in-take}
use Rattle.row_docs.proofs.CutsLemmas.{u32_in-cut, u64_in-cut}

-- the label as it is kept
abbrev pub first_texts : Option (List (List ℕ)) → Option (List (List ℕ))
first_texts label = option_map (take 65) label

-- the row as it is kept
abbrev pub first_of : Row × Option (List (List ℕ)) → Row × Option (List (List ℕ))
first_of p = (p.0, first_texts p.1)

-- ---- labels

kept_label : (b : Bool) (ds : List Data) → label_in (if b then array (items_of ds) else nothing)
    ≡ (if b then option_map Some (texts_in ds) else None)
kept_label true ds = ap (λ es. option_map Some (texts_in es)) (list_of-items_of ds)
kept_label false ds = refl

-- the texts that are kept where a row may have them
texts_kept : (levels : ℕ) (ds : List Data) (b : Bool) (o : Option (List (List ℕ)))
    → fits ds ≡ b → texts_in ds ≡ o
    → (if b then option_map Some (texts_in (take 65 (map (cut_to levels) ds))) else None)
    ≡ option_map first_texts (option_map Some o)
texts_kept levels ds true (Some texts) room is =
    ap (option_map Some)
    (texts_in-take 65 (map (cut_to levels) ds) texts (texts_in-cut levels ds ∙ is))
texts_kept levels ds true None room is =
    let none : are_texts ds ≡ false = sym (is_some-texts_in ds) ∙ ap is_some is in
    let few : nat_lt (length ds) 7 ≡ true =
    sym (or_false (nat_lt (length ds) 7))
    ∙ (ap (λ b. nat_lt (length ds) 7 || b) (sym none) ∙ room) in
    let less = lt_is (length ds) 7 few in
    let all : take 65 (map (cut_to levels) ds) ≡ map (cut_to levels) ds =
    take_all 65 (map (cut_to levels) ds) (omega (arith, less, length-map ds (cut_to levels))) in
    ap (λ es. option_map Some (texts_in es)) all
    ∙ ap (option_map Some) (texts_in-cut levels ds ∙ is)
texts_kept levels ds false (Some texts) room is =
    let all : are_texts ds ≡ true = sym (is_some-texts_in ds) ∙ ap is_some is in
    let never : false ≡ true = sym room ∙ or_right (nat_lt (length ds) 7) (are_texts ds) all in
    absurd (cc)
texts_kept levels ds false None room is = refl

-- the label is kept, or the first 65 texts of it
pub label_in-cut : (levels : ℕ) (d : Data)
    → label_in (cut_to (suc levels) d) ≡ option_map first_texts (label_in d)
label_in-cut levels null = refl
label_in-cut levels (boolean b) = refl
label_in-cut levels (number n) = refl
label_in-cut levels (string s) = refl
label_in-cut levels (array ds) =
    kept_label (fits (list_of ds)) (take 65 (map (cut_to levels) (list_of ds)))
    ∙ texts_kept levels (list_of ds) (fits (list_of ds)) (texts_in (list_of ds)) refl refl
label_in-cut levels (object ms) = refl

-- ---- rows

site_in-cut : (version : Version) (levels : ℕ) (d : Data)
    → site_in version (cut_to levels d) ≡ site_in version d
site_in-cut One levels d = same_of_cut (site_in One) None (λ ds. refl) (λ b. refl) (λ ms. refl)
    levels d
site_in-cut Two levels d = as_str-cut levels d

module _ (version : Version) (n : ℕ) where
  -- the parts are kept
  pub parts_in-cut : (i l t s c : Data)
      → parts_in version (cut_to n i) (cut_to n l) (cut_to n t) (cut_to n s) (cut_to n c)
      ≡ parts_in version i l t s c
  parts_in-cut i l t s c =
      rw (as_str-cut n i, as_str-cut n l, u64_in-cut n t, site_in-cut version n s, u32_in-cut n c)
      refl

  no_stamp : (b : Bool) (d0 d1 d2 d3 d4 d5 : Data) (ds : List Data)
      → stamp_in version
      (if b then array (items_of (d0 ∷ d1 ∷ d2 ∷ d3 ∷ d4 ∷ d5 ∷ ds)) else nothing)
      ≡ None
  no_stamp true d0 d1 d2 d3 d4 d5 ds = refl
  no_stamp false d0 d1 d2 d3 d4 d5 ds = refl

  stamp_kept : (ds : List Data)
      → stamp_in version (cut_items (cut_to n) ds) ≡ stamp_of version ds
  stamp_kept [] = refl
  stamp_kept (d0 ∷ []) = refl
  stamp_kept (d0 ∷ d1 ∷ []) = refl
  stamp_kept (d0 ∷ d1 ∷ d2 ∷ []) = refl
  stamp_kept (d0 ∷ d1 ∷ d2 ∷ d3 ∷ []) = refl
  stamp_kept (d0 ∷ d1 ∷ d2 ∷ d3 ∷ d4 ∷ []) = parts_in-cut d0 d1 d2 d3 d4
  stamp_kept (d0 ∷ d1 ∷ d2 ∷ d3 ∷ d4 ∷ d5 ∷ ds) =
      no_stamp (fits (d0 ∷ d1 ∷ d2 ∷ d3 ∷ d4 ∷ d5 ∷ ds)) _ _ _ _ _ _
      (take 59 (map (cut_to n) ds))

  -- a row of a summary is kept
  pub stamp_in-cut : (d : Data) → stamp_in version (cut_to (suc n) d) ≡ stamp_in version d
  stamp_in-cut null = refl
  stamp_in-cut (boolean b) = refl
  stamp_in-cut (number x) = refl
  stamp_in-cut (string s) = refl
  stamp_in-cut (array ds) = stamp_kept (list_of ds)
  stamp_in-cut (object ms) = refl

both_kept : (o : Option Row) (b : Option (Option (List (List ℕ))))
    → option_and_then (λ row. option_map (λ label. (row, label)) (option_map first_texts b)) o
    ≡ option_map first_of (option_and_then (λ row. option_map (λ label. (row, label)) b) o)
both_kept None b = refl
both_kept (Some row) None = refl
both_kept (Some row) (Some label) = refl

module _ (version : Version) (n : ℕ) where
  no_cell : (b : Bool) (d0 d1 d2 d3 d4 d5 d6 : Data) (ds : List Data)
      → cell_in version
      (if b then array (items_of (d0 ∷ d1 ∷ d2 ∷ d3 ∷ d4 ∷ d5 ∷ d6 ∷ ds)) else nothing) ≡ None
  no_cell true d0 d1 d2 d3 d4 d5 d6 ds = refl
  no_cell false d0 d1 d2 d3 d4 d5 d6 ds = refl

  cell_kept : (ds : List Data) → cell_in version (cut_items (cut_to (suc n)) ds)
      ≡ option_map first_of (cell_of version ds)
  cell_kept [] = refl
  cell_kept (d0 ∷ []) = refl
  cell_kept (d0 ∷ d1 ∷ []) = refl
  cell_kept (d0 ∷ d1 ∷ d2 ∷ []) = refl
  cell_kept (d0 ∷ d1 ∷ d2 ∷ d3 ∷ []) = refl
  cell_kept (d0 ∷ d1 ∷ d2 ∷ d3 ∷ d4 ∷ []) = refl
  cell_kept (d0 ∷ d1 ∷ d2 ∷ d3 ∷ d4 ∷ d5 ∷ []) =
      ap₂ (λ (o : Option Row) (b : Option (Option (List (List ℕ)))).
      option_and_then (λ row. option_map (λ label. (row, label)) b) o)
      (parts_in-cut version (suc n) d0 d1 d2 d3 d4) (label_in-cut n d5)
      ∙ both_kept (parts_in version d0 d1 d2 d3 d4) (label_in d5)
  cell_kept (d0 ∷ d1 ∷ d2 ∷ d3 ∷ d4 ∷ d5 ∷ d6 ∷ ds) =
      no_cell (fits (d0 ∷ d1 ∷ d2 ∷ d3 ∷ d4 ∷ d5 ∷ d6 ∷ ds)) _ _ _ _ _ _ _
      (take 58 (map (cut_to (suc n)) ds))

  -- a row of a site or a delta is kept, with the first 65 texts of its label
  pub cell_in-cut : (d : Data)
      → cell_in version (cut_to (suc (suc n)) d) ≡ option_map first_of (cell_in version d)
  cell_in-cut null = refl
  cell_in-cut (boolean b) = refl
  cell_in-cut (number x) = refl
  cell_in-cut (string s) = refl
  cell_in-cut (array ds) = cell_kept (list_of ds)
  cell_in-cut (object ms) = refl

-- ---- how many texts a label has

some_texts : (o : Option (List (List ℕ))) (texts : List (List ℕ))
    → option_map Some o ≡ Some (Some texts) → o ≡ Some texts
some_texts None texts is = cc
some_texts (Some found) texts is = cc

-- texts that a row has are counted
texts_counted : (levels : ℕ) (ds : List Data) (texts : List (List ℕ)) → texts_in ds ≡ Some texts
    → texts_among (texts_to levels) ds ≡ length texts
texts_counted levels ds texts is =
    let all : are_texts ds ≡ true = sym (is_some-texts_in ds) ∙ ap is_some is in
    ap (λ b. if b then length ds else (if fits ds then of_last (texts_to levels) ds else 0)) all
    ∙ length-texts_in ds texts is

label_counted : (levels : ℕ) (d : Data) (texts : List (List ℕ)) → label_in d ≡ Some (Some texts)
    → (texts_to (suc levels) d ≡ length texts) × (as_str d ≡ None)
label_counted levels null texts is = cc
label_counted levels (boolean b) texts is = cc
label_counted levels (number x) texts is = cc
label_counted levels (string s) texts is = cc
label_counted levels (array ds) texts is =
    (texts_counted levels (list_of ds) texts (some_texts (texts_in (list_of ds)) texts is), refl)
label_counted levels (object ms) texts is = cc

its_label : (o : Option Row) (b : Option (Option (List (List ℕ)))) (row : Row)
    (label : Option (List (List ℕ)))
    → option_and_then {U = Row × Option (List (List ℕ))}
    (λ row. option_map (λ label. (row, label)) b) o ≡ Some (row, label)
    → b ≡ Some label
its_label None b row label is = cc
its_label (Some r) None row label is = cc
its_label (Some r) (Some k) row label is =
    ap (option_map (λ (q : Row × Option (List (List ℕ))). q.1)) is

module _ (version : Version) (n : ℕ) (row : Row) (texts : List (List ℕ)) where
  list_counted : (ds : List Data) → cell_of version ds ≡ Some (row, Some texts)
      → texts_among (texts_to (suc n)) ds ≡ length texts
  list_counted [] is = cc
  list_counted (d0 ∷ []) is = cc
  list_counted (d0 ∷ d1 ∷ []) is = cc
  list_counted (d0 ∷ d1 ∷ d2 ∷ []) is = cc
  list_counted (d0 ∷ d1 ∷ d2 ∷ d3 ∷ []) is = cc
  list_counted (d0 ∷ d1 ∷ d2 ∷ d3 ∷ d4 ∷ []) is = cc
  list_counted (d0 ∷ d1 ∷ d2 ∷ d3 ∷ d4 ∷ d5 ∷ []) is =
      let label = label_counted n d5 texts
      (its_label (parts_in version d0 d1 d2 d3 d4) (label_in d5) row (Some texts) is) in
      let front = d0 ∷ d1 ∷ d2 ∷ d3 ∷ d4 ∷ [] in
      let mixed : are_texts (d0 ∷ d1 ∷ d2 ∷ d3 ∷ d4 ∷ d5 ∷ []) ≡ false =
      are_texts-push front d5
      ∙ (ap (λ (o : Option (List ℕ)). are_texts front && is_some o) label.1
      ∙ and_false (are_texts front)) in
      ap (λ b. if b then length (d0 ∷ d1 ∷ d2 ∷ d3 ∷ d4 ∷ d5 ∷ []) else texts_to (suc n) d5) mixed
      ∙ label.0
  list_counted (d0 ∷ d1 ∷ d2 ∷ d3 ∷ d4 ∷ d5 ∷ d6 ∷ ds) is = cc

  -- the texts of a row's label are counted
  pub cell_counted : (d : Data) → cell_in version d ≡ Some (row, Some texts)
      → texts_to (suc (suc n)) d ≡ length texts
  cell_counted null is = cc
  cell_counted (boolean b) is = cc
  cell_counted (number x) is = cc
  cell_counted (string s) is = cc
  cell_counted (array ds) is = list_counted (list_of ds) is
  cell_counted (object ms) is = cc

-- a row is no text
pub cell_no_text : (version : Version) (d : Data) → is_some (cell_in version d) ≡ true
    → as_str d ≡ None
cell_no_text version null is = refl
cell_no_text version (boolean b) is = refl
cell_no_text version (number x) is = refl
cell_no_text version (string s) is = cc
cell_no_text version (array ds) is = refl
cell_no_text version (object ms) is = refl

-- the row of which this is kept
pub uncut : (o : Option (Row × Option (List (List ℕ)))) (row : Row)
    (kept : Option (List (List ℕ))) → Some (row, kept) ≡ option_map first_of o
    → (label : Option (List (List ℕ))) × (Some (row, label) ≡ o) × (kept ≡ first_texts label)
uncut None row kept is = cc
uncut (Some p) row kept is =
    let same = ap (λ o. unwrap_or o (row, kept)) is in
    (p.1, ap (λ (q : Row × Option (List (List ℕ))). Some (q.0, p.1)) same, ap (λ q. q.1) same)

-- where none is kept there is none
pub not_kept : (o : Option (Row × Option (List (List ℕ)))) → None ≡ option_map first_of o → None ≡ o
not_kept None is = refl
not_kept (Some p) is = cc
