-- One entry more.
use Rattle.std.proofs.Common.{◌≡◌, ◌∙◌, ◌-◌, ◌++◌, ℕ, List, [], ◌∷◌, length, length-append, refl}
use Rattle.std.proofs.Common.{ap, ap₂, subst, sym, arith, inl, inr}
use Rattle.std.specs.Ordering.{is_lt}
use Rattle.std.specs.Prelude.{◌⊎◌, ◌↔◌, MatchResult, Option, None, Some, Result, Ok, Err}
use Rattle.std.specs.Prelude.{option_and_then, option_map, slice_get, unwrap_or}
use Rattle.std.proofs.lemmas.List.{length-map, map-append}
use Rattle.std.proofs.lemmas.Option.{slice_get-map}
use Rattle.serde_json.specs.Data.{Data}
use Rattle.cell_core.specs.Keyed.{IsMap}
use Rattle.cell_core.specs.Entry.{EntryKey, key_cmp}
use Rattle.catalogue.specs.Entries.{Entry, IsAboveAll}
use Rattle.cell_core.specs.declared.stamp.Stamp.{Stamp}
use Rattle.json_docs.specs.FaultChecks.{AllPass, Check, FirstFails}
use Rattle.json_docs.specs.declared.fault.DocCause.{DocCause}
use Rattle.json_docs.specs.declared.fault.DocCause.TheVariants.{CellOrder, NoMemory}
use Rattle.row_docs.specs.Fields.{cell_fields, IsAfter, entry_of, key_of, order_check}
use Rattle.row_docs.specs.Fields.{stamp_fields, stamped_of}
use Rattle.row_docs.specs.Ascending.{AreEntries, entry_in, MakesEntries, last_key, no_row}
use Rattle.row_docs.specs.Ascending.{own_cell_checks, own_stamp_checks, stamped_in}
use Rattle.row_docs.specs.ShapesRows.{cell_in, stamp_in}
use Rattle.row_docs.specs.EntriesValues.{Row}
use Rattle.row_docs.specs.declared.version.Version.{Version}
use Rattle.catalogue.proofs.CatalogueAboveLemmas.{IsMap-behind}
use Rattle.catalogue.proofs.PlacesLastKeysLemmas.{above_last, above_none}
use Rattle.json_docs.proofs.FaultChecksLemmas.{AllPass-both, FirstFails-front, FirstFails-rest}
use Rattle.lang_core.proofs.Basics.{less_of}

at_end : (xs : List Data) (x : Data) → slice_get (xs ++ x ∷ []) (length xs) ≡ Some x
at_end [] x = refl
at_end (y ∷ xs) x = at_end xs x

-- a key is after the last one where it is above all
pub after_last : {J : Type 0} (es : List (EntryKey × J)) (key : EntryKey)
    (last : Option (EntryKey × J))
    → IsMap key_cmp es → slice_get es (length es - 1) ≡ last
    → IsAfter (option_map (λ e. e.0) last) key ↔ IsAboveAll key es
after_last es key None ascending is = (λ behind. (above_none es key is).0 refl, λ above. tt)
after_last es key (Some (k, v)) ascending is =
    let tells = above_last es key k v ascending is in (
      λ behind. tells.0 (ap is_lt behind),
      λ above. less_of (key_cmp k key) (tells.1 above),
    )

module _ {J : Type 0} (entry : Data → Option (EntryKey × J)) where
  AreEntries-push : (rows : List Data) (es : List (EntryKey × J)) (d : Data) (e : EntryKey × J)
      → AreEntries entry rows es → entry d ≡ Some e
      → AreEntries entry (rows ++ d ∷ []) (es ++ e ∷ [])
  AreEntries-push rows es d e are is = map-append entry rows (d ∷ [])
      ∙ (ap₂ (λ xs x. xs ++ x ∷ []) are is ∙ sym (map-append Some es (e ∷ [])))

  -- the last key is that of the row which was added last
  pub last_key-push : (rows : List Data) (d : Data) (e : EntryKey × J) → entry d ≡ Some e
      → last_key entry (rows ++ d ∷ []) ≡ Some e.0
  last_key-push rows d e is =
      let k : length (rows ++ d ∷ []) - 1 ≡ length rows = simp length-append (omega arith) in
      rw (k, at_end rows d, is) refl

  found_as : (o : Option Data) (p : Option (EntryKey × J)) → option_map entry o ≡ option_map Some p
      → option_and_then entry o ≡ p
  found_as None None is = refl
  found_as None (Some p) is = cc
  found_as (Some d) None is = cc
  found_as (Some d) (Some p) is = cc

  -- the key of the last row is that of the last entry
  last_is : (rows : List Data) (es : List (EntryKey × J)) → AreEntries entry rows es
      → last_key entry rows ≡ option_map (λ e. e.0) (slice_get es (length es - 1))
  last_is rows es are =
      let as_many : length rows ≡ length es = sym (length-map rows entry) ∙ ap length are
      ∙ length-map es Some in
      let at = length rows - 1 in
      let same : option_map entry (slice_get rows at)
      ≡ option_map Some (slice_get es (length es - 1)) =
      sym (slice_get-map entry rows at) ∙ ap (λ xs. slice_get xs at) are ∙ slice_get-map Some es at
      ∙ ap (λ n. option_map Some (slice_get es (n - 1))) as_many in
      ap (option_map (λ (e : EntryKey × J). e.0))
      (found_as (slice_get rows at) (slice_get es (length es - 1)) same)

  after_all : (rows : List Data) (es : List (EntryKey × J)) (key : EntryKey)
      → MakesEntries entry rows es → IsAfter (last_key entry rows) key ↔ IsAboveAll key es
  after_all rows es key makes =
      subst (λ (o : Option EntryKey). IsAfter o key ↔ IsAboveAll key es)
      (sym (last_is rows es makes.are))
      (after_last es key (slice_get es (length es - 1)) makes.ascending refl)

  -- the row goes after all others
  pub MakesEntries-push : (rows : List Data) (old new : List (EntryKey × J)) (d : Data)
      (e : EntryKey × J)
      → MakesEntries entry rows old → entry d ≡ Some e → IsAboveAll e.0 old → new ≡ old ++ e ∷ []
      → MakesEntries entry (rows ++ d ∷ []) new
  MakesEntries-push rows old new d (k, v) makes is above pushed =
      subst (MakesEntries entry (rows ++ d ∷ [])) (sym pushed) (record {
        are = AreEntries-push rows old d (k, v) makes.are is;
        ascending = IsMap-behind old k v makes.ascending above;
      })

  module _ (own : ℕ → Data → List Check) where
    -- a row that passes its own tests, and whose key is above all
    pub passes_row : (before : List Data) (k : ℕ) (d : Data) (old : List (EntryKey × J))
        (key : EntryKey) (e : EntryKey × J)
        → length before ≡ k → MakesEntries entry before old → entry d ≡ Some e
        → (entry d ≡ Some e → key ≡ e.0) → AllPass (own k d) → IsAboveAll e.0 old
        → AllPass (own (length before) d ++ order_check (length before) (last_key entry before) key
        ∷ [])
    passes_row before k d old key e is makes made same pass above =
        subst (λ (n : ℕ). AllPass (own n d ++ order_check n (last_key entry before) key ∷ []))
        (sym is)
        (subst (λ (q : EntryKey). AllPass (own k d ++ order_check k (last_key entry before) q ∷ []))
        (sym (same made)) (AllPass-both (own k d) _ pass
        ((after_all before old e.0 makes).1 above, tt)))

    -- a row that passes its own tests alone
    pub fails_row : (before : List Data) (k : ℕ) (d : Data) (old : List (EntryKey × J))
        (key : EntryKey) (e : EntryKey × J)
        → length before ≡ k → MakesEntries entry before old → entry d ≡ Some e
        → (entry d ≡ Some e → key ≡ e.0) → AllPass (own k d) → ¬ (IsAboveAll e.0 old)
        → FirstFails (own (length before) d ++ order_check (length before)
        (last_key entry before) key ∷ []) (CellOrder k)
    fails_row before k d old key e is makes made same pass never =
        subst (λ (n : ℕ). FirstFails (own n d ++ order_check n (last_key entry before) key ∷ [])
        (CellOrder k)) (sym is)
        (subst (λ (q : EntryKey). FirstFails
        (own k d ++ order_check k (last_key entry before) q ∷ []) (CellOrder k)) (sym (same made))
        (FirstFails-rest (own k d) _ (CellOrder k) pass
        (inl ((λ behind. never ((after_all before old e.0 makes).0 behind)), refl))))

-- the tests of a row of a site or a delta by itself, where its shape is found
pub own_cell : (r : Result Entry DocCause) (version : Version) (k : ℕ) (d : Data) (row : Row)
    (texts : Option (List (List ℕ))) → Some (row, texts) ≡ cell_in version d
    → MatchResult r (λ x. AllPass (cell_fields k row texts) × (x ≡ entry_of row texts))
    (λ e. (e ≡ NoMemory) ⊎ FirstFails (cell_fields k row texts) e)
    → MatchResult r (λ x. AllPass (own_cell_checks version k d)
    × (entry_in version d ≡ Some x))
    (λ e. (e ≡ NoMemory) ⊎ FirstFails (own_cell_checks version k d) e)
own_cell (Ok x) version k d row texts is h = rw (← is) ((refl, h.0), ap Some (sym h.1))
own_cell (Err e) version k d row texts is h =
    rw (← is) (elim h [ inl m ↦ inl m | inr f ↦ inr (inr (refl, f)) ])

-- the same of a summary
pub own_stamp : (r : Result (EntryKey × Stamp) DocCause) (version : Version) (k : ℕ) (d : Data)
    (row : Row)
    → Some row ≡ stamp_in version d
    → MatchResult r (λ x. AllPass (stamp_fields k row) × (x ≡ stamped_of row))
    (λ e. (e ≡ NoMemory) ⊎ FirstFails (stamp_fields k row) e)
    → MatchResult r (λ x. AllPass (own_stamp_checks version k d)
    × (stamped_in version d ≡ Some x))
    (λ e. (e ≡ NoMemory) ⊎ FirstFails (own_stamp_checks version k d) e)
own_stamp (Ok x) version k d row is h = rw (← is) ((refl, h.0), ap Some (sym h.1))
own_stamp (Err e) version k d row is h =
    rw (← is) (elim h [ inl m ↦ inl m | inr f ↦ inr (inr (refl, f)) ])

-- the key of a row is that of the entry that it makes
pub key_of_cell : (o : Option (Row × Option (List (List ℕ)))) (e : Entry)
    → option_map (λ p. entry_of p.0 p.1) o ≡ Some e → key_of (unwrap_or o (no_row, None)).0 ≡ e.0
key_of_cell None e is = cc
key_of_cell (Some p) e is = ap (λ (o : Option Entry). (unwrap_or o e).0) is

-- the key of a row of a summary is that of the stamp that it makes
pub key_of_stamp : (o : Option Row) (e : EntryKey × Stamp) → option_map stamped_of o ≡ Some e
    → key_of (unwrap_or o no_row) ≡ e.0
key_of_stamp None e is = cc
key_of_stamp (Some p) e is = ap (λ (o : Option (EntryKey × Stamp)). (unwrap_or o e).0) is

-- a row that fails one of its own tests fails, whatever other test follows
pub fails_alone : (own : ℕ → Data → List Check) (before : List Data) (k : ℕ) (d : Data)
    (more : List Check) (e : DocCause) → length before ≡ k → FirstFails (own k d) e
    → FirstFails (own (length before) d ++ more) e
fails_alone own before k d more e at fails =
    FirstFails-front (own (length before) d) more e
    (subst (λ n. FirstFails (own n d) e) (sym at) fails)
