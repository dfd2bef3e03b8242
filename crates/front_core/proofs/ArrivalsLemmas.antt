-- What an edit brought, gathered by its keys.
--
-- An edit keeps each cell but those at some keys, where the new cell wins its join with the old. So
-- the state after it is the state before, joined with the cells at these keys, if all of them were
-- gathered (`gathered`). A change has one key; of an import and an update the keys are those of
-- their labels, which are looked at one by one, and a key at which nothing changed may be left out.
use Rattle.std.proofs.Common.{◌≡◌, ◌≢◌, ◌∙◌, ◌+◌, ◌<◌, ℕ, true, false, cond, List, [], ◌∷◌, Option}
use Rattle.std.proofs.Common.{Some, None, inl, inr, refl, sym, ap, subst, drop, get_or, length}
use Rattle.std.specs.Prelude.{◌⊎◌}
use Rattle.std.specs.Borrow.{Bor}
use Rattle.std.specs.Option.{option_copied, option_eq}
use Rattle.catalogue.specs.Equality.{cell_eq}
use Rattle.catalogue.proofs.ChangesLemmas.{cell_decides}
use Rattle.std.specs.Ordering.{eq_by_cmp, is_eq}
use Rattle.std.specs.Cmp.{tied_itself}
use Rattle.std.specs.FinMap.Entries.{find, find-put, is_sorted-put}
use Rattle.cell_core.specs.declared.cell.Cell.{Cell}
use Rattle.cell_core.specs.Cell.{AgreeCells, joined_cells}
use Rattle.cell_core.specs.inner.Cell.{cell_laws}
use Rattle.cell_core.specs.Keyed.{AgreeIfBoth, IsMap}
use Rattle.cell_core.specs.inner.KeyedLaws.{also_map, at_of, find-joined_maps}
use Rattle.cell_core.specs.Keyed.{joined_if_both}
use Rattle.cell_core.specs.inner.KeyedLaws.{joined_maps-IsMap, same_maps}
use Rattle.cata_core.specs.Delta.{IsPart}
use Rattle.cell_core.specs.Entry.{EntryKey}
use Rattle.catalogue.specs.Entries.{Agree, Entries, Entry, IsBelowCells, joined}
use Rattle.cell_core.specs.Entry.{key_cmp}
use Rattle.cell_core.specs.inner.Entry.{key_cmp_exact, key_cmp_total}
use Rattle.catalogue.specs.inner.Entries.{catalogue_laws}
use Rattle.cata_core.specs.Site.{SiteState}
use Rattle.catalogue.proofs.CatalogueApplyLemmas.{with_none}
use Rattle.cata_core.proofs.SiteOwnEditsLemmas.{own_ascends}
use Rattle.map_docs.specs.Maps.{Labelled}
use Rattle.docs_core.specs.ImportingLabels.{Imports, puts_of}
use Rattle.docs_core.specs.UpdatingChanges.{Change as MadeChange, Makes, with_change}
use Rattle.docs_core.specs.Updating.{Updates}
use Rattle.docs_core.proofs.ImportingLaws.{import_leaves}
use Rattle.docs_core.proofs.UpdatingLaws.{keeps_cell}
use Rattle.front_core.specs.inner.Arrivals.{HasMore, IsKnown, KnowsMore}
use Rattle.front_core.specs.Change.{IsChanged}
use Rattle.front_core.specs.OpenSite.{IsJoined}
use Rattle.front_core.specs.declared.change.Change.{Change}
use Rattle.catalogue.proofs.CatalogueJoinedLatestLemmas.{first_alone as alone}
use Rattle.list_core.proofs.Basics.{element_at as first_left}
use Rattle.catalogue.proofs.CatalogueBestLemmas.{same_key as one_key}
use Rattle.front_core.proofs.SpareLemmas.{above_trans}

-- ---- of one key

some_or_none : {X : Type 0} (o : Option X) (x : X) → o ≡ Some x → o ≡ None → ⊥
some_or_none o x some none = let no : Some x ≡ None = sym some ∙ none in cc

-- a cell that joins itself, or none
again : (a : Option Cell) (c : Cell) → ((d : Cell) → a ≡ Some d → Some c ≡ Some d)
    → joined_if_both joined_cells a (Some c) ≡ Some c
again None c same = refl
again (Some d) c same =
    ap (λ o. joined_if_both joined_cells o (Some c)) (sym (same d refl))
    ∙ ap Some (cell_laws.idem c)

-- the second of two agrees with what is part of it
part_agrees : (a b c : Option Cell) → AgreeIfBoth AgreeCells a b
    → ((d : Cell) → c ≡ Some d → b ≡ Some d) → AgreeIfBoth AgreeCells a c
part_agrees a b None h of = with_none a
part_agrees a b (Some d) h of = subst (AgreeIfBoth AgreeCells a) (of d refl) h

-- the later of two, of what is part of it where it is another
piece : (a b c : Option Cell) → joined_if_both joined_cells a b ≡ b
    → ((d : Cell) → c ≡ Some d → b ≡ Some d) → (c ≡ b) ⊎ (b ≡ a)
    → b ≡ joined_if_both joined_cells a c
piece a b c above of (inl same) = sym above ∙ ap (joined_if_both joined_cells a) (sym same)
piece a b None above of (inr kept) = kept ∙ sym (alone a)
piece a b (Some d) above of (inr kept) = sym above ∙ ap (joined_if_both joined_cells a) (of d refl)

-- ---- gathered cells

module _ (cells came : Entries) (key : EntryKey) (cell : Cell) (part : IsPart came cells)
    (held : find key_cmp key cells ≡ Some cell) where
  abbrev added : Entries
  added = joined came ((key, cell) ∷ [])

  find-added : (q : EntryKey) → find key_cmp q added
      ≡ cond (eq_by_cmp key_cmp q key) (find key_cmp q cells) (find key_cmp q came)
  find-added q =
      find-joined_maps key_cmp key_cmp_total joined_cells came ((key, cell) ∷ []) part.map tt q
      ∙ elim (eq_by_cmp key_cmp q key) as (λ t. eq_by_cmp key_cmp q key ≡ t
      → joined_if_both joined_cells (find key_cmp q came) (cond t (Some cell) None)
      ≡ cond t (find key_cmp q cells) (find key_cmp q came)) [
        | true ↦ λ t.
            let here : find key_cmp q cells ≡ Some cell =
            ap (λ k. find key_cmp k cells) (one_key q key t) ∙ held in
            again (find key_cmp q came) cell (λ d has. sym here ∙ part.of q d has) ∙ sym here
        | false ↦ λ t. alone (find key_cmp q came)
      ] refl

  -- A cell is added, and the cells are part of the others still.
  pub part-added : IsPart added cells
  part-added = record {
    map = joined_maps-IsMap key_cmp key_cmp_total joined_cells came ((key, cell) ∷ []) part.map tt;
    of = λ q c has. at q c (sym (find-added q) ∙ has);
  }
    where
      at : (q : EntryKey) (c : Cell)
          → cond (eq_by_cmp key_cmp q key) (find key_cmp q cells) (find key_cmp q came) ≡ Some c
          → find key_cmp q cells ≡ Some c
      at q c = elim (eq_by_cmp key_cmp q key) as
          (λ t. cond t (find key_cmp q cells) (find key_cmp q came) ≡ Some c
          → find key_cmp q cells ≡ Some c) [
            | true ↦ λ has. has
            | false ↦ λ has. part.of q c has
          ]

  -- It is there then, beside all that was there.
  pub more-added : HasMore (λ q. q ≡ key) cells came added
  more-added = λ q why. find-added q ∙ elim why [
    | inl has ↦ elim (eq_by_cmp key_cmp q key) as
        (λ t. cond t (find key_cmp q cells) (find key_cmp q came) ≡ find key_cmp q cells) [
          | true ↦ refl
          | false ↦ has
        ]
    | inr is ↦
        let same : eq_by_cmp key_cmp q key ≡ true =
        ap (λ k. eq_by_cmp key_cmp k key) is ∙ ap is_eq (tied_itself key_cmp_total key) in
        ap (λ t. cond t (find key_cmp q cells) (find key_cmp q came)) same
  ]

-- An edit that is applied adds the cell that is at its key.
pub edit_added : (cells came more : Entries) (key : EntryKey) (cell : Cell) (edit : Entry)
    → IsPart came cells → find key_cmp key cells ≡ Some cell → edit ≡ (key, cell)
    → more ≡ joined came (edit ∷ [])
    → IsPart more cells × HasMore (λ q. q ≡ key) cells came more
edit_added cells came more key cell edit part held same is =
    subst (λ (es : Entries). IsPart es cells × HasMore (λ q. q ≡ key) cells came es)
    (sym (is ∙ ap (λ (e : Entry). joined came (e ∷ [])) same))
    (part-added cells came key cell part held, more-added cells came key cell part held)

-- ---- the cells of labels

-- Cells that are borrowed are the same where the comparison says so.
pub same_cells : (x y : Option (Bor Cell))
    → option_eq (λ a b. cell_eq a.now b.now) x y ≡ true → option_copied x ≡ option_copied y
same_cells None None t = refl
same_cells None (Some y) t = cc
same_cells (Some x) None t = cc
same_cells (Some x) (Some y) t = ap Some ((cell_decides x.now y.now).0 t)

-- the key is known, or one of the labels from a place on has it
abbrev pub IsToKnow : Entries → Entries → List Labelled → ℕ → Entries → EntryKey → Type 0
IsToKnow before cells items i came q =
    IsKnown before cells came q ⊎ (find key_cmp q (drop i items) ≢ None)

-- One label more is looked at.
pub label_known : (before cells came more : Entries) (items : List Labelled) (i : ℕ)
    (item : Labelled) → i < length items → item ≡ get_or items i item
    → KnowsMore (λ q. q ≡ item.0) before cells came more → (q : EntryKey)
    → IsToKnow before cells items i came q → IsToKnow before cells items (i + 1) more q
label_known before cells came more items i item below at knows q why = elim why [
  | inl known ↦ inl (knows q (inl known))
  | inr some ↦
      elim (eq_by_cmp key_cmp q item.0) as
      (λ t. eq_by_cmp key_cmp q item.0 ≡ t
      → cond t (Some item.1) (find key_cmp q (drop (i + 1) items)) ≢ None
      → IsToKnow before cells items (i + 1) more q) [
        | true ↦ λ t _. inl (knows q (inr (one_key q item.0 t)))
        | false ↦ λ t later. inr later
      ] refl
      (subst (λ (ls : List Labelled). find key_cmp q ls ≢ None)
      (first_left items i item below at) some)
]

-- ---- what an edit brought

-- a catalogue above another is the other, joined with all cells that are not the same
pub gathered : (old new came : Entries) → IsMap key_cmp old → IsBelowCells old new
    → IsPart came new
    → ((q : EntryKey) → IsKnown old new came q) → Agree old came × (new ≡ joined old came)
gathered old new came m below part at =
    let n : IsMap key_cmp new =
    also_map key_cmp key_cmp_total key_cmp_exact cell_laws old new below.0 m in
    let in_new = find-joined_maps key_cmp key_cmp_total joined_cells old new m n in
    let above : (q : EntryKey)
    → joined_if_both joined_cells (find key_cmp q old) (find key_cmp q new)
    ≡ find key_cmp q new =
    λ q. sym (in_new q) ∙ ap (find key_cmp q) below.1 in (
      inr (record {
        first = m;
        second = part.map;
        at = λ q. part_agrees (find key_cmp q old) (find key_cmp q new) (find key_cmp q came)
            (at_of key_cmp key_cmp_total key_cmp_exact cell_laws old new below.0 q) (part.of q);
      }),
      same_maps key_cmp key_cmp_total key_cmp_exact new (joined old came) n
          (joined_maps-IsMap key_cmp key_cmp_total joined_cells old came m part.map)
          (λ q. piece (find key_cmp q old) (find key_cmp q new) (find key_cmp q came) (above q)
          (part.of q) (at q)
          ∙ sym (find-joined_maps key_cmp key_cmp_total joined_cells old came m part.map q)),
    )

-- changes that are made one after another ascend
makes_ascend : (now : ℕ) (name : List ℕ) (changes : List MadeChange) (old new : Entries)
    → IsMap key_cmp old → Makes now name changes old new → IsBelowCells old new
makes_ascend now name [] old new m is =
    subst (IsBelowCells old) (sym is) (catalogue_laws.agree_refl old, catalogue_laws.idem old)
makes_ascend now name (e ∷ es) old new m (stamp, next, rest) =
    let cell : Cell = record { stamp = stamp; label = e.1 } in
    let mid = with_change e stamp old in
    let is_mid : IsMap key_cmp mid = is_sorted-put key_cmp key_cmp_total e.0 cell old m in
    above_trans old mid new is_mid (own_ascends old e.0 cell m next.new.above)
    (makes_ascend now name es mid new is_mid rest)

-- The site, joined with the cell at the key of a change, is what the change made of it.
pub change_brought : (now : ℕ) (change : Change) (old new : SiteState) (came : Entries)
    → IsMap key_cmp old.cells → IsChanged now change old new → IsPart came new.cells
    → HasMore (λ q. q ≡ (change.id, change.lang)) new.cells [] came
    → IsJoined came old new
change_brought now change old new came m (stamp, next, is) part more =
    let key : EntryKey = (change.id, change.lang) in
    let cell : Cell = record { stamp = stamp; label = change.label } in
    let cells = ap (λ (s : SiteState). s.cells) is in
    let ascends = subst (IsBelowCells old.cells) (sym cells)
    (own_ascends old.cells key cell m next.new.above) in
    let found = gathered old.cells new.cells came m ascends part
    (λ q. elim (eq_by_cmp key_cmp q key) as (λ t. eq_by_cmp key_cmp q key ≡ t
    → IsKnown old.cells new.cells came q) [
      | true ↦ λ t. inl (more q (inr (one_key q key t)))
      | false ↦ λ t. inr (ap (find key_cmp q) cells
          ∙ find-put key_cmp key_cmp_total q key cell old.cells
          ∙ ap (λ u. cond u (Some cell) (find key_cmp q old.cells)) t)
    ] refl) in
    (found.0, λ i. record { name = (is i).name; cells = found.1 i })

-- Where all keys of the labels are known, the site, joined with the cells, is what their import
-- made of it.
pub import_brought : (now : ℕ) (labels : List Labelled) (old new : SiteState) (came : Entries)
    → IsMap key_cmp labels → IsMap key_cmp old.cells → new.name ≡ old.name
    → Imports now old.name labels old.cells new.cells → IsPart came new.cells
    → KnowsMore (λ q. find key_cmp q labels ≢ None) old.cells new.cells [] came
    → IsJoined came old new
import_brought now labels old new came is_map m name imports part knows =
    let ascends = makes_ascend now old.name (puts_of labels) old.cells new.cells m imports in
    let found = gathered old.cells new.cells came m ascends part
    (λ q. elim (find key_cmp q labels) as (λ o. find key_cmp q labels ≡ o
    → IsKnown old.cells new.cells came q) [
      | None ↦ λ none.
          inr (import_leaves now old.name labels old.cells new.cells is_map imports q none)
      | Some label ↦ λ has. knows q (inr (some_or_none (find key_cmp q labels) label has))
    ] refl) in
    (found.0, λ i. record { name = name i; cells = found.1 i })

-- Where all keys of the old labels and of the new ones are known, the site, joined with the cells,
-- is what the update made of it.
pub update_brought : (now : ℕ) (before after : List Labelled) (old new : SiteState)
    (some came : Entries) → IsMap key_cmp old.cells → new.name ≡ old.name
    → Updates now old.name before after old.cells new.cells → IsPart came new.cells
    → KnowsMore (λ q. find key_cmp q before ≢ None) old.cells new.cells [] some
    → KnowsMore (λ q. find key_cmp q after ≢ None) old.cells new.cells some came
    → IsJoined came old new
update_brought now before after old new some came m name updates part first knows =
    let ascends = makes_ascend now old.name updates.0 old.cells new.cells m updates.2 in
    let found = gathered old.cells new.cells came m ascends part
    (λ q. elim (find key_cmp q before) as (λ o. find key_cmp q before ≡ o
    → IsKnown old.cells new.cells came q) [
      | Some label ↦ λ has.
          knows q (inl (first q (inr (some_or_none (find key_cmp q before) label has))))
      | None ↦ λ none. elim (find key_cmp q after) as (λ o. find key_cmp q after ≡ o
          → IsKnown old.cells new.cells came q) [
            | Some label ↦ λ has. knows q (inr (some_or_none (find key_cmp q after) label has))
            | None ↦ λ nothing.
                inr (keeps_cell now old.name before after old.cells new.cells q updates
                (none ∙ sym nothing))
          ] refl
    ] refl) in
    (found.0, λ i. record { name = name i; cells = found.1 i })
