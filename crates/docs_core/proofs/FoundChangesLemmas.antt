-- The changes from old language maps to new ones, as far as the cells of a site were seen.
--
-- `IsFoundIn` is the invariant of that walk: the keys of both maps that are left are greater than
-- those of the cells seen, and the changes that were noted, with those at the keys left, are all
-- changes. One cell more passes the lesser keys, which have no cell, and then its own key, if a map
-- has it. Once no cell comes the keys left have none, and once no key is left the changes noted are
-- all.
use Rattle.std.proofs.Common.{◌≡◌, ◌≢◌, ◌∙◌, ◌++◌, [], ◌∷◌, List, None, Some, ap, append-nil}
use Rattle.std.proofs.Common.{append_assoc, cond, false, inl, inr, refl, subst, sym, true}
use Rattle.std.proofs.lemmas.List.Elements.{All-append, All-cons, All-nil}
use Rattle.std.specs.Prelude.{◌⊎◌, option_and_then}
use Rattle.std.specs.declared.cmp.Ordering.TheVariants.{Equal, Greater, Less}
use Rattle.std.specs.FinMap.Entries.{find}
use Rattle.std.specs.Ordering.{eq_by_cmp, is_eq, ordering_reverse}
use Rattle.cell_core.specs.Keyed.{IsMap}
use Rattle.cell_core.specs.declared.cell.Cell.{Cell}
use Rattle.cell_core.specs.Entry.{EntryKey, key_cmp}
use Rattle.catalogue.specs.Entries.{Entries, Entry, IsAboveAll}
use Rattle.cell_core.specs.inner.Entry.{key_cmp_exact, key_cmp_total}
use Rattle.map_docs.specs.Maps.{Labelled}
use Rattle.query_docs.specs.Exporting.{label_at}
use Rattle.docs_core.specs.inner.FoundChanges.{HasLabel, IsFound, IsNoted}
use Rattle.docs_core.specs.UpdatingChanges.{Change}
use Rattle.docs_core.specs.inner.Revised.{IsFirstRevised, key_of, new_of, old_of}
use Rattle.docs_core.specs.Updating.{AreChanges, Texts}
use Rattle.docs_core.specs.declared.call.revised.Revised.{Revised}
use Rattle.catalogue.proofs.CatalogueBestLemmas.{own_key as itself, same_key as one_key}
use Rattle.docs_core.proofs.JoinedRowsLemmas.{after_greater, find_above, find_part, find_seam}
use Rattle.cell_core.proofs.ChunkLemmas.{map_back}
use Rattle.docs_core.proofs.UpdatingLemmas.{Some≢None, above_found, changed_differ, changed_first}
use Rattle.docs_core.proofs.UpdatingLemmas.{skipped}

-- The keys that are left are greater than those of the cells that were seen. With these cells the
-- changes that are noted and those at the keys that are left are all.
pub record IsFoundIn (old new olds news : List Labelled) (seen : Entries)
    (Holds : Entries → Type 0) (done : List Change) : Type 0 where
  pub rest : (cells : Entries) → Holds cells → (changes : List Change)
      → AreChanges olds news cells changes → AreChanges old new cells (done ++ changes)
  pub above : (key : EntryKey) → HasLabel key olds news → IsAboveAll key seen

-- ---- one key more

-- of two that may be absent one is there, or none
one_there : (x y : Texts) → (x ≡ None) × (y ≡ None) ⊎ ((x ≢ None) ⊎ (y ≢ None))
one_there None None = inl (refl, refl)
one_there None (Some y) = inr (inr (Some≢None y))
one_there (Some x) y = inr (inl (Some≢None x))

module _ (r : Revised) (olds news old_rest new_rest : List Labelled)
    (first : IsFirstRevised r olds news old_rest new_rest) where
  apart : (key : EntryKey) → key_cmp (key_of r) key ≡ Less
      → eq_by_cmp key_cmp key (key_of r) ≡ false
  apart key less = ap is_eq (key_cmp_total.antisymm key (key_of r) ∙ ap ordering_reverse less)

  -- the keys that are left are greater
  later : (key : EntryKey) → HasLabel key old_rest new_rest → key_cmp (key_of r) key ≡ Less
  later key has = elim has [
    | inl found ↦ above_found (key_of r) key old_rest first.old_head.above found
    | inr found ↦ above_found (key_of r) key new_rest first.new_head.above found
  ]

  -- and were there before
  has_more : (key : EntryKey) → HasLabel key old_rest new_rest → HasLabel key olds news
  has_more key has =
      let other = apart key (later key has) in
      elim has [
        | inl found ↦ inl (λ none. found
            (sym (first.old_head.at key
            ∙ ap (λ u. cond u (old_of r) (find key_cmp key old_rest)) other) ∙ none))
        | inr found ↦ inr (λ none. found
            (sym (first.new_head.at key
            ∙ ap (λ u. cond u (new_of r) (find key_cmp key new_rest)) other) ∙ none))
      ]

  -- the key has a label, or it has none before and none after
  has_here : ((old_of r ≡ None) × (new_of r ≡ None)) ⊎ HasLabel (key_of r) olds news
  has_here =
      let k = key_of r in
      let at_old : find key_cmp k olds ≡ old_of r =
      first.old_head.at k ∙ ap (λ u. cond u (old_of r) (find key_cmp k old_rest)) (itself k) in
      let at_new : find key_cmp k news ≡ new_of r =
      first.new_head.at k ∙ ap (λ u. cond u (new_of r) (find key_cmp k new_rest)) (itself k) in
      elim (one_there (old_of r) (new_of r)) [
        | inl both ↦ inl both
        | inr some ↦ elim some [
          | inl there ↦ inr (inl (λ none. there (sym at_old ∙ none)))
          | inr there ↦ inr (inr (λ none. there (sym at_new ∙ none)))
        ]
      ]

  -- what is noted by what is held is noted by what the cells have
  by_cells : (cells : Entries) (held : Texts) (done new : List Change)
      → (HasLabel (key_of r) olds news → held ≡ label_at (key_of r) cells)
      → IsNoted r held done new → IsNoted r (label_at (key_of r) cells) done new
  by_cells cells held done new same noted = elim has_here [
    | inl both ↦ elim noted [
      | inl nothing ↦ inl (inl (inl (both.0 ∙ sym both.1), refl), nothing.1)
      | inr made ↦ absurd (changed_differ made.0 (both.0 ∙ sym both.1))
    ]
    | inr has ↦ subst (λ (h : Texts). IsNoted r h done new) (same has) noted
  ]

  -- with the change at the key noted the rest is left
  pub found_next : (old new : List Labelled) (seen : Entries) (Holds : Entries → Type 0)
      (held : Texts) (done more : List Change)
      → IsFoundIn old new olds news seen Holds done
      → ((cells : Entries) → Holds cells → HasLabel (key_of r) olds news
      → held ≡ label_at (key_of r) cells)
      → IsNoted r held done more → IsFoundIn old new old_rest new_rest seen Holds more
  found_next old new seen Holds held done more so same noted = record {
    rest = λ cells holds changes are.
        let k = key_of r in
        elim (by_cells cells held done more (same cells holds) noted) [
          | inl nothing ↦ subst (λ (ds : List Change). AreChanges old new cells (ds ++ changes))
              (sym nothing.1)
              (so.rest cells holds changes (skipped k (old_of r) (new_of r) olds news old_rest
              new_rest cells first.old_head first.new_head nothing.0 changes are))
          | inr made ↦ subst (λ (ds : List Change). AreChanges old new cells (ds ++ changes))
              (sym made.1)
              (subst (AreChanges old new cells)
              (sym (append_assoc done ((k, new_of r) ∷ []) changes))
              (so.rest cells holds ((k, new_of r) ∷ changes) (changed_first k (old_of r) (new_of r)
              olds news old_rest new_rest cells first.old_head first.new_head made.0 changes are)))
        ];
    above = λ key has. so.above key (has_more key has);
  }

  -- where the key is greater than one, so are all that are left
  pub all_greater : (key : EntryKey) → key_cmp (key_of r) key ≡ Greater
      → (other : EntryKey) → HasLabel other olds news → key_cmp key other ≡ Less
  all_greater key greater other has =
      let k = key_of r in
      let less : key_cmp key k ≡ Less =
      key_cmp_total.antisymm key k ∙ ap ordering_reverse greater in
      elim (eq_by_cmp key_cmp other k) as (λ t. eq_by_cmp key_cmp other k ≡ t
      → key_cmp key other ≡ Less) [
        | true ↦ λ t. ap (key_cmp key) (one_key other k t) ∙ less
        | false ↦ λ t. key_cmp_total.trans key k other less (later other (has_rest other t has))
      ] refl
    where
      has_rest : (other : EntryKey) → eq_by_cmp key_cmp other (key_of r) ≡ false
          → HasLabel other olds news → HasLabel other old_rest new_rest
      has_rest other t has = elim has [
        | inl found ↦ inl (λ none. found (first.old_head.at other
            ∙ ap (λ u. cond u (old_of r) (find key_cmp other old_rest)) t ∙ none))
        | inr found ↦ inr (λ none. found (first.new_head.at other
            ∙ ap (λ u. cond u (new_of r) (find key_cmp other new_rest)) t ∙ none))
      ]

-- ---- one cell more

-- the cells go on with this one
abbrev pub GoesOn : Entries → Entry → Entries → Type 0
GoesOn seen e cells = (more : Entries) × (cells ≡ seen ++ e ∷ more) × IsMap key_cmp cells

-- a cell comes next
pub found_before : (old new olds news : List Labelled) (seen : Entries) (e : Entry)
    (done : List Change) → IsFound old new olds news seen done
    → IsFoundIn old new olds news seen (GoesOn seen e) done
found_before old new olds news seen e done so = record {
  rest = λ cells goes changes are.
      let is = goes.1 in
      subst (λ (es : Entries). AreChanges old new es (done ++ changes)) (sym is)
      (so.rest (e ∷ goes.0) (subst (IsMap key_cmp) is goes.2) changes
      (subst (λ (es : Entries). AreChanges olds news es changes) is are));
  above = so.above;
}

-- a lesser key that is left has no cell
pub lesser_absent : (seen : Entries) (e : Entry) (key : EntryKey) (cells : Entries)
    → GoesOn seen e cells → IsAboveAll key seen → key_cmp key e.0 ≡ Less
    → None ≡ label_at key cells
lesser_absent seen e key cells (more, is, map) above less =
    let greater : key_cmp e.0 key ≡ Greater =
    key_cmp_total.antisymm e.0 key ∙ ap ordering_reverse less in
    let after = after_greater key (e ∷ more)
    (map_back key_cmp seen (e ∷ more) (subst (IsMap key_cmp) is map)) greater in
    ap (option_and_then (λ (c : Cell). c.label))
    (sym (ap (find key_cmp key) is ∙ find_part seen (e ∷ more) key after
    ∙ find_above seen key above))

-- the key of the cell has its label
pub equal_there : (seen : Entries) (e : Entry) (key : EntryKey) (cells : Entries)
    → GoesOn seen e cells → IsAboveAll e.0 seen → key_cmp key e.0 ≡ Equal
    → e.1.label ≡ label_at key cells
equal_there seen e key cells (more, is, map) above equal =
    let same : key ≡ e.0 = key_cmp_exact key e.0 equal in
    ap (option_and_then (λ (c : Cell). c.label))
    (sym (ap (λ (k : EntryKey). find key_cmp k cells) same ∙ ap (find key_cmp e.0) is
    ∙ find_seam seen more e.0 e.1 above))

-- all keys up to that of the cell are passed
pub found_cell : (old new olds news : List Labelled) (seen : Entries) (e : Entry)
    (done : List Change) → IsFoundIn old new olds news seen (GoesOn seen e) done
    → ((key : EntryKey) → HasLabel key olds news → key_cmp e.0 key ≡ Less)
    → IsFound old new olds news (seen ++ e ∷ []) done
found_cell old new olds news seen e done so greater = record {
  rest = λ more map changes are.
      let is = append_assoc seen (e ∷ []) more in
      so.rest ((seen ++ e ∷ []) ++ more) (more, is, map) changes are;
  above = λ key has.
      let P : Entry → Type 0 = λ (x : Entry). key_cmp x.0 key ≡ Less in
      All-append P seen (e ∷ []) (so.above key has)
      (All-cons P e [] (greater key has) (All-nil P));
}

-- where no key is left none is lesser
pub none_left : (olds news : List Labelled) → olds ≡ [] → news ≡ [] → (P : EntryKey → Type 0)
    → (key : EntryKey) → HasLabel key olds news → P key
none_left olds news no_olds no_news P key has = elim has [
  | inl found ↦ absurd (found (ap (find key_cmp key) no_olds))
  | inr found ↦ absurd (found (ap (find key_cmp key) no_news))
]

-- ---- the keys that are left

-- the cells are these
abbrev pub AreThese : Entries → Entries → Type 0
AreThese seen cells = (cells ≡ seen) × IsMap key_cmp cells

-- no cell comes any more
pub found_rest : (old new olds news : List Labelled) (seen : Entries) (done : List Change)
    → IsFound old new olds news seen done
    → IsFoundIn old new olds news seen (AreThese seen) done
found_rest old new olds news seen done so = record {
  rest = λ cells these changes are.
      let is = these.0 ∙ sym (append-nil seen) in
      subst (λ (es : Entries). AreChanges old new es (done ++ changes)) (sym is)
      (so.rest [] (subst (IsMap key_cmp) is these.1) changes
      (subst (λ (es : Entries). AreChanges olds news es changes) is are));
  above = so.above;
}

-- a key that is left has no cell
pub rest_absent : (seen : Entries) (key : EntryKey) (cells : Entries) → AreThese seen cells
    → IsAboveAll key seen → None ≡ label_at key cells
rest_absent seen key cells these above =
    ap (option_and_then (λ (c : Cell). c.label))
    (sym (ap (find key_cmp key) these.0 ∙ find_above seen key above))

-- where no key is left these are all changes
pub found_all : (old new olds news : List Labelled) (seen : Entries) (done : List Change)
    → IsFoundIn old new olds news seen (AreThese seen) done → olds ≡ [] → news ≡ []
    → IsMap key_cmp seen → AreChanges old new seen done
found_all old new olds news seen done so no_olds no_news map =
    subst (AreChanges old new seen) (append-nil done)
    (so.rest seen (refl, map) []
    (subst (λ (os : List Labelled). AreChanges os news seen []) (sym no_olds)
    (subst (λ (ns : List Labelled). AreChanges [] ns seen []) (sym no_news)
    (record { ascending = tt; at = λ key. inl (inl refl, refl) }))))

-- the changes between equal labels are the same
pub found_from : (old was new is : List Labelled) (cells : Entries) (changes : List Change)
    → old ≡ was → new ≡ is → AreChanges old new cells changes → AreChanges was is cells changes
found_from old was new is cells changes olds news are =
    subst (λ (os : List Labelled). AreChanges os is cells changes) olds
    (subst (λ (ns : List Labelled). AreChanges old ns cells changes) news are)
