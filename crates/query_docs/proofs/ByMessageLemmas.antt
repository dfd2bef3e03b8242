-- Cells that are given on message by message: one cell more, and one message more.
--
-- Cells come in ascending order of key, so those of one message come together. What is kept is the
-- message that is read, with its cells so far; a cell of another id ends it and begins the next.
-- The cells before and after a message have other ids, so its live labels are those of all cells.
use Rattle.std.proofs.Common.{◌≡◌, ◌∙◌, ◌++◌, [], ◌∷◌, ℕ, List, ap, ap₂, append_assoc, cond}
use Rattle.std.proofs.Common.{false, map}
use Rattle.std.proofs.Common.{◌+◌, ◌<◌, add-one, drop, get_or, length, refl, subst, suc, sym, take}
use Rattle.std.proofs.Common.{true, true≢false}
use Rattle.std.proofs.Math.Seq.{drop-cons, take-suc}
use Rattle.std.proofs.lemmas.List.{map-append}
use Rattle.std.specs.Prelude.{All, Bool, None, Some, filter}
use Rattle.std.specs.Option.{option_or}
use Rattle.std.proofs.lemmas.List.Elements.{All-append, All-cons, All-head, All-nil, All-push}
use Rattle.std.proofs.lemmas.List.Elements.{All-tail, All-weaker, filter-append}
use Rattle.std.specs.Cmp.Lexicographic.{nat_list_cmp_total}
use Rattle.std.specs.FinMap.Entries.{find}
use Rattle.std.specs.Ordering.{is_eq, ordering_reverse, ordering_then}
use Rattle.std.specs.declared.cmp.Ordering.{Ordering}
use Rattle.std.specs.declared.cmp.Ordering.TheVariants.{Equal, Greater, Less}
use Rattle.cell_core.specs.Entry.{EntryKey, key_cmp, text_cmp}
use Rattle.catalogue.specs.Entries.{Entries, Entry, IsAboveAll}
use Rattle.catalogue.specs.Live.{live, live_of}
use Rattle.catalogue.proofs.Basics.{apart_first, append_nil}
use Rattle.catalogue.proofs.CatalogueFlatLemmas.{find-append_lists, or_none}
use Rattle.catalogue.proofs.CatalogueNestedLemmas.{text_exact}
use Rattle.site_docs.specs.Sink.{IsLabelRef}
use Rattle.query_docs.specs.inner.ByMessage.{AreLabelRefs, HasGiven, HasSeen, IsNextMessage}
use Rattle.query_docs.specs.inner.ByMessage.{cell_of, cells_by, cells_of, entries_in, is_of}
use Rattle.query_docs.specs.declared.by_message.ByMessage.{ByMessage}
use Rattle.query_docs.specs.declared.by_message.MessageCell.{MessageCell}
use Rattle.nego_core.proofs.WideningLemmas.{none_back as all_of_second}
use Rattle.cell_core.proofs.Basics.{tied_order as tied}

-- ---- one cell more

-- the first of these cells, if any, is of this message
abbrev pub IsSame : Entries → List ℕ → Type 0
IsSame [] id = Unit {0}
IsSame (c ∷ cs) id = c.0.0 ≡ id

-- the first of these cells, if any, is of another message
abbrev pub IsOther : Entries → List ℕ → Type 0
IsOther [] id = Unit {0}
IsOther (c ∷ cs) id = is_eq (text_cmp c.0.0 id) ≡ false

-- The cells of the message that is read have the id that it has.
pub same_of : {T : Type 0} (by : ByMessage T) (id : List ℕ) → is_of by.id id ≡ true
    → (by.id ≡ Some id) × IsSame (entries_in by) id
same_of by id is = elim by.id as (λ o. is_of o id ≡ true → (o ≡ Some id)
    × IsSame (cells_by o by.cells.items) id) [
      | None ↦ λ no. absurd (true≢false (sym no))
      | Some own ↦ λ eq.
          let same = text_exact own id (tied (text_cmp own id) eq) in
          (ap Some same, same_first own by.cells.items same)
    ] is
  where
    same_first : (own : List ℕ) (cells : List MessageCell) → own ≡ id
        → IsSame (cells_of own cells) id
    same_first own [] same = tt
    same_first own (c ∷ cs) same = same

-- And where another message is asked for, they are of another.
pub other_of : {T : Type 0} (by : ByMessage T) (id : List ℕ) → is_of by.id id ≡ false
    → IsOther (entries_in by) id
other_of by id is =
    elim by.id as (λ o. is_of o id ≡ false → IsOther (cells_by o by.cells.items) id) [
      | None ↦ λ no. tt
      | Some own ↦ λ ne. other_first own by.cells.items ne
    ] is
  where
    other_first : (own : List ℕ) (cells : List MessageCell) → is_eq (text_cmp own id) ≡ false
        → IsOther (cells_of own cells) id
    other_first own [] ne = tt
    other_first own (c ∷ cs) ne = ne

-- a key that is greater has a greater id, or the same
less_or_same : (r s : Ordering) → ordering_then r s ≡ Less → (r ≡ Equal → ⊥) → r ≡ Less
less_or_same Less s less other = refl
less_or_same Equal s less other = absurd (other refl)
less_or_same Greater s less other = absurd (cc)

-- what is not empty before a member is not empty
not_empty : {X : Type 0} (xs : List X) (x : X) → xs ++ x ∷ [] ≡ [] → ⊥
not_empty [] x e = cc
not_empty (y ∷ ys) x e = cc

module _ {T : Type 0} (Holds : T → T → Entries → Type 0) (first sink : T) (e : Entry) where
  -- The cell is of the message that is read.
  pub given_more : (cells seen : Entries) → IsSame cells e.0.0
      → IsAboveAll e.0 seen → HasGiven Holds first sink cells seen
      → HasGiven Holds first sink (cells ++ e ∷ []) (seen ++ e ∷ [])
  given_more [] seen same above has =
      let none : has.given ≡ [] = has.begun refl in record {
        given = [];
        all =
            ap (λ (es : Entries). es ++ e ∷ [])
            (has.all ∙ append_nil has.given ∙ none);
        next = record {
          id = e.0.0;
          own = All-cons (λ (x : Entry). x.0.0 ≡ e.0.0) e [] refl (All-nil (λ (x : Entry). x.0.0
              ≡ e.0.0));
          above = All-nil (λ (x : Entry). text_cmp x.0.0 e.0.0 ≡ Less);
        };
        begun = λ no. refl;
        holds = subst (Holds first sink) none has.holds;
      }
  given_more (c ∷ cs) seen same above has =
      let next = has.next in
      let id : c.0.0 ≡ next.id = All-head (λ (x : Entry). x.0.0 ≡ next.id) c cs next.own in
      let equal : c.0.0 ≡ e.0.0 = same in record {
        given = has.given;
        all = ap (λ (es : Entries). es ++ e ∷ []) has.all
            ∙ append_assoc has.given (c ∷ cs) (e ∷ []);
        next = record {
          id = next.id;
          own = All-push (λ (x : Entry). x.0.0 ≡ next.id) (c ∷ cs) e next.own (sym equal ∙ id);
          above = next.above;
        };
        begun = λ no. absurd (not_empty (c ∷ cs) e no);
        holds = has.holds;
      }

  -- The cell is of another message, after that which was read was given on.
  pub given_on : (new : T) (cells seen : Entries) → IsOther cells e.0.0
      → IsAboveAll e.0 seen
      → ((before : Entries) → Holds first sink before → IsNextMessage before cells
      → Holds first new (before ++ cells))
      → HasGiven Holds first sink cells seen
      → HasGiven Holds first new (e ∷ []) (seen ++ e ∷ [])
  given_on new [] seen other above gives has =
      let none : has.given ≡ [] = has.begun refl in record {
        given = [];
        all =
            ap (λ (es : Entries). es ++ e ∷ [])
            (has.all ∙ append_nil has.given ∙ none);
        next = record {
          id = e.0.0;
          own = All-cons (λ (x : Entry). x.0.0 ≡ e.0.0) e [] refl (All-nil (λ (x : Entry). x.0.0
              ≡ e.0.0));
          above = All-nil (λ (x : Entry). text_cmp x.0.0 e.0.0 ≡ Less);
        };
        begun = λ no. refl;
        holds =
            subst (Holds first new) (append_nil has.given ∙ none)
            (gives has.given has.holds has.next);
      }
  given_on new (c ∷ cs) seen other above gives has =
      let next = has.next in
      let id : c.0.0 ≡ next.id = All-head (λ (x : Entry). x.0.0 ≡ next.id) c cs next.own in
      let cells_above = all_of_second (λ (x : Entry). key_cmp x.0 e.0 ≡ Less) has.given (c ∷ cs)
      (subst (IsAboveAll e.0) has.all above) in
      let less : text_cmp c.0.0 e.0.0 ≡ Less =
      less_or_same (text_cmp c.0.0 e.0.0) (text_cmp c.0.1 e.0.1)
      (All-head (λ (x : Entry). key_cmp x.0 e.0 ≡ Less) c cs cells_above)
      (λ equal. true≢false (ap is_eq (sym equal) ∙ other)) in
      let id_less : text_cmp next.id e.0.0 ≡ Less =
      subst (λ (i : List ℕ). text_cmp i e.0.0 ≡ Less) id less in
      let own_below =
      All-weaker (λ (x : Entry). x.0.0 ≡ next.id) (λ (x : Entry). text_cmp x.0.0 e.0.0 ≡ Less)
      (λ x is. subst (λ (i : List ℕ). text_cmp i e.0.0 ≡ Less) (sym is) id_less) (c ∷ cs)
      next.own in
      let given_below =
      All-weaker (λ (x : Entry). text_cmp x.0.0 next.id ≡ Less)
      (λ (x : Entry). text_cmp x.0.0 e.0.0 ≡ Less)
      (λ x is. nat_list_cmp_total.trans x.0.0 next.id e.0.0 is id_less) has.given next.above in
      record {
        given = seen;
        all = refl;
        next = record {
          id = e.0.0;
          own = All-cons (λ (x : Entry). x.0.0 ≡ e.0.0) e [] refl (All-nil (λ (x : Entry). x.0.0
              ≡ e.0.0));
          above = subst (All (λ (x : Entry). text_cmp x.0.0 e.0.0 ≡ Less)) (sym has.all)
              (All-append (λ (x : Entry). text_cmp x.0.0 e.0.0 ≡ Less) has.given (c ∷ cs)
              given_below own_below);
        };
        begun = λ no. cc;
        holds = subst (Holds first new) (sym has.all) (gives has.given has.holds next);
      }

-- A cell was pushed after those of the message that is read.
pushed : {T : Type 0} (old new : ByMessage T) (cell : MessageCell) (id : List ℕ) (e : Entry)
    → old.id ≡ Some id → new.id ≡ old.id → new.cells.items ≡ old.cells.items ++ cell ∷ []
    → cell_of id cell ≡ e → entries_in new ≡ entries_in old ++ e ∷ []
pushed old new cell id e at same items own =
    ap (λ o. cells_by o new.cells.items) (same ∙ at)
    ∙ ap (cells_of id) items
    ∙ map-append (cell_of id) old.cells.items (cell ∷ [])
    ∙ ap₂ (λ (es : Entries) (x : Entry). es ++ x ∷ [])
    (ap (λ o. cells_by o old.cells.items) (sym at)) own

-- With it all cells were seen that were seen before, and it.
pub seen_more : {T : Type 0} (Holds : T → T → Entries → Type 0) (first : T) (old new : ByMessage T)
    (cell : MessageCell) (id : List ℕ) (e : Entry) (seen : Entries) → old.id ≡ Some id
    → new.id ≡ old.id → new.cells.items ≡ old.cells.items ++ cell ∷ [] → cell_of id cell ≡ e
    → AreLabelRefs old.cells.items → IsLabelRef cell.label
    → HasGiven Holds first new.sink (entries_in old ++ e ∷ []) seen
    → HasSeen Holds first new seen
seen_more Holds first old new cell id e seen at same items own labels label given =
    let all = sym (pushed old new cell id e at same items own) in record {
      given = subst (λ (es : Entries). HasGiven Holds first new.sink es seen) all given;
      labels =
          subst AreLabelRefs (sym items)
          (All-push (λ (x : MessageCell). IsLabelRef x.label) old.cells.items cell labels label);
    }

-- ---- cells of other messages

-- none of the cells has this id
abbrev pub NoneOf : List ℕ → Entries → Type 0
NoneOf id es = All (λ e. is_eq (text_cmp id e.0.0) ≡ false) es

-- Where no cell has the id, no cell is found at a key of it.
pub none_found : (key : EntryKey) (es : Entries) → NoneOf key.0 es → find key_cmp key es ≡ None
none_found key [] none = refl
none_found key (e ∷ es) none =
    ap (λ t. cond t (Some e.1) (find key_cmp key es))
    (apart_first (text_cmp key.0 e.0.0) (text_cmp key.1 e.0.1)
    (All-head (λ (x : Entry). is_eq (text_cmp key.0 x.0.0) ≡ false) e es none))
    ∙ none_found key es (All-tail (λ (x : Entry). is_eq (text_cmp key.0 x.0.0) ≡ false) e es none)

-- Where no cell has the id, none is of its message.
none_kept : (id : List ℕ) (es : Entries) → NoneOf id es
    → filter (λ e. is_eq (text_cmp id e.0.0)) es ≡ []
none_kept id [] none = refl
none_kept id (e ∷ es) none =
    let kept = filter (λ (x : Entry). is_eq (text_cmp id x.0.0)) es in
    ap (λ t. cond t (e ∷ kept) kept)
    (All-head (λ (x : Entry). is_eq (text_cmp id x.0.0) ≡ false) e es none)
    ∙ none_kept id es (All-tail (λ (x : Entry). is_eq (text_cmp id x.0.0) ≡ false) e es none)

module _ (before cells : Entries) (next : IsNextMessage before cells) where
  -- No cell of the message has another id.
  pub none_of_cells : (id : List ℕ) → is_eq (text_cmp id next.id) ≡ false → NoneOf id cells
  none_of_cells id other =
      All-weaker (λ (e : Entry). e.0.0 ≡ next.id)
      (λ (e : Entry). is_eq (text_cmp id e.0.0) ≡ false)
      (λ e is. subst (λ (i : List ℕ). is_eq (text_cmp id i) ≡ false) (sym is) other) cells next.own

  -- No cell before has the id of the message.
  pub none_before : NoneOf next.id before
  none_before =
      All-weaker (λ (e : Entry). text_cmp e.0.0 next.id ≡ Less)
      (λ (e : Entry). is_eq (text_cmp next.id e.0.0) ≡ false)
      (λ e less. ap is_eq (nat_list_cmp_total.antisymm next.id e.0.0 ∙ ap ordering_reverse less))
      before next.above

  -- At a key of another message there is what was before.
  pub found_before : (key : EntryKey) → is_eq (text_cmp key.0 next.id) ≡ false
      → find key_cmp key (before ++ cells) ≡ find key_cmp key before
  found_before key other =
      find-append_lists key_cmp key before cells
      ∙ ap (option_or (find key_cmp key before))
      (none_found key cells (none_of_cells key.0 other))
      ∙ or_none (find key_cmp key before)

  -- At a key of the message there is what its cells have.
  pub found_own : (lang : List ℕ)
      → find key_cmp (next.id, lang) (before ++ cells) ≡ find key_cmp (next.id, lang) cells
  found_own lang =
      find-append_lists key_cmp (next.id, lang) before cells
      ∙ ap (λ o. option_or o (find key_cmp (next.id, lang) cells))
      (none_found (next.id, lang) before none_before)

  -- Another message has the live labels that it had before.
  pub live_before : (id : List ℕ) → is_eq (text_cmp id next.id) ≡ false
      → live (before ++ cells) id ≡ live before id
  live_before id other =
      let of_it : Entry → Bool = λ e. is_eq (text_cmp id e.0.0) in
      ap (λ (es : Entries). live_of (map (λ (e : Entry). (e.0.1, e.1)) es))
      (filter-append of_it before cells
      ∙ ap (λ (es : Entries). filter of_it before ++ es)
      (none_kept id cells (none_of_cells id other))
      ∙ append_nil (filter of_it before))

  -- The message has the live labels of its cells.
  pub live_own : live (before ++ cells) next.id ≡ live cells next.id
  live_own =
      let of_it : Entry → Bool = λ e. is_eq (text_cmp next.id e.0.0) in
      ap (λ (es : Entries). live_of (map (λ (e : Entry). (e.0.1, e.1)) es))
      (filter-append of_it before cells
      ∙ ap (λ (es : Entries). es ++ filter of_it cells)
      (none_kept next.id before none_before))

-- ---- the cells one after another

-- The cells from a place on are that at the place and those after it.
pub cells_from : (cells : List MessageCell) (k : ℕ) (c : MessageCell) → k < length cells
    → c ≡ get_or cells k c → drop k cells ≡ c ∷ drop (k + 1) cells
cells_from cells k c within is =
    rw (add-one) (drop-cons cells k c within
    ∙ ap (λ (x : MessageCell). x ∷ drop (suc k) cells) (sym is))

-- The cells up to a place and that at the place are those up to the next.
pub cells_to : (id : List ℕ) (cells : List MessageCell) (k : ℕ) (c : MessageCell)
    → k < length cells → c ≡ get_or cells k c
    → cells_of id (take (k + 1) cells) ≡ cells_of id (take k cells) ++ cell_of id c ∷ []
cells_to id cells k c within is =
    rw (add-one, take-suc cells k c within)
    (map-append (cell_of id) (take k cells) (get_or cells k c ∷ [])
    ∙ ap (λ (x : MessageCell). cells_of id (take k cells) ++ cell_of id x ∷ []) (sym is))
