-- Names that ascend, each with its labels, as they are read.
--
-- If the members of a document and the keys of each member ascend, each new key is above all before
-- it. Then it is repeated nowhere, and its label goes to the end of the list. `AreAscendingKeys`
-- and `AreAscendingRows` say this of the keys and of the messages so far. Where a name does not
-- ascend this reader gives up, and the general one takes the document.
use Rattle.std.proofs.Common.{◌≡◌, ◌∙◌, ◌||◌, ℕ, false, List, [], ◌∷◌, ◌++◌, map, length, refl}
use Rattle.std.proofs.Common.{sym, ap, ap₂, subst, append_assoc, Option, Some, arith, true}
use Rattle.std.specs.Prelude.{All, ◌<◌}
use Rattle.std.specs.Cmp.Lexicographic.{nat_list_cmp_total}
use Rattle.std.specs.Ordering.{is_eq}
use Rattle.std.specs.List.{filter_map, list_all}
use Rattle.std.specs.Str.{bytes_eq, str_to_ascii_lowercase}
use Rattle.std.specs.declared.cmp.Ordering.TheVariants.{Less}
use Rattle.std.proofs.lemmas.List.{map-append}
use Rattle.std.proofs.lemmas.List.Elements.{All-append, All-cons, All-nil, All-push}
use Rattle.std.proofs.lemmas.List.Elements.{filter_map-append}
use Rattle.std.proofs.lemmas.Map.Text.{is_eq-slice_cmp}
use Rattle.json.proofs.Grammar.{value-begin_array, value_is}
use Rattle.json.specs.Json as json
use Rattle.json.specs.Json.{parse_map, value}
use Rattle.json.specs.Token as token
use Rattle.json.specs.Token.{Token}
use Rattle.serde_json.specs.Data.{Data, Items, Members, array, put, string}
use Rattle.serde_json.specs.Find.{as_str}
use Rattle.serde_json.specs.Read.{converted, of_json}
use Rattle.cell_core.specs.KeyedAbove.{IsAboveAll as IsAbove}
use Rattle.cell_core.specs.Label.{IsLabel}
use Rattle.cell_core.specs.Keyed.{IsMap}
use Rattle.cell_core.specs.MessageId.{IsMessageId}
use Rattle.lang_core.specs.Lang.{SpellsLang}
use Rattle.cell_core.specs.Entry.{key_cmp, text_cmp}
use Rattle.catalogue.specs.Entries.{IsAboveAll}
use Rattle.catalogue.specs.CatalogueFlat.{under}
use Rattle.catalogue.proofs.CatalogueAboveLemmas.{IsMap-behind}
use Rattle.catalogue.proofs.CatalogueFlatLemmas.{all_first, all_rest}
use Rattle.json_docs.proofs.ScanningReadingLemmas.{converted-array}
use Rattle.json_docs.specs.inner.ScanningArrays.{ReadsItems}
use Rattle.json_docs.specs.FaultChecks.{AllPass}
use Rattle.json_docs.specs.ScanningReads.{Reads}
use Rattle.map_docs.specs.LabelsChecks.{is_marked, is_repeated}
use Rattle.map_docs.specs.LabelsChecks.{keys_checks, members_checks, message_checks, unless_marked}
use Rattle.map_docs.specs.MapsLabels.{labelled, languages_of, rows_labels}
use Rattle.map_docs.specs.MembersRows.{Keys, Rows, Strings, is_string_or_null, members_by}
use Rattle.map_docs.specs.MembersRows.{strings_of}
use Rattle.map_docs.specs.inner.MembersRowsSeen.{AreLesser}
use Rattle.map_docs.specs.Maps.{Labelled}
use Rattle.map_docs.specs.MapsValue.{Languages}
use Rattle.map_docs.specs.inner.AscendingLabels.{Takes}
use Rattle.map_docs.proofs.AscendingMapLemmas.{inserted_at_end}
use Rattle.map_docs.proofs.MapsLabelsLemmas.{all_under, insert_is_put, keys_pass, lesser_key}
use Rattle.map_docs.proofs.MapsLabelsLemmas.{row_unmarked, rows_labels_one, rows_pass, same_id}
use Rattle.map_docs.proofs.MapsLabelsLemmas.{spelled_lower}
use Rattle.map_docs.proofs.MembersLemmas.{members_by-put}
use Rattle.map_docs.proofs.WritingTripLemmas.{is_label, unmarked}

-- ---- a member more

-- of members that ascend the next is the last
pub member_behind : {X : Type 0} (of : Data → X) (k : List ℕ) (d : Data) (ms : Members)
    → IsAbove text_cmp k (members_by of ms)
    → members_by of (put k d ms) ≡ members_by of ms ++ (k, of d) ∷ []
member_behind of k d ms above =
    members_by-put of k d ms
    ∙ sym (insert_is_put (members_by of ms) k (of d))
    ∙ inserted_at_end nat_list_cmp_total (members_by of ms) k (of d) above

-- ---- a key more

not_equal : (a b : List ℕ) → text_cmp a b ≡ Less → bytes_eq a b ≡ false
not_equal a b less = sym (is_eq-slice_cmp a b) ∙ ap is_eq less

-- a key in lower case that is greater than others in lower case is none of them
unrepeated : (ms : Keys) (key : List ℕ) → key ≡ str_to_ascii_lowercase key
    → All (λ (m : List ℕ × Strings). m.0 ≡ str_to_ascii_lowercase m.0) ms
    → IsAbove text_cmp key ms → is_repeated (map (λ m. m.0) ms) key ≡ false
unrepeated [] key lower lowers above = refl
unrepeated (m ∷ ms) key lower lowers above =
    let here = not_equal m.0 key (all_first (λ (x : List ℕ × Strings). text_cmp x.0 key ≡ Less) m ms
    above) in
    let own = all_first (λ (x : List ℕ × Strings). x.0 ≡ str_to_ascii_lowercase x.0) m ms lowers in
    ap₂ (λ a b. a || b) (ap₂ bytes_eq (sym own) (sym lower) ∙ here)
    (unrepeated ms key lower
    (all_rest (λ (x : List ℕ × Strings). x.0 ≡ str_to_ascii_lowercase x.0) m ms lowers)
    (all_rest (λ (x : List ℕ × Strings). text_cmp x.0 key ≡ Less) m ms above))

is_one : (key : List ℕ) (texts : List (List ℕ)) → IsLabel texts → key ≡ str_to_ascii_lowercase key
    → languages_of ((key, Some texts) ∷ []) ≡ (key, texts) ∷ []
is_one key [] label lower = let some = label.count.some in absurd (none some)
  where
    none : 0 < length {A = List ℕ} [] → ⊥
    none h = omega (arith, h)
is_one key (t ∷ ts) label lower = ap (λ l. (l, t ∷ ts) ∷ []) (sym lower)

-- the keys so far, the last of which is this one, are in lower case and ascend; they pass all tests
pub record AreAscendingKeys (last : List ℕ) (keys : Keys) : Type 0 where
  pub above : (n : List ℕ) → text_cmp last n ≡ Less → IsAbove text_cmp n keys
  pub languages : (n : List ℕ) → text_cmp last n ≡ Less → IsAbove text_cmp n (languages_of keys)
  pub lower : All (λ (m : List ℕ × Strings). m.0 ≡ str_to_ascii_lowercase m.0) keys
  pub passes : (k : ℕ) → AllPass (keys_checks k [] keys)

-- no key was read yet
pub no_keys : (last : List ℕ) → AreAscendingKeys last []
no_keys last = record {
  above = λ n less. All-nil (λ (m : List ℕ × Strings). text_cmp m.0 n ≡ Less);
  languages = λ n less. All-nil (λ (l : List ℕ × List (List ℕ)). text_cmp l.0 n ≡ Less);
  lower = All-nil (λ (m : List ℕ × Strings). m.0 ≡ str_to_ascii_lowercase m.0);
  passes = λ k. tt;
}

trans : (a b c : List ℕ) → text_cmp a b ≡ Less → text_cmp b c ≡ Less → text_cmp a c ≡ Less
trans a b c p q = nat_list_cmp_total.trans a b c p q

under_above : (id key : List ℕ) (ls : Languages) → IsAbove text_cmp key ls
    → IsAboveAll (id, key) (under id ls)
under_above id key [] above = All-nil (λ (e : Labelled). key_cmp e.0 (id, key) ≡ Less)
under_above id key (l ∷ ls) above =
    All-cons (λ (e : Labelled). key_cmp e.0 (id, key) ≡ Less) ((id, l.0), l.1) (under id ls)
    (same_id id l.0 key
    ∙ all_first (λ (x : List ℕ × List (List ℕ)). text_cmp x.0 key ≡ Less) l ls above)
    (under_above id key ls
    (all_rest (λ (x : List ℕ × List (List ℕ)). text_cmp x.0 key ≡ Less) l ls above))

-- a key after those of lesser messages and those of its own so far is above all
pub key_above : (before : List Labelled) (id key : List ℕ) (ls : Languages) → AreLesser before id
    → IsAbove text_cmp key ls → IsAboveAll (id, key) (before ++ under id ls)
key_above before id key ls lesser above =
    All-append (λ (e : Labelled). key_cmp e.0 (id, key) ≡ Less) before (under id ls)
    (λ k d lt. lesser_key _ id _ key (lesser k d lt)) (under_above id key ls above)

module _ (last key : List ℕ) (keys : Keys) (texts : List (List ℕ)) (so : AreAscendingKeys last keys)
    (ascends : text_cmp last key ≡ Less) (spells : SpellsLang key key) (label : IsLabel texts) where
  lower_key : key ≡ str_to_ascii_lowercase key
  lower_key = spelled_lower key key spells

  -- the label of one key more comes last
  pub languages_next : languages_of (keys ++ (key, Some texts) ∷ [])
      ≡ languages_of keys ++ (key, texts) ∷ []
  languages_next =
      filter_map-append labelled keys ((key, Some texts) ∷ [])
      ∙ ap (λ t. languages_of keys ++ t) (is_one key texts label lower_key)

  -- one key more
  pub keys_next : AreAscendingKeys key (keys ++ (key, Some texts) ∷ [])
  keys_next = record {
    above = λ n less. All-push (λ (m : List ℕ × Strings). text_cmp m.0 n ≡ Less) keys
        (key, Some texts) (so.above n (trans last key n ascends less)) less;
    languages = λ n less. subst (IsAbove text_cmp n) (sym languages_next)
        (All-push (λ (l : List ℕ × List (List ℕ)). text_cmp l.0 n ≡ Less) (languages_of keys)
        (key, texts) (so.languages n (trans last key n ascends less)) less);
    lower = All-push (λ (m : List ℕ × Strings). m.0 ≡ str_to_ascii_lowercase m.0) keys
        (key, Some texts) so.lower lower_key;
    passes = λ k. keys_pass k keys key (Some texts) (so.passes k) (
      (key, spells),
      (
        unrepeated keys key lower_key so.lower (so.above key ascends),
        (refl, (is_label texts label, tt)),
      ),
    );
  }

  -- the taker took one label more
  pub takes_next : {T : Type 0} (Holds : T → T → List Labelled → Type 0) (old mid new : T)
      (id : List ℕ) → Takes Holds old mid id keys
      → ((first : T) (before : List Labelled) → Holds first mid before
      → IsAboveAll (id, key) before → Holds first new (before ++ ((id, key), texts) ∷ []))
      → Takes Holds old new id (keys ++ (key, Some texts) ∷ [])
  takes_next {T} Holds old mid new id took takes = λ first before holds lesser map.
      let all = before ++ under id (languages_of keys) in
      let so_far = took first before holds lesser map in
      let above = key_above before id key (languages_of keys) lesser (so.languages key ascends) in
      let is : all ++ ((id, key), texts) ∷ []
      ≡ before ++ under id (languages_of (keys ++ (key, Some texts) ∷ [])) =
      append_assoc before (under id (languages_of keys)) (((id, key), texts) ∷ [])
      ∙ ap (λ t. before ++ t) (sym (map-append (λ (l : List ℕ × List (List ℕ)). ((id, l.0), l.1))
      (languages_of keys) ((key, texts) ∷ [])))
      ∙ ap (λ ls. before ++ under id ls) (sym languages_next) in (
        subst (IsMap key_cmp) is (IsMap-behind all (id, key) texts so_far.0 above),
        subst (Holds first new) is (takes first all so_far.1 above),
      )

-- nothing was taken yet
pub takes_none : {T : Type 0} (Holds : T → T → List Labelled → Type 0) (old : T) (id : List ℕ)
    → Takes Holds old old id []
takes_none Holds old id = λ first before holds lesser map. (
  subst (IsMap key_cmp) (sym (none before)) map,
  subst (Holds first old) (sym (none before)) holds,
)
  where
    none : (xs : List Labelled) → xs ++ [] ≡ xs
    none [] = refl
    none (x ∷ xs) = ap (λ t. x ∷ t) (none xs)

-- ---- a message more

-- the messages so far, the last of which is this one, ascend and pass all tests
pub record AreAscendingRows (last : List ℕ) (rows : Rows) : Type 0 where
  pub above : (n : List ℕ) → text_cmp last n ≡ Less → IsAbove text_cmp n rows
  pub lesser : (n : List ℕ) → text_cmp last n ≡ Less → AreLesser (rows_labels rows) n
  pub passes : AllPass (members_checks 0 rows)
  pub map : IsMap key_cmp (rows_labels rows)

-- no message was read yet
pub no_rows : (last : List ℕ) → AreAscendingRows last []
no_rows last = record {
  above = λ n less. All-nil (λ (r : List ℕ × Option Keys). text_cmp r.0 n ≡ Less);
  lesser = λ n less. All-nil (λ (e : Labelled). text_cmp e.0.0 n ≡ Less);
  passes = tt;
  map = tt;
}

module _ (last name : List ℕ) (rows : Rows) (keys : Keys) (so : AreAscendingRows last rows)
    (ascends : text_cmp last name ≡ Less) (id : IsMessageId name)
    (passes : (k : ℕ) → AllPass (keys_checks k [] keys)) where
  no_mark : is_marked name ≡ false
  no_mark = unmarked name id.unmarked

  -- the labels of one message more come last
  pub labels_behind : rows_labels (rows ++ (name, Some keys) ∷ [])
      ≡ rows_labels rows ++ under name (languages_of keys)
  labels_behind =
      rows_labels_one rows (name, Some keys)
      ∙ ap (λ t. rows_labels rows ++ t) (row_unmarked (name, Some keys) no_mark)

  -- one message more
  pub rows_next : IsMap key_cmp (rows_labels rows ++ under name (languages_of keys))
      → AreAscendingRows name (rows ++ (name, Some keys) ∷ [])
  rows_next map = record {
    above = λ n less. All-push (λ (r : List ℕ × Option Keys). text_cmp r.0 n ≡ Less) rows
        (name, Some keys) (so.above n (trans last name n ascends less)) less;
    lesser = λ n less. subst (λ labels. AreLesser labels n) (sym labels_behind)
        (All-append (λ (e : Labelled). text_cmp e.0.0 n ≡ Less) (rows_labels rows)
        (under name (languages_of keys)) (so.lesser n (trans last name n ascends less))
        (all_under name n (languages_of keys) less));
    passes = rows_pass rows (name, Some keys) (length rows) refl so.passes
        (subst (λ b. AllPass (unless_marked b (message_checks (length rows) name (Some keys))))
        (sym no_mark) (id, (refl, passes (length rows))));
    map = subst (IsMap key_cmp) (sym labels_behind) map;
  }

-- ---- labels that are read token by token

-- a string is read
pub text_read : (depth : ℕ) (s : List ℕ) (old new : List Token) → old ≡ token.string s ∷ new
    → Reads depth old (string s) new
text_read depth s old new is =
    ap (converted of_json) (ap (value depth) is ∙ value_is depth (token.string s ∷ new))

-- an opening bracket and items are an array
pub texts_read : (old ts new : List Token) (ds : Items) → old ≡ token.begin_array ∷ ts
    → ReadsItems 124 ts ds new → Reads 125 old (array ds) new
texts_read old ts new ds is read =
    ap (converted of_json) (ap (value 125) is ∙ value-begin_array 125 ts (omega arith))
    ∙ converted-array (json.items (value 124) (length ts) ts) ∙ ap (parse_map array) read

-- strings are the strings of their array
pub strings_all : (texts : List (List ℕ)) → strings_of (map string texts) ≡ Some texts
strings_all texts = rw (fit texts, same texts)
  where
    fit : (xs : List (List ℕ)) → list_all is_string_or_null (map string xs) ≡ true
    fit [] = refl
    fit (x ∷ xs) = fit xs

    same : (xs : List (List ℕ)) → filter_map as_str (map string xs) ≡ xs
    same [] = refl
    same (x ∷ xs) = ap (λ t. x ∷ t) (same xs)
