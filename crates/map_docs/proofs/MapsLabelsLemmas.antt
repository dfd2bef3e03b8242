-- Labels that are found key by key, and then put after those of lesser messages.
--
-- The keys of a message are in any order and in any case, so they are put into a tree, by their
-- spelling in lower case; a key that is there already is refused as a repeated one. The labels of
-- the tree ascend, and come after those of all lesser messages. `HoldsRows` is the invariant over
-- the rows: what was read, which tests passed, and what labels they gave. The first key that fails
-- a test gives the refusal.
use Rattle.std.proofs.Common.{◌≡◌, ◌∙◌, ℕ, suc, ◌+◌, length, arith, add-zero, zero-add, Bool, true}
use Rattle.std.proofs.Common.{false, List, [], ◌∷◌, ◌++◌, ◌||◌, cond, map, String, string_cmp}
use Rattle.std.proofs.Common.{Global, Option, None, Some, string_bytes, refl, sym, ap, ap₂, subst}
use Rattle.std.proofs.Common.{append_assoc, append-nil, inl, inr, true≢false}
use Rattle.std.specs.Prelude.{◌⊎◌, All, T, is_some, unwrap_or}
use Rattle.std.proofs.lemmas.List.{map-append}
use Rattle.std.proofs.lemmas.List.Elements.{All-append, All-cons, All-nil, filter_map-append}
use Rattle.std.proofs.lemmas.Cmp.{tied_itself}
use Rattle.std.proofs.lemmas.Grind.{flat_map-append}
use Rattle.std.proofs.lemmas.List.Folds.{list_any-append}
use Rattle.std.proofs.lemmas.List.Sorted.{IsPermutation-append_comm, IsPermutation-append_left}
use Rattle.std.proofs.lemmas.List.Sorted.{IsPermutation-append_right, IsPermutation-map}
use Rattle.std.proofs.lemmas.List.Sorted.{IsPermutation-refl, IsPermutation-trans}
use Rattle.std.proofs.lemmas.Map.Text.{is_eq-slice_cmp}
use Rattle.std.specs.BTreeMap.{insert_entry, is_at}
use Rattle.std.specs.FinMap.Entries.{below_all, by_order, is_sorted, is_sorted-put, put}
use Rattle.std.specs.List.{AllByRecursion, list_any}
use Rattle.std.specs.List.Sorted.{IsPermutation, IsStrictlySortedBy}
use Rattle.std.specs.Map.{keys_of, lookup}
use Rattle.std.specs.Ordering.{is_eq, is_lt, match_ordering, ordering_then}
use Rattle.std.specs.Cmp.Lexicographic.{nat_list_cmp_total}
use Rattle.std.specs.Str.{bytes_eq, str_to_ascii_lowercase}
use Rattle.std.specs.declared.cmp.Ordering.TheVariants.{Less, Equal, Greater}
use Rattle.lang_core.proofs.Basics.{or_false}
use Rattle.cell_core.specs.Keyed.{IsMap}
use Rattle.cell_core.specs.MessageId.{IsMessageId}
use Rattle.catalogue.proofs.CatalogueFlatLemmas.{all_first, all_rest}
use Rattle.cell_core.specs.Entry.{EntryKey, key_cmp, text_cmp}
use Rattle.catalogue.specs.Entries.{IsAboveAll}
use Rattle.catalogue.specs.CatalogueFlat.{under}
use Rattle.lang_core.specs.Lang.{SpellsLang}
use Rattle.json_docs.specs.FaultChecks.{AllPass, FirstFails}
use Rattle.json_docs.specs.declared.fault.DocCause.{DocCause}
use Rattle.json_docs.specs.declared.fault.DocCause.TheVariants.{NoMemory, RepeatedTag, Shape}
use Rattle.json_docs.specs.declared.fault.Spot.TheVariants.{Row}
use Rattle.row_docs.specs.Fields.{IsLanguageRefusal, IsSpelled}
use Rattle.map_docs.specs.LabelsChecks.{IsLabelOrNone, IsStringsRefusal, is_marked, is_repeated}
use Rattle.map_docs.specs.LabelsChecks.{key_checks, keys_checks, message_checks, member_checks}
use Rattle.map_docs.specs.LabelsChecks.{members_checks, unless_marked}
use Rattle.map_docs.specs.MapsLabels.{labelled, languages_of, row_labels, rows_labels}
use Rattle.map_docs.specs.MembersRows.{Keys, Rows, Strings}
use Rattle.map_docs.specs.inner.MembersRowsSeen.{AddsLanguages, AddsRow, AreLesser, Found, HeldKeys}
use Rattle.map_docs.specs.inner.MembersRowsSeen.{HeldStrings, HoldsKeys, IsOneLabel, keys_in_seen}
use Rattle.map_docs.specs.inner.MembersRowsSeen.{keys_seen, live, rows_seen, strings_seen}
use Rattle.map_docs.specs.Maps.{Labelled}
use Rattle.map_docs.specs.MapsValue.{Languages}
use Rattle.json_docs.proofs.FaultChecksLemmas.{AllPass-both, FirstFails-rest, FirstFails-front}
use Rattle.row_docs.proofs.AscendingKeys.{so_less as is_less}
use Rattle.cell_core.proofs.Basics.{both_parts, first_part, less_than, second_part}

-- ---- a language in lower case

-- a language is its spelling in lower case
pub spelled_lower : (text lang : List ℕ) → SpellsLang text lang → lang ≡ str_to_ascii_lowercase text
spelled_lower text lang spells = elim spells [
  | inl none ↦ none.1 ∙ sym (ap str_to_ascii_lowercase none.0)
  | inr tag ↦ tag.1
]

-- ---- tests of keys and of rows, after others

abbrev names : Keys → List (List ℕ)
names ms = map (λ m. m.0) ms

keys_after : (k : ℕ) (before : List (List ℕ)) (ms ns : Keys)
    → keys_checks k before (ms ++ ns)
    ≡ keys_checks k before ms ++ keys_checks k (before ++ names ms) ns
keys_after k before [] ns = ap (λ b. keys_checks k b ns) (sym (append-nil before))
keys_after k before (m ∷ ms) ns =
    ap (λ cs. key_checks k before m.0 m.1 ++ cs)
    (keys_after k (before ++ m.0 ∷ []) ms ns
    ∙ ap (λ b. keys_checks k (before ++ m.0 ∷ []) ms ++ keys_checks k b ns)
    (append_assoc before (m.0 ∷ []) (names ms)))
    ∙ sym (append_assoc (key_checks k before m.0 m.1) (keys_checks k (before ++ m.0 ∷ []) ms)
    (keys_checks k (before ++ names (m ∷ ms)) ns))

-- the tests of one key are those of a list of it
one_key : (k : ℕ) (before : List (List ℕ)) (key : List ℕ) (strings : Strings)
    → keys_checks k before ((key, strings) ∷ []) ≡ key_checks k before key strings
one_key k before key strings = append-nil (key_checks k before key strings)

-- a key that passes after keys that pass makes keys that pass
pub keys_pass : (k : ℕ) (ms : Keys) (key : List ℕ) (strings : Strings)
    → AllPass (keys_checks k [] ms) → AllPass (key_checks k (names ms) key strings)
    → AllPass (keys_checks k [] (ms ++ (key, strings) ∷ []))
keys_pass k ms key strings p q =
    subst AllPass
    (sym (keys_after k [] ms ((key, strings) ∷ [])
    ∙ ap (λ cs. keys_checks k [] ms ++ cs) (one_key k (names ms) key strings)))
    (AllPass-both (keys_checks k [] ms) (key_checks k (names ms) key strings) p q)

-- a key that fails after keys that pass is the first that fails
pub keys_fail : (k : ℕ) (ms : Keys) (key : List ℕ) (strings : Strings) (ns : Keys) (e : DocCause)
    → AllPass (keys_checks k [] ms) → FirstFails (key_checks k (names ms) key strings) e
    → FirstFails (keys_checks k [] (ms ++ (key, strings) ∷ ns)) e
keys_fail k ms key strings ns e p q =
    let rest = keys_checks k (names ms ++ key ∷ []) ns in
    subst (λ cs. FirstFails cs e) (sym (keys_after k [] ms ((key, strings) ∷ ns)))
    (FirstFails-rest (keys_checks k [] ms) (key_checks k (names ms) key strings ++ rest) e p
    (FirstFails-front (key_checks k (names ms) key strings) rest e q))

later : (k n m : ℕ) → suc n ≡ m → (k + 1) + n ≡ k + m
later k n m is = omega arith

rows_after : (k : ℕ) (rs ss : Rows)
    → members_checks k (rs ++ ss) ≡ members_checks k rs ++ members_checks (k + length rs) ss
rows_after k [] ss = ap (λ n. members_checks n ss) (sym (add-zero k))
rows_after k (r ∷ rs) ss =
    let first = member_checks k r in
    ap (λ cs. first ++ cs)
    (rows_after (k + 1) rs ss
    ∙ ap (λ n. members_checks (k + 1) rs ++ members_checks n ss)
    (later k (length rs) (length (r ∷ rs)) refl))
    ∙ sym (append_assoc first (members_checks (k + 1) rs) (members_checks (k + length (r ∷ rs)) ss))

-- a row that passes after rows that pass makes rows that pass
pub rows_pass : (rs : Rows) (r : List ℕ × Option Keys) (k : ℕ) → k ≡ length rs
    → AllPass (members_checks 0 rs) → AllPass (member_checks k r)
    → AllPass (members_checks 0 (rs ++ r ∷ []))
rows_pass rs r k at p q =
    subst AllPass
    (sym (rows_after 0 rs (r ∷ [])
    ∙ ap (λ cs. members_checks 0 rs ++ cs) (append-nil (member_checks (0 + length rs) r))))
    (AllPass-both (members_checks 0 rs) (member_checks (0 + length rs) r) p
    (subst (λ n. AllPass (member_checks n r)) (at ∙ sym (zero-add (length rs))) q))

-- a row that fails after rows that pass is the first that fails
pub rows_fail : (rs : Rows) (r : List ℕ × Option Keys) (ss : Rows) (k : ℕ) (e : DocCause)
    → k ≡ length rs → AllPass (members_checks 0 rs) → FirstFails (member_checks k r) e
    → FirstFails (members_checks 0 (rs ++ r ∷ ss)) e
rows_fail rs r ss k e at p q =
    let here = member_checks (0 + length rs) r in
    let rest = members_checks ((0 + length rs) + 1) ss in
    subst (λ cs. FirstFails cs e) (sym (rows_after 0 rs (r ∷ ss)))
    (FirstFails-rest (members_checks 0 rs) (here ++ rest) e p
    (FirstFails-front here rest e
    (subst (λ n. FirstFails (member_checks n r) e) (at ∙ sym (zero-add (length rs))) q)))

-- ---- keys that were found

same_test : (before : Keys) (lang lower : List ℕ) → lang ≡ lower
    → list_any (λ (m : List ℕ × Strings). bytes_eq (str_to_ascii_lowercase m.0) lang) before
    ≡ list_any (λ earlier. bytes_eq (str_to_ascii_lowercase earlier) lower) (names before)
same_test [] lang lower is = refl
same_test (m ∷ ms) lang lower is =
    ap₂ (λ a b. a || b) (ap (bytes_eq (str_to_ascii_lowercase m.0)) is) (same_test ms lang lower is)

-- a language was found where its key is a repeated one
pub found_is_repeated : (before : Keys) (found : Found) (key lang : List ℕ) → HoldsKeys before found
    → lang ≡ str_to_ascii_lowercase key
    → is_some (lookup (is_at (text_cmp lang)) found) ≡ is_repeated (names before) key
found_is_repeated before found key lang holds is =
    holds.held lang ∙ same_test before lang (str_to_ascii_lowercase key) is

-- a tree inserts as a map puts
pub insert_is_put : {X : Type 0} (es : List (List ℕ × X)) (k : List ℕ) (v : X)
    → insert_entry text_cmp es k v ≡ put text_cmp k v es
insert_is_put [] k v = refl
insert_is_put (e ∷ es) k v =
    elim (text_cmp k e.0) as (λ o.
    match_ordering o ((k, v) ∷ e ∷ es) ((e.0, v) ∷ es) (e ∷ insert_entry text_cmp es k v)
    ≡ by_order o ((k, v) ∷ e ∷ es) ((e.0, v) ∷ es) (e ∷ put text_cmp k v es)) [
      | Less ↦ refl
      | Equal ↦ refl
      | Greater ↦ ap (λ t. e ∷ t) (insert_is_put es k v)
    ]

-- a language with its label, where it has one
abbrev one : List ℕ → Option (List (List ℕ)) → Languages
one lang None = []
one lang (Some texts) = (lang, texts) ∷ []

live_cons : (lang : List ℕ) (label : Option (List (List ℕ))) (es : Found)
    → live ((lang, label) ∷ es) ≡ one lang label ++ live es
live_cons lang None es = refl
live_cons lang (Some texts) es = refl

-- the first two of three lists change places
swapped : {X : Type 0} (xs ys zs ws : List X) → IsPermutation (xs ++ zs) ws
    → IsPermutation (xs ++ (ys ++ zs)) (ys ++ ws)
swapped xs ys zs ws p =
    IsPermutation-trans (xs ++ (ys ++ zs)) (ys ++ (xs ++ zs)) (ys ++ ws)
    (subst (λ t. IsPermutation (xs ++ (ys ++ zs)) t) (append_assoc ys xs zs)
    (subst (λ t. IsPermutation t ((ys ++ xs) ++ zs)) (append_assoc xs ys zs)
    (IsPermutation-append_left zs (xs ++ ys) (ys ++ xs) (IsPermutation-append_comm xs ys))))
    (IsPermutation-append_right ys (xs ++ zs) ws p)

no_longer : {X : Type 0} (b : Bool) (x : X) (o : Option X) → is_some (cond b (Some x) o) ≡ false
    → b ≡ false
no_longer true x o h = absurd (true≢false h)
no_longer false x o h = refl

still : {X : Type 0} (b : Bool) (x : X) (o : Option X) → is_some (cond b (Some x) o) ≡ false
    → is_some o ≡ false
still true x o h = absurd (true≢false h)
still false x o h = h

live_insert : (es : Found) (lang : List ℕ) (label : Option (List (List ℕ)))
    → is_some (lookup (is_at (text_cmp lang)) es) ≡ false
    → IsPermutation (one lang label ++ live es) (live (insert_entry text_cmp es lang label))
live_insert [] lang label new =
    subst (IsPermutation (one lang label ++ [])) (sym (live_cons lang label []))
    (IsPermutation-refl (one lang label ++ []))
live_insert (e ∷ es) lang label new =
    let apart = no_longer (is_eq (text_cmp lang e.0)) e.1 (lookup (is_at (text_cmp lang)) es) new in
    let rest =
    live_insert es lang label
    (still (is_eq (text_cmp lang e.0)) e.1 (lookup (is_at (text_cmp lang)) es) new) in
    elim (text_cmp lang e.0) as (λ o. is_eq o ≡ false
    → IsPermutation (one lang label ++ live (e ∷ es))
    (live (match_ordering o ((lang, label) ∷ e ∷ es) ((e.0, label) ∷ es)
    (e ∷ insert_entry text_cmp es lang label)))) [
      | Less ↦ λ _. subst (IsPermutation (one lang label ++ live (e ∷ es)))
          (sym (live_cons lang label (e ∷ es)))
          (IsPermutation-refl (one lang label ++ live (e ∷ es)))
      | Equal ↦ λ tied. absurd (true≢false tied)
      | Greater ↦ λ _.
          subst (λ t. IsPermutation (one lang label ++ t)
          (live (e ∷ insert_entry text_cmp es lang label))) (sym (live_cons e.0 e.1 es))
          (subst (IsPermutation (one lang label ++ (one e.0 e.1 ++ live es)))
          (sym (live_cons e.0 e.1 (insert_entry text_cmp es lang label)))
          (swapped (one lang label) (one e.0 e.1) (live es)
          (live (insert_entry text_cmp es lang label)) rest))
    ] apart

-- the label of a key after others
one_labelled : (key lang : List ℕ) (texts : List (List ℕ)) (label : Option (List (List ℕ)))
    → lang ≡ str_to_ascii_lowercase key → IsOneLabel texts label
    → languages_of ((key, Some texts) ∷ []) ≡ one lang label
one_labelled key lang [] label is holds = ap (one lang) (sym holds)
one_labelled key lang (t ∷ ts) label is holds =
    ap (λ l. (l, t ∷ ts) ∷ []) (sym is) ∙ ap (one lang) (sym holds)

is_some_cond : {X : Type 0} (b : Bool) (x : X) (o : Option X)
    → is_some (cond b (Some x) o) ≡ (is_some o || b)
is_some_cond true x None = refl
is_some_cond true x (Some y) = refl
is_some_cond false x None = refl
is_some_cond false x (Some y) = refl

-- one key more is found with its label
pub HoldsKeys-next : (before : Keys) (found new : Found) (key lang : List ℕ) (texts : List (List ℕ))
    (label : Option (List (List ℕ)))
    → HoldsKeys before found → lang ≡ str_to_ascii_lowercase key
    → is_some (lookup (is_at (text_cmp lang)) found) ≡ false → IsOneLabel texts label
    → new ≡ insert_entry text_cmp found lang label
    → ((q : List ℕ)
    → lookup (is_at (text_cmp q)) new
    ≡ cond (is_at (text_cmp lang) q) (Some label) (lookup (is_at (text_cmp q)) found))
    → HoldsKeys (before ++ (key, Some texts) ∷ []) new
HoldsKeys-next before found new key lang texts label holds is absent of_texts entries updates =
    record {
      held = λ q.
          ap is_some (updates q)
          ∙ is_some_cond (is_eq (text_cmp lang q)) label (lookup (is_at (text_cmp q)) found)
          ∙ ap₂ (λ a b. a || b) (holds.held q)
          (is_eq-slice_cmp lang q ∙ ap (λ l. bytes_eq l q) is
          ∙ sym (or_false (bytes_eq (str_to_ascii_lowercase key) q)))
          ∙ sym (list_any-append (λ (m : List ℕ × Strings). bytes_eq (str_to_ascii_lowercase m.0) q)
          before ((key, Some texts) ∷ []));
      labels =
          let one_more = one lang label in
          let old = languages_of before in
          subst (λ t. IsPermutation t (live new))
          (sym (filter_map-append labelled before ((key, Some texts) ∷ [])
          ∙ ap (λ t. old ++ t) (one_labelled key lang texts label is of_texts)))
          (IsPermutation-trans (old ++ one_more) (one_more ++ old) (live new)
          (IsPermutation-append_comm old one_more)
          (IsPermutation-trans (one_more ++ old) (one_more ++ live found) (live new)
          (IsPermutation-append_right one_more old (live found) holds.labels)
          (subst (λ t. IsPermutation (one_more ++ live found) (live t)) (sym entries)
          (live_insert found lang label absent))));
      map =
          subst (IsMap text_cmp) (sym (entries ∙ insert_is_put found lang label))
          (is_sorted-put text_cmp nat_list_cmp_total lang label found holds.map);
    }

-- ---- labels after those of smaller messages

below_live : (x : List ℕ) (es : Found) → T (below_all text_cmp x es)
    → T (below_all text_cmp x (live es))
below_live x [] h = tt
below_live x ((k, None) ∷ es) h =
    below_live x es (second_part (is_lt (text_cmp x k)) (below_all text_cmp x es) h)
below_live x ((k, Some texts) ∷ es) h =
    both_parts (is_lt (text_cmp x k)) (below_all text_cmp x (live es))
    (first_part (is_lt (text_cmp x k)) (below_all text_cmp x es) h)
    (below_live x es (second_part (is_lt (text_cmp x k)) (below_all text_cmp x es) h))

-- the languages with a label ascend as all that were found
pub live_IsMap : (es : Found) → IsMap text_cmp es → IsMap text_cmp (live es)
live_IsMap [] h = tt
live_IsMap ((k, None) ∷ es) h =
    live_IsMap es (second_part (below_all text_cmp k es) (is_sorted text_cmp es) h)
live_IsMap ((k, Some texts) ∷ es) h =
    both_parts (below_all text_cmp k (live es)) (is_sorted text_cmp (live es))
    (below_live k es (first_part (below_all text_cmp k es) (is_sorted text_cmp es) h))
    (live_IsMap es (second_part (below_all text_cmp k es) (is_sorted text_cmp es) h))

-- a key of a lesser message is less
pub lesser_key : (id other x y : List ℕ) → text_cmp id other ≡ Less
    → key_cmp (id, x) (other, y) ≡ Less
lesser_key id other x y less = ap (λ o. ordering_then o (text_cmp x y)) less

-- keys of one message are as their languages
pub same_id : (id x y : List ℕ) → key_cmp (id, x) (id, y) ≡ text_cmp x y
same_id id x y = ap (λ o. ordering_then o (text_cmp x y)) (tied_itself nat_list_cmp_total id)

below_under : (id x : List ℕ) (ls : Languages) → T (below_all text_cmp x ls)
    → T (below_all key_cmp (id, x) (under id ls))
below_under id x [] h = tt
below_under id x (l ∷ ls) h =
    both_parts (is_lt (key_cmp (id, x) (id, l.0))) (below_all key_cmp (id, x) (under id ls))
    (is_less (key_cmp (id, x) (id, l.0))
    (same_id id x l.0
    ∙ less_than (text_cmp x l.0)
    (first_part (is_lt (text_cmp x l.0)) (below_all text_cmp x ls) h)))
    (below_under id x ls (second_part (is_lt (text_cmp x l.0)) (below_all text_cmp x ls) h))

-- the labels of a message ascend as its languages
pub under_IsMap : (id : List ℕ) (ls : Languages) → IsMap text_cmp ls → IsMap key_cmp (under id ls)
under_IsMap id [] h = tt
under_IsMap id (l ∷ ls) h =
    both_parts (below_all key_cmp (id, l.0) (under id ls)) (is_sorted key_cmp (under id ls))
    (below_under id l.0 ls (first_part (below_all text_cmp l.0 ls) (is_sorted text_cmp ls) h))
    (under_IsMap id ls (second_part (below_all text_cmp l.0 ls) (is_sorted text_cmp ls) h))

below_other : (k : EntryKey) (id : List ℕ) (ls : Languages) → text_cmp k.0 id ≡ Less
    → T (below_all key_cmp k (under id ls))
below_other k id [] less = tt
below_other k id (l ∷ ls) less =
    both_parts (is_lt (key_cmp k (id, l.0))) (below_all key_cmp k (under id ls))
    (is_less (key_cmp k (id, l.0)) (lesser_key k.0 id k.1 l.0 less)) (below_other k id ls less)

below_both : (k : EntryKey) (xs ys : List Labelled) → T (below_all key_cmp k xs)
    → T (below_all key_cmp k ys) → T (below_all key_cmp k (xs ++ ys))
below_both k [] ys p q = q
below_both k (x ∷ xs) ys p q =
    both_parts (is_lt (key_cmp k x.0)) (below_all key_cmp k (xs ++ ys))
    (first_part (is_lt (key_cmp k x.0)) (below_all key_cmp k xs) p)
    (below_both k xs ys (second_part (is_lt (key_cmp k x.0)) (below_all key_cmp k xs) p) q)

-- the labels of a message come after those of lesser ones
pub after_IsMap : (es : List Labelled) (id : List ℕ) (ls : Languages) → IsMap key_cmp es
    → AreLesser es id → IsMap text_cmp ls → IsMap key_cmp (es ++ under id ls)
after_IsMap [] id ls m lesser h = under_IsMap id ls h
after_IsMap (e ∷ es) id ls m lesser h =
    both_parts (below_all key_cmp e.0 (es ++ under id ls)) (is_sorted key_cmp (es ++ under id ls))
    (below_both e.0 es (under id ls)
    (first_part (below_all key_cmp e.0 es) (is_sorted key_cmp es) m)
    (below_other e.0 id ls
    (all_first (λ (x : Labelled). text_cmp x.0.0 id ≡ Less) e es lesser)))
    (after_IsMap es id ls (second_part (below_all key_cmp e.0 es) (is_sorted key_cmp es) m)
    (all_rest (λ (x : Labelled). text_cmp x.0.0 id ≡ Less) e es lesser) h)

below_in : (k : EntryKey) (es : List Labelled) (x : Labelled) (ys : List Labelled)
    → T (below_all key_cmp k (es ++ x ∷ ys)) → key_cmp k x.0 ≡ Less
below_in k [] x ys h =
    less_than (key_cmp k x.0) (first_part (is_lt (key_cmp k x.0)) (below_all key_cmp k ys) h)
below_in k (e ∷ es) x ys h =
    below_in k es x ys (second_part (is_lt (key_cmp k e.0)) (below_all key_cmp k (es ++ x ∷ ys)) h)

-- in a list that ascends each key is above those in front of it
pub above_front : (es : List Labelled) (x : Labelled) (ys : List Labelled)
    → IsMap key_cmp (es ++ x ∷ ys) → IsAboveAll x.0 es
above_front [] x ys m = All-nil (λ (e : Labelled). key_cmp e.0 x.0 ≡ Less)
above_front (e ∷ es) x ys m =
    All-cons (λ (e : Labelled). key_cmp e.0 x.0 ≡ Less) e es
    (below_in e.0 es x ys
    (first_part (below_all key_cmp e.0 (es ++ x ∷ ys)) (is_sorted key_cmp (es ++ x ∷ ys)) m))
    (above_front es x ys
    (second_part (below_all key_cmp e.0 (es ++ x ∷ ys)) (is_sorted key_cmp (es ++ x ∷ ys)) m))

-- ---- the labels of the rows so far

-- the labels of a lesser message are lesser
pub all_under : (id other : List ℕ) (ls : Languages) → text_cmp id other ≡ Less
    → AreLesser (under id ls) other
all_under id other [] less = All-nil (λ (e : Labelled). text_cmp e.0.0 other ≡ Less)
all_under id other (l ∷ ls) less =
    All-cons (λ (e : Labelled). text_cmp e.0.0 other ≡ Less) ((id, l.0), l.1) (under id ls) less
    (all_under id other ls less)

-- the messages of the labels stay smaller than those of the rows that are left
pub lesser_next : {X : Type 0} (labels : List Labelled) (name : String Global) (ls : Languages)
    (left : List (String Global × X))
    → All (λ (r : String Global × X). AreLesser labels (string_bytes r.0)) left
    → AllByRecursion (λ y. string_cmp name y ≡ Less) (keys_of left)
    → All (λ (r : String Global × X).
    AreLesser (labels ++ under (string_bytes name) ls) (string_bytes r.0)) left
lesser_next {X} labels name ls [] all less =
    All-nil (λ (r : String Global × X).
    AreLesser (labels ++ under (string_bytes name) ls) (string_bytes r.0))
lesser_next {X} labels name ls (r ∷ left) all less =
    All-cons (λ (r : String Global × X).
    AreLesser (labels ++ under (string_bytes name) ls) (string_bytes r.0)) r left
    (All-append (λ (e : Labelled). text_cmp e.0.0 (string_bytes r.0) ≡ Less) labels
    (under (string_bytes name) ls)
    (all_first (λ (r : String Global × X). AreLesser labels (string_bytes r.0)) r left all)
    (all_under (string_bytes name) (string_bytes r.0) ls less.0))
    (lesser_next labels name ls left
    (all_rest (λ (r : String Global × X). AreLesser labels (string_bytes r.0)) r left all)
    less.1)

-- no label is smaller than each message
pub none_lesser : {X : Type 0} (left : List (String Global × X))
    → All (λ (r : String Global × X). AreLesser [] (string_bytes r.0)) left
none_lesser {X} [] = All-nil (λ (r : String Global × X). AreLesser [] (string_bytes r.0))
none_lesser {X} (r ∷ left) =
    All-cons (λ (r : String Global × X). AreLesser [] (string_bytes r.0)) r left
    (All-nil (λ (e : Labelled). text_cmp e.0.0 (string_bytes r.0) ≡ Less)) (none_lesser left)

-- a row that is not marked gives the labels of its keys
pub row_unmarked : (r : List ℕ × Option Keys) → is_marked r.0 ≡ false
    → row_labels r ≡ under r.0 (languages_of (unwrap_or r.1 []))
row_unmarked r h = ap (λ b. unless_marked b (under r.0 (languages_of (unwrap_or r.1 [])))) h

-- one row more adds its labels
pub rows_labels_one : (rs : Rows) (r : List ℕ × Option Keys)
    → rows_labels (rs ++ r ∷ []) ≡ rows_labels rs ++ row_labels r
rows_labels_one rs r =
    flat_map-append row_labels rs (r ∷ [])
    ∙ ap (λ t. rows_labels rs ++ t) (append-nil (row_labels r))

-- a row more, which is skipped
pub labels_skip : (rs : Rows) (r : List ℕ × Option Keys) (labels : List Labelled)
    → is_marked r.0 ≡ true → IsPermutation (rows_labels rs) labels
    → IsPermutation (rows_labels (rs ++ r ∷ [])) labels
labels_skip rs r labels marked p =
    subst (λ t. IsPermutation t labels)
    (sym (rows_labels_one rs r
    ∙ ap (λ b. rows_labels rs
    ++ unless_marked b (under r.0 (languages_of (unwrap_or r.1 [])))) marked
    ∙ append-nil (rows_labels rs))) p

-- a row more, whose labels come after the others
pub labels_next : (rs : Rows) (r : List ℕ × Option Keys) (old new : List Labelled)
    → is_marked r.0 ≡ false → IsPermutation (rows_labels rs) old
    → AddsLanguages old new r.0 (unwrap_or r.1 [])
    → IsPermutation (rows_labels (rs ++ r ∷ [])) new
labels_next rs r old new unmarked p (ls, same, ascending, is) =
    let here = under r.0 (languages_of (unwrap_or r.1 [])) in
    subst (λ t. IsPermutation t new)
    (sym (rows_labels_one rs r ∙ ap (λ t. rows_labels rs ++ t) (row_unmarked r unmarked)))
    (subst (IsPermutation (rows_labels rs ++ here)) (sym is)
    (IsPermutation-trans (rows_labels rs ++ here) (old ++ here) (old ++ under r.0 ls)
    (IsPermutation-append_left here (rows_labels rs) old p)
    (IsPermutation-append_right old here (under r.0 ls)
    (IsPermutation-map (λ (e : List ℕ × List (List ℕ)). ((r.0, e.0), e.1))
    (languages_of (unwrap_or r.1 [])) ls same))))

-- ---- the tests of one key

-- memory ran out, or the key is refused after any keys with these labels
abbrev pub IsKeyRefusal : Found → ℕ → List ℕ → Strings → DocCause → Type 0
IsKeyRefusal found k key strings e =
    (e ≡ NoMemory)
    ⊎ ((before : Keys) → HoldsKeys before found
    → FirstFails (key_checks k (names before) key strings) e)

-- why a key is no language is why it is refused
pub language_fails : (found : Found) (k : ℕ) (text key : List ℕ) (strings : Strings) (e : DocCause)
    → text ≡ key → (e ≡ NoMemory) ⊎ IsLanguageRefusal k text e → IsKeyRefusal found k key strings e
language_fails found k text key strings e same why = elim why [
  | inl h ↦ inl h
  | inr h ↦ inr (λ before holds. inl (subst (λ t. IsLanguageRefusal k t e) same h))
]

spelled : (text key lang : List ℕ) → text ≡ key → SpellsLang text lang → IsSpelled key
spelled text key lang same spells = subst IsSpelled same (lang, spells)

-- the language of a key is the key in lower case
pub lower_of : (text key lang : List ℕ) → text ≡ key → SpellsLang text lang
    → lang ≡ str_to_ascii_lowercase key
lower_of text key lang same spells = spelled_lower text lang spells ∙ ap str_to_ascii_lowercase same

module _ (found : Found) (k : ℕ) (text key lang : List ℕ) (same : text ≡ key)
    (spells : SpellsLang text lang) where
  tested : (b : Bool) → is_some (lookup (is_at (text_cmp lang)) found) ≡ b → (before : Keys)
      → HoldsKeys before found → is_repeated (names before) key ≡ b
  tested b is before holds =
      sym (found_is_repeated before found key lang holds (lower_of text key lang same spells)) ∙ is

  -- a key whose language was found before is refused as a repeated one
  pub repeated_fails : (strings : Strings) → is_some (lookup (is_at (text_cmp lang)) found) ≡ true
      → IsKeyRefusal found k key strings (RepeatedTag k)
  repeated_fails strings is =
      inr
      (λ before holds.
      inr (
        spelled text key lang same spells,
        inl (λ never. true≢false (sym (tested true is before holds) ∙ never), refl),
      ))

  module _ (absent : is_some (lookup (is_at (text_cmp lang)) found) ≡ false) where
    -- a new key whose value has not the shape of a label is refused for that
    pub shape_fails : (strings : Strings) → strings ≡ None
        → IsKeyRefusal found k key strings (Shape (Row k))
    shape_fails strings none =
        inr
        (λ before holds.
        inr (
          spelled text key lang same spells,
          inr (
            tested false absent before holds,
            inl (λ some. true≢false (sym some ∙ ap is_some none), refl),
          ),
        ))

    -- a new key whose strings are no label is refused for that
    pub label_fails : (texts : List (List ℕ)) (strings : Strings) (e : DocCause)
        → strings ≡ Some texts → (e ≡ NoMemory) ⊎ IsStringsRefusal k texts e
        → IsKeyRefusal found k key strings e
    label_fails texts strings e is why = elim why [
      | inl none ↦ inl none
      | inr refused ↦
          inr
          (λ before holds.
          inr (
            spelled text key lang same spells,
            inr (
              tested false absent before holds,
              inr (
                ap is_some is,
                inl (subst (λ t. IsStringsRefusal k t e)
                    (sym (ap (λ o. unwrap_or o []) is)) refused),
              ),
            ),
          ))
    ]

    -- a new key whose strings are a label or none passes its tests
    pub key_passes : (texts : List (List ℕ)) (strings : Strings) → strings ≡ Some texts
        → IsLabelOrNone texts → (before : Keys) → HoldsKeys before found
        → AllPass (key_checks k (names before) key strings)
    key_passes texts strings is labelled before holds = (
      spelled text key lang same spells,
      (
        tested false absent before holds,
        (
          ap is_some is,
          (subst IsLabelOrNone (sym (ap (λ o. unwrap_or o []) is)) labelled, tt),
        ),
      ),
    )

-- ---- keys and rows as they are kept

-- what is seen of two lists of keys is seen of both
pub keys_seen_after : (es fs : List (String Global × HeldStrings))
    → keys_seen (es ++ fs) ≡ keys_seen es ++ keys_seen fs
keys_seen_after es fs =
    map-append (λ (e : String Global × HeldStrings). (string_bytes e.0, strings_seen e.1)) es fs

-- what is seen of two lists of rows is seen of both
pub rows_seen_after : (es fs : List (String Global × Option HeldKeys))
    → rows_seen (es ++ fs) ≡ rows_seen es ++ rows_seen fs
rows_seen_after es fs =
    map-append (λ (e : String Global × Option HeldKeys). (string_bytes e.0, keys_in_seen e.1)) es fs

-- the next item goes to those that are done
pub one_further : {X : Type 0} (all front : List X) (x : X) (left rest : List X)
    → all ≡ front ++ left → left ≡ x ∷ rest → all ≡ (front ++ x ∷ []) ++ rest
one_further all front x left rest is next =
    is ∙ ap (λ t. front ++ t) next ∙ sym (append_assoc front (x ∷ []) rest)

-- the second case may say what follows from it
pub else_by : {P Q R : Type 0} → P ⊎ Q → (Q → R) → P ⊎ R
else_by why follows = elim why [ inl h ↦ inl h | inr h ↦ inr (follows h) ]

-- ---- a row more

abbrev seen_row : String Global × Option HeldKeys → List ℕ × Option Keys
seen_row r = (string_bytes r.0, keys_in_seen r.1)

-- what the labels of the rows so far are, beside the rows that are left
pub record HoldsRows (rows : Rows) (labels : List Labelled)
    (left : List (String Global × Option HeldKeys)) : Type 0 where
  pub same : IsPermutation (rows_labels rows) labels
  pub map : IsMap key_cmp labels
  pub lesser : All (λ (r : String Global × Option HeldKeys). AreLesser labels (string_bytes r.0))
      left
  pub ascending : IsStrictlySortedBy string_cmp (keys_of left)

-- the messages of the labels are smaller than the next one
pub first_lesser : (rows : Rows) (labels : List Labelled) (r : String Global × Option HeldKeys)
    (left : List (String Global × Option HeldKeys))
    → HoldsRows rows labels (r ∷ left) → AreLesser labels (string_bytes r.0)
first_lesser rows labels r left holds =
    all_first (λ (x : String Global × Option HeldKeys). AreLesser labels (string_bytes x.0)) r left
    holds.lesser

skipped_next : (rows : Rows) (labels : List Labelled) (r : String Global × Option HeldKeys)
    (left : List (String Global × Option HeldKeys))
    → HoldsRows rows labels (r ∷ left) → is_marked (string_bytes r.0) ≡ true
    → HoldsRows (rows ++ seen_row r ∷ []) labels left
unfolding IsStrictlySortedBy
skipped_next rows labels r left holds marked = record {
  same = labels_skip rows (seen_row r) labels marked holds.same;
  map = holds.map;
  lesser =
      all_rest (λ (x : String Global × Option HeldKeys). AreLesser labels (string_bytes x.0)) r left
      holds.lesser;
  ascending = holds.ascending.1;
}

message_next : (rows : Rows) (old new : List Labelled) (r : String Global × Option HeldKeys)
    (left : List (String Global × Option HeldKeys))
    → HoldsRows rows old (r ∷ left) → is_marked (string_bytes r.0) ≡ false
    → AddsLanguages old new (string_bytes r.0) (unwrap_or (keys_in_seen r.1) [])
    → HoldsRows (rows ++ seen_row r ∷ []) new left
unfolding IsStrictlySortedBy
message_next rows old new r left holds unmarked adds =
    let lesser = first_lesser rows old r left holds in record {
      same = labels_next rows (seen_row r) old new unmarked holds.same adds;
      map =
          subst (IsMap key_cmp) (sym adds.3)
          (after_IsMap old (string_bytes r.0) adds.0 holds.map lesser adds.2);
      lesser =
          subst (λ (labels : List Labelled).
          All (λ (x : String Global × Option HeldKeys). AreLesser labels (string_bytes x.0))
          left) (sym adds.3)
          (lesser_next old r.0 adds.0 left
          (all_rest (λ (x : String Global × Option HeldKeys). AreLesser old (string_bytes x.0))
          r left holds.lesser) holds.ascending.0);
      ascending = holds.ascending.1;
    }

-- one row more is done, and its labels are added
pub HoldsRows-next : (rows : Rows) (old new : List Labelled) (r : String Global × Option HeldKeys)
    (left : List (String Global × Option HeldKeys))
    → HoldsRows rows old (r ∷ left) → AddsRow old new (seen_row r)
    → HoldsRows (rows ++ seen_row r ∷ []) new left
HoldsRows-next rows old new r left holds adds = elim adds [
  | inl skipped ↦
      subst (λ (labels : List Labelled). HoldsRows (rows ++ seen_row r ∷ []) labels left)
      (sym skipped.1) (skipped_next rows old r left holds skipped.0)
  | inr message ↦ message_next rows old new r left holds message.0 message.1
]

-- at the beginning no row is done
pub HoldsRows-none : (left : List (String Global × Option HeldKeys))
    → IsStrictlySortedBy string_cmp (keys_of left) → HoldsRows [] [] left
HoldsRows-none left ascending = record {
  same = IsPermutation-refl [];
  map = tt;
  lesser = none_lesser left;
  ascending = ascending;
}

-- as many rows are seen as were read
pub same_length : (front : List (String Global × Option HeldKeys))
    → length front ≡ length (rows_seen front)
same_length [] = refl
same_length (r ∷ front) = ap suc (same_length front)

-- a message whose keys pass
pub message_added : (old new : List Labelled) (k : ℕ) (name : List ℕ) (held : Option Keys)
    (keys : Keys) (found : Found)
    → held ≡ Some keys → IsMessageId name → AllPass (keys_checks k [] keys) → HoldsKeys keys found
    → new ≡ old ++ under name (live found)
    → AllPass (message_checks k name held) × AddsLanguages old new name (unwrap_or held [])
message_added old new k name held keys found is id passes holds added = (
  (
    id,
    (
      ap is_some is,
      subst (λ (ms : Keys). AllPass (keys_checks k [] ms)) (sym (ap (λ o. unwrap_or o []) is))
          passes,
    ),
  ),
  (
    live found,
    subst (λ (ms : Keys). IsPermutation (languages_of ms) (live found))
        (sym (ap (λ o. unwrap_or o []) is)) holds.labels,
    live_IsMap found holds.map,
    added,
  ),
)
