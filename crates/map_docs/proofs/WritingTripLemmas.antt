-- What is written of labels reads as those labels.
--
-- The labels are put together by message, which loses nothing, and written as an object of objects
-- whose names ascend. Read again, each id is a message's, as none begins with "@"; each language is
-- found once, since the languages ascend; and each string or array of strings is its label. So the
-- value passes all tests and gives the same labels. The value of a text is read off its own tokens.
use Rattle.std.proofs.Common.{◌≡◌, ◌∙◌, ◌≢◌, ◌≤◌, ◌+◌, ◌++◌, ℕ, suc, Bool, true, false, List, []}
use Rattle.std.proofs.Common.{◌∷◌, map, Option, None, Some, length, refl, sym, ap, ap₂, subst}
use Rattle.std.proofs.Common.{append_assoc, append-nil, inl, inr, arith, true≢false}
use Rattle.std.specs.Prelude.{◌||◌, ◌==◌, Decides, IsUtf8, T, if◌then◌else◌}
use Rattle.std.specs.Prelude.{option_map, option_and_then, slice_get}
use Rattle.std.proofs.lemmas.Bool.{eqb-true}
use Rattle.std.proofs.lemmas.Cmp.{nat_list_cmp_total}
use Rattle.std.proofs.lemmas.List.Sorted.{IsPermutation-refl}
use Rattle.std.proofs.lemmas.Map.Text.{is_eq-slice_cmp}
use Rattle.std.proofs.lemmas.Slice.Eq.{bytes_eq-Decides}
use Rattle.std.specs.FinMap.Entries.{below_all, is_sorted}
use Rattle.std.specs.List.{AllByRecursion, cons_option, filter_map, list_all}
use Rattle.std.specs.List.Sorted.{IsPermutation}
use Rattle.std.specs.Ordering.{is_eq, is_lt, match_ordering, ordering_reverse, ordering_then}
use Rattle.std.specs.Str.{bytes_eq, str_to_ascii_lowercase}
use Rattle.std.specs.declared.cmp.Ordering.{Ordering}
use Rattle.std.specs.declared.cmp.Ordering.TheVariants.{Less, Equal, Greater}
use Rattle.cell_core.specs.Label.{IsLabel}
use Rattle.cell_core.specs.Keyed.{IsMap}
use Rattle.cell_core.specs.MessageId.{IsMessageId}
use Rattle.cell_core.proofs.KeyedPlacesLemmas.{below-trans}
use Rattle.cell_core.specs.Entry.{EntryKey, key_cmp, text_cmp}
use Rattle.catalogue.specs.CatalogueFlat.{flat, under}
use Rattle.json.specs.Json.{value}
use Rattle.json.specs.Lex.{tokens}
use Rattle.json.specs.Tree.{HasNumbers, ItemsHaveNumbers, MembersHaveNumbers, depth, items_depth}
use Rattle.json.specs.Tree.{json_tokens, members_depth}
use Rattle.json.proofs.Printed.Tokens.{tokens-print}
use Rattle.json.proofs.Printed.Trees.{ArePrintable-json_tokens, value-json_tokens}
use Rattle.lang_core.specs.Tag.{IsTag}
use Rattle.lang_core.specs.Lang.{IsLang}
use Rattle.serde_json.specs.Data as plain
use Rattle.serde_json.specs.Data.{Data, member}
use Rattle.serde_json.specs.Find.{as_str}
use Rattle.serde_json.specs.Read.{of_items, of_json, of_members, read}
use Rattle.serde_json.specs.View.{items_of}
use Rattle.serde_json.specs.Written.{compact_text, items_outline, members_outline, outline}
use Rattle.serde_json.proofs.Texts.{print-outline}
use Rattle.json_docs.specs.FaultChecks.{AllPass}
use Rattle.row_docs.specs.Fields.{IsSpelled}
use Rattle.row_docs.specs.WritingTexts.{text}
use Rattle.row_docs.specs.EntriesValues.{texts_value}
use Rattle.map_docs.specs.LabelsChecks.{IsLabelOrNone, is_marked, is_repeated, keys_checks}
use Rattle.map_docs.specs.LabelsChecks.{langmaps_checks, message_checks, member_checks}
use Rattle.map_docs.specs.LabelsChecks.{members_checks, unless_marked}
use Rattle.map_docs.specs.Maps.{Labelled}
use Rattle.map_docs.specs.MapsValue.{Languages, Messages, by_message, language_value}
use Rattle.map_docs.specs.MapsValue.{languages_members, langmaps_value, messages_members}
use Rattle.map_docs.specs.MapsValue.{with_label}
use Rattle.map_docs.specs.MapsLabels.{AreLangMaps, labelled, languages_of, rows_labels}
use Rattle.map_docs.specs.MapsLaws.{AreWritable}
use Rattle.map_docs.specs.MembersRows.{Keys, Strings, is_string_or_null, keys_of, message_rows}
use Rattle.map_docs.specs.MembersRows.{strings_in, strings_of}
use Rattle.json_docs.proofs.FaultChecksLemmas.{AllPass-both}
use Rattle.json_docs.proofs.TextLineFeed.{read-line_feed}
use Rattle.json_docs.proofs.ScanningReadingLemmas.{whole}
use Rattle.row_docs.proofs.AscendingKeys.{so_less as is_less}
use Rattle.row_docs.proofs.EntriesWrittenRows.{list_of-items_of as listed}
use Rattle.row_docs.proofs.EntriesLowerLemmas.{lower-IsLang as lower_lang}
use Rattle.cell_core.proofs.Basics.{both_parts, first_part, less_than, second_part}
use Rattle.map_docs.proofs.MapsLabelsLemmas.{same_id as same_first}

-- ---- nothing is lost by messages

flat-with_label : (e : Labelled) (ms : Messages) → flat (with_label e ms) ≡ e ∷ flat ms
flat-with_label e [] = refl
flat-with_label e (m ∷ ms) = by_id (bytes_eq e.0.0 m.0) (bytes_eq-Decides e.0.0 m.0)
  where
    here : List ℕ × List (List ℕ)
    here = (e.0.1, e.1)

    by_id : (b : Bool) → Decides b (e.0.0 ≡ m.0)
        → flat (if b then (e.0.0, here ∷ m.1) ∷ ms else (e.0.0, here ∷ []) ∷ m ∷ ms)
        ≡ e ∷ flat (m ∷ ms)
    by_id true same = ap (λ (id : List ℕ). e ∷ (under id m.1 ++ flat ms)) (same.0 refl)
    by_id false same = refl

-- labels by message are the labels
pub flat-by_message : (es : List Labelled) → flat (by_message es) ≡ es
flat-by_message [] = refl
flat-by_message (e ∷ es) = flat-with_label e (by_message es) ∙ ap (λ t. e ∷ t) (flat-by_message es)

-- ---- strings of a label

all_strings : (texts : List (List ℕ)) → list_all is_string_or_null (map plain.string texts) ≡ true
all_strings [] = refl
all_strings (t ∷ ts) = all_strings ts

each_string : (texts : List (List ℕ)) → filter_map as_str (map plain.string texts) ≡ texts
each_string [] = refl
each_string (t ∷ ts) = ap (λ l. t ∷ l) (each_string ts)

array_strings : (texts : List (List ℕ)) → strings_in (texts_value texts) ≡ Some texts
array_strings texts =
    ap strings_of (listed (map plain.string texts))
    ∙ ap (λ b. if b then Some (filter_map as_str (map plain.string texts)) else None)
    (all_strings texts)
    ∙ ap Some (each_string texts)

strings_in-language : (texts : List (List ℕ)) → strings_in (language_value texts) ≡ Some texts
strings_in-language [] = array_strings []
strings_in-language (t ∷ []) = refl
strings_in-language (t ∷ u ∷ ts) = array_strings (t ∷ u ∷ ts)

-- ---- the data of what is written

items_back : (texts : List (List ℕ))
    → of_items (items_outline (items_of (map plain.string texts)))
    ≡ Some (items_of (map plain.string texts))
items_back [] = refl
items_back (t ∷ ts) = ap (option_map (plain.item (plain.string t))) (items_back ts)

language_back : (texts : List (List ℕ))
    → of_json (outline (language_value texts)) ≡ Some (language_value texts)
language_back [] = refl
language_back (t ∷ []) = refl
language_back (t ∷ u ∷ ts) = ap (option_map plain.array) (items_back (t ∷ u ∷ ts))

above : (k l : List ℕ) → text_cmp l k ≡ Less → text_cmp k l ≡ Greater
above k l less = nat_list_cmp_total.antisymm k l ∙ ap ordering_reverse less

-- a language above those before it goes after them
put_language : (front : Languages) (l : List ℕ × List (List ℕ)) (rest : Languages)
    → IsMap text_cmp (front ++ l ∷ rest)
    → plain.put l.0 (language_value l.1) (languages_members front)
    ≡ languages_members (front ++ l ∷ [])
put_language [] l rest m = refl
put_language (f ∷ front) l rest m =
    ap (λ o. match_ordering o (member l.0 (language_value l.1) (languages_members (f ∷ front)))
    (member f.0 (language_value l.1) (languages_members front))
    (member f.0 (language_value f.1)
    (plain.put l.0 (language_value l.1) (languages_members front))))
    (above l.0 f.0
    (in_rest f.0 front l rest
    (first_part (below_all text_cmp f.0 (front ++ l ∷ rest))
    (is_sorted text_cmp (front ++ l ∷ rest)) m)))
    ∙ ap (member f.0 (language_value f.1))
    (put_language front l rest
    (second_part (below_all text_cmp f.0 (front ++ l ∷ rest))
    (is_sorted text_cmp (front ++ l ∷ rest)) m))
  where
    in_rest : (x : List ℕ) (xs : Languages) (y : List ℕ × List (List ℕ)) (ys : Languages)
        → T (below_all text_cmp x (xs ++ y ∷ ys)) → text_cmp x y.0 ≡ Less
    in_rest x [] y ys h =
        less_than (text_cmp x y.0) (first_part (is_lt (text_cmp x y.0)) (below_all text_cmp x ys) h)
    in_rest x (z ∷ xs) y ys h =
        in_rest x xs y ys
        (second_part (is_lt (text_cmp x z.0)) (below_all text_cmp x (xs ++ y ∷ ys)) h)

languages_back : (front ls : Languages) → IsMap text_cmp (front ++ ls)
    → of_members (members_outline (languages_members ls)) (languages_members front)
    ≡ Some (languages_members (front ++ ls))
languages_back front [] m = ap (λ l. Some (languages_members l)) (sym (append-nil front))
languages_back front (l ∷ ls) m =
    let one_more = append_assoc front (l ∷ []) ls in
    ap
    (option_and_then
    (λ d. of_members (members_outline (languages_members ls))
    (plain.put l.0 d (languages_members front)))) (language_back l.1)
    ∙ ap (of_members (members_outline (languages_members ls))) (put_language front l ls m)
    ∙ languages_back (front ++ l ∷ []) ls (subst (IsMap text_cmp) (sym one_more) m)
    ∙ ap (λ l. Some (languages_members l)) one_more

-- ---- messages that ascend, each with languages that ascend

abbrev AreAscending : Messages → Type 0
AreAscending [] = Unit {0}
AreAscending (m ∷ ms) = IsMap text_cmp m.1 × (length m.1 ≢ 0) × AreAscending ms

below_first : (k : EntryKey) (id : List ℕ) (ls : Languages) (rest : List Labelled) → length ls ≢ 0
    → T (below_all key_cmp k (under id ls ++ rest)) → bytes_eq k.0 id ≡ false
    → text_cmp k.0 id ≡ Less
below_first k id [] rest some h apart = absurd (some refl)
below_first k id (l ∷ ls) rest some h apart =
    lesser_id (text_cmp k.0 id) (text_cmp k.1 l.0)
    (less_than (key_cmp k (id, l.0))
    (first_part (is_lt (key_cmp k (id, l.0))) (below_all key_cmp k (under id ls ++ rest))
    h)) (is_eq-slice_cmp k.0 id ∙ apart)
  where
    lesser_id : (a b : Ordering) → ordering_then a b ≡ Less → is_eq a ≡ false → a ≡ Less
    lesser_id Less b h e = refl
    lesser_id Equal b h e = absurd (true≢false e)
    lesser_id Greater b h e = cc

below_within : (id x : List ℕ) (ls : Languages) (rest : List Labelled)
    → T (below_all key_cmp (id, x) (under id ls ++ rest)) → T (below_all text_cmp x ls)
below_within id x [] rest h = tt
below_within id x (l ∷ ls) rest h =
    both_parts (is_lt (text_cmp x l.0)) (below_all text_cmp x ls)
    (is_less (text_cmp x l.0)
    (sym (same_first id x l.0)
    ∙ less_than (key_cmp (id, x) (id, l.0))
    (first_part (is_lt (key_cmp (id, x) (id, l.0)))
    (below_all key_cmp (id, x) (under id ls ++ rest)) h)))
    (below_within id x ls rest
    (second_part (is_lt (key_cmp (id, x) (id, l.0)))
    (below_all key_cmp (id, x) (under id ls ++ rest)) h))

with_label-ascends : (e : Labelled) (ms : Messages) → T (below_all key_cmp e.0 (flat ms))
    → IsMap text_cmp ms → AreAscending ms
    → IsMap text_cmp (with_label e ms) × AreAscending (with_label e ms)
with_label-ascends e [] h m r = (tt, (tt, (λ (never : 1 ≡ 0). absurd (omega arith)), tt))
with_label-ascends e (n ∷ ms) h m r = by_id (bytes_eq e.0.0 n.0) refl
  where
    here : List ℕ × List (List ℕ)
    here = (e.0.1, e.1)

    behind : T (below_all text_cmp n.0 ms)
    behind = first_part (below_all text_cmp n.0 ms) (is_sorted text_cmp ms) m

    rest : IsMap text_cmp ms
    rest = second_part (below_all text_cmp n.0 ms) (is_sorted text_cmp ms) m

    by_id : (b : Bool) → bytes_eq e.0.0 n.0 ≡ b
        → (let made : Messages =
        if b then (e.0.0, here ∷ n.1) ∷ ms else (e.0.0, here ∷ []) ∷ n ∷ ms in
        IsMap text_cmp made × AreAscending made)
    by_id true is =
        let same : e.0.0 ≡ n.0 = (bytes_eq-Decides e.0.0 n.0).0 is in
        let within =
        below_within n.0 e.0.1 n.1 (flat ms)
        (subst
        (λ (id : List ℕ). T (below_all key_cmp (id, e.0.1) (under n.0 n.1 ++ flat ms)))
        same h) in (
          both_parts (below_all text_cmp e.0.0 ms) (is_sorted text_cmp ms)
              (subst (λ (id : List ℕ). T (below_all text_cmp id ms)) (sym same) behind) rest,
          (
            both_parts (below_all text_cmp e.0.1 n.1) (is_sorted text_cmp n.1) within r.0,
            (λ (never : suc (length n.1) ≡ 0). absurd (omega arith)),
            r.2,
          ),
        )
    by_id false is =
        let less = below_first e.0 n.0 n.1 (flat ms) r.1 h is in (
          both_parts (below_all text_cmp e.0.0 (n ∷ ms)) (is_sorted text_cmp (n ∷ ms))
              (both_parts (is_lt (text_cmp e.0.0 n.0)) (below_all text_cmp e.0.0 ms)
              (is_less (text_cmp e.0.0 n.0) less)
              (below-trans text_cmp nat_list_cmp_total e.0.0 n.0 ms less behind)) m,
          (tt, (λ (never : 1 ≡ 0). absurd (omega arith)), r),
        )

by_message-ascends : (es : List Labelled) → IsMap key_cmp es
    → IsMap text_cmp (by_message es) × AreAscending (by_message es)
by_message-ascends [] m = (tt, tt)
by_message-ascends (e ∷ es) m =
    let behind =
    by_message-ascends es (second_part (below_all key_cmp e.0 es) (is_sorted key_cmp es) m) in
    with_label-ascends e (by_message es)
    (subst (λ (l : List Labelled). T (below_all key_cmp e.0 l)) (sym (flat-by_message es))
    (first_part (below_all key_cmp e.0 es) (is_sorted key_cmp es) m)) behind.0 behind.1

-- ---- the whole document

put_message : (front : Messages) (m : List ℕ × Languages) (rest : Messages)
    → IsMap text_cmp (front ++ m ∷ rest)
    → plain.put m.0 (plain.object (languages_members m.1)) (messages_members front)
    ≡ messages_members (front ++ m ∷ [])
put_message [] m rest ascending = refl
put_message (f ∷ front) m rest ascending =
    ap
    (λ o. match_ordering o
    (member m.0 (plain.object (languages_members m.1)) (messages_members (f ∷ front)))
    (member f.0 (plain.object (languages_members m.1)) (messages_members front))
    (member f.0 (plain.object (languages_members f.1))
    (plain.put m.0 (plain.object (languages_members m.1)) (messages_members front))))
    (above m.0 f.0
    (in_rest f.0 front m rest
    (first_part (below_all text_cmp f.0 (front ++ m ∷ rest))
    (is_sorted text_cmp (front ++ m ∷ rest)) ascending)))
    ∙ ap (member f.0 (plain.object (languages_members f.1)))
    (put_message front m rest
    (second_part (below_all text_cmp f.0 (front ++ m ∷ rest))
    (is_sorted text_cmp (front ++ m ∷ rest)) ascending))
  where
    in_rest : (x : List ℕ) (xs : Messages) (y : List ℕ × Languages) (ys : Messages)
        → T (below_all text_cmp x (xs ++ y ∷ ys)) → text_cmp x y.0 ≡ Less
    in_rest x [] y ys h =
        less_than (text_cmp x y.0) (first_part (is_lt (text_cmp x y.0)) (below_all text_cmp x ys) h)
    in_rest x (z ∷ xs) y ys h =
        in_rest x xs y ys
        (second_part (is_lt (text_cmp x z.0)) (below_all text_cmp x (xs ++ y ∷ ys)) h)

messages_back : (front ms : Messages) → IsMap text_cmp (front ++ ms) → AreAscending ms
    → of_members (members_outline (messages_members ms)) (messages_members front)
    ≡ Some (messages_members (front ++ ms))
messages_back front [] m r = ap (λ l. Some (messages_members l)) (sym (append-nil front))
messages_back front (n ∷ ms) m r =
    let one_more = append_assoc front (n ∷ []) ms in
    ap
    (option_and_then
    (λ d. of_members (members_outline (messages_members ms))
    (plain.put n.0 d (messages_members front))))
    (ap (option_map plain.object) (languages_back [] n.1 r.0))
    ∙ ap (of_members (members_outline (messages_members ms))) (put_message front n ms m)
    ∙ messages_back (front ++ n ∷ []) ms (subst (IsMap text_cmp) (sym one_more) m) r.2
    ∙ ap (λ l. Some (messages_members l)) one_more

-- the value of labels reads as itself
pub langmaps_back : (es : List Labelled) → IsMap key_cmp es
    → of_json (outline (langmaps_value es)) ≡ Some (langmaps_value es)
langmaps_back es m = let ascends = by_message-ascends es m in
    ap (option_map plain.object) (messages_back [] (by_message es) ascends.0 ascends.1)

-- ---- its labels

abbrev some_strings : List ℕ × List (List ℕ) → List ℕ × Strings
some_strings l = (l.0, Some l.1)

keys_of-languages : (ls : Languages) → keys_of (languages_members ls) ≡ map some_strings ls
keys_of-languages [] = refl
keys_of-languages (l ∷ ls) =
    ap₂ (λ (s : Strings) (ks : Keys). (l.0, s) ∷ ks) (strings_in-language l.1)
    (keys_of-languages ls)

labelled_back : (l : List ℕ × List (List ℕ)) → str_to_ascii_lowercase l.0 ≡ l.0 → IsLabel l.1
    → labelled (some_strings l) ≡ Some l
labelled_back (lang, []) lower label = absurd (let some = label.count.some in omega (arith, some))
labelled_back (lang, t ∷ ts) lower label = ap (λ (x : List ℕ). Some (x, t ∷ ts)) lower

languages_of-back : (id : List ℕ) (ls : Languages) (rest : List Labelled)
    → AreWritable (under id ls ++ rest) → languages_of (map some_strings ls) ≡ ls
languages_of-back id [] rest w = refl
languages_of-back id (l ∷ ls) rest w =
    ap₂ (λ (o : Option (List ℕ × List (List ℕ))) (more : Languages). cons_option o more)
    (labelled_back l (lower_lang l.0 w.0.language) w.0.label) (languages_of-back id ls rest w.1)

writable_rest : (id : List ℕ) (ls : Languages) (rest : List Labelled)
    → AreWritable (under id ls ++ rest) → AreWritable rest
writable_rest id [] rest w = w
writable_rest id (l ∷ ls) rest w = writable_rest id ls rest w.1

-- an id does not begin with "@"
pub unmarked : (id : List ℕ) → slice_get id 0 ≢ Some 64 → is_marked id ≡ false
unmarked [] h = refl
unmarked (b ∷ id) h =
    elim (b == 64) as (λ t. (b == 64) ≡ t
    → t ≡ false) [ true ↦ λ is. absurd (h (ap Some (eqb-true b 64 is))) | false ↦ λ is. refl ]
    refl

first_id : (id : List ℕ) (ls : Languages) (rest : List Labelled) → length ls ≢ 0
    → AreWritable (under id ls ++ rest) → IsMessageId id
first_id id [] rest some w = absurd (some refl)
first_id id (l ∷ ls) rest some w = w.0.id

rows_back : (ms : Messages) → AreAscending ms → AreWritable (flat ms)
    → rows_labels (message_rows (messages_members ms)) ≡ flat ms
rows_back [] r w = refl
rows_back (m ∷ ms) r w =
    let id = first_id m.0 m.1 (flat ms) r.1 w in
    ap₂ (λ (a b : List Labelled). a ++ b)
    (ap (λ b. unless_marked b (under m.0 (languages_of (keys_of (languages_members m.1)))))
    (unmarked m.0 id.unmarked)
    ∙ ap (λ ks. under m.0 (languages_of ks)) (keys_of-languages m.1)
    ∙ ap (under m.0) (languages_of-back m.0 m.1 (flat ms) w))
    (rows_back ms r.2 (writable_rest m.0 m.1 (flat ms) w))

-- the rows of the value have the labels
pub labels_back : (es : List Labelled) → IsMap key_cmp es → AreWritable es
    → rows_labels (message_rows (messages_members (by_message es))) ≡ es
labels_back es m w =
    let ascends = by_message-ascends es m in
    rows_back (by_message es) ascends.1 (subst AreWritable (sym (flat-by_message es)) w)
    ∙ flat-by_message es

-- ---- its tests

spelled_back : (lang : List ℕ) → IsLang lang → str_to_ascii_lowercase lang ≡ lang → IsSpelled lang
spelled_back lang is lower = elim is [
  | inl none ↦ (lang, inl (none, none))
  | inr tag ↦ (lang, inr (subst IsTag (sym lower) tag, sym lower))
]

-- A label is a label or none.
pub is_label : (texts : List (List ℕ)) → IsLabel texts → IsLabelOrNone texts
is_label [] label = tt
is_label (t ∷ ts) label = label

-- no earlier language is equal
new_key : (before : List (List ℕ)) (lang : List ℕ)
    → AllByRecursion (λ b. (text_cmp b lang ≡ Less) × (str_to_ascii_lowercase b ≡ b)) before
    → str_to_ascii_lowercase lang ≡ lang → is_repeated before lang ≡ false
new_key [] lang all lower = refl
new_key (b ∷ before) lang all lower =
    ap₂ (λ x y. x || y)
    (ap₂ bytes_eq all.0.1 lower ∙ sym (is_eq-slice_cmp b lang) ∙ ap is_eq all.0.0)
    (new_key before lang all.1 lower)

keys_pass_back : (k : ℕ) (id : List ℕ) (before : List (List ℕ)) (ls : Languages)
    (rest : List Labelled) → AreWritable (under id ls ++ rest) → IsMap text_cmp ls
    → AllByRecursion (λ b. T (below_all text_cmp b ls) × (str_to_ascii_lowercase b ≡ b)) before
    → AllPass (keys_checks k before (map some_strings ls))
keys_pass_back k id before [] rest w m all = tt
keys_pass_back k id before (l ∷ ls) rest w m all = (
  spelled_back l.0 w.0.language (lower_lang l.0 w.0.language),
  (
    new_key before l.0 (nows before all) (lower_lang l.0 w.0.language),
    (
      refl,
      (
        is_label l.1 w.0.label,
        keys_pass_back k id (before ++ l.0 ∷ []) ls rest w.1
            (second_part (below_all text_cmp l.0 ls) (is_sorted text_cmp ls) m) (laters before all),
      ),
    ),
  ),
)
  where
    nows : (bs : List (List ℕ))
        → AllByRecursion (λ b. T (below_all text_cmp b (l ∷ ls)) × (str_to_ascii_lowercase b ≡ b))
        bs → AllByRecursion (λ b. (text_cmp b l.0 ≡ Less) × (str_to_ascii_lowercase b ≡ b)) bs
    nows [] h = tt
    nows (b ∷ bs) h = (
      (
        less_than (text_cmp b l.0)
            (first_part (is_lt (text_cmp b l.0)) (below_all text_cmp b ls) h.0.0),
        h.0.1,
      ),
      nows bs h.1,
    )

    laters : (bs : List (List ℕ))
        → AllByRecursion (λ b. T (below_all text_cmp b (l ∷ ls)) × (str_to_ascii_lowercase b ≡ b))
        bs
        → AllByRecursion (λ b. T (below_all text_cmp b ls) × (str_to_ascii_lowercase b ≡ b))
        (bs ++ l.0 ∷ [])
    laters [] h = (
      (
        first_part (below_all text_cmp l.0 ls) (is_sorted text_cmp ls) m,
        (lower_lang l.0 w.0.language),
      ),
      tt,
    )
    laters (b ∷ bs) h = (
      (second_part (is_lt (text_cmp b l.0)) (below_all text_cmp b ls) h.0.0, h.0.1),
      laters bs h.1,
    )

rows_pass_back : (k : ℕ) (ms : Messages) → AreAscending ms → AreWritable (flat ms)
    → AllPass (members_checks k (message_rows (messages_members ms)))
rows_pass_back k [] r w = tt
rows_pass_back k (m ∷ ms) r w =
    let id = first_id m.0 m.1 (flat ms) r.1 w in
    AllPass-both (member_checks k (m.0, Some (keys_of (languages_members m.1))))
    (members_checks (k + 1) (message_rows (messages_members ms)))
    (subst
    (λ b. AllPass (unless_marked b
    (message_checks k m.0 (Some (keys_of (languages_members m.1))))))
    (sym (unmarked m.0 id.unmarked)) (
      id,
      (
        refl,
        subst (λ (ks : Keys). AllPass (keys_checks k [] ks)) (sym (keys_of-languages m.1))
            (keys_pass_back k m.0 [] m.1 (flat ms) w r.0 tt),
      ),
    ))
    (rows_pass_back (k + 1) ms r.2 (writable_rest m.0 m.1 (flat ms) w))

-- the value of labels passes all tests
pub passes_back : (es : List Labelled) → IsMap key_cmp es → AreWritable es
    → AllPass (langmaps_checks (langmaps_value es))
passes_back es m w =
    let ascends = by_message-ascends es m in (
      refl,
      rows_pass_back 0 (by_message es) ascends.1
          (subst AreWritable (sym (flat-by_message es)) w),
    )

-- ---- its text

items_shallow : (texts : List (List ℕ))
    → (items_depth (items_outline (items_of (map plain.string texts))) ≡ 0)
    × ItemsHaveNumbers (items_outline (items_of (map plain.string texts)))
items_shallow [] = (refl, tt)
items_shallow (t ∷ ts) = let rest = items_shallow ts in (omega (arith, rest.0), (tt, rest.1))

array_shallow : (texts : List (List ℕ))
    → (depth (outline (texts_value texts)) ≤ 1) × HasNumbers (outline (texts_value texts))
array_shallow texts = let within = items_shallow texts in (omega (arith, within.0), within.1)

language_shallow : (texts : List (List ℕ))
    → (depth (outline (language_value texts)) ≤ 1) × HasNumbers (outline (language_value texts))
language_shallow [] = array_shallow []
language_shallow (t ∷ []) = (omega arith, tt)
language_shallow (t ∷ u ∷ ts) = array_shallow (t ∷ u ∷ ts)

languages_shallow : (ls : Languages)
    → (members_depth (members_outline (languages_members ls)) ≤ 1)
    × MembersHaveNumbers (members_outline (languages_members ls))
languages_shallow [] = (omega arith, tt)
languages_shallow (l ∷ ls) =
    let first = language_shallow l.1 in
    let rest = languages_shallow ls in
    (omega (arith, first.0, rest.0), (first.1, rest.1))

messages_shallow : (ms : Messages)
    → (members_depth (members_outline (messages_members ms)) ≤ 2)
    × MembersHaveNumbers (members_outline (messages_members ms))
messages_shallow [] = (omega arith, tt)
messages_shallow (m ∷ ms) =
    let first = languages_shallow m.1 in
    let rest = messages_shallow ms in
    (omega (arith, first.0, rest.0), (first.1, rest.1))

tokens_back : (d : Data) → HasNumbers (outline d)
    → tokens (compact_text d) ≡ json_tokens (outline d)
tokens_back d numbers =
    ap tokens (sym (print-outline d))
    ∙ tokens-print (json_tokens (outline d)) (ArePrintable-json_tokens (outline d) numbers)

value_back : (d : Data) → depth (outline d) ≤ 127 → HasNumbers (outline d)
    → value 127 (tokens (compact_text d)) ≡ Some (outline d, [])
value_back d shallow numbers =
    ap (value 127) (tokens_back d numbers ∙ sym (append-nil (json_tokens (outline d))))
    ∙ value-json_tokens (outline d) 127 [] shallow

-- a value that is read off its own tokens is read off its text
text_back : (d : Data) → depth (outline d) ≤ 127 → HasNumbers (outline d)
    → of_json (outline d) ≡ Some d → read (text d) ≡ Some d
text_back d shallow numbers back =
    read-line_feed (compact_text d) ∙ ap whole (value_back d shallow numbers) ∙ back

-- the text of labels reads as them
pub reads_back : (es : List Labelled) → IsMap key_cmp es → AreWritable es
    → IsUtf8 (text (langmaps_value es)) → AreLangMaps (text (langmaps_value es)) es
reads_back es m w utf8 =
    let within = messages_shallow (by_message es) in
    let rows = message_rows (messages_members (by_message es)) in (
      langmaps_value es,
      (utf8, text_back (langmaps_value es) (omega (arith, within.0)) within.1 (langmaps_back es m)),
      passes_back es m w,
      (
        rows,
        refl,
        subst (λ (l : List Labelled). IsPermutation l es) (sym (labels_back es m w))
            (IsPermutation-refl es),
        m,
      ),
    )
