-- Widened lookup.
--
-- The widened candidates of an item are its candidates and then the languages that it matches, in
-- ascending order. Widened lookup finds the first of all that is open. If a candidate of the item
-- is open, that is the first; else the least language that fits is, if there is one. `WidenedFrom`
-- says this of the keys from a place on, as the unwidened walk has it. The laws compare the two:
-- what lookup finds at the first item, widened lookup finds, and where each match is among the
-- candidates the two are equal.
use Rattle.std.proofs.Common.{ℕ, ◌≡◌, ◌+◌, ◌≤◌, ◌<◌, ◌⊎◌, List, [], ◌∷◌, ◌++◌, Option, Some, None}
use Rattle.std.proofs.Common.{Bool, true, false, inl, inr, refl, sym, ◌∙◌, ap, subst, append-nil}
use Rattle.std.proofs.Common.{arith, drop, get_or, length, cond}
use Rattle.std.specs.Prelude.{suc, IsTrue, All, AllPairs, Contains, IsSomeAnd, map, nat_lt}
use Rattle.std.specs.Prelude.{is_some, if◌then◌else◌}
use Rattle.std.specs.List.{flat_map, slice_get, cons_option, list_any, position_or_len}
use Rattle.std.specs.Str.{bytes_eq}
use Rattle.std.specs.Ordering.{is_lt}
use Rattle.std.specs.declared.cmp.Ordering.{Ordering}
use Rattle.std.specs.declared.cmp.Ordering.TheVariants.{Less}
use Rattle.std.proofs.lemmas.Bool.{cases_Bool, le-ltb, lt-ltb, ltb-false, ltb-true}
use Rattle.std.proofs.lemmas.List.{drop_all}
use Rattle.std.proofs.lemmas.List.Elements.{All-nil, All-cons, All-append, All-contains}
use Rattle.std.proofs.lemmas.List.Elements.{All-contains_itself, All-head, All-tail}
use Rattle.std.proofs.lemmas.List.Elements.{All-weaker, Contains-append_cases}
use Rattle.std.proofs.lemmas.List.Elements.{Contains-append_right}
use Rattle.std.proofs.lemmas.Slice.Eq.{bytes_eq-Decides}
use Rattle.lang_core.specs.Text.{pieces, joined}
use Rattle.lang_core.specs.Lang.{tag_of}
use Rattle.lang_core.specs.Grammar.{is_star}
use Rattle.lang_core.specs.Matching.{Extended, greedy, is_basic_match}
use Rattle.lang_core.proofs.MatchingBasic.{basic_of_test, test_of_basic}
use Rattle.lang_core.proofs.MatchingEmbedding.{embeds_of_greedy, greedy_of_embeds}
use Rattle.list_core.proofs.Basics.{contains_cases, contains_first, contains_from_map, element_at}
use Rattle.list_core.proofs.Basics.{false_true, same_default}
use Rattle.nego_core.proofs.ChoosingFoundCandidates.{IsTriedOf, each_tried}
use Rattle.nego_core.proofs.LangSetLemmas.{among_contains, contains_among}
use Rattle.nego_core.proofs.ChoosingCandidatesLemmas.{first_append, first_front, first_here}
use Rattle.nego_core.proofs.ChoosingCandidatesLemmas.{first_later, one_first, ordered_items}
use Rattle.list_core.proofs.LookupOrderLemmas.{one_order_of}
use Rattle.lang_core.proofs.PiecesLemmas.{joined-pieces}
use Rattle.nego_core.proofs.WideningAscending.{all_above, one_ascending, ascending_from}
use Rattle.nego_core.proofs.WideningAscending.{ascending_has}
use Rattle.nego_core.proofs.WideningAscending.{ascending_is, ascending_of, ascending_tail}
use Rattle.list_core.specs.Item.{Item}
use Rattle.list_core.specs.Deciding.{Matches, NamedRefuse}
use Rattle.nego_core.specs.LangSet.{is_among}
use Rattle.nego_core.specs.Choosing.{all_candidates, IsOpen, IsLookedUp}
use Rattle.list_core.specs.Candidates.{candidates_of}
use Rattle.nego_core.specs.Choosing.{MatchFirstOf}
use Rattle.list_core.specs.LookupOrder.{AreOrderKeys, IsOrder, is_tried}
use Rattle.nego_core.specs.LookupPlaces.{least_place}
use Rattle.nego_core.specs.inner.WidenedChoice.{IsFirstWidened, IsFirstWidenedAt}
use Rattle.nego_core.specs.Widening.{AreMatched, Ascends, IsLookedUpWidened, widened}
use Rattle.list_core.specs.Deciding.{MatchesLang}
use Rattle.list_core.specs.declared.lookup_order.OrderKey.{OrderKey}
use Rattle.list_core.specs.declared.scheme.Scheme.{Scheme}
use Rattle.list_core.specs.declared.scheme.Scheme.TheVariants as scheme

-- ---- each range matches some languages

abbrev extended_test : List (List ℕ) → List (List ℕ) → Bool
extended_test [] tag = false
extended_test (r ∷ range) [] = false
extended_test (r ∷ range) (t ∷ tag) = if is_star r then
    greedy range tag else (if bytes_eq r t then greedy range tag else false)

extended_of : (range tag : List (List ℕ)) → extended_test range tag ≡ true → Extended range tag
extended_of [] tag h = false_true h
extended_of (r ∷ range) [] h = false_true h
extended_of (r ∷ range) (t ∷ tag) h = elim (cases_Bool (is_star r)) [
  | inl e ↦ (inl e, embeds_of_greedy range tag (rw e at h))
  | inr e ↦ elim (cases_Bool (bytes_eq r t)) [
    | inl g ↦ (inr ((bytes_eq-Decides r t).0 g), embeds_of_greedy range tag (rw (e, g) at h))
    | inr g ↦ absurd (false_true (rw (e, g) at h))
  ]
]

test_of_extended : (range tag : List (List ℕ)) → Extended range tag → extended_test range tag ≡ true
test_of_extended [] tag h = absurd h
test_of_extended (r ∷ range) [] h = absurd h
test_of_extended (r ∷ range) (t ∷ tag) h = elim (cases_Bool (is_star r)) [
  | inl e ↦ rw e (greedy_of_embeds range tag h.1)
  | inr e ↦ elim h.0 [
    | inl star ↦ absurd (false_true (sym e ∙ star))
    | inr same ↦
        (let g : bytes_eq r t ≡ true = (bytes_eq-Decides r t).1 same in
        rw (e, g) (greedy_of_embeds range tag h.1))
  ]
]

abbrev test_of : Scheme → Item → Option (List ℕ) → Bool
test_of s i None = false
test_of scheme.Basic i (Some tag) = is_basic_match (pieces i.range) (pieces tag)
test_of scheme.Extended i (Some tag) = extended_test (pieces i.range) (pieces tag)

matches_of_test : (s : Scheme) (i : Item) (o : Option (List ℕ)) → test_of s i o ≡ true
    → IsSomeAnd o (λ tag. Matches s (pieces i.range) (pieces tag))
matches_of_test s i None h = false_true h
matches_of_test scheme.Basic i (Some tag) h = basic_of_test (pieces i.range) (pieces tag) h
matches_of_test scheme.Extended i (Some tag) h = extended_of (pieces i.range) (pieces tag) h

test_of_matches : (s : Scheme) (i : Item) (o : Option (List ℕ))
    → IsSomeAnd o (λ tag. Matches s (pieces i.range) (pieces tag)) → test_of s i o ≡ true
test_of_matches s i None h = absurd h
test_of_matches scheme.Basic i (Some tag) h = test_of_basic (pieces i.range) (pieces tag) h
test_of_matches scheme.Extended i (Some tag) h = test_of_extended (pieces i.range) (pieces tag) h

-- the languages that the range of an item matches, each once, in ascending order
abbrev pub matched_of : Scheme → List (List ℕ) → Item → List (List ℕ)
matched_of s langs i = ascending_of (λ lang. test_of s i (tag_of lang)) langs

-- they are what the definition says
pub matched_are : (s : Scheme) (langs : List (List ℕ)) (i : Item)
    → AreMatched s langs i (matched_of s langs i)
matched_are s langs i = record {
  each = λ lang. (
    (λ c. ascending_from (MatchesLang s i) (λ l. test_of s i (tag_of l)) langs lang
        (λ l t. matches_of_test s i (tag_of l) t) c),
    (λ c. ascending_has (λ l. test_of s i (tag_of l)) langs lang
        (test_of_matches s i (tag_of lang) c.1) c.0),
  );
  ascending = ascending_is (λ l. test_of s i (tag_of l)) langs;
}

one_matched : (s : Scheme) (langs : List (List ℕ)) (i : Item) (a b : List (List ℕ))
    → AreMatched s langs i a → AreMatched s langs i b → a ≡ b
one_matched s langs i a b h g =
    one_ascending a b h.ascending g.ascending (λ z c. (g.each z).1 ((h.each z).0 c))
    (λ z c. (h.each z).1 ((g.each z).0 c))

-- ---- the first of two lists

-- what holds of each of joined lists holds of each of the first
pub none_front : {X : Type 0} (P : X → Type 0) (xs ys : List X) → All P (xs ++ ys) → All P xs
none_front P [] ys h = All-nil P
none_front P (x ∷ xs) ys h =
    All-cons P x xs (All-head P x (xs ++ ys) h) (none_front P xs ys (All-tail P x (xs ++ ys) h))

-- and of each of the second
pub none_back : {X : Type 0} (P : X → Type 0) (xs ys : List X) → All P (xs ++ ys) → All P ys
none_back P [] ys h = h
none_back P (x ∷ xs) ys h = none_back P xs ys (All-tail P x (xs ++ ys) h)

-- the first of two joined lists is in the first one, or in the second one
split_at : {X : Type 0} (P : X → Type 0) (xs ys before after : List X) (x : X)
    → xs ++ ys ≡ before ++ x ∷ after → All (λ y. ¬ P y) before → P x
    → MatchFirstOf P xs (Some x) ⊎ (MatchFirstOf P xs None × MatchFirstOf P ys (Some x))
split_at P [] ys before after x e n p =
    inr (
      All-nil (λ y. ¬ P y),
      record { before = before; after = after; whole = e; none_before = n; passes = p },
    )
split_at P (z ∷ xs) ys [] after x e n p =
    inl (let s : x ≡ z = cc in
    subst (λ y. MatchFirstOf P (y ∷ xs) (Some x)) s (first_here P x xs p))
split_at P (z ∷ xs) ys (w ∷ before) after x e n p =
    let s : w ≡ z = cc in
    let not : ¬ P z = subst (λ y. ¬ P y) s (All-head (λ y. ¬ P y) w before n) in
    elim (split_at P xs ys before after x (cc) (All-tail (λ y. ¬ P y) w before n) p) [
      | inl f ↦ inl (first_later P z xs (Some x) not f)
      | inr f ↦ inr (All-cons (λ y. ¬ P y) z xs not f.0, f.1)
    ]

-- the first of joined lists is that of the first one, or of the second one
pub first_split : {X : Type 0} (P : X → Type 0) (xs ys : List X) (x : X)
    → MatchFirstOf P (xs ++ ys) (Some x)
    → MatchFirstOf P xs (Some x) ⊎ (MatchFirstOf P xs None × MatchFirstOf P ys (Some x))
first_split P xs ys x f = split_at P xs ys f.before f.after x f.whole f.none_before f.passes

-- the first that passes is one of the list
pub first_among : {X : Type 0} (P : X → Type 0) (xs : List X) (x : X) → MatchFirstOf P xs (Some x)
    → Contains xs x
first_among P xs x f =
    subst (λ ys. Contains ys x) (sym f.whole)
    (Contains-append_right f.before (x ∷ f.after) x (contains_first x f.after))

-- ---- the first open one of an item

-- a candidate is among the languages and not refused
abbrev pub Open : List Item → List (List ℕ) → List (List ℕ) → Type 0
Open items langs = IsOpen items (is_among langs)

open_lang : (items : List Item) (langs : List (List ℕ)) (lang : List ℕ) → Contains langs lang
    → ¬ NamedRefuse items (pieces lang) → Open items langs (pieces lang)
open_lang items langs lang c n =
    (ap (is_among langs) (joined-pieces lang) ∙ contains_among langs lang c, n)

-- the range of the item matches the language, and the items other than "*" do not refuse it
abbrev pub Fits : Scheme → List Item → Item → List ℕ → Type 0
Fits scheme items i lang = MatchesLang scheme i lang × ¬ NamedRefuse items (pieces lang)

-- the least of the languages that fit, or none where none does
abbrev pub MatchLeast : (List ℕ → Type 0) → List (List ℕ) → Option (List ℕ) → Type 0
MatchLeast Passes langs None = All (λ l. ¬ Passes l) langs
MatchLeast Passes langs (Some x) =
    Contains langs x × Passes x × All (λ l. Passes l → ¬ Ascends l x) langs

none_fit : (s : Scheme) (items : List Item) (langs : List (List ℕ)) (i : Item)
    (matched : List (List ℕ))
    → All (λ m. Contains langs m × MatchesLang s i m) matched → All (λ l. ¬ Fits s items i l) langs
    → All (λ y. ¬ Open items langs y) (map pieces matched)
none_fit s items langs i [] h n = All-nil (λ y. ¬ Open items langs y)
none_fit s items langs i (m ∷ matched) h n =
    let here = All-head (λ m. Contains langs m × MatchesLang s i m) m matched h in
    All-cons (λ y. ¬ Open items langs y) (pieces m) (map pieces matched)
    (λ o. All-contains (λ l. ¬ Fits s items i l) langs m n here.0 (here.1, o.1))
    (none_fit s items langs i matched
    (All-tail (λ m. Contains langs m × MatchesLang s i m) m matched h) n)

-- the least that is open is the first in ascending order
pub least_first : (P : List (List ℕ) → Type 0) (matched : List (List ℕ)) (x : List ℕ)
    → Contains matched x → P (pieces x) → AllPairs Ascends matched
    → All (λ m. P (pieces m) → ¬ Ascends m x) matched
    → MatchFirstOf P (map pieces matched) (Some (pieces x))
least_first P [] x c p ascending least = absurd (let low = c.1 in omega arith)
least_first P (m ∷ matched) x c p ascending least = elim (contains_cases m x matched c) [
  | inl same ↦
      subst (λ y. MatchFirstOf P (pieces y ∷ map pieces matched) (Some (pieces x))) (sym same)
      (first_here P (pieces x) (map pieces matched) p)
  | inr later ↦ first_later P (pieces m) (map pieces matched) (Some (pieces x))
      (λ q. All-head (λ m. P (pieces m) → ¬ Ascends m x) m matched least q
      (All-contains (Ascends m) matched x (all_above m matched ascending) later))
      (least_first P matched x later p (ascending_tail m matched ascending)
      (All-tail (λ m. P (pieces m) → ¬ Ascends m x) m matched least))
]

each_matched : (s : Scheme) (langs : List (List ℕ)) (i : Item) (matched : List (List ℕ))
    → AreMatched s langs i matched → All (λ m. Contains langs m × MatchesLang s i m) matched
each_matched s langs i matched h =
    All-weaker (Contains matched) (λ m. Contains langs m × MatchesLang s i m)
    (λ m c. (h.each m).0 c) matched (All-contains_itself matched)

-- where a candidate is open, the first such is the first widened candidate
pub by_candidate : (s : Scheme) (items : List Item) (langs : List (List ℕ)) (i : Item)
    (found : List (List ℕ))
    → MatchFirstOf (Open items langs) (candidates_of i) (Some found)
    → IsFirstWidened s items langs i (Some found)
by_candidate s items langs i found f =
    λ matched h. first_front (Open items langs) (candidates_of i) (map pieces matched) found f

-- where no candidate is open and no language fits, no widened candidate is open
pub by_none : (s : Scheme) (items : List Item) (langs : List (List ℕ)) (i : Item)
    → MatchFirstOf (Open items langs) (candidates_of i) None
    → MatchLeast (Fits s items i) langs None → IsFirstWidened s items langs i None
by_none s items langs i n least =
    λ matched h.
    All-append (λ y. ¬ Open items langs y) (candidates_of i) (map pieces matched) n
    (none_fit s items langs i matched (each_matched s langs i matched h) least)

-- where no candidate is open, the least language that fits is the first widened candidate
pub by_match : (s : Scheme) (items : List Item) (langs : List (List ℕ)) (i : Item) (x : List ℕ)
    → MatchFirstOf (Open items langs) (candidates_of i) None
    → MatchLeast (Fits s items i) langs (Some x) → IsFirstWidened s items langs i (Some (pieces x))
by_match s items langs i x n least = λ matched h.
    let c = (h.each x).1 (least.0, least.1.0) in
    let low =
    All-weaker (λ m. Contains langs m × MatchesLang s i m)
    (λ m. Open items langs (pieces m) → ¬ Ascends m x)
    (λ m g o. All-contains (λ l. Fits s items i l → ¬ Ascends l x) langs m least.2 g.0
    (g.1, o.1)) matched (each_matched s langs i matched h) in
    first_append (Open items langs) (candidates_of i) (map pieces matched) (Some (pieces x)) n
    (least_first (Open items langs) matched x c (open_lang items langs x least.0 least.1.1)
    h.ascending
    low)

-- ---- texts below others

-- And the other way round.
pub less_lt : (o : Ordering) → o ≡ Less → is_lt o ≡ true
less_lt o e = ap is_lt e

-- ---- the walk over the keys

-- the widened candidates of items, joined
abbrev pub all_widened : (Item → List (List ℕ)) → List Item → List (List (List ℕ))
all_widened m items = flat_map (λ i. widened i (m i)) items

-- what is found at a place is the first of the item there, if there is one
pub at_place : (s : Scheme) (items : List Item) (langs : List (List ℕ)) (place : ℕ)
    (found : Option (List (List ℕ))) (o : Option Item)
    → slice_get items place ≡ o → IsFirstWidenedAt s items langs place found
    → MatchFirstOf (Open items langs) (all_widened (matched_of s langs) (cons_option o [])) found
at_place s items langs place found None e h =
    let none : found ≡ None = rw e at h in
    subst (MatchFirstOf (Open items langs) []) (sym none) (All-nil (λ y. ¬ Open items langs y))
at_place s items langs place found (Some i) e h =
    let first : IsFirstWidened s items langs i found = rw e at h in
    subst (λ (xs : List (List (List ℕ))). MatchFirstOf (Open items langs) xs found)
    (sym (append-nil (widened i (matched_of s langs i))))
    (first (matched_of s langs i) (matched_are s langs i))

-- the widened candidates of an item, if there is one, and those of the others
pub of_option : (m : Item → List (List ℕ)) (o : Option Item) (rest : List Item)
    → all_widened m (cons_option o rest) ≡ all_widened m (cons_option o []) ++ all_widened m rest
of_option m None rest = refl
of_option m (Some i) rest =
    ap (λ (x : List (List (List ℕ))). x ++ all_widened m rest) (sym (append-nil (widened i (m i))))

first_key : (m : Item → List (List ℕ)) (items : List Item) (keys : List OrderKey) (k : ℕ)
    (d : OrderKey)
    → k < length keys
    → all_widened m (ordered_items items (drop k keys))
    ≡ all_widened m (cons_option (slice_get items (get_or keys k d).place) [])
    ++ all_widened m (ordered_items items (drop (k + 1) keys))
first_key m items keys k d low =
    ap (λ (x : List OrderKey). all_widened m (ordered_items items x))
    (element_at keys k (get_or keys k d) low (same_default keys k d (get_or keys k d) low))
    ∙ of_option m (slice_get items (get_or keys k d).place)
    (ordered_items items (drop (k + 1) keys))

-- the first that is open of the keys from a place on
abbrev pub WidenedFrom : Scheme → List Item → List (List ℕ) → List OrderKey → ℕ
    → Option (List (List ℕ)) → Type 0
WidenedFrom s items langs keys k found =
    MatchFirstOf (Open items langs)
    (all_widened (matched_of s langs) (ordered_items items (drop k keys))) found

-- what the next item finds is found from here on
pub key_found : (s : Scheme) (items : List Item) (langs : List (List ℕ)) (keys : List OrderKey)
    (k : ℕ) (d : OrderKey) (text : List (List ℕ))
    → k < length keys → IsFirstWidenedAt s items langs (get_or keys k d).place (Some text)
    → WidenedFrom s items langs keys k (Some text)
key_found s items langs keys k d text low f =
    let place = (get_or keys k d).place in
    let m = matched_of s langs in
    subst (λ (x : List (List (List ℕ))). MatchFirstOf (Open items langs) x (Some text))
    (sym (first_key m items keys k d low))
    (first_front (Open items langs) (all_widened m (cons_option (slice_get items place) []))
    (all_widened m (ordered_items items (drop (k + 1) keys))) text
    (at_place s items langs place (Some text) (slice_get items place) refl f))

-- Where the next item finds nothing, what is found after it is found from here on.
pub key_passed : (s : Scheme) (items : List Item) (langs : List (List ℕ)) (keys : List OrderKey)
    (k : ℕ) (d : OrderKey) (found : Option (List (List ℕ)))
    → k < length keys → IsFirstWidenedAt s items langs (get_or keys k d).place None
    → WidenedFrom s items langs keys (k + 1) found → WidenedFrom s items langs keys k found
key_passed s items langs keys k d found low n f =
    let place = (get_or keys k d).place in
    let m = matched_of s langs in
    subst (λ (x : List (List (List ℕ))). MatchFirstOf (Open items langs) x found)
    (sym (first_key m items keys k d low))
    (first_append (Open items langs) (all_widened m (cons_option (slice_get items place) []))
    (all_widened m (ordered_items items (drop (k + 1) keys))) found
    (at_place s items langs place None (slice_get items place) refl n) f)

-- After the last item nothing is found.
pub keys_over : (s : Scheme) (items : List Item) (langs : List (List ℕ)) (keys : List OrderKey)
    (k : ℕ)
    → length keys ≤ k → WidenedFrom s items langs keys k None
keys_over s items langs keys k h =
    subst (λ (x : List OrderKey). MatchFirstOf (Open items langs)
    (all_widened (matched_of s langs) (ordered_items items x)) None) (sym (drop_all k keys h))
    (All-nil (λ y. ¬ Open items langs y))

-- what is found from the first item on is the answer of widened lookup
pub looked_up : (s : Scheme) (items : List Item) (langs : List (List ℕ)) (keys : List OrderKey)
    (found : Option (List (List ℕ)))
    → AreOrderKeys items keys → WidenedFrom s items langs keys 0 found
    → IsLookedUpWidened s items langs found
looked_up s items langs keys found t f =
    record {
      ordered = ordered_items items keys;
      order_ok =
          record { keys = keys; keys_ok = t; items_are = refl };
      matched =
          matched_of s langs;
      matched_ok = matched_are s langs;
      found_is = f;
    }

-- what is found is there
pub found_there : (s : Scheme) (items : List Item) (langs : List (List ℕ)) (text : List ℕ)
    → IsLookedUpWidened s items langs (Some (pieces text)) → is_among langs text ≡ true
found_there s items langs text l =
    ap (is_among langs) (sym (joined-pieces text)) ∙ l.found_is.passes.0

-- ---- places

abbrev Spells : List ℕ → List ℕ → Bool
Spells text l = bytes_eq l text

-- none of the languages before a place has the text
abbrev pub SoFar : List (List ℕ) → List ℕ → ℕ → Type 0
SoFar langs text k =
    position_or_len (Spells text) langs ≡ k + position_or_len (Spells text) (drop k langs)

-- a language of another text is not the one that is sought
pub place_passed : (langs : List (List ℕ)) (text : List ℕ) (k : ℕ) (x : List ℕ) → k < length langs
    → x ≡ get_or langs k x → SoFar langs text k → bytes_eq x text ≡ false → SoFar langs text (k + 1)
place_passed langs text k x low e so n =
    let one : position_or_len (Spells text) (drop k langs)
    ≡ 1 + position_or_len (Spells text) (drop (k + 1) langs) =
    rw (element_at langs k x low e, n) refl in
    omega arith

-- the first language of the text is at its least place
pub place_here : (langs : List (List ℕ)) (text : List ℕ) (k : ℕ) (x : List ℕ) → k < length langs
    → x ≡ get_or langs k x → SoFar langs text k → bytes_eq x text ≡ true
    → Some k ≡ least_place langs text
place_here langs text k x low e so h =
    let one : position_or_len (Spells text) (drop k langs) ≡ 0 =
    rw (element_at langs k x low e, h) refl in
    let at : position_or_len (Spells text) langs ≡ k = omega arith in
    rw (at, lt-ltb k (length langs) low) refl

one_more : (m n : ℕ) (b : Bool) → b ≡ nat_lt m n → b ≡ nat_lt (1 + m) (suc n)
one_more m n true e = sym (lt-ltb (1 + m) (suc n) (let low = ltb-true m n (sym e) in omega arith))
one_more m n false e = let high = ltb-false m n (sym e) in
    sym (le-ltb (1 + m) (suc n) (omega arith))

place_or_none : (langs : List (List ℕ)) (text : List ℕ)
    → list_any (Spells text) langs ≡ nat_lt (position_or_len (Spells text) langs) (length langs)
place_or_none [] text = refl
place_or_none (l ∷ langs) text = elim (cases_Bool (bytes_eq l text)) [
  | inl e ↦ rw e (sym (lt-ltb 0 (suc (length langs)) (omega arith)))
  | inr e ↦
      rw e (one_more (position_or_len (Spells text) langs) (length langs)
      (list_any (Spells text) langs) (place_or_none langs text))
]

some_place : (b : Bool) (n : ℕ) → is_some (cond b (Some n) None) ≡ b
some_place true n = refl
some_place false n = refl

-- a text has a place just where it is among the languages
pub has_place : (langs : List (List ℕ)) (text : List ℕ) (r : Option ℕ) → r ≡ least_place langs text
    → is_some r ≡ is_among langs text
has_place langs text r e =
    ap is_some e
    ∙ (some_place (nat_lt (position_or_len (Spells text) langs) (length langs))
    (position_or_len (Spells text) langs) ∙ sym (place_or_none langs text))

-- ---- laws

same_widened : (m n : Item → List (List ℕ)) → ((i : Item) → m i ≡ n i) → (items : List Item)
    → all_widened m items ≡ all_widened n items
same_widened m n e [] = refl
same_widened m n e (i ∷ items) =
    ap (λ (x : List (List ℕ)). widened i x ++ all_widened m items) (e i)
    ∙ ap (λ (x : List (List (List ℕ))). widened i (n i) ++ x) (same_widened m n e items)

-- widened lookup has one answer
pub one_widened : (s : Scheme) (items : List Item) (langs : List (List ℕ))
    (a b : Option (List (List ℕ)))
    → IsLookedUpWidened s items langs a → IsLookedUpWidened s items langs b → a ≡ b
one_widened s items langs a b f g =
    let same = one_order_of items f.ordered g.ordered f.order_ok g.order_ok in
    let alike =
    same_widened f.matched g.matched
    (λ i. one_matched s langs i (f.matched i) (g.matched i) (f.matched_ok i) (g.matched_ok i))
    g.ordered in
    let here : MatchFirstOf (Open items langs) (all_widened f.matched g.ordered) a =
    subst (λ (x : List Item). MatchFirstOf (Open items langs) (all_widened f.matched x) a) same
    f.found_is in
    one_first (Open items langs) (all_widened g.matched g.ordered) a b
    (subst (λ (x : List (List (List ℕ))). MatchFirstOf (Open items langs) x a) alike here)
    g.found_is

none_narrow : (P : List (List ℕ) → Type 0) (m : Item → List (List ℕ)) (items : List Item)
    → All P (all_widened m items) → All P (all_candidates items)
none_narrow P m [] h = h
none_narrow P m (i ∷ items) h =
    All-append P (candidates_of i) (all_candidates items)
    (none_front P (candidates_of i) (map pieces (m i))
    (none_front P (widened i (m i)) (all_widened m items) h))
    (none_narrow P m items (none_back P (widened i (m i)) (all_widened m items) h))

-- where widened lookup finds nothing, lookup finds nothing
pub nothing_narrow : (s : Scheme) (items : List Item) (langs : List (List ℕ))
    → IsLookedUpWidened s items langs None → IsLookedUp items (is_among langs) None
nothing_narrow s items langs l =
    record {
      ordered = l.ordered;
      order_ok = l.order_ok;
      found_is =
          none_narrow (λ y. ¬ Open items langs y) l.matched l.ordered l.found_is;
    }

-- what is found is among the languages, and not refused
pub found_among : (s : Scheme) (items : List Item) (langs : List (List ℕ)) (found : List (List ℕ))
    → IsLookedUpWidened s items langs (Some found)
    → Contains langs (joined found) × ¬ NamedRefuse items found
found_among s items langs found l =
    (among_contains langs (joined found) l.found_is.passes.0, l.found_is.passes.1)

-- and is a candidate of an item, or matched by one
abbrev pub IsOfItem : Scheme → List (List ℕ) → Item → Type 0
IsOfItem s found i = Contains (candidates_of i) found ⊎ MatchesLang s i (joined found)

of_one : (s : Scheme) (langs : List (List ℕ)) (P : Item → Type 0) (m : Item → List (List ℕ))
    → ((i : Item) → AreMatched s langs i (m i)) → (items : List Item) (text : List (List ℕ))
    → All P items → Contains (all_widened m items) text → (i : Item) × P i × IsOfItem s text i
of_one s langs P m ok [] text all c = absurd (let low = c.1 in omega arith)
of_one s langs P m ok (i ∷ items) text all c =
    elim (Contains-append_cases (widened i (m i)) (all_widened m items) text c) [
      | inl here ↦ elim (Contains-append_cases (candidates_of i) (map pieces (m i)) text here) [
        | inl candidate ↦ (i, All-head P i items all, inl candidate)
        | inr match ↦ (
            let lang = contains_from_map pieces (m i) text match in (
              i,
              All-head P i items all,
              inr
                  (subst (MatchesLang s i) (sym (joined-pieces lang.0) ∙ ap joined lang.2)
                  (((ok i).each lang.0).0 lang.1).1),
            ))
      ]
      | inr later ↦ of_one s langs P m ok items text (All-tail P i items all) later
    ]

-- what is found is a candidate of an item that is tried, or matched by it
pub found_of_item : (s : Scheme) (items : List Item) (langs : List (List ℕ)) (found : List (List ℕ))
    → IsLookedUpWidened s items langs (Some found)
    → (i : Item) × Contains items i × IsTrue (is_tried i) × IsOfItem s found i
found_of_item s items langs found l =
    let c = first_among (Open items langs) (all_widened l.matched l.ordered) found l.found_is in
    let one =
    of_one s langs (IsTriedOf items) l.matched l.matched_ok l.ordered found
    (each_tried items l.ordered l.order_ok) c in
    (one.0, one.1.0, one.1.1, one.2)

-- a candidate of the first item that lookup finds is what widened lookup finds
pub first_kept : (s : Scheme) (items : List Item) (langs : List (List ℕ)) (first : Item)
    (rest : List Item) (found : List (List ℕ))
    → IsOrder items (first ∷ rest) → IsLookedUp items (is_among langs) (Some found)
    → Contains (candidates_of first) found → IsLookedUpWidened s items langs (Some found)
first_kept s items langs first rest found o l c =
    let m = matched_of s langs in
    let P = Open items langs in
    let whole : MatchFirstOf P (candidates_of first ++ all_candidates rest) (Some found) =
    subst (λ (x : List Item). MatchFirstOf P (all_candidates x) (Some found))
    (one_order_of items l.ordered (first ∷ rest) l.order_ok o) l.found_is in
    let here : MatchFirstOf P (candidates_of first) (Some found) =
    elim (first_split P (candidates_of first) (all_candidates rest) found whole) [
      | inl f ↦ f
      | inr f ↦
          absurd (All-contains (λ y. ¬ P y) (candidates_of first) found f.0 c l.found_is.passes)
    ] in
    record {
      ordered = first ∷ rest;
      order_ok = o;
      matched = m;
      matched_ok =
          matched_are s langs;
      found_is =
          first_front P (widened first (m first)) (all_widened m rest) found
          (first_front P (candidates_of first) (map pieces (m first)) found here);
    }

-- ---- where what an item matches is among its candidates

-- each language that the item matches is among its candidates
abbrev pub AddsNone : Scheme → List (List ℕ) → Item → Type 0
AddsNone s langs i =
    (lang : List ℕ) → Contains langs lang → MatchesLang s i lang
    → Contains (candidates_of i) (pieces lang)

abbrev Covers : (Item → List (List ℕ)) → Item → Type 0
Covers m i = All (λ y. Contains (candidates_of i) y) (map pieces (m i))

covered : (s : Scheme) (langs : List (List ℕ)) (i : Item) (matched : List (List ℕ))
    → AddsNone s langs i → All (λ l. Contains langs l × MatchesLang s i l) matched
    → All (λ y. Contains (candidates_of i) y) (map pieces matched)
covered s langs i [] h all = All-nil (λ y. Contains (candidates_of i) y)
covered s langs i (l ∷ matched) h all =
    let here = All-head (λ l. Contains langs l × MatchesLang s i l) l matched all in
    All-cons (λ y. Contains (candidates_of i) y) (pieces l) (map pieces matched) (h l here.0 here.1)
    (covered s langs i matched h
    (All-tail (λ l. Contains langs l × MatchesLang s i l) l matched all))

none_wide : (P : List (List ℕ) → Type 0) (m : Item → List (List ℕ)) (i : Item) → Covers m i
    → MatchFirstOf P (candidates_of i) None → MatchFirstOf P (widened i (m i)) None
none_wide P m i c n =
    All-append (λ y. ¬ P y) (candidates_of i) (map pieces (m i)) n
    (All-weaker (Contains (candidates_of i)) (λ y. ¬ P y)
    (λ y d. All-contains (λ z. ¬ P z) (candidates_of i) y n d) (map pieces (m i)) c)

first_wide : (P : List (List ℕ) → Type 0) (m : Item → List (List ℕ)) (items : List Item)
    (found : Option (List (List ℕ)))
    → All (Covers m) items → MatchFirstOf P (all_candidates items) found
    → MatchFirstOf P (all_widened m items) found
first_wide P m [] found c f = f
first_wide P m (i ∷ items) None c f =
    All-append (λ y. ¬ P y) (widened i (m i)) (all_widened m items)
    (none_wide P m i (All-head (Covers m) i items c)
    (none_front (λ y. ¬ P y) (candidates_of i) (all_candidates items) f))
    (first_wide P m items None (All-tail (Covers m) i items c)
    (none_back (λ y. ¬ P y) (candidates_of i) (all_candidates items) f))
first_wide P m (i ∷ items) (Some x) c f =
    elim (first_split P (candidates_of i) (all_candidates items) x f) [
      | inl here ↦
          first_front P (widened i (m i)) (all_widened m items) x
          (first_front P (candidates_of i) (map pieces (m i)) x here)
      | inr later ↦
          first_append P (widened i (m i)) (all_widened m items) (Some x)
          (none_wide P m i (All-head (Covers m) i items c) later.0)
          (first_wide P m items (Some x) (All-tail (Covers m) i items c) later.1)
    ]

first_narrow : (P : List (List ℕ) → Type 0) (m : Item → List (List ℕ)) (items : List Item)
    (x : List (List ℕ))
    → All (Covers m) items → MatchFirstOf P (all_widened m items) (Some x)
    → MatchFirstOf P (all_candidates items) (Some x)
first_narrow P m [] x c f = f
first_narrow P m (i ∷ items) x c f =
    elim (first_split P (widened i (m i)) (all_widened m items) x f) [
      | inl here ↦ elim (first_split P (candidates_of i) (map pieces (m i)) x here) [
        | inl candidate ↦ first_front P (candidates_of i) (all_candidates items) x candidate
        | inr match ↦
            absurd
            (All-contains (λ z. ¬ P z) (candidates_of i) x match.0
            (All-contains (Contains (candidates_of i)) (map pieces (m i)) x
            (All-head (Covers m) i items c) (first_among P (map pieces (m i)) x match.1))
            match.1.passes)
      ]
      | inr later ↦
          first_append P (candidates_of i) (all_candidates items) (Some x)
          (none_front (λ y. ¬ P y) (candidates_of i) (map pieces (m i)) later.0)
          (first_narrow P m items x (All-tail (Covers m) i items c) later.1)
    ]

all_covered : (s : Scheme) (items ordered : List Item) (langs : List (List ℕ))
    (m : Item → List (List ℕ))
    → ((i : Item) → AreMatched s langs i (m i)) → IsOrder items ordered
    → ((i : Item) → Contains items i → IsTrue (is_tried i) → AddsNone s langs i)
    → All (Covers m) ordered
all_covered s items ordered langs m ok o h =
    All-weaker (IsTriedOf items) (Covers m)
    (λ i t. covered s langs i (m i) (h i t.0 t.1) (each_matched s langs i (m i) (ok i))) ordered
    (each_tried items ordered o)

-- lookup finds what widened lookup finds
pub same_narrow : (s : Scheme) (items : List Item) (langs : List (List ℕ))
    (found : Option (List (List ℕ)))
    → ((i : Item) → Contains items i → IsTrue (is_tried i) → AddsNone s langs i)
    → IsLookedUpWidened s items langs found
    → IsLookedUp items (is_among langs) found
same_narrow s items langs None h l = nothing_narrow s items langs l
same_narrow s items langs (Some x) h l =
    record {
      ordered = l.ordered;
      order_ok = l.order_ok;
      found_is =
          first_narrow (Open items langs) l.matched l.ordered x
          (all_covered s items l.ordered langs l.matched l.matched_ok l.order_ok h) l.found_is;
    }

-- and the other way round
pub same_wide : (s : Scheme) (items : List Item) (langs : List (List ℕ))
    (found : Option (List (List ℕ)))
    → ((i : Item) → Contains items i → IsTrue (is_tried i) → AddsNone s langs i)
    → IsLookedUp items (is_among langs) found
    → IsLookedUpWidened s items langs found
same_wide s items langs found h l =
    record {
      ordered = l.ordered;
      order_ok = l.order_ok;
      matched = matched_of s langs;
      matched_ok =
          matched_are s langs;
      found_is =
          first_wide (Open items langs) (matched_of s langs) l.ordered found
          (all_covered s items l.ordered langs (matched_of s langs) (matched_are s langs) l.order_ok
          h)
          l.found_is;
    }
