-- How languages are ranked by a priority list.
--
-- All candidates of all keys, widened or not, are one long list, and a lookup over some languages
-- finds the first of it that is among them. Each language is ranked where it comes first in that
-- list. So the ranked languages, searched for the first that is one of a message's, give what the
-- whole list gives. `IsRankingTo` is the invariant of the walk over the keys: the languages ranked
-- so far and what is still to come find what all keys find, and each language is ranked or still
-- left. What an item matches by widening comes in ascending order of its bytes.
use Rattle.std.proofs.Common.{ℕ, ◌≡◌, ◌+◌, ◌≤◌, ◌<◌, ◌⊎◌, List, [], ◌∷◌, ◌++◌, Option, Some, None}
use Rattle.std.proofs.Common.{inl, inr, refl, sym, ◌∙◌, ap, subst, append-nil, append_assoc, arith}
use Rattle.std.proofs.Common.{true, false, drop, get_or, length, take}
use Rattle.std.specs.Prelude.{All, Contains, IsPermutation, IsSorted, map, nat_lt, option_map}
use Rattle.std.specs.Borrow.{Bor}
use Rattle.std.specs.List.{cons_option, slice_get}
use Rattle.std.specs.Cmp.{IsTotalOrder, nat_cmp_is}
use Rattle.std.specs.declared.cmp.Ordering.TheVariants.{Equal}
use Rattle.std.specs.Cmp.Lexicographic.{slice_cmp}
use Rattle.std.specs.Ordering.{is_lt, nat_cmp}
use Rattle.std.proofs.lemmas.Bool.{cases_lt, ltb-true}
use Rattle.std.proofs.lemmas.Bool.Decides.{nat_tests}
use Rattle.std.proofs.lemmas.Cmp.{nat_cmp_total, nat_list_cmp_total, on_total, then_total}
use Rattle.std.proofs.lemmas.List.{drop_all, length-append, map-append}
use Rattle.std.proofs.lemmas.List.Elements.{All-contains, All-contains_itself, All-cons, All-head}
use Rattle.std.proofs.lemmas.List.Elements.{All-nil, All-push, All-tail, All-weaker}
use Rattle.std.proofs.lemmas.List.Elements.{Contains-append_cases, Contains-append_left}
use Rattle.std.proofs.lemmas.List.Elements.{Contains-push}
use Rattle.std.proofs.lemmas.List.Sorted.{All-permutation, Contains-permutation, ranks_by}
use Rattle.std.proofs.lemmas.List.Sorted.{sorted_far}
use Rattle.lang_core.specs.Text.{pieces, joined}
use Rattle.list_core.proofs.Basics.{contains_cases, contains_map, element_at, false_true}
use Rattle.list_core.proofs.Basics.{same_default, stands_at}
use Rattle.nego_core.proofs.WideningEarliestLemmas.{matched_item}
use Rattle.nego_core.proofs.FilteringKeys.{take_next}
use Rattle.list_core.proofs.FirstTriedLemmas.{tried_at}
use Rattle.nego_core.proofs.LangSetLemmas.{among_contains, contains_among}
use Rattle.nego_core.proofs.ChoosingCandidatesLemmas.{first_append, first_front, ordered_items}
use Rattle.nego_core.proofs.ChoosingCandidatesLemmas.{looked_up as looked_up_off}
use Rattle.lang_core.proofs.PiecesLemmas.{joined-pieces}
use Rattle.nego_core.proofs.WideningLemmas.{Fits, Open, all_widened, first_among, first_split}
use Rattle.nego_core.proofs.WideningLemmas.{matched_are, matched_of, none_back, none_front}
use Rattle.nego_core.proofs.WideningLemmas.{least_first, less_lt, looked_up as looked_up_by}
use Rattle.nego_core.specs.Filtering.{texts_of}
use Rattle.list_core.specs.Item.{Item}
use Rattle.nego_core.specs.LangSet.{is_among}
use Rattle.nego_core.specs.Choosing.{MatchFirstOf, all_candidates}
use Rattle.list_core.specs.Candidates.{candidates_of}
use Rattle.list_core.specs.Deciding.{NamedRefuse}
use Rattle.list_core.specs.FirstTried.{item_tried}
use Rattle.list_core.specs.LookupOrder.{AreOrderKeys}
use Rattle.nego_core.specs.Shortlist.{AreAmong, IsLookedUpBy, IsOneOf, IsRanking}
use Rattle.nego_core.specs.inner.Shortlist.{AreMatchedBy, AreMatchedLangs, matched_cmp}
use Rattle.nego_core.specs.inner.Unranked.{Spells, TakesFrom}
use Rattle.nego_core.specs.WidenedChoice.{IsTriedAt}
use Rattle.nego_core.specs.inner.WidenedChoice.{IsTriedFirst}
use Rattle.nego_core.specs.Widening.{Ascends}
use Rattle.list_core.specs.declared.lookup_order.OrderKey.{OrderKey}
use Rattle.list_core.specs.declared.scheme.Scheme.{Scheme}
use Rattle.nego_core.specs.declared.shortlist.MatchedLang.{MatchedLang}
use Rattle.nego_core.specs.declared.widening.Widening.{Widening}
use Rattle.nego_core.specs.declared.widening.Widening.TheVariants.{Off, By}

-- languages, each as its subtags
abbrev pub Pieces : Type 0
Pieces = List (List (List ℕ))

-- ---- what the items of keys try

-- the languages that an item matches, where it is widened
abbrev pub matched_by : Widening → List (List ℕ) → Item → List (List ℕ)
matched_by Off langs i = []
matched_by (By s) langs i = matched_of s langs i

-- the candidates of the items of the keys, widened or not
abbrev pub tried : Widening → List Item → List (List ℕ) → List OrderKey → Pieces
tried w items langs keys = all_widened (matched_by w langs) (ordered_items items keys)

-- the first of them that is open
abbrev pub Tries : Widening → List Item → List (List ℕ) → List OrderKey → Option (List (List ℕ))
    → Type 0
Tries w items langs keys found = MatchFirstOf (Open items langs) (tried w items langs keys) found

-- without widening they are those of lookup
unwidened : (xs : List Item) → all_widened (λ _. []) xs ≡ all_candidates xs
unwidened [] = refl
unwidened (i ∷ xs) =
    ap (λ (x : Pieces). x ++ all_widened (λ _. []) xs) (append-nil (candidates_of i))
    ∙ ap (λ (x : Pieces). candidates_of i ++ x) (unwidened xs)

-- what all items find lookup finds
all_tried : (w : Widening) (items : List Item) (langs : List (List ℕ)) (keys : List OrderKey)
    (found : Option (List (List ℕ))) → AreOrderKeys items keys → Tries w items langs keys found
    → IsLookedUpBy w items langs found
all_tried Off items langs keys found t f =
    looked_up_off items (is_among langs) keys found t
    (subst (λ (x : Pieces). MatchFirstOf (Open items langs) x found)
    (unwidened (ordered_items items keys)) f)
all_tried (By s) items langs keys found t f = looked_up_by s items langs keys found t f

-- the candidates of an item, if there is one
abbrev pub own_of : Option Item → Pieces
own_of None = []
own_of (Some i) = candidates_of i

-- the languages that it matches
abbrev pub matched_at : Widening → Option Item → List (List ℕ) → Pieces
matched_at w None langs = []
matched_at w (Some i) langs = map pieces (matched_by w langs i)

-- A key tries the candidates of its item, and then the languages that it matches.
pub key_tries : (w : Widening) (items : List Item) (langs : List (List ℕ)) (k : OrderKey)
    (keys : List OrderKey)
    → tried w items langs (k ∷ keys)
    ≡ own_of (slice_get items k.place) ++ (matched_at w (slice_get items k.place) langs
    ++ tried w items langs keys)
key_tries w items langs k keys = at (slice_get items k.place) where
  m : Item → List (List ℕ)
  m = matched_by w langs

  rest : List Item
  rest = ordered_items items keys

  at : (o : Option Item) → all_widened m (cons_option o rest)
      ≡ own_of o ++ (matched_at w o langs ++ all_widened m rest)
  at None = refl
  at (Some i) = append_assoc (candidates_of i) (map pieces (m i)) (all_widened m rest)

-- ---- fewer languages

-- a candidate that is open among some languages is open among more
wider : (items : List Item) (some langs : List (List ℕ)) (y : List (List ℕ))
    → AreAmong some langs → Open items some y → Open items langs y
wider items some langs y all o =
    let there = All-contains (Contains langs) some (joined y) all
    (among_contains some (joined y) o.0) in
    (contains_among langs (joined y) there, o.1)

-- ---- languages that are ranked

-- a part that finds nothing where the part before it finds nothing can be left out
left_out : (P : List (List ℕ) → Type 0) (a b c : Pieces) (found : Option (List (List ℕ)))
    → (MatchFirstOf P a None → MatchFirstOf P b None) → MatchFirstOf P (a ++ c) found
    → MatchFirstOf P (a ++ (b ++ c)) found
left_out P a b c None h f =
    let none = none_front (λ y. ¬ P y) a c f in
    let rest = first_append P b c None (h none) (none_back (λ y. ¬ P y) a c f) in
    first_append P a (b ++ c) None none rest
left_out P a b c (Some x) h f = elim (first_split P a c x f) [
  | inl here ↦ first_front P a (b ++ c) x here
  | inr later ↦
      let rest = first_append P b c (Some x) (h later.0) later.1 in
      first_append P a (b ++ c) (Some x) later.0 rest
]

-- a part that is put in where it is found all the same changes nothing
put_in : (P : List (List ℕ) → Type 0) (a c : Pieces) (y : List (List ℕ))
    (found : Option (List (List ℕ)))
    → (MatchFirstOf P a None → P y → MatchFirstOf P c (Some y))
    → MatchFirstOf P ((a ++ y ∷ []) ++ c) found → MatchFirstOf P (a ++ c) found
put_in P a c y None h f =
    let both = none_front (λ z. ¬ P z) (a ++ y ∷ []) c f in
    first_append P a c None (none_front (λ z. ¬ P z) a (y ∷ []) both)
    (none_back (λ z. ¬ P z) (a ++ y ∷ []) c f)
put_in P a c y (Some z) h f = elim (first_split P (a ++ y ∷ []) c z f) [
  | inl here ↦ elim (first_split P a (y ∷ []) z here) [
    | inl front ↦ first_front P a c z front
    | inr own ↦
        let same = the_same (first_among P (y ∷ []) z own.1) in
        let next = h own.0 (subst P (sym same) own.1.passes) in
        first_append P a c (Some z) own.0
        (subst (λ (x : List (List ℕ)). MatchFirstOf P c (Some x)) same next)
  ]
  | inr later ↦ first_append P a c (Some z) (none_front (λ x. ¬ P x) a (y ∷ []) later.0) later.1
] where
  the_same : Contains (y ∷ []) z → y ≡ z
  the_same d = elim (contains_cases y z [] d) [
    | inl e ↦ e
    | inr none ↦ absurd (let low = none.1 in omega arith)
  ]

all_pieces : (P : List (List ℕ) → Type 0) (xs : List (List ℕ)) → All (λ l. P (pieces l)) xs
    → All P (map pieces xs)
all_pieces P [] h = All-nil P
all_pieces P (x ∷ xs) h = All-cons P (pieces x) (map pieces xs)
    (All-head (λ l. P (pieces l)) x xs h) (all_pieces P xs (All-tail (λ l. P (pieces l)) x xs h))

none_open : (items : List Item) (some xs : List (List ℕ)) → All (λ l. ¬ IsOneOf some l) xs
    → All (λ y. ¬ Open items some y) (map pieces xs)
none_open items some xs none = all_pieces (λ y. ¬ Open items some y) xs
    (All-weaker (λ l. ¬ IsOneOf some l) (λ l. ¬ Open items some (pieces l))
    (λ l n o. n (ap (is_among some) (sym (joined-pieces l)) ∙ o.0)) xs none)

-- the first of the ranked that is one of some languages is the first that is open among them
first_open : (items : List Item) (some ranked : List (List ℕ)) (found : Option (List ℕ))
    → All (λ lang. ¬ NamedRefuse items (pieces lang)) ranked
    → MatchFirstOf (IsOneOf some) ranked found
    → MatchFirstOf (Open items some) (map pieces ranked) (option_map pieces found)
first_open items some ranked None free none = none_open items some ranked none
first_open items some ranked (Some lang) free f = record {
  before = map pieces f.before;
  after = map pieces f.after;
  whole = ap (map pieces) f.whole ∙ map-append pieces f.before (lang ∷ f.after);
  none_before = none_open items some f.before f.none_before;
  passes = (
    ap (is_among some) (joined-pieces lang) ∙ f.passes,
    All-contains (λ l. ¬ NamedRefuse items (pieces l)) ranked lang free
        (first_among (IsOneOf some) ranked lang f),
  );
}

-- So far the languages that are ranked and what is still to come are what all keys try, and each
-- language is ranked or still left.
pub record IsRankingTo (w : Widening) (items : List Item) (langs left : List (List ℕ))
    (keys : List OrderKey) (ranked : List (List ℕ)) (rest : List (List ℕ) → Pieces) : Type 0 where
  pub few : length ranked + length left ≤ length langs
  pub finds : (some : List (List ℕ)) (found : Option (List (List ℕ))) → AreAmong some langs
      → MatchFirstOf (Open items some) (map pieces ranked ++ rest some) found
      → Tries w items some keys found
  pub each : (lang : List ℕ) → Contains langs lang → Contains left lang ⊎ Contains ranked lang
  pub inside : (lang : List ℕ) → Contains left lang → Contains langs lang
  pub free : All (λ lang. ¬ NamedRefuse items (pieces lang)) ranked

-- At first none is ranked.
pub rank_begins : (w : Widening) (items : List Item) (langs left : List (List ℕ))
    (keys : List OrderKey) → Spells langs left
    → IsRankingTo w items langs left keys [] (λ some. tried w items some keys)
rank_begins w items langs left keys h = record {
  few = (let few = h.few in omega arith);
  finds = λ some found a f. f;
  each = λ l c. inl (h.each l c);
  inside = h.only;
  free = All-nil (λ lang. ¬ NamedRefuse items (pieces lang));
}

-- What is to come may be said in another way.
pub rest_is : (w : Widening) (items : List Item) (langs left : List (List ℕ))
    (keys : List OrderKey) (ranked : List (List ℕ)) (rest other : List (List ℕ) → Pieces)
    → ((some : List (List ℕ)) → other some ≡ rest some)
    → IsRankingTo w items langs left keys ranked rest
    → IsRankingTo w items langs left keys ranked other
rest_is w items langs left keys ranked rest other e h = record {
  few = h.few;
  finds = λ some found a f. h.finds some found a
      (subst (λ (x : Pieces). MatchFirstOf (Open items some) (map pieces ranked ++ x) found) (e
      some)
      f);
  each = h.each;
  inside = h.inside;
  free = h.free;
}

-- where none that is ranked is among some languages, these are left
all_left : (w : Widening) (items : List Item) (langs left : List (List ℕ))
    (keys : List OrderKey) (ranked : List (List ℕ)) (rest : List (List ℕ) → Pieces)
    (some : List (List ℕ)) → IsRankingTo w items langs left keys ranked rest
    → AreAmong some langs → MatchFirstOf (Open items some) (map pieces ranked) None
    → AreAmong some left
all_left w items langs left keys ranked rest some h a none =
    All-weaker (Contains some) (Contains left)
    (λ l c. elim (h.each l (All-contains (Contains langs) some l a c)) [
      | inl there ↦ there
      | inr before ↦
          let here = ap (is_among some) (joined-pieces l) ∙ contains_among some l c in
          let free = All-contains (λ lang. ¬ NamedRefuse items (pieces lang)) ranked l h.free
          before in
          absurd (All-contains (λ y. ¬ Open items some y) (map pieces ranked) (pieces l) none
          (contains_map pieces ranked l before) (here, free))
    ]) some (All-contains_itself some)

-- A candidate that is not open among the languages that are left is passed.
pub rank_passed : (w : Widening) (items : List Item) (langs left : List (List ℕ))
    (keys : List OrderKey) (ranked : List (List ℕ)) (y : List (List ℕ))
    (rest : List (List ℕ) → Pieces) → ¬ Open items left y
    → IsRankingTo w items langs left keys ranked (λ some. y ∷ rest some)
    → IsRankingTo w items langs left keys ranked rest
rank_passed w items langs left keys ranked y rest closed h = record {
  few = h.few;
  finds = λ some found a f. h.finds some found a
      (left_out (Open items some) (map pieces ranked) (y ∷ []) (rest some) found
      (λ none. All-cons (λ z. ¬ Open items some z) y [] (λ o. closed
      (wider items some left y
      (all_left w items langs left keys ranked (λ some. y ∷ rest some) some h a none) o))
      (All-nil (λ z. ¬ Open items some z))) f);
  each = h.each;
  inside = h.inside;
  free = h.free;
}

-- the languages that are left when one is taken and ranked
each_of : (langs left less ranked : List (List ℕ)) (text lang : List ℕ)
    → TakesFrom left text less (Some lang)
    → ((l : List ℕ) → Contains langs l → Contains left l ⊎ Contains ranked l)
    → (l : List ℕ) → Contains langs l → Contains less l ⊎ Contains (ranked ++ lang ∷ []) l
each_of langs left less ranked text lang t h l c = elim (h l c) [
  | inl there ↦ elim (t.4 l there) [
    | inl same ↦
        inr (subst (Contains (ranked ++ lang ∷ [])) (t.0 ∙ same) (Contains-push ranked lang))
    | inr still ↦ inl still
  ]
  | inr before ↦ inr (Contains-append_left ranked (lang ∷ []) l before)
]

-- A candidate that is open is ranked.
pub rank_taken : (w : Widening) (items : List Item) (langs left less : List (List ℕ))
    (keys : List OrderKey) (ranked : List (List ℕ)) (text lang : List ℕ)
    (rest : List (List ℕ) → Pieces) → Open items left (pieces text)
    → TakesFrom left text less (Some lang)
    → IsRankingTo w items langs left keys ranked (λ some. pieces text ∷ rest some)
    → IsRankingTo w items langs less keys (ranked ++ lang ∷ []) rest
rank_taken w items langs left less keys ranked text lang rest is_open t h = record {
  few =
      let few = h.few in
      let size = t.3 in
      let more : length (ranked ++ lang ∷ []) ≡ length ranked + 1 = simp length-append in
      omega arith;
  finds = λ some found a f. h.finds some found a
      (subst (λ (x : Pieces). MatchFirstOf (Open items some) x found)
      (ap (λ (x : Pieces). x ++ rest some) (map-append pieces ranked (lang ∷ []))
      ∙ (append_assoc (map pieces ranked) (pieces lang ∷ []) (rest some)
      ∙ ap (λ (x : List ℕ). map pieces ranked ++ pieces x ∷ rest some) t.0)) f);
  each = each_of langs left less ranked text lang t h.each;
  inside = λ l c. h.inside l (t.5 l c);
  free = All-push (λ l. ¬ NamedRefuse items (pieces l)) ranked lang h.free
      (subst (λ (x : List ℕ). ¬ NamedRefuse items (pieces x)) (sym t.0) is_open.1);
}

-- The least language that an item matches, of those that are left, is ranked.
pub rank_matched : (s : Scheme) (items : List Item) (langs left less : List (List ℕ))
    (keys : List OrderKey) (ranked : List (List ℕ)) (i : Item) (text lang : List ℕ)
    (rest : List (List ℕ) → Pieces) → Fits s items i text
    → ((l : List ℕ) → Contains left l → Fits s items i l → ¬ Ascends l text)
    → TakesFrom left text less (Some lang)
    → IsRankingTo (By s) items langs left keys ranked (λ some. matched_at (By s) (Some i) some
    ++ rest some)
    → IsRankingTo (By s) items langs less keys (ranked ++ lang ∷ []) (λ some.
    matched_at (By s) (Some i) some ++ rest some)
rank_matched s items langs left less keys ranked i text lang rest fits least t h = record {
  few =
      let few = h.few in
      let size = t.3 in
      let more : length (ranked ++ lang ∷ []) ≡ length ranked + 1 = simp length-append in
      omega arith;
  finds = λ some found a f.
      let P = Open items some in
      let before = map pieces ranked in
      let here = matched_of s some i in
      let after = map pieces here ++ rest some in
      let whole = subst (λ (x : Pieces). MatchFirstOf P (x ++ after) found)
      (map-append pieces ranked (lang ∷ []) ∙ ap (λ (x : List ℕ). before ++ pieces x ∷ []) t.0) f in
      let next : MatchFirstOf P before None → P (pieces text)
      → MatchFirstOf P after (Some (pieces text)) = λ none o.
      let among = all_left (By s) items langs left keys ranked (λ some.
      matched_at (By s) (Some i) some ++ rest some) some h a none in
      let own = subst (Contains some) (joined-pieces text)
      (among_contains some (joined (pieces text)) o.0) in
      let are = matched_are s some i in
      let low = All-weaker (Contains here) (λ m. P (pieces m) → ¬ Ascends m text)
      (λ m c p.
      let one = (are.each m).0 c in
      least m (All-contains (Contains left) some m among one.0) (one.1, p.1))
      here (All-contains_itself here) in
      first_front P (map pieces here) (rest some) (pieces text)
      (least_first P here text ((are.each text).1 (own, fits.0)) o are.ascending low) in
      h.finds some found a (put_in P before after (pieces text) found next whole);
  each = each_of langs left less ranked text lang t h.each;
  inside = λ l c. h.inside l (t.5 l c);
  free = All-push (λ l. ¬ NamedRefuse items (pieces l)) ranked lang h.free
      (subst (λ (x : List ℕ). ¬ NamedRefuse items (pieces x)) (sym t.0) fits.1);
}

-- no language that is left is matched by the item
abbrev pub NoneLeft : Widening → List Item → List (List ℕ) → Option Item → Type 0
NoneLeft w items left None = Unit {0}
NoneLeft Off items left (Some i) = Unit {0}
NoneLeft (By s) items left (Some i) = (l : List ℕ) → Contains left l → ¬ Fits s items i l

-- What an item matches is passed where none of the languages that are left is matched.
pub rank_unmatched : (w : Widening) (items : List Item) (langs left : List (List ℕ))
    (keys : List OrderKey) (ranked : List (List ℕ)) (o : Option Item)
    (rest : List (List ℕ) → Pieces) → NoneLeft w items left o
    → IsRankingTo w items langs left keys ranked (λ some. matched_at w o some ++ rest some)
    → IsRankingTo w items langs left keys ranked rest
rank_unmatched w items langs left keys ranked None rest none h = h
rank_unmatched Off items langs left keys ranked (Some i) rest none h = h
rank_unmatched (By s) items langs left keys ranked (Some i) rest none h = record {
  few = h.few;
  finds = λ some found a f. h.finds some found a
      (left_out (Open items some) (map pieces ranked) (map pieces (matched_of s some i))
      (rest some) found
      (λ n. all_pieces (λ y. ¬ Open items some y) (matched_of s some i)
      (All-weaker (Contains (matched_of s some i)) (λ l. ¬ Open items some (pieces l))
      (λ l c p.
      let one = ((matched_are s some i).each l).0 c in
      none l (All-contains (Contains left) some l
      (all_left (By s) items langs left keys ranked (λ some. matched_at (By s) (Some i) some
      ++ rest some) some h a n) one.0) (one.1, p.1))
      (matched_of s some i) (All-contains_itself (matched_of s some i)))) f);
  each = h.each;
  inside = h.inside;
  free = h.free;
}

-- At last the ranked are all that lookup finds.
pub rank_ends : (w : Widening) (items : List Item) (langs left : List (List ℕ))
    (keys : List OrderKey) (ranked : List (List ℕ)) (at : ℕ) → AreOrderKeys items keys
    → length keys ≤ at
    → IsRankingTo w items langs left keys ranked (λ some. tried w items some (drop at keys))
    → IsRanking w items langs ranked
rank_ends w items langs left keys ranked at t past h = record {
  few = (let few = h.few in omega arith);
  finds = λ some found a f.
      let own = first_open items some ranked found h.free f in
      let none : tried w items some (drop at keys) ≡ [] =
      ap (λ (x : List OrderKey). tried w items some x) (drop_all at keys past) in
      let alone = subst (λ (x : Pieces). MatchFirstOf (Open items some) x (option_map pieces found))
      (sym (ap (λ (x : Pieces). map pieces ranked ++ x) none ∙ append-nil (map pieces ranked))) own
      in
      all_tried w items some keys (option_map pieces found) t
      (h.finds some (option_map pieces found) a alone);
}

-- The next key's candidates come next, and what its item matches.
pub key_opens : (w : Widening) (items : List Item) (langs left : List (List ℕ))
    (keys : List OrderKey) (ranked : List (List ℕ)) (at : ℕ) (k : OrderKey) (o : Option Item)
    → at < length keys → k ≡ get_or keys at k → slice_get items k.place ≡ o
    → IsRankingTo w items langs left keys ranked (λ some. tried w items some (drop at keys))
    → IsRankingTo w items langs left keys ranked (λ some. own_of o ++ (matched_at w o some
    ++ tried w items some (drop (at + 1) keys)))
key_opens w items langs left keys ranked at k o low e s h =
    rest_is w items langs left keys ranked (λ some. tried w items some (drop at keys)) (λ some.
    own_of o ++ (matched_at w o some ++ tried w items some (drop (at + 1) keys))) (λ some. sym
    (ap (λ (x : List OrderKey). tried w items some x) (element_at keys at k low e)
    ∙ (key_tries w items some k (drop (at + 1) keys)
    ∙ ap (λ (x : Option Item). own_of x ++ (matched_at w x some
    ++ tried w items some (drop (at + 1) keys))) s))) h

-- ---- the languages in the order of what matches them

matched_total : IsTotalOrder matched_cmp
matched_total =
    then_total (on_total (λ m. m.tried) nat_cmp_total) (on_total (λ m. m.lang) nat_list_cmp_total)

not_after : (ms : List MatchedLang) (i j : ℕ) (d : MatchedLang) → IsSorted matched_cmp ms → i ≤ j
    → j < length ms → is_lt (matched_cmp (get_or ms j d) (get_or ms i d)) ≡ false
not_after ms i j d up le low =
    sorted_far (λ a b. is_lt (matched_cmp a b)) (ranks_by matched_total (λ a. a)) ms up i j d le low

tried_ascends : (a b : MatchedLang) → is_lt (matched_cmp b a) ≡ false → a.tried ≤ b.tried
tried_ascends a b h = grind (arith, nat_tests)

langs_ascend : (a b : MatchedLang) → is_lt (matched_cmp b a) ≡ false → b.tried ≡ a.tried
    → ¬ Ascends b.lang a.lang
langs_ascend a b h e low =
    let less = less_lt (slice_cmp nat_cmp b.lang a.lang) low in
    let same : is_lt (matched_cmp b a) ≡ is_lt (slice_cmp nat_cmp b.lang a.lang) =
    rw (sym (nat_cmp_is b.tried a.tried Equal e)) refl in
    false_true (sym h ∙ (same ∙ less))

-- Those before a place are not left, and those from it on are matched at this place of the order or
-- later.
pub record IsAtMatched (ms : List MatchedLang) (left : List (List ℕ)) (at next : ℕ) : Type 0 where
  pub gone : (q : ℕ) (d : MatchedLang) → q < next → q < length ms
      → ¬ Contains left (get_or ms q d).lang
  pub late : (q : ℕ) (d : MatchedLang) → next ≤ q → q < length ms → at ≤ (get_or ms q d).tried

-- At first none is passed.
pub matched_begins : (ms : List MatchedLang) (left : List (List ℕ)) → IsAtMatched ms left 0 0
matched_begins ms left = record {
  gone = λ q d low in_ms c. absurd (omega arith);
  late = λ q d le low. omega arith;
}

-- Fewer may be left.
pub matched_less : (ms : List MatchedLang) (left less : List (List ℕ)) (at next : ℕ)
    → ((l : List ℕ) → Contains less l → Contains left l) → IsAtMatched ms left at next
    → IsAtMatched ms less at next
matched_less ms left less at next f h = record {
  gone = λ q d low in_ms c. h.gone q d low in_ms (f (get_or ms q d).lang c);
  late = h.late;
}

-- The next is passed where it is not left.
pub matched_next : (ms : List MatchedLang) (left : List (List ℕ)) (at next : ℕ) (m : MatchedLang)
    → next < length ms → m ≡ get_or ms next m → is_among left m.lang ≡ false
    → IsAtMatched ms left at next → IsAtMatched ms left at (next + 1)
matched_next ms left at next m low e none h = record {
  gone = λ q d less in_ms c. elim (cases_lt q next) [
    | inl before ↦ h.gone q d before in_ms c
    | inr more ↦
        let same : q ≡ next = omega arith in
        let is : (get_or ms q d).lang ≡ m.lang =
        ap (λ (n : ℕ). (get_or ms n d).lang) same
        ∙ (ap (λ (x : MatchedLang). x.lang) (same_default ms next d m low ∙ sym e)) in
        false_true (sym none ∙ contains_among left m.lang (subst (Contains left) is c))
  ];
  late = λ q d le in_ms. h.late q d (omega arith) in_ms;
}

-- where a language that is left and matched at the place is found
found_in : (s : Scheme) (items : List Item) (langs left : List (List ℕ)) (ms : List MatchedLang)
    (at next : ℕ) (l : List ℕ) → AreMatchedLangs s items langs ms → IsAtMatched ms left at next
    → Contains langs l → Contains left l → IsTriedAt s items l at
    → (q : ℕ) × (d : MatchedLang) × (next ≤ q) × (q < length ms) × ((get_or ms q d).lang ≡ l)
    × ((get_or ms q d).tried ≡ at)
found_in s items langs left ms at next l are h c there m =
    let f = are.each l at c m in
    let q = f.1.0 in
    let in_ms : q < length ms = f.1.1 in
    let is : get_or ms q f.0 ≡ f.0 = f.1.2 in
    let lang : (get_or ms q f.0).lang ≡ l = ap (λ (x : MatchedLang). x.lang) is ∙ f.2 in
    let tried : (get_or ms q f.0).tried ≡ f.0.tried = ap (λ (x : MatchedLang). x.tried) is in
    elim (cases_lt q next) [
      | inl before ↦
          absurd (h.gone q f.0 before in_ms (subst (Contains left) (sym lang) there))
      | inr more ↦
          (let late = h.late q f.0 more in_ms in let early = f.3 in
          (q, f.0, more, in_ms, lang, omega arith))
    ]

-- what matches a language at the place is the item of its key
fits_at : (s : Scheme) (items : List Item) (keys : List OrderKey) (at : ℕ) (k : OrderKey) (i : Item)
    (l : List ℕ) → AreOrderKeys items keys → at < length keys → k ≡ get_or keys at k
    → slice_get items k.place ≡ Some i → Fits s items i l → IsTriedAt s items l at
fits_at s items keys at k i l o low e is fits =
    (keys, o, (i, tried_at items keys at k low e ∙ is, fits.0), fits.1)

-- The next of those that are matched at the place fits its item, and is the least that is left.
pub matched_fits : (s : Scheme) (items : List Item) (langs left : List (List ℕ))
    (ms : List MatchedLang) (keys : List OrderKey) (at next : ℕ) (k : OrderKey) (m : MatchedLang)
    → AreMatchedLangs s items langs ms → IsSorted matched_cmp ms → AreOrderKeys items keys
    → at < length keys → k ≡ get_or keys at k → IsAtMatched ms left at next
    → ((l : List ℕ) → Contains left l → Contains langs l) → next < length ms
    → m ≡ get_or ms next m → m.tried ≡ at
    → (i : Item) × (slice_get items k.place ≡ Some i) × Fits s items i m.lang
    × ((l : List ℕ) → Contains left l → Fits s items i l → ¬ Ascends l m.lang)
matched_fits s items langs left ms keys at next k m are up o low e h inside in_ms is same =
    let own : IsTriedAt s items m.lang m.tried =
    subst (λ (x : MatchedLang). IsTriedAt s items x.lang x.tried) (sym is)
    (are.only next m in_ms) in
    let f = matched_item s items m.lang m.tried keys o own in
    let here : slice_get items k.place ≡ Some f.0 =
    sym (tried_at items keys at k low e) ∙ (ap (item_tried items keys) (sym same) ∙ f.1) in (
      f.0,
      here,
      (f.2, own.3),
      λ l c fits below.
          let g = found_in s items langs left ms at next l are h (inside l c) c
          (fits_at s items keys at k f.0 l o low e here fits) in
          let other : m ≡ get_or ms next g.1 = is ∙ same_default ms next m g.1 in_ms in
          let after : is_lt (matched_cmp (get_or ms g.0 g.1) m) ≡ false =
          subst (λ (x : MatchedLang). is_lt (matched_cmp (get_or ms g.0 g.1) x) ≡ false) (sym other)
          (not_after ms next g.0 g.1 up g.2 g.3) in
          langs_ascend m (get_or ms g.0 g.1) after (g.5 ∙ sym same)
          (subst (λ (x : List ℕ). Ascends x m.lang) (sym g.4) below),
    )

-- the next is matched later, or there is none
abbrev pub IsLater : List MatchedLang → ℕ → ℕ → Type 0
IsLater ms at next =
    (length ms ≤ next) ⊎ ((d : MatchedLang) → (get_or ms next d).tried ≡ at → ⊥)

-- Then no language that is left is matched at the place.
pub none_matched : (w : Widening) (items : List Item) (langs left : List (List ℕ))
    (ms : List MatchedLang) (keys : List OrderKey) (at next : ℕ) (k : OrderKey)
    → AreMatchedBy w items langs ms → AreOrderKeys items keys → at < length keys
    → k ≡ get_or keys at k → IsAtMatched ms left at next
    → ((l : List ℕ) → Contains left l → Contains langs l) → IsLater ms at next
    → NoneLeft w items left (slice_get items k.place)
none_matched w items langs left ms keys at next k are o low e h inside later =
    by w (slice_get items k.place) refl are where
      by : (v : Widening) (x : Option Item) → slice_get items k.place ≡ x
          → AreMatchedBy v items langs ms → NoneLeft v items left x
      by v None is m = tt
      by Off (Some i) is m = tt
      by (By s) (Some i) is m = λ l c fits.
          let g = found_in s items langs left ms at next l m.0 h (inside l c) c
          (fits_at s items keys at k i l o low e is fits) in
          elim later [
            | inl past ↦ (let in_ms = g.3 in let from = g.2 in omega arith)
            | inr other ↦
                (let ascends = tried_ascends (get_or ms next g.1) (get_or ms g.0 g.1)
                (not_after ms next g.0 g.1 m.1 g.2 g.3) in
                let late = h.late next g.1 (omega arith) (let a = g.2 in let b = g.3 in omega
                arith) in
                let same = g.5 in
                other g.1 (omega arith))
          ]

-- And those from here on are matched later.
pub matched_later : (w : Widening) (items : List Item) (langs left : List (List ℕ))
    (ms : List MatchedLang) (at next : ℕ) → AreMatchedBy w items langs ms
    → IsAtMatched ms left at next → IsLater ms at next → IsAtMatched ms left (at + 1) next
matched_later w items langs left ms at next are h later = record {
  gone = h.gone;
  late = λ q d le in_ms. elim later [
    | inl past ↦ absurd (omega arith)
    | inr other ↦ by w are q d le in_ms other
  ];
} where
  by : (v : Widening) → AreMatchedBy v items langs ms → (q : ℕ) (d : MatchedLang) → next ≤ q
      → q < length ms → ((d : MatchedLang) → (get_or ms next d).tried ≡ at → ⊥)
      → at + 1 ≤ (get_or ms q d).tried
  by Off m q d le in_ms other =
      absurd (let none : length ms ≡ 0 = ap length m in omega arith)
  by (By s) m q d le in_ms other =
      let ascends = tried_ascends (get_or ms next d) (get_or ms q d)
      (not_after ms next q d m.1 le in_ms) in
      let late = h.late next d (omega arith) (omega arith) in
      let apart = other d in
      grind arith

-- ---- how they are found

-- A language that is matched is added.
pub lang_matched : (s : Scheme) (items : List Item) (langs : List (List ℕ)) (k : ℕ) (x : List ℕ)
    (ms : List MatchedLang) (m : MatchedLang) → k < length langs → x ≡ get_or langs k x
    → m.lang ≡ x → IsTriedFirst s items x m.tried
    → AreMatchedLangs s items (take k langs) ms
    → AreMatchedLangs s items (take (k + 1) langs) (ms ++ m ∷ [])
lang_matched s items langs k x ms m low e same first h = record {
  each = λ l n c f. elim (Contains-append_cases (take k langs) (x ∷ []) l
      (subst (λ (ys : List (List ℕ)). Contains ys l) (take_next langs k x low e) c)) [
        | inl before ↦
            (let g = h.each l n before f in
            (g.0, Contains-append_left ms (m ∷ []) g.0 g.1, g.2, g.3))
        | inr here ↦ elim (contains_cases x l [] here) [
          | inl is ↦ (
            m,
            Contains-push ms m,
            same ∙ is,
            first.1 n (subst (λ (y : List ℕ). IsTriedAt s items y n) (sym is) f),
          )
          | inr none ↦ absurd (let none_low = none.1 in omega arith)
        ]
      ];
  only = All-push (λ y. IsTriedAt s items y.lang y.tried) ms m h.only
      (subst (λ (y : List ℕ). IsTriedAt s items y m.tried) (sym same) first.0);
}

-- One that is not matched is not.
pub lang_unmatched : (s : Scheme) (items : List Item) (langs : List (List ℕ)) (k : ℕ) (x : List ℕ)
    (ms : List MatchedLang) → k < length langs → x ≡ get_or langs k x
    → ((n : ℕ) → ¬ IsTriedAt s items x n) → AreMatchedLangs s items (take k langs) ms
    → AreMatchedLangs s items (take (k + 1) langs) ms
lang_unmatched s items langs k x ms low e none h = record {
  each = λ l n c f. elim (Contains-append_cases (take k langs) (x ∷ []) l
      (subst (λ (ys : List (List ℕ)). Contains ys l) (take_next langs k x low e) c)) [
        | inl before ↦ h.each l n before f
        | inr here ↦ elim (contains_cases x l [] here) [
          | inl is ↦ absurd (none n (subst (λ (y : List ℕ). IsTriedAt s items y n) (sym is) f))
          | inr nil ↦ absurd (let none_low = nil.1 in omega arith)
        ]
      ];
  only = h.only;
}

-- In order they are the same.
pub matched_sorted : (s : Scheme) (items : List Item) (langs : List (List ℕ))
    (xs ys : List MatchedLang) → IsPermutation xs ys → IsSorted matched_cmp ys
    → AreMatchedLangs s items langs xs → AreMatchedBy (By s) items langs ys
matched_sorted s items langs xs ys p up h = (
  record {
    each = λ l n c f. (let g = h.each l n c f in
        (g.0, Contains-permutation xs ys g.0 p g.1, g.2, g.3));
    only = All-permutation (λ m. IsTriedAt s items m.lang m.tried) xs ys p h.only;
  },
  up,
)

-- ---- the walk over the keys

abbrev zero : OrderKey
zero = record { missing_weight = 0; place = 0 }

-- the item of the key at a place
abbrev item_at : List Item → List OrderKey → ℕ → Option Item
item_at items keys at = slice_get items (get_or keys at zero).place

-- what comes after the key at a place
abbrev after : Widening → List Item → List OrderKey → ℕ → List (List ℕ) → Pieces
after w items keys at some = tried w items some (drop (at + 1) keys)

-- before the key at a place
abbrev pub AtKey : Widening → List Item → List (List ℕ) → List MatchedLang → List OrderKey → ℕ → ℕ
    → List (List ℕ) → List (Bor (List ℕ)) → Type 0
AtKey w items langs ms keys at next left ranked =
    IsAtMatched ms left at next
    × IsRankingTo w items langs left keys (texts_of ranked) (λ some.
    tried w items some (drop at keys))

-- before these candidates of its item
abbrev pub AtCandidates : Widening → List Item → List (List ℕ) → List MatchedLang → List OrderKey
    → ℕ → ℕ → List (List ℕ) → List (Bor (List ℕ)) → Pieces → Type 0
AtCandidates w items langs ms keys at next left ranked ys =
    IsAtMatched ms left at next
    × IsRankingTo w items langs left keys (texts_of ranked) (λ some.
    ys ++ (matched_at w (item_at items keys at) some ++ after w items keys at some))

-- before what it matches
abbrev pub AtMatched : Widening → List Item → List (List ℕ) → List MatchedLang → List OrderKey
    → ℕ → ℕ → List (List ℕ) → List (Bor (List ℕ)) → Type 0
AtMatched w items langs ms keys at next left ranked =
    AtCandidates w items langs ms keys at next left ranked []

-- The walk begins.
pub walk_begins : (w : Widening) (items : List Item) (langs left : List (List ℕ))
    (ms : List MatchedLang) (keys : List OrderKey) (ranked : List (Bor (List ℕ))) → ranked ≡ []
    → Spells langs left → AtKey w items langs ms keys 0 0 left ranked
walk_begins w items langs left ms keys ranked e h =
    (matched_begins ms left, rw e (rank_begins w items langs left keys h))

-- A key has an item, whose candidates come first.
pub candidates_begin : (w : Widening) (items : List Item) (langs left : List (List ℕ))
    (ms : List MatchedLang) (keys : List OrderKey) (at next : ℕ) (ranked : List (Bor (List ℕ)))
    (i : Item) (ys : Pieces) → at < length keys → Some i ≡ item_at items keys at
    → ys ≡ candidates_of i → AtKey w items langs ms keys at next left ranked
    → AtCandidates w items langs ms keys at next left ranked ys
candidates_begin w items langs left ms keys at next ranked i ys low is e h = (
  h.0,
  rw (sym is, e) (key_opens w items langs left keys (texts_of ranked) at (get_or keys at zero)
      (Some i) low (same_default keys at zero (get_or keys at zero) low) (sym is) h.1),
)

-- A key without an item has no candidates.
pub candidates_none : (w : Widening) (items : List Item) (langs left : List (List ℕ))
    (ms : List MatchedLang) (keys : List OrderKey) (at next : ℕ) (ranked : List (Bor (List ℕ)))
    → at < length keys → None ≡ item_at items keys at
    → AtKey w items langs ms keys at next left ranked
    → AtMatched w items langs ms keys at next left ranked
candidates_none w items langs left ms keys at next ranked low is h = (
  h.0,
  rw (sym is) (key_opens w items langs left keys (texts_of ranked) at (get_or keys at zero) None
      low (same_default keys at zero (get_or keys at zero) low) (sym is) h.1),
)

-- A candidate that is open is ranked.
pub candidate_taken : (w : Widening) (items : List Item) (langs left less : List (List ℕ))
    (ms : List MatchedLang) (keys : List OrderKey) (at next : ℕ)
    (ranked more : List (Bor (List ℕ))) (ys zs : Pieces) (text : List ℕ) (lang : Bor (List ℕ))
    → ys ≡ pieces text ∷ zs → Open items left (pieces text)
    → TakesFrom left text less (Some lang.now) → more ≡ ranked ++ lang ∷ []
    → AtCandidates w items langs ms keys at next left ranked ys
    → AtCandidates w items langs ms keys at next less more zs
candidate_taken w items langs left less ms keys at next ranked more ys zs text lang e is_open t m h
    = (
      matched_less ms left less at next t.5 h.0,
      rw (m, map-append (λ (b : Bor (List ℕ)). b.now) ranked (lang ∷ []))
          (rank_taken w items langs left less keys (texts_of ranked) text lang.now (λ some.
          zs ++ (matched_at w (item_at items keys at) some ++ after w items keys at some)) is_open t
          (subst (λ (x : Pieces). IsRankingTo w items langs left keys (texts_of ranked) (λ some.
          x ++ (matched_at w (item_at items keys at) some ++ after w items keys at some))) e h.1)),
    )

-- One that is not open is passed.
pub candidate_passed : (w : Widening) (items : List Item) (langs left : List (List ℕ))
    (ms : List MatchedLang) (keys : List OrderKey) (at next : ℕ) (ranked : List (Bor (List ℕ)))
    (ys zs : Pieces) (y : List (List ℕ)) → ys ≡ y ∷ zs → ¬ Open items left y
    → AtCandidates w items langs ms keys at next left ranked ys
    → AtCandidates w items langs ms keys at next left ranked zs
candidate_passed w items langs left ms keys at next ranked ys zs y e closed h = (
  h.0,
  rank_passed w items langs left keys (texts_of ranked) y (λ some.
      zs ++ (matched_at w (item_at items keys at) some ++ after w items keys at some)) closed
      (subst (λ (x : Pieces). IsRankingTo w items langs left keys (texts_of ranked) (λ some.
      x ++ (matched_at w (item_at items keys at) some ++ after w items keys at some))) e h.1),
)

-- An open one is there.
pub candidate_there : (items : List Item) (left less : List (List ℕ)) (text : List ℕ)
    → Open items left (pieces text) → TakesFrom left text less None → ⊥
candidate_there items left less text o t =
    false_true (sym t.0 ∙ (ap (is_among left) (sym (joined-pieces text)) ∙ o.0))

-- The next language that is matched at the place is ranked.
pub match_taken : (w : Widening) (items : List Item) (langs left less : List (List ℕ))
    (ms : List MatchedLang) (keys : List OrderKey) (at next : ℕ)
    (ranked more : List (Bor (List ℕ))) (m : MatchedLang) (lang : Bor (List ℕ))
    → AreMatchedBy w items langs ms → AreOrderKeys items keys → at < length keys
    → next < length ms → m ≡ get_or ms next m → m.tried ≡ at
    → TakesFrom left m.lang less (Some lang.now) → more ≡ ranked ++ lang ∷ []
    → AtMatched w items langs ms keys at next left ranked
    → AtMatched w items langs ms keys at (next + 1) less more
match_taken w items langs left less ms keys at next ranked more m lang are o low in_ms is same t e
    h = (
      matched_next ms less at next m in_ms is t.2 (matched_less ms left less at next t.5 h.0),
      rw (e, map-append (λ (b : Bor (List ℕ)). b.now) ranked (lang ∷ [])) (by w are h.1),
    ) where
      key : OrderKey
      key = get_or keys at zero

      by : (v : Widening) → AreMatchedBy v items langs ms
          → IsRankingTo v items langs left keys (texts_of ranked) (λ some.
          matched_at v (item_at items keys at) some ++ after v items keys at some)
          → IsRankingTo v items langs less keys (texts_of ranked ++ lang.now ∷ []) (λ some.
          matched_at v (item_at items keys at) some ++ after v items keys at some)
      by Off none r = absurd (let empty : length ms ≡ 0 = ap length none in omega arith)
      by (By s) all r =
          let f = matched_fits s items langs left ms keys at next key m all.0 all.1 o low
          (same_default keys at zero key low) h.0 r.inside in_ms is same in
          rw f.1 (rank_matched s items langs left less keys (texts_of ranked) f.0 m.lang lang.now
          (after (By s) items keys at) f.2 f.3 t (rw f.1 at r))

-- One that was ranked before is passed.
pub match_passed : (w : Widening) (items : List Item) (langs left less : List (List ℕ))
    (ms : List MatchedLang) (keys : List OrderKey) (at next : ℕ) (ranked : List (Bor (List ℕ)))
    (m : MatchedLang) → next < length ms → m ≡ get_or ms next m → TakesFrom left m.lang less None
    → AtMatched w items langs ms keys at next left ranked
    → AtMatched w items langs ms keys at (next + 1) less ranked
match_passed w items langs left less ms keys at next ranked m in_ms is t h =
    rw t.1 (matched_next ms left at next m in_ms is t.0 h.0, h.1)

-- The next key comes where no other language is matched at the place.
pub key_follows : (w : Widening) (items : List Item) (langs left : List (List ℕ))
    (ms : List MatchedLang) (keys : List OrderKey) (at next : ℕ) (ranked : List (Bor (List ℕ)))
    → AreMatchedBy w items langs ms → AreOrderKeys items keys → at < length keys
    → IsLater ms at next → AtMatched w items langs ms keys at next left ranked
    → AtKey w items langs ms keys (at + 1) next left ranked
key_follows w items langs left ms keys at next ranked are o low later h = (
  matched_later w items langs left ms at next are h.0 later,
  rank_unmatched w items langs left keys (texts_of ranked) (item_at items keys at)
      (after w items keys at)
      (none_matched w items langs left ms keys at next (get_or keys at zero) are o low
      (same_default keys at zero (get_or keys at zero) low) h.0 h.1.inside later) h.1,
)

-- What is read at a place is there.
pub read_at : (items : List Item) (place : ℕ) (i : Item) → true ≡ nat_lt place (length items)
    → i ≡ get_or items place i → Some i ≡ slice_get items place
read_at items place i h e =
    sym (stands_at items place i (ltb-true place (length items) (sym h)) e)

-- Another place in the order is another for whatever is read past the end.
pub read_other : (ms : List MatchedLang) (next at : ℕ) (m : MatchedLang) → next < length ms
    → m ≡ get_or ms next m → (m.tried ≡ at → ⊥) → IsLater ms at next
read_other ms next at m low is other = inr (λ d same. other
    (ap (λ (x : MatchedLang). x.tried) (is ∙ same_default ms next m d low) ∙ same))
