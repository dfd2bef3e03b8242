-- The first candidate that is open.
--
-- Lookup has a list of candidates: for each item, in the order of lookup, its range and what is
-- left of it as subtags are cut off. The answer is the first that is held and not refused.
-- `FirstFrom` says this of the keys from a place on: what the next key finds is found from here on,
-- and if it finds nothing, what the later keys find. So the loop over the keys gives the answer,
-- which is one.
use Rattle.std.proofs.Common.{ℕ, ◌≡◌, ◌+◌, ◌≤◌, ◌<◌, ◌==◌, List, [], ◌∷◌, ◌++◌, Some, None, Option}
use Rattle.std.proofs.Common.{Bool, true, refl, sym, ◌∙◌, ap, subst, append-nil, append_assoc, drop}
use Rattle.std.proofs.Common.{get_or, length}
use Rattle.std.specs.Prelude.{IsTrue, ◌↔◌, All}
use Rattle.std.specs.List.{filter_map, slice_get, cons_option}
use Rattle.std.proofs.lemmas.Bool.{eqb-true, eq-eqb}
use Rattle.std.proofs.lemmas.Option.{slice_get_past}
use Rattle.std.proofs.lemmas.List.{drop_all}
use Rattle.std.proofs.lemmas.List.Elements.{All-nil, All-cons, All-append, All-head, All-tail}
use Rattle.lang_core.specs.Text.{pieces}
use Rattle.list_core.proofs.Basics.{element_at, same_default, stands_at}
use Rattle.lang_core.proofs.PiecesLemmas.{joined-pieces}
use Rattle.list_core.proofs.DecidingLemmas.{one_item_weight, most_specific, weight_is}
use Rattle.list_core.proofs.LookupOrderLemmas.{one_order_of}
use Rattle.list_core.specs.Item.{Item}
use Rattle.list_core.specs.Deciding.{IsBest, MatchesNamed, NamedRefuse}
use Rattle.nego_core.specs.Choosing.{all_candidates, IsOpen}
use Rattle.nego_core.specs.inner.Choosing.{candidates_at}
use Rattle.list_core.specs.Candidates.{candidates_of}
use Rattle.nego_core.specs.Choosing.{IsFirst, MatchFirstOf, IsLookedUp}
use Rattle.list_core.specs.LookupOrder.{AreOrderKeys}
use Rattle.list_core.specs.declared.deciding.MostSpecific.{MostSpecific}
use Rattle.list_core.specs.declared.lookup_order.OrderKey.{OrderKey}

-- ---- what the items other than "*" refuse

-- The items other than "*" refuse a tag just where the best that matches it has the weight 0.
pub named_refused : (items : List Item) (tag : List (List ℕ)) (best : MostSpecific) (j : Item)
    → IsBest (λ _ i. MatchesNamed tag i) items (Some best) → j ≡ get_or items best.place j
    → IsTrue (j.weight == 0) ↔ NamedRefuse items tag
named_refused items tag best j h e =
    let d = most_specific (MatchesNamed tag) items best h in
    let w = weight_is (MatchesNamed tag) items best.place j d e in (
      (λ z. (best.place, (d, w ∙ eqb-true j.weight 0 z))),
      (λ r. eq-eqb j.weight 0
          (sym w ∙ (one_item_weight (MatchesNamed tag) items r.0 best.place r.1.0 d ∙ r.1.1))),
    )

-- ---- the first that passes

-- An element that passes is the first to pass of a list that begins with it.
pub first_here : {X : Type 0} (P : X → Type 0) (x : X) (xs : List X) → P x → IsFirst P (x ∷ xs) x
first_here P x xs p =
    record { before = []; after = xs; whole = refl; none_before = All-nil (λ y. ¬ P y); passes = p }

-- The first to pass of a list that begins with an element that does not is that of its rest.
pub first_later : {X : Type 0} (P : X → Type 0) (x : X) (xs : List X) (found : Option X) → ¬ P x
    → MatchFirstOf P xs found → MatchFirstOf P (x ∷ xs) found
first_later P x xs None n h = All-cons (λ y. ¬ P y) x xs n h
first_later {X = X} P x xs (Some y) n h =
    record {
      before = x ∷ h.before;
      after = h.after;
      whole =
          ap (λ (zs : List X). x ∷ zs) h.whole;
      none_before =
          All-cons (λ z. ¬ P z) x h.before n h.none_before;
      passes = h.passes;
    }

-- Where none of one list passes, the first to pass of it and another is that of the other.
pub first_append : {X : Type 0} (P : X → Type 0) (xs ys : List X) (found : Option X)
    → MatchFirstOf P xs None → MatchFirstOf P ys found → MatchFirstOf P (xs ++ ys) found
first_append P xs ys None n h = All-append (λ y. ¬ P y) xs ys n h
first_append {X = X} P xs ys (Some y) n h = record {
  before = xs ++ h.before;
  after = h.after;
  whole = ap (λ (zs : List X). xs ++ zs) h.whole ∙ sym (append_assoc xs h.before (y ∷ h.after));
  none_before = All-append (λ z. ¬ P z) xs h.before n h.none_before;
  passes = h.passes;
}

-- The first to pass of a list stays the first where another list comes after it.
pub first_front : {X : Type 0} (P : X → Type 0) (xs ys : List X) (x : X)
    → MatchFirstOf P xs (Some x) → MatchFirstOf P (xs ++ ys) (Some x)
first_front {X = X} P xs ys x h = record {
  before = h.before;
  after = h.after ++ ys;
  whole = ap (λ (zs : List X). zs ++ ys) h.whole ∙ append_assoc h.before (x ∷ h.after) ys;
  none_before = h.none_before;
  passes = h.passes;
}

-- ---- the walk over the keys

-- The items at the places of the keys, in the order of the keys.
abbrev pub ordered_items : List Item → List OrderKey → List Item
ordered_items items keys = filter_map (λ t. slice_get items t.place) keys

of_option : (o : Option Item) (rest : List Item)
    → all_candidates (cons_option o rest) ≡ all_candidates (cons_option o []) ++ all_candidates rest
of_option None rest = refl
of_option (Some i) rest =
    ap (λ (x : List (List (List ℕ))). x ++ all_candidates rest) (sym (append-nil (candidates_of i)))

at_is : (items : List Item) (place : ℕ) (o : Option Item) → slice_get items place ≡ o
    → all_candidates (cons_option o []) ≡ candidates_at items place
at_is items place None e = rw e refl
at_is items place (Some i) e = rw e (append-nil (candidates_of i))

-- the candidates of a key and those of the later keys
first_key : (items : List Item) (keys : List OrderKey) (k : ℕ) (d : OrderKey) → k < length keys
    → all_candidates (ordered_items items (drop k keys))
    ≡ candidates_at items (get_or keys k d).place
    ++ all_candidates (ordered_items items (drop (k + 1) keys))
first_key items keys k d low =
    let place : ℕ = (get_or keys k d).place in
    ap (λ (x : List OrderKey). all_candidates (ordered_items items x))
    (element_at keys k (get_or keys k d) low (same_default keys k d (get_or keys k d) low))
    ∙ (of_option (slice_get items place) (ordered_items items (drop (k + 1) keys))
    ∙ ap (λ (x : List (List (List ℕ))). x
    ++ all_candidates (ordered_items items (drop (k + 1) keys)))
    (at_is items place (slice_get items place) refl))

-- the candidates of the keys from a place on, and the first of them that passes
abbrev pub FirstFrom : (List (List ℕ) → Type 0) → List Item → List OrderKey → ℕ
    → Option (List (List ℕ)) → Type 0
FirstFrom P items keys k found =
    MatchFirstOf P (all_candidates (ordered_items items (drop k keys))) found

-- What is found among the candidates of the next key is found from here on.
pub key_found : (P : List (List ℕ) → Type 0) (items : List Item) (keys : List OrderKey) (k : ℕ)
    (d : OrderKey) (text : List (List ℕ))
    → k < length keys → MatchFirstOf P (candidates_at items (get_or keys k d).place) (Some text)
    → FirstFrom P items keys k (Some text)
key_found P items keys k d text low f =
    subst (λ (x : List (List (List ℕ))). MatchFirstOf P x (Some text))
    (sym (first_key items keys k d low))
    (first_front P (candidates_at items (get_or keys k d).place)
    (all_candidates (ordered_items items (drop (k + 1) keys))) text f)

-- Where no candidate of the next key passes, what the later keys have is found from here on.
pub key_passed : (P : List (List ℕ) → Type 0) (items : List Item) (keys : List OrderKey) (k : ℕ)
    (d : OrderKey) (found : Option (List (List ℕ)))
    → k < length keys → MatchFirstOf P (candidates_at items (get_or keys k d).place) None
    → FirstFrom P items keys (k + 1) found → FirstFrom P items keys k found
key_passed P items keys k d found low n f =
    subst (λ (x : List (List (List ℕ))). MatchFirstOf P x found)
    (sym (first_key items keys k d low))
    (first_append P (candidates_at items (get_or keys k d).place)
    (all_candidates (ordered_items items (drop (k + 1) keys))) found n f)

-- After the last key nothing is found.
pub keys_over : (P : List (List ℕ) → Type 0) (items : List Item) (keys : List OrderKey) (k : ℕ)
    → length keys ≤ k → FirstFrom P items keys k None
keys_over P items keys k h =
    subst (λ (x : List OrderKey). MatchFirstOf P (all_candidates (ordered_items items x)) None)
    (sym (drop_all k keys h)) (All-nil (λ y. ¬ P y))

-- What is found from the first key on is the answer of lookup.
pub looked_up : (items : List Item) (held : List ℕ → Bool) (keys : List OrderKey)
    (found : Option (List (List ℕ)))
    → AreOrderKeys items keys → FirstFrom (IsOpen items held) items keys 0 found
    → IsLookedUp items held found
looked_up items held keys found t f =
    record {
      ordered = ordered_items items keys;
      order_ok =
          record { keys = keys; keys_ok = t; items_are = refl };
      found_is = f;
    }

-- a text is held where its pieces, joined, are
pub held_text : (items : List Item) (held : List ℕ → Bool) (text : List ℕ) (r : Bool)
    → IsTrue r ↔ (IsTrue (held text) × ¬ NamedRefuse items (pieces text))
    → IsTrue r ↔ IsOpen items held (pieces text)
held_text items held text r b =
    subst (λ (x : List ℕ). IsTrue r ↔ (IsTrue (held x) × ¬ NamedRefuse items (pieces text)))
    (sym (joined-pieces text)) b

-- what lookup finds is held
pub found_held : (items : List Item) (held : List ℕ → Bool) (text : List ℕ)
    → IsLookedUp items held (Some (pieces text)) → held text ≡ true
found_held items held text l = ap held (sym (joined-pieces text)) ∙ l.found_is.passes.0

-- At a place after the last item there is no candidate to find.
pub no_candidates : (P : List (List ℕ) → Type 0) (items : List Item) (place : ℕ)
    → length items ≤ place → MatchFirstOf P (candidates_at items place) None
no_candidates P items place past = rw (slice_get_past items place past) (All-nil (λ y. ¬ P y))

-- What is found among the candidates of an item is found at its place.
pub item_candidates : (P : List (List ℕ) → Type 0) (items : List Item) (place : ℕ) (i : Item)
    (found : Option (List (List ℕ)))
    → place < length items → i ≡ get_or items place i → MatchFirstOf P (candidates_of i) found
    → MatchFirstOf P (candidates_at items place) found
item_candidates P items place i found low e f = rw (stands_at items place i low e) f

-- ---- lookup has one answer

not_before : {X : Type 0} (P : X → Type 0) (before after : List X) (x : X) → P x
    → ¬ All (λ y. ¬ P y) (before ++ x ∷ after)
not_before P [] after x p all = All-head (λ y. ¬ P y) x after all p
not_before P (y ∷ before) after x p all =
    not_before P before after x p (All-tail (λ z. ¬ P z) y (before ++ x ∷ after) all)

same_first : {X : Type 0} (P : X → Type 0) (b c a d : List X) (x y : X) → b ++ x ∷ a ≡ c ++ y ∷ d
    → All (λ z. ¬ P z) b → All (λ z. ¬ P z) c → P x → P y → x ≡ y
same_first P [] [] a d x y e m n p q = cc
same_first P [] (z ∷ c) a d x y e m n p q =
    absurd (let s : x ≡ z = cc in All-head (λ w. ¬ P w) z c n (subst P s p))
same_first P (z ∷ b) [] a d x y e m n p q =
    absurd (let s : z ≡ y = cc in All-head (λ w. ¬ P w) z b m (subst P (sym s) q))
same_first P (z ∷ b) (w ∷ c) a d x y e m n p q =
    same_first P b c a d x y (cc) (All-tail (λ v. ¬ P v) z b m) (All-tail (λ v. ¬ P v) w c n) p q

-- A list has one element that is the first to pass, or none.
pub one_first : {X : Type 0} (P : X → Type 0) (list : List X) (a b : Option X)
    → MatchFirstOf P list a → MatchFirstOf P list b → a ≡ b
one_first P list None None f g = refl
one_first P list None (Some y) f g =
    absurd (not_before P g.before g.after y g.passes (subst (All (λ z. ¬ P z)) g.whole f))
one_first P list (Some x) None f g =
    absurd (not_before P f.before f.after x f.passes (subst (All (λ z. ¬ P z)) f.whole g))
one_first P list (Some x) (Some y) f g =
    ap Some
    (same_first P f.before g.before f.after g.after x y (sym f.whole ∙ g.whole) f.none_before
    g.none_before f.passes g.passes)

-- Lookup has one answer.
pub one_lookup : (items : List Item) (held : List ℕ → Bool) (a b : Option (List (List ℕ)))
    → IsLookedUp items held a → IsLookedUp items held b → a ≡ b
one_lookup items held a b f g =
    let same : f.ordered ≡ g.ordered =
    one_order_of items f.ordered g.ordered f.order_ok g.order_ok in
    one_first (IsOpen items held) (all_candidates g.ordered) a b
    (subst (λ (x : List Item). MatchFirstOf (IsOpen items held) (all_candidates x) a) same
    f.found_is) g.found_is
