-- The language that the ranges of a list match first.
--
-- Of each language the first place in the order of lookup is found at which an item matches it and
-- it is not refused. The earliest over a set of languages is that with the least place, and the
-- least bytes among those of one place. Language by language the earliest so far is kept. At a
-- place of the walk over the keys it is then known without a search whether the item there has a
-- widened candidate: just if the earliest is matched there.
use Rattle.std.proofs.Common.{ℕ, ◌≡◌, ◌+◌, ◌≤◌, ◌<◌, List, [], ◌∷◌, ◌++◌, Option, Some, None}
use Rattle.std.proofs.Common.{true, false, inl, inr, refl, sym, ◌∙◌, ap, subst, arith, get_or, take}
use Rattle.std.proofs.Common.{length}
use Rattle.std.specs.Prelude.{◌==◌, ◌&&◌, nat_lt}
use Rattle.std.specs.List.{slice_get}
use Rattle.std.specs.Cmp.Lexicographic.{slice_cmp}
use Rattle.std.specs.Ordering.{nat_cmp, is_lt}
use Rattle.std.proofs.lemmas.Bool.{cases_Bool, cases_lt, ltb-false, ltb-true}
use Rattle.std.proofs.lemmas.Bool.Decides.{nat_tests}
use Rattle.std.proofs.lemmas.Cmp.{nat_list_cmp_total}
use Rattle.std.proofs.lemmas.Option.{slice_get_past}
use Rattle.std.proofs.lemmas.List.Elements.{All-push, All-weaker}
use Rattle.std.proofs.lemmas.List.Elements.{Contains-append_left, Contains-push}
use Rattle.lang_core.specs.Text.{pieces}
use Rattle.list_core.specs.Item.{Item}
use Rattle.nego_core.specs.Choosing.{MatchFirstOf}
use Rattle.nego_core.specs.inner.Choosing.{candidates_at}
use Rattle.list_core.specs.Deciding.{NamedRefuse}
use Rattle.list_core.specs.FirstTried.{IsFirstTried, item_tried}
use Rattle.list_core.specs.LookupOrder.{AreOrderKeys}
use Rattle.nego_core.specs.WidenedChoice.{IsTriedAt, IsNotBefore, MatchEarliest}
use Rattle.nego_core.specs.inner.WidenedChoice.{IsFirstWidenedAt, IsTriedFirst, is_earlier}
use Rattle.nego_core.specs.Widening.{Ascends}
use Rattle.list_core.specs.Deciding.{MatchesLang}
use Rattle.list_core.specs.declared.lookup_order.OrderKey.{OrderKey}
use Rattle.list_core.specs.declared.scheme.Scheme.{Scheme}
use Rattle.nego_core.specs.declared.widened_choice.Earliest.{Earliest}
use Rattle.list_core.proofs.Basics.{false_true}
use Rattle.lang_core.proofs.Basics.{less_of as lt_less}
use Rattle.nego_core.proofs.FilteringKeys.{take_next}
use Rattle.list_core.proofs.FirstTriedLemmas.{tried_at}
use Rattle.list_core.proofs.LookupOrderLemmas.{one_keys}
use Rattle.nego_core.proofs.WideningLemmas.{Fits, MatchLeast, Open, by_candidate, by_match, by_none}
use Rattle.nego_core.proofs.WideningLemmas.{first_among}
use Rattle.nego_core.proofs.WideningAscending.{not_itself}
use Rattle.nego_core.proofs.WideningLemmas.{less_lt}

-- ---- one language

-- The item at a place of the order that matches a language, by the keys that are known.
pub matched_item : (s : Scheme) (items : List Item) (lang : List ℕ) (n : ℕ) (keys : List OrderKey)
    → AreOrderKeys items keys → IsTriedAt s items lang n
    → (i : Item) × (item_tried items keys n ≡ Some i) × MatchesLang s i lang
matched_item s items lang n keys o m =
    let same : m.0 ≡ keys = one_keys items m.0 keys m.1 o in
    (m.2.0, subst (λ (x : List OrderKey). item_tried items x n ≡ Some m.2.0) same m.2.1, m.2.2)

-- What is first tried of what matches a language, which is not refused, matches it first.
pub matched_first : (s : Scheme) (items : List Item) (lang : List ℕ) (n : ℕ) (keys : List OrderKey)
    → AreOrderKeys items keys → IsFirstTried (λ i. MatchesLang s i lang) items keys n
    → n < length keys → ¬ NamedRefuse items (pieces lang) → IsTriedFirst s items lang n
matched_first s items lang n keys o t low free = (
  (keys, o, t.fits low, free),
  λ m h. elim (cases_lt m n) [
    | inl less ↦ (let f = matched_item s items lang m keys o h in absurd (t.none_before m f.0 less
        f.1 f.2))
    | inr more ↦ more
  ],
)

-- Where nothing is tried that matches a language, it is matched nowhere.
pub matched_nowhere : (s : Scheme) (items : List Item) (lang : List ℕ) (n : ℕ) (keys : List
    OrderKey)
    → AreOrderKeys items keys → IsFirstTried (λ i. MatchesLang s i lang) items keys n
    → length keys ≤ n → (m : ℕ) → ¬ IsTriedAt s items lang m
matched_nowhere s items lang n keys o t past m h =
    let f = matched_item s items lang m keys o h in
    elim (cases_lt m n) [
      | inl less ↦ t.none_before m f.0 less f.1 f.2
      | inr more ↦ past_none (omega arith) f.0 f.1
    ] where
      past_none : length keys ≤ m → (i : Item) → item_tried items keys m ≡ Some i → ⊥
      past_none far i e = (let none = rw (slice_get_past keys m far) at e in cc)

-- ---- the earliest so far

-- A language that comes before the earliest so far takes its place.
pub earliest_new : (s : Scheme) (items : List Item) (langs : List (List ℕ)) (best : Option Earliest)
    (e : Earliest) → MatchEarliest s items langs best → IsTriedFirst s items e.lang.now e.tried
    → is_earlier e.tried e.lang.now best ≡ true → MatchEarliest s items (langs ++ e.lang.now ∷ [])
    (Some e)
earliest_new s items langs None e h m b = (
  Contains-push langs e.lang.now,
  m.0,
  All-push (λ l. (n : ℕ) → IsTriedAt s items l n → IsNotBefore n l e.tried e.lang.now) langs
      e.lang.now
      (All-weaker (λ l. (n : ℕ) → ¬ IsTriedAt s items l n)
      (λ l. (n : ℕ) → IsTriedAt s items l n → IsNotBefore n l e.tried e.lang.now)
      (λ l none n f. absurd (none n f)) langs h)
      (λ n f. (m.1 n f, λ _. not_itself e.lang.now)),
)
earliest_new s items langs (Some o) e h m b = (
  Contains-push langs e.lang.now,
  m.0,
  All-push (λ l. (n : ℕ) → IsTriedAt s items l n → IsNotBefore n l e.tried e.lang.now) langs
      e.lang.now
      (All-weaker (λ l. (n : ℕ) → IsTriedAt s items l n → IsNotBefore n l o.tried o.lang.now)
      (λ l. (n : ℕ) → IsTriedAt s items l n → IsNotBefore n l e.tried e.lang.now)
      (λ l before n f. later l n (before n f)) langs h.2)
      (λ n f. (m.1 n f, λ _. not_itself e.lang.now)),
) where
  later : (l : List ℕ) (n : ℕ) → IsNotBefore n l o.tried o.lang.now
      → IsNotBefore n l e.tried e.lang.now
  later l n before = elim (cases_Bool (nat_lt e.tried o.tried)) [
    | inl less ↦
        (let low = ltb-true e.tried o.tried less in let far = before.0 in
        (omega arith, λ same _. absurd (let e = same in omega arith)))
    | inr more ↦
        (let rest : ((e.tried == o.tried) && is_lt (slice_cmp nat_cmp e.lang.now o.lang.now)) ≡
        true =
        rw more at b in
        elim (cases_Bool (e.tried == o.tried)) [
          | inl same ↦
              (let equal : e.tried ≡ o.tried = grind (arith, nat_tests) in
              let below : Ascends e.lang.now o.lang.now =
              lt_less (slice_cmp nat_cmp e.lang.now o.lang.now) (rw same at rest) in
              let far = before.0 in (
                omega arith,
                λ at low.
                    before.1 (at ∙ equal)
                    (nat_list_cmp_total.trans l e.lang.now o.lang.now low below),
              ))
          | inr other ↦ absurd (false_true (rw other at rest))
        ])
  ]

-- A language that does not come before it changes nothing.
pub earliest_kept : (s : Scheme) (items : List Item) (langs : List (List ℕ)) (best : Option
    Earliest)
    (x : List ℕ) (tried : ℕ) → MatchEarliest s items langs best → IsTriedFirst s items x tried
    → is_earlier tried x best ≡ false → MatchEarliest s items (langs ++ x ∷ []) best
earliest_kept s items langs None x tried h m b = absurd (false_true (sym b))
earliest_kept s items langs (Some o) x tried h m b = (
  Contains-append_left langs (x ∷ []) o.lang.now h.0,
  h.1,
  All-push (λ l. (n : ℕ) → IsTriedAt s items l n → IsNotBefore n l o.tried o.lang.now) langs x h.2
      (λ n f. elim (cases_Bool (nat_lt tried o.tried)) [
        | inl less ↦ absurd (false_true (sym (rw less at b)))
        | inr more ↦
            (let rest : ((tried == o.tried) && is_lt (slice_cmp nat_cmp x o.lang.now)) ≡ false =
            rw more at b in
            let low = ltb-false tried o.tried more in
            let far = m.1 n f in (
              omega arith,
              λ same below.
                  (let equal : (tried == o.tried) ≡ true = grind (arith, nat_tests) in
                  false_true (sym (rw equal at rest)
                  ∙ less_lt (slice_cmp nat_cmp x o.lang.now) below)),
            ))
      ]),
)

-- Nor does a language that is not matched.
pub earliest_unmatched : (s : Scheme) (items : List Item) (langs : List (List ℕ)) (best : Option
    Earliest)
    (x : List ℕ) → MatchEarliest s items langs best → ((n : ℕ) → ¬ IsTriedAt s items x n)
    → MatchEarliest s items (langs ++ x ∷ []) best
earliest_unmatched s items langs None x h none =
    All-push (λ l. (n : ℕ) → ¬ IsTriedAt s items l n) langs x h none
earliest_unmatched s items langs (Some o) x h none = (
  Contains-append_left langs (x ∷ []) o.lang.now h.0,
  h.1,
  All-push (λ l. (n : ℕ) → IsTriedAt s items l n → IsNotBefore n l o.tried o.lang.now) langs x h.2
      (λ n f. absurd (none n f)),
)

-- the same of the languages of a list up to a place
pub earliest_next : (s : Scheme) (items : List Item) (langs : List (List ℕ)) (k : ℕ) (x : List ℕ)
    (best next : Option Earliest) → k < length langs → x ≡ get_or langs k x
    → MatchEarliest s items (take k langs) best
    → ((xs : List (List ℕ)) → MatchEarliest s items xs best → MatchEarliest s items (xs ++ x ∷ [])
    next)
    → MatchEarliest s items (take (k + 1) langs) next
earliest_next s items langs k x best next low e h step =
    subst (λ xs. MatchEarliest s items xs next) (sym (take_next langs k x low e)) (step (take k
    langs) h)

-- ---- the walk over the keys

-- A candidate that is open is the first widened candidate of the item at a place.
pub candidate_at : (s : Scheme) (items : List Item) (langs : List (List ℕ)) (place : ℕ)
    (found : List (List ℕ))
    → MatchFirstOf (Open items langs) (candidates_at items place) (Some found)
    → IsFirstWidenedAt s items langs place (Some found)
candidate_at s items langs place found f = at (slice_get items place) refl where
  at : (o : Option Item) → slice_get items place ≡ o
      → IsFirstWidenedAt s items langs place (Some found)
  at None e =
      let none : MatchFirstOf (Open items langs) [] (Some found) = rw e at f in
      absurd (let low = (first_among (Open items langs) [] found none).1 in omega arith)
  at (Some i) e = rw e (by_candidate s items langs i found (rw e at f))

-- no language is matched at a place of the order, or the earliest is matched there or later
abbrev pub IsFrom : ℕ → Option Earliest → Type 0
IsFrom at None = Unit {0}
IsFrom at (Some e) = at ≤ e.tried

-- Where no candidate is open, the earliest is the first widened candidate of the item that it is
-- matched at.
pub earliest_at : (s : Scheme) (items : List Item) (langs : List (List ℕ)) (keys : List OrderKey)
    (at : ℕ)
    (k : OrderKey) (e : Earliest) → at < length keys → k ≡ get_or keys at k
    → AreOrderKeys items keys → MatchEarliest s items langs (Some e) → e.tried ≡ at
    → MatchFirstOf (Open items langs) (candidates_at items k.place) None
    → IsFirstWidenedAt s items langs k.place (Some (pieces e.lang.now))
earliest_at s items langs keys at k e low is o h same none =
    let f = matched_item s items e.lang.now e.tried keys o h.1 in
    let here : slice_get items k.place ≡ Some f.0 =
    sym (tried_at items keys at k low is) ∙ (ap (item_tried items keys) (sym same) ∙ f.1) in
    rw here (by_match s items langs f.0 e.lang.now (rw here at none) (
      h.0,
      (f.2, h.1.3),
      All-weaker (λ l. (n : ℕ) → IsTriedAt s items l n → IsNotBefore n l e.tried e.lang.now)
          (λ l. Fits s items f.0 l → ¬ Ascends l e.lang.now)
          (λ l before fits. (before e.tried (keys, o, (f.0, f.1, fits.0), fits.1)).1 refl) langs
          h.2,
    ))

-- Where no candidate is open either, an item before that has no widened candidate.
pub none_at : (s : Scheme) (items : List Item) (langs : List (List ℕ)) (keys : List OrderKey) (at :
    ℕ)
    (k : OrderKey) (best : Option Earliest) → at < length keys → k ≡ get_or keys at k
    → AreOrderKeys items keys → MatchEarliest s items langs best → IsFrom (at + 1) best
    → MatchFirstOf (Open items langs) (candidates_at items k.place) None
    → IsFirstWidenedAt s items langs k.place None
none_at s items langs keys at k best low is o h from none = by_item (slice_get items k.place) refl
  where
    unfit : (b : Option Earliest) → MatchEarliest s items langs b → IsFrom (at + 1) b → (i : Item)
        → item_tried items keys at ≡ Some i → MatchLeast (Fits s items i) langs None
    unfit None m from i e =
        All-weaker (λ l. (n : ℕ) → ¬ IsTriedAt s items l n) (λ l. ¬ Fits s items i l)
        (λ l none fits. none at (keys, o, (i, e, fits.0), fits.1)) langs m
    unfit (Some x) m from i e =
        All-weaker (λ l. (n : ℕ) → IsTriedAt s items l n → IsNotBefore n l x.tried x.lang.now)
        (λ l. ¬ Fits s items i l)
        (λ l before fits.
        let late = (before at (keys, o, (i, e, fits.0), fits.1)).0 in let far = from in omega arith)
        langs m.2

    by_item : (x : Option Item) → slice_get items k.place ≡ x
        → IsFirstWidenedAt s items langs k.place None
    by_item None e = rw e refl
    by_item (Some i) e =
        rw e (by_none s items langs i (rw e at none)
        (unfit best h from i (tried_at items keys at k low is ∙ e)))
