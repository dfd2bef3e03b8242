-- Items in buckets.
--
-- The items of a long list are put into buckets by one subtag of each range other than "*"; those
-- without one are in the last bucket. A range that matches a tag has each such subtag in the tag,
-- so only the buckets of the tag's subtags and the last one are searched. Places of a bucket are
-- linked by ascending place. The best of several buckets is the better of each, and so the best of
-- all items.
use Rattle.std.proofs.Common.{ℕ, ◌≡◌, ◌≢◌, ◌≤◌, ◌<◌, ◌+◌, ◌⊎◌, List, [], ◌∷◌, ◌++◌, Option}
use Rattle.std.proofs.Common.{Some, None}
use Rattle.std.proofs.Common.{true, false, inl, inr, length, get_or, refl, sym, ◌∙◌, ap, subst}
use Rattle.std.proofs.Common.{arith}
use Rattle.std.specs.Prelude.{AllPairs, Contains, nat_eq, slice_set, replicate}
use Rattle.std.specs.List.{list_any, slice_get}
use Rattle.std.specs.Str.{bytes_eq}
use Rattle.std.proofs.lemmas.Bool.{cases_Bool, cases_lt, cases_eq}
use Rattle.std.proofs.lemmas.Bool.Decides.{nat_tests}
use Rattle.std.proofs.lemmas.List.{length-replicate, get_or-replicate, length_push}
use Rattle.std.proofs.lemmas.List.{get_or_append_left, get_or-append-add, length-set}
use Rattle.std.proofs.lemmas.List.{get_or-set_same, get_or-set_other}
use Rattle.std.proofs.lemmas.List.Elements.{Contains-append_left, Contains-append_right}
use Rattle.std.proofs.lemmas.List.Elements.{Contains-append_cases}
use Rattle.std.proofs.lemmas.List.Folds.{list_any_at}
use Rattle.std.proofs.lemmas.List.Quantifiers.{all_pairs_push}
use Rattle.std.proofs.lemmas.Nat.{mod_below}
use Rattle.std.proofs.lemmas.Option.{slice_get_within}
use Rattle.lang_core.specs.Text.{pieces}
use Rattle.lang_core.specs.Grammar.{is_star}
use Rattle.lang_core.specs.Matching.{Embeds, Extended, without_stars, specificity}
use Rattle.list_core.proofs.Basics.{false_true, contains_first, contains_later, contains_cases}
use Rattle.list_core.proofs.Basics.{same_at}
use Rattle.list_core.proofs.DecidingMostSpecificLemmas.{best_same, better_joins, Before, passed}
use Rattle.list_core.proofs.DecidingMostSpecificLemmas.{newest}
use Rattle.list_core.proofs.DecidingMostSpecificLemmas.{passed_to, all_before}
use Rattle.list_core.specs.Deciding.{IsBest}
use Rattle.list_core.specs.inner.Deciding.{better_of, is_above}
use Rattle.list_core.specs.declared.deciding.MostSpecific.{MostSpecific}
use Rattle.list_core.specs.Item.{Item}
use Rattle.list_core.specs.Fingerprint.{fingerprint_of}
use Rattle.list_core.specs.Buckets.{subtag_bucket, MayBeIn, AreNumbers, IsNextIn, AreLinksFrom}
use Rattle.list_core.specs.Buckets.{AreLinked}
use Rattle.list_core.specs.inner.Buckets.{IsIn, IsAmongBuckets, IsBucketOfOne, AreBucketsOf}
use Rattle.list_core.specs.declared.buckets.TheConstants.{LAST_BUCKET, BUCKET_COUNT}
use Rattle.list_core.specs.declared.buckets.Buckets.{Buckets}

-- ---- what a range that matches has, the tag has

kept : (list : List (List ℕ)) (s : List ℕ) → Contains list s → is_star s ≡ false
    → Contains (without_stars list) s
kept [] s c e = absurd (let low = c.1 in omega arith)
kept (t ∷ list) s c e = elim (contains_cases t s list c) [
  | inl same ↦
      (let f : is_star t ≡ false = ap is_star same ∙ e in
      rw f (subst (Contains (t ∷ without_stars list)) same (contains_first t (without_stars list))))
  | inr later ↦ elim (cases_Bool (is_star t)) [
    | inl f ↦ rw f (kept list s later e)
    | inr f ↦ rw f (contains_later t s (without_stars list) (kept list s later e))
  ]
]

embeds_has : (wanted given : List (List ℕ)) (s : List ℕ) → Embeds wanted given → Contains wanted s
    → Contains given s
embeds_has [] given s h c = absurd (let low = c.1 in omega arith)
embeds_has (w ∷ wanted) [] s h c = absurd h
embeds_has (w ∷ wanted) (g ∷ given) s (inl h) c = elim (contains_cases w s wanted c) [
  | inl same ↦ subst (Contains (g ∷ given)) (sym h.0 ∙ same) (contains_first g given)
  | inr later ↦ contains_later g s given (embeds_has wanted given s h.1 later)
]
embeds_has (w ∷ wanted) (g ∷ given) s (inr h) c =
    contains_later g s given (embeds_has (w ∷ wanted) given s h.1 c)

-- Each subtag other than "*" of a range that matches is one of the tag.
pub extended_has : (range tag : List (List ℕ)) (s : List ℕ) → Extended range tag → Contains range s
    → is_star s ≡ false → Contains tag s
extended_has [] tag s h c e = absurd h
extended_has (r ∷ range) [] s h c e = absurd h
extended_has (r ∷ range) (t ∷ tag) s h c e = elim (contains_cases r s range c) [
  | inl same ↦ elim h.0 [
    | inl star ↦ absurd (false_true (sym e ∙ (ap is_star (sym same) ∙ star)))
    | inr alike ↦ subst (Contains (t ∷ tag)) (sym alike ∙ same) (contains_first t tag)
  ]
  | inr later ↦
      contains_later t s tag (embeds_has (without_stars range) tag s h.1 (kept range s later e))
]

-- ---- how a bucket is chosen

-- Comparing a subtag with the byte 42 decides whether it is "*".
pub star_test : (s : List ℕ) → bytes_eq s (42 ∷ []) ≡ is_star s
unfolding is_star
star_test [] = refl
star_test (b ∷ []) = grind arith
star_test (b ∷ c ∷ s) = grind arith

-- The subtags that are left are among all of them.
abbrev pub AreAmong : List (List ℕ) → List (List ℕ) → Type 0
AreAmong left all = (s : List ℕ) → Contains left s → Contains all s

-- Where some subtags are among others, so are all of them but the first.
pub among_later : (s : List ℕ) (left all : List (List ℕ)) → AreAmong (s ∷ left) all
    → AreAmong left all
among_later s left all h = λ t c. h t (contains_later s t left c)

-- A range may be in the bucket of each of its subtags other than "*".
pub may_stand : (s : List ℕ) (left all : List (List ℕ)) (bucket : ℕ) → AreAmong (s ∷ left) all
    → bytes_eq s (42 ∷ []) ≡ false → bucket ≡ subtag_bucket s → MayBeIn all bucket
may_stand s left all bucket h e f =
    inr (s, h s (contains_first s left), sym (star_test s) ∙ e, sym f)

-- ---- the numbers of the buckets

-- With a bucket in which the next item's range may be, the numbers are those of one item more.
pub push_number : (items : List Item) (n : ℕ) (i : Item) (numbers : List ℕ) (number : ℕ)
    → AreNumbers items n numbers → slice_get items n ≡ Some i → MayBeIn (pieces i.range) number
    → number < BUCKET_COUNT → AreNumbers items (n + 1) (numbers ++ number ∷ [])
push_number items n i numbers number a s m small =
    let size = length_push numbers number in
    let many = a.as_many in
    record {
      as_many = omega arith;
      within = λ k low. elim (cases_lt k n) [
        | inl below ↦
            (let e = get_or_append_left numbers (number ∷ []) 0 k (omega arith) in let w =
            a.within k below in omega arith)
        | inr above ↦ (let e = last_is numbers number k (omega arith) in omega arith)
      ];
      may = λ k j low t. elim (cases_lt k n) [
        | inl below ↦
            subst (MayBeIn (pieces j.range))
            (sym (get_or_append_left numbers (number ∷ []) 0 k (omega arith))) (a.may k j below t)
        | inr above ↦ (let same : j ≡ i = same_at items k n i j (omega arith) s t in
            subst (MayBeIn (pieces j.range)) (sym (last_is numbers number k (omega arith)))
            (subst (λ (x : Item). MayBeIn (pieces x.range) number) (sym same) m))
      ];
    } where
      last_is : (numbers : List ℕ) (number : ℕ) (k : ℕ) → k ≡ length numbers
          → get_or (numbers ++ number ∷ []) k 0 ≡ number
      last_is numbers number k same =
          ap (λ (n : ℕ). get_or (numbers ++ number ∷ []) n 0) (omega arith)
          ∙ get_or-append-add numbers (number ∷ []) 0 0

-- ---- how buckets are linked

-- From the end of the items on, no bucket has a next place.
pub none_next : (numbers : List ℕ) (c : ℕ) → IsNextIn numbers c (length numbers) (length numbers)
none_next numbers c =
    record {
      after = omega arith;
      within = omega arith;
      none_between =
          λ k low high. absurd (omega arith);
      stands = λ low. absurd (omega arith);
    }

itself_next : (numbers : List ℕ) (c place : ℕ) → place < length numbers → get_or numbers place 0 ≡ c
    → IsNextIn numbers c place place
itself_next numbers c place low e =
    record {
      after = omega arith;
      within = omega arith;
      none_between =
          λ k le lt. absurd (omega arith);
      stands = λ _. e;
    }

other_next : (numbers : List ℕ) (c place next : ℕ) → (get_or numbers place 0 ≡ c → ⊥)
    → IsNextIn numbers c (place + 1) next → IsNextIn numbers c place next
other_next numbers c place next other h = record {
  after = (let a = h.after in omega arith);
  within = h.within;
  none_between = λ k le lt. elim (cases_lt place k) [
    | inl above ↦ h.none_between k (omega arith) lt
    | inr same ↦
        (λ e. other (ap (λ (n : ℕ). get_or numbers n 0) (let q : place ≡ k = omega arith in q) ∙ e))
  ];
  stands = h.stands;
}

-- Links that are the number of items throughout are the links from the end of the items on.
pub none_linked : (buckets : ℕ) (numbers : List ℕ)
    → AreLinksFrom buckets numbers (length numbers) (replicate buckets (length numbers))
    (replicate (length numbers) (length numbers))
none_linked buckets numbers = record {
  many = length-replicate buckets (length numbers);
  each = length-replicate (length numbers) (length numbers);
  first_is =
      λ c low.
      subst (λ (n : ℕ). IsNextIn numbers c (length numbers) n)
      (sym (get_or-replicate buckets c (length numbers) 0 low)) (none_next numbers c);
  next_is = λ k le low. absurd (omega arith);
}

-- a place is put before those of its bucket
pub link_more : (buckets : ℕ) (numbers first next : List ℕ) (place bucket after : ℕ)
    → place < length numbers → bucket ≡ get_or numbers place 0 → bucket < buckets
    → after ≡ get_or first bucket 0 → AreLinksFrom buckets numbers (place + 1) first next
    → AreLinksFrom buckets numbers place (slice_set first bucket place) (slice_set next place after)
link_more buckets numbers first next place bucket after low here small a h = record {
  many = length-set first bucket place ∙ h.many;
  each = length-set next place after ∙ h.each;
  first_is = λ c lt. elim (cases_eq c bucket) [
    | inl same ↦
        (let is : get_or (slice_set first bucket place) c 0 ≡ place =
        ap (λ (n : ℕ). get_or (slice_set first bucket place) n 0) same
        ∙ get_or-set_same first bucket place 0 (let m = h.many in omega arith) in
        subst (λ (n : ℕ). IsNextIn numbers c place n) (sym is)
        (itself_next numbers c place low (sym here ∙ sym same)))
    | inr other ↦
        (let is : get_or (slice_set first bucket place) c 0 ≡ get_or first c 0 =
        get_or-set_other first bucket c place 0 other in
        subst (λ (n : ℕ). IsNextIn numbers c place n) (sym is)
        (other_next numbers c place (get_or first c 0) (λ e. other (sym e ∙ sym here))
        (h.first_is c lt)))
  ];
  next_is = λ k le lt. elim (cases_eq k place) [
    | inl same ↦
        (let is : get_or (slice_set next place after) k 0 ≡ get_or first bucket 0 =
        ap (λ (n : ℕ). get_or (slice_set next place after) n 0) same
        ∙ (get_or-set_same next place after 0 (let e = h.each in omega arith) ∙ a) in
        let number : bucket ≡ get_or numbers k 0 =
        here ∙ ap (λ (n : ℕ). get_or numbers n 0) (sym same) in
        let later : place + 1 ≡ k + 1 = omega arith in
        subst (λ (n : ℕ). IsNextIn numbers (get_or numbers k 0) (k + 1) n) (sym is)
        (subst (λ (n : ℕ). IsNextIn numbers (get_or numbers k 0) n (get_or first bucket 0)) later
        (subst (λ (n : ℕ). IsNextIn numbers n (place + 1) (get_or first bucket 0)) number
        (h.first_is bucket small))))
    | inr other ↦
        (let is : get_or (slice_set next place after) k 0 ≡ get_or next k 0 =
        get_or-set_other next place k after 0 other in
        subst (λ (n : ℕ). IsNextIn numbers (get_or numbers k 0) (k + 1) n) (sym is)
        (h.next_is k (let o = other in grind arith) lt))
  ];
}

-- ---- how a bucket is searched

-- an item of the bucket that fits
abbrev pub FitsIn : (Item → Type 0) → List ℕ → ℕ → ℕ → Item → Type 0
FitsIn Fits numbers bucket k i = IsIn numbers bucket k × Fits i

-- The best of the items of the bucket before a place, which is the end or in the bucket too.
pub record IsAskedTo (Fits : Item → Type 0) (items : List Item) (numbers : List ℕ)
    (bucket place : ℕ) (best : Option MostSpecific) : Type 0 where
  pub so_far : IsBest (Before (FitsIn Fits numbers bucket) place) items best
  pub stands : place < length items → IsIn numbers bucket place

next_of : (items : List Item) (numbers : List ℕ) (buckets : Buckets) (bucket place : ℕ)
    → AreLinked items numbers buckets → place < length items → IsIn numbers bucket place
    → IsNextIn numbers bucket (place + 1) (get_or buckets.next.items place 0)
next_of items numbers buckets bucket place h low s =
    subst (λ (n : ℕ). IsNextIn numbers n (place + 1) (get_or buckets.next.items place 0)) s
    (h.links_ok.next_is place (omega arith) (let m = h.numbers_ok.as_many in omega arith))

asked_on : (Fits : Item → Type 0) (items : List Item) (numbers : List ℕ) (buckets : Buckets)
    (bucket place next : ℕ) (best : Option MostSpecific) → AreLinked items numbers buckets
    → place < length items → IsIn numbers bucket place → next ≡ get_or buckets.next.items place 0
    → IsBest (Before (FitsIn Fits numbers bucket) (place + 1)) items best
    → IsAskedTo Fits items numbers bucket next best
asked_on Fits items numbers buckets bucket place next best h low s e b =
    let n : IsNextIn numbers bucket (place + 1) next =
    subst (λ (m : ℕ). IsNextIn numbers bucket (place + 1) m) (sym e)
    (next_of items numbers buckets bucket place h low s) in
    record {
      so_far =
          passed_to (FitsIn Fits numbers bucket) items (place + 1) next best n.after
          (λ k i le lt f. n.none_between k le lt f.0) b;
      stands = λ lt. n.stands (let m = h.numbers_ok.as_many in omega arith);
    }

-- An item of the bucket that fits and has more subtags than the best so far is the best up to the
-- bucket's next place.
pub asked_better : (Fits : Item → Type 0) (items : List Item) (numbers : List ℕ) (buckets : Buckets)
    (bucket place next many : ℕ) (i : Item) (best : Option MostSpecific)
    → AreLinked items numbers buckets → place < length items
    → next ≡ get_or buckets.next.items place 0 → slice_get items place ≡ Some i
    → many ≡ specificity (pieces i.range) → Fits i → is_above best many ≡ true
    → IsAskedTo Fits items numbers bucket place best
    → IsAskedTo Fits items numbers bucket next (Some (record { place = place; specificity = many }))
asked_better Fits items numbers buckets bucket place next many i best h low e s n fits above a =
    asked_on Fits items numbers buckets bucket place next
    (Some (record { place = place; specificity = many })) h low (a.stands low) e
    (newest (FitsIn Fits numbers bucket) items place many i best s n (a.stands low, fits) above
    a.so_far)

-- An item of the bucket that does not fit, or has no more subtags than the best so far, leaves the
-- best up to the bucket's next place.
pub asked_passed : (Fits : Item → Type 0) (items : List Item) (numbers : List ℕ) (buckets : Buckets)
    (bucket place next : ℕ) (i : Item) (best : Option MostSpecific) → AreLinked items numbers
    buckets
    → place < length items → next ≡ get_or buckets.next.items place 0
    → slice_get items place ≡ Some i
    → (Fits i → is_above best (specificity (pieces i.range)) ≡ false)
    → IsAskedTo Fits items numbers bucket place best → IsAskedTo Fits items numbers bucket next best
asked_passed Fits items numbers buckets bucket place next i best h low e s not a =
    asked_on Fits items numbers buckets bucket place next best h low (a.stands low) e
    (passed (FitsIn Fits numbers bucket) items place i best s (λ f. not f.1) a.so_far)

-- The best so far, at the end of the items, is the best of the whole bucket.
pub asked_whole : (Fits : Item → Type 0) (items : List Item) (numbers : List ℕ) (bucket place : ℕ)
    (best : Option MostSpecific) → length items ≤ place
    → IsAskedTo Fits items numbers bucket place best → IsBest (FitsIn Fits numbers bucket) items
    best
asked_whole Fits items numbers bucket place best end a =
    all_before (FitsIn Fits numbers bucket) items place best end a.so_far

-- ---- the buckets of a tag's subtags

same_number : (m n : ℕ) → nat_eq m n ≡ true → m ≡ n
same_number m n h = grind (arith, nat_tests)

number_same : (m n : ℕ) → m ≡ n → nat_eq m n ≡ true
number_same m n h = grind (arith, nat_tests)

any_contains : (list : List ℕ) (n : ℕ) → list_any (λ m. nat_eq m n) list ≡ true → Contains list n
any_contains [] n h = cc
any_contains (m ∷ list) n h = elim (cases_Bool (nat_eq m n)) [
  | inl e ↦ subst (Contains (m ∷ list)) (same_number m n e) (contains_first m list)
  | inr e ↦ contains_later m n list (any_contains list n (rw e at h))
]

-- the buckets of a tag's subtags before those that are left, each once
pub record AreBucketsSoFar (tag left : List (List ℕ)) (buckets : List ℕ) : Type 0 where
  pub room : length buckets + length left ≤ length tag
  pub among : AreAmong left tag
  pub each : (s : List ℕ) → Contains tag s → Contains left s ⊎ Contains buckets (subtag_bucket s)
  pub only : (c : ℕ) → Contains buckets c → IsBucketOfOne tag c
  pub once : AllPairs ◌≢◌ buckets

-- Where the next subtag's bucket is there already, the buckets so far are those of one subtag more.
pub old_bucket : (tag left : List (List ℕ)) (s : List ℕ) (bucket : ℕ) (buckets : List ℕ)
    → AreBucketsSoFar tag (s ∷ left) buckets → bucket ≡ subtag_bucket s
    → list_any (λ c. nat_eq c bucket) buckets ≡ true → AreBucketsSoFar tag left buckets
old_bucket tag left s bucket buckets h is there = record {
  room = (let r = h.room in omega arith);
  among = among_later s left tag h.among;
  each = λ t c. elim (h.each t c) [
    | inl old ↦ elim (contains_cases s t left old) [
      | inl same ↦
          inr (subst (Contains buckets) (is ∙ ap subtag_bucket same) (any_contains buckets bucket
          there))
      | inr later ↦ inl later
    ]
    | inr done ↦ inr done
  ];
  only = h.only;
  once = h.once;
}

-- With the next subtag's bucket, which is not there, the buckets are those of one subtag more.
pub new_bucket : (tag left : List (List ℕ)) (s : List ℕ) (bucket : ℕ) (buckets : List ℕ)
    → AreBucketsSoFar tag (s ∷ left) buckets → bucket ≡ subtag_bucket s
    → list_any (λ c. nat_eq c bucket) buckets ≡ false
    → AreBucketsSoFar tag left (buckets ++ bucket ∷ [])
new_bucket tag left s bucket buckets h is new = record {
  room = (let r = h.room in let size = length_push buckets bucket in omega arith);
  among = among_later s left tag h.among;
  each = λ t c. elim (h.each t c) [
    | inl old ↦ elim (contains_cases s t left old) [
      | inl same ↦
          inr
          (Contains-append_right buckets (bucket ∷ []) (subtag_bucket t)
          (subst (Contains (bucket ∷ [])) (is ∙ ap subtag_bucket same) (contains_first bucket [])))
      | inr later ↦ inl later
    ]
    | inr done ↦ inr (Contains-append_left buckets (bucket ∷ []) (subtag_bucket t) done)
  ];
  only = λ c there. elim (Contains-append_cases buckets (bucket ∷ []) c there) [
    | inl old ↦ h.only c old
    | inr one ↦ elim (contains_cases bucket c [] one) [
      | inl same ↦ (s, h.among s (contains_first s left), sym is ∙ same)
      | inr none ↦ absurd (let low = none.1 in omega arith)
    ]
  ];
  once =
      all_pairs_push ◌≢◌ buckets bucket h.once
      (λ k d low same. false_true
      (sym new
      ∙ list_any_at (λ c. nat_eq c bucket) buckets k d low
      (number_same (get_or buckets k d) bucket same)));
}

-- Where no subtag is left, the buckets so far are those of the tag.
pub all_buckets : (tag : List (List ℕ)) (buckets : List ℕ) → AreBucketsSoFar tag [] buckets
    → AreBucketsOf tag buckets
all_buckets tag buckets h = record {
  each = λ s c. elim (h.each s c) [
    | inl none ↦ absurd (let low = none.1 in omega arith)
    | inr done ↦ done
  ];
  only = h.only;
  once = h.once;
}

-- The buckets of a tag are not the last one.
pub before_last : (tag : List (List ℕ)) (buckets : List ℕ) (bucket : ℕ) → AreBucketsOf tag buckets
    → Contains buckets bucket → bucket < LAST_BUCKET
before_last tag buckets bucket h c =
    let one = h.only bucket c in
    subst (λ (n : ℕ). n < LAST_BUCKET) one.2
    (mod_below (fingerprint_of one.0) LAST_BUCKET (omega arith))

-- ---- which buckets are searched

-- an item of one of these buckets, or of the last one, that fits
abbrev pub FitsAmong : (Item → Type 0) → List ℕ → List ℕ → ℕ → Item → Type 0
FitsAmong Fits numbers buckets k i = IsAmongBuckets numbers buckets k × Fits i

-- The best of the last bucket is the best of that bucket and of no other.
pub last_asked : (Fits : Item → Type 0) (items : List Item) (numbers : List ℕ)
    (best : Option MostSpecific) → IsBest (FitsIn Fits numbers LAST_BUCKET) items best
    → IsBest (FitsAmong Fits numbers []) items best
last_asked Fits items numbers best h =
    best_same (FitsIn Fits numbers LAST_BUCKET) (FitsAmong Fits numbers []) items best
    (λ k i. (
      (λ f. (inl f.0, f.1)),
      (λ f. elim f.0 [
        | inl last ↦ (last, f.1)
        | inr none ↦ absurd (let low = none.1 in omega arith)
      ]),
    ))
    h

-- With one more bucket, the best is the better of the best so far and of that bucket.
pub one_asked : (Fits : Item → Type 0) (items : List Item) (numbers buckets : List ℕ) (bucket : ℕ)
    (best found : Option MostSpecific) → IsBest (FitsAmong Fits numbers buckets) items best
    → IsBest (FitsIn Fits numbers bucket) items found
    → IsBest (FitsAmong Fits numbers (buckets ++ bucket ∷ [])) items (better_of best found)
one_asked Fits items numbers buckets bucket best found h f =
    better_joins (FitsAmong Fits numbers buckets) (FitsIn Fits numbers bucket)
    (FitsAmong Fits numbers (buckets ++ bucket ∷ [])) items best found
    (λ k i. (
      (λ a. (
        elim a.0 [
          | inl last ↦ inl last
          | inr old ↦ inr (Contains-append_left buckets (bucket ∷ []) (get_or numbers k 0) old)
        ],
        a.1,
      )),
      (λ s. (
        inr
            (Contains-append_right buckets (bucket ∷ []) (get_or numbers k 0)
            (subst (Contains (bucket ∷ [])) (sym s.0) (contains_first bucket []))),
        s.1,
      )),
      (λ a. elim a.0 [
        | inl last ↦ inl (inl last, a.1)
        | inr there ↦
            elim (Contains-append_cases buckets (bucket ∷ []) (get_or numbers k 0) there) [
              | inl old ↦ inl (inr old, a.1)
              | inr one ↦ elim (contains_cases bucket (get_or numbers k 0) [] one) [
                | inl same ↦ inr (sym same, a.1)
                | inr none ↦ absurd (let low = none.1 in omega arith)
              ]
            ]
      ]),
    ))
    h f

stands_among : (items : List Item) (numbers : List ℕ) (tag : List (List ℕ)) (buckets : List ℕ)
    (k : ℕ) (i : Item) → AreNumbers items (length items) numbers → AreBucketsOf tag buckets
    → slice_get items k ≡ Some i → Extended (pieces i.range) tag → IsAmongBuckets numbers buckets k
stands_among items numbers tag buckets k i n t s h =
    elim (n.may k i (slice_get_within items k i s) s) [
      | inl last ↦ inl last
      | inr one ↦
          inr (subst (Contains buckets) one.3
          (t.each one.0 (extended_has (pieces i.range) tag one.0 h one.1 one.2)))
    ]

-- The best of the last bucket and the buckets of a tag's subtags is the best of all items.
pub all_asked : (items : List Item) (numbers : List ℕ) (tag : List (List ℕ)) (buckets : List ℕ)
    (best : Option MostSpecific) → AreNumbers items (length items) numbers → AreBucketsOf tag
    buckets
    → IsBest (FitsAmong (λ i. Extended (pieces i.range) tag) numbers buckets) items best
    → IsBest (λ _ i. Extended (pieces i.range) tag) items best
all_asked items numbers tag buckets None n t h =
    λ k other s f. h k other s (stands_among items numbers tag buckets k other n t s f, f)
all_asked items numbers tag buckets (Some best) n t h = record {
  item = h.item;
  stands = h.stands;
  specificity_is = h.specificity_is;
  fits = h.fits.1;
  most = λ k other s f. h.most k other s (
    stands_among items numbers tag buckets k other n t s f,
    f,
  );
  first =
      λ k other low s f. h.first k other low s
      (stands_among items numbers tag buckets k other n t s f, f);
}
