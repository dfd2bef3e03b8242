-- Ranges in hash buckets.
use Rattle.std.proofs.Common.{ℕ, ◌≡◌, ◌<◌, ◌+◌, List, [], ◌∷◌, Some, inl, inr, false}
use Rattle.std.proofs.Common.{◌≤◌, true, cond, sym, ◌∙◌, ap, subst, arith, length, get_or, take}
use Rattle.std.specs.Prelude.{◌==◌, count_by, slice_set}
use Rattle.std.specs.List.{slice_get}
use Rattle.std.specs.Str.{bytes_eq}
use Rattle.std.proofs.lemmas.Bool.{cases_eq, cases_lt}
use Rattle.std.proofs.lemmas.Bool.Decides.{nat_tests}
use Rattle.std.proofs.lemmas.Nat.{mod_below}
use Rattle.std.proofs.lemmas.List.{length-map, get_or-map}
use Rattle.std.proofs.lemmas.List.{length-set, get_or-set_same, get_or-set_other, take_all}
use Rattle.std.proofs.lemmas.List.Sums.{count_by_more_yes, count_by_more_no, sum_by-take-le}
use Rattle.std.proofs.lemmas.Option.{slice_get_within, get_or_from_slice_get}
use Rattle.lang_core.proofs.SubtagClassSums.{no_test as number_differs}
use Rattle.list_core.proofs.IndexLemmas.{NoneBefore, none_here}
use Rattle.list_core.specs.Item.{Item}
use Rattle.list_core.specs.Fingerprint.{fingerprint_of}
use Rattle.list_core.specs.Buckets.{IsNextIn}
use Rattle.list_core.specs.HashedRanges.{AreTextBuckets, bucket_numbers, bucket_of}
use Rattle.list_core.specs.inner.HashedRanges.{IsCrowded}
use Rattle.list_core.specs.declared.buckets.Buckets.{Buckets}

-- ---- the numbers of the buckets

-- Each item has a bucket.
pub as_many_numbers : (buckets : ℕ) (items : List Item)
    → length (bucket_numbers buckets items) ≡ length items
as_many_numbers buckets items = simp length-map

number_at : (buckets : ℕ) (items : List Item) (k : ℕ) (i : Item) → slice_get items k ≡ Some i
    → get_or (bucket_numbers buckets items) k 0 ≡ bucket_of buckets i.range
number_at buckets items k i s =
    get_or-map (λ (x : Item). bucket_of buckets x.range) items k i 0
    (slice_get_within items k i s)
    ∙ ap (λ (x : Item). bucket_of buckets x.range) (get_or_from_slice_get items k i i s)

-- The buckets of the items are among so many.
pub numbers_within : (buckets : ℕ) (items : List Item) (k : ℕ) → 0 < buckets → k < length items
    → get_or (bucket_numbers buckets items) k 0 < buckets
numbers_within buckets [] k some low = absurd (omega arith)
numbers_within buckets (i ∷ items) k some low =
    subst (λ (n : ℕ). n < buckets)
    (sym (get_or-map (λ (x : Item). bucket_of buckets x.range) (i ∷ items) k i 0 low))
    (mod_below (fingerprint_of (get_or (i ∷ items) k i).range) buckets some)

-- The buckets of the items are among as many as there are items.
pub numbers_of_items : (items : List Item) (numbers : List ℕ) → 0 < length items
    → numbers ≡ bucket_numbers (length items) items → (k : ℕ) → k < length numbers
    → get_or numbers k 0 < length items
numbers_of_items items numbers some e k low =
    let size : length numbers ≡ length items =
    ap length e ∙ as_many_numbers (length items) items in
    subst (λ (x : List ℕ). get_or x k 0 < length items) (sym e)
    (numbers_within (length items) items k some (omega arith))

-- The buckets of the items are among as many as there are numbers.
pub numbers_of_numbers : (items : List Item) (numbers : List ℕ) → 0 < length items
    → numbers ≡ bucket_numbers (length items) items → (k : ℕ) → k < length numbers
    → get_or numbers k 0 < length numbers
numbers_of_numbers items numbers some e k low =
    let size : length numbers ≡ length items =
    ap length e ∙ as_many_numbers (length items) items in
    let small = numbers_of_items items numbers some e k low in
    omega arith

-- ---- how a bucket is searched

-- No item before a place of the text's bucket has the text.
pub record IsSoughtTo (items : List Item) (text : List ℕ) (place : ℕ) : Type 0 where
  pub none : NoneBefore items text place
  pub stands : place < length items
      → get_or (bucket_numbers (length items) items) place 0 ≡ bucket_of (length items) text

sought_on : (items : List Item) (text : List ℕ) (from place : ℕ) → NoneBefore items text from
    → IsNextIn (bucket_numbers (length items) items) (bucket_of (length items) text) from place
    → IsSoughtTo items text place
sought_on items text from place none n = record {
  none = λ k other lt s same. elim (cases_lt k from) [
    | inl before ↦ none k other before s same
    | inr after ↦
        n.none_between k after lt
        (number_at (length items) items k other s ∙ ap (bucket_of (length items)) same)
  ];
  stands =
      λ low. n.stands (let m = as_many_numbers (length items) items in omega arith);
}

-- Before the first place of its bucket no item has the text.
pub sought_first : (items : List Item) (buckets : Buckets) (text : List ℕ) (bucket place : ℕ)
    → AreTextBuckets items buckets → bucket ≡ bucket_of (length items) text → bucket < length items
    → place ≡ get_or buckets.first.items bucket 0 → IsSoughtTo items text place
sought_first items buckets text bucket place a b low e =
    sought_on items text 0 place (λ k other lt s same. omega arith)
    (subst
    (λ (p : ℕ). IsNextIn (bucket_numbers (length items) items) (bucket_of (length items) text) 0 p)
    (sym e)
    (subst
    (λ (c : ℕ). IsNextIn (bucket_numbers (length items) items) c 0
    (get_or buckets.first.items bucket 0)) b (a.1.first_is bucket low)))

-- Where the item at a place of the text's bucket has another text, the search goes on at the next
-- place of the bucket.
pub sought_next : (items : List Item) (buckets : Buckets) (text : List ℕ) (place next : ℕ)
    (i : Item) → AreTextBuckets items buckets → place < length items → i ≡ get_or items place i
    → bytes_eq i.range text ≡ false → next ≡ get_or buckets.next.items place 0
    → IsSoughtTo items text place → IsSoughtTo items text next
sought_next items buckets text place next i a low is other e h =
    sought_on items text (place + 1) next (none_here items text place i low is other h.none)
    (subst
    (λ (p : ℕ). IsNextIn (bucket_numbers (length items) items) (bucket_of (length items) text)
    (place + 1) p) (sym e)
    (subst
    (λ (c : ℕ). IsNextIn (bucket_numbers (length items) items) c (place + 1)
    (get_or buckets.next.items place 0)) (h.stands low)
    (a.1.next_is place (omega arith)
    (let m = as_many_numbers (length items) items in omega arith))))

-- ---- whether a bucket is crowded

-- the numbers of items in the buckets of the first k, none of which has more than the most
pub record AreLengths (most : ℕ) (numbers : List ℕ) (k : ℕ) (lengths : List ℕ) : Type 0 where
  pub many : length lengths ≡ length numbers
  pub each : (b : ℕ) → b < length numbers
      → get_or lengths b 0 ≡ count_by (λ n. n == b) (take k numbers)
  pub few : (b : ℕ) → count_by (λ n. n == b) (take k numbers) ≤ most

-- Equal numbers test as equal.
pub number_is : (n b : ℕ) → n ≡ b → (n == b) ≡ true
number_is n b h = grind (arith, nat_tests)

counted : (numbers : List ℕ) (k b : ℕ) → k < length numbers → get_or numbers k 0 ≡ b
    → count_by (λ n. n == b) (take (k + 1) numbers) ≡ count_by (λ n. n == b) (take k numbers) + 1
counted numbers k b low e =
    count_by_more_yes (λ n. n == b) numbers k 0 low (number_is (get_or numbers k 0) b e)

not_counted : (numbers : List ℕ) (k b : ℕ) → k < length numbers → (get_or numbers k 0 ≡ b → ⊥)
    → count_by (λ n. n == b) (take (k + 1) numbers) ≡ count_by (λ n. n == b) (take k numbers)
not_counted numbers k b low e =
    count_by_more_no (λ n. n == b) numbers k 0 low (number_differs (get_or numbers k 0) b e)

-- With one more in the bucket of the next number, which is no more than the most, the lengths are
-- those of one number more.
pub one_more : (most : ℕ) (numbers lengths : List ℕ) (k number longer : ℕ) → k < length numbers
    → number ≡ get_or numbers k 0 → number < length numbers
    → longer ≡ get_or lengths number 0 + 1 → longer ≤ most → AreLengths most numbers k lengths
    → AreLengths most numbers (k + 1) (slice_set lengths number longer)
one_more most numbers lengths k number longer low is small e most_ok h = record {
  many = length-set lengths number longer ∙ h.many;
  each = λ b lt. elim (cases_eq b number) [
    | inl same ↦
        (let here = get_or-set_same lengths number longer 0 (let m = h.many in omega arith) in
        let one = counted numbers k number low (sym is) in
        let old = h.each number small in
        subst (λ (n : ℕ). get_or (slice_set lengths number longer) n 0
        ≡ count_by (λ m. m == n) (take (k + 1) numbers)) (sym same) (omega arith))
    | inr other ↦
        get_or-set_other lengths number b longer 0 other
        ∙ (h.each b lt ∙ sym (not_counted numbers k b low (λ f. other (sym f ∙ sym is))))
  ];
  few = λ b. elim (cases_eq b number) [
    | inl same ↦
        (let one = counted numbers k number low (sym is) in
        let old = h.each number small in
        subst (λ (n : ℕ). count_by (λ m. m == n) (take (k + 1) numbers) ≤ most) (sym same)
        (omega arith))
    | inr other ↦
        (let none = not_counted numbers k b low (λ f. other (sym f ∙ sym is)) in
        let old = h.few b in omega arith)
  ];
}

-- A bucket with more than the most is one of all numbers.
pub crowded : (most : ℕ) (numbers lengths : List ℕ) (k number longer : ℕ) → k < length numbers
    → number ≡ get_or numbers k 0 → number < length numbers
    → longer ≡ get_or lengths number 0 + 1 → most < longer → AreLengths most numbers k lengths
    → IsCrowded most numbers
crowded most numbers lengths k number longer low is small e more h =
    let one = counted numbers k number low (sym is) in
    let old = h.each number small in
    let whole = sum_by-take-le (λ n. cond (n == number) 1 0) numbers (k + 1) in
    (number, omega arith)

-- Where no bucket of all numbers has more than the most, none is crowded.
pub not_crowded : (most : ℕ) (numbers lengths : List ℕ) (k : ℕ) → length numbers ≤ k
    → AreLengths most numbers k lengths → IsCrowded most numbers → ⊥
not_crowded most numbers lengths k end h c =
    let few = h.few c.0 in
    let all : take k numbers ≡ numbers = take_all k numbers end in
    let few_of_all = subst (λ (list : List ℕ). count_by (λ n. n == c.0) list ≤ most) all few in
    let more = c.1 in
    omega arith
