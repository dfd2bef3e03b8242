-- Languages that are not ranked yet.
--
-- They are kept in a tree by their texts, each with its place. A language is there just if its text
-- is. Each is put in once, at its first place; one that is ranked is taken out, and the others
-- stay. So what is found by a text is the first language of that text which is not ranked yet.
use Rattle.std.proofs.Common.{ℕ, ◌≡◌, ◌+◌, ◌≤◌, ◌<◌, ◌⊎◌, List, [], ◌∷◌, ◌++◌, Option, Some, None}
use Rattle.std.proofs.Common.{Bool}
use Rattle.std.proofs.Common.{true, false, inl, inr, refl, sym, ◌∙◌, ap, subst, arith, get_or, take}
use Rattle.std.proofs.Common.{length}
use Rattle.std.specs.Prelude.{All, Contains, if◌then◌else◌, is_some, option_map}
use Rattle.std.specs.Borrow.{Bor}
use Rattle.std.specs.BTreeMap.{insert_entry}
use Rattle.std.specs.Map.{lookup, remove_entry}
use Rattle.std.specs.Cmp.Lexicographic.{slice_cmp}
use Rattle.std.specs.Ordering.{is_eq, nat_cmp}
use Rattle.std.specs.Str.{bytes_eq}
use Rattle.std.specs.declared.cmp.Ordering.{Ordering}
use Rattle.std.specs.declared.cmp.Ordering.TheVariants.{Less, Equal, Greater}
use Rattle.std.proofs.lemmas.Bool.{cases_Bool}
use Rattle.std.proofs.lemmas.Cmp.{nat_list_cmp_total, tied_itself}
use Rattle.std.proofs.lemmas.List.{length-append, length-map}
use Rattle.std.proofs.lemmas.List.Elements.{All-cons, All-head, All-tail}
use Rattle.std.proofs.lemmas.List.Elements.{Contains-append_cases, Contains-append_left}
use Rattle.std.proofs.lemmas.List.Elements.{Contains-push}
use Rattle.std.proofs.lemmas.Slice.Eq.{bytes_eq-Decides}
use Rattle.list_core.proofs.Basics.{contains_cases, contains_first, contains_later, false_true}
use Rattle.nego_core.proofs.FilteringKeys.{take_next}
use Rattle.list_core.proofs.IndexUnique.{text_tied}
use Rattle.nego_core.specs.LangSet.{is_among}
use Rattle.nego_core.specs.inner.Unranked.{AreSpelled, Spells, TakesFrom, texts_left}

-- languages by their texts
abbrev Entries : Type 0
Entries = List (Bor (List ℕ) × Bor (List ℕ))

-- whether a key has the text
abbrev pub is_text : List ℕ → Bor (List ℕ) → Bool
is_text text k = is_eq (slice_cmp nat_cmp text k.now)

text_is : (text k : List ℕ) → is_eq (slice_cmp nat_cmp text k) ≡ bytes_eq k text
text_is text k = elim (cases_Bool (bytes_eq k text)) [
  | inl same ↦
      let e : k ≡ text = (bytes_eq-Decides k text).0 same in
      rw (same, e) (ap is_eq (tied_itself nat_list_cmp_total text))
  | inr other ↦ rw other (apart (slice_cmp nat_cmp text k) refl (λ e. false_true (sym other
      ∙ (bytes_eq-Decides k text).1 (sym (text_tied text k e)))))
] where
  apart : (o : Ordering) → slice_cmp nat_cmp text k ≡ o → ¬ (slice_cmp nat_cmp text k ≡ Equal)
      → is_eq o ≡ false
  apart Less e n = refl
  apart Equal e n = absurd (n e)
  apart Greater e n = refl

-- A language is there just where its text is.
pub holds_is : (text : List ℕ) (es : Entries)
    → is_some (lookup (is_text text) es) ≡ is_among (texts_left es) text
holds_is text [] = refl
holds_is text (e ∷ es) = elim (cases_Bool (bytes_eq e.0.now text)) [
  | inl same ↦ rw (text_is text e.0.now, same) refl
  | inr other ↦ rw (text_is text e.0.now, other) (holds_is text es)
]

-- ---- what is taken out

other_text : (text : List ℕ) (es : Entries) (l : List ℕ) → Contains (texts_left es) l
    → (text ≡ l) ⊎ Contains (texts_left (remove_entry (is_text text) es)) l
other_text text [] l c = inr c
other_text text (e ∷ es) l c = elim (cases_Bool (bytes_eq e.0.now text)) [
  | inl same ↦ elim (contains_cases e.0.now l (texts_left es) c) [
    | inl here ↦ inl (sym ((bytes_eq-Decides e.0.now text).0 same) ∙ here)
    | inr later ↦ rw (text_is text e.0.now, same) (inr later)
  ]
  | inr other ↦ let where_is = contains_cases e.0.now l (texts_left es) c in
      rw (text_is text e.0.now, other) (elim where_is [
        | inl here ↦
            inr (subst (Contains (e.0.now ∷ texts_left (remove_entry (is_text text) es))) here
            (contains_first e.0.now (texts_left (remove_entry (is_text text) es))))
        | inr later ↦ elim (other_text text es l later) [
          | inl own ↦ inl own
          | inr still ↦
              inr (contains_later e.0.now l (texts_left (remove_entry (is_text text) es)) still)
        ]
      ])
]

no_new : (text : List ℕ) (es : Entries) (l : List ℕ)
    → Contains (texts_left (remove_entry (is_text text) es)) l → Contains (texts_left es) l
no_new text [] l c = c
no_new text (e ∷ es) l c = elim (cases_Bool (bytes_eq e.0.now text)) [
  | inl same ↦
      contains_later e.0.now l (texts_left es) (rw (text_is text e.0.now, same) at c)
  | inr other ↦
      let d : Contains (e.0.now ∷ texts_left (remove_entry (is_text text) es)) l =
      rw (text_is text e.0.now, other) at c in
      elim (contains_cases e.0.now l (texts_left (remove_entry (is_text text) es)) d) [
        | inl here ↦
            subst (Contains (e.0.now ∷ texts_left es)) here (contains_first e.0.now (texts_left es))
        | inr later ↦ contains_later e.0.now l (texts_left es) (no_new text es l later)
      ]
]

spelled_so : (text : List ℕ) (es : Entries) (lang : Bor (List ℕ)) → AreSpelled es
    → lookup (is_text text) es ≡ Some lang → lang.now ≡ text
spelled_so text [] lang h s = cc
spelled_so text (e ∷ es) lang h s = elim (cases_Bool (bytes_eq e.0.now text)) [
  | inl same ↦
      let found : Some e.1 ≡ Some lang = rw (text_is text e.0.now, same) at s in
      let is : e.1 ≡ lang = cc in
      sym (ap (λ (b : Bor (List ℕ)). b.now) is)
      ∙ (All-head (λ (x : Bor (List ℕ) × Bor (List ℕ)). x.1.now ≡ x.0.now) e es h
      ∙ (bytes_eq-Decides e.0.now text).0 same)
  | inr other ↦
      spelled_so text es lang
      (All-tail (λ (x : Bor (List ℕ) × Bor (List ℕ)). x.1.now ≡ x.0.now) e es h)
      (rw (text_is text e.0.now, other) at s)
]

-- A language that is found by its text is taken out.
pub taken : (text : List ℕ) (es less : Entries) (lang : Bor (List ℕ)) → AreSpelled es
    → Some lang ≡ lookup (is_text text) es → less ≡ remove_entry (is_text text) es
    → lookup (is_text text) less ≡ None → length less + 1 ≡ length es
    → TakesFrom (texts_left es) text (texts_left less) (Some lang.now)
taken text es less lang h s e none size = (
  spelled_so text es lang h (sym s),
  sym (holds_is text es) ∙ ap is_some (sym s),
  sym (holds_is text less) ∙ ap is_some none,
  (let a : length (texts_left less) ≡ length less = simp length-map in
      let b : length (texts_left es) ≡ length es = simp length-map in omega arith),
  λ l c. rw e (other_text text es l c),
  λ l c. no_new text es l (rw e at c),
)

-- Where none is found, nothing is taken.
pub not_taken : (text : List ℕ) (es less : Entries) → None ≡ lookup (is_text text) es → less ≡ es
    → TakesFrom (texts_left es) text (texts_left less) None
not_taken text es less s e =
    (sym (holds_is text es) ∙ ap is_some (sym s), ap texts_left e)

-- ---- what is put in

-- the order of the keys
abbrev key_cmp : Bor (List ℕ) → Bor (List ℕ) → Ordering
key_cmp a b = slice_cmp nat_cmp a.now b.now

abbrev put : Entries → Bor (List ℕ) → Bor (List ℕ) → Entries
put es k v = insert_entry key_cmp es k v

put_has : (es : Entries) (k v : Bor (List ℕ)) → Contains (texts_left (put es k v)) k.now
put_has [] k v = contains_first k.now []
put_has (e ∷ es) k v = at (key_cmp k e.0) refl (put_has es k v) where
  at : (o : Ordering) → key_cmp k e.0 ≡ o → Contains (texts_left (put es k v)) k.now
      → Contains (texts_left (put (e ∷ es) k v)) k.now
  at Less s rest = rw s (contains_first k.now (e.0.now ∷ texts_left es))
  at Equal s rest =
      rw s (subst (Contains (e.0.now ∷ texts_left es)) (sym (text_tied k.now e.0.now s))
      (contains_first e.0.now (texts_left es)))
  at Greater s rest =
      rw s (contains_later e.0.now k.now (texts_left (put es k v)) rest)

put_keeps : (es : Entries) (k v : Bor (List ℕ)) (l : List ℕ) → Contains (texts_left es) l
    → Contains (texts_left (put es k v)) l
put_keeps [] k v l c = absurd (let low = c.1 in omega arith)
put_keeps (e ∷ es) k v l c = at (key_cmp k e.0) refl (put_keeps es k v l) where
  at : (o : Ordering) → key_cmp k e.0 ≡ o
      → (Contains (texts_left es) l → Contains (texts_left (put es k v)) l)
      → Contains (texts_left (put (e ∷ es) k v)) l
  at Less s rest = rw s (contains_later k.now l (e.0.now ∷ texts_left es) c)
  at Equal s rest = rw s c
  at Greater s rest = rw s (elim (contains_cases e.0.now l (texts_left es) c) [
    | inl here ↦
        subst (Contains (e.0.now ∷ texts_left (put es k v))) here
        (contains_first e.0.now (texts_left (put es k v)))
    | inr later ↦
        contains_later e.0.now l (texts_left (put es k v)) (rest later)
  ])

put_only : (es : Entries) (k v : Bor (List ℕ)) (l : List ℕ)
    → Contains (texts_left (put es k v)) l → (k.now ≡ l) ⊎ Contains (texts_left es) l
put_only [] k v l c = contains_cases k.now l [] c
put_only (e ∷ es) k v l c = at (key_cmp k e.0) refl (put_only es k v l) where
  at : (o : Ordering) → key_cmp k e.0 ≡ o
      → (Contains (texts_left (put es k v)) l → (k.now ≡ l) ⊎ Contains (texts_left es) l)
      → (k.now ≡ l) ⊎ Contains (texts_left (e ∷ es)) l
  at Less s rest = contains_cases k.now l (e.0.now ∷ texts_left es) (rw s at c)
  at Equal s rest = inr (rw s at c)
  at Greater s rest =
      let d : Contains (e.0.now ∷ texts_left (put es k v)) l = rw s at c in
      elim (contains_cases e.0.now l (texts_left (put es k v)) d) [
        | inl here ↦
            inr (subst (Contains (e.0.now ∷ texts_left es)) here
            (contains_first e.0.now (texts_left es)))
        | inr later ↦ elim (rest later) [
          | inl own ↦ inl own
          | inr old ↦ inr (contains_later e.0.now l (texts_left es) old)
        ]
      ]

put_spelled : (es : Entries) (k v : Bor (List ℕ)) → v.now ≡ k.now → AreSpelled es
    → AreSpelled (put es k v)
put_spelled [] k v e h = All-cons (λ (x : Bor (List ℕ) × Bor (List ℕ)). x.1.now ≡ x.0.now) (k, v) []
    e h
put_spelled (x ∷ es) k v e h = at (key_cmp k x.0) refl (put_spelled es k v e (All-tail (λ (y : Bor
    (List ℕ) × Bor (List ℕ)). y.1.now ≡ y.0.now) x es h)) where
      P : Bor (List ℕ) × Bor (List ℕ) → Type 0
      P y = y.1.now ≡ y.0.now

      at : (o : Ordering) → key_cmp k x.0 ≡ o → (AreSpelled (put es k v))
          → AreSpelled (put (x ∷ es) k v)
      at Less s rest = rw s (All-cons P (k, v) (x ∷ es) e h)
      at Equal s rest =
          rw s (All-cons P (x.0, v) es (e ∙ text_tied k.now x.0.now s) (All-tail P x es h))
      at Greater s rest =
          rw s (All-cons P x (put es k v) (All-head P x es h)
          rest)

-- the first languages are there, each by its text
pub record AreFirst (langs : List (List ℕ)) (k : ℕ) (es : Entries) : Type 0 where
  pub spells : Spells (take k langs) (texts_left es)
  pub spelled : AreSpelled es

-- The next is put in.
pub first_next : (langs : List (List ℕ)) (k : ℕ) (x : List ℕ) (es more : Entries)
    (key lang : Bor (List ℕ)) → k < length langs → x ≡ get_or langs k x → key.now ≡ x
    → lang.now ≡ x → more ≡ insert_entry key_cmp es key lang → length more ≤ length es + 1
    → AreFirst langs k es → AreFirst langs (k + 1) more
first_next langs k x es more key lang low is spelt lent e size h = record {
  spells = subst (λ (ys : List (List ℕ)). Spells ys (texts_left more))
      (sym (take_next langs k x low is)) (record {
        few =
            let few = h.spells.few in
            let a : length (texts_left more) ≡ length more = simp length-map in
            let b : length (texts_left es) ≡ length es = simp length-map in
            let c : length (take k langs ++ x ∷ []) ≡ length (take k langs) + 1 = simp
            length-append in
            omega arith;
        each = λ l c. rw e (elim (Contains-append_cases (take k langs) (x ∷ []) l c) [
          | inl before ↦ put_keeps es key lang l (h.spells.each l before)
          | inr here ↦ elim (contains_cases x l [] here) [
            | inl same ↦
                subst (Contains (texts_left (put es key lang))) (spelt ∙ same) (put_has es key lang)
            | inr none ↦ absurd (let none_low = none.1 in omega arith)
          ]
        ]);
        only = λ l c. elim (put_only es key lang l (rw e at c)) [
          | inl own ↦
              subst (Contains (take k langs ++ x ∷ [])) (sym spelt ∙ own)
              (Contains-push (take k langs) x)
          | inr old ↦ Contains-append_left (take k langs) (x ∷ []) l (h.spells.only l old)
        ];
      });
  spelled = rw e (put_spelled es key lang (lent ∙ sym spelt) h.spelled);
}

-- A key that is put in adds one at most.
pub one_more : (b : Bool) (m n : ℕ) → m ≡ n + (if b then 0 else 1) → m ≤ n + 1
one_more true m n e = omega arith
one_more false m n e = omega arith

-- Those that stay are found by their own texts.
pub still_spelled : (text : List ℕ) (es : Entries) → AreSpelled es
    → AreSpelled (remove_entry (is_text text) es)
still_spelled text es h = kept text es h where
  P : Bor (List ℕ) × Bor (List ℕ) → Type 0
  P y = y.1.now ≡ y.0.now

  kept : (t : List ℕ) (xs : Entries) → All P xs → All P (remove_entry (is_text t) xs)
  kept t [] g = g
  kept t (x ∷ xs) g = elim (cases_Bool (is_text t x.0)) [
    | inl e ↦ rw e (All-tail P x xs g)
    | inr e ↦ rw e (All-cons P x (remove_entry (is_text t) xs) (All-head P x xs g)
        (kept t xs (All-tail P x xs g)))
  ]

-- What is taken out, found or not.
pub take_is : (text : List ℕ) (es less : Entries) (r : Option (Bor (List ℕ))) → AreSpelled es
    → r ≡ lookup (is_text text) es → less ≡ remove_entry (is_text text) es
    → lookup (is_text text) less ≡ None
    → length less + (if is_some r then 1 else 0) ≡ length es
    → TakesFrom (texts_left es) text (texts_left less) (option_map (λ l. l.now) r)
take_is text es less (Some lang) h s e none size = taken text es less lang h s e none size
take_is text es less None h s e none size = not_taken text es less s (same text es less s e) where
  same : (t : List ℕ) (xs ys : Entries) → None ≡ lookup (is_text t) xs
      → ys ≡ remove_entry (is_text t) xs → ys ≡ xs
  same t [] ys n g = g
  same t (x ∷ xs) ys n g = elim (cases_Bool (is_text t x.0)) [
    | inl b ↦ absurd (let no : None ≡ Some x.1 = rw b at n in cc)
    | inr b ↦
        (let rest = same t xs (remove_entry (is_text t) xs) (rw b at n) refl in
        let here : ys ≡ x ∷ remove_entry (is_text t) xs = rw b at g in
        here ∙ ap (λ (zs : Entries). x ∷ zs) rest)
  ]
