-- Where in the order of lookup an item is first tried that fits.
--
-- The keys of a list are in the order of lookup. Of each text the first key whose range has it is
-- noted (`LeadsTo`); to ask for a tag is then to look up its fronts, each followed by a hyphen or
-- the end, and take the least place found. Front by front the least so far is kept, and the range
-- "*" is one more. What fits in one of two ways is first tried at the lesser of the two places.
use Rattle.std.proofs.Common.{ℕ, ◌≡◌, ◌≤◌, ◌<◌, ◌+◌, ◌⊎◌, List, [], ◌∷◌, Option, Some, None}
use Rattle.std.proofs.Common.{inl, inr, refl, sym, ◌∙◌, ap, subst, arith, get_or, length, take}
use Rattle.std.proofs.Common.{length-take-le}
use Rattle.std.specs.Prelude.{◌≢◌, IsSomeAnd, slice_index, slice_set}
use Rattle.std.specs.List.{slice_get}
use Rattle.std.proofs.lemmas.Bool.{cases_lt, cases_order, lt-ltb, le-ltb}
use Rattle.std.proofs.lemmas.Option.{slice_get_within}
use Rattle.std.proofs.lemmas.List.{get_or-set_other, get_or-set_same, length-set}
use Rattle.lang_core.specs.Text.{pieces, joined}
use Rattle.lang_core.specs.Lang.{tag_of}
use Rattle.lang_core.specs.Matching.{Basic}
use Rattle.list_core.specs.Deciding.{Matches}
use Rattle.list_core.specs.Item.{Item}
use Rattle.list_core.specs.Index.{IsFirstWith}
use Rattle.list_core.specs.inner.Index.{IsFirstAlike, MatchFirst}
use Rattle.list_core.specs.FirstTried.{AreFirstTried, IsFirstTried, item_tried}
use Rattle.list_core.specs.inner.FirstTried.{earlier_of}
use Rattle.list_core.specs.LookupOrder.{AreOrderKeys}
use Rattle.list_core.specs.Deciding.{MatchesLang}
use Rattle.list_core.specs.declared.lookup_order.OrderKey.{OrderKey}
use Rattle.list_core.specs.declared.scheme.Scheme.{Scheme}
use Rattle.list_core.proofs.LookupOrderLemmas.{one_keys}
use Rattle.list_core.proofs.Basics.{same_at, same_default, stands_at}
use Rattle.list_core.proofs.FirstTriedPrefixes.{IsTextFront, front_is_take, front_of_text}
use Rattle.list_core.proofs.FirstTriedPrefixes.{front_within}
use Rattle.lang_core.proofs.PiecesLemmas.{joined-pieces}
use Rattle.list_core.proofs.FirstTriedPrefixes.{star_pieces, take_is_front}
use Rattle.list_core.proofs.FirstTriedPrefixes.{text_of_front}

-- ---- the first keys

-- none of the items of the first keys fits
abbrev pub NoneTried : (Item → Type 0) → List Item → List OrderKey → ℕ → Type 0
NoneTried Fits items keys n =
    (m : ℕ) (i : Item) → m < n → item_tried items keys m ≡ Some i → ¬ Fits i

-- The item of a key that is read is the one at its place.
pub tried_at : (items : List Item) (keys : List OrderKey) (n : ℕ) (k : OrderKey) → n < length keys
    → k ≡ get_or keys n k → item_tried items keys n ≡ slice_get items k.place
tried_at items keys n k low e = rw (stands_at keys n k low e) refl

-- One more key whose item does not fit, or that has none, leaves it so.
pub none_next : (Fits : Item → Type 0) (items : List Item) (keys : List OrderKey) (n : ℕ)
    → ((i : Item) → item_tried items keys n ≡ Some i → ¬ Fits i) → NoneTried Fits items keys n
    → NoneTried Fits items keys (n + 1)
none_next Fits items keys n here none m i low s = elim (cases_lt m n) [
  | inl less ↦ none m i less s
  | inr more ↦
      let same : n ≡ m = omega arith in
      here i (ap (item_tried items keys) same ∙ s)
]

-- The key whose item fits first.
pub tried_here : (Fits : Item → Type 0) (items : List Item) (keys : List OrderKey) (n : ℕ)
    (i : Item) → n < length keys → NoneTried Fits items keys n
    → item_tried items keys n ≡ Some i → Fits i → IsFirstTried Fits items keys n
tried_here Fits items keys n i low none s f = record {
  within = omega arith;
  none_before = none;
  fits = λ _. (i, s, f);
}

-- No key has an item that fits.
pub tried_nowhere : (Fits : Item → Type 0) (items : List Item) (keys : List OrderKey) (n : ℕ)
    → length keys ≤ n → NoneTried Fits items keys n → IsFirstTried Fits items keys (length keys)
tried_nowhere Fits items keys n past none = record {
  within = omega arith;
  none_before = λ m i low s. none m i (omega arith) s;
  fits = λ low. absurd (omega arith);
}

-- ---- of what fits in one of two ways

-- The lesser of two first places is the first of what fits in either way.
pub tried_joins : (P Q R : Item → Type 0) (items : List Item) (keys : List OrderKey) (m n : ℕ)
    → ((i : Item) → (P i → R i) × (Q i → R i) × (R i → P i ⊎ Q i))
    → IsFirstTried P items keys m → IsFirstTried Q items keys n
    → IsFirstTried R items keys (earlier_of m n)
tried_joins P Q R items keys m n h p q = elim (cases_lt n m) [
  | inl less ↦ rw (lt-ltb n m less) (record {
    within = q.within;
    none_before = λ k i low s r. elim ((h i).2 r) [
      | inl f ↦ p.none_before k i (omega arith) s f
      | inr f ↦ q.none_before k i low s f
    ];
    fits = λ low. (let f = q.fits low in (f.0, f.1, (h f.0).1 f.2));
  })
  | inr more ↦ rw (le-ltb n m more) (record {
    within = p.within;
    none_before = λ k i low s r. elim ((h i).2 r) [
      | inl f ↦ p.none_before k i low s f
      | inr f ↦ q.none_before k i (omega arith) s f
    ];
    fits = λ low. (let f = p.fits low in (f.0, f.1, (h f.0).0 f.2));
  })
]

-- What fits in the same cases is first tried at the same place.
pub tried_same : (P Q : Item → Type 0) (items : List Item) (keys : List OrderKey) (n : ℕ)
    → ((i : Item) → (P i → Q i) × (Q i → P i)) → IsFirstTried P items keys n
    → IsFirstTried Q items keys n
tried_same P Q items keys n h p = record {
  within = p.within;
  none_before = λ k i low s q. p.none_before k i low s ((h i).1 q);
  fits = λ low. (let f = p.fits low in (f.0, f.1, (h f.0).0 f.2));
}

-- ---- under the basic match

-- the range is "*", or a front of the text of fewer bytes
abbrev pub IsAnyOrFront : List ℕ → ℕ → Item → Type 0
IsAnyOrFront text n i = (i.range ≡ 42 ∷ []) ⊎ (IsTextFront i.range text × (length i.range < n))

-- Where the next byte is a hyphen, the range that ends right before it may be the earlier.
pub front_more : (items : List Item) (keys : List OrderKey) (text start : List ℕ) (at m n : ℕ)
    → at < length text → get_or text at 0 ≡ 45 → start ≡ take at text
    → IsFirstTried (IsAnyOrFront text at) items keys m
    → IsFirstTried (λ i. i.range ≡ start) items keys n
    → IsFirstTried (IsAnyOrFront text (at + 1)) items keys (earlier_of m n)
front_more items keys text start at m n low hyphen e h f =
    tried_joins (IsAnyOrFront text at) (λ i. i.range ≡ start) (IsAnyOrFront text (at + 1)) items
    keys m n
    (λ i. (
      (λ s. elim s [ inl a ↦ inl a | inr t ↦ inr (t.0, (let l = t.1 in omega arith)) ]),
      (λ p. (let same : i.range ≡ take at text = p ∙ e in
          let size : length (take at text) ≡ at = length-take-le at text (omega arith) in
          let count : length i.range ≡ length (take at text) = ap length same in
          inr (
            subst (λ (x : List ℕ). IsTextFront x text) (sym same) (take_is_front text at low
                hyphen),
            omega arith,
          ))),
      (λ s. elim s [
        | inl a ↦ inl (inl a)
        | inr t ↦ elim (cases_lt (length i.range) at) [
          | inl less ↦ inl (inr (t.0, less))
          | inr more ↦
              inr ((front_is_take i.range text at (let l = t.1 in omega arith) low t.0).0 ∙ sym e)
        ]
      ]),
    ))
    h f

-- Where the next byte is no hyphen, no front of the text ends there.
pub front_same : (items : List Item) (keys : List OrderKey) (text : List ℕ) (at n : ℕ)
    → at < length text → (get_or text at 0 ≡ 45 → ⊥)
    → IsFirstTried (IsAnyOrFront text at) items keys n
    → IsFirstTried (IsAnyOrFront text (at + 1)) items keys n
front_same items keys text at n low other h =
    tried_same (IsAnyOrFront text at) (IsAnyOrFront text (at + 1)) items keys n
    (λ i. (
      (λ s. elim s [ inl a ↦ inl a | inr t ↦ inr (t.0, (let l = t.1 in omega arith)) ]),
      (λ s. elim s [
        | inl a ↦ inl a
        | inr t ↦ elim (cases_lt (length i.range) at) [
          | inl less ↦ inr (t.0, less)
          | inr more ↦
              absurd (other (front_is_take i.range text at (let l = t.1 in omega arith) low t.0).1)
        ]
      ]),
    ))
    h

-- At the end of a tag, the range that is equal may be the earlier, and these are all that match.
pub front_whole : (items : List Item) (keys : List OrderKey) (text : List ℕ) (at m n : ℕ)
    → length text ≤ at → at ≤ length text → IsFirstTried (IsAnyOrFront text at) items keys m
    → IsFirstTried (λ i. i.range ≡ text) items keys n
    → IsFirstTried (λ i. Basic (pieces i.range) (pieces text)) items keys (earlier_of m n)
front_whole items keys text at m n le ge h f =
    tried_joins (IsAnyOrFront text at) (λ i. i.range ≡ text)
    (λ i. Basic (pieces i.range) (pieces text)) items keys m n
    (λ i. (
      (λ s. elim s [
        | inl a ↦ inl (ap pieces a ∙ star_pieces)
        | inr t ↦ inr (front_of_text i.range text t.0)
      ]),
      (λ p. inr (front_of_text i.range text (inl (sym p)))),
      (λ b. elim b [
        | inl any ↦ inl (inl (of_star i.range any))
        | inr front ↦
            (let own = text_of_front i.range text front in
            elim (front_within i.range text own) [
              | inl same ↦ inr (sym same)
              | inr less ↦ inl (inr (own, omega arith))
            ])
      ]),
    ))
    h f where
      of_star : (range : List ℕ) → pieces range ≡ (42 ∷ []) ∷ [] → range ≡ 42 ∷ []
      of_star range e = sym (joined-pieces range) ∙ ap joined e

-- ---- at the first place of each text

-- of the first keys, where a range of this text is first tried, or the number of all keys
abbrev pub LeadsTo : List Item → List OrderKey → ℕ → List ℕ → ℕ → Type 0
LeadsTo items keys n text r =
    ((r ≡ length keys) × NoneTried (λ i. i.range ≡ text) items keys n)
    ⊎ ((r < n) × IsFirstTried (λ i. i.range ≡ text) items keys r)

-- the same at the first place of each text
abbrev pub LeadTo : List Item → List OrderKey → ℕ → List ℕ → Type 0
LeadTo items keys n firsts =
    (length firsts ≡ length items)
    × ((text : List ℕ) (place : ℕ) → IsFirstWith items text place
    → LeadsTo items keys n text (slice_index firsts place))

places_within : (items : List Item) (text : List ℕ) (place : ℕ) → IsFirstWith items text place
    → place < length items
places_within items text place w = slice_get_within items place w.item w.stands

-- At last these are the first places.
pub lead_all : (items : List Item) (keys : List OrderKey) (n : ℕ) (firsts : List ℕ)
    → length keys ≤ n → LeadTo items keys n firsts → AreFirstTried items keys firsts
lead_all items keys n firsts past h = (
  h.0,
  λ text place w. elim (h.1 text place w) [
    | inl none ↦
        subst (IsFirstTried (λ i. i.range ≡ text) items keys) (sym none.0)
        (tried_nowhere (λ i. i.range ≡ text) items keys n past none.1)
    | inr found ↦ found.1
  ],
)

-- One more key, whose item has another text.
leads_next : (items : List Item) (keys : List OrderKey) (n : ℕ) (text : List ℕ) (r : ℕ)
    → ((i : Item) → item_tried items keys n ≡ Some i → ¬ (i.range ≡ text))
    → LeadsTo items keys n text r → LeadsTo items keys (n + 1) text r
leads_next items keys n text r other h = elim h [
  | inl none ↦
      inl (none.0, none_next (λ i. i.range ≡ text) items keys n other none.1)
  | inr found ↦ inr ((let low = found.0 in omega arith), found.1)
]

-- the item at a place, and that it is the first with its text
alike : (items : List Item) (place p : ℕ) (o : Option Item) → slice_get items place ≡ o
    → IsFirstAlike items place (Some p)
    → (i : Item) × (slice_get items place ≡ Some i) × IsFirstWith items i.range p
alike items place p None e h = absurd (let no : Some p ≡ None = rw e at h in cc)
alike items place p (Some i) e h = (i, e, rw e at h)

-- the first with a text is at one place
one_text : (items : List Item) (text : List ℕ) (p q : ℕ) → (w : IsFirstWith items text p)
    → (u : IsFirstWith items text q) → p ≡ q
one_text items text p q w u = elim (cases_order p q) [
  | inl e ↦ e
  | inr r ↦ elim r [
    | inl less ↦ absurd (u.first p w.item less w.stands w.same)
    | inr more ↦ absurd (w.first q u.item more u.stands u.same)
  ]
]

-- the firsts at one place have one text
text_of : (items : List Item) (text other : List ℕ) (p : ℕ) → (w : IsFirstWith items text p)
    → (u : IsFirstWith items other p) → text ≡ other
text_of items text other p w u =
    sym w.same ∙ (ap (λ (i : Item). i.range) (same_at items p p u.item w.item refl u.stands
    w.stands)
    ∙ u.same)

the_item : (o : Option Item) (x y : Item) → o ≡ Some x → o ≡ Some y → x ≡ y
the_item o x y s t = let both : Some x ≡ Some y = sym s ∙ t in cc

-- The next key's range is the first of its text.
pub lead_found : (items : List Item) (keys : List OrderKey) (n : ℕ) (firsts : List ℕ) (k : OrderKey)
    (p x : ℕ) → n < length keys → k ≡ get_or keys n k → IsFirstAlike items k.place (Some p)
    → x ≡ get_or firsts p x → x ≡ length keys → LeadTo items keys n firsts
    → LeadTo items keys (n + 1) (slice_set firsts p n)
lead_found items keys n firsts k p x low e a read is_free h =
    let own = alike items k.place p (slice_get items k.place) refl a in
    let within : p < length firsts =
    (let inside = places_within items own.0.range p own.2 in let size = h.0 in omega arith) in
    let free : slice_index firsts p ≡ length keys =
    same_default firsts p 0 x within ∙ (sym read ∙ is_free) in
    let here : item_tried items keys n ≡ Some own.0 = tried_at items keys n k low e ∙ own.1 in (
      length-set firsts p n ∙ h.0,
      λ text place w. elim (cases_order place p) [
        | inl same ↦
            let u = subst (IsFirstWith items text) same w in
            let is : text ≡ own.0.range = text_of items text own.0.range p u own.2 in
            let value : slice_index (slice_set firsts p n) place ≡ n =
            ap (slice_index (slice_set firsts p n)) same ∙ get_or-set_same firsts p n 0 within in
            subst (LeadsTo items keys (n + 1) text) (sym value)
            (inr (
              omega arith,
              tried_here (λ i. i.range ≡ text) items keys n own.0 low
                  (elim (h.1 text place w) [
                    | inl none ↦ none.1
                    | inr found ↦
                        absurd (let e : slice_index firsts place ≡ slice_index firsts p =
                        ap (slice_index firsts) same in let l = found.0 in omega arith)
                  ]) here (sym is),
            ))
        | inr apart ↦
            let differs : place ≢ p = λ same. elim apart [
              | inl less ↦ (omega arith)
              | inr more ↦ (omega arith)
            ] in
            let value : slice_index (slice_set firsts p n) place ≡ slice_index firsts place =
            get_or-set_other firsts p place n 0 differs in
            subst (LeadsTo items keys (n + 1) text) (sym value)
            (leads_next items keys n text (slice_index firsts place)
            (λ i s same. differs (one_text items text place p w
            (subst (λ (t : List ℕ). IsFirstWith items t p)
            (ap (λ (x : Item). x.range)
            (the_item (item_tried items keys n) own.0 i here s) ∙ same) own.2)))
            (h.1 text place w))
      ],
    )

-- The next key's range was tried before.
pub lead_again : (items : List Item) (keys : List OrderKey) (n : ℕ) (firsts : List ℕ) (k : OrderKey)
    (p x : ℕ) → n < length keys → k ≡ get_or keys n k → IsFirstAlike items k.place (Some p)
    → x ≡ get_or firsts p x → (x ≡ length keys → ⊥) → LeadTo items keys n firsts
    → LeadTo items keys (n + 1) firsts
lead_again items keys n firsts k p x low e a read is_taken h =
    let own = alike items k.place p (slice_get items k.place) refl a in
    let within : p < length firsts =
    (let inside = places_within items own.0.range p own.2 in let size = h.0 in omega arith) in
    let taken : slice_index firsts p ≡ length keys → ⊥ =
    λ f. is_taken (read ∙ (same_default firsts p x 0 within ∙ f)) in
    let here : item_tried items keys n ≡ Some own.0 = tried_at items keys n k low e ∙ own.1 in (
      h.0,
      λ text place w. elim (h.1 text place w) [
        | inr found ↦ inr ((let l = found.0 in omega arith), found.1)
        | inl none ↦
            leads_next items keys n text (slice_index firsts place)
            (λ i s same.
            let u = subst (λ (t : List ℕ). IsFirstWith items t p)
            (ap (λ (x : Item). x.range)
            (the_item (item_tried items keys n) own.0 i here s) ∙ same) own.2 in
            taken (ap (slice_index firsts) (one_text items text p place u w) ∙ none.0))
            (inl none)
      ],
    )

-- The next key has no item.
pub lead_passed : (items : List Item) (keys : List OrderKey) (n : ℕ) (firsts : List ℕ)
    (k : OrderKey) → n < length keys → k ≡ get_or keys n k → IsFirstAlike items k.place None
    → LeadTo items keys n firsts → LeadTo items keys (n + 1) firsts
lead_passed items keys n firsts k low e a h = (
  h.0,
  λ text place w. leads_next items keys n text (slice_index firsts place)
      (λ i s. absurd (no_item (slice_get items k.place) refl i (sym (tried_at items keys n k low e)
      ∙ s)))
      (h.1 text place w),
) where
  no_item : (o : Option Item) → slice_get items k.place ≡ o → (i : Item)
      → slice_get items k.place ≡ Some i → ⊥
  no_item None g i s = cc
  no_item (Some j) g i s =
      let none : MatchFirst items j.range None = rw g at a in none k.place j g refl

-- ---- in the order of a list

-- What is first tried by the keys of a list is so by all its keys, which are the same.
pub tried_of_list : (Fits : Item → Type 0) (items own : List Item) (order : List OrderKey) (n : ℕ)
    → own ≡ items → AreOrderKeys own order → IsFirstTried Fits items order n
    → (keys : List OrderKey) → AreOrderKeys items keys → IsFirstTried Fits items keys n
tried_of_list Fits items own order n e o h keys k =
    subst (λ (x : List OrderKey). IsFirstTried Fits items x n)
    (one_keys items order keys (subst (λ (x : List Item). AreOrderKeys x order) e o) k) h

-- No item matches a language that is no tag.
pub none_tried : (scheme : Scheme) (items : List Item) (order : List OrderKey) (lang : List ℕ)
    (n : ℕ) → None ≡ tag_of lang → AreOrderKeys items order → n ≡ length order
    → (keys : List OrderKey) → AreOrderKeys items keys
    → IsFirstTried (λ i. MatchesLang scheme i lang) items keys n
none_tried scheme items order lang n e o size keys k =
    let whole : n ≡ length keys = size ∙ ap length (one_keys items order keys o k) in
    record {
      within = omega arith;
      none_before = λ m i low s f.
          subst (λ (t : Option (List ℕ)). IsSomeAnd t (λ tag. Matches scheme (pieces i.range)
          (pieces tag))) (sym e) f;
      fits = λ low. absurd (omega arith);
    }
