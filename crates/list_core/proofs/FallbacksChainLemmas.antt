-- A chain, from text to text.
--
-- What is tried is kept, and the elements whose left sides were tried are used up. So a text that
-- was tried before leads nowhere, and adds nothing. A new text is added, and leads on if the table
-- has an element for it, which is then used up. The chain of what is left is the same before and
-- after each of these.
use Rattle.std.proofs.Common.{ℕ, ◌≡◌, ◌<◌, ◌≤◌, List, [], ◌∷◌, ◌++◌, refl, sym, ◌∙◌, ap, subst}
use Rattle.std.proofs.Common.{arith}
use Rattle.std.proofs.Common.{length, Bool, true, false, append_assoc, inl, inr}
use Rattle.std.specs.Prelude.{zero, suc, Option, Some, None, map, filter, not, if◌then◌else◌, ◌||◌}
use Rattle.std.specs.List.{list_any}
use Rattle.std.specs.Str.{bytes_eq}
use Rattle.std.proofs.lemmas.Bool.{cases_Bool}
use Rattle.std.proofs.lemmas.List.Folds.{list_any-append}
use Rattle.std.proofs.lemmas.Slice.Eq.{bytes_eq-Decides}
use Rattle.lang_core.specs.Text.{joined, pieces}
use Rattle.lang_core.specs.TruncationsCandidates.{candidates}
use Rattle.lang_core.proofs.PiecesLemmas.{joined-pieces}
use Rattle.list_core.specs.Fallbacks.{chain_of, fresh, is_in, right_of, walk, without}
use Rattle.list_core.specs.inner.Fallbacks.{AreUnused, LeadsOn, chain_from}
use Rattle.list_core.specs.declared.fallbacks.Fallback.{Fallback}

-- Whether a text is one of some, by their bytes.
pub is_in_map : {T : Type 0} (bytes : T → List ℕ) (xs : List T) (text : List ℕ)
    → list_any (λ x. bytes_eq (bytes x) text) xs ≡ is_in (map bytes xs) text
is_in_map bytes [] text = refl
is_in_map bytes (x ∷ xs) text =
    ap (λ (b : Bool). bytes_eq (bytes x) text || b) (is_in_map bytes xs text)

-- ---- a text among those that were tried

is_in_push : (tried : List (List ℕ)) (t text : List ℕ)
    → is_in (tried ++ t ∷ []) text ≡ (is_in tried text || (bytes_eq t text || false))
is_in_push tried t text = list_any-append (λ other. bytes_eq other text) tried (t ∷ [])

tried_again : (tried : List (List ℕ)) (t : List ℕ) (rest : List (List (List ℕ)))
    → is_in tried t ≡ true → chain_from tried (pieces t ∷ rest) ≡ chain_from tried rest
tried_again tried t rest h = rw (joined-pieces t, h) refl

tried_first : (tried : List (List ℕ)) (t : List ℕ) (rest : List (List (List ℕ)))
    → is_in tried t ≡ false
    → chain_from tried (pieces t ∷ rest) ≡ chain_from (tried ++ t ∷ []) rest
tried_first tried t rest h =
    rw (joined-pieces t, h)
    (sym (append_assoc tried (t ∷ []) (fresh (tried ++ t ∷ []) (map joined rest))))

-- ---- the elements that are left

walk_passes : (n : ℕ) (unused : List Fallback) (t : List ℕ) (rest : List (List (List ℕ)))
    → right_of unused t ≡ None → walk n unused (pieces t ∷ rest) ≡ pieces t ∷ walk n unused rest
walk_passes zero unused t rest h = refl
walk_passes (suc n) unused t rest h = rw (joined-pieces t, h) refl

leads_text : (n : ℕ) (unused : List Fallback) (c : List (List ℕ)) (t right : List ℕ)
    (rest : List (List (List ℕ))) → joined c ≡ t → right_of unused t ≡ Some right
    → walk (suc n) unused (c ∷ rest) ≡ c ∷ walk n (without t unused) (candidates (pieces right))
leads_text n unused c t right rest e h =
    subst
    (λ (x : List ℕ). right_of unused x ≡ Some right → walk (suc n) unused (c ∷ rest)
    ≡ c ∷ walk n (without x unused) (candidates (pieces right)))
    e (λ k. rw k refl) h

walk_leads : (n : ℕ) (unused : List Fallback) (t right : List ℕ) (rest : List (List (List ℕ)))
    → right_of unused t ≡ Some right → walk (suc n) unused (pieces t ∷ rest)
    ≡ pieces t ∷ walk n (without t unused) (candidates (pieces right))
walk_leads n unused t right rest h = leads_text n unused (pieces t) t right rest (joined-pieces t) h

fewer_left : (t : List ℕ) (elements : List Fallback) → length (without t elements) ≤ length elements
fewer_left t [] = omega arith
fewer_left t (f ∷ elements) = elim (cases_Bool (bytes_eq f.left t)) [
  | inl same ↦ let rest = fewer_left t elements in rw same (omega (arith, rest))
  | inr other ↦ let rest = fewer_left t elements in rw other (omega (arith, rest))
]

one_left : (t right : List ℕ) (elements : List Fallback) → right_of elements t ≡ Some right
    → length (without t elements) < length elements
one_left t right [] h = cc
one_left t right (f ∷ elements) h = elim (cases_Bool (bytes_eq f.left t)) [
  | inl same ↦ let rest = fewer_left t elements in rw same (omega (arith, rest))
  | inr other ↦
      let rest = one_left t right elements (rw other at h) in rw other (omega (arith, rest))
]

right_of_without : (t text : List ℕ) (elements : List Fallback)
    → right_of (without t elements) text
    ≡ (if bytes_eq t text then None else right_of elements text)
right_of_without t text [] = elim (cases_Bool (bytes_eq t text)) [
  | inl same ↦ rw same refl
  | inr other ↦ rw other refl
]
right_of_without t text (f ∷ elements) = elim (cases_Bool (bytes_eq f.left t)) [
  | inl gone ↦
      let is : f.left ≡ t = (bytes_eq-Decides f.left t).0 gone in
      let rest = right_of_without t text elements in
      elim (cases_Bool (bytes_eq t text)) [
        | inl same ↦ rw (gone, same) (rest ∙ rw same refl)
        | inr other ↦
            let differs : bytes_eq f.left text ≡ false =
            subst (λ (x : List ℕ). bytes_eq x text ≡ false) (sym is) other in
            rw (gone, other, differs) (rest ∙ rw other refl)
      ]
  | inr kept ↦
      let rest = right_of_without t text elements in
      elim (cases_Bool (bytes_eq f.left text)) [
        | inl found ↦
            let is : f.left ≡ text = (bytes_eq-Decides f.left text).0 found in
            let differs : bytes_eq t text ≡ false =
            elim (cases_Bool (bytes_eq t text)) [
              | inl same ↦
                  absurd
                  (let is_t : t ≡ text = (bytes_eq-Decides t text).0 same in
                  let clash : bytes_eq f.left t ≡ true =
                  (bytes_eq-Decides f.left t).1 (is ∙ sym is_t) in
                  cc)
              | inr other ↦ other
            ] in
            rw (kept, found, differs) refl
        | inr missed ↦ rw (kept, missed) rest
      ]
]

none_tried : (table : List Fallback) (tried : List (List ℕ)) (n : ℕ) (unused : List Fallback)
    (t : List ℕ) → AreUnused table tried n unused → is_in tried t ≡ true → right_of unused t ≡ None
none_tried table tried n unused t u h = u.left t ∙ rw h refl

not_tried : (table : List Fallback) (tried : List (List ℕ)) (n : ℕ) (unused : List Fallback)
    (t : List ℕ) → AreUnused table tried n unused → is_in tried t ≡ false
    → right_of unused t ≡ right_of table t
not_tried table tried n unused t u h = u.left t ∙ rw h refl

-- ---- a text more

-- A text that was tried before adds nothing.
pub again : (table : List Fallback) (tried : List (List ℕ)) (n : ℕ) (unused : List Fallback)
    (t : List ℕ) (rest : List (List (List ℕ))) → AreUnused table tried n unused
    → is_in tried t ≡ true
    → chain_from tried (walk n unused (pieces t ∷ rest)) ≡ chain_from tried (walk n unused rest)
again table tried n unused t rest u h =
    ap (chain_from tried) (walk_passes n unused t rest (none_tried table tried n unused t u h))
    ∙ tried_again tried t (walk n unused rest) h

-- A new text without an element is added.
pub added : (table : List Fallback) (tried : List (List ℕ)) (n : ℕ) (unused : List Fallback)
    (t : List ℕ) (rest : List (List (List ℕ))) → AreUnused table tried n unused
    → is_in tried t ≡ false → right_of table t ≡ None
    → chain_from tried (walk n unused (pieces t ∷ rest))
    ≡ chain_from (tried ++ t ∷ []) (walk n unused rest)
added table tried n unused t rest u h none =
    ap (chain_from tried)
    (walk_passes n unused t rest (not_tried table tried n unused t u h ∙ none))
    ∙ tried_first tried t (walk n unused rest) h

-- The elements that are left are the same after it.
pub added_unused : (table : List Fallback) (tried : List (List ℕ)) (n : ℕ) (unused : List Fallback)
    (t : List ℕ) → AreUnused table tried n unused → right_of table t ≡ None
    → AreUnused table (tried ++ t ∷ []) n unused
added_unused table tried n unused t u none = record {
  few = u.few;
  left = λ text.
      elim (cases_Bool (is_in tried text)) [
        | inl old ↦ u.left text ∙ rw (is_in_push tried t text, old) refl
        | inr new ↦ elim (cases_Bool (bytes_eq t text)) [
          | inl same ↦
              let is : t ≡ text = (bytes_eq-Decides t text).0 same in
              u.left text ∙ rw (is_in_push tried t text, new, same)
              (subst (λ (x : List ℕ). right_of table x ≡ None) is none)
          | inr other ↦ u.left text ∙ rw (is_in_push tried t text, new, other) refl
        ]
      ];
}

leads_by : (table : List Fallback) (tried : List (List ℕ)) (n : ℕ) (unused : List Fallback)
    (t right : List ℕ) (rest : List (List (List ℕ))) → AreUnused table tried n unused
    → is_in tried t ≡ false → right_of table t ≡ Some right → right_of unused t ≡ Some right
    → LeadsOn table (chain_from tried (walk n unused (pieces t ∷ rest))) n (tried ++ t ∷ []) right
leads_by table tried zero unused t right rest u h some here =
    absurd
    (let fewer = one_left t right unused here in
    let few = u.few in omega (arith, fewer, few))
leads_by table tried (suc n) unused t right rest u h some here = record {
  others = n;
  unused = without t unused;
  fewer = refl;
  unused_ok =
      record {
        few =
            let fewer = one_left t right unused here in
            let few = u.few in omega (arith, fewer, few);
        left = λ text.
            right_of_without t text unused
            ∙ elim (cases_Bool (bytes_eq t text)) [
              | inl same ↦ rw (is_in_push tried t text, same)
                  (elim (cases_Bool (is_in tried text)) [
                    | inl old ↦ rw old refl
                    | inr new ↦ rw new refl
                  ])
              | inr other ↦ rw (is_in_push tried t text, other)
                  (u.left text
                  ∙ elim (cases_Bool (is_in tried text)) [
                    | inl old ↦ rw old refl
                    | inr new ↦ rw new refl
                  ])
            ];
      };
  same =
      ap (chain_from tried) (walk_leads n unused t right rest here)
      ∙ tried_first tried t (walk n (without t unused) (candidates (pieces right))) h;
}

-- A new text with an element leads on to its right side.
pub leads : (table : List Fallback) (tried : List (List ℕ)) (n : ℕ) (unused : List Fallback)
    (t right : List ℕ) (rest : List (List (List ℕ))) → AreUnused table tried n unused
    → is_in tried t ≡ false → right_of table t ≡ Some right
    → LeadsOn table (chain_from tried (walk n unused (pieces t ∷ rest))) n (tried ++ t ∷ []) right
leads table tried n unused t right rest u h some =
    leads_by table tried n unused t right rest u h some
    (not_tried table tried n unused t u h ∙ some)
