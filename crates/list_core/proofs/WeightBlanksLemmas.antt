-- A text up to its first blank or semicolon.
use Rattle.std.proofs.Common.{ℕ, ◌≡◌, ◌≤◌, ◌+◌, ◌-◌, inl, inr, List, [], ◌∷◌, ◌++◌, Some, None}
use Rattle.std.proofs.Common.{true, false, ltb, length, take, drop, refl, sym, ◌∙◌, ap, subst}
use Rattle.std.proofs.Common.{arith, length-drop}
use Rattle.std.specs.Prelude.{suc, position}
use Rattle.std.specs.List.{list_all, prefix_len}
use Rattle.std.proofs.lemmas.Bool.{ltb-false, and_from, and_parts, cases_Bool}
use Rattle.std.proofs.lemmas.Bool.Decides.{nat_tests}
use Rattle.std.proofs.lemmas.Option.{cond_some}
use Rattle.std.proofs.lemmas.List.{take_all, drop_all}
use Rattle.list_core.specs.Weight.{is_blank, AreBlanks}
use Rattle.list_core.specs.inner.Weight.{is_stop, is_plain, EndsPlain, IsCut}
use Rattle.lang_core.proofs.PiecesLemmas.{cond_none}

-- A text is cut where the bytes at its front that are neither blank nor semicolon end.
pub cut_front : (text : List ℕ)
    → IsCut text (take (prefix_len is_plain text) text) (drop (prefix_len is_plain text) text)
cut_front [] = record { whole = refl; plain = refl; ends = tt }
cut_front (b ∷ text) =
    let rest = cut_front text in
    let one : 1 + prefix_len is_plain text ≡ suc (prefix_len is_plain text) = omega arith in
    elim (cases_Bool (is_plain b)) [
      | inl e ↦
          rw (e, one)
          (record {
            whole = ap (λ (x : List ℕ). b ∷ x) rest.whole;
            plain =
                and_from (is_plain b) (list_all is_plain (take (prefix_len is_plain text) text)) e
                rest.plain;
            ends = rest.ends;
          })
      | inr e ↦ rw e (record { whole = refl; plain = refl; ends = e })
    ]

-- A text is cut at its first blank or semicolon.
pub cut_at : (text : List ℕ) (at : ℕ) → position is_stop text ≡ Some at
    → IsCut text (take at text) (take (length text - at) (drop at text))
cut_at text at h =
    let found : (ltb (prefix_len is_plain text) (length text) ≡ true)
    × (prefix_len is_plain text ≡ at) = cond_some _ _ _ h in
    let rest : take (length text - at) (drop at text) ≡ drop at text =
    grind (arith, take_all, length-drop) in
    rw (rest, ← found.1) (cut_front text)

-- A text without a blank or a semicolon is cut at its end.
pub cut_whole : (text : List ℕ) → position is_stop text ≡ None → IsCut text text []
cut_whole text h =
    let past : length text ≤ prefix_len is_plain text = ltb-false _ _ (cond_none _ _ h) in
    let P : List ℕ → List ℕ → Type 0 = λ token rest. IsCut text token rest in
    subst (λ (token : List ℕ). P token []) (take_all (prefix_len is_plain text) text past)
    (subst (P (take (prefix_len is_plain text) text))
    (drop_all (prefix_len is_plain text) text past) (cut_front text))

plain_not : (b : ℕ) → is_plain b ≡ true → is_plain b ≡ false → ⊥
plain_not b h e = cc

-- a text is cut in one way
pub cut_only : (a b c d : List ℕ) → a ++ b ≡ c ++ d → list_all is_plain a ≡ true
    → list_all is_plain c ≡ true → EndsPlain b → EndsPlain d → (a ≡ c) × (b ≡ d)
cut_only [] b [] d e p q f g = (refl, e)
cut_only [] b (y ∷ c) d e p q f g =
    absurd (plain_not y (and_parts (is_plain y) (list_all is_plain c) q).0 (subst EndsPlain e f))
cut_only (x ∷ a) b [] d e p q f g =
    absurd
    (plain_not x (and_parts (is_plain x) (list_all is_plain a) p).0 (subst EndsPlain (sym e) g))
cut_only (x ∷ a) b (y ∷ c) d e p q f g =
    let heads : x ≡ y = cc in
    let tails : a ++ b ≡ c ++ d = cc in
    let rest =
    cut_only a b c d tails (and_parts (is_plain x) (list_all is_plain a) p).1
    (and_parts (is_plain y) (list_all is_plain c) q).1 f g in
    (ap (λ (z : ℕ). z ∷ a) heads ∙ ap (λ (z : List ℕ). y ∷ z) rest.0, rest.1)

-- A blank is a stop, and so no plain byte.
pub blank_stops : (b : ℕ) → is_blank b ≡ true → is_plain b ≡ false
blank_stops b h = grind (arith, nat_tests)

-- blanks are no plain bytes
pub blanks_end : (text : List ℕ) → AreBlanks text → EndsPlain text
blanks_end [] h = tt
blanks_end (b ∷ text) h = blank_stops b (and_parts (is_blank b) (list_all is_blank text) h).0
