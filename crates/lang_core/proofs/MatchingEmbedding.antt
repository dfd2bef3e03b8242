-- A list embeds exactly where pairing greedily succeeds.
use Rattle.std.proofs.Common.{ℕ, ◌≡◌, ◌≤◌, ◌<◌, ◌⊎◌, inl, inr, List, [], ◌∷◌, Bool, true, false}
use Rattle.std.proofs.Common.{cond, length, refl, sym, ◌∙◌, subst, arith}
use Rattle.std.specs.Str.{bytes_eq}
use Rattle.std.specs.Prelude.{nat_lt, IsTrue, ◌↔◌}
use Rattle.std.proofs.lemmas.Slice.Eq.{bytes_eq-Decides}
use Rattle.std.proofs.lemmas.Bool.Decides.{nat_tests}
use Rattle.lang_core.specs.Grammar.{is_star}
use Rattle.lang_core.specs.Matching.{Embeds, Extended, without_stars, greedy}
use Rattle.lang_core.proofs.Basics.{cases_bool, lt_is, is_lt}
use Rattle.lang_core.proofs.RangeStars.{star_kept, star_dropped}

-- A wanted subtag of more than one character may be left out.
embeds_rest : (w : List ℕ) (wanted given : List (List ℕ)) → 1 < length w → Embeds (w ∷ wanted) given
    → Embeds wanted given
embeds_rest w [] given n e = tt
embeds_rest w (v ∷ wanted) [] n e = absurd e
embeds_rest w (v ∷ wanted) (g ∷ given) n (inl e) =
    inr (subst (λ (x : List ℕ). 1 < length x) e.0 n, e.1)
embeds_rest w (v ∷ wanted) (g ∷ given) n (inr e) = inr (e.0, embeds_rest w (v ∷ wanted) given n e.1)

one_step : (b c x y : Bool) → cond b x (cond c y false) ≡ true
    → ((b ≡ true) × (x ≡ true)) ⊎ ((c ≡ true) × (y ≡ true))
one_step true c x y h = inl (refl, h)
one_step false true x y h = inr (refl, h)
one_step false false x y h = cc

-- Greedy pairing succeeds where no subtag is wanted.
pub greedy_all : (given : List (List ℕ)) → greedy [] given ≡ true
unfolding greedy
greedy_all given = refl

-- Greedy pairing skips a wanted "*".
pub greedy_star : (w : List ℕ) (wanted given : List (List ℕ)) → is_star w ≡ true
    → greedy (w ∷ wanted) given ≡ greedy wanted given
unfolding greedy
greedy_star w wanted [] h = rw h refl
greedy_star w wanted (g ∷ given) h = rw h refl

-- Greedy pairing fails where a subtag other than "*" is wanted and none is given.
pub greedy_none : (w : List ℕ) (wanted : List (List ℕ)) → is_star w ≡ false
    → greedy (w ∷ wanted) [] ≡ false
unfolding greedy
greedy_none w wanted h = rw h refl

step : (w g : List ℕ) (wanted given : List (List ℕ)) → is_star w ≡ false
    → greedy (w ∷ wanted) (g ∷ given)
    ≡ cond (bytes_eq w g) (greedy wanted given)
    (cond (nat_lt 1 (length g)) (greedy (w ∷ wanted) given) false)
unfolding greedy
step w g wanted given h = rw h refl

-- where the first wanted subtag is not "*"
embeds_head : (w : List ℕ) (wanted given : List (List ℕ)) → is_star w ≡ false
    → ((rest : List (List ℕ)) → greedy wanted rest ≡ true → Embeds (without_stars wanted) rest)
    → greedy (w ∷ wanted) given ≡ true → Embeds (w ∷ without_stars wanted) given
embeds_head w wanted [] kept tail h = (let none = greedy_none w wanted kept in cc)
embeds_head w wanted (g ∷ given) kept tail h =
    elim (one_step (bytes_eq w g) (nat_lt 1 (length g)) (greedy wanted given)
    (greedy (w ∷ wanted) given) (sym (step w g wanted given kept) ∙ h)) [
      | inl e ↦ inl ((bytes_eq-Decides w g).0 e.0, tail given e.1)
      | inr e ↦ inr (lt_is _ _ e.0, embeds_head w wanted given kept tail e.1)
    ]

-- Where greedy pairing succeeds, the wanted subtags other than "*" are embedded in the given ones.
pub embeds_of_greedy : (wanted given : List (List ℕ)) → greedy wanted given ≡ true
    → Embeds (without_stars wanted) given
embeds_of_greedy [] given h = tt
embeds_of_greedy (w ∷ wanted) given h = elim (cases_bool (is_star w)) [
  | inl e ↦
      rw (star_dropped w wanted e)
      (embeds_of_greedy wanted given (sym (greedy_star w wanted given e) ∙ h))
  | inr e ↦ rw (star_kept w wanted e) (embeds_head w wanted given e (embeds_of_greedy wanted) h)
]

paired : (b c x y : Bool) → b ≡ true → x ≡ true → cond b x (cond c y false) ≡ true
paired true c x y p q = q
paired false c x y p q = cc

passed : (b c x y : Bool) → b ≡ false → c ≡ true → y ≡ true → cond b x (cond c y false) ≡ true
passed false true x y p q r = r
passed false false x y p q r = cc
passed true c x y p q r = cc

greedy_head : (w : List ℕ) (wanted given : List (List ℕ)) → is_star w ≡ false
    → ((rest : List (List ℕ)) → Embeds (without_stars wanted) rest → greedy wanted rest ≡ true)
    → Embeds (w ∷ without_stars wanted) given → greedy (w ∷ wanted) given ≡ true
greedy_head w wanted [] kept tail e = absurd e
greedy_head w wanted (g ∷ given) kept tail (inl e) =
    step w g wanted given kept
    ∙ paired (bytes_eq w g) (nat_lt 1 (length g)) (greedy wanted given)
    (greedy (w ∷ wanted) given) ((bytes_eq-Decides w g).1 e.0) (tail given e.1)
greedy_head w wanted (g ∷ given) kept tail (inr e) = elim (cases_bool (bytes_eq w g)) [
  | inl q ↦
      step w g wanted given kept
      ∙ paired (bytes_eq w g) (nat_lt 1 (length g)) (greedy wanted given)
      (greedy (w ∷ wanted) given) q
      (tail given
      (embeds_rest w (without_stars wanted) given
      (subst (λ (x : List ℕ). 1 < length x) (sym ((bytes_eq-Decides w g).0 q)) e.0) e.1))
  | inr q ↦
      step w g wanted given kept
      ∙ passed (bytes_eq w g) (nat_lt 1 (length g)) (greedy wanted given)
      (greedy (w ∷ wanted) given) q (is_lt _ _ e.0) (greedy_head w wanted given kept tail e.1)
]

-- Where the wanted subtags other than "*" are embedded in the given ones, greedy pairing succeeds.
pub greedy_of_embeds : (wanted given : List (List ℕ)) → Embeds (without_stars wanted) given
    → greedy wanted given ≡ true
greedy_of_embeds [] given e = greedy_all given
greedy_of_embeds (w ∷ wanted) given e = elim (cases_bool (is_star w)) [
  | inl q ↦
      greedy_star w wanted given q
      ∙ greedy_of_embeds wanted given (rw (star_dropped w wanted q) at e)
  | inr q ↦ greedy_head w wanted given q (greedy_of_embeds wanted) (rw (star_kept w wanted q) at e)
]

-- ---- one step of the matcher

-- Greedy pairing pairs a wanted subtag with an equal given one and goes on after both.
pub greedy_pair : (w g : List ℕ) (given rest : List (List ℕ)) → is_star w ≡ false
    → bytes_eq w g ≡ true → greedy (w ∷ rest) (g ∷ given) ≡ greedy rest given
greedy_pair w g given rest kept h = step w g rest given kept ∙ rw h refl

-- Greedy pairing fails at a given subtag of at most one character that differs from the wanted one.
pub greedy_stop : (w g : List ℕ) (given rest : List (List ℕ)) → is_star w ≡ false
    → bytes_eq w g ≡ false → length g ≤ 1 → greedy (w ∷ rest) (g ∷ given) ≡ false
greedy_stop w g given rest kept h n = let q : nat_lt 1 (length g) ≡ false =
    grind (arith, nat_tests) in step w g rest given kept ∙ rw (h, q) refl

-- Greedy pairing skips a given subtag of two or more characters that differs from the wanted one.
pub greedy_pass : (w g : List ℕ) (given rest : List (List ℕ)) → is_star w ≡ false
    → bytes_eq w g ≡ false → 1 < length g → greedy (w ∷ rest) (g ∷ given) ≡ greedy (w ∷ rest) given
greedy_pass w g given rest kept h n = step w g rest given kept ∙ rw (h, is_lt 1 (length g) n) refl

-- Where the first subtags match, a range matches a tag in the extended way just where greedy
-- pairing of the others succeeds.
pub extended_is : (range tag : List (List ℕ)) (r t : List ℕ) (rs ts : List (List ℕ)) (b : Bool)
    → range ≡ r ∷ rs → tag ≡ t ∷ ts → (IsTrue (is_star r) ⊎ (r ≡ t)) → b ≡ greedy rs ts → IsTrue b
    ↔ Extended range tag
extended_is range tag r t rs ts b p q heads e =
    rw (p, q) (
      (λ h. (heads, embeds_of_greedy rs ts (sym e ∙ h))),
      (λ x. e ∙ greedy_of_embeds rs ts x.1),
    )
