-- The first piece that is refused begins at one offset.
use Rattle.std.proofs.Common.{ℕ, ◌≡◌, ◌+◌, List, [], ◌∷◌, ◌++◌, Bool, true, false, length, sum_by}
use Rattle.std.proofs.Common.{sym, ◌∙◌, ap, subst, arith}
use Rattle.lang_core.specs.Grammar.{are_allowed, IsFirstRefused}
use Rattle.lang_core.proofs.Basics.{each_true}

at_place : (allowed : ℕ → List ℕ → Bool) (from place : ℕ) (piece : List ℕ) (b : Bool) → from ≡ place
    → allowed from piece ≡ b → allowed place piece ≡ b
at_place allowed from place piece b e h = subst (λ (n : ℕ). allowed n piece ≡ b) e h

-- two such pieces of one list have the same pieces before them
same_before : (allowed : ℕ → List ℕ → Bool) (from : ℕ) (b c a d : List (List ℕ)) (x y : List ℕ)
    → b ++ x ∷ a ≡ c ++ y ∷ d → are_allowed allowed from b ≡ true
    → are_allowed allowed from c ≡ true → allowed (from + length b) x ≡ false
    → allowed (from + length c) y ≡ false → b ≡ c
same_before allowed from [] [] a d x y e p q r s = cc
same_before allowed from [] (z ∷ c) a d x y e p q r s =
    absurd (let same : x ≡ z = cc in
    let fine : allowed from z ≡ true =
    (each_true (allowed from z) (are_allowed allowed (from + 1) c) q).0 in
    let refused : allowed from x ≡ false =
    at_place allowed (from + 0) from x false (omega arith) r in
    cc)
same_before allowed from (z ∷ b) [] a d x y e p q r s =
    absurd (let same : z ≡ y = cc in
    let fine : allowed from z ≡ true =
    (each_true (allowed from z) (are_allowed allowed (from + 1) b) p).0 in
    let refused : allowed from y ≡ false =
    at_place allowed (from + 0) from y false (omega arith) s in
    cc)
same_before allowed from (z ∷ b) (w ∷ c) a d x y e p q r s =
    let head : z ≡ w = cc in
    let tail : b ≡ c = same_before allowed (from + 1) b c a d x y (cc)
    (each_true (allowed from z) (are_allowed allowed (from + 1) b) p).1
    (each_true (allowed from w) (are_allowed allowed (from + 1) c) q).1
    (at_place allowed (from + length (z ∷ b)) (from + 1 + length b) x false (omega arith) r)
    (at_place allowed (from + length (w ∷ c)) (from + 1 + length c) y false (omega arith) s) in
    cc

-- The first piece of a list that is refused begins at one offset alone.
pub one_offset : (allowed : ℕ → List ℕ → Bool) (list : List (List ℕ)) (a b : ℕ)
    → IsFirstRefused allowed list a → IsFirstRefused allowed list b → a ≡ b
one_offset allowed list a b f g =
    let same : f.before ≡ g.before =
    same_before allowed 0 f.before g.before f.after g.after f.piece g.piece
    (sym f.whole ∙ g.whole) f.before_ok g.before_ok
    (at_place allowed (length f.before) (0 + length f.before) f.piece false (omega arith) f.refused)
    (at_place allowed (length g.before) (0 + length g.before) g.piece false (omega arith) g.refused)
    in
    f.begins ∙ (ap (sum_by (λ s. length s + 1)) same ∙ sym g.begins)
