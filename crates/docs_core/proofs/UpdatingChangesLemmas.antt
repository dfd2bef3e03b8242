-- Changes that are made after others.
use Rattle.std.proofs.Common.{ℕ, List, [], ◌∷◌, ◌++◌, inr, subst}
use Rattle.catalogue.specs.Entries.{Entries}
use Rattle.docs_core.specs.UpdatingChanges.{Change, Makes, SpendsClock, with_change}

-- what is made after others is made with them
pub Makes-append : (now : ℕ) (name : List ℕ) (xs ys : List Change) (old mid new : Entries)
    → Makes now name xs old mid → Makes now name ys mid new → Makes now name (xs ++ ys) old new
Makes-append now name [] ys old mid new none makes =
    subst (λ (es : Entries). Makes now name ys es new) none makes
Makes-append now name (x ∷ xs) ys old mid new (stamp, next, rest) makes =
    (stamp, next, Makes-append now name xs ys (with_change x stamp old) mid new rest makes)

-- where the clock is spent after others, it is spent with them
pub Spends-append : (now : ℕ) (name : List ℕ) (xs ys : List Change) (old mid : Entries)
    → Makes now name xs old mid → SpendsClock now name ys mid → SpendsClock now name (xs ++ ys) old
Spends-append now name [] ys old mid none spends =
    subst (λ (es : Entries). SpendsClock now name ys es) none spends
Spends-append now name (x ∷ xs) ys old mid (stamp, next, rest) spends =
    inr (stamp, next, Spends-append now name xs ys (with_change x stamp old) mid rest spends)
