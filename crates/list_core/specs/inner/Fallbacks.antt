-- The texts that lookup tries, as they are found one after another.
use Rattle.std.specs.Prelude.{ℕ, suc, ◌≡◌, ◌≤◌, List, ◌++◌, Option, Some, None, if◌then◌else◌}
use Rattle.std.specs.Prelude.{length, map}
use Rattle.lang_core.specs.Text.{joined, pieces}
use Rattle.lang_core.specs.TruncationsCandidates.{candidates}
use Rattle.list_core.specs.Fallbacks.{right_of, walk, is_in, fresh}
use Rattle.list_core.specs.declared.fallbacks.Fallback.{Fallback}

-- the chain, where some texts were tried and some come next
abbrev pub chain_from : List (List ℕ) → List (List (List ℕ)) → List (List ℕ)
chain_from tried texts = tried ++ fresh tried (map joined texts)

-- so many elements of a table at most are not used, just those whose left sides were not tried
pub record AreUnused (table : List Fallback) (tried : List (List ℕ)) (n : ℕ)
    (unused : List Fallback) : Type 0 where
  pub few : length unused ≤ n
  pub left : (text : List ℕ) → right_of unused text
      ≡ (if is_in tried text then None else right_of table text)

-- what comes next leads on: the chain goes on with it, by one element less
pub record LeadsOn (table : List Fallback) (whole : List (List ℕ)) (n : ℕ)
    (tried : List (List ℕ)) (right : List ℕ) : Type 0 where
  pub others : ℕ
  pub unused : List Fallback
  pub fewer : n ≡ suc others
  pub unused_ok : AreUnused table tried others unused
  pub same : whole ≡ chain_from tried (walk others unused (candidates (pieces right)))

-- from some texts that were tried to more, through these, whatever the elements are that were not
-- used: the chain is whole, or a text leads on
abbrev pub ChainsOn : List Fallback → List (List ℕ) → List (List (List ℕ)) → List (List ℕ)
    → Option (List ℕ) → Type 0
ChainsOn table before texts tried None =
    (n : ℕ) (unused : List Fallback) → AreUnused table before n unused
    → chain_from before (walk n unused texts) ≡ tried
ChainsOn table before texts tried (Some right) =
    (n : ℕ) (unused : List Fallback) → AreUnused table before n unused
    → LeadsOn table (chain_from before (walk n unused texts)) n tried right
