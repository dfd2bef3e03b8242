-- The streams of a run, before and after it.
use Rattle.std.specs.Prelude.{◌≡◌, ℕ, Bool, List, Option}

-- a source: the bytes that it has left, where they are known, and whether a read of it failed
pub record Reader (R : Type 0) : Type 0 where
  pub remaining : R → Option (List ℕ)
  pub failed : R → Bool
  pub old : R
  pub new : R

-- a sink: the bytes that it took, where they are known, and whether a write to it failed
pub record Writer (W : Type 0) : Type 0 where
  pub contents : W → Option (List ℕ)
  pub failed : W → Bool
  pub old : W
  pub new : W

-- the input, the output, and the sink of the reports of refusals
pub record Streams (R W F : Type 0) : Type 0 where
  pub reader : Reader R
  pub writer : Writer W
  pub faults : Writer F

-- a source before and after what was read of it
abbrev pub reads : {R : Type 0} → (R → Option (List ℕ)) → (R → Bool) → R → R → Reader R
reads remaining failed old new =
    record { remaining = remaining; failed = failed; old = old; new = new }

-- a sink before and after what was written to it
abbrev pub writes : {W : Type 0} → (W → Option (List ℕ)) → (W → Bool) → W → W → Writer W
writes contents failed old new =
    record { contents = contents; failed = failed; old = old; new = new }

-- the three streams of a run
abbrev pub streams : {R W F : Type 0} → Reader R → Writer W → Writer F → Streams R W F
streams reader writer faults = record { reader = reader; writer = writer; faults = faults }

-- nothing was read
abbrev pub IsUnread : {R : Type 0} → Reader R → Type 0
IsUnread reader = reader.new ≡ reader.old

-- nothing was written
abbrev pub IsUnwritten : {W : Type 0} → Writer W → Type 0
IsUnwritten writer = writer.new ≡ writer.old
