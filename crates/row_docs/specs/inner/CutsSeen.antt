-- What was kept of a value so far, without where it lies in memory.
use Rattle.std.specs.Prelude.{◌≡◌, ℕ, zero, suc, List, ◌++◌, Bool, true, false, length, map, take}
use Rattle.json.specs.Value.{value_view}
use Rattle.serde_json.specs.Data.{Data, Items, array}
use Rattle.json_docs.specs.Parts.{list_of}
use Rattle.json_docs.specs.ScanningReads.{AreRead, IsRead, seen}
use Rattle.row_docs.specs.Cuts.{are_texts, cut_to, fits, nothing, of_last, texts_to}
use Rattle.row_docs.specs.declared.cuts.Cut.{Cut}
use Rattle.row_docs.specs.declared.cuts.Kept.{Kept}

-- what is kept of a value that no row has
pub record IsNothing (cut : Cut) : Type 0 where
  pub read : IsRead (value_view cut.value)
  pub value : seen cut.value ≡ nothing
  pub texts : cut.texts ≡ 0

-- ---- the items of an array, as they are read

-- these are all, and a row may have an array that begins with them
pub record KeepsItems (levels : ℕ) (front : List Data) (kept : Kept) : Type 0 where
  pub read : AreRead kept.first.items
  pub first : map seen kept.first.items ≡ take 65 (map (cut_to levels) front)
  pub count : kept.count ≡ length front
  pub are_texts : kept.are_texts ≡ are_texts front
  pub texts : kept.texts ≡ of_last (texts_to levels) front
  pub fits : fits front ≡ true

-- nothing is kept of an array that begins with them
abbrev pub KeepsNone : ℕ → List Data → Type 0
KeepsNone levels front = (rest : List Data) (ds : Items) → list_of ds ≡ front ++ rest
    → (cut_to levels (array ds) ≡ nothing) × (texts_to levels (array ds) ≡ 0)

-- by whether a row may have an array that begins with them
abbrev pub KeepsBy : Bool → ℕ → List Data → Kept → Type 0
KeepsBy false levels front kept = KeepsNone levels front
KeepsBy true zero front kept = ⊥
KeepsBy true (suc levels) front kept = KeepsItems levels front kept

-- what is kept of an array that nests at most this deep, after these items
abbrev pub Keeps : ℕ → List Data → Kept → Type 0
Keeps levels front kept = KeepsBy kept.fits levels front kept
