-- A text reads as one value at most, and its data are those that the value is read from.
use Rattle.std.proofs.Common.{◌≡◌, ◌∙◌, ℕ, List, [], ◌∷◌, map, refl, ap₂, sym, subst}
use Rattle.std.specs.Prelude.{Option, Some}
use Rattle.serde_json.specs.Data.{Data}
use Rattle.cell_core.specs.Entry.{EntryKey}
use Rattle.json_docs.specs.FaultChecks.{AllPass, AreJson, Check}
use Rattle.row_docs.specs.Reading.{Reads}
use Rattle.row_docs.specs.Ascending.{AreEntries}
use Rattle.catalogue.proofs.Basics.{some_same as inside}

-- lists whose values are the same are one
pub same_some : {A : Type 0} (xs ys : List A) → map Some xs ≡ map Some ys → xs ≡ ys
same_some [] [] is = refl
same_some [] (y ∷ ys) is = cc
same_some (x ∷ xs) [] is = cc
same_some (x ∷ xs) (y ∷ ys) is =
    let head : x ≡ y = cc in
    let tails : map Some xs ≡ map Some ys = cc in
    ap₂ (λ z zs. z ∷ zs) head (same_some xs ys tails)

-- rows make one list of entries
pub same_entries : {J : Type 0} (entry : Data → Option (EntryKey × J)) (rows : List Data)
    (es fs : List (EntryKey × J)) → AreEntries entry rows es → AreEntries entry rows fs → es ≡ fs
same_entries entry rows es fs p q = same_some es fs (sym p ∙ q)

-- of values of which data can be one at most, a text reads as one at most
pub one_read : {X : Type 0} (checks : Data → List Check) (Is : Data → X → Type 0)
    (one : (d : Data) (x y : X) → Is d x → Is d y → x ≡ y) (bytes : List ℕ) (x y : X)
    → Reads checks Is bytes x → Reads checks Is bytes y → x ≡ y
one_read checks Is one bytes x y p q =
    let same : q.0 ≡ p.0 = inside q.0 p.0 (sym q.1.1 ∙ p.1.1) in
    one p.0 x y p.3 (subst (λ d. Is d y) same q.3)

-- the data of a text are those that its value is read from
pub read_is : {X : Type 0} (checks : Data → List Check) (Is : Data → X → Type 0) (bytes : List ℕ)
    (d : Data) (x : X) → AreJson bytes d → Reads checks Is bytes x → Is d x
read_is checks Is bytes d x json reads =
    let same : reads.0 ≡ d = inside reads.0 d (sym reads.1.1 ∙ json.1) in
    subst (λ e. Is e x) same reads.3

-- the data of a text that is read pass the tests
pub read_passes : {X : Type 0} (checks : Data → List Check) (Is : Data → X → Type 0)
    (bytes : List ℕ) (d : Data) (x : X) → AreJson bytes d → Reads checks Is bytes x
    → AllPass (checks d)
read_passes checks Is bytes d x json reads =
    let same : reads.0 ≡ d = inside reads.0 d (sym reads.1.1 ∙ json.1) in
    subst (λ e. AllPass (checks e)) same reads.2
