-- Where a language has a key, it is picked.
use Rattle.std.proofs.Common.{ℕ, ◌≡◌, ◌<◌, ◌+◌, List, [], ◌∷◌, Some, length, get_or, ◌∙◌, ap, arith}
use Rattle.std.specs.Prelude.{Result, Ok, Err, IsErr, IsErrAnd, MatchResult, map}
use Rattle.std.specs.List.{slice_get}
use Rattle.std.proofs.lemmas.List.Elements.{All-head}
use Rattle.list_core.proofs.Basics.{stands_at}
use Rattle.nego_core.proofs.FilteringKeys.{text_within, text_at}
use Rattle.nego_core.proofs.FilteringEach.{IsKeyFrom, keys_right}
use Rattle.list_core.specs.Item.{Item}
use Rattle.nego_core.specs.declared.filtering.FilterKey.{FilterKey}
use Rattle.nego_core.specs.Filtering.{IsKey, AreKeys, HasPick}
use Rattle.list_core.specs.declared.fault.NegoFault.{NegoFault}
use Rattle.list_core.specs.declared.fault.NegoFault.TheVariants.{NoMemory}
use Rattle.list_core.specs.declared.scheme.Scheme.{Scheme}

-- Something is picked where the language at a place has a key.
pub pick_of_key : (scheme : Scheme) (items : List Item) (langs : List (List ℕ)) (lang : List ℕ)
    (place : ℕ) (key : FilterKey) → slice_get langs place ≡ Some lang
    → IsKey scheme items lang place key → HasPick scheme items langs
pick_of_key scheme items langs lang place key stands k = (
  record { place = place; weight = k.weight },
  record {
    lang = lang;
    stands = stands;
    item = key.item;
    decided = k.decided;
    positive =
        k.positive;
  },
)

-- Something is picked where the languages have at least one key.
pub some_pick : (scheme : Scheme) (items : List Item) (langs : List (List ℕ))
    (keys : List FilterKey) → AreKeys scheme items 0 langs keys → 0 < length keys
    → HasPick scheme items langs
some_pick scheme items langs [] a n = absurd (omega arith)
some_pick scheme items langs (key ∷ keys) a n =
    let first =
    All-head (IsKeyFrom scheme items 0 langs) key keys
    (keys_right scheme items 0 langs (key ∷ keys) a) in
    pick_of_key scheme items langs first.lang (0 + first.n) key
    (ap (slice_get langs) (omega arith) ∙ first.stands) first.key_ok

-- Something is picked where one of the values whose texts are the languages has a key.
pub pick_given : {X : Type 0} (scheme : Scheme) (items : List Item) (text : X → List ℕ)
    (langs : List X) (place : ℕ) (l : X) (key : FilterKey) → place < length langs
    → l ≡ get_or langs place l → IsKey scheme items (text l) place key
    → HasPick scheme items (map text langs)
pick_given scheme items text langs place l key low e k =
    pick_of_key scheme items (map text langs) (text l) place key
    (stands_at (map text langs) place (text l) (text_within text langs place low)
    (text_at text langs place l low e)) k

-- A result that is an error meets a contract whose condition on errors holds.
pub refused : {A E : Type 0} (P : A → Type 0) (Q : Type 0) (r : Result A E) → IsErr r → Q
    → MatchResult r P (λ _. Q)
refused P Q (Ok x) h q = cc
refused P Q (Err e) h q = q

-- A result that is the error `NoMemory` meets a contract that allows this error alone, under a
-- condition that holds.
pub refused_by : {A : Type 0} (P : A → Type 0) (Q : Type 0) (r : Result A NegoFault) → IsErr r
    → IsErrAnd r (λ e. e ≡ NoMemory) → Q → MatchResult r P (λ fault. (fault ≡ NoMemory) × Q)
refused_by P Q (Ok x) h e q = cc
refused_by P Q (Err fault) h e q = (e, q)
