-- Arguments, read one after another.
use Rattle.std.proofs.Common.{◌≡◌, ◌∙◌, ◌<◌, ◌+◌, ℕ, List, [], ◌∷◌, ◌++◌, ap, map, length, take}
use Rattle.std.proofs.Common.{drop, get_or, inl, inr, refl, subst, suc, sym}
use Rattle.std.specs.Prelude.{IsUtf8}
use Rattle.std_io.specs.declared.io.kind.ErrorKind.{ErrorKind}
use Rattle.std.proofs.lemmas.List.{map-append, take_more, take-append-drop}
use Rattle.std.proofs.Math.Seq.{drop-cons}
use Rattle.command_c.specs.Words.{AreUtf8, LacksTexts}
use Rattle.command_c.specs.inner.Words.{LacksText}

AreUtf8-snoc : (words : List (List ℕ)) (word : List ℕ) → AreUtf8 words → IsUtf8 word
    → AreUtf8 (words ++ word ∷ [])
AreUtf8-snoc [] word h one = (one, tt)
AreUtf8-snoc (w ∷ words) word h one = (h.0, AreUtf8-snoc words word h.1 one)

not_AreUtf8 : (before : List (List ℕ)) (word : List ℕ) (after : List (List ℕ)) → (¬ IsUtf8 word)
    → AreUtf8 (before ++ word ∷ after) → ⊥
not_AreUtf8 [] word after not h = not h.0
not_AreUtf8 (w ∷ before) word after not h = not_AreUtf8 before word after not h.1

-- one more argument of a slice is one more text
pub more_texts : {X S : Type 0} (text : X → List ℕ) (bytes : S → List ℕ) (xs : List X) (i : ℕ)
    (x : X) (texts more : List S) (s : S) → i < length xs → more ≡ texts ++ s ∷ []
    → (map bytes texts ≡ map text (take i xs)) × AreUtf8 (map text (take i xs))
    → (bytes s ≡ text (get_or xs i x)) × IsUtf8 (text (get_or xs i x))
    → (map bytes more ≡ map text (take (i + 1) xs)) × AreUtf8 (map text (take (i + 1) xs))
more_texts text bytes xs i x texts more s lt is h one =
    let words : map text (take (i + 1) xs) ≡ map text (take i xs) ++ text (get_or xs i x) ∷ [] =
    ap (map text) (take_more xs i x lt) ∙ map-append text (take i xs) (get_or xs i x ∷ []) in
    rw (words, is, map-append bytes texts (s ∷ []), h.0, one.0)
    (refl, AreUtf8-snoc _ _ h.1 one.1)

no_text : {X : Type 0} (text : X → List ℕ) (xs : List X) (i : ℕ) (x : X) → i < length xs
    → (¬ IsUtf8 (text (get_or xs i x))) → AreUtf8 (map text xs) → ⊥
no_text text xs i x lt not h =
    let whole : map text xs
    ≡ map text (take i xs) ++ text (get_or xs i x) ∷ map text (drop (suc i) xs) =
    ap (map text) (sym (take-append-drop i xs)
    ∙ ap (λ rest. take i xs ++ rest) (drop-cons xs i x lt))
    ∙ map-append text (take i xs) (get_or xs i x ∷ drop (suc i) xs) in
    not_AreUtf8 (map text (take i xs)) (text (get_or xs i x)) (map text (drop (suc i) xs)) not
    (subst AreUtf8 whole h)

-- an argument of a slice of which there is no text
pub lacks_text : {X : Type 0} (text : X → List ℕ) (xs : List X) (i : ℕ) (x : X) (kind : ErrorKind)
    → i < length xs → LacksText (text (get_or xs i x)) kind → LacksTexts (map text xs) kind
lacks_text text xs i x kind lt (inl invalid) =
    inl (invalid.0, λ h. no_text text xs i x lt invalid.1 h)
lacks_text text xs i x kind lt (inr memory) = inr memory
