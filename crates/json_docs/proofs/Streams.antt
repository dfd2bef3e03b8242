-- Reads and writes, one after the other.
use Rattle.std.proofs.Common.{◌≡◌, ◌∙◌, ◌++◌, ℕ, List, ap, sym, append_assoc, Option, None, Some}
use Rattle.std.proofs.Common.{length, take, drop, ◌-◌}
use Rattle.std.proofs.lemmas.List.{take_rest, take-append-drop}
use Rattle.std.proofs.Common.{◌+◌}
use Rattle.std.proofs.Math.Seq.{take-add}
use Rattle.std.specs.Io.KnownBytes.{Appends, Consumes}

-- bytes that are written after others are written with them
pub Appends-then : (a b c : Option (List ℕ)) (x y : List ℕ) → Appends a b x → Appends b c y
    → Appends a c (x ++ y)
Appends-then None b c x y p q = tt
Appends-then (Some u) None c x y p q = absurd p
Appends-then (Some u) (Some v) None x y p q = absurd q
Appends-then (Some u) (Some v) (Some w) x y p q = q ∙ (ap (λ t. t ++ y) p ∙ append_assoc u x y)

-- bytes that are read after others are read with them
pub Consumes-then : (a b c : Option (List ℕ)) (x y : List ℕ) → Consumes a b x → Consumes b c y
    → Consumes a c (x ++ y)
Consumes-then None b c x y p q = tt
Consumes-then (Some u) None c x y p q = absurd p
Consumes-then (Some u) (Some v) None x y p q = absurd q
Consumes-then (Some u) (Some v) (Some w) x y p q =
    p ∙ (ap (λ t. x ++ t) q ∙ sym (append_assoc x y w))

-- n more bytes of the rest go to the front
pub split_more : (text front rest : List ℕ) (n : ℕ) → text ≡ front ++ rest
    → text ≡ (front ++ take n rest) ++ take (length rest - n) (drop n rest)
split_more text front rest n e =
    rw (take_rest rest n)
    (e
    ∙ (ap (λ t. front ++ t) (sym (take-append-drop n rest))
    ∙ sym (append_assoc front (take n rest) (drop n rest))))

-- n more bytes come after the first m of a buffer, which stay
pub Consumes-rest : (a b c : Option (List ℕ)) (m n : ℕ) (old new : List ℕ)
    → Consumes a b (take m old) → take m new ≡ take m old → Consumes b c (take n (drop m new))
    → Consumes a c (take (m + n) new)
Consumes-rest a b c m n old new given same more =
    rw (take-add m n new, same) (Consumes-then a b c (take m old) (take n (drop m new)) given more)
