-- The keys of entries, and their order (project rules).
use Rattle.std.specs.Prelude.{ℕ, List}
use Rattle.std.specs.declared.cmp.Ordering.{Ordering}
use Rattle.std.specs.Ordering.{nat_cmp, ordering_then}
use Rattle.std.specs.Cmp.Lexicographic.{slice_cmp}

-- the bytes of a message's id and of a language
abbrev pub EntryKey : Type 0
EntryKey = List ℕ × List ℕ

-- texts by their bytes
abbrev pub text_cmp : List ℕ → List ℕ → Ordering
text_cmp = slice_cmp nat_cmp

-- by the first, then by the second
abbrev pub pair_cmp : {K L : Type 0} → (K → K → Ordering) → (L → L → Ordering) → K × L → K × L
    → Ordering
pair_cmp P Q x y = ordering_then (P x.0 y.0) (Q x.1 y.1)

-- by the id, then by the language
abbrev pub key_cmp : EntryKey → EntryKey → Ordering
key_cmp = pair_cmp text_cmp text_cmp
