-- What maps ask of the order of keys.
use Rattle.std.specs.Prelude.{◌≡◌}
use Rattle.std.specs.declared.cmp.Ordering.TheVariants.{Equal}
use Rattle.std.specs.Cmp.{IsTotalOrder, on_total, then_total}
use Rattle.std.specs.Cmp.Lexicographic.{nat_list_cmp_total}
use Rattle.std.proofs.lemmas.Map.Lookups.{exact_pairs, exact_bytes}
use Rattle.cell_core.specs.Entry.{EntryKey, text_cmp, key_cmp}

-- the order of keys is total
pub key_cmp_total : IsTotalOrder key_cmp
key_cmp_total =
    then_total (on_total (λ (k : EntryKey). k.0) nat_list_cmp_total)
    (on_total (λ (k : EntryKey). k.1) nat_list_cmp_total)

-- keys that compare equal are one
pub key_cmp_exact : (a b : EntryKey) → key_cmp a b ≡ Equal → a ≡ b
key_cmp_exact = exact_pairs text_cmp text_cmp exact_bytes exact_bytes
