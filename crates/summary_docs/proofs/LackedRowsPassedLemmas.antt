-- What is left of a map in ascending order, once the entries of lesser keys are passed.
use Rattle.std.proofs.Common.{◌≡◌, ◌≢◌, ◌∙◌, ◌∷◌, List, None, Some, ap, subst, sym}
use Rattle.std.specs.declared.cmp.Ordering.TheVariants.{Equal, Greater, Less}
use Rattle.std.specs.FinMap.Entries.{find}
use Rattle.std.specs.Ordering.{is_eq, is_lt}
use Rattle.cell_core.specs.Keyed.{IsMap}
use Rattle.cell_core.specs.Entry.{EntryKey, key_cmp}
use Rattle.cata_core.proofs.SummaryListsLemmas.{first_absent, first_found, not_greater}
use Rattle.cata_core.proofs.SummaryListsLemmas.{not_greater_self, passed, passed_found}
use Rattle.summary_docs.specs.inner.LackedRows.{IsPassed}

module _ {V : Type 0} (all left : List (EntryKey × V)) (key k : EntryKey) (v : V)
    (rest : List (EntryKey × V)) (there : left ≡ (k, v) ∷ rest) (map : IsMap key_cmp left)
    (so_far : (q : EntryKey) → key_cmp key q ≢ Greater
    → find key_cmp q left ≡ find key_cmp q all) where
  at_left : (q : EntryKey) → find key_cmp q left ≡ find key_cmp q ((k, v) ∷ rest)
  at_left q = ap (find key_cmp q) there

  -- an entry of a lesser key is passed
  pub passed_less : key_cmp k key ≡ Less → (q : EntryKey) → key_cmp key q ≢ Greater
      → find key_cmp q rest ≡ find key_cmp q all
  passed_less less q from =
      passed key k v rest (ap is_lt less) q from ∙ sym (at_left q) ∙ so_far q from

  -- the key is found
  pub found_first : key_cmp k key ≡ Equal → Some v ≡ find key_cmp key all
  found_first same =
      first_found key k v rest (ap is_eq same)
      ∙ sym (at_left key) ∙ so_far key (not_greater_self key)

  -- and the greater ones come after it
  pub found_passed : key_cmp k key ≡ Equal → IsPassed key all rest
  found_passed same q less =
      passed_found key k v rest same q less ∙ sym (at_left q) ∙ so_far q (not_greater less)

  -- a greater key is there instead
  pub absent_first : key_cmp k key ≡ Greater → None ≡ find key_cmp key all
  absent_first greater =
      first_absent key k v rest (subst (IsMap key_cmp) there map)
      (λ less. let no : Greater ≡ Less = sym greater ∙ less in absurd (cc)) (ap is_eq greater)
      ∙ sym (at_left key) ∙ so_far key (not_greater_self key)
