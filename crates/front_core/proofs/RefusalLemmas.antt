-- The refusals by number and by word.
use Rattle.std.proofs.Common.{◌≡◌, ◌∙◌, ◌≤◌, ◌<◌, ◌+◌, ◌-◌, ◌==◌, ℕ, List, ap, arith, false, length}
use Rattle.std.proofs.Common.{map, refl, sym}
use Rattle.std.specs.Prelude.{None, Option, option_map, position, slice_get}
use Rattle.std.specs.Str.{bytes_eq}
use Rattle.std.proofs.lemmas.Bool.Decides.{nat_tests}
use Rattle.std.proofs.lemmas.Option.{slice_get-map, slice_get_past}
use Rattle.cell_core.proofs.LabelLemmas.{position-map}
use Rattle.front_core.specs.Refusal.{RefusalTexts, number_of_code, refusal_of, refusal_texts}
use Rattle.front_core.specs.Refusal.{refusals}
use Rattle.front_core.specs.declared.refusal.Refusal.{Refusal}

-- there are 31
count : length refusals ≡ 31
count = refl

-- A number above 31 has no refusal.
pub above_has_none : (number : ℕ) → 31 < number → refusal_of number ≡ None
above_has_none number h =
    let some : (number == 0) ≡ false = grind (arith, nat_tests, h) in
    let past : length refusals ≤ number - 1 = rw count (omega (arith, h)) in
    rw some (slice_get_past refusals (number - 1) past)

-- The refusal of a number has its place in the table.
pub by_number : (table : List Refusal) (number : ℕ) → map refusal_texts table ≡ refusals
    → 0 < number → refusal_of number ≡ option_map refusal_texts (slice_get table (number - 1))
by_number table number same h =
    let some : (number == 0) ≡ false = grind (arith, nat_tests, h) in
    rw some
    (ap (λ (all : List RefusalTexts). slice_get all (number - 1)) (sym same)
    ∙ slice_get-map refusal_texts table (number - 1))

-- The first with a word has the number after its place.
pub by_word : (table : List Refusal) (code : List ℕ) (place : Option ℕ)
    → map refusal_texts table ≡ refusals
    → place ≡ position (λ it. bytes_eq it.code.now code) table
    → option_map (λ at. at + 1) place ≡ number_of_code code
by_word table code place same is =
    ap (option_map (λ at. at + 1))
    (is ∙ position-map (λ texts. bytes_eq texts.code code) refusal_texts table
    ∙ ap (position (λ texts. bytes_eq texts.code code)) same)
