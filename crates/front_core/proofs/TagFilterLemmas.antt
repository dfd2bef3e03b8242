-- The lines of what a field takes of tags.
use Rattle.std.proofs.Common.{◌≡◌, ◌∙◌, ◌<◌, ℕ, List, ap, arith, length, subst, sym}
use Rattle.std.specs.Prelude.{All}
use Rattle.std.specs.Borrow.{Bor}
use Rattle.std.proofs.lemmas.List.{length-map}
use Rattle.std.proofs.lemmas.List.Elements.{All-map, All-weaker}
use Rattle.std.proofs.lemmas.List.Sorted.{All-permutation}
use Rattle.std.proofs.lemmas.Option.{slice_get_within}
use Rattle.nego_core.proofs.FilteringEach.{IsKeyFrom, keys_right}
use Rattle.nego_core.specs.Filtering.{IsFiltered, pick_of}
use Rattle.list_core.specs.Item.{Item}
use Rattle.nego_core.specs.declared.filtering.Pick.{Pick}
use Rattle.list_core.specs.declared.scheme.Scheme.{Scheme}
use Rattle.front_core.specs.Preferences.{Text}
use Rattle.front_core.specs.inner.TagFilter.{HaveNames, texts_of}

-- what is picked is one of the languages
pub picks_within : (scheme : Scheme) (items : List Item) (langs : List (List ℕ)) (picks : List Pick)
    → IsFiltered scheme items langs picks → All (λ p. p.place < length langs) picks
picks_within scheme items langs picks f =
    rw f.picks_are (All-map (λ p. p.place < length langs) pick_of f.keys
    (All-weaker (IsKeyFrom scheme items 0 langs) (λ k. k.place < length langs)
    (λ k h.
    let within : h.n < length langs = slice_get_within langs h.n h.lang h.stands in
    let place = h.key_ok.place_is in omega arith) f.keys
    (All-permutation (IsKeyFrom scheme items 0 langs) f.all f.keys f.each_once
    (keys_right scheme items 0 langs f.all f.all_ok))))

-- Where there is a name for each language, each pick has a name.
pub enough_names : {A : Type 0} (scheme : Scheme) (items : List Item) (langs : List Text)
    (names : List A) (picks : List Pick) → IsFiltered scheme items langs picks
    → length langs ≡ length names → HaveNames names picks
enough_names scheme items langs names picks f many =
    subst (λ (n : ℕ). All (λ (p : Pick). p.place < n) picks) many
    (picks_within scheme items langs picks f)

-- there are as many texts as are borrowed
pub as_many_texts : (names lent : List (Bor Text)) (texts : List Text) → lent ≡ names
    → texts_of names ≡ texts → length texts ≡ length lent
as_many_texts names lent texts same are = sym (ap length are) ∙ length-map names (λ name. name.now)
    ∙ sym (ap length same)
