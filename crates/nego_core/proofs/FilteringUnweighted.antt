-- Filtering by a list without a weight 0.
use Rattle.std.proofs.Common.{ℕ, ◌≡◌, ◌<◌, ◌+◌, ◌-◌, List, [], ◌∷◌, Some, None, Option, refl, sym}
use Rattle.std.proofs.Common.{◌∙◌, ap, subst, arith}
use Rattle.std.specs.Prelude.{◌↔◌, All, Contains, IsSomeAnd, map}
use Rattle.std.specs.List.{slice_get}
use Rattle.std.proofs.lemmas.List.Elements.{All-contains}
use Rattle.std.proofs.lemmas.List.Sorted.{All-permutation, Contains-permutation}
use Rattle.std.proofs.lemmas.Option.{slice_get_within, get_or_from_slice_get}
use Rattle.lang_core.specs.Text.{pieces}
use Rattle.lang_core.specs.Lang.{tag_of}
use Rattle.list_core.proofs.Basics.{all_at, contains_map, contains_from_map}
use Rattle.list_core.proofs.DecidingMatchedLemmas.{a_match_decides}
use Rattle.nego_core.proofs.FilteringEach.{IsKeyFrom, keys_right, keys_all}
use Rattle.list_core.specs.Item.{Item}
use Rattle.list_core.specs.Deciding.{IsDecidedBy}
use Rattle.nego_core.specs.declared.filtering.FilterKey.{FilterKey}
use Rattle.nego_core.specs.Filtering.{IsKey, AreKeys, IsFiltered, pick_of}
use Rattle.nego_core.specs.ChoosingUnweighted.{MatchesSome, IsMatchedAt}
use Rattle.list_core.specs.Item.{AllPositive}
use Rattle.nego_core.specs.declared.filtering.Pick.{Pick}
use Rattle.list_core.specs.declared.scheme.Scheme.{Scheme}

-- ---- what is picked is matched

decided_matches : (scheme : Scheme) (items : List Item) (tag : Option (List ℕ)) (place weight : ℕ)
    → IsSomeAnd tag (λ t. IsDecidedBy scheme items (pieces t) place weight)
    → IsSomeAnd tag (MatchesSome scheme items)
decided_matches scheme items None place weight d = absurd d
decided_matches scheme items (Some t) place weight d = (
  place,
  d.0.item,
  slice_get_within items place d.0.item d.0.stands,
  get_or_from_slice_get items
      place d.0.item d.0.item d.0.stands,
  d.0.fits,
)

key_matched : (scheme : Scheme) (items : List Item) (langs : List (List ℕ)) (key : FilterKey)
    → IsKeyFrom scheme items 0 langs key → IsMatchedAt scheme items langs key.place
key_matched scheme items langs key k =
    let o = k.key_ok in
    let stands : slice_get langs key.place ≡ Some k.lang =
    (let p = o.place_is in ap (slice_get langs) (omega arith) ∙ k.stands) in
    subst (λ (o : Option (List ℕ)). IsSomeAnd o
    (λ lang. IsSomeAnd (tag_of lang) (MatchesSome scheme items))) (sym stands)
    (decided_matches scheme items (tag_of k.lang) key.item o.weight o.decided)

-- ---- what is matched is picked

-- a language is decided, with a positive weight
record IsWanted (scheme : Scheme) (items : List Item) (tag : Option (List ℕ)) : Type 0 where
  item : ℕ
  weight : ℕ
  decided : IsSomeAnd tag (λ t. IsDecidedBy scheme items (pieces t) item weight)
  positive : 0 < weight

matched_wanted : (scheme : Scheme) (items : List Item) (tag : Option (List ℕ)) → AllPositive items
    → IsSomeAnd tag (MatchesSome scheme items) → IsWanted scheme items tag
matched_wanted scheme items None positive m = absurd m
matched_wanted scheme items (Some t) positive m =
    let one = a_match_decides scheme items (pieces t) m.1 (m.0, m.2, m.3) m.4 in
    record {
      item = one.0;
      weight = one.1.item.weight;
      decided = (one.1, refl);
      positive =
          all_at (λ i. 0 < i.weight) items one.0 one.1.item positive one.1.stands;
    }

matched_key : (scheme : Scheme) (items : List Item) (langs : List (List ℕ)) (keys : List FilterKey)
    (place : ℕ) (lang : Option (List ℕ)) → AllPositive items → AreKeys scheme items 0 langs keys
    → slice_get langs place ≡ lang
    → IsSomeAnd lang (λ l. IsSomeAnd (tag_of l) (MatchesSome scheme items))
    → (key : FilterKey) × Contains keys key × (key.place ≡ place)
matched_key scheme items langs keys place None positive a stands m = absurd m
matched_key scheme items langs keys place (Some lang) positive a stands m =
    let w = matched_wanted scheme items (tag_of lang) positive m in
    let key : FilterKey =
    record { missing_weight = 1000 - w.weight; item = w.item; lang = lang; place = place } in
    let is_key : IsKey scheme items lang (0 + place) key =
    record {
      weight = w.weight;
      decided = w.decided;
      positive = w.positive;
      missing_is =
          refl;
      lang_is = refl;
      place_is = omega arith;
    } in
    (key, keys_all scheme items 0 place langs keys lang key a stands is_key, refl)

place_kept : (keys : List FilterKey)
    → map (λ p. p.place) (map pick_of keys) ≡ map (λ k. k.place) keys
place_kept [] = refl
place_kept (k ∷ keys) = ap (λ (places : List ℕ). k.place ∷ places) (place_kept keys)

-- exactly the places of the tags that some range matches
pub all_matches : (scheme : Scheme) (items : List Item) (langs : List (List ℕ)) (picks : List Pick)
    → AllPositive items → IsFiltered scheme items langs picks → (place : ℕ)
    → Contains (map (λ p. p.place) picks) place ↔ IsMatchedAt scheme items langs place
all_matches scheme items langs picks positive f place =
    let places : map (λ (p : Pick). p.place) picks ≡ map (λ (k : FilterKey). k.place) f.keys =
    ap (map (λ (p : Pick). p.place)) f.picks_are ∙ place_kept f.keys in (
      (λ c.
          let key =
          contains_from_map (λ (k : FilterKey). k.place) f.keys place
          (subst (λ (xs : List ℕ). Contains xs place) places c) in
          let each : All (IsKeyFrom scheme items 0 langs) f.keys =
          All-permutation (IsKeyFrom scheme items 0 langs) f.all f.keys f.each_once
          (keys_right scheme items 0 langs f.all f.all_ok) in
          subst (IsMatchedAt scheme items langs) key.2
          (key_matched scheme items langs key.0
          (All-contains (IsKeyFrom scheme items 0 langs) f.keys key.0 each key.1))),
      (λ m.
          let one =
          matched_key scheme items langs f.all place (slice_get langs place) positive f.all_ok
          refl m in
          let kept : Contains f.keys one.0 =
          Contains-permutation f.all f.keys one.0 f.each_once one.1 in
          subst (λ (xs : List ℕ). Contains xs place) (sym places)
          (subst (Contains (map (λ (k : FilterKey). k.place) f.keys)) one.2
          (contains_map (λ (k : FilterKey). k.place) f.keys one.0 kept))),
    )
