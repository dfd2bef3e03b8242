-- What lookup finds, by its text and by the tags that spell it.
--
-- Lookup runs over the languages that the tags spell, and answers a place among them; a pick
-- answers a tag, as it was passed in. As many languages as tags are there, so the place is one of a
-- tag, and this tag spells the language found. It is the first that does, since lookup answers the
-- first place of a language. The default and the empty answer are the two other cases.
use Rattle.std.proofs.Common.{◌≡◌, ◌∙◌, ◌<◌, ℕ, List, [], ◌∷◌, ap, arith, false, get_or, inl, inr}
use Rattle.std.proofs.Common.{length, refl, subst, suc, sym, true, zero, Option, None, Some}
use Rattle.std.proofs.lemmas.List.Elements.{All-cons, All-nil}
use Rattle.std.proofs.lemmas.List.Quantifiers.{position-Some}
use Rattle.std.proofs.lemmas.Slice.Eq.{bytes_eq-Decides}
use Rattle.std.specs.Prelude.{slice_get}
use Rattle.std.specs.Str.{bytes_eq, str_to_ascii_lowercase}
use Rattle.lang_core.specs.Lang.{SpellsLang}
use Rattle.lang_core.specs.Text.{pieces}
use Rattle.nego_core.specs.Choosing.{HasOpenDefault, IsOpenDefault, IsFirst}
use Rattle.nego_core.specs.LookupPlaces.{least_place}
use Rattle.nego_core.specs.LangSet.{is_among}
use Rattle.list_core.specs.Item.{Item}
use Rattle.nego_core.specs.Widening.{IsFoundBy}
use Rattle.nego_core.specs.declared.widening.Widening.{Widening}
use Rattle.nego_core.specs.declared.widening.Widening.TheVariants.{Off, By}
use Rattle.nego_core.specs.declared.lookup_places.Found.{Found}
use Rattle.nego_core.specs.Shortlist.{IsLookedUpBy}
use Rattle.front_core.specs.Preferences.{FieldText, ReadsAs, Text, IsDefault}
use Rattle.front_core.specs.TagPick.{Finds, IsPicked, IsPickedTag}
use Rattle.front_core.specs.inner.TagPick.{HasPlace, IsTagAt}
use Rattle.front_core.specs.declared.words.Finding.{Finding}
use Rattle.front_core.specs.Tags.{SpellLangs}
use Rattle.front_core.specs.declared.tag_pick.Picked.{Picked}
use Rattle.nego_core.specs.declared.lookup_places.Found.TheVariants as found
use Rattle.front_core.specs.declared.tag_pick.Picked.TheVariants as picked

-- what is found at a place, by what is looked up
abbrev pub FoundBy : Widening → List Item → List (List ℕ) → Option (List ℕ) → Found → Type 0
FoundBy by list langs default (found.Matched place) =
    (text : List ℕ) × IsLookedUpBy by list langs (Some (pieces text))
    × (least_place langs text ≡ Some place)
FoundBy by list langs default (found.Default place) =
    IsLookedUpBy by list langs None × ((text : List ℕ) × (default ≡ Some text)
    × IsOpenDefault list (is_among langs) text × (least_place langs text ≡ Some place))
FoundBy by list langs default found.Nothing =
    IsLookedUpBy by list langs None × ¬ HasOpenDefault list (is_among langs) default

-- lookup and widened lookup find so
pub found_by : (by : Widening) (list : List Item) (langs : List (List ℕ))
    (default : Option (List ℕ)) (found : Found) → IsFoundBy by list langs default found
    → FoundBy by list langs default found
found_by Off list langs default (found.Matched place) h = h
found_by Off list langs default (found.Default place) h = h
found_by Off list langs default found.Nothing h = h
found_by (By scheme) list langs default (found.Matched place) h = h
found_by (By scheme) list langs default (found.Default place) h = h
found_by (By scheme) list langs default found.Nothing h = h

-- the language at the place that lookup answers is the one that it found
lang_at : (langs given : List (List ℕ)) (text : List ℕ) (place : ℕ) (lang : List ℕ) → given ≡ langs
    → least_place given text ≡ Some place → lang ≡ get_or langs place lang → lang ≡ text
lang_at langs given text place lang same there at =
    let place_is : least_place langs text ≡ Some place =
    subst (λ ls. least_place ls text ≡ Some place) same there in
    let is : get_or langs place lang ≡ text =
    (bytes_eq-Decides _ _).0 (position-Some (λ t. bytes_eq t text) langs place lang place_is).1
    in
    at ∙ is

-- lookup found it
pub found_lang : (by : Widening) (list : List Item) (langs given : List (List ℕ)) (place : ℕ)
    (lang : List ℕ) → given ≡ langs
    → (text : List ℕ) × IsLookedUpBy by list given (Some (pieces text))
    × (least_place given text ≡ Some place)
    → lang ≡ get_or langs place lang → IsLookedUpBy by list langs (Some (pieces lang))
found_lang by list langs given place lang same found at =
    let is = lang_at langs given found.0 place lang same found.2 at in
    subst (λ t. IsLookedUpBy by list langs (Some (pieces t))) (sym is)
    (subst (λ ls. IsLookedUpBy by list ls (Some (pieces found.0))) same found.1)

-- or it is the default
pub found_default : (by : Widening) (list : List Item) (langs given : List (List ℕ))
    (handed default : Option (List ℕ)) (place : ℕ) (lang : List ℕ) → given ≡ langs
    → handed ≡ default
    → IsLookedUpBy by list given None × ((text : List ℕ) × (handed ≡ Some text)
    × IsOpenDefault list (is_among given) text × (least_place given text ≡ Some place))
    → lang ≡ get_or langs place lang
    → IsLookedUpBy by list langs None × (default ≡ Some lang)
    × IsOpenDefault list (is_among langs) lang
found_default by list langs given handed default place lang same is found at =
    let text = found.1.0 in
    let lang_is = lang_at langs given text place lang same found.1.3 at in (
      subst (λ ls. IsLookedUpBy by list ls None) same found.0,
      sym is ∙ found.1.1 ∙ ap Some (sym lang_is),
      subst (λ t. IsOpenDefault list (is_among langs) t) (sym lang_is)
          (subst (λ ls. IsOpenDefault list (is_among ls) text) same found.1.2),
    )

-- or nothing was found
pub found_nothing : (by : Widening) (list : List Item) (langs given : List (List ℕ))
    (handed default : Option (List ℕ)) → given ≡ langs → handed ≡ default
    → IsLookedUpBy by list given None × ¬ HasOpenDefault list (is_among given) handed
    → IsLookedUpBy by list langs None × ¬ HasOpenDefault list (is_among langs) default
found_nothing by list langs given handed default same is found =
    subst (λ d. IsLookedUpBy by list langs None × ¬ HasOpenDefault list (is_among langs) d) is
    (subst (λ ls. IsLookedUpBy by list ls None × ¬ HasOpenDefault list (is_among ls) handed) same
    found)

-- ---- which tag it was

-- a word spells one language
pub one_lang : (word a b : List ℕ) → SpellsLang word a → SpellsLang word b → a ≡ b
one_lang word a b (inl f) (inl g) = f.1 ∙ sym g.1
one_lang word a b (inl f) (inr g) = f.1 ∙ sym (g.1 ∙ ap str_to_ascii_lowercase f.0)
one_lang word a b (inr f) (inl g) = f.1 ∙ ap str_to_ascii_lowercase g.0 ∙ sym g.1
one_lang word a b (inr f) (inr g) = f.1 ∙ sym g.1

-- The number of languages is the number of tags.
pub as_many : (tags : List Text) (langs : List (List ℕ)) → SpellLangs tags langs
    → length tags ≡ length langs
as_many [] [] h = refl
as_many [] (l ∷ langs) h = absurd h
as_many (w ∷ tags) [] h = absurd h
as_many (w ∷ tags) (l ∷ langs) h = ap suc (as_many tags langs h.1)

-- the place that lookup answers is one of a tag
pub place_within : (tags : List Text) (langs : List (List ℕ)) (text : List ℕ) (place : ℕ)
    → SpellLangs tags langs → least_place langs text ≡ Some place → place < length tags
place_within tags langs text place h there =
    let many = as_many tags langs h in
    let within = (position-Some (λ t. bytes_eq t text) langs place [] there).0 in
    omega arith

same_head : (x y : Text) → Some x ≡ Some y → x ≡ y
same_head x y e = cc

not_spelled : (word lang text : List ℕ) → SpellsLang word lang → bytes_eq lang text ≡ false
    → ¬ SpellsLang word text
not_spelled word lang text h differs spelled =
    let same : bytes_eq lang text ≡ true = (bytes_eq-Decides lang text).1
    (one_lang word lang text h spelled) in
    let bad : true ≡ false = sym same ∙ differs in
    cc

first_at : (tags : List Text) (langs : List (List ℕ)) (text : List ℕ) (place : ℕ) (tag : Text)
    → SpellLangs tags langs → get_or langs place [] ≡ text
    → ((k : ℕ) → k < place → bytes_eq (get_or langs k []) text ≡ false)
    → slice_get tags place ≡ Some tag → IsFirst (λ t. SpellsLang t text) tags tag
first_at [] langs text place tag h there before at = cc
first_at (w ∷ tags) [] text place tag h there before at = absurd h
first_at (w ∷ tags) (l ∷ langs) text zero tag h there before at =
    let is : w ≡ tag = same_head w tag at in
    record {
      before = [];
      after = tags;
      whole = ap (λ t. t ∷ tags) is;
      none_before =
          All-nil (λ t. ¬ SpellsLang t text);
      passes =
          subst (λ t. SpellsLang t text) is (subst (λ x. SpellsLang w x) there h.0);
    }
first_at (w ∷ tags) (l ∷ langs) text (suc k) tag h there before at =
    let rest = first_at tags langs text k tag h.1 there (λ j lt. before (suc j) (omega arith)) at in
    record {
      before = w ∷ rest.before;
      after = rest.after;
      whole = ap (λ ts. w ∷ ts) rest.whole;
      none_before = All-cons (λ t. ¬ SpellsLang t text) w rest.before
          (not_spelled w l text h.0 (before 0 (omega arith))) rest.none_before;
      passes = rest.passes;
    }

-- the tag at that place is the first that spells what is found
pub first_spelling : (tags : List Text) (langs : List (List ℕ)) (text : List ℕ) (place : ℕ)
    (tag : Text) → SpellLangs tags langs → least_place langs text ≡ Some place
    → slice_get tags place ≡ Some tag
    → IsFirst (λ t. SpellsLang t text) tags tag
first_spelling tags langs text place tag h there at =
    let found = position-Some (λ t. bytes_eq t text) langs place [] there in
    first_at tags langs text place tag h ((bytes_eq-Decides _ _).0 found.1) found.2 at

-- lookup answers a place where there is a tag
pub found_within : (by : Widening) (list : List Item) (tags : List Text)
    (langs given : List (List ℕ)) (handed : Option (List ℕ)) (found : Found) → given ≡ langs
    → SpellLangs tags langs → FoundBy by list given handed found → HasPlace tags found
found_within by list tags langs given handed (found.Matched place) same h is =
    place_within tags given is.0 place (subst (λ ls. SpellLangs tags ls) (sym same) h) is.2
found_within by list tags langs given handed (found.Default place) same h is =
    place_within tags given is.1.0 place (subst (λ ls. SpellLangs tags ls) (sym same) h) is.1.3
found_within by list tags langs given handed found.Nothing same h is = tt

picked_at : (field : FieldText) (word : Option Text) (list : List Item) (tags : List Text)
    (langs : List (List ℕ)) (default : Option (List ℕ)) (found : Found) (tag : Picked)
    → IsDefault word default → ReadsAs field list → SpellLangs tags langs
    → FoundBy field.widening list langs default found → IsTagAt tags found tag
    → IsPickedTag field word tags tag
picked_at field word list tags langs default (found.Matched place) (picked.Matched tag) default_ok
    list_ok h is at = (
      is.0,
      record {
        default = default;
        list = list;
        langs = langs;
        default_ok = default_ok;
        list_ok =
            list_ok;
        langs_ok = h;
        found_ok = is.1;
      },
      first_spelling tags langs is.0 place tag.now h is.2 at,
    )
picked_at field word list tags langs default (found.Matched place) (picked.Default tag) default_ok
    list_ok h is at = absurd at
picked_at field word list tags langs default (found.Matched place) picked.Nothing default_ok list_ok
    h is at = absurd at
picked_at field word list tags langs default (found.Default place) (picked.Matched tag) default_ok
    list_ok h is at = absurd at
picked_at field word list tags langs default (found.Default place) (picked.Default tag) default_ok
    list_ok h is at = (
      is.1.0,
      record {
        default = default;
        list = list;
        langs = langs;
        default_ok = default_ok;
        list_ok =
            list_ok;
        langs_ok = h;
        found_ok = (is.0, is.1.1, is.1.2);
      },
      first_spelling tags langs is.1.0 place tag.now h is.1.3 at,
    )
picked_at field word list tags langs default (found.Default place) picked.Nothing default_ok list_ok
    h is at = absurd at
picked_at field word list tags langs default found.Nothing (picked.Matched tag) default_ok list_ok h
    is at = absurd at
picked_at field word list tags langs default found.Nothing (picked.Default tag) default_ok list_ok h
    is at = absurd at
picked_at field word list tags langs default found.Nothing picked.Nothing default_ok list_ok h is
    at =
    record {
      default = default;
      list = list;
      langs = langs;
      default_ok = default_ok;
      list_ok =
          list_ok;
      langs_ok = h;
      found_ok = is;
    }

-- that tag is the one that is picked
pub picked_tag : (by : Widening) (field : FieldText) (word : Option Text) (list : List Item)
    (tags : List Text) (langs given : List (List ℕ)) (default handed : Option (List ℕ))
    (found : Found) (tag : Picked) → by ≡ field.widening → given ≡ langs → handed ≡ default
    → IsDefault word default → ReadsAs field list → SpellLangs tags langs
    → FoundBy by list given handed found → IsTagAt tags found tag
    → IsPickedTag field word tags tag
picked_tag by field word list tags langs given default handed found tag widens same is default_ok
    list_ok h there at =
    picked_at field word list tags langs default found tag default_ok list_ok h
    (subst (λ (w : Widening). FoundBy w list langs default found) widens
    (subst (λ d. FoundBy by list langs d found) is
    (subst (λ ls. FoundBy by list ls handed found) same there))) at

-- what the languages of the tags give is picked among the tags
pub picked_among : (by : Widening) (field : FieldText) (word : Option Text) (tags : List Text)
    (list : List Item) (langs : List (List ℕ)) (default : Option (List ℕ)) (found : Finding)
    → by ≡ field.widening → IsDefault word default → ReadsAs field list → SpellLangs tags langs
    → Finds by list langs default found → IsPicked field word tags found
picked_among by field word tags list langs default found widens default_ok list_ok langs_ok finds =
    record {
      default = default;
      list = list;
      langs = langs;
      default_ok = default_ok;
      list_ok = list_ok;
      langs_ok = langs_ok;
      found_ok = subst (λ (w : Widening). Finds w list langs default found) widens finds;
    }
