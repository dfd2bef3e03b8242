-- The languages of a catalogue.
use Rattle.std.proofs.Common.{◌≡◌, ◌∙◌, ℕ, List, [], ◌∷◌, Option, Some, None, Bool, true, false}
use Rattle.std.proofs.Common.{cond, inl, inr, refl, sym, ap, subst, true≢false}
use Rattle.std.specs.Prelude.{◌&&◌, ◌||◌, All, Contains, filter, map}
use Rattle.std.specs.List.{cons_option}
use Rattle.std.specs.Borrow.{Bor}
use Rattle.std.specs.Option.{is_some, option_copied, option_map}
use Rattle.std.specs.Ordering.{is_eq}
use Rattle.std.specs.Cmp.Lexicographic.{nat_list_cmp_total}
use Rattle.std.specs.FinMap.Entries.{find, find-put, is_sorted-put, put}
use Rattle.std.proofs.lemmas.Bool.{cases_Bool}
use Rattle.std.proofs.lemmas.Cmp.{tied_itself}
use Rattle.std.proofs.lemmas.List.Elements.{All-nil, All-cons, All-weaker}
use Rattle.nego_core.specs.Shortlist.{AreAmong}
use Rattle.list_core.proofs.Basics.{contains_first, contains_later}
use Rattle.cell_core.specs.Keyed.{IsMap}
use Rattle.cell_core.specs.Entry.{text_cmp}
use Rattle.catalogue.specs.Entries.{Entries, Entry}
use Rattle.catalogue.specs.Languages.{AreLanguages, LanguageMap, is_in, is_used, texts_in}
use Rattle.catalogue.specs.inner.Languages.{AddsLanguage}
use Rattle.catalogue.specs.Live.{Labelled, languages, live, live_of}
use Rattle.cell_core.proofs.Basics.{tied_order as tied}
use Rattle.catalogue.proofs.CatalogueNestedLemmas.{text_exact}

-- ---- a language more

-- what is found by reference is there
pub there_of : {X : Type 0} (o : Option (Bor X)) (found : Option X) (r : Bool)
    → option_copied o ≡ found → r ≡ is_some o → r ≡ true → is_some found ≡ true
there_of None found r v e t = absurd (true≢false (sym t ∙ e))
there_of (Some x) found r v e t = ap is_some (sym v)

-- a language that is there is not added
pub added_there : (langs : LanguageMap) (lang : List ℕ) → IsMap text_cmp langs
    → is_in langs lang ≡ true → AddsLanguage langs lang langs
added_there langs lang ascend there = record { ascend = ascend; each = each } where
  each : (other : List ℕ) → is_in langs other ≡ (is_eq (text_cmp other lang) || is_in langs other)
  each other = elim (cases_Bool (is_eq (text_cmp other lang))) [
    | inl e ↦
        let same : other ≡ lang = text_exact other lang (tied (text_cmp other lang) e) in
        rw e (ap (is_in langs) same ∙ there)
    | inr e ↦ rw e refl
  ]

found_or : (b : Bool) (o : Option (Unit {0})) → is_some (cond b (Some tt) o) ≡ (b || is_some o)
found_or true o = refl
found_or false o = refl

-- a language that is put is added
pub added_put : (langs : LanguageMap) (lang : List ℕ) → IsMap text_cmp langs
    → AddsLanguage langs lang (put text_cmp lang tt langs)
added_put langs lang ascend = record {
  ascend = is_sorted-put text_cmp nat_list_cmp_total lang tt langs ascend;
  each = λ other. ap is_some (find-put text_cmp nat_list_cmp_total other lang tt langs)
      ∙ found_or (is_eq (text_cmp other lang)) (find text_cmp other langs);
}

-- ---- the walk over the cells

-- the languages so far, and those of the cells that are left, are those of all cells
pub record IsGathering (cells left : Entries) (langs : LanguageMap) : Type 0 where
  pub ascend : IsMap text_cmp langs
  pub each : (lang : List ℕ) → (is_in langs lang || is_used left lang) ≡ is_used cells lang

-- ---- the languages of a message

used_later : (e : Entry) (es : Entries) (lang : List ℕ) → is_used es lang ≡ true
    → is_used (e ∷ es) lang ≡ true
used_later e es lang h = elim (cases_Bool (is_some e.1.label && is_eq (text_cmp lang e.0.1))) [
  | inl x ↦ rw x refl
  | inr x ↦ rw x h
]

used_here : (e : Entry) (es : Entries) (label : List (List ℕ)) → e.1.label ≡ Some label
    → is_used (e ∷ es) e.0.1 ≡ true
used_here e es label l =
    let same : is_eq (text_cmp e.0.1 e.0.1) ≡ true =
    ap is_eq (tied_itself nat_list_cmp_total e.0.1) in
    rw (l, same) refl

abbrev AreUsed : Entries → List (List ℕ) → Type 0
AreUsed es langs = All (λ lang. is_used es lang ≡ true) langs

all_later : (e : Entry) (es : Entries) (langs : List (List ℕ)) → AreUsed es langs
    → AreUsed (e ∷ es) langs
all_later e es langs h = All-weaker (λ lang. is_used es lang ≡ true)
    (λ lang. is_used (e ∷ es) lang ≡ true) (λ lang u. used_later e es lang u) langs h

-- the labels of a message with that of one more language, if it has one
abbrev live_with : List ℕ → Option (List (List ℕ)) → Labelled → Labelled
live_with lang label labels = cons_option (option_map (λ l. (lang, l)) label) labels

-- each language of a message that is live is one of the catalogue
live_used : (es : Entries) (id : List ℕ) → AreUsed es (languages (live es id))
live_used [] id = All-nil (λ lang. is_used [] lang ≡ true)
live_used (e ∷ es) id =
    let rest = all_later e es (languages (live es id)) (live_used es id) in
    let others = filter (λ (x : Entry). is_eq (text_cmp id x.0.0)) es in
    elim (is_eq (text_cmp id e.0.0)) as (λ b. AreUsed (e ∷ es)
    (languages (live_of (map (λ (x : Entry). (x.0.1, x.1)) (cond b (e ∷ others) others))))) [
      | true ↦ labelled e.1.label refl rest
      | false ↦ rest
    ] where
      labelled : (o : Option (List (List ℕ))) → e.1.label ≡ o
          → AreUsed (e ∷ es) (languages (live es id))
          → AreUsed (e ∷ es) (languages (live_with e.0.1 o (live es id)))
      labelled None l rest = rest
      labelled (Some label) l rest = All-cons (λ lang. is_used (e ∷ es) lang ≡ true) e.0.1
          (languages (live es id)) (used_here e es label l) rest

-- what is found in a map is one of its languages
in_texts : (langs : LanguageMap) (lang : List ℕ) → is_in langs lang ≡ true
    → Contains (texts_in langs) lang
in_texts [] lang h = absurd (true≢false (sym h))
in_texts (e ∷ langs) lang h = elim (cases_Bool (is_eq (text_cmp lang e.0))) [
  | inl same ↦
      let is : e.0 ≡ lang = sym (text_exact lang e.0 (tied (text_cmp lang e.0) same)) in
      subst (Contains (texts_in (e ∷ langs))) is (contains_first e.0 (texts_in langs))
  | inr other ↦
      let later = in_texts langs lang (rw other at h) in
      contains_later e.0 lang (texts_in langs) later
]

-- the live languages of each message are among those of the catalogue
pub live_among : (cells : Entries) (langs : LanguageMap) → AreLanguages cells langs
    → (id : List ℕ) → AreAmong (languages (live cells id)) (texts_in langs)
live_among cells langs are id = All-weaker (λ lang. is_used cells lang ≡ true)
    (Contains (texts_in langs)) (λ lang u. in_texts langs lang (are.each lang ∙ u))
    (languages (live cells id)) (live_used cells id)
