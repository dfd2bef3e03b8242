-- Tags, read one after another.
use Rattle.std.proofs.Common.{◌≡◌, ◌∙◌, ◌<◌, ◌+◌, ℕ, List, [], ◌∷◌, ◌++◌, ap, map, length, take}
use Rattle.std.proofs.Common.{drop, false, get_or, inl, inr, refl, sym, suc, true}
use Rattle.std.proofs.lemmas.List.{append-nil, append_assoc, map-append, take_more}
use Rattle.std.proofs.lemmas.List.{take-append-drop}
use Rattle.std.proofs.lemmas.List.Elements.{filter-append}
use Rattle.std.proofs.Math.Seq.{drop-cons}
use Rattle.lang_core.specs.Lang.{SpellsLang, RefusesLang}
use Rattle.lang_core.specs.declared.fault.LangFault.{LangFault}
use Rattle.lang_core.specs.declared.fault.LangFault.TheVariants as lang
use Rattle.std.specs.Str.{str_to_ascii_lowercase}
use Rattle.list_core.specs.Item.{Item}
use Rattle.nego_core.specs.Offer.{is_offered}
use Rattle.front_core.specs.Preferences.{Text}
use Rattle.front_core.specs.Tags.{HasNoLang, RefusesTags, SpellLangs, offered_tags}
use Rattle.front_core.specs.inner.Tags.{AreOffered}

SpellLangs-snoc : (words : List Text) (langs : List (List ℕ)) (word : Text) (lang : List ℕ)
    → SpellLangs words langs → SpellsLang word lang
    → SpellLangs (words ++ word ∷ []) (langs ++ lang ∷ [])
SpellLangs-snoc [] [] word lang h one = (one, tt)
SpellLangs-snoc [] (l ∷ langs) word lang h one = absurd h
SpellLangs-snoc (w ∷ words) [] word lang h one = absurd h
SpellLangs-snoc (w ∷ words) (l ∷ langs) word lang h one =
    (h.0, SpellLangs-snoc words langs word lang h.1 one)

tags_refused : (tags : List Text) (fault : LangFault) → HasNoLang tags fault
    → RefusesTags tags fault
tags_refused tags lang.NoMemory h = tt
tags_refused tags lang.TagEmpty h = h
tags_refused tags lang.TagTooLong h = h
tags_refused tags (lang.TagSubtag offset) h = h
tags_refused tags lang.TagNotWellFormed h = h
tags_refused tags lang.RangeEmpty h = h
tags_refused tags lang.RangeTooLong h = h
tags_refused tags (lang.RangeSubtag offset) h = h

-- a word spells its text in lower case
lower_case : (word lang : List ℕ) → SpellsLang word lang → str_to_ascii_lowercase word ≡ lang
lower_case word lang (inl none) = ap str_to_ascii_lowercase none.0 ∙ sym none.1
lower_case word lang (inr tag) = sym tag.1

-- one word more is offered, or left out
offered_snoc : (items : List Item) (words : List Text) (word : Text)
    → offered_tags items (words ++ word ∷ [])
    ≡ offered_tags items words ++ offered_tags items (word ∷ [])
offered_snoc items words word =
    filter-append (λ tag. is_offered items (str_to_ascii_lowercase tag)) words (word ∷ [])

-- the words before those that are left are read, and these of them are offered
pub record IsReadTo (items : List Item) (words left names langs : List Text) : Type 0 where
  pub before : List Text
  pub whole : words ≡ before ++ left
  pub offered : AreOffered items before names langs

-- the words before one that is left are read
read_past : (words left rest before : List Text) (word : Text) → left ≡ word ∷ rest
    → words ≡ before ++ left → words ≡ (before ++ word ∷ []) ++ rest
read_past words left rest before word e whole =
    whole ∙ ap (λ l. before ++ l) e ∙ sym (append_assoc before (word ∷ []) rest)

-- one more word is read, which is offered
pub read_on : (items : List Item) (words left rest names langs names_more langs_more : List Text)
    (word lang : Text) → left ≡ word ∷ rest → names_more ≡ names ++ word ∷ []
    → langs_more ≡ langs ++ lang ∷ [] → is_offered items lang ≡ true
    → IsReadTo items words left names langs → SpellsLang word lang
    → IsReadTo items words rest names_more langs_more
read_on items words left rest names langs names_more langs_more word lang e named more has h one =
    let is : is_offered items (str_to_ascii_lowercase word) ≡ true =
    ap (is_offered items) (lower_case word lang one) ∙ has in
    record {
      before = h.before ++ word ∷ [];
      whole = read_past words left rest h.before word e h.whole;
      offered = (
        (_, SpellLangs-snoc _ _ _ _ h.offered.0.1 one),
        named ∙ ap (λ ns. ns ++ word ∷ []) h.offered.1
            ∙ sym (offered_snoc items h.before word ∙ rw is refl),
        rw (named, more) (SpellLangs-snoc _ _ _ _ h.offered.2 one),
      );
    }

-- one more word is read, which is not offered
pub read_over : (items : List Item) (words left rest names langs : List Text) (word lang : Text)
    → left ≡ word ∷ rest → is_offered items lang ≡ false → IsReadTo items words left names langs
    → SpellsLang word lang → IsReadTo items words rest names langs
read_over items words left rest names langs word lang e lacks h one =
    let is : is_offered items (str_to_ascii_lowercase word) ≡ false =
    ap (is_offered items) (lower_case word lang one) ∙ lacks in
    record {
      before = h.before ++ word ∷ [];
      whole = read_past words left rest h.before word e h.whole;
      offered = (
        (_, SpellLangs-snoc _ _ _ _ h.offered.0.1 one),
        h.offered.1 ∙ sym (append-nil _)
            ∙ sym (offered_snoc items h.before word ∙ rw is refl),
        h.offered.2,
      );
    }

-- one more word of a slice spells one more language
pub more_langs : {X : Type 0} (text : X → Text) (xs : List X) (i : ℕ) (x : X)
    (langs more : List (List ℕ)) (lang : List ℕ) → i < length xs → more ≡ langs ++ lang ∷ []
    → SpellLangs (map text (take i xs)) langs → SpellsLang (text (get_or xs i x)) lang
    → SpellLangs (map text (take (i + 1) xs)) more
more_langs text xs i x langs more lang lt is h one =
    let words : map text (take (i + 1) xs) ≡ map text (take i xs) ++ text (get_or xs i x) ∷ [] =
    ap (map text) (take_more xs i x lt) ∙ map-append text (take i xs) (get_or xs i x ∷ []) in
    rw (words, is) (SpellLangs-snoc _ _ _ _ h one)

-- the first word of a slice that spells no language
pub no_lang : {X : Type 0} (text : X → Text) (xs : List X) (i : ℕ) (x : X) (langs : List (List ℕ))
    (fault : LangFault) → i < length xs
    → SpellLangs (map text (take i xs)) langs → RefusesLang (text (get_or xs i x)) fault
    → RefusesTags (map text xs) fault
no_lang text xs i x langs fault lt h not = tags_refused (map text xs) fault (record {
  before = map text (take i xs);
  word = text (get_or xs i x);
  after = map text (drop (suc i) xs);
  langs = langs;
  whole = ap (map text) (sym (take-append-drop i xs) ∙ ap (λ rest. take i xs ++ rest)
      (drop-cons xs i x lt)) ∙ map-append text (take i xs) (get_or xs i x ∷ drop (suc i) xs);
  before_ok = h;
  word_not = not;
})
