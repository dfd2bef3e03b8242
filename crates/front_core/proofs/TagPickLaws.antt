-- A pick has one line, or none where it is refused.
use Rattle.std.proofs.Common.{◌≡◌, ◌≢◌, ◌∙◌, ◌<◌, ℕ, List, [], ◌∷◌, ◌++◌, ap, ap₂, refl, sym, subst}
use Rattle.std.proofs.Common.{◌≤◌, inl, inr, length, Option, None, Some, arith}
use Rattle.std.specs.Str.{str_to_ascii_lowercase}
use Rattle.lang_core.specs.Tag.{IsTag, RefusesTag}
use Rattle.lang_core.specs.Grammar.{tag_piece}
use Rattle.lang_core.specs.Lang.{SpellsLang, RefusesLang}
use Rattle.lang_core.specs.Text.{joined, pieces}
use Rattle.lang_core.proofs.PiecesLemmas.{joined-pieces}
use Rattle.lang_core.proofs.RangeText.{not_allowed}
use Rattle.lang_core.specs.declared.fault.LangFault.{LangFault}
use Rattle.lang_core.specs.declared.fault.LangFault.TheVariants as lang
use Rattle.nego_core.specs.Choosing.{HasOpenDefault}
use Rattle.nego_core.specs.LangSet.{is_among}
use Rattle.list_core.specs.Item.{Item}
use Rattle.list_core.proofs.FieldLemmas.{malformed_is_no_field}
use Rattle.list_core.proofs.FieldUnique.{one_items}
use Rattle.list_core.proofs.FallbacksLawsLemmas.{one_table, table_memory}
use Rattle.list_core.specs.Fallbacks.{with_fallbacks}
use Rattle.list_core.specs.declared.fallbacks.Fallback.{Fallback}
use Rattle.std.specs.Prelude.{map}
use Rattle.nego_core.proofs.ChoosingCandidatesLemmas.{one_lookup}
use Rattle.nego_core.proofs.WideningLemmas.{one_widened}
use Rattle.nego_core.specs.declared.widening.Widening.{Widening}
use Rattle.nego_core.specs.declared.widening.Widening.TheVariants.{Off, By}
use Rattle.list_core.specs.declared.fault.NegoFault.{NegoFault}
use Rattle.list_core.specs.declared.field.Malformed.{Malformed}
use Rattle.list_core.specs.declared.field.Malformed.TheVariants.{Refused, PassedOver}
use Rattle.list_core.specs.declared.scheme.Scheme.{Scheme}
use Rattle.list_core.specs.declared.fault.NegoFault.TheVariants as nego
use Rattle.list_core.specs.Field.{IsField, RefusesField}
use Rattle.nego_core.specs.Shortlist.{IsLookedUpBy}
use Rattle.front_core.specs.Fault.{field_fault, language_fault}
use Rattle.front_core.specs.Preferences.{FieldText, ReadsAs, RefusesRanges, Text, IsDefault}
use Rattle.front_core.specs.Preferences.{RefusesDefault}
use Rattle.front_core.specs.TagPick.{Finds, IsPicked, IsPickLine, RefusesPick, pick_line}
use Rattle.front_core.specs.Tags.{HasNoLang, RefusesTags, SpellLangs}
use Rattle.front_core.proofs.TagPickLemmas.{one_lang}
use Rattle.front_core.specs.declared.words.Finding.{Finding}
use Rattle.front_core.specs.declared.words.Finding.TheVariants.{Matched, Default, Nothing}
use Rattle.front_core.specs.declared.fault.FrontFault.{FrontFault}
use Rattle.front_core.specs.declared.fault.FrontFault.TheVariants.{NoMemory}

one_langs : (tags : List Text) (a b : List (List ℕ)) → SpellLangs tags a → SpellLangs tags b → a ≡ b
one_langs [] [] [] f g = refl
one_langs [] [] (y ∷ ys) f g = absurd g
one_langs [] (x ∷ xs) b f g = absurd f
one_langs (w ∷ tags) [] b f g = absurd f
one_langs (w ∷ tags) (x ∷ xs) [] f g = absurd g
one_langs (w ∷ tags) (x ∷ xs) (y ∷ ys) f g = ap₂ (λ l ls. l ∷ ls) (one_lang w x y f.0 g.0)
    (one_langs tags xs ys f.1 g.1)

one_default : (word : Option Text) (a b : Option (List ℕ)) → IsDefault word a → IsDefault word b
    → a ≡ b
one_default None a b f g = f ∙ sym g
one_default (Some w) None b f g = absurd f
one_default (Some w) (Some x) None f g = absurd g
one_default (Some w) (Some x) (Some y) f g = ap Some (one_lang w x y f g)

one_text : (a b : Text) → Some (pieces a) ≡ Some (pieces b) → a ≡ b
one_text a b some =
    let same : pieces a ≡ pieces b = cc in
    sym (joined-pieces a) ∙ ap joined same ∙ joined-pieces b

one_looked : (by : Widening) (list : List Item) (langs : List (List ℕ))
    (a b : Option (List (List ℕ)))
    → IsLookedUpBy by list langs a → IsLookedUpBy by list langs b → a ≡ b
one_looked Off list langs a b f g = one_lookup list (is_among langs) a b f g
one_looked (By scheme) list langs a b f g = one_widened scheme list langs a b f g

one_found : (by : Widening) (list : List Item) (langs : List (List ℕ)) (default : Option (List ℕ))
    (a b : Finding) → Finds by list langs default a → Finds by list langs default b → a ≡ b
one_found by list langs default (Matched x) (Matched y) f g =
    ap Matched (one_text x y (one_looked by list langs (Some (pieces x)) (Some (pieces y)) f g))
one_found by list langs default (Matched x) (Default y) f g =
    let bad : Some (pieces x) ≡ None = one_looked by list langs (Some (pieces x)) None f g.0 in cc
one_found by list langs default (Matched x) Nothing f g =
    let bad : Some (pieces x) ≡ None = one_looked by list langs (Some (pieces x)) None f g.0 in cc
one_found by list langs default (Default x) (Matched y) f g =
    let bad : Some (pieces y) ≡ None = one_looked by list langs (Some (pieces y)) None g f.0 in cc
one_found by list langs default (Default x) (Default y) f g =
    let some : Some x ≡ Some y = sym f.1 ∙ g.1 in
    let same : x ≡ y = cc in
    ap Default same
one_found by list langs default (Default x) Nothing f g =
    absurd (g.1 (subst (λ d. HasOpenDefault list (is_among langs) d) (sym f.1) f.2))
one_found by list langs default Nothing (Matched y) f g =
    let bad : Some (pieces y) ≡ None = one_looked by list langs (Some (pieces y)) None g f.0 in cc
one_found by list langs default Nothing (Default y) f g =
    absurd (f.1 (subst (λ d. HasOpenDefault list (is_among langs) d) (sym g.1) g.2))
one_found by list langs default Nothing Nothing f g = refl

one_list : (field : FieldText) (a b : List Item) → ReadsAs field a → ReadsAs field b → a ≡ b
one_list field a b f g =
    let tables : f.table ≡ g.table =
    one_table field.fallbacks f.table g.table f.table_ok.1 g.table_ok.1 in
    let items : f.list_ok.0 ≡ g.list_ok.0 =
    one_items field.scheme field.malformed field.text f.list_ok.0 g.list_ok.0 f.list_ok.1
    g.list_ok.1 in
    f.list_ok.2
    ∙ (ap (λ (table : List Fallback). map (with_fallbacks table) f.list_ok.0) tables
    ∙ (ap (map (with_fallbacks g.table)) items ∙ sym g.list_ok.2))

one_picked : (field : FieldText) (word : Option Text) (tags : List Text) (a b : Finding)
    → IsPicked field word tags a → IsPicked field word tags b → a ≡ b
one_picked field word tags a b f g =
    let defaults : f.default ≡ g.default = one_default word f.default g.default f.default_ok
    g.default_ok in
    let lists : f.list ≡ g.list = one_list field f.list g.list f.list_ok g.list_ok in
    let langs : f.langs ≡ g.langs = one_langs tags f.langs g.langs f.langs_ok g.langs_ok in
    let by = field.widening in
    let found : Finds by g.list g.langs g.default a =
    subst (λ (list : List Item). Finds by list g.langs g.default a) lists
    (subst (λ (given : List (List ℕ)). Finds by f.list given g.default a) langs
    (subst (λ (d : Option (List ℕ)). Finds by f.list f.langs d a) defaults f.found_ok)) in
    one_found by g.list g.langs g.default a b found g.found_ok

-- a pick has one line
pub one_pick_line : (field : FieldText) (word : Option Text) (tags : List Text) (a b : List ℕ)
    → IsPickLine field word tags a → IsPickLine field word tags b → a ≡ b
one_pick_line field word tags a b f g = f.2 ∙ ap pick_line (one_picked field word tags f.0 g.0 f.1
    g.1) ∙ sym g.2

-- a text that is a tag is refused for lack of memory alone
tag_refused : (text : List ℕ) (fault : LangFault) → RefusesTag text fault → IsTag text
    → fault ≡ lang.NoMemory
tag_refused text lang.TagEmpty h t = let none : 0 < 0 = subst (λ (x : List ℕ). 0 < length x)
    h t.0.0 in absurd (omega arith)
tag_refused text lang.TagTooLong h t = let fits = t.0.1 in absurd (omega arith)
tag_refused text (lang.TagSubtag offset) h t = absurd (not_allowed tag_piece (pieces text)
    offset h.1 t.1)
tag_refused text lang.TagNotWellFormed h t = absurd (h.2 t.2)
tag_refused text lang.RangeEmpty h t = absurd h
tag_refused text lang.RangeTooLong h t = absurd h
tag_refused text (lang.RangeSubtag offset) h t = absurd h
tag_refused text lang.NoMemory h t = refl

lang_refused : (word spelt : List ℕ) (fault : LangFault) → RefusesLang word fault
    → SpellsLang word spelt → fault ≡ lang.NoMemory
lang_refused word spelt fault h (inl f) = absurd (h.0 f.0)
lang_refused word spelt fault h (inr f) = tag_refused (str_to_ascii_lowercase word) fault h.1 f.0

spelt_at : (before : List Text) (word : Text) (after : List Text) (langs : List (List ℕ))
    → SpellLangs (before ++ word ∷ after) langs → (spelt : List ℕ) × SpellsLang word spelt
spelt_at [] word after [] h = absurd h
spelt_at [] word after (l ∷ langs) h = (l, h.0)
spelt_at (w ∷ before) word after [] h = absurd h
spelt_at (w ∷ before) word after (l ∷ langs) h = spelt_at before word after langs h.1

tags_refused : (tags : List Text) (langs : List (List ℕ)) (fault : LangFault) → HasNoLang tags fault
    → SpellLangs tags langs → fault ≡ lang.NoMemory
tags_refused tags langs fault h all =
    let spelt = spelt_at h.before h.word h.after langs (subst (λ (ts : List Text). SpellLangs ts
    langs) h.whole all) in
    lang_refused h.word spelt.0 fault h.word_not spelt.1

-- so is a default that spells a language
pub default_refused : (word : Option Text) (default : Option (List ℕ)) (fault : LangFault)
    → RefusesDefault word fault → IsDefault word default → fault ≡ lang.NoMemory
default_refused None default fault h is = absurd h
default_refused (Some w) None fault h is = absurd is
default_refused (Some w) (Some x) fault h is = lang_refused w x fault h is

-- tags that spell languages are refused for lack of memory alone
pub tags_memory : (tags : List Text) (langs : List (List ℕ)) (fault : LangFault)
    → RefusesTags tags fault → SpellLangs tags langs → fault ≡ lang.NoMemory
tags_memory tags langs lang.NoMemory h all = refl
tags_memory tags langs lang.TagEmpty h all = tags_refused tags langs lang.TagEmpty h all
tags_memory tags langs lang.TagTooLong h all = tags_refused tags langs lang.TagTooLong h all
tags_memory tags langs (lang.TagSubtag offset) h all = tags_refused tags langs
    (lang.TagSubtag offset) h all
tags_memory tags langs lang.TagNotWellFormed h all = tags_refused tags langs lang.TagNotWellFormed h
    all
tags_memory tags langs lang.RangeEmpty h all = tags_refused tags langs lang.RangeEmpty h all
tags_memory tags langs lang.RangeTooLong h all = tags_refused tags langs lang.RangeTooLong h all
tags_memory tags langs (lang.RangeSubtag offset) h all = tags_refused tags langs
    (lang.RangeSubtag offset) h all

malformed_refused : (scheme : Scheme) (malformed : Malformed) (text : Text) (offset : ℕ)
    (list : List Item) → RefusesField scheme malformed text (nego.FieldMalformed offset)
    → ¬ IsField scheme malformed text list
malformed_refused scheme Refused text offset list h f = malformed_is_no_field scheme text offset
    list h.1 f
malformed_refused scheme PassedOver text offset list h f = absurd h

items_memory : (field : FieldText) (items : List Item) (fault : NegoFault)
    → RefusesField field.scheme field.malformed field.text fault → length field.text ≤ 65535
    → IsField field.scheme field.malformed field.text items → fault ≡ nego.NoMemory
items_memory field items nego.FieldTooLong h fits f =
    let long : 65535 < length field.text = h in absurd (omega (arith, long, fits))
items_memory field items (nego.FieldMalformed offset) h fits f =
    absurd (malformed_refused field.scheme field.malformed field.text offset items h f)
items_memory field items (nego.FallbackMalformed offset) h fits f = absurd h
items_memory field items nego.NoMemory h fits f = refl

-- so is a field that is read
pub field_memory : (field : FieldText) (list : List Item) (fault : NegoFault)
    → RefusesRanges field fault → ReadsAs field list → fault ≡ nego.NoMemory
field_memory field list fault (inl table) reads =
    table_memory field.fallbacks reads.table fault table reads.table_ok.0 reads.table_ok.1
field_memory field list fault (inr ranges) reads =
    items_memory field reads.list_ok.0 fault ranges.1 reads.short reads.list_ok.1

-- what can be picked from is refused for lack of memory alone
pub no_line : (field : FieldText) (word : Option Text) (tags : List Text) (line : List ℕ)
    (fault : FrontFault) → RefusesPick field word tags fault → fault ≢ NoMemory
    → ¬ IsPickLine field word tags line
no_line field word tags line fault (inl (inl h)) not p = not (h.2 ∙ ap language_fault
    (default_refused word p.1.default h.0 h.1 p.1.default_ok))
no_line field word tags line fault (inl (inr h)) not p = not (h.1.2 ∙ ap field_fault
    (field_memory field p.1.list h.1.0 h.1.1 p.1.list_ok))
no_line field word tags line fault (inr h) not p = not (h.1.2 ∙ ap language_fault
    (tags_memory tags p.1.langs h.1.0 h.1.1 p.1.langs_ok))
