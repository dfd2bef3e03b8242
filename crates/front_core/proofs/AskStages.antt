-- What is answered is not refused, and it is refused by one fault, memory apart.
--
-- A call refuses in stages: what it is given comes first, part by part, then what that does to a
-- site. Of each stage it is known that what fits is not refused, and that there is one fault
-- (`IsDecided`). Two stages, one after the other, are one again (`in_turn`).
use Rattle.std.proofs.Common.{◌≡◌, ◌≢◌, ◌⊎◌, ◌∙◌, ◌++◌, ◌∷◌, [], List, Option, Some, None, ap, sym}
use Rattle.std.proofs.Common.{ℕ, drop, get_or, inl, inr, refl, subst}
use Rattle.lang_core.specs.Lang.{RefusesLang}
use Rattle.lang_core.specs.declared.fault.LangFault.{LangFault}
use Rattle.lang_core.specs.declared.fault.LangFault.TheVariants as lang
use Rattle.list_core.specs.Field.{RefusesField}
use Rattle.list_core.specs.declared.fault.NegoFault.{NegoFault}
use Rattle.list_core.specs.declared.fault.NegoFault.TheVariants as nego
use Rattle.list_core.specs.declared.field.Malformed.{Malformed}
use Rattle.list_core.specs.declared.field.Malformed.TheVariants.{PassedOver, Refused}
use Rattle.list_core.specs.declared.scheme.Scheme.{Scheme}
use Rattle.list_core.specs.declared.scheme.Scheme.TheVariants.{Basic}
use Rattle.list_core.proofs.FallbacksLawsLemmas.{one_table_fault, table_memory}
use Rattle.json_docs.specs.FaultChecks.{OrMemory}
use Rattle.json_docs.specs.declared.fault.DocFault.{DocFault}
use Rattle.row_docs.specs.Fields.{IsSpelled}
use Rattle.row_docs.specs.Reading.{no_memory}
use Rattle.docs_core.proofs.SitesFieldRefusals.{no_language, no_list, one_language_fault}
use Rattle.docs_core.proofs.SitesFieldRefusals.{one_list_fault}
use Rattle.front_core.specs.Ask.{IsId, RefusesFilter, RefusesId, RefusesIdText, RefusesLookup}
use Rattle.front_core.specs.Fault.{IsDecided, IsOf, cell_fault, document_fault, field_fault}
use Rattle.front_core.specs.Fault.{language_fault}
use Rattle.front_core.specs.Offering.{HasOffer, Items, Offers, RefusesOffer}
use Rattle.front_core.specs.Offering as offering
use Rattle.front_core.specs.Preferences.{FieldText, HasDefault, HasList, HasPreferences}
use Rattle.front_core.specs.Preferences.{RefusesDefault, RefusesRanges, Text}
use Rattle.front_core.specs.Reader.{RefusesReader}
use Rattle.front_core.specs.TagFilter.{RefusesTagFilter}
use Rattle.front_core.specs.TagPick.{RefusesPick}
use Rattle.front_core.specs.Tags.{HasNoLang, RefusesTags, SpellLangs}
use Rattle.front_core.specs.Translate.{RefusesOutdated}
use Rattle.front_core.specs.declared.fault.FrontFault.{FrontFault}
use Rattle.front_core.specs.declared.fault.FrontFault.TheVariants.{NoMemory}
use Rattle.cell_core.specs.declared.fault.CellFault.{CellFault}
use Rattle.cell_core.specs.declared.fault.CellFault.TheVariants as cell
use Rattle.front_core.proofs.TagPickLaws.{default_refused, field_memory, tags_memory}

-- Two stages, of which the second comes where the first has passed, are one.
pub in_turn : {A B : Type 0} {R S : FrontFault → Type 0} → IsDecided A R → IsDecided B S
    → IsDecided (A × B) (λ fault. R fault ⊎ (A × S fault))
in_turn first second = record {
  apart = λ fault n fits why. elim why as (λ _. ⊥) [
    | inl r ↦ first.apart fault n fits.0 r
    | inr s ↦ second.apart fault n fits.1 s.1
  ];
  one = λ x y m n p q. elim p as (λ _. x ≡ y) [
    | inl a ↦ elim q as (λ _. x ≡ y) [
      | inl b ↦ first.one x y m n a b
      | inr b ↦ absurd (first.apart x m b.0 a)
    ]
    | inr a ↦ elim q as (λ _. x ≡ y) [
      | inl b ↦ absurd (first.apart y n a.0 b)
      | inr b ↦ second.one x y m n a.1 b.1
    ]
  ];
}

-- A stage may be said in other words.
pub seen_as : {A B : Type 0} {R S : FrontFault → Type 0} → (B → A)
    → ((fault : FrontFault) → S fault → R fault) → IsDecided A R → IsDecided B S
seen_as fits why stage = record {
  apart = λ fault n b s. stage.apart fault n (fits b) (why fault s);
  one = λ x y m n p q. stage.one x y m n (why x p) (why y q);
}

-- Refusals of the crate below, in the form that they have here, are a stage where they are there.
pub of_form : {F Fits : Type 0} {Refuses : F → Type 0} (form : F → FrontFault)
    → ((a : F) → form a ≢ NoMemory → Fits → Refuses a → ⊥)
    → ((a b : F) → form a ≢ NoMemory → form b ≢ NoMemory → Refuses a → Refuses b → a ≡ b)
    → IsDecided Fits (IsOf form Refuses)
of_form form apart one = record {
  apart = λ fault n fits why. apart why.0 (λ e. n (why.2 ∙ e)) fits why.1;
  one = λ x y m n p q.
      p.2
      ∙ (ap form (one p.0 q.0 (λ e. m (p.2 ∙ e)) (λ e. n (q.2 ∙ e)) p.1 q.1) ∙ sym q.2);
}

-- So are refusals of documents, where memory may end before.
pub of_document_form : {Fits : Type 0} {Refuses : DocFault → Type 0}
    → ((a : DocFault) → Fits → Refuses a → ⊥)
    → ((a b : DocFault) → Refuses a → Refuses b → a ≡ b)
    → IsDecided Fits (IsOf document_fault (OrMemory no_memory Refuses))
of_document_form apart one =
    of_form document_fault
    (λ a n fits why. elim why as (λ _. ⊥) [
      | inl memory ↦ n (ap document_fault memory)
      | inr r ↦ apart a fits r
    ])
    (λ a b m n p q. elim p as (λ _. a ≡ b) [
      | inl memory ↦ absurd (m (ap document_fault memory))
      | inr r ↦ elim q as (λ _. a ≡ b) [
        | inl memory ↦ absurd (n (ap document_fault memory))
        | inr s ↦ one a b r s
      ]
    ])

-- ---- words

-- A word is a language or refused as one.
pub language_stage : (word : Text) → IsDecided (IsSpelled word)
    (IsOf language_fault (RefusesLang word))
language_stage word =
    of_form language_fault
    (λ a n spelled why.
    no_language word spelled.0 a (λ e. n (ap language_fault e)) spelled.1 why)
    (λ a b m n p q.
    one_language_fault word a b (λ e. m (ap language_fault e)) (λ e. n (ap language_fault e)) p q)

id_cause : (id : Text) (a : CellFault) → cell_fault a ≢ NoMemory → RefusesIdText id a
    → (a ≡ cell.IdRefused) × (¬ IsId id)
id_cause id cell.IdRefused n h = (refl, h)
id_cause id (cell.TextTooLong index) n h = absurd h
id_cause id (cell.LabelCount count) n h = absurd h
id_cause id cell.ClockSpent n h = absurd h
id_cause id cell.NoMemory n h = absurd (n refl)
id_cause id cell.SiteName n h = absurd h

-- Bytes are a message id or refused as one.
pub id_stage : (id : Text) → IsDecided (IsId id) (RefusesId id)
id_stage id =
    of_form cell_fault (λ a n fits why. (id_cause id a n why).1 fits)
    (λ a b m n p q. (id_cause id a m p).0 ∙ sym (id_cause id b n q).0)

default_fault : (word : Option Text) (a b : LangFault) → language_fault a ≢ NoMemory
    → language_fault b ≢ NoMemory → RefusesDefault word a → RefusesDefault word b → a ≡ b
default_fault None a b m n p q = absurd p
default_fault (Some word) a b m n p q =
    one_language_fault word a b (λ e. m (ap language_fault e)) (λ e. n (ap language_fault e)) p q

-- A default is none, a language, or refused as one.
pub default_stage : (word : Option Text) → IsDecided (HasDefault word)
    (IsOf language_fault (RefusesDefault word))
default_stage word =
    of_form language_fault
    (λ a n has why. n (ap language_fault (default_refused word has.0 a why has.1)))
    (default_fault word)

ranges_fault : (scheme : Scheme) (malformed : Malformed) (text : Text) (a b : NegoFault)
    → a ≢ nego.NoMemory → b ≢ nego.NoMemory → RefusesField scheme malformed text a
    → RefusesField scheme malformed text b → a ≡ b
ranges_fault scheme Refused text a b m n p q = one_list_fault scheme text a b m n p q
ranges_fault scheme PassedOver text nego.FieldTooLong nego.FieldTooLong m n p q = refl
ranges_fault scheme PassedOver text nego.FieldTooLong (nego.FieldMalformed at) m n p q = absurd q
ranges_fault scheme PassedOver text (nego.FieldMalformed at) b m n p q = absurd p
ranges_fault scheme PassedOver text nego.FieldTooLong (nego.FallbackMalformed at) m n p q = absurd q
ranges_fault scheme PassedOver text (nego.FallbackMalformed at) b m n p q = absurd p
ranges_fault scheme PassedOver text nego.NoMemory b m n p q = absurd (m refl)
ranges_fault scheme PassedOver text nego.FieldTooLong nego.NoMemory m n p q = absurd (n refl)

-- the table of fallbacks is refused first
by_table_fault : (field : FieldText) (a b : NegoFault) → a ≢ nego.NoMemory → b ≢ nego.NoMemory
    → RefusesRanges field a → RefusesRanges field b → a ≡ b
by_table_fault field a b m n (inl p) (inl q) = one_table_fault field.fallbacks a b m n p q
by_table_fault field a b m n (inl p) (inr q) =
    absurd (m (table_memory field.fallbacks q.0.0 a p q.0.1.0 q.0.1.1))
by_table_fault field a b m n (inr p) (inl q) =
    absurd (n (table_memory field.fallbacks p.0.0 b q p.0.1.0 p.0.1.1))
by_table_fault field a b m n (inr p) (inr q) =
    ranges_fault field.scheme field.malformed field.text a b m n p.1 q.1

-- A field is a list or refused as one.
pub ranges_stage : (field : FieldText) → IsDecided (HasList field)
    (IsOf field_fault (RefusesRanges field))
ranges_stage field =
    of_form field_fault (λ a n has why. n (ap field_fault (field_memory field has.0 a why has.1)))
    (λ a b m n p q. by_table_fault field a b (λ e. m (ap field_fault e))
    (λ e. n (ap field_fault e)) p q)

offer_apart : (offers : Offers) (a : NegoFault) → a ≢ nego.NoMemory → HasOffer offers
    → RefusesOffer offers a → ⊥
offer_apart (Items given) a n has why = why
offer_apart (offering.Text text) a n has why = no_list Basic text a n has.0 has.1.0 has.1.1 why

offer_fault : (offers : Offers) (a b : NegoFault) → a ≢ nego.NoMemory → b ≢ nego.NoMemory
    → RefusesOffer offers a → RefusesOffer offers b → a ≡ b
offer_fault (Items given) a b m n p q = absurd p
offer_fault (offering.Text text) a b m n p q = one_list_fault Basic text a b m n p q

-- An offer has items or is refused.
pub offer_stage : (offers : Offers) → IsDecided (HasOffer offers)
    (IsOf field_fault (RefusesOffer offers))
offer_stage offers =
    of_form field_fault
    (λ a n has why. offer_apart offers a (λ e. n (ap field_fault e)) has why)
    (λ a b m n p q.
    offer_fault offers a b (λ e. m (ap field_fault e)) (λ e. n (ap field_fault e)) p q)

-- ---- tags

has_no_lang : (tags : List Text) (a : LangFault) → a ≢ lang.NoMemory → RefusesTags tags a
    → HasNoLang tags a
has_no_lang tags lang.TagEmpty n h = h
has_no_lang tags lang.TagTooLong n h = h
has_no_lang tags (lang.TagSubtag offset) n h = h
has_no_lang tags lang.TagNotWellFormed n h = h
has_no_lang tags lang.RangeEmpty n h = h
has_no_lang tags lang.RangeTooLong n h = h
has_no_lang tags (lang.RangeSubtag offset) n h = h
has_no_lang tags lang.NoMemory n h = absurd (n refl)

-- the first word that spells no language is one
first_tag : (c d : List Text) (cl dl : List (List ℕ)) (w v : Text) (after later : List Text)
    (a b : LangFault) → a ≢ lang.NoMemory → b ≢ lang.NoMemory
    → c ++ w ∷ after ≡ d ++ v ∷ later → SpellLangs c cl → SpellLangs d dl → RefusesLang w a
    → RefusesLang v b → a ≡ b
first_tag [] [] cl dl w v after later a b m n e f g p q =
    let same : w ≡ v = ap (λ (l : List Text). get_or l 0 w) e in
    one_language_fault v a b m n (subst (λ (t : Text). RefusesLang t a) same p) q
first_tag [] (x ∷ d) cl [] w v after later a b m n e f g p q = absurd g
first_tag [] (x ∷ d) cl (l ∷ dl) w v after later a b m n e f g p q =
    let same : w ≡ x = ap (λ (t : List Text). get_or t 0 w) e in
    absurd (no_language x l a m g.0 (subst (λ (t : Text). RefusesLang t a) same p))
first_tag (x ∷ c) [] [] dl w v after later a b m n e f g p q = absurd f
first_tag (x ∷ c) [] (l ∷ cl) dl w v after later a b m n e f g p q =
    let same : x ≡ v = ap (λ (t : List Text). get_or t 0 x) e in
    absurd (no_language x l b n f.0 (subst (λ (t : Text). RefusesLang t b) (sym same) q))
first_tag (x ∷ c) (y ∷ d) [] dl w v after later a b m n e f g p q = absurd f
first_tag (x ∷ c) (y ∷ d) (k ∷ cl) [] w v after later a b m n e f g p q = absurd g
first_tag (x ∷ c) (y ∷ d) (k ∷ cl) (l ∷ dl) w v after later a b m n e f g p q =
    first_tag c d cl dl w v after later a b m n (ap (λ (t : List Text). drop 1 t) e) f.1 g.1 p q

tags_fault : (tags : List Text) (a b : LangFault) → a ≢ lang.NoMemory → b ≢ lang.NoMemory
    → HasNoLang tags a → HasNoLang tags b → a ≡ b
tags_fault tags a b m n p q =
    first_tag p.before q.before p.langs q.langs p.word q.word p.after q.after a b m n
    (sym p.whole ∙ q.whole) p.before_ok q.before_ok p.word_not q.word_not

-- Tags spell languages or the first that spells none is refused.
pub tags_stage : (tags : List Text) → IsDecided ((langs : List (List ℕ)) × SpellLangs tags langs)
    (IsOf language_fault (RefusesTags tags))
tags_stage tags =
    of_form language_fault
    (λ a n has why. n (ap language_fault (tags_memory tags has.0 a why has.1)))
    (λ a b m n p q.
    let no = λ (e : a ≡ lang.NoMemory). m (ap language_fault e) in
    let nor = λ (e : b ≡ lang.NoMemory). n (ap language_fault e) in
    tags_fault tags a b no nor (has_no_lang tags a no p) (has_no_lang tags b nor q))

-- ---- questions

-- The default, the offer and the field of a reader are read or refused, in this order.
pub reader_stage : (offers : Offers) (field : FieldText) (word : Option Text)
    → IsDecided (HasDefault word × (HasOffer offers × HasList field))
    (RefusesReader offers field word)
reader_stage offers field word =
    in_turn (default_stage word) (in_turn (offer_stage offers) (ranges_stage field))

-- The id comes before them.
pub lookup_stage : (id : Text) (offers : Offers) (field : FieldText) (word : Option Text)
    → IsDecided (IsId id × (HasDefault word × (HasOffer offers × HasList field)))
    (RefusesLookup id offers field word)
lookup_stage id offers field word = in_turn (id_stage id) (reader_stage offers field word)

-- The id of a filter comes first, then the offer, and then the field.
pub filter_stage : (id : Text) (offers : Offers) (field : FieldText)
    → IsDecided (IsId id × (HasOffer offers × HasList field)) (RefusesFilter id offers field)
filter_stage id offers field =
    in_turn (id_stage id) (in_turn (offer_stage offers) (ranges_stage field))

-- The language comes before that of the source.
pub outdated_stage : (word other : Text) → IsDecided (IsSpelled word × IsSpelled other)
    (RefusesOutdated word other)
outdated_stage word other = in_turn (language_stage word) (language_stage other)

-- Of a pick the default comes first, then the field, and then the tags.
pub pick_stage : (field : FieldText) (word : Option Text) (tags : List Text)
    → IsDecided (HasPreferences field word × ((langs : List (List ℕ)) × SpellLangs tags langs))
    (RefusesPick field word tags)
pick_stage field word tags =
    in_turn (in_turn (default_stage word) (ranges_stage field)) (tags_stage tags)

-- Of a filter of tags the field comes first, and then the tags.
pub tag_filter_stage : (field : FieldText) (tags : List Text)
    → IsDecided (HasList field × ((langs : List (List ℕ)) × SpellLangs tags langs))
    (RefusesTagFilter field tags)
tag_filter_stage field tags = in_turn (ranges_stage field) (tags_stage tags)
