-- No field is both taken and refused, and it is refused for one cause, out of memory apart.
--
-- The causes of a tag, a label and a priority list are read off their definitions: a number, an
-- offset and perhaps a count. The definitions exclude each other, since each later cause says that
-- the tests before it passed, and an offset is the first at which a test fails, of which there is
-- one.
use Rattle.std.proofs.Common.{◌≡◌, ◌≢◌, ◌∙◌, ◌≤◌, ◌<◌, ℕ, List, [], true}
use Rattle.std.proofs.Common.{length, sym, ap, refl, inl, inr, arith, get_or}
use Rattle.std.proofs.lemmas.Bool.Decides.{nat_tests}
use Rattle.std.proofs.lemmas.List.Quantifiers.{position-Some}
use Rattle.std.specs.Prelude.{◌⊎◌, Option, Some, unwrap_or}
use Rattle.std.specs.List.{position}
use Rattle.std.specs.Str.{str_to_ascii_lowercase}
use Rattle.lang_core.specs.Text.{IsSized, pieces}
use Rattle.lang_core.specs.Tag.{HasSubtags, IsTag, RefusesTag}
use Rattle.lang_core.specs.Grammar.{IsFirstRefused, WellFormed, tag_piece}
use Rattle.lang_core.specs.Lang.{RefusesLang, SpellsLang}
use Rattle.lang_core.specs.declared.fault.LangFault.{LangFault}
use Rattle.lang_core.specs.declared.fault.LangFault.TheVariants as lang
use Rattle.lang_core.proofs.GrammarOneOffset.{one_offset}
use Rattle.cell_core.specs.Label.{IsLabel, IsLabelCount, is_too_long}
use Rattle.cell_core.specs.Fault.{RefusesTexts}
use Rattle.cell_core.specs.declared.fault.CellFault.{CellFault}
use Rattle.cell_core.specs.declared.fault.CellFault.TheVariants as cell
use Rattle.list_core.specs.Field.{IsField, IsFirstMalformed, RefusesField}
use Rattle.list_core.specs.Item.{Item}
use Rattle.list_core.specs.declared.fault.NegoFault.{NegoFault}
use Rattle.list_core.specs.declared.fault.NegoFault.TheVariants as nego
use Rattle.list_core.specs.declared.field.Malformed.TheVariants.{Refused}
use Rattle.list_core.specs.declared.scheme.Scheme.{Scheme}
use Rattle.list_core.proofs.FieldLemmas.{malformed_is_no_field, one_malformed}
use Rattle.lang_core.proofs.TagRefusedLemmas.{has_no_subtags}

-- ---- languages

-- the causes for which a text is no tag
abbrev TagCause : List ℕ → LangFault → Type 0
TagCause text fault =
    ((fault ≡ lang.TagEmpty) × (text ≡ []))
    ⊎ ((fault ≡ lang.TagTooLong) × (255 < length text))
    ⊎ ((offset : ℕ) × (fault ≡ lang.TagSubtag offset) × IsSized text
    × IsFirstRefused tag_piece (pieces text) offset)
    ⊎ ((fault ≡ lang.TagNotWellFormed) × IsSized text × HasSubtags text
    × ¬ (WellFormed (pieces text)))

tag_cause : (text : List ℕ) (fault : LangFault) → fault ≢ lang.NoMemory → RefusesTag text fault
    → TagCause text fault
tag_cause text lang.TagEmpty n h = inl (refl, h)
tag_cause text lang.TagTooLong n h = inr (inl (refl, h))
tag_cause text (lang.TagSubtag offset) n h = inr (inr (inl (offset, refl, h.0, h.1)))
tag_cause text lang.TagNotWellFormed n h = inr (inr (inr (refl, h.0, h.1, h.2)))
tag_cause text lang.RangeEmpty n h = absurd h
tag_cause text lang.RangeTooLong n h = absurd h
tag_cause text (lang.RangeSubtag offset) n h = absurd h
tag_cause text lang.NoMemory n h = absurd (n refl)

empty_not_sized : (text : List ℕ) → text ≡ [] → 0 < length text → ⊥
empty_not_sized text e h = let l : length text ≡ 0 = ap length e in omega (arith, l, h)

no_tag : (text : List ℕ) (fault : LangFault) → TagCause text fault → IsTag text → ⊥
no_tag text fault why tag = elim why [
  | inl h ↦ empty_not_sized text h.1 tag.0.0
  | inr more ↦ elim more [
    | inl h ↦ let most = tag.0.1 in omega (arith, h.1, most)
    | inr more ↦ elim more [
      | inl h ↦ has_no_subtags text h.0 tag.1 h.3
      | inr h ↦ h.3 tag.2
    ]
  ]
]

-- a text that is sized is not empty, nor too long
one_tag_cause : (text : List ℕ) (a b : LangFault) → TagCause text a → TagCause text b → a ≡ b
one_tag_cause text a b p q = elim p [
  | inl h ↦ elim q [
    | inl k ↦ h.0 ∙ sym k.0
    | inr q ↦ elim q [
      | inl k ↦ absurd (let l : length text ≡ 0 = ap length h.1 in let m = k.1 in
          omega (arith, l, m))
      | inr q ↦ elim q [
        | inl k ↦ absurd (empty_not_sized text h.1 k.2.0)
        | inr k ↦ absurd (empty_not_sized text h.1 k.1.0)
      ]
    ]
  ]
  | inr p ↦ elim p [
    | inl h ↦ elim q [
      | inl k ↦ absurd (let l : length text ≡ 0 = ap length k.1 in let m = h.1 in
          omega (arith, l, m))
      | inr q ↦ elim q [
        | inl k ↦ h.0 ∙ sym k.0
        | inr q ↦ elim q [
          | inl k ↦ absurd (let l = h.1 in let m = k.2.1 in omega (arith, l, m))
          | inr k ↦ absurd (let l = h.1 in let m = k.1.1 in omega (arith, l, m))
        ]
      ]
    ]
    | inr p ↦ elim p [
      | inl h ↦ elim q [
        | inl k ↦ absurd (empty_not_sized text k.1 h.2.0)
        | inr q ↦ elim q [
          | inl k ↦ absurd (let l = k.1 in let m = h.2.1 in omega (arith, l, m))
          | inr q ↦ elim q [
            | inl k ↦ h.1 ∙ ap lang.TagSubtag (one_offset tag_piece (pieces text) h.0 k.0 h.3 k.3)
                ∙ sym k.1
            | inr k ↦ absurd (has_no_subtags text h.0 k.2 h.3)
          ]
        ]
      ]
      | inr h ↦ elim q [
        | inl k ↦ absurd (empty_not_sized text k.1 h.1.0)
        | inr q ↦ elim q [
          | inl k ↦ absurd (let l = k.1 in let m = h.1.1 in omega (arith, l, m))
          | inr q ↦ elim q [
            | inl k ↦ absurd (has_no_subtags text k.0 h.2 k.3)
            | inr k ↦ h.0 ∙ sym k.0
          ]
        ]
      ]
    ]
  ]
]

-- a text that spells a language is not refused as one
pub no_language : (text held : List ℕ) (fault : LangFault) → fault ≢ lang.NoMemory
    → SpellsLang text held → RefusesLang text fault → ⊥
no_language text held fault n spells why = elim spells [
  | inl none ↦ why.0 none.0
  | inr tag ↦ no_tag (str_to_ascii_lowercase text) fault (tag_cause _ fault n why.1) tag.0
]

-- a text is refused as a language for one reason
pub one_language_fault : (text : List ℕ) (a b : LangFault) → a ≢ lang.NoMemory → b ≢ lang.NoMemory
    → RefusesLang text a → RefusesLang text b → a ≡ b
one_language_fault text a b m n p q =
    one_tag_cause (str_to_ascii_lowercase text) a b (tag_cause _ a m p.1) (tag_cause _ b n q.1)

-- ---- labels

abbrev TextsCause : List (List ℕ) → CellFault → Type 0
TextsCause texts fault =
    ((fault ≡ cell.LabelCount (length texts)) × ¬ (IsLabelCount (length texts)))
    ⊎ ((index : ℕ) × (fault ≡ cell.TextTooLong index) × IsLabelCount (length texts)
    × (position is_too_long texts ≡ Some index))

texts_cause : (texts : List (List ℕ)) (fault : CellFault) → RefusesTexts texts fault
    → TextsCause texts fault
texts_cause texts cell.IdRefused h = absurd h
texts_cause texts (cell.TextTooLong index) h = inr (index, refl, h.0, h.1)
texts_cause texts (cell.LabelCount count) h = inl (ap cell.LabelCount h.0, h.1)
texts_cause texts cell.ClockSpent h = absurd h
texts_cause texts cell.NoMemory h = absurd h
texts_cause texts cell.SiteName h = absurd h

too_long : (text : List ℕ) → is_too_long text ≡ true → length text ≤ 65535 → ⊥
too_long text h short = grind (arith, nat_tests)

-- texts that are a label are not refused as one
pub no_label : (texts : List (List ℕ)) (fault : CellFault) → IsLabel texts
    → RefusesTexts texts fault → ⊥
no_label texts fault is why = elim (texts_cause texts fault why) [
  | inl h ↦ h.1 is.count
  | inr h ↦
      let found = position-Some is_too_long texts h.0 [] h.3 in
      too_long (get_or texts h.0 []) found.1 (is.short h.0 [] found.0)
]

-- texts are refused as a label for one reason
pub one_label_fault : (texts : List (List ℕ)) (a b : CellFault) → RefusesTexts texts a
    → RefusesTexts texts b → a ≡ b
one_label_fault texts a b p q = elim (texts_cause texts a p) [
  | inl h ↦ elim (texts_cause texts b q) [ inl k ↦ h.0 ∙ sym k.0 | inr k ↦ absurd (h.1 k.2) ]
  | inr h ↦ elim (texts_cause texts b q) [
    | inl k ↦ absurd (k.1 h.2)
    | inr k ↦
        let same : h.0 ≡ k.0 = ap (λ (o : Option ℕ). unwrap_or o h.0) (sym h.3 ∙ k.3) in
        h.1 ∙ ap cell.TextTooLong same ∙ sym k.1
  ]
]

-- ---- priority lists

abbrev FieldCause : Scheme → List ℕ → NegoFault → Type 0
FieldCause scheme text fault =
    ((fault ≡ nego.FieldTooLong) × (65535 < length text))
    ⊎ ((offset : ℕ) × (fault ≡ nego.FieldMalformed offset) × (length text ≤ 65535)
    × IsFirstMalformed scheme text offset)

field_cause : (scheme : Scheme) (text : List ℕ) (fault : NegoFault) → fault ≢ nego.NoMemory
    → RefusesField scheme Refused text fault → FieldCause scheme text fault
field_cause scheme text nego.FieldTooLong n h = inl (refl, h)
field_cause scheme text (nego.FieldMalformed offset) n h = inr (offset, refl, h.0, h.1)
field_cause scheme text (nego.FallbackMalformed offset) n h = absurd h
field_cause scheme text nego.NoMemory n h = absurd (n refl)

-- a field of a priority list is not refused as one
pub no_list : (scheme : Scheme) (text : List ℕ) (fault : NegoFault) → fault ≢ nego.NoMemory
    → (items : List Item) → length text ≤ 65535 → IsField scheme Refused text items
    → RefusesField scheme Refused text fault → ⊥
no_list scheme text fault n items short is why = elim (field_cause scheme text fault n why) [
  | inl h ↦ let long = h.1 in omega (arith, long, short)
  | inr h ↦ malformed_is_no_field scheme text h.0 items h.3 is
]

-- a text is refused as a priority list for one reason
pub one_list_fault : (scheme : Scheme) (text : List ℕ) (a b : NegoFault) → a ≢ nego.NoMemory
    → b ≢ nego.NoMemory
    → RefusesField scheme Refused text a → RefusesField scheme Refused text b → a ≡ b
one_list_fault scheme text a b m n p q = elim (field_cause scheme text a m p) [
  | inl h ↦ elim (field_cause scheme text b n q) [
    | inl k ↦ h.0 ∙ sym k.0
    | inr k ↦ absurd (let long = h.1 in let short = k.2 in omega (arith, long, short))
  ]
  | inr h ↦ elim (field_cause scheme text b n q) [
    | inl k ↦ absurd (let long = k.1 in let short = h.2 in omega (arith, long, short))
    | inr k ↦ h.1 ∙ ap nego.FieldMalformed (one_malformed scheme text h.0 k.0 h.3 k.3) ∙ sym k.1
  ]
]
