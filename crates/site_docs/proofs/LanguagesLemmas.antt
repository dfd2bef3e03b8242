-- A text that is refused as a language is none.
use Rattle.std.proofs.Common.{◌≡◌, ◌≢◌, ◌∙◌, ◌+◌, ℕ, List, [], ◌∷◌, ◌++◌, Bool, true, false}
use Rattle.std.proofs.Common.{ap, arith, inl, inr, length, refl, subst, sym}
use Rattle.lang_core.specs.Grammar.{IsFirstRefused, are_allowed, tag_piece}
use Rattle.lang_core.specs.Lang.{IsLang, RefusesLang, SpellsLang}
use Rattle.lang_core.specs.Tag.{HasSubtags, IsTag, RefusesTag}
use Rattle.lang_core.specs.Text.{pieces}
use Rattle.lang_core.specs.declared.fault.LangFault.{LangFault}
use Rattle.lang_core.specs.declared.fault.LangFault.TheVariants as lang
use Rattle.lang_core.proofs.TagRefusedLemmas.{no_tag}
use Rattle.row_docs.proofs.EntriesLowerLemmas.{lower-IsLang}

-- a text that is refused as a language, out of memory apart, is none
pub refused_is_no_lang : (text : List ℕ) (fault : LangFault) → fault ≢ lang.NoMemory
    → RefusesLang text fault → ¬ IsLang text
refused_is_no_lang text fault n why is = elim is [
  | inl none ↦ why.0 none
  | inr tag ↦ no_tag text fault n
      (subst (λ t. RefusesTag t fault) (lower-IsLang text (inr tag)) why.1) tag
]

-- a text that spells another one is in no lower case
pub spelled_otherwise : (text held : List ℕ) → SpellsLang text held → held ≢ text → ¬ IsLang text
spelled_otherwise text held spells other is = elim spells [
  | inl none ↦ other (none.1 ∙ sym none.0)
  | inr tag ↦ other (tag.1 ∙ lower-IsLang text is)
]
