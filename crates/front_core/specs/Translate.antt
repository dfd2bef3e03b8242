-- What translators and editors get of a site (project rules).
use Rattle.std.specs.Prelude.{◌≡◌, ◌⊎◌}
use Rattle.lang_core.specs.Lang.{RefusesLang, SpellsLang}
use Rattle.catalogue.specs.Changes.{AreChanges, Changed}
use Rattle.cata_core.specs.Site.{SiteState}
use Rattle.map_docs.specs.WritingTexts.{AreWritten}
use Rattle.query_docs.specs.Changes.{changes_lines, has_change}
use Rattle.query_docs.specs.Missing.{missing_labels}
use Rattle.query_docs.specs.Outdated.{outdated_labels}
use Rattle.row_docs.specs.Fields.{IsSpelled}
use Rattle.front_core.specs.Fault.{IsOf, language_fault}
use Rattle.front_core.specs.Preferences.{Text}
use Rattle.front_core.specs.Ask.{is_found}
use Rattle.front_core.specs.declared.answer.Answer.{Answer}
use Rattle.front_core.specs.declared.fault.FrontFault.{FrontFault}
use Rattle.front_core.specs.declared.translate.Missing.{Missing}
use Rattle.front_core.specs.declared.translate.Outdated.{Outdated}

-- the language that the word spells
abbrev pub IsMissing : Text → Missing → Type 0
IsMissing word asked = SpellsLang word asked.lang

-- the word is no language
abbrev pub RefusesMissing : Text → FrontFault → Type 0
RefusesMissing word = IsOf language_fault (RefusesLang word)

-- the language maps of the messages that have no live label in the language
abbrev pub AnswersMissing : Missing → SiteState → Answer → Type 0
AnswersMissing asked site answer =
    AreWritten (missing_labels asked.lang site.cells) answer.text (is_found answer.outcome)

-- the languages that the words spell
abbrev pub IsOutdated : Text → Text → Outdated → Type 0
IsOutdated word other asked = SpellsLang word asked.lang × SpellsLang other asked.source

-- the language is refused first, and then the source
abbrev pub RefusesOutdated : Text → Text → FrontFault → Type 0
RefusesOutdated word other fault =
    IsOf language_fault (RefusesLang word) fault
    ⊎ (IsSpelled word × IsOf language_fault (RefusesLang other) fault)

-- the language maps of the messages whose label in the language is older than that of the source
abbrev pub AnswersOutdated : Outdated → SiteState → Answer → Type 0
AnswersOutdated asked site answer =
    AreWritten (outdated_labels asked.lang asked.source site.cells) answer.text
    (is_found answer.outcome)

-- the lines of what changed from one site to another
abbrev pub AreChangeLines : SiteState → SiteState → Answer → Type 0
AreChangeLines before after answer =
    (changes : Changed) × AreChanges before.cells after.cells changes
    × (answer.text ≡ changes_lines changes) × (is_found answer.outcome ≡ has_change changes)
