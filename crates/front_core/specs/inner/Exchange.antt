-- A view of a site that is read first.
use Rattle.cata_core.specs.Site.{SiteState}
use Rattle.site_docs.specs.Reading.{ReadsAsSite}
use Rattle.front_core.specs.Preferences.{Text}
use Rattle.front_core.specs.Exchange.{ShowsView}
use Rattle.front_core.specs.declared.answer.Answer.{Answer}
use Rattle.front_core.specs.declared.exchange.View.{View}

-- the text of the site of a document
abbrev pub ShowsViewOf : View → Text → Answer → Type 0
ShowsViewOf asked bytes answer =
    (site : SiteState) × ReadsAsSite bytes site × ShowsView asked site answer
