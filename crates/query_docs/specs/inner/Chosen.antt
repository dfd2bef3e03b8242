-- The live labels of some messages.
use Rattle.std.specs.Prelude.{◌≡◌, ℕ, Bool, List, filter}
use Rattle.std.specs.Option.{is_none}
use Rattle.catalogue.specs.Entries.{Entries}
use Rattle.cata_core.specs.Site.{SiteState}
use Rattle.site_docs.specs.Reading.{ReadsAsSite}
use Rattle.map_docs.specs.WritingTexts.{AreWritten}
use Rattle.map_docs.specs.Maps.{Labelled}
use Rattle.query_docs.specs.inner.Draft.{HasWritten}
use Rattle.query_docs.specs.Exporting.{label_at, live_labels}
use Rattle.query_docs.specs.Outdated.{is_outdated}
use Rattle.query_docs.specs.declared.chosen.ChosenLabels.{ChosenLabels}
use Rattle.query_docs.specs.declared.messages.Messages.{Messages}
use Rattle.query_docs.specs.declared.messages.Messages.TheVariants.{Lacking, Outdated}

-- whether the message is one of these
abbrev pub is_chosen : Messages → Entries → List ℕ → Bool
is_chosen (Lacking lang) cells id = is_none (label_at (id, lang.now) cells)
is_chosen (Outdated lang source) cells id = is_outdated lang.now source.now cells id

-- the live labels of these messages
abbrev pub chosen_labels : Messages → Entries → List Labelled
chosen_labels messages cells = filter (λ e. is_chosen messages cells e.0.0) (live_labels cells)

-- the language maps of these labels of the site, and whether there is one
abbrev pub AreChosenOf : Messages → List ℕ → List ℕ → Bool → Type 0
AreChosenOf messages bytes doc found =
    (site : SiteState) × ReadsAsSite bytes site
    × AreWritten (chosen_labels messages site.cells) doc found

-- of these cells the chosen labels are written
pub record HasChosen (first chosen : ChosenLabels) (seen : Entries) : Type 0 where
  pub messages_are : chosen.messages ≡ first.messages
  pub labels_are : HasWritten chosen.draft (chosen_labels first.messages seen)
