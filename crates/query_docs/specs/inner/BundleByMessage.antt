-- The labels of one reader, looked up message by message.
use Rattle.std.specs.Prelude.{◌≡◌, ℕ, List, Option, option_map}
use Rattle.catalogue.specs.Entries.{Entries}
use Rattle.map_docs.specs.Maps.{Labelled}
use Rattle.query_docs.specs.Bundling.{IsBundleBy}
use Rattle.query_docs.specs.inner.Draft.{HasWritten}
use Rattle.query_docs.specs.declared.bundle_by_message.Bundle.{Bundle}

-- the language of the default, where there is one
abbrev pub default_of : Bundle → Option (List ℕ)
default_of bundle = option_map (λ l. l.now) bundle.default

-- of these cells the labels that the reader gets are written
pub record HasBundled (first bundle : Bundle) (seen : Entries) : Type 0 where
  pub list_is : bundle.list.now ≡ first.list.now
  pub widening_is : bundle.widening ≡ first.widening
  pub default_is : default_of bundle ≡ default_of first
  pub labels : List Labelled
  pub labels_are : IsBundleBy first.widening seen first.list.now (default_of first) labels
  pub written : HasWritten bundle.draft labels
