-- Questions to a document of a site. Project rule.
use Rattle.std.specs.Prelude.{◌≡◌, ◌==◌, List, ℕ, Bool, true, false, not, length}
use Rattle.catalogue.specs.Asking.{IsFilterAnswer, IsLookupAnswer, Weighed}
use Rattle.catalogue.specs.Entries.{Entries}
use Rattle.cata_core.specs.Site.{SiteState}
use Rattle.catalogue.specs.declared.reply.Reply.{Reply}
use Rattle.catalogue.specs.declared.reply.Reply.TheVariants.{Matched, Default, Nothing}
use Rattle.site_docs.specs.Reading.{ReadsAsSite}
use Rattle.query_docs.specs.Lines.{filter_lines, reply_line}
use Rattle.query_docs.specs.declared.asking.Ask.{Ask}
use Rattle.query_docs.specs.declared.asking.Ask.TheVariants.{Filter, Lookup}

-- whether a lookup found a label, by the list or the default
abbrev pub is_found : Reply → Bool
is_found (Matched lang label) = true
is_found (Default lang label) = true
is_found Nothing = false

-- the text is the lines of the answer, and says whether anything was found
abbrev pub Answers : Entries → List ℕ → Ask → List ℕ → Bool → Type 0
Answers cells id (Filter scheme list) text found =
    (entries : Weighed) × IsFilterAnswer cells id scheme list entries
    × (text ≡ filter_lines entries) × (found ≡ not (length entries == 0))
Answers cells id (Lookup list default) text found =
    (reply : Reply) × IsLookupAnswer cells id list default reply × (text ≡ reply_line reply)
    × (found ≡ is_found reply)

-- the same of the site that the bytes are a document of
abbrev pub IsAsked : List ℕ → List ℕ → Ask → List ℕ → Bool → Type 0
IsAsked bytes id ask text found =
    (site : SiteState) × ReadsAsSite bytes site × Answers site.cells id ask text found
