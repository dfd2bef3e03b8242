-- Which steps a document can have, and their JSON values, version 2. Project rule.
use Rattle.std.specs.Prelude.{◌<◌, ◌^◌, ℕ, List, codes, Option, None, Some}
use Rattle.cata_core.specs.declared.step.Step.{Step}
use Rattle.cata_core.specs.declared.step.Step.TheVariants.{Edit, Merge, AskFilter, AskLookup}
use Rattle.cata_core.specs.declared.step.Step.TheVariants.{AskCells, Tell, Post, Deliver}
use Rattle.list_core.specs.declared.scheme.Scheme.{Scheme}
use Rattle.list_core.specs.declared.scheme.Scheme.TheVariants.{Basic, Extended}
use Rattle.serde_json.specs.Data.{Data, null, array, number, unsigned, string, no_items, item}
use Rattle.row_docs.specs.Entries.{row_of}
use Rattle.row_docs.specs.EntriesValues.{Row, cell_value}
use Rattle.script_docs.specs.FieldWriting.{IsListed, field_text}
use Rattle.script_docs.specs.Steps.{StepText, edit_step, merge_step, filter_step, lookup_step}
use Rattle.script_docs.specs.Steps.{cells_step, tell_step, post_step, deliver_step}

-- ---- what a document can have

-- the number of a site, a told summary or a post fits its member
abbrev pub FitsMember : ℕ → Type 0
FitsMember n = n < 2 ^ 32

-- a document can have the step: its numbers fit, and some field reads as its priority list
abbrev pub IsWritableStep : Step → Type 0
IsWritableStep (Edit site edit) = FitsMember site
IsWritableStep (Merge into source) = FitsMember into × FitsMember source
IsWritableStep (AskFilter site id scheme items) = FitsMember site × IsListed scheme items
IsWritableStep (AskLookup site id items default) = FitsMember site × IsListed Basic items
IsWritableStep (AskCells site) = FitsMember site
IsWritableStep (Tell site) = FitsMember site
IsWritableStep (Post site told) = FitsMember site × FitsMember told
IsWritableStep (Deliver post) = FitsMember post

-- ---- the JSON values of steps

-- `[word, number]`
abbrev pub single_value : List ℕ → ℕ → Data
single_value word n = array (item (string word) (item (number (unsigned n)) no_items))

-- `[word, number, number]`
abbrev pub pair_value : List ℕ → ℕ → ℕ → Data
pair_value word m n =
    array (item (string word) (item (number (unsigned m)) (item (number (unsigned n)) no_items)))

-- `["edit", site, CELL]`
abbrev pub edit_value : ℕ → Row → Option (List (List ℕ)) → Data
edit_value site row label =
    array (item (string (codes "edit"))
    (item (number (unsigned site)) (item (cell_value row label) no_items)))

-- the name of a scheme
abbrev pub scheme_text : Scheme → List ℕ
scheme_text Basic = codes "basic"
scheme_text Extended = codes "extended"

-- `["filter", site, id, scheme, field]`
abbrev pub filter_value : ℕ → List ℕ → Scheme → List ℕ → Data
filter_value site id scheme field =
    array (item (string (codes "filter"))
    (item (number (unsigned site))
    (item (string id) (item (string (scheme_text scheme)) (item (string field) no_items)))))

-- no default is null
abbrev pub default_value : Option (List ℕ) → Data
default_value None = null
default_value (Some text) = string text

-- `["lookup", site, id, field, default]`
abbrev pub lookup_value : ℕ → List ℕ → List ℕ → Option (List ℕ) → Data
lookup_value site id field default =
    array (item (string (codes "lookup"))
    (item (number (unsigned site))
    (item (string id) (item (string field) (item (default_value default) no_items)))))

-- the row of a step's text
abbrev pub step_value : StepText → Data
step_value (edit_step site row) = edit_value site row.0 row.1
step_value (merge_step into source) = pair_value (codes "merge") into source
step_value (filter_step site id scheme field) = filter_value site id scheme field
step_value (lookup_step site id field default) = lookup_value site id field default
step_value (cells_step site) = single_value (codes "cells") site
step_value (tell_step site) = single_value (codes "tell") site
step_value (post_step site told) = pair_value (codes "post") site told
step_value (deliver_step post) = single_value (codes "deliver") post

-- ---- what is written for a step

-- the text of a step: a priority list is written as its items with a comma between each two
abbrev pub written_step : Step → StepText
written_step (Edit site edit) = edit_step site (row_of edit, edit.1.label)
written_step (Merge into source) = merge_step into source
written_step (AskFilter site id scheme items) = filter_step site id scheme (field_text items)
written_step (AskLookup site id items default) = lookup_step site id (field_text items) default
written_step (AskCells site) = cells_step site
written_step (Tell site) = tell_step site
written_step (Post site told) = post_step site told
written_step (Deliver post) = deliver_step post

-- the row of a step
abbrev pub step_row : Step → Data
step_row step = step_value (written_step step)
