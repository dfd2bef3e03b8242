-- The steps of a script as JSON data, in both versions. Project rule.
use Rattle.std.specs.Prelude.{ℕ, List, [], ◌∷◌, codes, Option, None, Some, if◌then◌else◌}
use Rattle.std.specs.Prelude.{option_map, option_and_then}
use Rattle.std.specs.Str.{bytes_eq}
use Rattle.list_core.specs.declared.scheme.Scheme.{Scheme}
use Rattle.list_core.specs.declared.scheme.Scheme.TheVariants.{Basic, Extended}
use Rattle.serde_json.specs.Data.{Data, null, boolean, number, string, array, object}
use Rattle.serde_json.specs.Find.{as_str}
use Rattle.json_docs.specs.Parts.{items_in, u32_in}
use Rattle.row_docs.specs.ShapesRows.{cell_in}
use Rattle.row_docs.specs.EntriesValues.{Row}
use Rattle.row_docs.specs.declared.version.Version.{Version}
use Rattle.script_docs.specs.declared.steps.Word.{Word}
use Rattle.script_docs.specs.declared.steps.Word.TheVariants.{Edit, Merge, Filter, Lookup, Cells}
use Rattle.script_docs.specs.declared.steps.Word.TheVariants.{Tell, Post, Deliver}

-- what follows a part that is there
infixl 10 ◌>>=◌
abbrev ◌>>=◌ : {A B : Type 0} → Option A → (A → Option B) → Option B
o >>= f = option_and_then f o

-- a step, with its texts as they are written
pub data StepText : Type 0 where
  edit_step : ℕ → Row × Option (List (List ℕ)) → StepText
  merge_step : ℕ → ℕ → StepText
  filter_step : ℕ → List ℕ → Scheme → List ℕ → StepText
  lookup_step : ℕ → List ℕ → List ℕ → Option (List ℕ) → StepText
  cells_step : ℕ → StepText
  tell_step : ℕ → StepText
  post_step : ℕ → ℕ → StepText
  deliver_step : ℕ → StepText

-- the word that a step begins with; none of any other text
abbrev pub word_of : List ℕ → Option Word
word_of text =
    if bytes_eq text (codes "edit") then Some Edit
    else (if bytes_eq text (codes "merge") then Some Merge
    else (if bytes_eq text (codes "filter") then Some Filter
    else (if bytes_eq text (codes "lookup") then Some Lookup
    else (if bytes_eq text (codes "cells") then Some Cells
    else (if bytes_eq text (codes "tell") then Some Tell
    else (if bytes_eq text (codes "post") then Some Post
    else (if bytes_eq text (codes "deliver") then Some Deliver
    else None)))))))

-- the scheme of this name; none of any other text
abbrev pub scheme_of : List ℕ → Option Scheme
scheme_of text =
    if bytes_eq text (codes "basic") then Some Basic
    else (if bytes_eq text (codes "extended") then Some Extended
    else None)

-- the scheme that a value names
abbrev pub scheme_in : Data → Option Scheme
scheme_in d = option_and_then scheme_of (as_str d)

-- null for none, or a text
abbrev pub default_in : Data → Option (Option (List ℕ))
default_in null = Some None
default_in (boolean b) = None
default_in (number n) = None
default_in (string s) = Some (Some s)
default_in (array ds) = None
default_in (object ms) = None

-- ---- what comes after the word

-- `site,CELL`
abbrev pub edit_of : Version → List Data → Option StepText
edit_of version (s ∷ c ∷ []) = do
  site ← u32_in s
  option_map (λ cell. edit_step site cell) (cell_in version c)
edit_of version _ = None

-- `site,id,scheme,field`
abbrev pub filter_of : List Data → Option StepText
filter_of (s ∷ i ∷ c ∷ f ∷ []) = do
  site ← u32_in s
  id ← as_str i
  scheme ← scheme_in c
  option_map (λ field. filter_step site id scheme field) (as_str f)
filter_of _ = None

-- `site,id,field,default`
abbrev pub lookup_of : List Data → Option StepText
lookup_of (s ∷ i ∷ f ∷ l ∷ []) = do
  site ← u32_in s
  id ← as_str i
  field ← as_str f
  option_map (λ default. lookup_step site id field default) (default_in l)
lookup_of _ = None

-- one number
abbrev pub one_of : (ℕ → StepText) → List Data → Option StepText
one_of step (d ∷ []) = option_map step (u32_in d)
one_of step _ = None

-- two numbers
abbrev pub two_of : (ℕ → ℕ → StepText) → List Data → Option StepText
two_of step (d ∷ e ∷ []) = do
  m ← u32_in d
  option_map (λ n. step m n) (u32_in e)
two_of step _ = None

-- the step that begins with this word, by what comes after it
abbrev pub step_after : Version → Word → List Data → Option StepText
step_after version Edit ds = edit_of version ds
step_after version Merge ds = two_of merge_step ds
step_after version Filter ds = filter_of ds
step_after version Lookup ds = lookup_of ds
step_after version Cells ds = one_of cells_step ds
step_after version Tell ds = one_of tell_step ds
step_after version Post ds = two_of post_step ds
step_after version Deliver ds = one_of deliver_step ds

-- the step of a row's parts: its word, and what comes after it
abbrev pub step_of : Version → List Data → Option StepText
step_of version [] = None
step_of version (d ∷ ds) = do
  text ← as_str d
  word ← word_of text
  step_after version word ds

-- a row of a script
abbrev pub step_in : Version → Data → Option StepText
step_in version d = option_and_then (step_of version) (items_in d)
