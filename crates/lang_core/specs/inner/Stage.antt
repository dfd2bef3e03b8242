use Rattle.std.specs.Prelude.{ℕ, ◌-◌, ◌&&◌, nat_lt, Bool, true, false, List, [], ◌∷◌, Option, Some}
use Rattle.std.specs.Prelude.{None, if◌then◌else◌}
use Rattle.lang_core.specs.Grammar.{is_short_language, is_long_language, is_extlang, is_script}
use Rattle.lang_core.specs.Grammar.{is_region, is_variant, is_x, is_singleton, is_extension_piece}
use Rattle.lang_core.specs.Grammar.{is_private_piece}
use Rattle.lang_core.specs.declared.stage.Stage.{Stage}
use Rattle.lang_core.specs.declared.stage.Stage.TheVariants.{Start, Language, Script, Variants}
use Rattle.lang_core.specs.declared.stage.Stage.TheVariants.{Singleton, Extension, PrivateStart}
use Rattle.lang_core.specs.declared.stage.Stage.TheVariants.{Private}

-- the stage after a subtag that comes where private use alone may begin, or none
abbrev pub private_stage : List ℕ → Option Stage
private_stage s = if is_x s then Some PrivateStart else None

-- the same where an extension may begin too
abbrev pub extension_stage : List ℕ → Option Stage
extension_stage s = if is_singleton s then Some Singleton else private_stage s

-- the same where a variant may come too
abbrev pub variant_stage : List ℕ → Option Stage
variant_stage s = if is_variant s then Some Variants else extension_stage s

-- the same where a region may come too
abbrev pub region_stage : List ℕ → Option Stage
region_stage s = if is_region s then Some Variants else variant_stage s

-- the same where a script may come too
abbrev pub script_stage : List ℕ → Option Stage
script_stage s = if is_script s then Some Script else region_stage s

-- the same after a language, where so many extlangs may come too
abbrev pub language_stage : ℕ → List ℕ → Option Stage
language_stage left s = if nat_lt 0 left && is_extlang s then
    Some (Language (left - 1)) else script_stage s

-- the same of the first subtag: a language, of 2 or 3 letters with up to 3 extlangs, or the "x" of
-- private use
abbrev pub start_stage : List ℕ → Option Stage
start_stage s = if is_short_language s then
    Some (Language 3) else (if is_long_language s then Some (Language 0) else private_stage s)

-- the stage after one more subtag, or none where it may not come
abbrev pub next_stage : Stage → List ℕ → Option Stage
next_stage Start s = start_stage s
next_stage (Language left) s = language_stage left s
next_stage Script s = region_stage s
next_stage Variants s = variant_stage s
next_stage Singleton s = if is_extension_piece s then Some Extension else None
next_stage Extension s = if is_extension_piece s then Some Extension else extension_stage s
next_stage PrivateStart s = if is_private_piece s then Some Private else None
next_stage Private s = if is_private_piece s then Some Private else None

-- the same, where a subtag may have come that may not
abbrev pub stage_after : Option Stage → List ℕ → Option Stage
stage_after None s = None
stage_after (Some stage) s = next_stage stage s

-- whether a tag may end at the stage
abbrev pub is_complete : Stage → Bool
is_complete Start = false
is_complete (Language left) = true
is_complete Script = true
is_complete Variants = true
is_complete Singleton = false
is_complete Extension = true
is_complete PrivateStart = false
is_complete Private = true

-- the answer of the stages for the list
unfoldable pub accepts : List (List ℕ) → Option Stage → Bool
accepts list None = false
accepts [] (Some stage) = is_complete stage
accepts (s ∷ more) (Some stage) = accepts more (next_stage stage s)
