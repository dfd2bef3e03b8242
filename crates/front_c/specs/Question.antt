-- The questions of C, and what its exchanges test and show (project rules).
use Rattle.std.specs.Prelude.{◌==◌, ◌∷◌, [], ℕ, List, Option, None, Some, if◌then◌else◌}
use Rattle.std.specs.Prelude.{option_map}
use Rattle.list_core.specs.declared.field.Malformed.{Malformed}
use Rattle.list_core.specs.declared.field.Malformed.TheVariants.{Refused, PassedOver}
use Rattle.list_core.specs.declared.scheme.Scheme.{Scheme}
use Rattle.list_core.specs.declared.scheme.Scheme.TheVariants.{Basic, Extended}
use Rattle.nego_core.specs.declared.widening.Widening.TheVariants.{By, Off}
use Rattle.site_docs.specs.declared.checks.Checks.{Checks}
use Rattle.site_docs.specs.declared.checks.OwnEdits.{OwnEdits}
use Rattle.site_docs.specs.declared.checks.OwnEdits.TheVariants.{Checked, Unchecked}
use Rattle.summary_docs.specs.declared.summaries.Shows.{Shows}
use Rattle.summary_docs.specs.declared.summaries.Shows.TheVariants.{Labels, Stamps}
use Rattle.front_core.specs.Preferences.{FieldText}

-- a field with its scheme and what malformed elements do, for a lookup that is not widened and goes
-- by no table of fallbacks
abbrev pub field : Scheme → Malformed → List ℕ → FieldText
field scheme malformed text =
    record {
      scheme = scheme;
      malformed = malformed;
      widening = Off;
      fallbacks = [];
      text = text;
    }

-- the same for a widened lookup
abbrev pub widened : Scheme → Malformed → List ℕ → FieldText
widened scheme malformed text =
    record {
      scheme = scheme;
      malformed = malformed;
      widening = By scheme;
      fallbacks = [];
      text = text;
    }

-- how a field is read under these flags: 1 is the extended scheme, 2 skips malformed elements,
-- 3 is both
abbrev pub field_of : ℕ → List ℕ → Option FieldText
field_of flags text =
    if flags == 0 then Some (field Basic Refused text)
    else if flags == 1 then Some (field Extended Refused text)
    else if flags == 2 then Some (field Basic PassedOver text)
    else if flags == 3 then Some (field Extended PassedOver text)
    else None

-- the same for a lookup without a table: 4 widens it besides
abbrev pub widened_field_of : ℕ → List ℕ → Option FieldText
widened_field_of flags text =
    if flags == 4 then Some (widened Basic Refused text)
    else if flags == 5 then Some (widened Extended Refused text)
    else if flags == 6 then Some (widened Basic PassedOver text)
    else if flags == 7 then Some (widened Extended PassedOver text)
    else field_of flags text

-- how the field of a lookup by a table of fallbacks is read under these flags
abbrev pub lookup_field_of : ℕ → List ℕ → List ℕ → Option FieldText
lookup_field_of flags table text =
    option_map (λ (f : FieldText). record f { fallbacks = table }) (widened_field_of flags text)

-- an empty default is none
abbrev pub default_of : List ℕ → Option (List ℕ)
default_of [] = None
default_of (byte ∷ rest) = Some (byte ∷ rest)

-- a limit of 0 is none
abbrev pub limit_of : ℕ → Option ℕ
limit_of limit = if limit == 0 then None else Some limit

-- 8 tests a site's own edits
abbrev pub own_edits_of : ℕ → Option OwnEdits
own_edits_of flags =
    if flags == 0 then Some Unchecked else if flags == 8 then Some Checked else None

-- what an exchange tests under these flags and this limit
abbrev pub checks_of : ℕ → ℕ → Option Checks
checks_of flags limit =
    option_map (λ own. record { not_after = limit_of limit; own_edits = own }) (own_edits_of flags)

-- 16 shows labels
abbrev pub shows_of : ℕ → Option Shows
shows_of flags = if flags == 0 then Some Stamps else if flags == 16 then Some Labels else None
