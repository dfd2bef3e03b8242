use Rattle.std.specs.Prelude.{ℕ, Bool, List}
use Rattle.lang_core.specs.Grammar.{is_extlang, is_script, is_region, is_variant}
use Rattle.lang_core.specs.declared.kind.Kind.{Kind}
use Rattle.lang_core.specs.declared.kind.Kind.TheVariants.{Extlang, Script, Region, Variant}

-- whether a subtag is of the kind
abbrev pub is_of : Kind → List ℕ → Bool
is_of Extlang = is_extlang
is_of Script = is_script
is_of Region = is_region
is_of Variant = is_variant
