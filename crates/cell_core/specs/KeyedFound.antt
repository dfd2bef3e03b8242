-- What a search of a map finds.
use Rattle.std.specs.Prelude.{Option, Some, None}

-- a value with its key
abbrev pub with_key : {K J : Type 0} → K → Option J → Option (K × J)
with_key k None = None
with_key k (Some v) = Some (k, v)
