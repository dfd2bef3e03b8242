-- What a summary shows of a cell, where it is.
use Rattle.std.specs.Prelude.{option_map}
use Rattle.summary_docs.specs.Shown.{KnownCell}
use Rattle.summary_docs.specs.declared.shown.Known.{Known}

-- what is known
abbrev pub known_as : Known → KnownCell
known_as known = record {
  stamp = known.stamp;
  digest = option_map (λ d. d.now) known.digest;
}
