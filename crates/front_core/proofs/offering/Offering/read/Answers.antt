use Rattle.std.proofs.Common.{sym}
use Rattle.list_core.proofs.FallbacksLawsLemmas.{unlisted}
use Rattle.list_core.specs.declared.field.Malformed.TheVariants.{Refused}
use Rattle.list_core.specs.declared.scheme.Scheme.TheVariants.{Basic}
use Rattle.front_core.proofs.offering.Offering.read.Goals as goal

-- The list of a field lists no texts, so it is just the public one.
pub returns-then-is_public : goal.returns-then-is_public
returns-then-is_public c =
    let read = c.in_ok-list-in-Field.ensures in
    let same = c.is_public.ensures c.if-is_public.true (unlisted Basic Refused _ _ read.1) in
    rw (c.in-Field.is, sym same) read
