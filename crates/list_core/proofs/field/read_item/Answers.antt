use Rattle.std.proofs.Common.{rules, ◌++◌}
use Rattle.list_core.specs.inner.Field.{HasStart}
use Rattle.list_core.proofs.FieldRangeEndLemmas.{no_begun_range, no_begun_weight, has_begun_item}
use Rattle.list_core.proofs.field.read_item.Goals as goal

pub returns-in_default : goal.returns-in_default
returns-in_default c =
    no_begun_weight c.args.scheme c.args.range.now c.args.tail.now c.requires
    c.in_default.ensures.only

pub returns-in_err-range : goal.returns-in_err-range
returns-in_err-range c =
    let started : HasStart c.args.scheme (c.args.range.now ++ c.args.tail.now) =
    has_begun_item c.args.scheme c.args.range.now c.args.tail.now c.in-Some.weight c.requires
    c.in_err-range.ensures.1 c.in-Some.ensures.only.0 in
    search rules

pub returns-in-None : goal.returns-in-None
returns-in-None c =
    no_begun_range c.args.scheme c.args.range.now c.args.tail.now c.requires
    (rw c.in-None.is at c.in_ok-range.ensures)
