use Rattle.json.specs.Value.{value_view}
use Rattle.json_docs.proofs.ScanningReadableLemmas.{IsRead-in_range, parts_in_range, Reads-in_range}
use Rattle.json_docs.proofs.json_text.scanning.next_value.Goals as goal

pub returns-in-Ok-clause-ok : goal.returns-in-Ok-clause-ok
returns-in-Ok-clause-ok c =
    Reads-in_range c.args.depth c.args.reader.now c.read.new.reader (value_view c.in-Ok.value)
    c.requires c.in-Ok.ensures.ok

pub returns-in-Ok-clause-read : goal.returns-in-Ok-clause-read
returns-in-Ok-clause-read c =
    IsRead-in_range c.args.depth c.args.reader.now c.read.new.reader (value_view c.in-Ok.value)
    c.requires c.in-Ok.ensures.ok

pub returns-in-Ok-clause-left : goal.returns-in-Ok-clause-left
returns-in-Ok-clause-left c =
    (parts_in_range c.args.depth c.args.reader.now c.read.new.reader (value_view c.in-Ok.value)
    c.requires c.in-Ok.ensures.ok).1
