use Rattle.std.proofs.Common.{◌≡◌, Some, rules}
use Rattle.std.specs.FinMap.Entries.{find}
use Rattle.std.proofs.lemmas.Result.{on_ok_weaker}
use Rattle.cell_core.specs.Entry.{EntryKey, key_cmp}
use Rattle.front_core.proofs.ArrivalsLemmas.{edit_added}
use Rattle.front_core.proofs.arrivals.add_cell.Goals as goal

pub returns-clause-part : goal.returns-clause-part
returns-clause-part c =
    let key : EntryKey = (c.args.id.now, c.args.lang.now) in
    let cell = c.in-Some.cell.now in
    let held : find key_cmp key c.args.cells.now ≡ Some cell = search rules in
    let same : c.new-edit.result ≡ (key, cell) = search rules in
    on_ok_weaker c.apply.result
    (λ is. let added = edit_added c.args.cells.now c.args.came.now c.apply.new.self key cell
    c.new-edit.result c.requires held same is in added.0) c.apply.ensures.ok

pub returns-clause-more : goal.returns-clause-more
returns-clause-more c =
    let key : EntryKey = (c.args.id.now, c.args.lang.now) in
    let cell = c.in-Some.cell.now in
    let held : find key_cmp key c.args.cells.now ≡ Some cell = search rules in
    let same : c.new-edit.result ≡ (key, cell) = search rules in
    on_ok_weaker c.apply.result
    (λ is. let added = edit_added c.args.cells.now c.args.came.now c.apply.new.self key cell
    c.new-edit.result c.requires held same is in added.1) c.apply.ensures.ok
