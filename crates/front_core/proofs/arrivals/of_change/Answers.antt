use Rattle.std.proofs.Common.{◌∙◌, sym}
use Rattle.front_core.proofs.ArrivalsLemmas.{change_brought}
use Rattle.front_core.proofs.SpareLemmas.{on_ok_at}
use Rattle.front_core.proofs.arrivals.of_change.Goals as goal

pub returns : goal.returns
returns c =
    let added = sym c.ok.ensures.value ∙ c.in_ok-ok.was in
    let of = on_ok_at c.add_cell.result c.in_ok-ok.field-0 added c.add_cell.ensures.part in
    let has = on_ok_at c.add_cell.result c.in_ok-ok.field-0 added c.add_cell.ensures.more in
    let part = rw c.catalogue.ensures at of in
    let more = rw (c.catalogue.ensures, c.new-came.ensures) at has in
    λ old now m changed. change_brought now c.args.change.now old c.args.site.now
    c.add_cell.new.came m changed part more
