use Rattle.std.proofs.Common.{◌<◌, length, arith}
use Rattle.std.specs.Prelude.{map}
use Rattle.std.proofs.lemmas.Bool.Decides.{nat_tests}
use Rattle.nego_core.specs.Filtering.{IsFiltered, HasPick}
use Rattle.nego_core.proofs.FilteringKeys.{filtered}
use Rattle.nego_core.proofs.FilteringSome.{some_pick, refused_by}
use Rattle.nego_core.proofs.filtering.filter_by.Goals as goal

pub returns-in_err-picks : goal.returns-in_err-picks
returns-in_err-picks g c =
    let langs = map g.L.AsLang.text c.args.langs.now in
    let keys = c.in_ok-keys.keys.items in
    let some : 0 < length keys = grind (arith, nat_tests) in
    refused_by (IsFiltered c.args.scheme c.args.list.now langs)
    (HasPick c.args.scheme c.args.list.now langs) c.from_residual-in_err-picks.result
    c.from_residual-in_err-picks.ensures.0 c.from_residual-in_err-picks.ensures.1
    (some_pick c.args.scheme c.args.list.now langs keys c.in_ok-keys.ensures
    (omega arith))

pub returns : goal.returns
returns g c =
    rw c.new-2.ensures
    (filtered c.args.scheme c.args.list.now (map g.L.AsLang.text c.args.langs.now)
    c.in_ok-keys.keys.items c.sort_filter_keys.new.keys.items c.in_ok-picks.picks.items
    c.in_ok-keys.ensures c.sort_filter_keys.ensures.same c.sort_filter_keys.ensures.ascending
    (rw c.deref.ensures.value at c.in_ok-picks.ensures))
