use Rattle.std.proofs.Common.{◌≡◌, ◌∙◌, ◌-◌, length, sym, subst, Some}
use Rattle.std.specs.Prelude.{slice_get}
use Rattle.lang_core.proofs.Basics.{less_of}
use Rattle.map_docs.proofs.AscendingMapLemmas.{above_last}
use Rattle.map_docs.proofs.ascending_map.is_above_all.Goals as goal

pub returns-in-Some : goal.returns-in-Some
returns-in-Some g c = λ less.
    let last = c.in-Some.last.now in
    above_last g.met.K.Ord.total c.args.list.now.items last c.args.key.now c.requires
    (subst (λ es. slice_get es (length es - 1) ≡ Some last) c.deref.ensures.value
    (sym (c.in-Some.ensures).value))
    (sym c.cmp.ensures ∙ less_of c.cmp.result (sym c.is_lt.ensures ∙ less))
