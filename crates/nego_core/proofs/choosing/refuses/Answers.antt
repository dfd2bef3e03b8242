use Rattle.list_core.specs.Deciding.{IsRefusedLang}
use Rattle.list_core.specs.declared.scheme.Scheme.TheVariants as scheme
use Rattle.nego_core.proofs.ChoosingLemmas.{none_refused}
use Rattle.nego_core.proofs.ChoosingNothingRefused.{no_lang_refused}
use Rattle.nego_core.proofs.choosing.refuses.Goals as goal

pub returns-then-not-may_refuse : goal.returns-then-not-may_refuse
returns-then-not-may_refuse c =
    let items = c.args.list.now in
    let lang = c.args.lang.now in
    let positive = c.may_refuse.ensures c.if-not-may_refuse.true in
    none_refused (IsRefusedLang scheme.Basic items lang)
    (no_lang_refused scheme.Basic items lang positive)
