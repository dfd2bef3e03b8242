use Rattle.std.proofs.Common.{◌∙◌, ap, inr, sym}
use Rattle.std.proofs.lemmas.Result.{err_from_is_err_and}
use Rattle.lang_core.specs.declared.fault.LangFault.TheVariants as lang
use Rattle.front_core.specs.Fault.{field_fault}
use Rattle.front_core.proofs.TagFilterLemmas.{as_many_texts, enough_names}
use Rattle.front_core.proofs.words.filter_answer.Goals as goal

pub returns-in_err-picks : goal.returns-in_err-picks
returns-in_err-picks g c =
    let p = err_from_is_err_and c.from_residual-in_err-picks.result
    c.from_residual-in_err-picks.ensures.1 in
    rw p.1 (inr (
      (_, c.in_ok-list.ensures),
      (
        lang.NoMemory,
        tt,
        p.2
            ∙ ap field_fault c.in_err-picks.ensures.0,
      ),
    ))

pub returns-in_err-names : goal.returns-in_err-names
returns-in_err-names g c =
    let p = err_from_is_err_and c.from_residual-in_err-names.result
    c.from_residual-in_err-names.ensures.1 in
    rw p.1 (inr ((_, c.in_ok-list.ensures), (lang.NoMemory, tt, p.2)))

pub taken-requires : goal.taken-requires
taken-requires g c =
    enough_names _ _ c.deref.result.now c.deref-3.result.now c.in_ok-picks.picks
    c.in_ok-picks.ensures
    (as_many_texts c.in_ok-names.names.items c.deref-3.result.now c.deref.result.now
    c.deref-3.ensures.value (c.in_ok-names.ensures ∙ c.deref-2.ensures.value
    ∙ sym c.deref.ensures.value))

pub returns-in_err-taken : goal.returns-in_err-taken
returns-in_err-taken g c =
    let p = err_from_is_err_and c.from_residual-in_err-taken.result
    c.from_residual-in_err-taken.ensures.1 in
    rw p.1 (inr ((_, c.in_ok-list.ensures), (lang.NoMemory, tt, p.2)))
