use Rattle.std.proofs.Common.{◌∙◌, ap, inr, length, refl, sym}
use Rattle.std.proofs.lemmas.Result.{err_from_is_err_and}
use Rattle.lang_core.specs.declared.fault.LangFault.TheVariants as lang
use Rattle.front_core.specs.Fault.{field_fault}
use Rattle.front_core.specs.inner.TagFilter.{texts_of}
use Rattle.front_core.proofs.TagPickLemmas.{as_many}
use Rattle.front_core.proofs.TagFilterLemmas.{as_many_texts, enough_names}
use Rattle.front_core.proofs.tag_filter.filter_tags.Goals as goal

pub returns-in_err-picks : goal.returns-in_err-picks
returns-in_err-picks c =
    let p = err_from_is_err_and c.from_residual-in_err-picks.result
    c.from_residual-in_err-picks.ensures.1 in
    let ended = p.2 ∙ ap field_fault c.in_err-picks.ensures.0 in
    rw p.1 (inr (
      (_, c.in_ok-offer.ensures),
      inr ((_, c.in_ok-list.ensures), (lang.NoMemory, tt, ended)),
    ))

pub taken-requires : goal.taken-requires
taken-requires c =
    let names = c.in_ok-offered.offered.names.items in
    let langs = c.in_ok-offered.offered.langs.items in
    enough_names _ _ c.deref.result.now c.deref-2.result.now c.in_ok-picks.picks
    c.in_ok-picks.ensures
    (ap length c.deref.ensures.value
    ∙ sym (as_many (texts_of names) langs c.in_ok-offered.ensures.2)
    ∙ as_many_texts names c.deref-2.result.now (texts_of names) c.deref-2.ensures.value refl)

pub returns-in_err-taken : goal.returns-in_err-taken
returns-in_err-taken c =
    let p = err_from_is_err_and c.from_residual-in_err-taken.result
    c.from_residual-in_err-taken.ensures.1 in
    rw p.1 (inr (
      (_, c.in_ok-offer.ensures),
      inr ((_, c.in_ok-list.ensures), (lang.NoMemory, tt, p.2)),
    ))
