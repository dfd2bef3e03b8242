use Rattle.catalogue.specs.inner.Entries.{catalogue_laws}
use Rattle.command_core.proofs.PromiseLemmas.{greatest_held, kept, merged, same_bytes, same_held}
use Rattle.command_core.proofs.promise.the_promise.Goals as goal

pub returns-clause-answers : goal.returns-clause-answers
returns-clause-answers c = same_bytes

pub returns-clause-sites : goal.returns-clause-sites
returns-clause-sites c = same_held

pub returns-clause-greatest : goal.returns-clause-greatest
returns-clause-greatest c = λ steps site key cell h. greatest_held steps h site key cell

pub returns-clause-kept : goal.returns-clause-kept
returns-clause-kept c = λ steps site edit h has. kept steps h site edit has

pub returns-clause-merge : goal.returns-clause-merge
returns-clause-merge c = λ steps into source h. let m = merged steps h into source in
    (m.0, m.1, catalogue_laws)
