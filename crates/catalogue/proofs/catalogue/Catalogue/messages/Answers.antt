use Rattle.std.proofs.Common.{ℕ, List, sym, subst}
use Rattle.cell_core.specs.Keyed.{IsMap}
use Rattle.cell_core.specs.Entry.{text_cmp}
use Rattle.catalogue.specs.Entries.{Entries}
use Rattle.catalogue.specs.Live.{live}
use Rattle.catalogue.specs.LiveMessages.{LiveMessage, AreMessages}
use Rattle.catalogue.specs.Messages.{live_messages}
use Rattle.catalogue.proofs.MessagesLemmas.{are_messages, languages_ascend}
use Rattle.catalogue.proofs.catalogue.Catalogue.messages.Goals as goal

pub returns-clause-messages : goal.returns-clause-messages
returns-clause-messages c =
    let m = c.map.result.now in
    subst (λ (ms : List LiveMessage). AreMessages c.args.self.now ms) (sym c.new.ensures)
    (subst (λ (cells : Entries). AreMessages cells (live_messages m)) c.map.ensures.flat
    (are_messages m c.map.ensures.nested.outer))

pub returns-clause-languages : goal.returns-clause-languages
returns-clause-languages c =
    subst (λ (cells : Entries). (id : List ℕ) → IsMap text_cmp (live cells id)) c.map.ensures.flat
    (languages_ascend c.map.result.now c.map.ensures.nested)
