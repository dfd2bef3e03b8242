use Rattle.std.proofs.Common.{◌++◌, List, subst, sym}
use Rattle.std.specs.Prelude.{OnOk, Result}
use Rattle.cell_core.specs.Entry.{EntryKey}
use Rattle.map_docs.specs.Maps.{Labelled}
use Rattle.site_docs.specs.Sink.{texts_of}
use Rattle.site_docs.specs.declared.sink.LabelRef.{LabelRef}
use Rattle.query_docs.specs.inner.Draft.{HasWritten, labelled_by}
use Rattle.query_docs.specs.declared.draft.Draft.{Draft}
use Rattle.query_docs.proofs.draft.Draft.add_seen.Goals as goal

-- this label is written, if there is one
abbrev Adds : {E : Type 0} → Result (Unit {0}) E → Draft → Draft → EntryKey → LabelRef → Type 0
Adds result old new key label = OnOk result ((labels : List Labelled) → HasWritten old labels
    → HasWritten new (labels ++ labelled_by key (texts_of label)))

pub returns-in-Text : goal.returns-in-Text
returns-in-Text c =
    subst
    (Adds c.add_text.result c.args.self.now c.add_text.new.self
    (c.args.id.now, c.args.lang.now))
    (sym c.in-Text.is) c.add_text.ensures

pub returns-in-Held : goal.returns-in-Held
returns-in-Held c =
    subst (Adds c.add.result c.args.self.now c.add.new.self (c.args.id.now, c.args.lang.now))
    (sym c.in-Held.is) c.add.ensures

pub returns-in-Made : goal.returns-in-Made
returns-in-Made c =
    subst
    (Adds c.add-in-Made.result c.args.self.now c.add-in-Made.new.self
    (c.args.id.now, c.args.lang.now))
    (sym c.in-Made.is) c.add-in-Made.ensures
