use Rattle.std.proofs.Common.{sym, ap, ◌∙◌}
use Rattle.std.specs.List.{insert}
use Rattle.std.specs.Option.{is_none}
use Rattle.std.specs.FinMap.Entries.{find, put}
use Rattle.cell_core.proofs.KeyedPlacesLemmas.{find_read, set_as_put, insert_as_put}
use Rattle.cell_core.proofs.chunks.put_in.Goals as goal

pub returns-in-Ok-clause-ok : goal.returns-in-Ok-clause-ok
returns-in-Ok-clause-ok g c =
    set_as_put c.args.key c.args.value c.deref.result.now c.args.pairs.now.items c.in-Ok.at
    c.index_mut.result.now c.in-Ok.ensures.found (sym c.deref.ensures.value)
    c.index_mut.ensures.value
    ∙ ap (put g.K.Ord.cmp c.args.key c.args.value) c.deref.ensures.value

pub returns-in-Ok-insert-clause-ok : goal.returns-in-Ok-insert-clause-ok
returns-in-Ok-insert-clause-ok g c =
    c.in-Ok-insert.ensures.items
    ∙ ap (λ xs. insert xs c.in-Err.at (c.args.key, c.args.value)) c.make_room.ensures.items
    ∙ insert_as_put c.args.key c.args.value c.deref.result.now c.args.pairs.now.items c.in-Err.at
    c.in-Err.ensures.absent (sym c.deref.ensures.value)
    ∙ ap (put g.K.Ord.cmp c.args.key c.args.value) c.deref.ensures.value

pub returns-in-Ok-clause-new : goal.returns-in-Ok-clause-new
returns-in-Ok-clause-new g c =
    sym (ap is_none (ap (find g.K.Ord.cmp c.args.key) (sym c.deref.ensures.value)
    ∙ find_read c.args.key c.deref.result.now c.args.pairs.now.items c.in-Ok.at
    c.index_mut.result.now c.in-Ok.ensures.found (sym c.deref.ensures.value)
    c.index_mut.ensures.value))

pub returns-in-Ok-insert-clause-new : goal.returns-in-Ok-insert-clause-new
returns-in-Ok-insert-clause-new g c =
    sym (ap is_none (ap (find g.K.Ord.cmp c.args.key) (sym c.deref.ensures.value)
    ∙ c.in-Err.ensures.absent.absent))
