use Rattle.std.proofs.Common.{[], ◌∷◌, ◌++◌, sym, ap, ◌∙◌, subst, refl}
use Rattle.cell_core.specs.KeyedAbove.{IsAboveAll}
use Rattle.cell_core.specs.Chunks.{entries_of}
use Rattle.cell_core.proofs.KeyedAboveLemmas.{gap_above, on_ok_then}
use Rattle.cell_core.proofs.KeyedPlacesLemmas.{push_as_put}
use Rattle.cell_core.proofs.keyed.Keyed.push.Goals as goal

pub append-requires : goal.append-requires
append-requires g c =
    let cmp = g.K.Ord.cmp in
    let es = entries_of c.self.inside.chunks in
    let above = subst (IsAboveAll cmp c.args.key) (sym c.self.view_is) c.requires in
    record { kept = c.self.invariant; above = gap_above cmp g.met.K.Ord.total c.args.key es above }

pub returns-clause-ok : goal.returns-clause-ok
returns-clause-ok g c =
    let cmp = g.K.Ord.cmp in
    let es = entries_of c.self.inside.chunks in
    let above = subst (IsAboveAll cmp c.args.key) (sym c.self.view_is) c.requires in
    let gap = gap_above cmp g.met.K.Ord.total c.args.key es above in
    let pushed = push_as_put c.args.key c.args.value es es gap refl in
    let shown = ap (λ xs. xs ++ (c.args.key, c.args.value) ∷ []) c.self.view_is in
    on_ok_then c.append.result (λ put. put ∙ sym pushed ∙ shown) c.append.ensures.ok
