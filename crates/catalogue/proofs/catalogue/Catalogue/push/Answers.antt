use Rattle.std.proofs.Common.{◌+◌, [], ◌∷◌, ◌++◌, length, sym, ◌∙◌, ap, subst}
use Rattle.cell_core.specs.Entry.{EntryKey}
use Rattle.catalogue.specs.Entries.{Entries, IsAboveAll}
use Rattle.catalogue.specs.CatalogueFlat.{flat}
use Rattle.catalogue.proofs.CatalogueAboveLemmas.{put_behind, length_behind}
use Rattle.catalogue.proofs.catalogue.Catalogue.push.Goals as goal

-- the old cells and then this one
pub returns-clause-ok : goal.returns-clause-ok
returns-clause-ok c =
    let key : EntryKey = (c.args.id, c.args.lang) in
    c.in_ok-append.ensures.ok
    ∙ put_behind (flat c.self.inside.map) key c.args.cell
    (subst (λ (es : Entries). IsAboveAll key es) (sym c.self.view_is) c.requires)
    ∙ ap (λ es. es ++ (key, c.args.cell) ∷ []) c.self.view_is

pub invariant_of-self-2 : goal.invariant_of-self-2
invariant_of-self-2 c =
    let key : EntryKey = (c.args.id, c.args.lang) in
    let above = subst (λ (es : Entries). IsAboveAll key es) (sym c.self.view_is) c.requires in
    record {
      nested = c.append.ensures.nested;
      counted = c.in_ok-len.ensures ∙ ap (λ es. length es + 1) (sym c.self.view_is)
          ∙ sym (length_behind (flat c.self.inside.map) (flat c.append.new.map) key c.args.cell
          above c.in_ok-append.ensures.ok);
    }
