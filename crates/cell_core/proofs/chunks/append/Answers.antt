use Rattle.std.proofs.Common.{[], ◌∷◌, sym, ap, ◌∙◌, subst, refl, arith, length, length-append}
use Rattle.std.specs.FinMap.Entries.{is_sorted-put}
use Rattle.cell_core.specs.Keyed.{IsMap}
use Rattle.cell_core.specs.Chunks.{all_of}
use Rattle.cell_core.proofs.KeyedPlacesLemmas.{push_as_put}
use Rattle.cell_core.proofs.chunks.append.Goals as goal

pub returns-in-Ok-clause-ok : goal.returns-in-Ok-clause-ok
returns-in-Ok-clause-ok g c =
    let es = all_of c.args.chunks.now.list.items in
    c.in-Ok.ensures.ok ∙ push_as_put c.args.key c.args.value es es c.requires.above refl

pub returns-in-Ok-clause-kept : goal.returns-in-Ok-clause-kept
returns-in-Ok-clause-kept g c =
    let es = all_of c.args.chunks.now.list.items in
    record {
      chunked = record {
        map = subst (IsMap g.K.Ord.cmp) (sym (returns-in-Ok-clause-ok g c))
            (is_sorted-put g.K.Ord.cmp g.met.K.Ord.total c.args.key c.args.value es
            c.requires.kept.chunked.map);
        filled = c.push_last.ensures.filled;
      };
      counted = let len =
          ap length c.in-Ok.ensures.ok ∙ length-append es ((c.args.key, c.args.value) ∷ []) in
          omega (arith, len, c.requires.kept.counted, c.in-Some.ensures);
    }
