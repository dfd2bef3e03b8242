use Rattle.std.proofs.Common.{◌≡◌, sym, ap, ◌∙◌, subst}
use Rattle.cell_core.specs.KeyedAbove.{IsAboveAll}
use Rattle.cell_core.specs.Chunks.{all_of}
use Rattle.cell_core.proofs.KeyedAboveLemmas.{above_gap}
use Rattle.cell_core.proofs.keyed.Keyed.is_above_all.Goals as goal

pub returns : goal.returns
returns g c =
    let cmp = g.K.Ord.cmp in
    let key = c.args.key.now in
    let chunks = c.deref.result.now in
    let same : all_of chunks ≡ c.args.self.now =
    ap all_of c.deref.ensures.value ∙ c.self.view_is in (
      λ above.
          let gap = c.is_above_all.ensures.above above in
          let shown = above_gap cmp g.met.K.Ord.total key (all_of chunks) gap.is in
          subst (IsAboveAll cmp key) same shown,
      λ above. c.is_above_all.ensures.below (subst (IsAboveAll cmp key) (sym same) above),
    )
