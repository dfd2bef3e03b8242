use Rattle.std.proofs.Common.{◌≡◌, ◌∙◌, arith, [], sym, ap, subst}
use Rattle.std.proofs.lemmas.Result.{on_ok_weaker}
use Rattle.std.proofs.lemmas.Bool.Decides.{nat_tests}
use Rattle.cell_core.specs.Keyed.{IsMap, IsJoinedWith, joined_maps}
use Rattle.cell_core.specs.Chunks.{all_of}
use Rattle.cell_core.proofs.ChunkJoinsRunLemmas.{joined_is, joined_to_none}
use Rattle.cell_core.proofs.InterleaveLemmas.{empty_of}
use Rattle.cell_core.proofs.keyed.KeyedJoin.join.Goals as goal

pub returns-then-is_empty-clause-ok : goal.returns-then-is_empty-clause-ok
returns-then-is_empty-clause-ok g c =
    let cmp = g.K.Ord.cmp in
    let joined = g.J.Join.joined in
    let other = c.args.other.now in
    let none : c.self.inside.chunks.list.items ≡ [] =
    empty_of c.self.inside.chunks.list.items (grind (arith, nat_tests)) in
    let copied = c.drop.view_is ∙ c.in_ok-self-inside.ensures in
    copied
    ∙ joined_to_none cmp g.met.K.Ord.total g.met.K.Key.exact joined other
    (subst (IsMap cmp) copied c.drop.invariant.chunked.map)
    ∙ ap (λ xs. joined_maps cmp joined xs other) (ap all_of (sym none) ∙ c.self.view_is)

pub returns-clause-ok : goal.returns-clause-ok
returns-clause-ok g c =
    let cmp = g.K.Ord.cmp in
    let joined = g.J.Join.joined in
    let mine = all_of c.self.inside.chunks.list.items in
    let other = all_of c.other.inside.chunks.list.items in
    let new = all_of c.join_chunks.new.chunks.list.items in
    on_ok_weaker c.join_chunks.result
    (λ s. joined_is cmp g.met.K.Ord.total g.met.K.Key.exact joined mine other new
    c.self.invariant.chunked.map c.other.invariant.chunked.map
    (subst (λ xs. IsJoinedWith cmp joined mine (all_of xs) new) c.deref.ensures.value s)
    ∙ (λ j. joined_maps cmp joined (c.self.view_is j) (c.other.view_is j)))
    c.join_chunks.ensures.ok
