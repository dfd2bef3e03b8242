use Rattle.std.proofs.Common.{◌++◌, append_assoc, Vec, Global, suc, take, drop, sym, ap, ◌∙◌, subst}
use Rattle.cell_core.specs.Keyed.{IsMap, IsJoinedWith}
use Rattle.cell_core.specs.Chunks.{all_of}
use Rattle.cell_core.proofs.Basics.{on_err_always}
use Rattle.cell_core.proofs.ChunkLemmas.{all_of-split, chunk_map, map_front}
use Rattle.cell_core.proofs.ChunkJoinsRunLemmas.{all_of_more, joined_none_yet, joined_further}
use Rattle.cell_core.proofs.ChunkJoinsRunLemmas.{agree_further}
use Rattle.cell_core.proofs.ChunkJoinsRunLemmas.{stopped_further}
use Rattle.cell_core.proofs.chunk_joins.join_chunks.Goals as goal

pub loop-pairs-init : goal.loop-pairs-init
loop-pairs-init g c = record {
  some = c.requires.some;
  kept = c.requires.kept;
  joined =
      joined_none_yet g.K.Ord.cmp g.met.K.Ord.total g.J.Join.joined
      (all_of c.args.chunks.now.list.items) c.requires.kept.chunked.map;
}

pub join_all_of-requires-clause-pairs : goal.join_all_of-requires-clause-pairs
join_all_of-requires-clause-pairs g c =
    subst (IsMap g.K.Ord.cmp)
    (ap (λ (x : Vec (g.row.K.Denot × g.row.J.Denot) Global). x.items) (sym c.pairs-item.is)
    ∙ sym c.deref.ensures.value)
    (chunk_map g.K.Ord.cmp g.met.K.Ord.total c.args.theirs.now c.requires.theirs
    c.loop-pairs.pairs-index c.pairs-item.result c.loop-pairs-test.true)

pub join_all_of-requires-clause-agree : goal.join_all_of-requires-clause-agree
join_all_of-requires-clause-agree g c =
    let theirs = c.args.theirs.now in
    let i = c.loop-pairs.pairs-index in
    let rest = all_of (drop (suc i) theirs) in
    let split = all_of-split theirs i c.pairs-item.result c.loop-pairs-test.true
    ∙ ap (λ xs. all_of (take i theirs) ++ (xs ++ rest))
    (ap (λ (x : Vec (g.row.K.Denot × g.row.J.Denot) Global). x.items) (sym c.pairs-item.is)
    ∙ sym c.deref.ensures.value) in
    agree_further g.K.Ord.cmp g.met.K.Ord.total g.met.J.Join.laws
    (all_of c.args.chunks.now.list.items) (all_of theirs) (all_of (take i theirs))
    c.deref.result.now rest (all_of c.loop-pairs.chunks.list.items) split
    c.requires.theirs.map c.requires.agree c.loop-pairs.invariant.joined

-- Memory ended within one of their chunks: the entries are on the way to the whole join, since the
-- chunks before it were joined and this one is on its way.
pub returns-in_err-join_all_of-clause-err : goal.returns-in_err-join_all_of-clause-err
returns-in_err-join_all_of-clause-err g c =
    let theirs = c.args.theirs.now in
    let i = c.loop-pairs.pairs-index in
    let rest = all_of (drop (suc i) theirs) in
    let split = all_of-split theirs i c.pairs-item.result c.loop-pairs-test.true
    ∙ ap (λ xs. all_of (take i theirs) ++ (xs ++ rest))
    (ap (λ (x : Vec (g.row.K.Denot × g.row.J.Denot) Global). x.items) (sym c.pairs-item.is)
    ∙ sym c.deref.ensures.value) in
    on_err_always c.from_residual.result
    (stopped_further g.K.Ord.cmp g.met.K.Ord.total g.met.J.Join.laws
    (all_of c.args.chunks.now.list.items) (all_of theirs) (all_of (take i theirs))
    c.deref.result.now rest (all_of c.loop-pairs.chunks.list.items) split
    c.requires.theirs.map c.requires.agree c.loop-pairs.invariant.joined
    (all_of c.join_all_of.new.chunks.list.items) c.requires.kept.chunked.map
    c.in_err-join_all_of.ensures.err)

-- The chunks before this one are joined: this one was joined to what they had become, and no key is
-- in both parts, so the chunks up to it are joined.
pub loop-pairs-preserved : goal.loop-pairs-preserved
loop-pairs-preserved g c =
    let cmp = g.K.Ord.cmp in
    let joined = g.J.Join.joined in
    let old = all_of c.args.chunks.now.list.items in
    let new = all_of c.join_all_of.new.chunks.list.items in
    let theirs = c.args.theirs.now in
    let i = c.loop-pairs.pairs-index in
    let front = all_of (take i theirs) in
    let rest = all_of (drop (suc i) theirs) in
    let run = c.deref.result.now in
    let more =
    ap (λ xs. front ++ xs) c.deref.ensures.value
    ∙ all_of_more theirs i c.pairs-item.result c.loop-pairs-test.true c.pairs-item.is in
    let split = all_of-split theirs i c.pairs-item.result c.loop-pairs-test.true
    ∙ ap (λ xs. front ++ (xs ++ rest))
    (ap (λ (x : Vec (g.row.K.Denot × g.row.J.Denot) Global). x.items) (sym c.pairs-item.is)
    ∙ sym c.deref.ensures.value)
    ∙ sym (append_assoc front run rest) in
    record {
      some = c.join_all_of.ensures.some;
      kept = c.join_all_of.ensures.kept;
      joined = subst (λ xs. IsJoinedWith cmp joined old xs new) more
          (joined_further cmp g.met.K.Ord.total joined old front
          (all_of c.loop-pairs.chunks.list.items) run new
          (map_front cmp (front ++ run) rest (subst (IsMap cmp) split c.requires.theirs.map))
          c.loop-pairs.invariant.joined c.in_ok-join_all_of.ensures.ok);
    }
