use Rattle.std.proofs.Common.{◌++◌, Vec, Global, suc, take, drop, sym, ap, ◌∙◌, subst, true≢false}
use Rattle.std.specs.FinMap.Entries.{find}
use Rattle.cell_core.specs.Keyed.{IsMap, AgreeIfBoth}
use Rattle.cell_core.specs.Chunks.{all_of}
use Rattle.cell_core.proofs.ChunkLemmas.{all_of-split, chunk_map}
use Rattle.cell_core.proofs.ChunkJoinsRunLemmas.{all_of_more, run_agrees, agree_parts}
use Rattle.cell_core.proofs.chunk_joins.agree_chunks.Goals as goal

pub agree_all_of-requires-clause-pairs : goal.agree_all_of-requires-clause-pairs
agree_all_of-requires-clause-pairs g c =
    subst (IsMap g.K.Ord.cmp)
    (ap (λ (x : Vec (g.row.K.Denot × g.row.J.Denot) Global). x.items) (sym c.pairs-item.is)
    ∙ sym c.deref.ensures.value)
    (chunk_map g.K.Ord.cmp g.met.K.Ord.total c.args.mine.now c.requires.mine
    c.loop-pairs.pairs-index c.pairs-item.result c.loop-pairs-test.true)

pub returns-then-not-agree_all_of : goal.returns-then-not-agree_all_of
returns-then-not-agree_all_of g c =
    let mine = c.args.mine.now in
    let i = c.loop-pairs.pairs-index in
    let rest = all_of (drop (suc i) mine) in
    let split = all_of-split mine i c.pairs-item.result c.loop-pairs-test.true
    ∙ ap (λ xs. all_of (take i mine) ++ (xs ++ rest))
    (ap (λ (x : Vec (g.row.K.Denot × g.row.J.Denot) Global). x.items) (sym c.pairs-item.is)
    ∙ sym c.deref.ensures.value) in (
      λ no. absurd (true≢false (sym no)),
      λ all. absurd (true≢false (sym (c.agree_all_of.ensures.1
          (run_agrees g.K.Ord.cmp g.met.K.Ord.total g.J.Join.agree (all_of mine)
          (all_of (take i mine)) c.deref.result.now rest (all_of c.args.theirs.now) split
          c.requires.mine.map all)) ∙ c.if-not-agree_all_of.true)),
    )

pub loop-pairs-preserved : goal.loop-pairs-preserved
loop-pairs-preserved g c = λ q.
    let cmp = g.K.Ord.cmp in
    let agree = g.J.Join.agree in
    let mine = c.args.mine.now in
    let theirs = all_of c.args.theirs.now in
    let i = c.loop-pairs.pairs-index in
    let front = all_of (take i mine) in
    let run = c.deref.result.now in
    let more =
    ap (λ xs. front ++ xs) c.deref.ensures.value
    ∙ all_of_more mine i c.pairs-item.result c.loop-pairs-test.true c.pairs-item.is in
    subst (λ xs. AgreeIfBoth agree (find cmp q xs) (find cmp q theirs)) more
    (agree_parts cmp agree front run theirs c.loop-pairs.invariant
    (c.agree_all_of.ensures.0 c.if-not-agree_all_of.false) q)
