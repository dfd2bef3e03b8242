use Rattle.std.proofs.Common.{◌≡◌, ◌/◌, ◌<◌, ◌++◌, Vec, Global, set, length, get_or, vec_len, arith}
use Rattle.std.proofs.Common.{sym, ap, ◌∙◌, subst, add-one, take-append-drop}
use Rattle.std.specs.List.{insert}
use Rattle.std.proofs.lemmas.List.{get_or_default}
use Rattle.cell_core.specs.Keyed.{IsMap}
use Rattle.cell_core.specs.Chunks.{all_of, AllFilled}
use Rattle.cell_core.proofs.ChunkLemmas.{all_of-cut, filled-cut}
use Rattle.cell_core.proofs.chunks.cut.Goals as goal
use Rattle.cell_core.proofs.chunks.cut.Goals.{in-Ok, in-Err}

-- The entries are the same: the two parts are the front and the tail of the chunk, and there was
-- room for one chunk more, so the insertion did not fail.
pub returns-clause-same : goal.returns-clause-same
returns-clause-same g c =
    let at = c.args.at in
    let cs = c.reserve.new.self.items in
    let chunk = c.index_mut.result.now in
    let x = c.split_off.new.self in
    let t = c.in_ok-tail.tail in
    let lt : at < length cs =
    omega (arith, c.requires.at, c.reserve.new.self.ok.0, c.in_ok-reserve.ensures.len) in
    let parts =
    (λ j. c.in_ok-tail.ensures.items j ++ c.in_ok-tail.ensures.tail j)
    ∙ take-append-drop (c.len-len.result / 2) chunk.items
    ∙ ap (λ (v : Vec (g.row.K.Denot × g.row.J.Denot) Global). v.items)
    c.index_mut.ensures.value in
    elim c.match-insert.branch as
    (λ _. all_of c.insert.new.self.items ≡ all_of c.args.chunks.now.items) [
      | in-Ok w ↦
          let is = rw w.in-Ok.is at c.insert.ensures.items in
          ap all_of is ∙ ap (λ n. all_of (insert (set cs at x) n t)) (add-one at)
          ∙ all_of-cut cs at chunk x t lt parts ∙ ap all_of c.in_ok-reserve.ensures.items
      | in-Err w ↦
          let full = rw w.in-Err.is at c.insert.ensures.full in
          absurd (omega (arith, full, c.in_ok-reserve.ensures.ok))
    ]

-- The entries are the same, so their keys ascend; and neither part is empty, since a chunk of at
-- least two entries was cut in the middle.
pub returns-clause-chunked : goal.returns-clause-chunked
returns-clause-chunked g c =
    let at = c.args.at in
    let cs = c.reserve.new.self.items in
    let x = c.split_off.new.self in
    let t = c.in_ok-tail.tail in
    let lt : at < length cs =
    omega (arith, c.requires.at, c.reserve.new.self.ok.0, c.in_ok-reserve.ensures.len) in
    let here : at < length c.args.chunks.now.items =
    omega (arith, c.requires.at, c.args.chunks.now.ok.0) in
    let one : c.index_mut.result.now ≡ c.index.result.now =
    c.index_mut.ensures.value
    ∙ ap (λ xs. get_or xs at c.index_mut.result.now) c.in_ok-reserve.ensures.items
    ∙ get_or_default c.args.chunks.now.items at c.index_mut.result.now c.index.result.now here
    ∙ sym c.index.ensures in
    let long : c.len-len.result ≡ vec_len c.index_mut.result.now =
    c.len-len.ensures ∙ ap vec_len (sym one) in
    let p : 0 < length x.items = omega (arith, c.in_ok-tail.ensures.len, x.ok.0) in
    let q : 0 < length t.items =
    omega (arith, c.in_ok-tail.ensures.tail_len, t.ok.0, c.in_ok-tail.ensures.len) in
    record {
      map = subst (IsMap g.K.Ord.cmp) (sym (returns-clause-same g c)) c.requires.chunked.map;
      filled = elim c.match-insert.branch as (λ _. AllFilled c.insert.new.self.items) [
        | in-Ok w ↦
            let is = rw w.in-Ok.is at c.insert.ensures.items in
            subst AllFilled (sym (is ∙ ap (λ n. insert (set cs at x) n t) (add-one at)))
            (filled-cut cs at x t lt p q
            (subst AllFilled (sym c.in_ok-reserve.ensures.items) c.requires.chunked.filled))
        | in-Err w ↦
            let full = rw w.in-Err.is at c.insert.ensures.full in
            absurd (omega (arith, full, c.in_ok-reserve.ensures.ok))
      ];
    }
