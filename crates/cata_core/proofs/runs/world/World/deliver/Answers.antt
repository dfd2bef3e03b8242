use Rattle.std.proofs.Common.{◌≡◌, ◌<◌, [], sym, subst, refl, length, get_or, arith}
use Rattle.std.proofs.lemmas.Result.{IfErr-weaker}
use Rattle.std.proofs.lemmas.List.{length-set}
use Rattle.cata_core.specs.declared.step.Step.TheVariants.{Deliver}
use Rattle.cata_core.specs.WorldHeld.{PostedCells}
use Rattle.cata_core.specs.inner.PlayFault.{RefusesStep}
use Rattle.cata_core.specs.inner.World.{held_in, IsClashAt}
use Rattle.catalogue.proofs.Basics.{append_nil}
use Rattle.cata_core.proofs.WorldLemmas.{delivered_sound, delivered_held, delivered_fault}
use Rattle.cata_core.proofs.WorldLemmas.{addressed}
use Rattle.cata_core.proofs.WorldLemmas.{both_hold}
use Rattle.cata_core.proofs.runs.world.World.deliver.Goals as goal

-- The step is sound, since the post is there and its cells agree; the addressee holds the join, all
-- else is as it was, and nothing is answered.
pub returns-clause-ok : goal.returns-clause-ok
returns-clause-ok c =
    let w = c.args.self.now in
    let xs = w.sites.items in
    let lt : c.args.post < length w.posts.items =
    omega (arith, c.if-post-len.false, c.len.ensures) in
    let p : PostedCells =
    record { addressee = c.addressee-addressee.result; cells = c.cells.result.now } in
    let same : p ≡ c.index-post.result.now =
    λ i. record { addressee = c.addressee-addressee.ensures i; cells = c.cells.ensures i } in
    let post : p ≡ get_or w.posts.items c.args.post p =
    subst (λ (q : PostedCells). q ≡ get_or w.posts.items c.args.post q) (sym same)
    c.index-post.ensures in
    let own = c.index_mut.result.now in
    let there = addressed (length xs) w.posts.items c.args.post p c.requires.posts lt post in
    both_hold c.take_in.result
    (λ agree is. record {
      sound =
          delivered_sound xs w.told.items w.posts.items (Deliver c.args.post) c.args.post p own refl
          lt post there c.index_mut.ensures.value (length xs) agree;
      held =
          delivered_held xs w.told.items w.posts.items (Deliver c.args.post) c.args.post p own refl
          lt post there c.index_mut.ensures.value c.take_in.new.own is;
      answered = [];
      answers = sym (append_nil w.answers.items);
      are_answers = refl;
      sites = length-set xs p.addressee c.take_in.new.own;
      addressed = record { few = c.requires.few; told = c.requires.told; posts = c.requires.posts };
    })
    c.take_in.ensures.agree c.take_in.ensures.ok

-- The fault is the step's: the cells of the post clash with those of its addressee, or no memory.
pub returns-clause-err : goal.returns-clause-err
returns-clause-err c =
    let w = c.args.self.now in
    let n = length w.sites.items in
    let lt : c.args.post < length w.posts.items =
    omega (arith, c.if-post-len.false, c.len.ensures) in
    let p : PostedCells =
    record { addressee = c.addressee-addressee.result; cells = c.cells.result.now } in
    let same : p ≡ c.index-post.result.now =
    λ i. record { addressee = c.addressee-addressee.ensures i; cells = c.cells.ensures i } in
    let post : p ≡ get_or w.posts.items c.args.post p =
    subst (λ (q : PostedCells). q ≡ get_or w.posts.items c.args.post q) (sym same)
    c.index-post.ensures in
    let there = addressed n w.posts.items c.args.post p c.requires.posts lt post in
    IfErr-weaker c.take_in.result (IsClashAt c.args.number c.index_mut.result.now p.cells)
    (RefusesStep n (held_in w) c.args.number (Deliver c.args.post))
    (delivered_fault w.sites.items w.told.items w.posts.items (Deliver c.args.post) c.args.post p
    c.index_mut.result.now refl lt post there c.index_mut.ensures.value n c.args.number)
    c.take_in.ensures.err
