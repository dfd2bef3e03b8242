use Rattle.std.proofs.Common.{◌+◌, length, sym, subst, arith}
use Rattle.std.proofs.lemmas.Option.{slice_get_within}
use Rattle.cell_core.specs.Iter.{entries_left}
use Rattle.cell_core.specs.Entry.{key_cmp}
use Rattle.catalogue.specs.CatalogueFlat.{flat}
use Rattle.catalogue.specs.CatalogueNested.{Nested}
use Rattle.catalogue.proofs.ClashWalksLemmas.{IsAgreed, agreed_with, agreed_without, clash_with}
use Rattle.catalogue.proofs.ClashWalksLemmas.{front_fits, agreed_catalogues}
use Rattle.catalogue.proofs.clash.find_clash.Goals as goal
use Rattle.catalogue.proofs.clash.find_clash.Goals.{in-Some-get+in_default-find_clash_in}
use Rattle.catalogue.proofs.clash.find_clash.Goals.{in_default}

pub overflow_add-result : goal.overflow_add-result
overflow_add-result c =
    let h =
    subst (λ (left : Nested). IsAgreed key_cmp (flat c.args.mine.now) (flat c.args.theirs.now)
    (flat left) c.loop-id.front) c.in-Some.ensures.steps c.loop-id.invariant in
    let fits =
    front_fits c.args.mine.now c.args.theirs.now c.in-Some.id.now c.in-Some.cells.now
    (entries_left c.next.new.self) c.loop-id.front c.requires.theirs.outer h c.requires.fits in
    let clash = c.in-Some-find_clash_in.ensures in
    omega (
      arith,
      fits,
      slice_get_within c.in-Some.cells.now c.in-Some-find_clash_in.place
          (clash.key, clash.mine) clash.held,
    )

pub returns-in-Some-find_clash_in : goal.returns-in-Some-find_clash_in
returns-in-Some-find_clash_in c =
    let h =
    subst (λ (left : Nested). IsAgreed key_cmp (flat c.args.mine.now) (flat c.args.theirs.now)
    (flat left) c.loop-id.front) c.in-Some.ensures.steps c.loop-id.invariant in
    clash_with c.args.mine.now c.args.theirs.now c.in-Some.id.now c.in-Some.cells.now
    (entries_left c.next.new.self) c.loop-id.front c.requires.theirs.outer h
    c.in-Some-get.others.now (sym c.in-Some-get.ensures.value) c.in-Some-find_clash_in.place
    c.in-Some-find_clash_in.stamp c.in-Some-find_clash_in.ensures

pub overflow_add-front : goal.overflow_add-front
overflow_add-front c =
    let h =
    subst (λ (left : Nested). IsAgreed key_cmp (flat c.args.mine.now) (flat c.args.theirs.now)
    (flat left) c.loop-id.front) c.in-Some.ensures.steps c.loop-id.invariant in
    let fits =
    front_fits c.args.mine.now c.args.theirs.now c.in-Some.id.now c.in-Some.cells.now
    (entries_left c.next.new.self) c.loop-id.front c.requires.theirs.outer h c.requires.fits in
    omega (arith, fits, c.len.ensures.len)

-- The cells before those left agree: the other has not this message, or its cells agree there, as
-- the search within the message said.
pub loop-id-preserved : goal.loop-id-preserved
loop-id-preserved c =
    let own = c.args.mine.now in
    let other = c.args.theirs.now in
    let left = entries_left c.next.new.self in
    let h =
    subst (λ (left : Nested). IsAgreed key_cmp (flat c.args.mine.now) (flat c.args.theirs.now)
    (flat left) c.loop-id.front) c.in-Some.ensures.steps c.loop-id.invariant in
    subst (λ n. IsAgreed key_cmp (flat c.args.mine.now) (flat c.args.theirs.now)
    (flat (entries_left c.next.new.self)) (c.loop-id.front + n)) (sym c.len.ensures.len)
    (elim c.match-get.branch as
    (λ _. IsAgreed key_cmp (flat c.args.mine.now) (flat c.args.theirs.now)
    (flat (entries_left c.next.new.self)) (c.loop-id.front + length c.in-Some.cells.now)) [
      | in-Some-get+in_default-find_clash_in w ↦
          agreed_with c.args.mine.now c.args.theirs.now c.in-Some.id.now c.in-Some.cells.now
          (entries_left c.next.new.self) c.loop-id.front c.requires.theirs.outer h
          w.in-Some-get.others.now (sym w.in-Some-get.ensures.value)
          w.in_default-find_clash_in.ensures
      | in_default w ↦
          agreed_without c.args.mine.now c.args.theirs.now c.in-Some.id.now c.in-Some.cells.now
          (entries_left c.next.new.self) c.loop-id.front c.requires.theirs.outer h
          (sym w.in_default.ensures.value)
    ])

pub returns : goal.returns
returns c =
    agreed_catalogues c.args.mine.now c.args.theirs.now c.loop-id.front c.requires.mine
    c.requires.theirs
    (subst
    (λ (left : Nested). IsAgreed key_cmp (flat c.args.mine.now) (flat c.args.theirs.now)
    (flat left) c.loop-id.front) c.in-None.ensures.steps.0 c.loop-id.invariant)
