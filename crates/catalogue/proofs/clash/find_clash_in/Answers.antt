use Rattle.std.proofs.Common.{◌≡◌, Some, None, sym, ◌∙◌, subst, true≢false}
use Rattle.cell_core.specs.Cell.{AgreeCells}
use Rattle.cell_core.specs.Iter.{entries_left}
use Rattle.cell_core.specs.Entry.{text_cmp}
use Rattle.catalogue.proofs.Basics.{some_same}
use Rattle.catalogue.proofs.ClashWalksLemmas.{IsAgreed, clash_one, agreed_one, agreed_all}
use Rattle.catalogue.proofs.clash.find_clash_in.Goals as goal
use Rattle.catalogue.proofs.clash.find_clash_in.Goals.{in-Some-get+else-not-agrees, in_default}

pub returns-then-not-agrees : goal.returns-then-not-agrees
returns-then-not-agrees c =
    let h =
    subst (λ left. IsAgreed text_cmp c.args.mine.now c.args.theirs.now left c.loop-lang.place)
    c.in-Some.ensures.steps c.loop-lang.invariant in
    clash_one text_cmp c.args.mine.now c.args.theirs.now c.in-Some.lang.now c.in-Some.cell.now
    c.in-Some-get.other.now (entries_left c.next.new.self) c.loop-lang.place c.stamp.result h
    (sym c.in-Some-get.ensures.value)
    (λ agree. true≢false (sym (c.agrees.ensures.1 agree) ∙ c.if-not-agrees.true))
    c.stamp.ensures

pub loop-lang-preserved : goal.loop-lang-preserved
loop-lang-preserved c =
    let h =
    subst (λ left. IsAgreed text_cmp c.args.mine.now c.args.theirs.now left c.loop-lang.place)
    c.in-Some.ensures.steps c.loop-lang.invariant in
    agreed_one text_cmp c.args.mine.now c.args.theirs.now c.in-Some.lang.now c.in-Some.cell.now
    (entries_left c.next.new.self) c.loop-lang.place h
    (λ d found. elim c.match-get.branch as (λ _. AgreeCells c.in-Some.cell.now d) [
      | in-Some-get+else-not-agrees w ↦
          let same : w.in-Some-get.other.now ≡ d =
          some_same w.in-Some-get.other.now d (w.in-Some-get.ensures.value ∙ found) in
          subst (AgreeCells c.in-Some.cell.now) same (w.agrees.ensures.0 w.if-not-agrees.false)
      | in_default w ↦ let no : None ≡ Some d = w.in_default.ensures.value ∙ found in absurd (cc)
    ])

pub returns : goal.returns
returns c =
    agreed_all text_cmp c.args.mine.now c.args.theirs.now c.loop-lang.place
    (subst (λ left. IsAgreed text_cmp c.args.mine.now c.args.theirs.now left c.loop-lang.place)
    c.in-None.ensures.steps.0 c.loop-lang.invariant)
