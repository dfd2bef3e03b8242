use Rattle.std.proofs.Common.{◌≡◌, ◌≢◌, Some, sym, ◌∙◌, ap, subst}
use Rattle.std.specs.declared.cmp.Ordering.TheVariants.{Less, Greater}
use Rattle.std.specs.Ordering.{is_lt, is_eq}
use Rattle.std.proofs.lemmas.List.{nil_from_length}
use Rattle.std.specs.FinMap.Entries.{find, is_sorted, below_all}
use Rattle.cell_core.specs.Keyed.{IsMap}
use Rattle.cata_core.specs.Delta.{Stamps}
use Rattle.cell_core.specs.Entry.{EntryKey, key_cmp}
use Rattle.cell_core.proofs.Basics.{second_part}
use Rattle.cata_core.proofs.SummaryListsLemmas.{passed, passed_found, first_found, first_absent}
use Rattle.cata_core.proofs.SummaryListsLemmas.{not_greater, not_greater_self}
use Rattle.cata_core.proofs.delta.stamp_at.Goals as goal

pub loop-first-preserved : goal.loop-first-preserved
loop-first-preserved c =
    let key : EntryKey = (c.args.id.now, c.args.lang.now) in
    let k : EntryKey = c.in-Some.first.now.0 in
    let h =
    subst (λ (rest : Stamps). IsMap key_cmp rest
    × ((q : EntryKey) → key_cmp (c.args.id.now, c.args.lang.now) q ≢ Greater
    → find key_cmp q rest ≡ find key_cmp q c.args.entries.now))
    c.in-Some.ensures.cases.0 c.loop-first.invariant in (
      second_part (below_all key_cmp k c.in-Some.more.now)
          (is_sorted key_cmp c.in-Some.more.now) h.0,
      λ q from.
          passed key k c.in-Some.first.now.1 c.in-Some.more.now
          (ap is_lt (sym c.in-Less.ensures)) q from ∙ h.1 q from,
    )

pub returns-in-Equal-clause-stamp : goal.returns-in-Equal-clause-stamp
returns-in-Equal-clause-stamp c =
    let key : EntryKey = (c.args.id.now, c.args.lang.now) in
    let k : EntryKey = c.in-Some.first.now.0 in
    ap Some c.value.ensures
    ∙ first_found key k c.in-Some.first.now.1 c.in-Some.more.now
    (ap is_eq (sym c.in-Equal.ensures))
    ∙ ap (λ (rest : Stamps). find key_cmp key rest)
    (sym c.in-Some.ensures.cases.0) ∙ c.loop-first.invariant.1 key (not_greater_self key)

pub returns-in-Greater-clause-stamp : goal.returns-in-Greater-clause-stamp
returns-in-Greater-clause-stamp c =
    let key : EntryKey = (c.args.id.now, c.args.lang.now) in
    let k : EntryKey = c.in-Some.first.now.0 in
    let sorted =
    subst (λ (rest : Stamps). IsMap key_cmp rest)
    c.in-Some.ensures.cases.0 c.loop-first.invariant.0 in
    first_absent key k c.in-Some.first.now.1 c.in-Some.more.now sorted
    (λ less. let no : Greater ≡ Less = c.in-Greater.ensures ∙ less in absurd (cc))
    (ap is_eq (sym c.in-Greater.ensures))
    ∙ ap (λ (rest : Stamps). find key_cmp key rest)
    (sym c.in-Some.ensures.cases.0) ∙ c.loop-first.invariant.1 key (not_greater_self key)

pub returns-clause-stamp : goal.returns-clause-stamp
returns-clause-stamp c =
    let key : EntryKey = (c.args.id.now, c.args.lang.now) in
    ap (λ (rest : Stamps). find key_cmp key rest)
    (sym (nil_from_length c.loop-first.rest.now c.in_default.ensures.cases))
    ∙ c.loop-first.invariant.1 key (not_greater_self key)

-- The entries after the key found have at each greater key what all have: those skipped are below
-- it.
pub returns-in-Equal-clause-rest : goal.returns-in-Equal-clause-rest
returns-in-Equal-clause-rest c =
    let key : EntryKey = (c.args.id.now, c.args.lang.now) in
    let k : EntryKey = c.in-Some.first.now.0 in
    let more = c.in-Some.more.now in
    let sorted =
    subst (λ (rest : Stamps). IsMap key_cmp rest)
    c.in-Some.ensures.cases.0 c.loop-first.invariant.0 in
    record {
      sorted = second_part (below_all key_cmp k more) (is_sorted key_cmp more) sorted;
      same =
          λ q less.
          passed_found key k c.in-Some.first.now.1 more (sym c.in-Equal.ensures) q less
          ∙ ap (λ (rest : Stamps). find key_cmp q rest)
          (sym c.in-Some.ensures.cases.0) ∙ c.loop-first.invariant.1 q (not_greater less);
    }

pub returns-in-Greater-clause-rest : goal.returns-in-Greater-clause-rest
returns-in-Greater-clause-rest c = record {
  sorted = c.loop-first.invariant.0;
  same = λ q less. c.loop-first.invariant.1 q (not_greater less);
}

pub returns-clause-rest : goal.returns-clause-rest
returns-clause-rest c = record {
  sorted = c.loop-first.invariant.0;
  same = λ q less. c.loop-first.invariant.1 q (not_greater less);
}
