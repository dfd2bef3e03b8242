-- Sites that are merged: the join of all, in what order they come, and in parts.
--
-- A merge joins each site to those before it. If each two agree, each in turn agrees with the join
-- of those before, and the whole is the least catalogue above all of them. A least one does not
-- depend on the order or on repeats, which gives `any_order` and `any_copies`. For refusals: the
-- documents before the one that is refused are merged, so of two refused places the later one can't
-- be refused too. The part of a join is the join of the parts, as both are found key by key.
use Rattle.std.proofs.Common.{◌≡◌, ◌∙◌, ◌+◌, ℕ, Bool, List, [], ◌∷◌, ◌++◌, ap, arith, cond}
use Rattle.std.proofs.Common.{false, inl, inr, length, map, refl, subst, sym, true}
use Rattle.std.specs.Prelude.{◌⊎◌, ◌↔◌, All, Contains, None, Option, Some}
use Rattle.std.specs.FinMap.Entries.{find}
use Rattle.std.specs.List.{AllZip}
use Rattle.std.specs.Ordering.{is_lt}
use Rattle.std.specs.declared.cmp.Ordering.{Ordering}
use Rattle.std.specs.declared.cmp.Ordering.TheVariants.{Equal, Greater, Less}
use Rattle.std.specs.Cmp.{tied_itself}
use Rattle.std.proofs.lemmas.List.Elements.{All-cons, All-contains, All-head, All-nil, All-tail}
use Rattle.cell_core.specs.Cell.{AgreeCells, joined_cells}
use Rattle.cell_core.specs.inner.Cell.{stamp_cmp_total}
use Rattle.cell_core.specs.Join.{IsJoinOf}
use Rattle.cell_core.specs.Keyed.{AgreeIfBoth, IsMap, joined_if_both}
use Rattle.cell_core.specs.inner.KeyedLaws.{find-joined_maps, joined_maps-IsMap, same_maps}
use Rattle.cell_core.specs.Stamp.{stamp_cmp}
use Rattle.cell_core.specs.declared.cell.Cell.{Cell}
use Rattle.cell_core.specs.declared.stamp.Stamp.{Stamp}
use Rattle.cell_core.proofs.JoinLemmas.{below_both}
use Rattle.cell_core.specs.Entry.{EntryKey}
use Rattle.catalogue.specs.Entries.{Agree, Entries, IsBelowCells}
use Rattle.catalogue.specs.inner.Entries.{catalogue_laws}
use Rattle.cell_core.specs.Entry.{key_cmp}
use Rattle.cell_core.specs.inner.Entry.{key_cmp_exact, key_cmp_total}
use Rattle.catalogue.specs.Entries.{joined}
use Rattle.catalogue.specs.CatalogueParts.{part_of}
use Rattle.cata_core.specs.Site.{SiteState}
use Rattle.catalogue.proofs.Basics.{some_same}
use Rattle.catalogue.proofs.CatalogueMembersLemmas.{Contains-from_in, In, in_from_Contains}
use Rattle.catalogue.proofs.CataloguePartsLemmas.{parts_agree, parts_join}
use Rattle.json_docs.specs.declared.fault.DocFault.{DocFault}
use Rattle.row_docs.specs.Reading.{IsOfDocument}
use Rattle.site_docs.specs.Reading.{IsSiteText, ReadsAsSite, RefusesSite}
use Rattle.site_docs.proofs.ReadingOneDocument.{one_site}
use Rattle.docs_core.specs.Calls.{AreSynced, RefusesSync}
use Rattle.docs_core.specs.Lines.{documents_of}
use Rattle.docs_core.specs.Merging.{AllAgree, AreMerged, IsMerged, ReadAsSites, RefusesMerge}
use Rattle.docs_core.specs.Merging.{RefusesCells, RefusesNext, RefusesOther, joined_all}
use Rattle.docs_core.specs.Merging.{merged_site, part_of_site}
use Rattle.site_docs.specs.Checks.{LacksNoOwn, no_checks, until}
use Rattle.site_docs.specs.declared.checks.Checks.{Checks}
use Rattle.site_docs.specs.RowsInTime.{AreInTime, IsInTime}
use Rattle.docs_core.proofs.CallRefusals.{ahead_not_in_time, all_at, cells_not_refused}
use Rattle.docs_core.proofs.CallRefusals.{missing_not_held, one_ahead, one_missing, one_of_cells}
use Rattle.docs_core.proofs.CallRefusals.{one_of_site_document}
use Rattle.docs_core.proofs.CallRefusals.{site_not_refused, site_ascends}
use Rattle.docs_core.proofs.MergingLemmas.{merged_first, merged_more, none_in}

-- ---- one reading

-- documents read as one list of sites at most
pub one_reading : (documents : List (List ℕ)) (a b : List SiteState) → ReadAsSites documents a
    → ReadAsSites documents b → a ≡ b
one_reading [] [] [] p q = refl
one_reading [] [] (t ∷ b) p q = absurd q
one_reading [] (s ∷ a) b p q = absurd p
one_reading (d ∷ ds) [] b p q = absurd p
one_reading (d ∷ ds) (s ∷ a) [] p q = absurd q
one_reading (d ∷ ds) (s ∷ a) (t ∷ b) p q =
    λ i. one_site d s t p.0 q.0 i ∷ one_reading ds a b p.1 q.1 i

-- what belongs to a list with an item at some place has one there
pub zip_split : {X Y : Type 0} (R : X → Y → Type 0) (before : List X) (x : X) (after : List X)
    (ys : List Y) → AllZip R (before ++ x ∷ after) ys
    → (front : List Y) × (y : Y) × (back : List Y) × (ys ≡ front ++ y ∷ back)
    × AllZip R before front × R x y
zip_split R [] x after [] all = absurd all
zip_split R [] x after (y ∷ ys) all = ([], y, ys, refl, tt, all.0)
zip_split R (b ∷ before) x after [] all = absurd all
zip_split R (b ∷ before) x after (y ∷ ys) all =
    let rest = zip_split R before x after ys all.1 in (
      y ∷ rest.0,
      rest.1,
      rest.2,
      λ i. y ∷ rest.3 i,
      (all.0, rest.4),
      rest.5,
    )

-- ---- merged and refused

-- cells that pass the checks and agree are not refused
cells_pass : (checks : Checks) (number : ℕ) (site : SiteState) (cells : Entries) (fault : DocFault)
    → AreInTime checks.not_after cells → LacksNoOwn checks.own_edits site cells
    → Agree site.cells cells → IsMap key_cmp cells → RefusesCells checks number site cells fault
    → ⊥
cells_pass checks number site cells fault in_time none agree ascends why = elim why as (λ _. ⊥) [
  | inl ahead ↦ ahead_not_in_time number checks.not_after cells fault in_time ahead
  | inr later ↦ elim later as (λ _. ⊥) [
    | inl missing ↦ missing_not_held number checks.own_edits site cells fault none missing.1
    | inr clash ↦ cells_not_refused site.cells cells fault agree ascends clash.2
  ]
]

-- cells are refused by one fault
one_of_checked : (checks : Checks) (number : ℕ) (site : SiteState) (cells : Entries)
    (x y : DocFault) → RefusesCells checks number site cells x
    → RefusesCells checks number site cells y → x ≡ y
one_of_checked checks number site cells x y p q =
    let limit = checks.not_after in
    let own = checks.own_edits in
    elim p [
      | inl a ↦ elim q [
        | inl b ↦ one_ahead number limit cells x y a b
        | inr later ↦ elim later [
          | inl b ↦ absurd (ahead_not_in_time number limit cells x b.0 a)
          | inr b ↦ absurd (ahead_not_in_time number limit cells x b.0 a)
        ]
      ]
      | inr first ↦ elim first [
        | inl a ↦ elim q [
          | inl b ↦ absurd (ahead_not_in_time number limit cells y a.0 b)
          | inr later ↦ elim later [
            | inl b ↦ one_missing number own site cells x y a.1 b.1
            | inr b ↦ absurd (missing_not_held number own site cells x b.1 a.1)
          ]
        ]
        | inr a ↦ elim q [
          | inl b ↦ absurd (ahead_not_in_time number limit cells y a.0 b)
          | inr later ↦ elim later [
            | inl b ↦ absurd (missing_not_held number own site cells y a.1 b.1)
            | inr b ↦ one_of_cells site.cells cells x y a.2 b.2
          ]
        ]
      ]
    ]

-- documents that are merged are not refused at any of them
pub merged_not_refused : (checks : Checks) (before : List (List ℕ)) (document : List ℕ)
    (after : List (List ℕ)) (first : SiteState) (others : List SiteState) (fault : DocFault)
    → AreMerged checks (before ++ document ∷ after) first others
    → RefusesNext checks before document fault → ⊥
merged_not_refused checks [] document after first others fault so (inl (none, why)) =
    site_not_refused 1 document first fault so.read.0 why
merged_not_refused checks [] document after first others fault so (inr (f, os, none, why)) =
    absurd none.read
merged_not_refused checks (b ∷ before) document after first others fault so (inl (none, why)) =
    absurd (let e : b ∷ before ≡ [] = none in cc)
merged_not_refused checks (b ∷ before) document after first others fault so
    (inr (f, os, front, why)) =
    let number = length (b ∷ before) + 1 in
    let at = zip_split ReadsAsSite before document after others so.read.1 in
    let same_first : f ≡ first = one_site b f first front.read.0 so.read.0 in
    let same_others : os ≡ at.0 = one_reading before os at.0 front.read.1 at.4 in
    let left : merged_site f os ≡ merged_site first at.0 =
    λ i. merged_site (same_first i) (same_others i) in
    let site = at.1 in
    let Timely = λ (o : SiteState). AreInTime checks.not_after o.cells in
    let in_time = all_at Timely at.0 site at.2 (subst (All Timely) at.3 so.in_time) in
    elim why as (λ _. ⊥) [
      | inl refused ↦ site_not_refused number document site fault at.5 refused
      | inr (other, reads, later) ↦
          let same : other ≡ site = one_site document other site reads at.5 in
          cells_pass checks number (merged_site first at.0) site.cells fault in_time
          (so.own at.0 site at.2 at.3) (so.agree at.0 site at.2 at.3)
          (site_ascends document site at.5)
          (subst (λ (s : SiteState).
          RefusesCells checks number (merged_site first at.0) s.cells fault) same
          (subst (λ (s : SiteState). RefusesCells checks number s other.cells fault) left later))
    ]

-- ---- one refusal

-- the next document is refused by one fault
one_of_other : (checks : Checks) (number : ℕ) (held : SiteState) (document : List ℕ)
    (x y : DocFault) → RefusesOther checks number held document x
    → RefusesOther checks number held document y → x ≡ y
one_of_other checks number held document x y p q = elim p [
  | inl refused ↦ elim q [
    | inl other ↦ one_of_site_document number document x y refused other
    | inr (site, reads, later) ↦ absurd (site_not_refused number document site x reads refused)
  ]
  | inr (site, reads, later) ↦ elim q [
    | inl refused ↦ absurd (site_not_refused number document site y reads refused)
    | inr (again, seen, other) ↦ one_of_checked checks number held site.cells x y later
        (subst (λ (s : SiteState). RefusesCells checks number held s.cells y)
        (one_site document again site seen reads) other)
  ]
]

one_next : (checks : Checks) (before : List (List ℕ)) (document : List ℕ) (x y : DocFault)
    → RefusesNext checks before document x → RefusesNext checks before document y → x ≡ y
one_next checks [] document x y (inl p) (inl q) = one_of_site_document 1 document x y p.1 q.1
one_next checks [] document x y (inr p) q = absurd p.2.read
one_next checks [] document x y (inl p) (inr q) = absurd q.2.read
one_next checks (b ∷ before) document x y (inl p) q = absurd (let e : b ∷ before ≡ [] = p.0 in cc)
one_next checks (b ∷ before) document x y (inr p) (inl q) =
    absurd (let e : b ∷ before ≡ [] = q.0 in cc)
one_next checks (b ∷ before) document x y (inr (f, os, so, p)) (inr (g, qs, seen, q)) =
    let number = length (b ∷ before) + 1 in
    let same_first : g ≡ f = one_site b g f seen.read.0 so.read.0 in
    let same_others : qs ≡ os = one_reading before qs os seen.read.1 so.read.1 in
    let left : merged_site g qs ≡ merged_site f os =
    λ i. merged_site (same_first i) (same_others i) in
    one_of_other checks number (merged_site f os) document x y p
    (subst (λ (s : SiteState). RefusesOther checks number s document y) left q)

-- of two places in a list they are one, or one is before the other
two_places : {X : Type 0} (a : List X) (x : X) (at : List X) (b : List X) (y : X) (bs : List X)
    → a ++ x ∷ at ≡ b ++ y ∷ bs
    → ((a ≡ b) × (x ≡ y)) ⊎ (((more : List X) × (b ≡ a ++ x ∷ more))
    ⊎ ((more : List X) × (a ≡ b ++ y ∷ more)))
two_places [] x at [] y bs e = let same : x ≡ y = cc in inl (refl, same)
two_places [] x at (c ∷ b) y bs e = let same : x ≡ c = cc in
    inr (inl (b, λ i. sym same i ∷ b))
two_places (c ∷ a) x at [] y bs e = let same : c ≡ y = cc in
    inr (inr (a, λ i. same i ∷ a))
two_places (c ∷ a) x at (d ∷ b) y bs e =
    let head : c ≡ d = cc in
    let tail : a ++ x ∷ at ≡ b ++ y ∷ bs = cc in
    elim (two_places a x at b y bs tail) [
      | inl here ↦ inl (λ i. head i ∷ here.0 i, here.1)
      | inr apart ↦ elim apart [
        | inl later ↦ inr (inl (later.0, λ i. sym head i ∷ later.1 i))
        | inr sooner ↦ inr (inr (sooner.0, λ i. head i ∷ sooner.1 i))
      ]
    ]

-- where a later document is the next, those before it are not refused
later_not_refused : (checks : Checks) (before more longer : List (List ℕ))
    (document next : List ℕ) (x y : DocFault) → longer ≡ before ++ document ∷ more
    → RefusesNext checks before document x → RefusesNext checks longer next y → ⊥
later_not_refused checks before more longer document next x y is p q = elim q as (λ _. ⊥) [
  | inl first ↦ none_in before document more (sym first.0 ∙ is)
  | inr (f, os, so, why) ↦ merged_not_refused checks before document more f os x
      (subst (λ (ds : List (List ℕ)). AreMerged checks ds f os) is so) p
]

-- a merge is refused by one fault
pub one_merge_refusal : (checks : Checks) (input : List ℕ) (x y : DocFault)
    → RefusesMerge checks input x → RefusesMerge checks input y → x ≡ y
one_merge_refusal checks input x y (a, d, rest, is, p) (b, e, more, same, q) =
    elim (two_places a d rest b e more (sym is ∙ same)) as (λ _. x ≡ y) [
      | inl here ↦ one_next checks a d x y p
          (subst (λ (c : List ℕ). RefusesNext checks a c y) (sym here.1)
          (subst (λ (ds : List (List ℕ)). RefusesNext checks ds e y) (sym here.0) q))
      | inr apart ↦ elim apart as (λ _. x ≡ y) [
        | inl later ↦ absurd (later_not_refused checks a later.0 b d e x y later.1 p q)
        | inr sooner ↦ absurd (later_not_refused checks b sooner.0 a e d y x sooner.1 q p)
      ]
    ]

-- what is merged is not refused
pub merge_not_refused : (checks : Checks) (input text : List ℕ) (fault : DocFault)
    → IsMerged checks input text → RefusesMerge checks input fault → ⊥
merge_not_refused checks input text fault (first, others, so, is) (a, d, rest, same, why) =
    merged_not_refused checks a d rest first others fault
    (subst (λ (ds : List (List ℕ)). AreMerged checks ds first others) same so) why

-- ---- the join of all

-- each site in turn agrees with those before it, joined
abbrev InTurn : Entries → List SiteState → Type 0
InTurn cells [] = Unit {0}
InTurn cells (site ∷ sites) = Agree cells site.cells × InTurn (joined cells site.cells) sites

in_turn : (cells : Entries) (sites : List SiteState)
    → ((before : List SiteState) (other : SiteState) (after : List SiteState)
    → sites ≡ before ++ other ∷ after
    → Agree (joined_all cells before) other.cells)
    → InTurn cells sites
in_turn cells [] agree = tt
in_turn cells (site ∷ sites) agree = (
  agree [] site sites refl,
  in_turn (joined cells site.cells) sites
      (λ before other after is. agree (site ∷ before) other after
      (ap (λ (ss : List SiteState). site ∷ ss) is)),
)

from_turn : (cells : Entries) (sites : List SiteState) → InTurn cells sites
    → (before : List SiteState) (other : SiteState) (after : List SiteState)
    → sites ≡ before ++ other ∷ after
    → Agree (joined_all cells before) other.cells
from_turn cells [] turn before other after is = absurd (none_in before other after is)
from_turn cells (site ∷ sites) turn [] other after is =
    let same : site ≡ other = cc in subst (λ (s : SiteState). Agree cells s.cells) same turn.0
from_turn cells (site ∷ sites) turn (b ∷ before) other after is =
    let head : site ≡ b = cc in
    let tail : sites ≡ before ++ other ∷ after = cc in
    subst (λ (s : SiteState). Agree (joined_all (joined cells s.cells) before) other.cells) head
    (from_turn (joined cells site.cells) sites turn.1 before other after tail)

-- ---- what is above

-- a cell that is there is above, or there is none
abbrev BelowIf : Option Cell → Option Cell → Type 0
BelowIf x y = AgreeIfBoth AgreeCells x y × (joined_if_both joined_cells x y ≡ y)

either_above : (x y : Cell) → cond (is_lt (stamp_cmp x.stamp y.stamp)) y x ≡ y
    → (stamp_cmp x.stamp y.stamp ≡ Less) ⊎ (x ≡ y)
either_above x y is = by_order (stamp_cmp x.stamp y.stamp) refl is
  where
    by_order : (o : Ordering) → stamp_cmp x.stamp y.stamp ≡ o → cond (is_lt o) y x ≡ y
        → (stamp_cmp x.stamp y.stamp ≡ Less) ⊎ (x ≡ y)
    by_order Less same is = inl same
    by_order Equal same is = inr is
    by_order Greater same is = inr is

not_itself : (x y : Cell) → stamp_cmp x.stamp y.stamp ≡ Less → x.stamp ≡ y.stamp → ⊥
not_itself x y less same =
    let tie : stamp_cmp y.stamp y.stamp ≡ Equal = tied_itself stamp_cmp_total y.stamp in
    let lesser : stamp_cmp y.stamp y.stamp ≡ Less =
    ap (λ (s : Stamp). stamp_cmp s y.stamp) (sym same) ∙ less in
    let e = sym tie ∙ lesser in cc

below_less : (x y : Cell) → stamp_cmp x.stamp y.stamp ≡ Less → BelowIf (Some x) (Some y)
below_less x y less = (
  λ same. absurd (not_itself x y less same),
  ap (λ (o : Ordering). Some (cond (is_lt o) y x)) less,
)

below_chain : (x y z : Option Cell) → BelowIf x y → BelowIf y z → BelowIf x z
below_chain None y z p q = (tt, refl)
below_chain (Some x) None z p q = absurd (let e : Some x ≡ None = p.1 in cc)
below_chain (Some x) (Some y) None p q = absurd (let e : Some y ≡ None = q.1 in cc)
below_chain (Some x) (Some y) (Some z) p q =
    let low = either_above x y (some_same _ y p.1) in
    let high = either_above y z (some_same _ z q.1) in
    elim low as (λ _. BelowIf (Some x) (Some z)) [
      | inr same ↦ subst (λ (c : Cell). BelowIf (Some c) (Some z)) (sym same) q
      | inl less ↦ elim high as (λ _. BelowIf (Some x) (Some z)) [
        | inr same ↦ subst (λ (c : Cell). BelowIf (Some x) (Some c)) same p
        | inl lesser ↦
            below_less x z (stamp_cmp_total.trans x.stamp y.stamp z.stamp less lesser)
      ]
    ]

-- what is above a catalogue is above what is below that
pub below_cells : (a b c : Entries) → IsBelowCells a b → IsBelowCells b c → IsBelowCells a c
below_cells a b c (agree, is) (more, same) =
    elim agree as (λ _. IsBelowCells a c) [
      | inl one ↦ subst (λ (es : Entries). IsBelowCells es c) (sym one) (more, same)
      | inr low ↦ elim more as (λ _. IsBelowCells a c) [
        | inl one ↦ subst (IsBelowCells a) one (agree, is)
        | inr high ↦
            let at : (k : EntryKey) → BelowIf (find key_cmp k a) (find key_cmp k c) =
            λ k. below_chain (find key_cmp k a) (find key_cmp k b) (find key_cmp k c) (
              low.at k,
              sym (find-joined_maps key_cmp key_cmp_total joined_cells a b low.first
                  low.second k) ∙ ap (find key_cmp k) is,
            ) (
              high.at k,
              sym (find-joined_maps key_cmp key_cmp_total joined_cells b c high.first
                  high.second k) ∙ ap (find key_cmp k) same,
            ) in (
              inr (record { first = low.first; second = high.second; at = λ k. (at k).0 }),
              same_maps key_cmp key_cmp_total key_cmp_exact (joined a c) c
                  (joined_maps-IsMap key_cmp key_cmp_total joined_cells a c low.first
                  high.second) high.second
                  (λ k. find-joined_maps key_cmp key_cmp_total joined_cells a c low.first
                  high.second k ∙ (at k).1),
            )
      ]
    ]

-- the first is below the join of all, and so is each other
first_below : (cells : Entries) (sites : List SiteState) → InTurn cells sites
    → IsBelowCells cells (joined_all cells sites)
first_below cells [] turn = (catalogue_laws.agree_refl cells, catalogue_laws.idem cells)
first_below cells (site ∷ sites) turn =
    below_cells cells (joined cells site.cells) (joined_all (joined cells site.cells) sites)
    (catalogue_laws.above_first cells site.cells turn.0)
    (first_below (joined cells site.cells) sites turn.1)

each_below : (cells : Entries) (sites : List SiteState) → InTurn cells sites → (site : SiteState)
    → In sites site → IsBelowCells site.cells (joined_all cells sites)
each_below cells [] turn site at = absurd at
each_below cells (s ∷ sites) turn site at =
    elim at as (λ _. IsBelowCells site.cells (joined_all (joined cells s.cells) sites)) [
      | inl here ↦ subst (λ (t : SiteState). IsBelowCells t.cells
          (joined_all (joined cells s.cells) sites)) here
          (below_cells s.cells (joined cells s.cells) (joined_all (joined cells s.cells) sites)
          (catalogue_laws.above_second cells s.cells turn.0)
          (first_below (joined cells s.cells) sites turn.1))
      | inr later ↦ each_below (joined cells s.cells) sites turn.1 site later
    ]

-- the join of all is below whatever is above all
least_above : (cells : Entries) (sites : List SiteState) (u : Entries) → InTurn cells sites
    → IsBelowCells cells u → ((site : SiteState) → In sites site → IsBelowCells site.cells u)
    → IsBelowCells (joined_all cells sites) u
least_above cells [] u turn low each = low
least_above cells (site ∷ sites) u turn low each =
    least_above (joined cells site.cells) sites u turn.1
    (catalogue_laws.least cells site.cells u turn.0 low (each site (inl refl)))
    (λ s at. each s (inr at))

-- what agrees with all agrees with the join of all
agrees_all : (cells : Entries) (sites : List SiteState) (other : Entries) → InTurn cells sites
    → Agree cells other → ((site : SiteState) → In sites site → Agree site.cells other)
    → Agree (joined_all cells sites) other
agrees_all cells [] other turn first each = first
agrees_all cells (site ∷ sites) other turn first each =
    agrees_all (joined cells site.cells) sites other turn.1
    (catalogue_laws.agree_symm other (joined cells site.cells)
    (catalogue_laws.agree_joined other cells site.cells
    (catalogue_laws.agree_symm cells other first)
    (catalogue_laws.agree_symm site.cells other (each site (inl refl))) turn.0))
    (λ s at. each s (inr at))

all_from_in : {X : Type 0} (P : X → Type 0) (xs : List X) → ((x : X) → In xs x → P x) → All P xs
all_from_in P [] each = All-nil P
all_from_in P (x ∷ xs) each = All-cons P x xs (each x (inl refl))
    (all_from_in P xs (λ y at. each y (inr at)))

in_map : {X Y : Type 0} (f : X → Y) (xs : List X) (x : X) → In xs x → In (map f xs) (f x)
in_map f [] x at = absurd at
in_map f (y ∷ xs) x at = elim at as (λ _. In (map f (y ∷ xs)) (f x)) [
  | inl here ↦ inl (ap f here)
  | inr later ↦ inr (in_map f xs x later)
]

from_map : {X Y : Type 0} (f : X → Y) (xs : List X) (y : Y) → In (map f xs) y
    → (x : X) × In xs x × (f x ≡ y)
from_map f [] y at = absurd at
from_map {X} f (x ∷ xs) y at = elim at as (λ _. (z : X) × In (x ∷ xs) z × (f z ≡ y)) [
  | inl here ↦ (x, inl refl, here)
  | inr later ↦ let rest = from_map f xs y later in (rest.0, inr rest.1, rest.2)
]

abbrev cells_of : List SiteState → List Entries
cells_of sites = map (λ (s : SiteState). s.cells) sites

-- what was merged is the join of all
pub merged_joins : (checks : Checks) (documents : List (List ℕ)) (first : SiteState)
    (others : List SiteState) → AreMerged checks documents first others
    → IsJoinOf Agree joined (map (λ (s : SiteState). s.cells) (first ∷ others))
    (joined_all first.cells others)
merged_joins checks documents first others so =
    let turn = in_turn first.cells others so.agree in
    let all = cells_of (first ∷ others) in
    let each : (P : Entries → Type 0) → All P all → (s : SiteState) → In (first ∷ others) s
    → P s.cells =
    λ P holds s at. All-contains P all s.cells holds (Contains-from_in all s.cells
    (in_map (λ (t : SiteState). t.cells) (first ∷ others) s at)) in record {
      some = omega arith;
      agrees = λ y holds. agrees_all first.cells others y turn
          (each (λ m. Agree m y) holds first (inl refl))
          (λ s at. each (λ m. Agree m y) holds s (inr at));
      above = all_from_in (λ m. IsBelowCells m (joined_all first.cells others)) all
          (λ m at. above_at m (from_map (λ (t : SiteState). t.cells) (first ∷ others) m at));
      least = λ u holds. least_above first.cells others u turn
          (each (λ m. IsBelowCells m u) holds first (inl refl))
          (λ s at. each (λ m. IsBelowCells m u) holds s (inr at));
    }
  where
    above_at : (m : Entries)
        → (s : SiteState) × In (first ∷ others) s × (s.cells ≡ m)
        → IsBelowCells m (joined_all first.cells others)
    above_at m (s, at, same) = subst (λ (es : Entries).
        IsBelowCells es (joined_all first.cells others)) same
        (elim at as (λ _. IsBelowCells s.cells (joined_all first.cells others)) [
          | inl here ↦ subst (λ (t : SiteState).
              IsBelowCells t.cells (joined_all first.cells others)) here
              (first_below first.cells others (in_turn first.cells others so.agree))
          | inr later ↦
              each_below first.cells others (in_turn first.cells others so.agree) s later
        ])

-- what is written of a merge reads as the join of all
pub merge_joins : (checks : Checks) (input text : List ℕ) (sites : List SiteState)
    (after : SiteState) → ReadAsSites (documents_of input) sites → IsMerged checks input text
    → ReadsAsSite text after
    → IsJoinOf Agree joined (map (λ (s : SiteState). s.cells) sites) after.cells
merge_joins checks input text sites after reads (first, others, so, is) again =
    let same = one_reading (documents_of input) sites (first ∷ others) reads so.read in
    let left = one_site text after (merged_site first others) again is.1 in
    subst (λ (ss : List SiteState).
    IsJoinOf Agree joined (map (λ (s : SiteState). s.cells) ss) after.cells) (sym same)
    (subst (λ (s : SiteState). IsJoinOf Agree joined
    (map (λ (t : SiteState). t.cells) (first ∷ others)) s.cells) (sym left)
    (merged_joins checks (documents_of input) first others so))

-- ---- in any order

-- what belongs to a member
zip_in : {X Y : Type 0} (R : X → Y → Type 0) (xs : List X) (ys : List Y) (x : X) → AllZip R xs ys
    → In xs x → (y : Y) × In ys y × R x y
zip_in R [] ys x all at = absurd at
zip_in R (a ∷ xs) [] x all at = absurd all
zip_in {X} {Y} R (a ∷ xs) (b ∷ ys) x all at = elim at as (λ _. (y : Y) × In (b ∷ ys) y × R x y) [
  | inl here ↦ (b, inl refl, subst (λ z. R z b) here all.0)
  | inr later ↦ let rest = zip_in R xs ys x all.1 later in (rest.0, inr rest.1, rest.2)
]

-- what a member belongs to
zip_back : {X Y : Type 0} (R : X → Y → Type 0) (xs : List X) (ys : List Y) (y : Y) → AllZip R xs ys
    → In ys y → (x : X) × In xs x × R x y
zip_back R xs [] y all at = absurd at
zip_back R [] (b ∷ ys) y all at = absurd all
zip_back {X} R (a ∷ xs) (b ∷ ys) y all at = elim at as (λ _. (x : X) × In (a ∷ xs) x × R x y) [
  | inl here ↦ (a, inl refl, subst (λ z. R a z) here all.0)
  | inr later ↦ let rest = zip_back R xs ys y all.1 later in (rest.0, inr rest.1, rest.2)
]

-- where each two agree, each in turn does
pairs_in_turn : (cells : Entries) (sites : List SiteState)
    → ((s : SiteState) → In sites s → Agree cells s.cells)
    → ((s t : SiteState) → In sites s → In sites t → Agree s.cells t.cells)
    → InTurn cells sites
pairs_in_turn cells [] own pairs = tt
pairs_in_turn cells (site ∷ sites) own pairs =
    let here = own site (inl refl) in (
      here,
      pairs_in_turn (joined cells site.cells) sites
          (λ s at. catalogue_laws.agree_symm s.cells (joined cells site.cells)
          (catalogue_laws.agree_joined s.cells cells site.cells
          (catalogue_laws.agree_symm cells s.cells (own s (inr at)))
          (pairs s site (inr at) (inl refl)) here))
          (λ s t at there. pairs s t (inr at) (inr there)),
    )

-- the sites of documents that are each one of some sites
sites_for : (P : SiteState → Type 0) (documents : List (List ℕ))
    → ((d : List ℕ) → In documents d → (s : SiteState) × ReadsAsSite d s × P s)
    → (sites : List SiteState) × ReadAsSites documents sites
    × ((s : SiteState) → In sites s → P s)
sites_for P [] each = ([], tt, λ s at. absurd at)
sites_for P (d ∷ documents) each =
    let one = each d (inl refl) in
    let rest = sites_for P documents (λ e at. each e (inr at)) in (
      one.0 ∷ rest.0,
      (one.1, rest.1),
      λ s at. elim at as (λ _. P s) [
        | inl here ↦ subst P here one.2
        | inr later ↦ rest.2 s later
      ],
    )

module _ (limit : Option ℕ) (first : SiteState) (others : List SiteState) (document : List ℕ)
    (ds : List (List ℕ)) (so : AreMerged (until limit) (document ∷ ds) first others)
    (agree : AllAgree (document ∷ ds)) where
  pairs : (s t : SiteState) → In (first ∷ others) s → In (first ∷ others) t
      → Agree s.cells t.cells
  pairs s t at there =
      let d = zip_back ReadsAsSite (document ∷ ds) (first ∷ others) s so.read at in
      let e = zip_back ReadsAsSite (document ∷ ds) (first ∷ others) t so.read there in
      agree d.0 e.0 s t (Contains-from_in (document ∷ ds) d.0 d.1)
      (Contains-from_in (document ∷ ds) e.0 e.1) d.2 e.2

  -- other documents of the same sites are merged to the same
  pub others_merge : (es : List (List ℕ)) (text : List ℕ)
      → ((e : List ℕ) → In es e
      → (s : SiteState) × ReadsAsSite e s × (In (first ∷ others) s × AreInTime limit s.cells))
      → ((s : SiteState) → In others s
      → (s ≡ first) ⊎ ((e : List ℕ) × In es e × ReadsAsSite e s))
      → IsSiteText (merged_site first others) text
      → (more : List SiteState) × AreMerged (until limit) (document ∷ es) first more
      × IsSiteText (merged_site first more) text
  others_merge es text into back is =
      let found = sites_for (λ s. In (first ∷ others) s × AreInTime limit s.cells) es into in
      let more = found.0 in
      let turn = in_turn first.cells others so.agree in
      let again = pairs_in_turn first.cells more
      (λ s at. pairs first s (inl refl) (found.2 s at).0)
      (λ s t at there. pairs s t (found.2 s at).0 (found.2 t there).0) in
      let low : IsBelowCells (joined_all first.cells others) (joined_all first.cells more) =
      least_above first.cells others (joined_all first.cells more) turn
      (first_below first.cells more again)
      (λ s at. elim (back s at) as (λ _. IsBelowCells s.cells (joined_all first.cells more)) [
        | inl own ↦ subst (λ (t : SiteState). IsBelowCells t.cells (joined_all first.cells more))
            (sym own) (first_below first.cells more again)
        | inr (e, there, reads) ↦
            let it = zip_in ReadsAsSite es more e found.1 there in
            each_below first.cells more again s
            (subst (In more) (one_site e it.0 s it.2 reads) it.1)
      ]) in
      let high : IsBelowCells (joined_all first.cells more) (joined_all first.cells others) =
      least_above first.cells more (joined_all first.cells others) again
      (first_below first.cells others turn)
      (λ s at. elim (found.2 s at).0 as
      (λ _. IsBelowCells s.cells (joined_all first.cells others)) [
        | inl own ↦ subst
            (λ (t : SiteState). IsBelowCells t.cells (joined_all first.cells others)) own
            (first_below first.cells others turn)
        | inr there ↦ each_below first.cells others turn s there
      ]) in
      let same = below_both catalogue_laws (joined_all first.cells others)
      (joined_all first.cells more) low high in (
        more,
        record {
          read = (so.read.0, found.1);
          in_time = all_from_in (λ (o : SiteState). AreInTime limit o.cells) more
              (λ s at. (found.2 s at).1);
          own = λ before other after e. tt;
          agree = from_turn first.cells more again;
        },
        subst (λ (es : Entries).
            IsSiteText (let r : SiteState = record { name = first.name; cells = es } in r) text)
            same is,
      )

-- the documents after the first may come in any order, and each of them more than once
pub any_order : (a b text : List ℕ) (limit : Option ℕ) (document : List ℕ) (ds es : List (List ℕ))
    → documents_of a ≡ document ∷ ds → documents_of b ≡ document ∷ es
    → ((d : List ℕ) → Contains ds d ↔ Contains es d) → AllAgree (document ∷ ds)
    → IsMerged (until limit) a text → IsMerged (until limit) b text
any_order a b text limit document ds es are others_are members agree (first, others, so, is) =
    let merged = subst (λ (xs : List (List ℕ)). AreMerged (until limit) xs first others) are so in
    let made = others_merge limit first others document ds merged agree es text
    (λ e at.
    let in_ds = in_from_Contains ds e ((members e).1 (Contains-from_in es e at)) in
    let it = zip_in ReadsAsSite ds others e merged.read.1 in_ds in (
      it.0,
      it.2,
      (
        inr it.1,
        All-contains (λ (o : SiteState). AreInTime limit o.cells) others it.0 merged.in_time
            (Contains-from_in others it.0 it.1),
      ),
    ))
    (λ s at.
    let it = zip_back ReadsAsSite ds others s merged.read.1 at in
    inr (
      it.0,
      in_from_Contains es it.0 ((members it.0).0 (Contains-from_in ds it.0 it.1)),
      it.2,
    )) is in (
      first,
      made.0,
      subst (λ (xs : List (List ℕ)). AreMerged (until limit) xs first made.0) (sym others_are)
          made.1,
      made.2,
    )

-- without a limit the first may be among the others too
pub any_copies : (a b text : List ℕ) (document : List ℕ) (ds es : List (List ℕ))
    → documents_of a ≡ document ∷ ds → documents_of b ≡ document ∷ es
    → ((d : List ℕ) → Contains (document ∷ ds) d ↔ Contains (document ∷ es) d)
    → AllAgree (document ∷ ds) → IsMerged no_checks a text → IsMerged no_checks b text
any_copies a b text document ds es are others_are members agree (first, others, so, is) =
    let merged = subst (λ (xs : List (List ℕ)). AreMerged no_checks xs first others) are so in
    let made = others_merge None first others document ds merged agree es text
    (λ e at.
    let inside = in_from_Contains (document ∷ ds) e
    ((members e).1 (Contains-from_in (document ∷ es) e (inr at))) in
    let it = zip_in ReadsAsSite (document ∷ ds) (first ∷ others) e merged.read inside in
    (it.0, it.2, (it.1, tt)))
    (λ s at.
    let it = zip_back ReadsAsSite ds others s merged.read.1 at in
    elim (in_from_Contains (document ∷ es) it.0
    ((members it.0).0 (Contains-from_in (document ∷ ds) it.0 (inr it.1)))) as
    (λ _. (s ≡ first) ⊎ ((e : List ℕ) × In es e × ReadsAsSite e s)) [
      | inl here ↦ inl (one_site document s first
          (subst (λ (d : List ℕ). ReadsAsSite d s) (sym here) it.2) merged.read.0)
      | inr later ↦ inr (it.0, later, it.2)
    ]) is in (
      first,
      made.0,
      subst (λ (xs : List (List ℕ)). AreMerged no_checks xs first made.0) (sym others_are) made.1,
      made.2,
    )

-- ---- two

module _ (input a b : List ℕ) (are : documents_of input ≡ a ∷ b ∷ []) where
  -- what a sync prints first is what the merge of both prints
  pub two_merged : (checks : Checks) (x y : List ℕ) → AreSynced checks a b x y
      → IsMerged checks input x
  two_merged checks x y
      (first, second, reads, second_reads, in_time, second_in_time, none, agree, is, second_is) = (
        first,
        second ∷ [],
        subst (λ (ds : List (List ℕ)). AreMerged checks ds first (second ∷ [])) (sym are)
            (merged_more checks (a ∷ []) first [] b second (merged_first checks a first reads)
            second_reads second_in_time none.1 agree),
        is,
      )

  two_refused : (fault : DocFault) → RefusesSync no_checks a b fault
      → RefusesMerge no_checks input fault
  two_refused fault why = elim why as (λ _. RefusesMerge no_checks input fault) [
    | inl first ↦ ([], a, b ∷ [], are, inl (refl, first))
    | inr later ↦ elim later as (λ _. RefusesMerge no_checks input fault) [
      | inl (first, reads, second) ↦ (
        a ∷ [],
        b,
        [],
        are,
        inr (first, [], merged_first no_checks a first reads, inl second),
      )
      | inr last ↦ elim last as (λ _. RefusesMerge no_checks input fault) [
        | inl (first, second, reads, second_reads, ahead) ↦
            absurd (elim ahead as (λ _. ⊥) [ inl one ↦ one | inr two ↦ two.1 ])
        | inr (first, second, reads, second_reads, u, v, why) ↦
            elim why as (λ _. RefusesMerge no_checks input fault) [
              | inl missing ↦
                  absurd (elim missing as (λ _. ⊥) [ inl one ↦ one | inr two ↦ two.1 ])
              | inr clash ↦ (
                a ∷ [],
                b,
                [],
                are,
                inr (
                  first,
                  [],
                  merged_first no_checks a first reads,
                  inr (second, second_reads, inr (inr (tt, tt, clash.1))),
                ),
              )
            ]
      ]
    ]
  ]

  refused_two : (before : List (List ℕ)) (document : List ℕ) (after : List (List ℕ))
      (fault : DocFault) → a ∷ b ∷ [] ≡ before ++ document ∷ after
      → RefusesNext no_checks before document fault → RefusesSync no_checks a b fault
  refused_two [] document after fault is (inl (none, why)) =
      let same : a ≡ document = cc in
      inl (subst (λ (d : List ℕ). IsOfDocument 1 (RefusesSite d) fault) (sym same) why)
  refused_two [] document after fault is (inr so) = absurd so.2.read
  refused_two (c ∷ before) document after fault is (inl (none, why)) =
      absurd (let e : c ∷ before ≡ [] = none in cc)
  refused_two (c ∷ []) document after fault is (inr (first, [], so, why)) =
      let same_a : a ≡ c = cc in
      let same_b : b ≡ document = cc in
      let reads = subst (λ (d : List ℕ). ReadsAsSite d first) (sym same_a) so.read.0 in
      elim (subst (λ (d : List ℕ). RefusesOther no_checks 2 (merged_site first []) d fault)
      (sym same_b) why) as
      (λ _. RefusesSync no_checks a b fault) [
        | inl refused ↦ inr (inl (first, reads, refused))
        | inr (second, second_reads, later) ↦
            elim later as (λ _. RefusesSync no_checks a b fault) [
              | inl ahead ↦ absurd ahead
              | inr rest ↦ elim rest as (λ _. RefusesSync no_checks a b fault) [
                | inl missing ↦ absurd missing.1
                | inr clash ↦ inr (inr (inr (
                  first,
                  second,
                  reads,
                  second_reads,
                  tt,
                  tt,
                  inr ((tt, tt), clash.2),
                )))
              ]
            ]
      ]
  refused_two (c ∷ []) document after fault is (inr (first, o ∷ os, so, why)) = absurd so.read.1
  refused_two (c ∷ d ∷ before) document after fault is (inr so) =
      let rest : [] ≡ before ++ document ∷ after = cc in
      absurd (none_in before document after rest)

  -- it is refused just where the merge is
  pub two_refusals : (fault : DocFault)
      → RefusesMerge no_checks input fault ↔ RefusesSync no_checks a b fault
  two_refusals fault = (
    λ (before, document, after, is, why).
        refused_two before document after fault (sym are ∙ is) why,
    two_refused fault,
  )

-- ---- in parts

module _ (messages : List ℕ → Bool) where
  -- the part of a site
  abbrev pub part : SiteState → SiteState
  part = part_of_site messages

  part_in_time : (limit : Option ℕ) (cells : Entries) → AreInTime limit cells
      → AreInTime limit (part_of messages cells)
  part_in_time None cells all = tt
  part_in_time (Some limit) [] all = all
  part_in_time (Some limit) (e ∷ cells) all =
      let rest = part_in_time (Some limit) cells (All-tail (IsInTime limit) e cells all) in
      elim (messages e.0.0) as (λ t. All (IsInTime limit)
      (cond t (e ∷ part_of messages cells) (part_of messages cells))) [
        | true ↦ All-cons (IsInTime limit) e (part_of messages cells)
            (All-head (IsInTime limit) e cells all) rest
        | false ↦ rest
      ]

  part_all_in_time : (limit : Option ℕ) (sites : List SiteState)
      → All (λ (o : SiteState). AreInTime limit o.cells) sites
      → All (λ (o : SiteState). AreInTime limit o.cells) (map part sites)
  part_all_in_time limit [] all = All-nil (λ (o : SiteState). AreInTime limit o.cells)
  part_all_in_time limit (s ∷ sites) all =
      All-cons (λ (o : SiteState). AreInTime limit o.cells) (part s) (map part sites)
      (part_in_time limit s.cells
      (All-head (λ (o : SiteState). AreInTime limit o.cells) s sites all))
      (part_all_in_time limit sites
      (All-tail (λ (o : SiteState). AreInTime limit o.cells) s sites all))

  -- the part of all, joined, is that of the parts
  part_joined : (cells : Entries) (sites : List SiteState) → IsMap key_cmp cells
      → ((s : SiteState) → In sites s → IsMap key_cmp s.cells)
      → part_of messages (joined_all cells sites)
      ≡ joined_all (part_of messages cells) (map part sites)
  part_joined cells [] own each = refl
  part_joined cells (s ∷ sites) own each =
      let ascends = each s (inl refl) in
      part_joined (joined cells s.cells) sites
      (joined_maps-IsMap key_cmp key_cmp_total joined_cells cells s.cells own ascends)
      (λ t at. each t (inr at))
      ∙ ap (λ (es : Entries). joined_all es (map part sites))
      (parts_join messages cells s.cells own ascends)

  part_turn : (cells : Entries) (sites : List SiteState) → IsMap key_cmp cells
      → ((s : SiteState) → In sites s → IsMap key_cmp s.cells) → InTurn cells sites
      → InTurn (part_of messages cells) (map part sites)
  part_turn cells [] own each turn = tt
  part_turn cells (s ∷ sites) own each turn =
      let ascends = each s (inl refl) in (
        parts_agree messages cells s.cells turn.0,
        subst (λ (es : Entries). InTurn es (map part sites))
            (parts_join messages cells s.cells own ascends)
            (part_turn (joined cells s.cells) sites
            (joined_maps-IsMap key_cmp key_cmp_total joined_cells cells s.cells own ascends)
            (λ t at. each t (inr at)) turn.1),
      )

  -- the merge of parts is the part of the merge
  pub part_merged : (whole parts text doc : List ℕ) (limit : Option ℕ) (sites : List SiteState)
      (after : SiteState) → ReadAsSites (documents_of whole) sites
      → ReadAsSites (documents_of parts) (map part sites) → IsMerged (until limit) whole text
      → ReadsAsSite text after → IsSiteText (part after) doc
      → IsMerged (until limit) parts doc
  part_merged whole parts text doc limit sites after reads part_reads (first, others, so, is)
      after_reads part_is =
      let same : sites ≡ first ∷ others =
      one_reading (documents_of whole) sites (first ∷ others) reads so.read in
      let left : after ≡ merged_site first others =
      one_site text after (merged_site first others) after_reads is.1 in
      let read = subst (λ (ss : List SiteState). ReadAsSites (documents_of parts) (map part ss))
      same part_reads in
      let ascends : (s : SiteState) → In (first ∷ others) s → IsMap key_cmp s.cells =
      λ s at. let d = zip_back ReadsAsSite (documents_of whole) (first ∷ others) s so.read at in
      site_ascends d.0 s d.2 in
      let own = ascends first (inl refl) in
      let each = λ (s : SiteState) (at : In others s). ascends s (inr at) in (
        part first,
        map part others,
        record {
          read = read;
          in_time = part_all_in_time limit others so.in_time;
          own = λ before other after e. tt;
          agree = from_turn (part_of messages first.cells) (map part others)
              (part_turn first.cells others own each (in_turn first.cells others so.agree));
        },
        subst (λ (s : SiteState). IsSiteText s doc)
            (ap part left
            ∙ (λ i. let s : SiteState = record {
              name = first.name;
              cells = part_joined first.cells others own each i;
            } in s)) part_is,
      )
