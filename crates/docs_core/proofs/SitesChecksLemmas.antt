-- What the checks of an exchange let in, and what they refuse.
--
-- What is taken, synced or merged under checks is the same without them, with a premise more: both
-- sides of that law take the answer apart and put it together again. For limits: a cell of a join
-- is from one of the two that were joined (`either_cell`), so a cell after a take was there before
-- or is from the delta, whose times are in the limit; a merge is such joins one after another.
use Rattle.std.proofs.Common.{◌≡◌, ◌∙◌, ◌≤◌, ℕ, Bool, List, [], ◌∷◌, ◌++◌, true}
use Rattle.std.proofs.Common.{false, cond, ap, append_assoc, inl, inr}
use Rattle.std.proofs.Common.{refl, subst, sym}
use Rattle.std.specs.Prelude.{◌≢◌, ◌⊎◌, ◌↔◌, All, None, Option, Some}
use Rattle.std.specs.FinMap.Entries.{find}
use Rattle.std.specs.Ordering.{eq_by_cmp, is_lt}
use Rattle.std.proofs.lemmas.List.Elements.{All-contains, All-head, All-nil, All-push, All-tail}
use Rattle.cell_core.specs.Cell.{joined_cells}
use Rattle.cell_core.specs.inner.Cell.{cell_laws}
use Rattle.cell_core.specs.Keyed.{joined_if_both}
use Rattle.cell_core.specs.inner.KeyedLaws.{find-joined_maps}
use Rattle.cell_core.specs.Stamp.{stamp_cmp}
use Rattle.cell_core.specs.declared.cell.Cell.{Cell}
use Rattle.cell_core.specs.Entry.{EntryKey}
use Rattle.catalogue.specs.Entries.{Agree, Entries, Entry, joined}
use Rattle.catalogue.specs.inner.Entries.{catalogue_laws}
use Rattle.cell_core.specs.Entry.{key_cmp}
use Rattle.cell_core.specs.inner.Entry.{key_cmp_total}
use Rattle.cata_core.specs.Site.{SiteState}
use Rattle.cata_core.specs.declared.delta.Delta.{Delta}
use Rattle.catalogue.proofs.Basics.{append_nil, some_same}
use Rattle.catalogue.proofs.CatalogueBestLemmas.{same_key}
use Rattle.catalogue.proofs.CatalogueMembersLemmas.{Contains-from_in, In}
use Rattle.site_docs.specs.Reading.{ReadsAsDelta, ReadsAsSite}
use Rattle.docs_core.specs.Calls.{AreSynced, IsTaken}
use Rattle.site_docs.specs.Checks.{LackNoOwn, LacksNoOwn, no_checks}
use Rattle.docs_core.specs.Lines.{documents_of}
use Rattle.docs_core.specs.Merging.{IsMerged, ReadAsSites, joined_all, merged_site}
use Rattle.site_docs.specs.declared.checks.Checks.{Checks}
use Rattle.site_docs.specs.declared.checks.OwnEdits.{OwnEdits}
use Rattle.site_docs.specs.declared.checks.OwnEdits.TheVariants.{Checked, Unchecked}
use Rattle.site_docs.specs.RowsInTime.{AreInTime, IsInTime}
use Rattle.site_docs.proofs.ReadingOneDocument.{one_delta, one_site}

-- ---- an edit of the site among the cells

-- no stamp of the cells so far names the site
pub record IsForeign (name : List ℕ) (cells left : Entries) : Type 0 where
  pub before : Entries
  pub cells_are : cells ≡ before ++ left
  pub foreign : All (λ (e : Entry). e.1.stamp.site ≢ name) before

-- no cell was looked at yet
pub foreign_none : (name : List ℕ) (cells left : Entries) → left ≡ cells
    → IsForeign name cells left
foreign_none name cells left is = record {
  before = [];
  cells_are = sym is;
  foreign = All-nil
      (λ (e : Entry). e.1.stamp.site ≢ name);
}

-- where none is left none names it
pub foreign_all : (name : List ℕ) (cells left : Entries) → IsForeign name cells left → left ≡ []
    → All (λ (e : Entry). e.1.stamp.site ≢ name) cells
foreign_all name cells left so none =
    subst (All (λ (e : Entry). e.1.stamp.site ≢ name))
    (sym (so.cells_are ∙ ap (λ (es : Entries). so.before ++ es) none ∙ append_nil so.before))
    so.foreign

-- one cell more names another
pub foreign_next : (name : List ℕ) (cells left rest : Entries) (e : Entry)
    → IsForeign name cells left → left ≡ e ∷ rest → e.1.stamp.site ≢ name
    → IsForeign name cells rest
foreign_next name cells left rest e so is other = record {
  before = so.before ++ e ∷ [];
  cells_are =
      so.cells_are ∙ ap (λ (es : Entries). so.before ++ es) is
      ∙ sym (append_assoc so.before (e ∷ []) rest);
  foreign = All-push (λ (d : Entry). d.1.stamp.site ≢ name) so.before e so.foreign other;
}

-- cells that name it nowhere bring no edit of its own
pub foreign_lacks_none : (own : OwnEdits) (site : SiteState) (name : List ℕ) (cells : Entries)
    → site.name ≡ name → All (λ (e : Entry). e.1.stamp.site ≢ name) cells
    → LacksNoOwn own site cells
foreign_lacks_none Unchecked site name cells same foreign = tt
foreign_lacks_none Checked site name cells same foreign =
    λ i x inside lacked. foreign i x inside (lacked.own ∙ same)

-- ---- with checks and without

-- what is taken under the checks is what is taken without them, of a delta that passes
pub taken_same : (checks : Checks) (a b text : List ℕ) → IsTaken checks a b text
    ↔ (IsTaken no_checks a b text × ((site : SiteState) (delta : Delta) → ReadsAsSite a site
    → ReadsAsDelta b delta → AreInTime checks.not_after delta.cells
    × LacksNoOwn checks.own_edits site delta.cells))
taken_same checks a b text = (
  λ (site, delta, reads, in_time, mine, none, agree, is). (
    (site, delta, reads, (in_time.0, tt), mine, tt, agree, is),
    λ own other own_reads other_reads.
        let same = one_site a site own reads own_reads in
        let alike = one_delta b delta other in_time.0 other_reads in (
          subst (λ (d : Delta). AreInTime checks.not_after d.cells) alike in_time.1,
          subst (λ (d : Delta). LacksNoOwn checks.own_edits own d.cells) alike
              (subst (λ (s : SiteState). LacksNoOwn checks.own_edits s delta.cells) same none),
        ),
  ),
  λ ((site, delta, reads, in_time, mine, none, agree, is), all).
      let passes = all site delta reads in_time.0 in (
        site,
        delta,
        reads,
        (in_time.0, passes.0),
        mine,
        passes.1,
        agree,
        is,
      ),
)

-- the same of a sync
pub synced_same : (checks : Checks) (a b x y : List ℕ) → AreSynced checks a b x y
    ↔ (AreSynced no_checks a b x y × ((first second : SiteState) → ReadsAsSite a first
    → ReadsAsSite b second → AreInTime checks.not_after first.cells
    × AreInTime checks.not_after second.cells × LackNoOwn checks.own_edits first second))
synced_same checks a b x y = (
  λ (first, second, reads, second_reads, in_time, second_in_time, none, agree, is, second_is). (
    (first, second, reads, second_reads, tt, tt, (tt, tt), agree, is, second_is),
    λ one other one_reads other_reads.
        let same = one_site a first one reads one_reads in
        let alike = one_site b second other second_reads other_reads in (
          subst (λ (s : SiteState). AreInTime checks.not_after s.cells) same in_time,
          subst (λ (s : SiteState). AreInTime checks.not_after s.cells) alike second_in_time,
          subst (λ (s : SiteState). LackNoOwn checks.own_edits one s) alike
              (subst (λ (s : SiteState). LackNoOwn checks.own_edits s second) same none),
        ),
  ),
  λ (
    (first, second, reads, second_reads, in_time, second_in_time, none, agree, is, second_is),
    all,
  ).
      let passes = all first second reads second_reads in (
        first,
        second,
        reads,
        second_reads,
        passes.0,
        passes.1,
        passes.2,
        agree,
        is,
        second_is,
      ),
)

-- what is merged under the checks is merged without them
pub merged_without : (checks : Checks) (input text : List ℕ) → IsMerged checks input text
    → IsMerged no_checks input text
merged_without checks input text (first, others, so, is) = (
  first,
  others,
  record {
    read = so.read;
    in_time = λ i x inside. tt;
    own = λ before other after e. tt;
    agree = so.agree;
  },
  is,
)

-- ---- what comes in

either_cell : (x y : Option Cell) (c : Cell) → joined_if_both joined_cells x y ≡ Some c
    → (x ≡ Some c) ⊎ (y ≡ Some c)
either_cell None y c is = inr is
either_cell (Some x) None c is = inl is
either_cell (Some x) (Some y) c is =
    elim (is_lt (stamp_cmp x.stamp y.stamp)) as (λ (t : Bool). Some (cond t y x) ≡ Some c
    → (Some x ≡ Some c) ⊎ (Some y ≡ Some c)) [
      | true ↦ λ later. inr later
      | false ↦ λ kept. inl kept
    ] is

same_if_both : (x : Option Cell) → x ≡ joined_if_both joined_cells x x
same_if_both None = refl
same_if_both (Some x) = ap Some (sym (cell_laws.idem x))

joined_at : (a b : Entries) (key : EntryKey) → Agree a b
    → find key_cmp key (joined a b) ≡ joined_if_both joined_cells (find key_cmp key a)
    (find key_cmp key b)
joined_at a b key agree = elim agree as (λ _. find key_cmp key
    (joined a b) ≡ joined_if_both joined_cells (find key_cmp key a) (find key_cmp key b)) [
      | inl same ↦ subst (λ (es : Entries). find key_cmp key
          (joined a es)
          ≡ joined_if_both joined_cells (find key_cmp key a) (find key_cmp key es)) same
          (ap (find key_cmp key) (catalogue_laws.idem a) ∙ same_if_both (find key_cmp key a))
      | inr maps ↦ find-joined_maps key_cmp key_cmp_total joined_cells a b maps.first maps.second
          key
    ]

found_in : (es : Entries) (key : EntryKey) (c : Cell) → find key_cmp key es ≡ Some c
    → In es (key, c)
found_in [] key c is = absurd (cc)
found_in (e ∷ es) key c is =
    elim (eq_by_cmp key_cmp key e.0) as (λ t. eq_by_cmp key_cmp key e.0 ≡ t
    → cond t (Some e.1) (find key_cmp key es) ≡ Some c → In (e ∷ es) (key, c)) [
      | true ↦ λ t here. inl (λ i. (sym (same_key key e.0 t) i, some_same e.1 c here i))
      | false ↦ λ t later. inr (found_in es key c later)
    ] refl is

in_time_at : (es : Entries) (limit : ℕ) (key : EntryKey) (c : Cell) → All (IsInTime limit) es
    → find key_cmp key es ≡ Some c → c.stamp.time ≤ limit
in_time_at es limit key c all is = All-contains (IsInTime limit) es (key, c) all
    (Contains-from_in es (key, c) (found_in es key c is))

-- a cell of a join was in the first, or its time is in the limit of the second
from_either : (own other : Entries) (limit : ℕ) (key : EntryKey) (c : Cell) → Agree own other
    → All (IsInTime limit) other → find key_cmp key (joined own other) ≡ Some c
    → (find key_cmp key own ≡ Some c) ⊎ (c.stamp.time ≤ limit)
from_either own other limit key c agree all is = elim (either_cell (find key_cmp key own)
    (find key_cmp key other) c (sym (joined_at own other key agree) ∙ is)) [
      | inl held ↦ inl held
      | inr came ↦ inr (in_time_at other limit key c all came)
    ]

-- a cell after a take was there before, or its time is in the limit
pub taken_in_time : (own : OwnEdits) (a b text : List ℕ) (limit : ℕ) (site after : SiteState)
    (key : EntryKey) (c : Cell) → ReadsAsSite a site → ReadsAsSite text after
    → IsTaken (record { not_after = Some limit; own_edits = own }) a b text
    → find key_cmp key after.cells ≡ Some c → (find key_cmp key site.cells ≡ Some c)
    ⊎ (c.stamp.time ≤ limit)
taken_in_time own a b text limit site after key c reads after_reads
    (held, delta, held_reads, in_time, mine, none, agree, is) found =
    let left : SiteState = record { name = held.name; cells = joined held.cells delta.cells } in
    let same : after ≡ left = one_site text after left after_reads is.1 in
    subst (λ (s : SiteState). (find key_cmp key s.cells ≡ Some c)
    ⊎ (c.stamp.time ≤ limit)) (one_site a held site held_reads reads)
    (from_either held.cells delta.cells limit key c agree in_time.1 (ap (λ
    (s : SiteState). find key_cmp key s.cells) (sym same) ∙ found))

-- a cell after several joins was in the first, or its time is in the limit of the others
joined_in_time : (limit : ℕ) (key : EntryKey) (c : Cell) (others : List SiteState) (cells : Entries)
    → ((before : List SiteState) (other : SiteState) (after : List SiteState)
    → others ≡ before ++ other ∷ after → Agree (joined_all cells before) other.cells)
    → All (λ (other : SiteState). AreInTime (Some limit) other.cells) others
    → find key_cmp key (joined_all cells others) ≡ Some c
    → (find key_cmp key cells ≡ Some c) ⊎ (c.stamp.time ≤ limit)
joined_in_time limit key c [] cells agree all is = inl is
joined_in_time limit key c (site ∷ sites) cells agree all is =
    elim (joined_in_time limit key c sites (joined cells site.cells)
    (λ before other after e. agree (site ∷ before) other after
    (ap (λ (others : List SiteState). site ∷ others) e))
    (All-tail (λ (other : SiteState). AreInTime (Some limit) other.cells) site sites all) is) as
    (λ _. (find key_cmp key cells ≡ Some c) ⊎ (c.stamp.time ≤ limit)) [
      | inl held ↦ from_either cells site.cells limit key c (agree [] site sites refl)
          (All-head (λ (other : SiteState). AreInTime (Some limit) other.cells) site sites all) held
      | inr came ↦ inr came
    ]

-- a cell after a merge was in the first site, or its time is in the limit
pub merged_in_time : (own : OwnEdits) (input a text : List ℕ) (rest : List (List ℕ)) (limit : ℕ)
    (site after : SiteState) (key : EntryKey) (c : Cell) → documents_of input ≡ a ∷ rest
    → ReadsAsSite a site → ReadsAsSite text after
    → IsMerged (record { not_after = Some limit; own_edits = own }) input text
    → find key_cmp key after.cells ≡ Some c
    → (find key_cmp key site.cells ≡ Some c) ⊎ (c.stamp.time ≤ limit)
merged_in_time own input a text rest limit site after key c starts reads after_reads
    (first, others, so, is) found =
    let same : after ≡ merged_site first others =
    one_site text after (merged_site first others) after_reads is.1 in
    let read =
    subst (λ (ds : List (List ℕ)). ReadAsSites ds (first ∷ others)) starts so.read in
    subst (λ (s : SiteState). (find key_cmp key s.cells ≡ Some c) ⊎ (c.stamp.time ≤ limit))
    (one_site a first site read.0 reads)
    (joined_in_time limit key c others first.cells so.agree so.in_time
    (ap (λ (s : SiteState). find key_cmp key s.cells) (sym same) ∙ found))

both_in_time : (first second : Entries) (limit : ℕ) (key : EntryKey) (c : Cell)
    → Agree first second → All (IsInTime limit) first → All (IsInTime limit) second
    → find key_cmp key (joined first second) ≡ Some c → c.stamp.time ≤ limit
both_in_time first second limit key c agree all both is = elim
    (from_either first second limit key c agree both is) as (λ _. c.stamp.time ≤ limit) [
      | inl held ↦ in_time_at first limit key c all held
      | inr came ↦ came
    ]

-- the time of each cell after a sync is in the limit
pub synced_in_time : (own : OwnEdits) (a b x y : List ℕ) (limit : ℕ) (after : SiteState)
    (key : EntryKey) (c : Cell) → ReadsAsSite x after ⊎ ReadsAsSite y after
    → AreSynced (record { not_after = Some limit; own_edits = own }) a b x y
    → find key_cmp key after.cells ≡ Some c
    → c.stamp.time ≤ limit
synced_in_time own a b x y limit after key c reads (
  first,
  second,
  first_reads,
  second_reads,
  in_time,
  second_in_time,
  none,
  agree,
  is,
  second_is,
) found =
    let left : SiteState = record { name = first.name; cells = joined first.cells second.cells } in
    let other : SiteState = record { name = second.name; cells = joined first.cells second.cells }
    in
    let cells : joined first.cells second.cells ≡ after.cells = elim reads as
    (λ _. joined first.cells second.cells ≡ after.cells) [
      | inl one ↦ ap (λ (s : SiteState). s.cells) (one_site x left after is.1 one)
      | inr two ↦ ap (λ (s : SiteState). s.cells) (one_site y other after second_is.1 two)
    ] in
    both_in_time first.cells second.cells limit key c agree in_time second_in_time (ap
    (find key_cmp key) cells ∙ found)
