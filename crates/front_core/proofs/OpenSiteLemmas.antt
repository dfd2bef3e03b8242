-- What is read, copied or partly joined, of the site that it is of.
--
-- A site that is partly joined has at each key the old cell or a later one. So it lacks none of its
-- own edits that it did not lack before, it agrees with the cells still, and its join with them is
-- the same: a merge or a take that is repeated gives what it would have given.
use Rattle.std.proofs.Common.{◌≡◌, ℕ, inl, inr, refl, subst, sym, ◌∙◌, ap₂, List, ap}
use Rattle.std.proofs.Common.{Some, [], ◌∷◌, true, false}
use Rattle.std.specs.Prelude.{Err, MatchResult, None, Ok, Result, cond}
use Rattle.std.specs.FinMap.Entries.{find}
use Rattle.std.specs.Ordering.{eq_by_cmp}
use Rattle.std.proofs.lemmas.List.Elements.{All-weaker}
use Rattle.cell_core.specs.Entry.{EntryKey, key_cmp}
use Rattle.cell_core.specs.declared.stamp.Stamp.{Stamp}
use Rattle.cata_core.specs.Site.{SiteState}
use Rattle.catalogue.specs.Entries.{Entries, Entry, IsBelowCells}
use Rattle.catalogue.specs.inner.Entries.{catalogue_laws}
use Rattle.catalogue.proofs.CatalogueBestLemmas.{own_key, same_key}
use Rattle.cata_core.specs.Delta.{HasAtLeast}
use Rattle.cata_core.specs.OwnEdits.{IsLackedEdit, LacksNoEdit}
use Rattle.cata_core.proofs.SummaryLemmas.{has_grown}
use Rattle.cata_core.specs.declared.delta.Delta.{Delta}
use Rattle.catalogue.specs.declared.cata_fault.CataFault.{CataFault}
use Rattle.catalogue.specs.declared.cata_fault.CataFault.TheVariants as cata
use Rattle.json_docs.specs.FaultChecks.{OrMemory}
use Rattle.row_docs.specs.Reading.{no_memory}
use Rattle.site_docs.specs.Checks.{LacksNoOwn, ReadsInTime}
use Rattle.site_docs.specs.Reading.{ReadsAsSite}
use Rattle.site_docs.specs.declared.checks.Checks.{Checks}
use Rattle.site_docs.specs.declared.checks.OwnEdits.{OwnEdits}
use Rattle.site_docs.specs.declared.checks.OwnEdits.TheVariants.{Checked, Unchecked}
use Rattle.site_docs.proofs.ReadingOneDocument.{one_delta}
use Rattle.map_docs.specs.MapsLabels.{AreLangMaps}
use Rattle.map_docs.specs.Maps.{Labelled}
use Rattle.docs_core.specs.Updating.{SpendsUpdate}
use Rattle.front_core.specs.Ask.{RefusesDocument}
use Rattle.front_core.specs.Change.{IsDelete, IsPut, RefusesChange}
use Rattle.front_core.specs.OpenSite.{IsJoined, IsJoinedOwn, IsMerged, IsPartlyJoined}
use Rattle.front_core.specs.OpenSite.{IsPartlyJoinedOwn, IsTaken, LeavesMerge, LeavesTake}
use Rattle.front_core.specs.OpenSite.{OrNoMemory, RefusesDelete, RefusesPutInto, RefusesTake}
use Rattle.front_core.specs.OpenSite.{RefusesTakeDelta, RefusesUpdates}
use Rattle.front_core.specs.Preferences.{Text}
use Rattle.front_core.specs.Fault.{site_fault}
use Rattle.front_core.specs.declared.change.Change.{Change}
use Rattle.front_core.specs.declared.fault.FrontFault.{FrontFault}
use Rattle.front_core.specs.declared.fault.FrontFault.TheVariants.{NoMemory}

-- A document that is read is opened, or memory ended.
pub opened : (text : Text) (site : SiteState) (made : Result SiteState FrontFault)
    → ReadsAsSite text site → MatchResult made (λ s. s ≡ site) (λ fault. fault ≡ NoMemory)
    → MatchResult made (ReadsAsSite text) (RefusesDocument text)
opened text site (Ok made) reads is =
    subst (λ (s : SiteState). ReadsAsSite text s) (sym is) reads
opened text site (Err fault) reads is = (no_memory, inl refl, is)

-- A put whose change is refused is refused.
pub put_refused : (now : ℕ) (id lang text : Text) (site : SiteState) (change : Change)
    (fault : FrontFault) → IsPut id lang text change → OrNoMemory (RefusesChange site now) fault
    → OrNoMemory (RefusesPutInto now id lang text site) fault
put_refused now id lang text site change fault asked (inl refused) =
    inl (inr ((asked.0.0, change.lang, asked.0.2), asked.1, refused))
put_refused now id lang text site change fault asked (inr none) = inr none

-- A deletion whose change is refused is refused.
pub delete_refused : (now : ℕ) (id lang : Text) (site : SiteState) (change : Change)
    (fault : FrontFault) → IsDelete id lang change → OrNoMemory (RefusesChange site now) fault
    → OrNoMemory (RefusesDelete now id lang site) fault
delete_refused now id lang site change fault asked (inl refused) =
    inl (inr ((asked.0.0, change.lang, asked.0.2), refused))
delete_refused now id lang site change fault asked (inr none) = inr none

-- a site that is partly joined agrees with the cells, and has the same join with them
rejoined : (cells : Entries) (old new made : SiteState) → IsPartlyJoined cells old new
    → IsJoined cells old made → IsJoined cells new made
rejoined cells old new made part is =
    let site : Text → Entries → SiteState = λ n c. record { name = n; cells = c } in
    let join = catalogue_laws.between_joins old.cells new.cells cells part.agree part.between in (
      catalogue_laws.between_agrees old.cells new.cells cells part.agree part.between,
      is.1 ∙ ap₂ site (sym part.name) (sym join),
    )

-- A take whose delta is refused is refused.
pub take_refused : (bytes : Text) (checks : Checks) (site : SiteState) (delta : Delta)
    (fault : FrontFault) → ReadsInTime checks.not_after bytes delta
    → OrNoMemory (RefusesTakeDelta checks.own_edits delta site) fault
    → OrNoMemory (RefusesTake bytes checks site) fault
take_refused bytes checks site delta fault reads (inl refused) =
    inl (inr (delta, reads, refused))
take_refused bytes checks site delta fault reads (inr none) = inr none

-- what the cells have at a key, or a later one, they have when they have grown
grown : (old new : Entries) (e : Entry) → IsBelowCells old new
    → HasAtLeast (find key_cmp e.0 old) e.1.stamp → HasAtLeast (find key_cmp e.0 new) e.1.stamp
grown old new e below has =
    has_grown old new ((e.0, e.1.stamp) ∷ []) told below e.0 e.1.stamp
    (ap (λ b. cond b (Some e.1.stamp) None) (own_key e.0))
  where
    told : (k : EntryKey) (s : Stamp) → find key_cmp k ((e.0, e.1.stamp) ∷ []) ≡ Some s
        → HasAtLeast (find key_cmp k old) s
    told k s =
        elim (eq_by_cmp key_cmp k e.0) as
        (λ b. eq_by_cmp key_cmp k e.0 ≡ b → cond b (Some e.1.stamp) None ≡ Some s
        → HasAtLeast (find key_cmp k old) s) [
          | true ↦ λ same is.
              let stamp : e.1.stamp ≡ s = cc in
              subst (λ (t : Stamp). HasAtLeast (find key_cmp k old) t) stamp
              (subst (λ (q : EntryKey). HasAtLeast (find key_cmp q old) e.1.stamp)
              (sym (same_key k e.0 same)) has)
          | false ↦ λ _ is. absurd (cc)
        ] refl

-- of the rows none is lacked when the cells have grown
none_lacked : (name : List ℕ) (old new rows : Entries) → IsBelowCells old new
    → LacksNoEdit name old rows → LacksNoEdit name new rows
none_lacked name old new rows below =
    All-weaker (λ (e : Entry). ¬ (IsLackedEdit name old e))
    (λ (e : Entry). ¬ (IsLackedEdit name new e))
    (λ e none lacked. none (record {
      own = lacked.own;
      lacked = λ has. lacked.lacked (grown old new e below has);
    })) rows

-- a site that is partly joined lacks none of its own edits that it did not lack before
lacks_none_still : (own : OwnEdits) (cells : Entries) (old new : SiteState)
    → IsPartlyJoined cells old new → LacksNoOwn own old cells → LacksNoOwn own new cells
lacks_none_still Unchecked cells old new part none = none
lacks_none_still Checked cells old new part none =
    let below : IsBelowCells old.cells new.cells =
    catalogue_laws.between_above old.cells new.cells cells part.agree part.between in
    subst (λ (name : List ℕ). LacksNoEdit name new.cells cells) (sym part.name)
    (none_lacked old.name old.cells new.cells cells below none)

-- so its join after the test for own edits is the same
rejoined_own : (own : OwnEdits) (cells : Entries) (old new made : SiteState)
    → IsPartlyJoinedOwn own cells old new → IsJoinedOwn own cells old made
    → IsJoinedOwn own cells new made
rejoined_own own cells old new made part is =
    (lacks_none_still own cells old new part.1 part.0, rejoined cells old new made part.1 is.1)

-- A merge that is repeated gives what it would have given.
pub merged_again : (other : SiteState) (checks : Checks) (old new made : SiteState)
    → LeavesMerge other checks old new → IsMerged other checks old made
    → IsMerged other checks new made
merged_again other checks old new made (inl same) is =
    subst (λ (s : SiteState). IsMerged other checks s made) (sym same) is
merged_again other checks old new made (inr part) is =
    (is.0, rejoined_own checks.own_edits other.cells old new made part.1 is.1)

-- So does a take.
pub taken_again : (bytes : Text) (checks : Checks) (old new made : SiteState)
    → LeavesTake bytes checks old new → IsTaken bytes checks old made
    → IsTaken bytes checks new made
taken_again bytes checks old new made (inl same) is =
    subst (λ (s : SiteState). IsTaken bytes checks s made) (sym same) is
taken_again bytes checks old new made (inr left) is =
    let one = one_delta bytes left.0 is.0 left.1.0 is.1.0 in
    let part =
    subst (λ (d : Delta). IsPartlyJoinedOwn checks.own_edits d.cells old new) one left.3 in (
      is.0,
      is.1,
      (
        part.1.name ∙ is.2.0,
        rejoined_own checks.own_edits is.0.cells old new made part is.2.1,
      ),
    )

-- the clock is spent by the changes from the old labels to the new ones
abbrev pub SpendsUpdateOf : ℕ → SiteState → List Labelled → List Labelled → FrontFault → Type 0
SpendsUpdateOf now site before after fault =
    (fault ≡ site_fault cata.ClockSpent) × SpendsUpdate now site.name before after site.cells

-- Changes that are refused in an equal site are refused in the site.
pub changes_refused : (now : ℕ) (site equal : SiteState) (before after : List Labelled)
    (refused : CataFault) (fault : FrontFault) → equal ≡ site
    → OrMemory cata.NoMemory
    (λ f. (f ≡ cata.ClockSpent) × SpendsUpdate now equal.name before after equal.cells)
    refused
    → fault ≡ site_fault refused → OrNoMemory (SpendsUpdateOf now site before after) fault
changes_refused now site equal before after refused fault same (inl none) is =
    inr (is ∙ ap site_fault none)
changes_refused now site equal before after refused fault same (inr spent) is =
    inl (
      is ∙ ap site_fault spent.0,
      subst (λ (s : SiteState). SpendsUpdate now s.name before after s.cells) same spent.1,
    )

-- An update whose changes are refused is refused.
pub update_refused : (now : ℕ) (old new : Text) (site : SiteState) (before after : List Labelled)
    (fault : FrontFault) → AreLangMaps old before → AreLangMaps new after
    → OrNoMemory (SpendsUpdateOf now site before after) fault
    → OrNoMemory (RefusesUpdates now old new site) fault
update_refused now old new site before after fault olds news (inl spent) =
    inl (inr (inr (before, after, olds, news, inr (spent.1, spent.0))))
update_refused now old new site before after fault olds news (inr none) = inr none
