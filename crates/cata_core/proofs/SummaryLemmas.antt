-- Summaries: what they have at a key, and that they ascend.
use Rattle.std.proofs.Common.{◌≡◌, ◌≢◌, true, false, cond, List, Option, Some, None, inl, inr, refl}
use Rattle.std.proofs.Common.{sym, ap, ◌∙◌, subst}
use Rattle.std.specs.declared.cmp.Ordering.TheVariants.{Less}
use Rattle.std.specs.Ordering.{is_lt}
use Rattle.std.specs.Option.{option_map}
use Rattle.std.specs.FinMap.Entries.{find}
use Rattle.cell_core.specs.declared.cell.Cell.{Cell}
use Rattle.cell_core.specs.declared.stamp.Stamp.{Stamp}
use Rattle.cell_core.specs.Stamp.{stamp_cmp}
use Rattle.cell_core.specs.Cell.{joined_stamps, joined_cells}
use Rattle.cell_core.specs.Keyed.{IsMap, joined_maps, joined_if_both}
use Rattle.cell_core.specs.inner.KeyedLaws.{joined_maps-IsMap, find-joined_maps, same_maps}
use Rattle.cell_core.specs.Entry.{EntryKey, key_cmp}
use Rattle.cell_core.specs.inner.Entry.{key_cmp_total, key_cmp_exact}
use Rattle.catalogue.specs.Entries.{Entry, Entries}
use Rattle.catalogue.specs.Entries.{joined, IsBelowCells}
use Rattle.catalogue.specs.Edits.{catalogue_of}
use Rattle.cata_core.specs.Delta.{Stamps, summary_of, HasAll, HasAtLeast, IsBelowStamps}
use Rattle.catalogue.proofs.CatalogueLatestLemmas.{always}
use Rattle.catalogue.proofs.Basics.{not_less_of}
use Rattle.catalogue.proofs.EditStampOrderLemmas.{not_less_self, not_less_back, not_less_trans}
use Rattle.catalogue.proofs.EditStampOrderLemmas.{same_stamp}
use Rattle.catalogue.proofs.CatalogueMembersLemmas.{In, Contains-from_in}
use Rattle.catalogue.proofs.CatalogueBestLemmas.{best_in}
use Rattle.catalogue.proofs.ChangesMappedLemmas.{mapped-IsMap, find-mapped}
use Rattle.catalogue.proofs.CatalogueLemmas.{catalogue_of-IsMap, found_best, has_cell}
use Rattle.lang_core.proofs.Basics.{less_of}

-- The keys of a catalogue's summary strictly ascend.
pub summary-IsMap : (es : Entries) → IsMap key_cmp es → IsMap key_cmp (summary_of es)
summary-IsMap = mapped-IsMap key_cmp (λ (c : Cell). c.stamp)

-- the stamp of what may be there
abbrev pub stamp_if : Option Cell → Option Stamp
stamp_if = option_map (λ c. c.stamp)

-- A summary has at a key the stamp of the catalogue's cell there, or none.
pub find-summary_of : (k : EntryKey) (es : Entries)
    → find key_cmp k (summary_of es) ≡ stamp_if (find key_cmp k es)
find-summary_of = find-mapped key_cmp (λ (c : Cell). c.stamp)

-- who took at least what was told has each key of it
pub has_told : (own told : List Entry) → ((e : Entry) → In told e → In own e)
    → HasAll (catalogue_of own) (summary_of (catalogue_of told))
has_told own told within k s h =
    at_key (find key_cmp k (catalogue_of told)) refl
    (sym (find-summary_of k (catalogue_of told)) ∙ h)
  where
    at_key : (a : Option Cell) → find key_cmp k (catalogue_of told) ≡ a → stamp_if a ≡ Some s
        → HasAtLeast (find key_cmp k (catalogue_of own)) s
    at_key None e f = absurd (cc)
    at_key (Some c) e f =
        let best = found_best told k c e in
        let mine = within (k, c) (best_in told k c best) in
        let d = has_cell own k c mine in
        let highest : stamp_cmp d.0.stamp c.stamp ≢ Less = let b = found_best own k d.0 d.1 in
        b.greatest c (Contains-from_in own (k, c) mine) in
        let stamp : c.stamp ≡ s = cc in
        subst (λ o. HasAtLeast o s) (sym d.1)
        (subst (λ t. stamp_cmp d.0.stamp t ≢ Less) stamp highest)

-- who has each key with at least the stamp is above
below_if_has : (own : Entries) (summary : Stamps) → IsMap key_cmp own → IsMap key_cmp summary
    → HasAll own summary → IsBelowStamps summary (summary_of own)
below_if_has own summary m n has = (
  inr (record {
    first = n;
    second = summary-IsMap own m;
    at =
        λ k. always (find key_cmp k summary) (find key_cmp k (summary_of own));
  }),
  same_maps key_cmp key_cmp_total key_cmp_exact
      (joined_maps key_cmp joined_stamps summary (summary_of own)) (summary_of own)
      (joined_maps-IsMap key_cmp key_cmp_total joined_stamps summary (summary_of own) n
      (summary-IsMap own m)) (summary-IsMap own m)
      (λ k. find-joined_maps key_cmp key_cmp_total joined_stamps summary (summary_of own) n
      (summary-IsMap own m) k
      ∙ ap (joined_if_both joined_stamps (find key_cmp k summary)) (find-summary_of k own)
      ∙ higher (find key_cmp k summary) (find key_cmp k own) (λ s e. has k s e)
      ∙ sym (find-summary_of k own)),
)
  where
    higher : (a : Option Stamp) (c : Option Cell) → ((s : Stamp) → a ≡ Some s → HasAtLeast c s)
        → joined_if_both joined_stamps a (stamp_if c) ≡ stamp_if c
    higher None c h = refl
    higher (Some s) None h = absurd (h s refl)
    higher (Some s) (Some c) h =
        ap Some
        (elim (is_lt (stamp_cmp s c.stamp)) as
        (λ b. is_lt (stamp_cmp s c.stamp) ≡ b → cond b c.stamp s ≡ c.stamp) [
          | true ↦ λ b. refl
          | false ↦ λ b. same_stamp s c.stamp (not_less_of (stamp_cmp s c.stamp) b) (h s refl)
        ] refl)

-- who took more has a summary above
pub summary_grows : (own told : List Entry) → ((e : Entry) → In told e → In own e)
    → IsBelowStamps (summary_of (catalogue_of told)) (summary_of (catalogue_of own))
summary_grows own told within =
    below_if_has (catalogue_of own) (summary_of (catalogue_of told)) (catalogue_of-IsMap own)
    (summary-IsMap (catalogue_of told) (catalogue_of-IsMap told)) (has_told own told within)

-- Any cells have all of their own summary.
pub has_own : (own : Entries) → HasAll own (summary_of own)
has_own own k s e = at (find key_cmp k own) (sym (find-summary_of k own) ∙ e)
  where
    at : (o : Option Cell) → stamp_if o ≡ Some s → HasAtLeast o s
    at None e = absurd (cc)
    at (Some c) e = let same : c.stamp ≡ s = cc in
        subst (λ t. stamp_cmp c.stamp t ≢ Less) same (not_less_self c.stamp)

-- one who has all of it has it still when cells are joined, whether or not they agree
pub has_joined : (own other : Entries) (summary : Stamps) → IsMap key_cmp own → IsMap key_cmp other
    → HasAll own summary → HasAll (joined own other) summary
has_joined own other summary m n has k s told =
    subst (λ o. HasAtLeast o s)
    (sym (find-joined_maps key_cmp key_cmp_total joined_cells own other m n k))
    (at (find key_cmp k own) (find key_cmp k other) (has k s told))
  where
    at : (a b : Option Cell) → HasAtLeast a s → HasAtLeast (joined_if_both joined_cells a b) s
    at None b h = absurd h
    at (Some c) None h = h
    at (Some c) (Some d) h =
        elim (is_lt (stamp_cmp c.stamp d.stamp)) as
        (λ t. is_lt (stamp_cmp c.stamp d.stamp) ≡ t → HasAtLeast (Some (cond t d c)) s) [
          | true ↦
              λ t. not_less_trans d.stamp c.stamp s
              (not_less_back c.stamp d.stamp (less_of (stamp_cmp c.stamp d.stamp) t)) h
          | false ↦ λ t. h
        ] refl

-- and when it has grown
pub has_grown : (old new : Entries) (summary : Stamps) → HasAll old summary
    → IsBelowCells old new → HasAll new summary
has_grown old new summary has below = elim below.0 as (λ _. HasAll new summary) [
  | inl e ↦ subst (λ (es : Entries). HasAll es summary) e has
  | inr r ↦
      subst (λ (es : Entries). HasAll es summary) below.1
      (has_joined old new summary r.first r.second has)
]
