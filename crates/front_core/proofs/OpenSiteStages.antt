-- What is made of an open site is not refused, and it is refused by one fault, memory apart.
use Rattle.std.proofs.Common.{◌≡◌, ◌≢◌, ◌⊎◌, ◌∙◌, ◌∷◌, [], ℕ, List, Option, ap, sym, inl, inr, refl}
use Rattle.std.proofs.Common.{subst}
use Rattle.cell_core.specs.Label.{IsLabel}
use Rattle.cell_core.specs.Fault.{RefusesLabel, RefusesTexts}
use Rattle.cell_core.specs.Keyed.{IsMap}
use Rattle.cell_core.specs.Stamp.{IsNext, NoNext}
use Rattle.cell_core.specs.declared.stamp.Stamp.{Stamp}
use Rattle.cell_core.specs.Entry.{key_cmp}
use Rattle.cell_core.specs.declared.fault.CellFault.{CellFault}
use Rattle.cell_core.specs.declared.fault.CellFault.TheVariants as cell
use Rattle.catalogue.specs.CataFault.{IsRefusal}
use Rattle.catalogue.specs.CatalogueLatest.{latest_of}
use Rattle.catalogue.specs.Entries.{Agree, Entries}
use Rattle.catalogue.specs.declared.cata_fault.CataFault.{CataFault}
use Rattle.catalogue.specs.declared.cata_fault.CataFault.TheVariants as cata
use Rattle.catalogue.proofs.ClashLemmas.{clash_not_agree}
use Rattle.cata_core.specs.Site.{RefusesEdit, SiteState}
use Rattle.cata_core.specs.declared.delta.Delta.{Delta}
use Rattle.json_docs.specs.FaultChecks.{OrMemory}
use Rattle.row_docs.specs.Reading.{no_memory}
use Rattle.map_docs.specs.MapsLabels.{AreLangMaps}
use Rattle.map_docs.specs.Maps.{Labelled}
use Rattle.map_docs.proofs.MapsLawsLemmas.{same_labels}
use Rattle.site_docs.specs.Checks.{LacksNoOwn, IsOwnMissing, ReadsInTime, RefusesDeltaUntil}
use Rattle.site_docs.specs.RowsInTime.{AreInTime, IsTimeAhead}
use Rattle.site_docs.specs.declared.checks.Checks.{Checks}
use Rattle.site_docs.specs.declared.checks.OwnEdits.{OwnEdits}
use Rattle.site_docs.proofs.ReadingOneDocument.{one_delta}
use Rattle.docs_core.specs.ImportingLabels.{puts_of}
use Rattle.docs_core.specs.Updating.{AreChanges}
use Rattle.docs_core.specs.UpdatingChanges.{Change as ChangeOf, SpendsClock}
use Rattle.docs_core.proofs.CallLaws.{delta_in_time_not_refused, made_not_spent, maps_not_refused}
use Rattle.docs_core.proofs.CallLaws.{one_delta_until, one_of_maps}
use Rattle.docs_core.proofs.CallRefusals.{ahead_not_in_time, missing_not_held, one_ahead}
use Rattle.docs_core.proofs.CallRefusals.{one_cell_cause, one_missing}
use Rattle.docs_core.proofs.SitesFieldRefusals.{no_label, one_label_fault}
use Rattle.docs_core.proofs.UpdatingLaws.{one_list}
use Rattle.front_core.specs.Change.{HasKey, HasLabel, RefusesChange, RefusesKey}
use Rattle.front_core.specs.Change.{RefusesLabelText, RefusesPut}
use Rattle.front_core.specs.Fault.{IsDecided, IsOf, cell_fault, document_fault, site_fault}
use Rattle.front_core.specs.OpenSite.{AreUpdated, IsDeleted, IsImported, IsMerged, IsPutInto}
use Rattle.front_core.specs.OpenSite.{IsTaken, RefusesDelete, RefusesImport, RefusesJoin}
use Rattle.front_core.specs.OpenSite.{RefusesJoinOwn, RefusesMaps, RefusesMerge, RefusesPutInto}
use Rattle.front_core.specs.OpenSite.{RefusesTake, RefusesTakeDelta, RefusesUpdates}
use Rattle.front_core.specs.Preferences.{Text}
use Rattle.front_core.specs.declared.fault.FrontFault.{FrontFault}
use Rattle.front_core.specs.declared.fault.FrontFault.TheVariants.{NoMemory}
use Rattle.front_core.proofs.AskStages.{id_stage, in_turn, language_stage}
use Rattle.front_core.proofs.AskStages.{of_document_form, of_form, seen_as}

-- ---- keys, texts and stamps

key_stage : (id lang : Text) → IsDecided (HasKey id lang) (RefusesKey id lang)
key_stage id lang =
    seen_as (λ has. (has.0, (has.1, has.2))) (λ fault why. why)
    (in_turn (id_stage id) (language_stage lang))

label_cause : (texts : List Text) (a : CellFault) → cell_fault a ≢ NoMemory → RefusesLabel texts a
    → RefusesTexts texts a
label_cause texts cell.IdRefused n h = h
label_cause texts (cell.TextTooLong index) n h = h
label_cause texts (cell.LabelCount count) n h = h
label_cause texts cell.ClockSpent n h = h
label_cause texts cell.NoMemory n h = absurd (n refl)
label_cause texts cell.SiteName n h = h

label_stage : (texts : List Text) → IsDecided (IsLabel texts) (IsOf cell_fault (RefusesLabel texts))
label_stage texts =
    of_form cell_fault (λ a n fits why. no_label texts a fits (label_cause texts a n why))
    (λ a b m n p q. one_label_fault texts a b (label_cause texts a m p) (label_cause texts b n q))

text_stage : (text : Text) → IsDecided (HasLabel text) (RefusesLabelText text)
text_stage text =
    let label = label_stage (text ∷ []) in
    record {
      apart = λ fault n fits why. elim why as (λ _. ⊥) [
        | inl bad ↦ bad.0 fits.0
        | inr good ↦ elim good.1 as (λ _. ⊥) [
          | inl memory ↦ n memory
          | inr r ↦ label.apart fault n fits.1 r
        ]
      ];
      one = λ x y m n p q. elim p as (λ _. x ≡ y) [
        | inl a ↦ elim q as (λ _. x ≡ y) [
          | inl b ↦ a.1 ∙ sym b.1
          | inr b ↦ absurd (a.0 b.0)
        ]
        | inr a ↦ elim q as (λ _. x ≡ y) [
          | inl b ↦ absurd (b.0 a.0)
          | inr b ↦ elim a.1 as (λ _. x ≡ y) [
            | inl memory ↦ absurd (m memory)
            | inr r ↦ elim b.1 as (λ _. x ≡ y) [
              | inl memory ↦ absurd (n memory)
              | inr s ↦ label.one x y m n r s
            ]
          ]
        ]
      ];
    }

-- the site has a next stamp
abbrev HasNext : SiteState → ℕ → Type 0
HasNext site now = (stamp : Stamp) × IsNext (latest_of site.cells) now site.name stamp

edit_cause : (site : SiteState) (now : ℕ) (a : CataFault) → site_fault a ≢ NoMemory
    → RefusesEdit site now a
    → (a ≡ cata.ClockSpent) × NoNext (latest_of site.cells) now site.name
edit_cause site now (cata.StampReused place stamp) n h = absurd h
edit_cause site now cata.ClockSpent n h = (refl, h)
edit_cause site now (cata.NotForMe addressee) n h = absurd h
edit_cause site now cata.NoMemory n h = absurd (n refl)

change_stage : (site : SiteState) (now : ℕ) → IsDecided (HasNext site now) (RefusesChange site now)
change_stage site now =
    of_form site_fault (λ a n next why. (edit_cause site now a n why).1 next.0 next.1.new)
    (λ a b m n p q. (edit_cause site now a m p).0 ∙ sym (edit_cause site now b n q).0)

put_stage : (now : ℕ) (id lang text : Text) (site : SiteState)
    → IsDecided ((HasKey id lang × HasLabel text) × HasNext site now)
    (RefusesPutInto now id lang text site)
put_stage now id lang text site =
    seen_as (λ fits. fits)
    (λ fault why. elim why as (λ _. RefusesPut id lang text fault
    ⊎ ((HasKey id lang × HasLabel text) × RefusesChange site now fault)) [
      | inl given ↦ inl given
      | inr edit ↦ inr ((edit.0, edit.1), edit.2)
    ])
    (in_turn (in_turn (key_stage id lang) (text_stage text)) (change_stage site now))

delete_stage : (now : ℕ) (id lang : Text) (site : SiteState)
    → IsDecided (HasKey id lang × HasNext site now) (RefusesDelete now id lang site)
delete_stage now id lang site = in_turn (key_stage id lang) (change_stage site now)

-- A label that is put is not refused.
pub put_apart : (now : ℕ) (id lang text : Text) (old new : SiteState) (fault : FrontFault)
    → fault ≢ NoMemory → IsPutInto now id lang text old new
    → RefusesPutInto now id lang text old fault → ⊥
put_apart now id lang text old new fault n is why =
    let stage = put_stage now id lang text old in
    let key = is.1.0 in
    stage.apart fault n
    (((key.0, is.0.lang, key.2), is.1.1), (is.2.0, is.2.1)) why

-- It is refused by one fault.
pub put_one : (now : ℕ) (id lang text : Text) (site : SiteState) (x y : FrontFault)
    → x ≢ NoMemory → y ≢ NoMemory → RefusesPutInto now id lang text site x
    → RefusesPutInto now id lang text site y → x ≡ y
put_one now id lang text site =
    let stage = put_stage now id lang text site in stage.one

-- A label that is deleted is not refused.
pub delete_apart : (now : ℕ) (id lang : Text) (old new : SiteState) (fault : FrontFault)
    → fault ≢ NoMemory → IsDeleted now id lang old new → RefusesDelete now id lang old fault → ⊥
delete_apart now id lang old new fault n is why =
    let stage = delete_stage now id lang old in
    let key = is.1.0 in
    stage.apart fault n ((key.0, is.0.lang, key.2), (is.2.0, is.2.1)) why

-- It is refused by one fault.
pub delete_one : (now : ℕ) (id lang : Text) (site : SiteState) (x y : FrontFault)
    → x ≢ NoMemory → y ≢ NoMemory → RefusesDelete now id lang site x
    → RefusesDelete now id lang site y → x ≡ y
delete_one now id lang site = let stage = delete_stage now id lang site in stage.one

-- ---- joins

join_stage : (cells : Entries) (site : SiteState)
    → IsDecided (Agree site.cells cells × IsMap key_cmp site.cells) (RefusesJoin cells site)
join_stage cells site =
    of_form site_fault
    (λ a n fits why. apart a n fits.0 fits.1 why)
    (λ a b m n p q. one_cell_cause site.cells cells a b (λ e. m (ap site_fault e))
    (λ e. n (ap site_fault e)) p q)
  where
    apart : (a : CataFault) → site_fault a ≢ NoMemory → Agree site.cells cells
        → IsMap key_cmp site.cells → IsRefusal site.cells cells a → ⊥
    apart (cata.StampReused place stamp) n agree map why =
        clash_not_agree site.cells cells place stamp map why agree
    apart cata.ClockSpent n agree map why = why
    apart (cata.NotForMe addressee) n agree map why = why
    apart cata.NoMemory n agree map why = n refl

own_stage : (own : OwnEdits) (cells : Entries) (site : SiteState)
    → IsDecided (LacksNoOwn own site cells) (IsOf document_fault (IsOwnMissing 1 own site cells))
own_stage own cells site =
    of_form document_fault (λ a n fits why. missing_not_held 1 own site cells a fits why)
    (λ a b m n p q. one_missing 1 own site cells a b p q)

join_own_stage : (own : OwnEdits) (cells : Entries) (site : SiteState)
    → IsDecided (LacksNoOwn own site cells × (Agree site.cells cells × IsMap key_cmp site.cells))
    (RefusesJoinOwn own cells site)
join_own_stage own cells site = in_turn (own_stage own cells site) (join_stage cells site)

time_stage : (limit : Option ℕ) (cells : Entries) → IsDecided (AreInTime limit cells)
    (IsOf document_fault (IsTimeAhead 1 limit cells))
time_stage limit cells =
    of_form document_fault (λ a n fits why. ahead_not_in_time 1 limit cells a fits why)
    (λ a b m n p q. one_ahead 1 limit cells a b p q)

merge_stage : (other : SiteState) (checks : Checks) (site : SiteState)
    → IsDecided (AreInTime checks.not_after other.cells
    × (LacksNoOwn checks.own_edits site other.cells
    × (Agree site.cells other.cells × IsMap key_cmp site.cells)))
    (RefusesMerge other checks site)
merge_stage other checks site =
    in_turn (time_stage checks.not_after other.cells)
    (join_own_stage checks.own_edits other.cells site)

-- A site that is merged is not refused.
pub merge_apart : (other : SiteState) (checks : Checks) (old new : SiteState) (fault : FrontFault)
    → IsMap key_cmp old.cells → fault ≢ NoMemory → IsMerged other checks old new
    → RefusesMerge other checks old fault → ⊥
merge_apart other checks old new fault map n is why =
    let stage = merge_stage other checks old in
    stage.apart fault n (is.0, (is.1.0, (is.1.1.0, map))) why

-- It is refused by one fault.
pub merge_one : (other : SiteState) (checks : Checks) (site : SiteState) (x y : FrontFault)
    → x ≢ NoMemory → y ≢ NoMemory → RefusesMerge other checks site x
    → RefusesMerge other checks site y → x ≡ y
merge_one other checks site = let stage = merge_stage other checks site in stage.one

-- ---- deltas

mine_stage : (site : SiteState) (delta : Delta) → IsDecided (site.name ≡ delta.addressee)
    (λ fault. (site.name ≢ delta.addressee)
    × (fault ≡ site_fault (cata.NotForMe delta.addressee)))
mine_stage site delta = record {
  apart = λ fault n fits why. why.0 fits;
  one = λ x y m n p q. p.1 ∙ sym q.1;
}

take_delta_stage : (own : OwnEdits) (delta : Delta) (site : SiteState)
    → IsDecided ((site.name ≡ delta.addressee)
    × (LacksNoOwn own site delta.cells
    × (Agree site.cells delta.cells × IsMap key_cmp site.cells)))
    (RefusesTakeDelta own delta site)
take_delta_stage own delta site =
    in_turn (mine_stage site delta) (join_own_stage own delta.cells site)

delta_stage : (limit : Option ℕ) (bytes : Text)
    → IsDecided ((delta : Delta) × ReadsInTime limit bytes delta)
    (IsOf document_fault (OrMemory no_memory (RefusesDeltaUntil 1 limit bytes)))
delta_stage limit bytes =
    of_document_form
    (λ a fits why. delta_in_time_not_refused 1 limit bytes fits.0 a fits.1 why)
    (one_delta_until 1 limit bytes)

-- A delta that is taken is not refused.
pub take_apart : (bytes : Text) (checks : Checks) (old new : SiteState) (fault : FrontFault)
    → IsMap key_cmp old.cells → fault ≢ NoMemory → IsTaken bytes checks old new
    → RefusesTake bytes checks old fault → ⊥
take_apart bytes checks old new fault map n is why =
    let read = delta_stage checks.not_after bytes in
    let take = take_delta_stage checks.own_edits is.0 old in
    elim why as (λ _. ⊥) [
      | inl refused ↦ read.apart fault n (is.0, is.1) refused
      | inr later ↦
          take.apart fault n (is.2.0, (is.2.1.0, (is.2.1.1.0, map)))
          (subst (λ (d : Delta). RefusesTakeDelta checks.own_edits d old fault)
          (one_delta bytes later.0 is.0 later.1.0 is.1.0) later.2)
    ]

-- It is refused by one fault.
pub take_one : (bytes : Text) (checks : Checks) (site : SiteState) (x y : FrontFault)
    → x ≢ NoMemory → y ≢ NoMemory → RefusesTake bytes checks site x
    → RefusesTake bytes checks site y → x ≡ y
take_one bytes checks site x y m n p q =
    let read = delta_stage checks.not_after bytes in
    elim p as (λ _. x ≡ y) [
      | inl a ↦ elim q as (λ _. x ≡ y) [
        | inl b ↦ read.one x y m n a b
        | inr b ↦ absurd (read.apart x m (b.0, b.1) a)
      ]
      | inr a ↦ elim q as (λ _. x ≡ y) [
        | inl b ↦ absurd (read.apart y n (a.0, a.1) b)
        | inr b ↦
            let take = take_delta_stage checks.own_edits a.0 site in
            take.one x y m n a.2
            (subst (λ (d : Delta). RefusesTakeDelta checks.own_edits d site y)
            (one_delta bytes b.0 a.0 b.1.0 a.1.0) b.2)
      ]
    ]

-- ---- imports and updates

maps_stage : (number : ℕ) (maps : Text)
    → IsDecided ((labels : List Labelled) × AreLangMaps maps labels) (RefusesMaps number maps)
maps_stage number maps =
    of_document_form (λ a fits why. maps_not_refused number maps fits.0 a fits.1 why)
    (one_of_maps number maps)

-- of a clock that is spent there is one fault
one_spent : {A B : Type 0} (x y : FrontFault) → x ≢ NoMemory → y ≢ NoMemory
    → (x ≡ NoMemory) ⊎ (A × (x ≡ site_fault cata.ClockSpent))
    → (y ≡ NoMemory) ⊎ (B × (y ≡ site_fault cata.ClockSpent)) → x ≡ y
one_spent x y m n p q = elim p as (λ _. x ≡ y) [
  | inl memory ↦ absurd (m memory)
  | inr a ↦ elim q as (λ _. x ≡ y) [
    | inl memory ↦ absurd (n memory)
    | inr b ↦ a.1 ∙ sym b.1
  ]
]

-- Labels that are imported are not refused.
pub import_apart : (now : ℕ) (maps : Text) (old new : SiteState) (fault : FrontFault)
    → fault ≢ NoMemory → IsImported now maps old new → RefusesImport now maps old fault → ⊥
import_apart now maps old new fault n is why =
    let read = maps_stage 1 maps in
    elim why as (λ _. ⊥) [
      | inl refused ↦ read.apart fault n (is.0, is.1) refused
      | inr later ↦ elim later.2 as (λ _. ⊥) [
        | inl memory ↦ n memory
        | inr spends ↦
            made_not_spent now old.name (puts_of is.0) old.cells new.cells is.3
            (subst (λ (xs : List Labelled). SpendsClock now old.name (puts_of xs) old.cells)
            (same_labels maps later.0 is.0 later.1 is.1) spends.0)
      ]
    ]

-- They are refused by one fault.
pub import_one : (now : ℕ) (maps : Text) (site : SiteState) (x y : FrontFault)
    → x ≢ NoMemory → y ≢ NoMemory → RefusesImport now maps site x
    → RefusesImport now maps site y → x ≡ y
import_one now maps site x y m n p q =
    let read = maps_stage 1 maps in
    elim p as (λ _. x ≡ y) [
      | inl a ↦ elim q as (λ _. x ≡ y) [
        | inl b ↦ read.one x y m n a b
        | inr b ↦ absurd (read.apart x m (b.0, b.1) a)
      ]
      | inr a ↦ elim q as (λ _. x ≡ y) [
        | inl b ↦ absurd (read.apart y n (a.0, a.1) b)
        | inr b ↦ one_spent x y m n a.2 b.2
      ]
    ]

-- ---- updates

-- Changes that are made of a site are not refused.
pub update_apart : (now : ℕ) (old new : Text) (site updated : SiteState) (fault : FrontFault)
    → fault ≢ NoMemory → AreUpdated now old new site updated
    → RefusesUpdates now old new site fault → ⊥
update_apart now old new site updated fault n is why =
    let first = maps_stage 1 old in
    let second = maps_stage 2 new in
    elim why as (λ _. ⊥) [
      | inl refused ↦ first.apart fault n (is.0, is.2) refused
      | inr later ↦ elim later as (λ _. ⊥) [
        | inl two ↦ second.apart fault n (is.1, is.3) two.2
        | inr last ↦ elim last.4 as (λ _. ⊥) [
          | inl memory ↦ n memory
          | inr spends ↦
              let olds = same_labels old last.0 is.0 last.2 is.2 in
              let news = same_labels new last.1 is.1 last.3 is.3 in
              let too : AreChanges is.0 is.1 site.cells spends.0.0 =
              subst (λ (xs : List Labelled). AreChanges xs is.1 site.cells spends.0.0) olds
              (subst (λ (xs : List Labelled). AreChanges last.0 xs site.cells spends.0.0) news
              spends.0.1) in
              made_not_spent now site.name is.5.0 site.cells updated.cells is.5.2
              (subst (λ (cs : List ChangeOf). SpendsClock now site.name cs site.cells)
              (one_list is.0 is.1 site.cells spends.0.0 is.5.0 too is.5.1) spends.0.2)
        ]
      ]
    ]

-- They are refused by one fault.
pub update_one : (now : ℕ) (old new : Text) (site : SiteState) (x y : FrontFault)
    → x ≢ NoMemory → y ≢ NoMemory → RefusesUpdates now old new site x
    → RefusesUpdates now old new site y → x ≡ y
update_one now old new site x y m n p q =
    let first = maps_stage 1 old in
    let second = maps_stage 2 new in
    elim p as (λ _. x ≡ y) [
      | inl a ↦ elim q as (λ _. x ≡ y) [
        | inl b ↦ first.one x y m n a b
        | inr more ↦ elim more as (λ _. x ≡ y) [
          | inl b ↦ absurd (first.apart x m (b.0, b.1) a)
          | inr b ↦ absurd (first.apart x m (b.0, b.2) a)
        ]
      ]
      | inr later ↦ elim later as (λ _. x ≡ y) [
        | inl a ↦ elim q as (λ _. x ≡ y) [
          | inl b ↦ absurd (first.apart y n (a.0, a.1) b)
          | inr more ↦ elim more as (λ _. x ≡ y) [
            | inl b ↦ second.one x y m n a.2 b.2
            | inr b ↦ absurd (second.apart x m (b.1, b.3) a.2)
          ]
        ]
        | inr a ↦ elim q as (λ _. x ≡ y) [
          | inl b ↦ absurd (first.apart y n (a.0, a.2) b)
          | inr more ↦ elim more as (λ _. x ≡ y) [
            | inl b ↦ absurd (second.apart y n (a.1, a.3) b.2)
            | inr b ↦ one_spent x y m n a.4 b.4
          ]
        ]
      ]
    ]
