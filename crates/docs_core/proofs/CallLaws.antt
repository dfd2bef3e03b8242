-- Each call on documents answers or refuses, and refuses by one fault.
--
-- A call refuses in stages: its first document, its second, then both together. Where it answers,
-- each stage has passed, so none of them refuses (`.._not_refused`). Of two refusals the earlier
-- stage is the same in both, since a document reads as one value at most; within a stage there is
-- one fault by CallRefusals. Edits, imports and updates have one stage more, the stamp, of which
-- there is a next one or none.
use Rattle.std.proofs.Common.{◌≡◌, ◌∙◌, ℕ, List, [], ◌∷◌, ap, inl, inr, refl, subst, sym}
use Rattle.std.specs.Prelude.{◌≢◌, ◌⊎◌, Bool, Option}
use Rattle.std.specs.declared.cmp.Ordering.{Ordering}
use Rattle.std.specs.declared.cmp.Ordering.TheVariants.{Equal, Greater, Less}
use Rattle.std.specs.Ordering.{ordering_reverse}
use Rattle.cell_core.specs.inner.Cell.{stamp_cmp_exact, stamp_cmp_total}
use Rattle.cell_core.specs.Keyed.{IsMap}
use Rattle.cell_core.specs.Stamp.{IsNext, stamp_cmp}
use Rattle.cell_core.specs.declared.stamp.Stamp.{Stamp}
use Rattle.cell_core.specs.Entry.{EntryKey, key_cmp}
use Rattle.catalogue.specs.Entries.{Agree, Entries}
use Rattle.cata_core.specs.Site.{RefusesEdit, SiteState}
use Rattle.catalogue.specs.declared.cata_fault.CataFault.{CataFault}
use Rattle.catalogue.specs.declared.cata_fault.CataFault.TheVariants as cata
use Rattle.cata_core.specs.declared.delta.Delta.{Delta as DeltaState}
use Rattle.catalogue.specs.CatalogueLatest.{latest_of}
use Rattle.json_docs.specs.Faults.{of_no_document, of_site}
use Rattle.json_docs.specs.declared.fault.DocFault.{DocFault}
use Rattle.row_docs.specs.Reading.{IsOfDocument}
use Rattle.row_docs.specs.declared.kind.Kind.TheVariants as kind
use Rattle.site_docs.specs.Reading.{ReadsAsDelta, ReadsAsSite, RefusesDelta, RefusesSite}
use Rattle.site_docs.specs.SiteDocuments.{IsDeltaDocument, delta_checks}
use Rattle.summary_docs.specs.Reading.{IsShownDocument, ReadsAsShown, RefusesShown, shown_checks}
use Rattle.summary_docs.specs.Shown.{ShownState}
use Rattle.site_docs.proofs.ReadingOneDocument.{one_delta, one_site}
use Rattle.map_docs.specs.LabelsChecks.{langmaps_checks}
use Rattle.map_docs.specs.MapsLabels.{AreLangMaps, ReadsAsLangMaps, RefusesLangMaps}
use Rattle.map_docs.specs.Maps.{Labelled}
use Rattle.query_docs.specs.Changes.{IsChanged, RefusesChanged}
use Rattle.docs_core.specs.Calls.{AreSynced, IsDeltaFor, IsEdited, IsOfSite, IsTaken}
use Rattle.docs_core.specs.Calls.{RefusesDeltaFor, RefusesEditing, RefusesJoin, RefusesSync}
use Rattle.docs_core.specs.Calls.{RefusesTaken, RefusesTaking}
use Rattle.site_docs.specs.Checks.{IsAheadOfBoth, LacksNoOwn, ReadsInTime, RefusesDeltaUntil}
use Rattle.site_docs.specs.declared.checks.Checks.{Checks}
use Rattle.site_docs.specs.declared.checks.OwnEdits.{OwnEdits}
use Rattle.docs_core.specs.Importing.{IsImported, RefusesImport}
use Rattle.docs_core.specs.ImportingLabels.{puts_of}
use Rattle.docs_core.specs.UpdatingChanges.{Change, Makes, SpendsClock, with_change}
use Rattle.site_docs.specs.RowsInTime.{AreInTime, IsTimeAhead}
use Rattle.docs_core.specs.Updating.{AreChanges, IsUpdated, RefusesUpdate, SpendsUpdate}
use Rattle.docs_core.proofs.CallRefusals.{ahead_not_in_time, cells_not_refused, join_not_refused}
use Rattle.docs_core.proofs.CallRefusals.{missing_not_held, one_join, one_missing}
use Rattle.docs_core.proofs.CallRefusals.{one_ahead, one_of_cells}
use Rattle.docs_core.proofs.CallRefusals.{one_of_document, one_of_site_call, one_of_site_document}
use Rattle.docs_core.proofs.CallRefusals.{site_not_refused, site_ascends}
use Rattle.docs_core.proofs.SitesOneRefusal.{cells_named, langmaps, one_cause, read_not_refused}
use Rattle.docs_core.proofs.SitesOneRefusal.{shown_named}
use Rattle.docs_core.proofs.UpdatingLaws.{one_list}
use Rattle.map_docs.proofs.MapsLawsLemmas.{same_labels}

-- ---- other documents

delta_not_refused : (number : ℕ) (bytes : List ℕ) (delta : DeltaState) (fault : DocFault)
    → ReadsAsDelta bytes delta → IsOfDocument number (RefusesDelta bytes) fault → ⊥
delta_not_refused number bytes delta fault reads (cause, why, is) =
    read_not_refused delta_checks (cells_named kind.Delta) IsDeltaDocument bytes delta cause reads
    why

shown_not_refused : (number : ℕ) (bytes : List ℕ) (shown : ShownState) (fault : DocFault)
    → ReadsAsShown bytes shown → IsOfDocument number (RefusesShown bytes) fault → ⊥
shown_not_refused number bytes shown fault reads (cause, why, is) =
    read_not_refused shown_checks shown_named IsShownDocument bytes shown cause reads why

-- language maps that are read are not refused
pub maps_not_refused : (number : ℕ) (bytes : List ℕ) (labels : List Labelled) (fault : DocFault)
    → AreLangMaps bytes labels → IsOfDocument number (RefusesLangMaps bytes) fault → ⊥
maps_not_refused number bytes labels fault reads (cause, why, is) =
    read_not_refused langmaps_checks langmaps ReadsAsLangMaps bytes labels cause reads why

one_of_delta : (number : ℕ) (bytes : List ℕ) (x y : DocFault)
    → IsOfDocument number (RefusesDelta bytes) x → IsOfDocument number (RefusesDelta bytes) y
    → x ≡ y
one_of_delta number bytes = one_of_document number (RefusesDelta bytes)
    (one_cause delta_checks (cells_named kind.Delta) bytes)

one_of_shown : (number : ℕ) (bytes : List ℕ) (x y : DocFault)
    → IsOfDocument number (RefusesShown bytes) x → IsOfDocument number (RefusesShown bytes) y
    → x ≡ y
one_of_shown number bytes = one_of_document number (RefusesShown bytes)
    (one_cause shown_checks shown_named bytes)

-- language maps are refused by one fault
pub one_of_maps : (number : ℕ) (bytes : List ℕ) (x y : DocFault)
    → IsOfDocument number (RefusesLangMaps bytes) x
    → IsOfDocument number (RefusesLangMaps bytes) y → x ≡ y
one_of_maps number bytes = one_of_document number (RefusesLangMaps bytes)
    (one_cause langmaps_checks langmaps bytes)

-- ---- edits

-- a next stamp is one
one_stamp : (last : Option Stamp) (now : ℕ) (site : List ℕ) (s t : Stamp)
    → IsNext last now site s → IsNext last now site t → s ≡ t
one_stamp last now site s t a b =
    by_order (stamp_cmp s t) refl
  where
    by_order : (o : Ordering) → stamp_cmp s t ≡ o → s ≡ t
    by_order Less is = absurd (b.least s a.new (stamp_cmp_total.antisymm t s
        ∙ ap ordering_reverse is))
    by_order Equal is = stamp_cmp_exact s t is
    by_order Greater is = absurd (a.least t b.new is)

-- what is edited is not refused
pub edit_not_refused : (bytes : List ℕ) (now : ℕ) (key : EntryKey) (label : Option (List (List ℕ)))
    (text : List ℕ) (fault : DocFault) → IsEdited bytes now key label text
    → RefusesEditing bytes now fault → ⊥
edit_not_refused bytes now key label text fault (site, stamp, reads, next, is) why =
    elim why as (λ _. ⊥) [
      | inl refused ↦ site_not_refused 1 bytes site fault reads refused
      | inr (other, again, (cause, apart, spent, told)) ↦ no_cause cause apart
          (subst (λ (s : SiteState). RefusesEdit s now cause)
          (one_site bytes other site again reads) spent)
    ]
  where
    no_cause : (cause : CataFault) → cause ≢ cata.NoMemory → RefusesEdit site now cause → ⊥
    no_cause (cata.StampReused place s) apart refused = refused
    no_cause cata.ClockSpent apart refused = refused stamp next.new
    no_cause (cata.NotForMe addressee) apart refused = refused
    no_cause cata.NoMemory apart refused = apart refl

one_edit_cause : (site : SiteState) (now : ℕ) (a b : CataFault) → a ≢ cata.NoMemory
    → b ≢ cata.NoMemory → RefusesEdit site now a → RefusesEdit site now b → a ≡ b
one_edit_cause site now cata.ClockSpent cata.ClockSpent first second x y = refl
one_edit_cause site now cata.NoMemory b first second x y = absurd (first refl)
one_edit_cause site now a cata.NoMemory first second x y = absurd (second refl)
one_edit_cause site now (cata.StampReused p s) b first second x y = absurd x
one_edit_cause site now (cata.NotForMe n) b first second x y = absurd x
one_edit_cause site now cata.ClockSpent (cata.StampReused p s) first second x y = absurd y
one_edit_cause site now cata.ClockSpent (cata.NotForMe n) first second x y = absurd y

-- an edit is refused by one fault
pub one_edit : (bytes : List ℕ) (now : ℕ) (x y : DocFault) → RefusesEditing bytes now x
    → RefusesEditing bytes now y → x ≡ y
one_edit bytes now x y p q = elim p [
  | inl a ↦ elim q [
    | inl b ↦ one_of_site_document 1 bytes x y a b
    | inr (site, reads, b) ↦ absurd (site_not_refused 1 bytes site x reads a)
  ]
  | inr (site, reads, a) ↦ elim q [
    | inl b ↦ absurd (site_not_refused 1 bytes site y reads b)
    | inr (other, again, b) ↦
        one_of_site_call (RefusesEdit site now) (one_edit_cause site now) x y a
        (subst (λ (s : SiteState). IsOfSite (RefusesEdit s now) y)
        (one_site bytes other site again reads) b)
  ]
]

-- ---- syncs

-- what is synced is not refused
pub sync_not_refused : (checks : Checks) (a b x y : List ℕ) (fault : DocFault)
    → AreSynced checks a b x y → RefusesSync checks a b fault → ⊥
sync_not_refused checks a b x y fault
    (first, second, reads, second_reads, in_time, second_in_time, none, agree, is, second_is) why =
    let limit = checks.not_after in
    let own = checks.own_edits in
    let same_first : (s : SiteState) → ReadsAsSite a s → s ≡ first =
    λ s r. one_site a s first r reads in
    let same_second : (s : SiteState) → ReadsAsSite b s → s ≡ second =
    λ s r. one_site b s second r second_reads in
    elim why as (λ _. ⊥) [
      | inl refused ↦ site_not_refused 1 a first fault reads refused
      | inr later ↦ elim later as (λ _. ⊥) [
        | inl (f, r, refused) ↦ site_not_refused 2 b second fault second_reads refused
        | inr last ↦ elim last as (λ _. ⊥) [
          | inl (f, s, r, t, ahead) ↦
              elim (subst (λ (z : SiteState). IsAheadOfBoth limit first.cells z.cells fault)
              (same_second s t) (subst (λ (z : SiteState).
              IsAheadOfBoth limit z.cells s.cells fault) (same_first f r) ahead)) as (λ _. ⊥) [
                | inl one ↦ ahead_not_in_time 1 limit first.cells fault in_time one
                | inr two ↦
                    ahead_not_in_time 2 limit second.cells fault second_in_time two.1
              ]
          | inr (f, s, r, t, u, v, clash) ↦ join_not_refused own first second fault none agree
              (site_ascends b second second_reads)
              (subst (λ (z : SiteState). RefusesJoin own first z fault)
              (same_second s t) (subst (λ (z : SiteState).
              RefusesJoin own z s fault) (same_first f r) clash))
        ]
      ]
    ]

one_ahead_of_both : (limit : Option ℕ) (first second : Entries) (x y : DocFault)
    → IsAheadOfBoth limit first second x → IsAheadOfBoth limit first second y → x ≡ y
one_ahead_of_both limit first second x y p q = elim p [
  | inl a ↦ elim q [
    | inl b ↦ one_ahead 1 limit first x y a b
    | inr b ↦ absurd (ahead_not_in_time 1 limit first x b.0 a)
  ]
  | inr a ↦ elim q [
    | inl b ↦ absurd (ahead_not_in_time 1 limit first y a.0 b)
    | inr b ↦ one_ahead 2 limit second x y a.1 b.1
  ]
]

-- two sites that are in the limit are not ahead
both_in_time : (limit : Option ℕ) (first second : Entries) (fault : DocFault)
    → AreInTime limit first → AreInTime limit second → IsAheadOfBoth limit first second fault → ⊥
both_in_time limit first second fault a b why = elim why as (λ _. ⊥) [
  | inl one ↦ ahead_not_in_time 1 limit first fault a one
  | inr two ↦ ahead_not_in_time 2 limit second fault b two.1
]

-- why two sites that were read are not synced
abbrev RefusesBoth : Checks → SiteState → SiteState → DocFault → Type 0
RefusesBoth checks first second fault =
    IsAheadOfBoth checks.not_after first.cells second.cells fault
    ⊎ (AreInTime checks.not_after first.cells × AreInTime checks.not_after second.cells
    × RefusesJoin checks.own_edits first second fault)

one_both : (checks : Checks) (first second : SiteState) (x y : DocFault)
    → RefusesBoth checks first second x → RefusesBoth checks first second y → x ≡ y
one_both checks first second x y p q = elim p [
  | inl a ↦ elim q [
    | inl b ↦ one_ahead_of_both checks.not_after first.cells second.cells x y a b
    | inr b ↦ absurd (both_in_time checks.not_after first.cells second.cells x b.0 b.1 a)
  ]
  | inr a ↦ elim q [
    | inl b ↦ absurd (both_in_time checks.not_after first.cells second.cells y a.0 a.1 b)
    | inr b ↦ one_join checks.own_edits first second x y a.2 b.2
  ]
]

-- by three stages: the first document, the second, and both sites
abbrev Stages : Checks → List ℕ → List ℕ → DocFault → Type 0
Stages checks a b fault =
    IsOfDocument 1 (RefusesSite a) fault
    ⊎ (((first : SiteState) × ReadsAsSite a first × IsOfDocument 2 (RefusesSite b) fault)
    ⊎ ((first second : SiteState) × ReadsAsSite a first × ReadsAsSite b second
    × RefusesBoth checks first second fault))

in_stages : (checks : Checks) (a b : List ℕ) (fault : DocFault) → RefusesSync checks a b fault
    → Stages checks a b fault
in_stages checks a b fault why = elim why [
  | inl one ↦ inl one
  | inr later ↦ elim later [
    | inl two ↦ inr (inl two)
    | inr last ↦ elim last [
      | inl (f, s, r, t, ahead) ↦ inr (inr (f, s, r, t, inl ahead))
      | inr (f, s, r, t, u, v, clash) ↦ inr (inr (f, s, r, t, inr (u, v, clash)))
    ]
  ]
]

one_stage : (checks : Checks) (a b : List ℕ) (x y : DocFault) → Stages checks a b x
    → Stages checks a b y → x ≡ y
one_stage checks a b x y p q = elim p [
  | inl one ↦ elim q [
    | inl other ↦ one_of_site_document 1 a x y one other
    | inr later ↦ elim later [
      | inl (s, reads, other) ↦ absurd (site_not_refused 1 a s x reads one)
      | inr (s, t, reads, seen, other) ↦ absurd (site_not_refused 1 a s x reads one)
    ]
  ]
  | inr later ↦ elim later [
    | inl (s, reads, two) ↦ elim q [
      | inl other ↦ absurd (site_not_refused 1 a s y reads other)
      | inr more ↦ elim more [
        | inl (t, again, other) ↦ one_of_site_document 2 b x y two other
        | inr (t, u, again, seen, other) ↦ absurd (site_not_refused 2 b u x seen two)
      ]
    ]
    | inr (s, t, reads, seen, both) ↦ elim q [
      | inl other ↦ absurd (site_not_refused 1 a s y reads other)
      | inr more ↦ elim more [
        | inl (u, again, other) ↦ absurd (site_not_refused 2 b t y seen other)
        | inr (u, v, again, there, other) ↦ one_both checks s t x y both
            (subst (λ (z : SiteState). RefusesBoth checks s z y) (one_site b v t there seen)
            (subst (λ (z : SiteState). RefusesBoth checks z v y) (one_site a u s again reads)
            other))
      ]
    ]
  ]
]

-- a sync is refused by one fault
pub one_sync : (checks : Checks) (a b : List ℕ) (x y : DocFault) → RefusesSync checks a b x
    → RefusesSync checks a b y → x ≡ y
one_sync checks a b x y p q =
    one_stage checks a b x y (in_stages checks a b x p) (in_stages checks a b y q)

-- ---- deltas that are taken

-- a delta that is read in time is not refused
pub delta_in_time_not_refused : (number : ℕ) (limit : Option ℕ) (bytes : List ℕ)
    (delta : DeltaState) (fault : DocFault) → ReadsInTime limit bytes delta
    → RefusesDeltaUntil number limit bytes fault → ⊥
delta_in_time_not_refused number limit bytes delta fault (reads, in_time) why =
    elim why as (λ _. ⊥) [
      | inl refused ↦ delta_not_refused number bytes delta fault reads refused
      | inr (other, again, ahead) ↦ ahead_not_in_time number limit delta.cells fault in_time
          (subst (λ (d : DeltaState). IsTimeAhead number limit d.cells fault)
          (one_delta bytes other delta again reads) ahead)
    ]

-- a delta is refused by one fault, or one of its times
pub one_delta_until : (number : ℕ) (limit : Option ℕ) (bytes : List ℕ) (x y : DocFault)
    → RefusesDeltaUntil number limit bytes x → RefusesDeltaUntil number limit bytes y → x ≡ y
one_delta_until number limit bytes x y p q = elim p [
  | inl a ↦ elim q [
    | inl b ↦ one_of_delta number bytes x y a b
    | inr (delta, reads, ahead) ↦ absurd (delta_not_refused number bytes delta x reads a)
  ]
  | inr (delta, reads, ahead) ↦ elim q [
    | inl b ↦ absurd (delta_not_refused number bytes delta y reads b)
    | inr (other, again, later) ↦ one_ahead number limit delta.cells x y ahead
        (subst (λ (d : DeltaState). IsTimeAhead number limit d.cells y)
        (one_delta bytes other delta again reads) later)
  ]
]

taken_not_refused : (own : OwnEdits) (site : SiteState) (delta : DeltaState) (fault : DocFault)
    → IsMap key_cmp site.cells → site.name ≡ delta.addressee → LacksNoOwn own site delta.cells
    → Agree site.cells delta.cells → RefusesTaken own site delta fault → ⊥
taken_not_refused own site delta fault ascends mine none agree why = elim why as (λ _. ⊥) [
  | inl other ↦ other.0 mine
  | inr later ↦ elim later as (λ _. ⊥) [
    | inl missing ↦ missing_not_held 2 own site delta.cells fault none missing.1
    | inr clash ↦ cells_not_refused site.cells delta.cells fault agree
        (elim agree as (λ _. IsMap key_cmp delta.cells) [
          | inl same ↦ subst (IsMap key_cmp) same ascends
          | inr maps ↦ maps.second
        ]) clash.2
  ]
]

one_taken : (own : OwnEdits) (site : SiteState) (delta : DeltaState) (x y : DocFault)
    → RefusesTaken own site delta x → RefusesTaken own site delta y → x ≡ y
one_taken own site delta x y p q = elim p [
  | inl a ↦ elim q [
    | inl b ↦ a.1 ∙ sym b.1
    | inr later ↦ absurd (a.0 (elim later as (λ _. site.name ≡ delta.addressee) [
      | inl b ↦ b.0
      | inr b ↦ b.0
    ]))
  ]
  | inr first ↦ elim first [
    | inl a ↦ elim q [
      | inl b ↦ absurd (b.0 a.0)
      | inr later ↦ elim later [
        | inl b ↦ one_missing 2 own site delta.cells x y a.1 b.1
        | inr b ↦ absurd (missing_not_held 2 own site delta.cells x b.1 a.1)
      ]
    ]
    | inr a ↦ elim q [
      | inl b ↦ absurd (b.0 a.0)
      | inr later ↦ elim later [
        | inl b ↦ absurd (missing_not_held 2 own site delta.cells y a.1 b.1)
        | inr b ↦ one_of_cells site.cells delta.cells x y a.2 b.2
      ]
    ]
  ]
]

-- what is taken is not refused
pub take_not_refused : (checks : Checks) (a b text : List ℕ) (fault : DocFault)
    → IsTaken checks a b text → RefusesTaking checks a b fault → ⊥
take_not_refused checks a b text fault (site, delta, reads, timely, mine, none, agree, is) why =
    let own = checks.own_edits in
    elim why as (λ _. ⊥) [
      | inl refused ↦ site_not_refused 1 a site fault reads refused
      | inr later ↦ elim later as (λ _. ⊥) [
        | inl (s, r, refused) ↦
            delta_in_time_not_refused 2 checks.not_after b delta fault timely refused
        | inr (s, d, r, t, clash) ↦ taken_not_refused own site delta fault
            (site_ascends a site reads) mine none agree
            (subst (λ (e : DeltaState). RefusesTaken own site e fault)
            (one_delta b d delta t.0 timely.0) (subst (λ (z : SiteState).
            RefusesTaken own z d fault) (one_site a s site r reads) clash))
      ]
    ]

-- a take is refused by one fault
pub one_take : (checks : Checks) (a b : List ℕ) (x y : DocFault) → RefusesTaking checks a b x
    → RefusesTaking checks a b y → x ≡ y
one_take checks a b x y p q = let limit = checks.not_after in elim p [
  | inl one ↦ elim q [
    | inl other ↦ one_of_site_document 1 a x y one other
    | inr later ↦ elim later [
      | inl (s, reads, other) ↦ absurd (site_not_refused 1 a s x reads one)
      | inr (s, d, reads, timely, other) ↦ absurd (site_not_refused 1 a s x reads one)
    ]
  ]
  | inr later ↦ elim later [
    | inl (s, reads, two) ↦ elim q [
      | inl other ↦ absurd (site_not_refused 1 a s y reads other)
      | inr more ↦ elim more [
        | inl (t, again, other) ↦ one_delta_until 2 limit b x y two other
        | inr (t, d, again, timely, other) ↦
            absurd (delta_in_time_not_refused 2 limit b d x timely two)
      ]
    ]
    | inr (s, d, reads, timely, clash) ↦ elim q [
      | inl other ↦ absurd (site_not_refused 1 a s y reads other)
      | inr more ↦ elim more [
        | inl (t, again, other) ↦ absurd (delta_in_time_not_refused 2 limit b d y timely other)
        | inr (t, e, again, once, other) ↦ one_taken checks.own_edits s d x y clash
            (subst (λ (f : DeltaState). RefusesTaken checks.own_edits s f y)
            (one_delta b e d once.0 timely.0) (subst (λ (z : SiteState).
            RefusesTaken checks.own_edits z e y) (one_site a t s again reads) other))
      ]
    ]
  ]
]

-- ---- deltas that are made, and changes

-- where a delta is made nothing is refused
pub delta_call_not_refused : (a b text : List ℕ) (fault : DocFault) → IsDeltaFor a b text
    → RefusesDeltaFor a b fault → ⊥
delta_call_not_refused a b text fault (site, shown, reads, seen, is) why =
    elim why as (λ _. ⊥) [
      | inl refused ↦ site_not_refused 1 a site fault reads refused
      | inr (s, r, refused) ↦ shown_not_refused 2 b shown fault seen refused
    ]

-- the making of a delta is refused by one fault
pub one_delta_call : (a b : List ℕ) (x y : DocFault) → RefusesDeltaFor a b x
    → RefusesDeltaFor a b y → x ≡ y
one_delta_call a b x y p q = elim p [
  | inl one ↦ elim q [
    | inl other ↦ one_of_site_document 1 a x y one other
    | inr (s, reads, other) ↦ absurd (site_not_refused 1 a s x reads one)
  ]
  | inr (s, reads, two) ↦ elim q [
    | inl other ↦ absurd (site_not_refused 1 a s y reads other)
    | inr (t, again, other) ↦ one_of_shown 2 b x y two other
  ]
]

-- where changes are answered nothing is refused
pub changes_not_refused : (a b text : List ℕ) (found : Bool) (fault : DocFault)
    → IsChanged a b text found → RefusesChanged a b fault → ⊥
changes_not_refused a b text found fault (before, after, changes, reads, seen, are, is, told) why =
    elim why as (λ _. ⊥) [
      | inl refused ↦ site_not_refused 1 a before fault reads refused
      | inr (s, r, refused) ↦ site_not_refused 2 b after fault seen refused
    ]

-- a call for changes is refused by one fault
pub one_changes_call : (a b : List ℕ) (x y : DocFault) → RefusesChanged a b x
    → RefusesChanged a b y → x ≡ y
one_changes_call a b x y p q = elim p [
  | inl one ↦ elim q [
    | inl other ↦ one_of_site_document 1 a x y one other
    | inr (s, reads, other) ↦ absurd (site_not_refused 1 a s x reads one)
  ]
  | inr (s, reads, two) ↦ elim q [
    | inl other ↦ absurd (site_not_refused 1 a s y reads other)
    | inr (t, again, other) ↦ one_of_site_document 2 b x y two other
  ]
]

-- ---- imports and updates

-- changes that are made do not spend the clock
pub made_not_spent : (now : ℕ) (name : List ℕ) (changes : List Change) (old new : Entries)
    → Makes now name changes old new → SpendsClock now name changes old → ⊥
made_not_spent now name [] old new makes spends = spends
made_not_spent now name (e ∷ es) old new (stamp, next, rest) spends = elim spends as (λ _. ⊥) [
  | inl none ↦ none stamp next.new
  | inr (other, again, later) ↦ made_not_spent now name es (with_change e stamp old) new rest
      (subst (λ (s : Stamp). SpendsClock now name es (with_change e s old))
      (one_stamp (latest_of old) now name other stamp again next) later)
]

-- what is imported is not refused
pub import_not_refused : (bytes : List ℕ) (now : ℕ) (maps doc : List ℕ) (fault : DocFault)
    → IsImported bytes now maps doc → RefusesImport bytes now maps fault → ⊥
import_not_refused bytes now maps doc fault (site, labels, cells, reads, are, imports, is) why =
    elim why as (λ _. ⊥) [
      | inl refused ↦ site_not_refused 1 bytes site fault reads refused
      | inr later ↦ elim later as (λ _. ⊥) [
        | inl (s, r, refused) ↦ maps_not_refused 2 maps labels fault are refused
        | inr (s, ls, r, again, spends, told) ↦
            made_not_spent now site.name (puts_of labels) site.cells cells imports
            (subst (λ (xs : List Labelled).
            SpendsClock now site.name (puts_of xs) site.cells)
            (same_labels maps ls labels again are)
            (subst (λ (z : SiteState). SpendsClock now z.name (puts_of ls) z.cells)
            (one_site bytes s site r reads) spends))
      ]
    ]

-- an import is refused by one fault
pub one_import : (bytes : List ℕ) (now : ℕ) (maps : List ℕ) (x y : DocFault)
    → RefusesImport bytes now maps x → RefusesImport bytes now maps y → x ≡ y
one_import bytes now maps x y p q = elim p [
  | inl one ↦ elim q [
    | inl other ↦ one_of_site_document 1 bytes x y one other
    | inr later ↦ elim later [
      | inl (s, reads, other) ↦ absurd (site_not_refused 1 bytes s x reads one)
      | inr (s, ls, reads, are, spends, told) ↦
          absurd (site_not_refused 1 bytes s x reads one)
    ]
  ]
  | inr later ↦ elim later [
    | inl (s, reads, two) ↦ elim q [
      | inl other ↦ absurd (site_not_refused 1 bytes s y reads other)
      | inr more ↦ elim more [
        | inl (t, again, other) ↦ one_of_maps 2 maps x y two other
        | inr (t, ls, again, are, spends, told) ↦ absurd (maps_not_refused 2 maps ls x are two)
      ]
    ]
    | inr (s, ls, reads, are, spends, told) ↦ elim q [
      | inl other ↦ absurd (site_not_refused 1 bytes s y reads other)
      | inr more ↦ elim more [
        | inl (t, again, other) ↦ absurd (maps_not_refused 2 maps ls y are other)
        | inr (t, ms, again, seen, spent, same) ↦ told ∙ sym same
      ]
    ]
  ]
]

-- what is updated is not refused
pub update_not_refused : (bytes : List ℕ) (now : ℕ) (old new doc : List ℕ) (fault : DocFault)
    → IsUpdated bytes now old new doc → RefusesUpdate bytes now old new fault → ⊥
update_not_refused bytes now old new doc fault
    (site, before, after, cells, reads, olds, news, (changes, are, makes), is) why =
    elim why as (λ _. ⊥) [
      | inl refused ↦ site_not_refused 1 bytes site fault reads refused
      | inr later ↦ elim later as (λ _. ⊥) [
        | inl (s, r, refused) ↦ maps_not_refused 2 old before fault olds refused
        | inr last ↦ elim last as (λ _. ⊥) [
          | inl (s, b, r, o, refused) ↦ maps_not_refused 3 new after fault news refused
          | inr (s, b, a, r, o, n, (others, are_too, spends), told) ↦
              let same_site = one_site bytes s site r reads in
              let same_old = same_labels old b before o olds in
              let same_new = same_labels new a after n news in
              let too : AreChanges before after site.cells others =
              subst (λ (z : SiteState). AreChanges before after z.cells others) same_site
              (subst (λ (xs : List Labelled). AreChanges xs after s.cells others) same_old
              (subst (λ (xs : List Labelled). AreChanges b xs s.cells others) same_new are_too)) in
              made_not_spent now site.name changes site.cells cells makes
              (subst (λ (cs : List Change). SpendsClock now site.name cs site.cells)
              (one_list before after site.cells others changes too are)
              (subst (λ (z : SiteState). SpendsClock now z.name others z.cells) same_site spends))
        ]
      ]
    ]

-- an update is refused by one fault
pub one_update : (bytes : List ℕ) (now : ℕ) (old new : List ℕ) (x y : DocFault)
    → RefusesUpdate bytes now old new x → RefusesUpdate bytes now old new y → x ≡ y
one_update bytes now old new x y p q = elim p [
  | inl one ↦ elim q [
    | inl other ↦ one_of_site_document 1 bytes x y one other
    | inr later ↦ absurd (site_not_refused 1 bytes (site_in y later).0 x (site_in y later).1 one)
  ]
  | inr later ↦ elim q [
    | inl other ↦
        absurd (site_not_refused 1 bytes (site_in x later).0 y (site_in x later).1 other)
    | inr more ↦ one_later later more
  ]
]
  where
    Later : DocFault → Type 0
    Later fault =
        ((site : SiteState) × ReadsAsSite bytes site × IsOfDocument 2 (RefusesLangMaps old) fault)
        ⊎ (((site : SiteState) × (before : List Labelled) × ReadsAsSite bytes site
        × AreLangMaps old before × IsOfDocument 3 (RefusesLangMaps new) fault)
        ⊎ ((site : SiteState) × (before after : List Labelled) × ReadsAsSite bytes site
        × AreLangMaps old before × AreLangMaps new after
        × SpendsUpdate now site.name before after site.cells
        × (fault ≡ of_no_document (of_site cata.ClockSpent))))

    site_in : (fault : DocFault) → Later fault → (site : SiteState) × ReadsAsSite bytes site
    site_in fault later = elim later [
      | inl (s, reads, two) ↦ (s, reads)
      | inr last ↦ elim last [
        | inl (s, b, reads, olds, three) ↦ (s, reads)
        | inr (s, b, a, reads, olds, news, spends, told) ↦ (s, reads)
      ]
    ]

    one_later : Later x → Later y → x ≡ y
    one_later later more = elim later [
      | inl (s, reads, two) ↦ elim more [
        | inl (t, again, other) ↦ one_of_maps 2 old x y two other
        | inr last ↦ elim last [
          | inl (t, b, again, olds, other) ↦ absurd (maps_not_refused 2 old b x olds two)
          | inr (t, b, a, again, olds, news, spends, told) ↦
              absurd (maps_not_refused 2 old b x olds two)
        ]
      ]
      | inr last ↦ elim last [
        | inl (s, b, reads, olds, three) ↦ elim more [
          | inl (t, again, other) ↦ absurd (maps_not_refused 2 old b y olds other)
          | inr rest ↦ elim rest [
            | inl (t, c, again, seen, other) ↦ one_of_maps 3 new x y three other
            | inr (t, c, a, again, seen, news, spends, told) ↦
                absurd (maps_not_refused 3 new a x news three)
          ]
        ]
        | inr (s, b, a, reads, olds, news, spends, told) ↦ elim more [
          | inl (t, again, other) ↦ absurd (maps_not_refused 2 old b y olds other)
          | inr rest ↦ elim rest [
            | inl (t, c, again, seen, other) ↦ absurd (maps_not_refused 3 new a y news other)
            | inr (t, c, d, again, seen, fresh, spent, same) ↦ told ∙ sym same
          ]
        ]
      ]
    ]
