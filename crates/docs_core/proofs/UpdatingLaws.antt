-- What an update leaves.
--
-- An update is a list of changes, each at a key where the old and the new labels differ. A list of
-- changes leaves at its keys what it says, and at all others what was there (`made_at`). Each law
-- is this, read at a key: there the editor left the label as it was, or the site has the new one
-- now. An update made twice finds each new label in its place, so its second list is empty.
use Rattle.std.proofs.Common.{◌≡◌, ◌∙◌, ℕ, true, false, cond, List, [], ◌∷◌, refl, sym, ap, subst}
use Rattle.std.proofs.Common.{inl, inr}
use Rattle.std.specs.Prelude.{◌⊎◌, None, Option, Some}
use Rattle.std.specs.Ordering.{eq_by_cmp}
use Rattle.std.specs.FinMap.Entries.{below_all, find, find-put, is_sorted, is_sorted-put}
use Rattle.cell_core.specs.Keyed.{IsMap}
use Rattle.cell_core.specs.inner.KeyedLaws.{same_maps}
use Rattle.cell_core.specs.declared.cell.Cell.{Cell}
use Rattle.cell_core.specs.Entry.{EntryKey, key_cmp}
use Rattle.cell_core.specs.inner.Entry.{key_cmp_exact, key_cmp_total}
use Rattle.catalogue.specs.Entries.{Entries}
use Rattle.cata_core.specs.Site.{SiteState}
use Rattle.cell_core.proofs.KeyedPlacesLemmas.{find-below}
use Rattle.site_docs.specs.Documents.{site_text}
use Rattle.site_docs.specs.Reading.{ReadsAsSite}
use Rattle.map_docs.specs.MapsLabels.{AreLangMaps}
use Rattle.map_docs.specs.Maps.{Labelled}
use Rattle.query_docs.specs.Exporting.{label_at, live_labels}
use Rattle.query_docs.proofs.ExportingLemmas.{find-live, label_in, live-IsMap}
use Rattle.docs_core.specs.UpdatingChanges.{Change, Makes, with_change}
use Rattle.docs_core.specs.Updating.{AreChanges, IsChangeAt, IsUpdated, Texts, Updates}
use Rattle.map_docs.proofs.MapsLawsLemmas.{same_labels}
use Rattle.site_docs.proofs.ReadingOneDocument.{one_site}
use Rattle.cell_core.proofs.Basics.{first_part, second_part}
use Rattle.catalogue.proofs.CatalogueBestLemmas.{same_key as one_key}
use Rattle.docs_core.proofs.UpdatingLemmas.{one_change}

-- ---- changes that were made

abbrev Left : Entries → Entries → EntryKey → Option Texts → Type 0
Left old new q change =
    (change ≡ None → find key_cmp q new ≡ find key_cmp q old)
    × ((label : Texts) → change ≡ Some label → label_at q new ≡ label)

-- what a list of changes leaves at a key
pub made_at : (now : ℕ) (name : List ℕ) (changes : List Change) (old new : Entries)
    → IsMap key_cmp changes → Makes now name changes old new → (q : EntryKey)
    → Left old new q (find key_cmp q changes)
made_at now name [] old new m is q = (λ _. ap (find key_cmp q) is, λ label e. cc)
made_at now name (e ∷ es) old new m (stamp, next, rest) q =
    let cell : Cell = record { stamp = stamp; label = e.1 } in
    let mid = with_change e stamp old in
    let later =
    made_at now name es mid new
    (second_part (below_all key_cmp e.0 es) (is_sorted key_cmp es) m) rest q in
    elim (eq_by_cmp key_cmp q e.0) as (λ t. eq_by_cmp key_cmp q e.0 ≡ t
    → Left old new q (cond t (Some e.1) (find key_cmp q es))) [
      | true ↦ λ t.
          let none : find key_cmp q es ≡ None =
          ap (λ x. find key_cmp x es) (one_key q e.0 t)
          ∙ find-below key_cmp e.0 es
          (first_part (below_all key_cmp e.0 es) (is_sorted key_cmp es) m) in
          let here : label_at q new ≡ e.1 =
          ap label_in (later.0 none ∙ find-put key_cmp key_cmp_total q e.0 cell old
          ∙ ap (λ u. cond u (Some cell) (find key_cmp q old)) t) in
          (λ no. cc, λ label is. here ∙ cc)
      | false ↦ λ t. (
        λ none. later.0 none ∙ find-put key_cmp key_cmp_total q e.0 cell old
            ∙ ap (λ u. cond u (Some cell) (find key_cmp q old)) t,
        later.1,
      )
    ] refl

-- the keys still ascend after changes
pub made-IsMap : (now : ℕ) (name : List ℕ) (changes : List Change) (old new : Entries)
    → IsMap key_cmp old → Makes now name changes old new → IsMap key_cmp new
made-IsMap now name [] old new m is = subst (IsMap key_cmp) (sym is) m
made-IsMap now name (e ∷ es) old new m (stamp, next, rest) =
    let cell : Cell = record { stamp = stamp; label = e.1 } in
    made-IsMap now name es (with_change e stamp old) new
    (is_sorted-put key_cmp key_cmp_total e.0 cell old m) rest

-- ---- nothing to do

-- the editor left it, or the site has it
quiet : (old new held : Texts) (change : Option Texts) → (old ≡ new) ⊎ (held ≡ new)
    → IsChangeAt old new held change → change ≡ None
quiet old new held change why h = elim h [
  | inl nothing ↦ nothing.1
  | inr done ↦ absurd (elim why [ inl same ↦ done.0 same | inr has ↦ done.1 has ])
]

no_change : (changes : List Change) → IsMap key_cmp changes
    → ((q : EntryKey) → find key_cmp q changes ≡ None) → changes ≡ []
no_change changes m none = same_maps key_cmp key_cmp_total key_cmp_exact changes [] m tt none

nothing_made : (now : ℕ) (name : List ℕ) (changes : List Change) (old new : Entries) → changes ≡ []
    → Makes now name changes old new → new ≡ old
nothing_made now name changes old new none makes =
    subst (λ (es : List Change). Makes now name es old new) none makes

-- ---- the laws

-- there is one list of changes at most
pub one_list : (old new : List Labelled) (cells : Entries) (x y : List Change)
    → AreChanges old new cells x → AreChanges old new cells y → x ≡ y
one_list old new cells x y p q =
    same_maps key_cmp key_cmp_total key_cmp_exact x y p.ascending q.ascending
    (λ k. one_change (find key_cmp k old) (find key_cmp k new) (label_at k cells) (find key_cmp k x)
    (find key_cmp k y) (p.at k) (q.at k))

-- equal labels change nothing
pub equal_nothing : (now : ℕ) (name : List ℕ) (labels : List Labelled) (cells updated : Entries)
    → Updates now name labels labels cells updated → updated ≡ cells
equal_nothing now name labels cells updated (changes, are, makes) =
    nothing_made now name changes cells updated
    (no_change changes are.ascending
    (λ q. quiet (find key_cmp q labels) (find key_cmp q labels) (label_at q cells)
    (find key_cmp q changes) (inl refl) (are.at q))) makes

-- a key whose labels are equal keeps its cell
pub keeps_cell : (now : ℕ) (name : List ℕ) (old new : List Labelled) (cells updated : Entries)
    (q : EntryKey) → Updates now name old new cells updated
    → find key_cmp q old ≡ find key_cmp q new
    → find key_cmp q updated ≡ find key_cmp q cells
keeps_cell now name old new cells updated q (changes, are, makes) same =
    let left = made_at now name changes cells updated are.ascending makes q in
    left.0 (quiet (find key_cmp q old) (find key_cmp q new) (label_at q cells)
    (find key_cmp q changes) (inl same) (are.at q))

-- at each key the editor left the label, or the site has the new one now
new_or_left : (now : ℕ) (name : List ℕ) (old new : List Labelled) (cells updated : Entries)
    (q : EntryKey) → Updates now name old new cells updated
    → ((find key_cmp q old ≡ find key_cmp q new) × (find key_cmp q updated ≡ find key_cmp q cells))
    ⊎ (label_at q updated ≡ find key_cmp q new)
new_or_left now name old new cells updated q (changes, are, makes) =
    let left = made_at now name changes cells updated are.ascending makes q in
    elim (are.at q) [
      | inl nothing ↦ elim nothing.0 [
        | inl same ↦ inl (same, left.0 nothing.1)
        | inr has ↦ inr (ap label_in (left.0 nothing.1) ∙ has)
      ]
      | inr done ↦ inr (left.1 (find key_cmp q new) done.2)
    ]

-- an update of the live labels brings the new ones
pub brings_new : (now : ℕ) (name : List ℕ) (new : List Labelled) (cells updated : Entries)
    → IsMap key_cmp cells → IsMap key_cmp new
    → Updates now name (live_labels cells) new cells updated
    → live_labels updated ≡ new
brings_new now name new cells updated m n (changes, are, makes) =
    let after = made-IsMap now name changes cells updated m makes in
    same_maps key_cmp key_cmp_total key_cmp_exact (live_labels updated) new
    (live-IsMap updated after) n
    (λ q. find-live q updated after
    ∙ elim (new_or_left now name (live_labels cells) new cells updated q
    (changes, are, makes)) [
      | inl kept ↦ ap label_in kept.1 ∙ sym (find-live q cells m) ∙ kept.0
      | inr has ↦ has
    ])

-- an update that is made twice is made once
pub twice_once : (now later : ℕ) (name : List ℕ) (old new : List Labelled)
    (cells once twice : Entries) → Updates now name old new cells once
    → Updates later name old new once twice → twice ≡ once
twice_once now later name old new cells once twice first (changes, are, makes) =
    nothing_made later name changes once twice
    (no_change changes are.ascending
    (λ q. quiet (find key_cmp q old) (find key_cmp q new) (label_at q once)
    (find key_cmp q changes)
    (elim (new_or_left now name old new cells once q first) [
      | inl kept ↦ inl kept.0
      | inr has ↦ inr has
    ]) (are.at q))) makes

-- ---- the same of documents

abbrev with_cells : SiteState → Entries → SiteState
with_cells site cells = record { name = site.name; cells = cells }

-- equal labels leave the document of the site
pub equal_document : (bytes old new doc : List ℕ) (now : ℕ) (site : SiteState)
    (labels : List Labelled) → ReadsAsSite bytes site → AreLangMaps old labels
    → AreLangMaps new labels
    → IsUpdated bytes now old new doc → doc ≡ site_text site
equal_document bytes old new doc now site labels reads olds news
    (own, before, after, cells, own_reads, befores, afters, updates, written) =
    let was = same_labels old before labels befores olds in
    let is_now = same_labels new after labels afters news in
    let updated =
    subst (λ (ls : List Labelled). Updates now own.name ls labels own.cells cells) was
    (subst (λ (ls : List Labelled). Updates now own.name before ls own.cells cells) is_now
    updates) in
    written.0
    ∙ ap (λ (es : Entries). site_text (with_cells own es))
    (equal_nothing now own.name labels own.cells cells updated)
    ∙ ap site_text (one_site bytes own site own_reads reads)

-- a document that is updated twice is updated once
pub twice_document : (bytes old new once twice : List ℕ) (now later : ℕ)
    → IsUpdated bytes now old new once → IsUpdated once later old new twice → twice ≡ once
twice_document bytes old new once twice now later
    (site, before, after, cells, reads, befores, afters, updates, written)
    (own, olds, news, last, own_reads, are_olds, are_news, more, again) =
    let same : own ≡ with_cells site cells =
    one_site once own (with_cells site cells) own_reads written.1 in
    let was = same_labels old olds before are_olds befores in
    let is_now = same_labels new news after are_news afters in
    let on : Updates later site.name before after cells last =
    subst (λ (s : SiteState). Updates later s.name before after s.cells last) same
    (subst (λ (ls : List Labelled). Updates later own.name ls after own.cells last) was
    (subst (λ (ls : List Labelled). Updates later own.name olds ls own.cells last) is_now
    more)) in
    again.0 ∙ ap (λ (s : SiteState). site_text (with_cells s last)) same
    ∙ ap (λ (es : Entries). site_text (with_cells site es))
    (twice_once now later site.name before after site.cells cells last updates on)
    ∙ sym written.0
