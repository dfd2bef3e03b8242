-- One label more is put.
use Rattle.std.proofs.Common.{◌≡◌, ◌∙◌, ◌+◌, ◌<◌, ℕ, List, [], ◌∷◌, ◌++◌, ap, drop}
use Rattle.std.proofs.Common.{get_or, inl, inr, length, refl, subst, sym, take}
use Rattle.std.specs.Prelude.{◌⊎◌, Some}
use Rattle.std.proofs.lemmas.List.{take-append-drop}
use Rattle.cell_core.specs.Stamp.{IsNext, NoNext}
use Rattle.cell_core.specs.declared.stamp.Stamp.{Stamp}
use Rattle.catalogue.specs.Entries.{Entries}
use Rattle.catalogue.specs.CatalogueLatest.{latest_of}
use Rattle.cata_core.specs.Site.{RefusesEdit, SiteState}
use Rattle.catalogue.specs.declared.cata_fault.CataFault.{CataFault}
use Rattle.catalogue.specs.declared.cata_fault.CataFault.TheVariants.{ClockSpent, NoMemory}
use Rattle.catalogue.specs.declared.cata_fault.CataFault.TheVariants.{NotForMe, StampReused}
use Rattle.map_docs.specs.Maps.{Labelled}
use Rattle.docs_core.specs.ImportingLabels.{Imports, SpendsImport, puts_of}
use Rattle.docs_core.specs.UpdatingChanges.{Change, Makes, SpendsClock, with_change}
use Rattle.list_core.proofs.Basics.{element_at as first_left}
use Rattle.docs_core.proofs.StampedRowsLemmas.{labels_more, puts_append, puts_more}
use Rattle.docs_core.proofs.UpdatingChangesLemmas.{Makes-append, Spends-append}

module _ (now : ℕ) (name : List ℕ) (items : List Labelled) (i : ℕ) (item : Labelled)
    (below : i < length items) (at : item ≡ get_or items i item) (old mid : Entries)
    (before : Imports now name (take i items) old mid) where
  -- one label more is put
  pub Imports-push : (stamp : Stamp) (new : Entries) → IsNext (latest_of mid) now name stamp
      → new ≡ with_change (item.0, Some item.1) stamp mid
      → Imports now name (take (i + 1) items) old new
  Imports-push stamp new next is =
      subst (λ (es : List Change). Makes now name es old new)
      (sym (ap puts_of (labels_more items i item below at) ∙ puts_more (take i items) item))
      (Makes-append now name (puts_of (take i items)) ((item.0, Some item.1) ∷ []) old mid new
      before (stamp, next, is))

  -- for this one there is no next stamp, so the clock is spent by all
  pub SpendsImport-here : NoNext (latest_of mid) now name → SpendsImport now name items old
  SpendsImport-here none =
      let rest : drop i items ≡ item ∷ drop (i + 1) items = first_left items i item below at in
      subst (λ (es : List Change). SpendsClock now name es old)
      (sym (ap puts_of (sym (take-append-drop i items))
      ∙ puts_append (take i items) (drop i items)))
      (Spends-append now name (puts_of (take i items)) (puts_of (drop i items)) old mid before
      (subst (λ (ls : List Labelled). SpendsClock now name (puts_of ls) mid) (sym rest) (inl none)))

-- where a label is refused those before it are put, and they and the others are all
pub some_put : (now : ℕ) (name : List ℕ) (items : List Labelled) (i : ℕ)
    (labels : List Labelled) (old mid new : Entries) → items ≡ labels
    → Imports now name (take i items) old mid → new ≡ mid
    → (some more : List Labelled) × (labels ≡ some ++ more) × Imports now name some old new
some_put now name items i labels old mid new are before same = (
  (take i items),
  (drop i items),
  sym are ∙ sym (take-append-drop i items),
  subst (λ (es : Entries). Imports now name (take i items) old es) (sym same) before,
)

-- why a label is not put
pub not_put : (site : SiteState) (now : ℕ) (fault : CataFault) → RefusesEdit site now fault
    → (fault ≡ NoMemory) ⊎ ((fault ≡ ClockSpent) × NoNext (latest_of site.cells) now site.name)
not_put site now (StampReused place stamp) h = absurd h
not_put site now ClockSpent h = inr (refl, h)
not_put site now (NotForMe addressee) h = absurd h
not_put site now NoMemory h = inl refl
