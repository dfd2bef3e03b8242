-- The lines of changes, and how many there are.
use Rattle.std.proofs.Common.{◌≡◌, ◌∙◌, ◌+◌, ◌++◌, ℕ, Bool, List, [], ◌∷◌, ap, append_assoc, arith}
use Rattle.std.proofs.Common.{false}
use Rattle.std.proofs.Common.{eqb-true, length, refl, subst, sym, true, true≢false}
use Rattle.std.specs.Prelude.{◌==◌, ◌↔◌, codes, decimal, flat_map, not}
use Rattle.std.specs.FinMap.Entries.{find}
use Rattle.cell_core.specs.inner.KeyedLaws.{same_maps}
use Rattle.catalogue.specs.Changes.{AreChanges, Changed, Sides}
use Rattle.cell_core.specs.Entry.{EntryKey, key_cmp}
use Rattle.cell_core.specs.inner.Entry.{key_cmp_exact, key_cmp_total}
use Rattle.catalogue.specs.Entries.{Entries}
use Rattle.cata_core.specs.Site.{SiteState}
use Rattle.catalogue.proofs.Basics.{append_nil}
use Rattle.catalogue.proofs.ChangesLemmas.{alike_at, one_changes}
use Rattle.site_docs.specs.Reading.{ReadsAsSite}
use Rattle.query_docs.specs.Changes.{IsChanged, change_line, changes_lines, has_change}
use Rattle.query_docs.specs.Lines.{line}
use Rattle.site_docs.proofs.ReadingOneDocument.{one_site}

-- ---- how many

-- the count so far, and that of the changes that are left, are that of all
abbrev pub IsCounting : Entries → Entries → ℕ → Changed → Type 0
IsCounting before after count left =
    (changes : Changed) → AreChanges before after changes → count + length left ≡ length changes

-- none is counted yet
pub counting_first : (before after : Entries) (all : Changed) → AreChanges before after all
    → IsCounting before after 0 all
counting_first before after all are changes others =
    let same = ap length (one_changes before after all changes are others) in
    omega (arith, same)

-- ---- their lines

-- `changes N`
abbrev pub head_line : ℕ → List ℕ
head_line count = line (codes "changes" ++ 32 ∷ decimal count)

-- the lines so far, and those of the changes that are left, are those of all
abbrev pub IsListing : Changed → List ℕ → Changed → Type 0
IsListing changes written left = written ++ flat_map change_line left ≡ changes_lines changes

-- the head is written
pub listing_first : (before after : Entries) (count : ℕ) (written : List ℕ) (left all : Changed)
    → AreChanges before after all → left ≡ all → written ≡ head_line count
    → ((changes : Changed) → AreChanges before after changes → count ≡ length changes)
    → (changes : Changed) → AreChanges before after changes → IsListing changes written left
listing_first before after count written left all are whole head counted changes others =
    ap (λ t. t ++ flat_map change_line left) (head ∙ ap head_line (counted changes others))
    ∙ ap (λ (es : Changed). head_line (length changes) ++ flat_map change_line es)
    (whole ∙ one_changes before after all changes are others)

-- all lines are written
pub listing_last : (changes left : Changed) (written doc : List ℕ)
    → IsListing changes written left → left ≡ [] → doc ≡ written → doc ≡ changes_lines changes
listing_last changes left written doc so none is =
    is ∙ sym (append_nil written) ∙ ap (λ (es : Changed). written ++ flat_map change_line es)
    (sym none)
    ∙ so

-- there is a change where the count is not 0
pub counted_any : (changes : Changed) (count : ℕ) → count ≡ length changes
    → not (count == 0) ≡ has_change changes
counted_any [] count is = ap (λ n. not (n == 0)) is
counted_any (e ∷ es) count is = elim (count == 0) as (λ t. (count == 0) ≡ t → not t ≡ true) [
  | true ↦ λ zero. absurd (let none = eqb-true count 0 zero in omega (arith, none, is))
  | false ↦ λ _. refl
] refl

-- one line more is written
pub listing_next : (changes left rest : Changed) (written more : List ℕ)
    (change : EntryKey × Sides) → IsListing changes written left → left ≡ change ∷ rest
    → more ≡ written ++ change_line change → IsListing changes more rest
listing_next changes left rest written more change so is added =
    ap (λ t. t ++ flat_map change_line rest) added
    ∙ append_assoc written (change_line change) (flat_map change_line rest)
    ∙ ap (λ (es : Changed). written ++ flat_map change_line es) (sym is) ∙ so

-- ---- the same at each key

no_change : (changes : Changed) → has_change changes ≡ false → changes ≡ []
no_change [] none = refl
no_change (e ∷ es) none = absurd (true≢false none)

module _ (before after : Entries) (changes : Changed) (are : AreChanges before after changes) where
  none_where_alike : has_change changes ≡ false
      ↔ ((key : EntryKey) → find key_cmp key before ≡ find key_cmp key after)
  none_where_alike = (
    λ none key. let alike = alike_at before after changes are key in
        alike.0 (ap (find key_cmp key) (no_change changes none)),
    λ same. ap has_change (same_maps key_cmp key_cmp_total key_cmp_exact changes [] are.ascend tt
        (λ key. let alike = alike_at before after changes are key in alike.1 (same key))),
  )

-- nothing changed exactly where both sites have the same at each key
pub nothing_changed : (a b doc : List ℕ) (found : Bool) (before after : SiteState)
    → ReadsAsSite a before → ReadsAsSite b after → IsChanged a b doc found
    → (found ≡ false)
    ↔ ((key : EntryKey) → find key_cmp key before.cells ≡ find key_cmp key after.cells)
nothing_changed a b doc found before after reads others
    (own, other, changes, own_reads, other_reads, are, is, tells) =
    let first = ap (λ (s : SiteState). s.cells) (one_site a own before own_reads reads) in
    let second = ap (λ (s : SiteState). s.cells) (one_site b other after other_reads others) in
    let same = subst (λ (es : Entries). AreChanges before.cells es changes) second
    (subst (λ (es : Entries). AreChanges es other.cells changes) first are) in
    let where_alike = none_where_alike before.cells after.cells changes same in
    (λ none. where_alike.0 (sym tells ∙ none), λ alike. tells ∙ where_alike.1 alike)
