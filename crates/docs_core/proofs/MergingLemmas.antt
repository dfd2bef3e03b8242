-- Documents that are merged one after another.
--
-- `IsMergedTo` is the invariant of the loop over the lines of the input: the documents before the
-- lines left are as many as its number says, and the site so far is their merge. The first document
-- starts it, each further one adds its site at the end of the list, and where one is refused the
-- invariant says what was merged before it, as the contract of a refusal wants.
use Rattle.std.proofs.Common.{◌≡◌, ◌∙◌, ◌<◌, ◌≤◌, ◌+◌, ℕ, List, [], ◌∷◌, ◌++◌, ap}
use Rattle.std.proofs.Common.{append_assoc, arith, inl, inr, length, length-append, refl}
use Rattle.std.proofs.Common.{subst, sym}
use Rattle.std.specs.Prelude.{◌⊎◌}
use Rattle.std.specs.List.{AllZip}
use Rattle.std.proofs.lemmas.List.Elements.{All-nil, All-push}
use Rattle.catalogue.specs.Entries.{Agree, Entries, joined}
use Rattle.cata_core.specs.Site.{SiteState}
use Rattle.json_docs.specs.declared.fault.DocFault.{DocFault}
use Rattle.row_docs.specs.Reading.{IsOfDocument}
use Rattle.site_docs.specs.Reading.{ReadsAsSite, RefusesSite}
use Rattle.site_docs.specs.Checks.{LacksNoOwn}
use Rattle.site_docs.specs.declared.checks.Checks.{Checks}
use Rattle.docs_core.specs.Lines.{AreDocuments, documents_of, lines_of, one_at_least}
use Rattle.docs_core.specs.Merging.{AreMerged, RefusesMerge, RefusesOther, joined_all, merged_site}
use Rattle.docs_core.specs.inner.Merging.{JoinsOther}
use Rattle.site_docs.specs.RowsInTime.{AreInTime}
use Rattle.docs_core.proofs.LinesLemmas.{document_cut, few_lines}

-- ---- lists

-- a list without items has none
pub none_in : {X : Type 0} (before : List X) (x : X) (after : List X) → [] ≡ before ++ x ∷ after → ⊥
none_in before x after e =
    let size = length-append before (x ∷ after) in
    let same = ap length e in absurd (omega (arith, size, same))

-- an item of a list with one more is one of the list, or that one
pub split_push : {X : Type 0} (xs : List X) (x : X) (before : List X) (y : X) (after : List X)
    → xs ++ x ∷ [] ≡ before ++ y ∷ after
    → ((before ≡ xs) × (y ≡ x)) ⊎ ((more : List X) × (xs ≡ before ++ y ∷ more))
split_push [] x [] y after e = let same : y ≡ x = cc in inl (refl, same)
split_push [] x (b ∷ before) y after e = let rest : [] ≡ before ++ y ∷ after = cc in
    absurd (none_in before y after rest)
split_push (z ∷ xs) x [] y after e = let same : z ≡ y = cc in
    inr (xs, ap (λ w. w ∷ xs) same)
split_push (z ∷ xs) x (b ∷ before) y after e =
    let head : z ≡ b = cc in
    let tail : xs ++ x ∷ [] ≡ before ++ y ∷ after = cc in
    elim (split_push xs x before y after tail) [
      | inl here ↦ inl (λ i. sym head i ∷ here.0 i, here.1)
      | inr later ↦ inr (later.0, λ i. head i ∷ later.1 i)
    ]

-- two lists with one more each, item by item
pub zip_push : {X Y : Type 0} (R : X → Y → Type 0) (xs : List X) (ys : List Y) (x : X) (y : Y)
    → AllZip R xs ys → R x y → AllZip R (xs ++ x ∷ []) (ys ++ y ∷ [])
zip_push R [] [] x y all one = (one, tt)
zip_push R [] (b ∷ ys) x y all one = absurd all
zip_push R (a ∷ xs) [] x y all one = absurd all
zip_push R (a ∷ xs) (b ∷ ys) x y all one = (all.0, zip_push R xs ys x y all.1 one)

-- lists that belong together have as many items
pub zip_length : {X Y : Type 0} (R : X → Y → Type 0) (xs : List X) (ys : List Y) → AllZip R xs ys
    → length xs ≡ length ys
zip_length R [] [] all = refl
zip_length R [] (b ∷ ys) all = absurd all
zip_length R (a ∷ xs) [] all = absurd all
zip_length R (a ∷ xs) (b ∷ ys) all = let rest = zip_length R xs ys all.1 in omega (arith, rest)

-- ---- one document more

-- the cells of one site more
pub joined_push : (cells : Entries) (sites : List SiteState) (site : SiteState)
    → joined_all cells (sites ++ site ∷ []) ≡ joined (joined_all cells sites) site.cells
joined_push cells [] site = refl
joined_push cells (s ∷ sites) site = joined_push (joined cells s.cells) sites site

-- the first document alone
pub merged_first : (checks : Checks) (document : List ℕ) (first : SiteState)
    → ReadsAsSite document first → AreMerged checks (document ∷ []) first []
merged_first checks document first reads = record {
  read = (reads, tt);
  in_time = All-nil (λ (other : SiteState). AreInTime checks.not_after other.cells);
  own = λ before other after e. absurd (none_in before other after e);
  agree = λ before other after e. absurd (none_in before other after e);
}

-- one document more
pub merged_more : (checks : Checks) (documents : List (List ℕ)) (first : SiteState)
    (others : List SiteState) (document : List ℕ) (other : SiteState)
    → AreMerged checks documents first others → ReadsAsSite document other
    → AreInTime checks.not_after other.cells
    → LacksNoOwn checks.own_edits (merged_site first others) other.cells
    → Agree (joined_all first.cells others) other.cells
    → AreMerged checks (documents ++ document ∷ []) first (others ++ other ∷ [])
merged_more checks documents first others document other so reads in_time none agree = record {
  read = zip_push ReadsAsSite documents (first ∷ others) document other so.read reads;
  in_time =
      All-push (λ (o : SiteState). AreInTime checks.not_after o.cells) others other so.in_time
      in_time;
  own = λ before site after e. elim (split_push others other before site after e) as
      (λ _. LacksNoOwn checks.own_edits (merged_site first before) site.cells) [
        | inl here ↦ subst
            (λ (s : SiteState). LacksNoOwn checks.own_edits (merged_site first before) s.cells)
            (sym here.1) (subst (λ (b : List SiteState).
            LacksNoOwn checks.own_edits (merged_site first b) other.cells) (sym here.0) none)
        | inr later ↦ so.own before site later.0 later.1
      ];
  agree = λ before site after e. elim (split_push others other before site after e) as
      (λ _. Agree (joined_all first.cells before) site.cells) [
        | inl here ↦ subst (λ (s : SiteState). Agree (joined_all first.cells before) s.cells)
            (sym here.1) (subst (λ (b : List SiteState). Agree (joined_all first.cells b)
            other.cells) (sym here.0) agree)
        | inr later ↦ so.agree before site later.0 later.1
      ];
}

-- ---- the documents so far

-- the documents before the lines that are left are as many as the number says, and the site is
-- their merge
pub record IsMergedTo (checks : Checks) (input : List ℕ) (left : List (List ℕ)) (number : ℕ)
    (site : SiteState) : Type 0 where
  pub before : List (List ℕ)
  pub first : SiteState
  pub others : List SiteState
  pub documents_are : documents_of input ≡ before ++ left
  pub number_is : length before ≡ number
  pub merged : AreMerged checks before first others
  pub site_is : site ≡ merged_site first others

module _ (checks : Checks) (input : List ℕ) where
  -- the first document was read
  pub merge_starts : (document rest : List ℕ) (left : List (List ℕ)) (site : SiteState)
      → AreDocuments input document rest → left ≡ lines_of rest → ReadsAsSite document site
      → IsMergedTo checks input left 1 site
  merge_starts document rest left site are lines reads = record {
    before = document ∷ [];
    first = site;
    others = [];
    documents_are =
        document_cut input document rest are
        ∙ ap (λ (ls : List (List ℕ)). document ∷ ls) (sym lines);
    number_is = refl;
    merged = merged_first checks document site reads;
    site_is = refl;
  }

  -- one document more was merged
  pub merge_goes_on : (left rest : List (List ℕ)) (document : List ℕ) (number next : ℕ)
      (site joins : SiteState) → IsMergedTo checks input left number site → left ≡ document ∷ rest
      → next ≡ number + 1 → JoinsOther checks document site joins
      → IsMergedTo checks input rest next joins
  merge_goes_on left rest document number next site joins so is counts
      (other, reads, in_time, none, agree, new) =
      let cells : site.cells ≡ joined_all so.first.cells so.others =
      ap (λ (s : SiteState). s.cells) so.site_is in
      let size = length-append so.before (document ∷ []) in
      let was = so.number_is in record {
        before = so.before ++ document ∷ [];
        first = so.first;
        others = so.others ++ other ∷ [];
        documents_are =
            so.documents_are ∙ ap (λ (ls : List (List ℕ)). so.before ++ ls) is
            ∙ sym (append_assoc so.before (document ∷ []) rest);
        number_is = omega (arith, size, was, counts);
        merged = merged_more checks so.before so.first so.others document other so.merged reads
            in_time (subst (λ (s : SiteState). LacksNoOwn checks.own_edits s other.cells) so.site_is
            none) (subst (λ (es : Entries). Agree es other.cells) cells agree);
        site_is = new
            ∙ ap (λ (s : SiteState). let r : SiteState =
            record { name = s.name; cells = joined s.cells other.cells } in r) so.site_is
            ∙ (λ i. let r : SiteState = record {
              name = so.first.name;
              cells = sym (joined_push so.first.cells so.others other) i;
            } in r);
      }

  -- the next document is refused
  pub merge_refused : (left rest : List (List ℕ)) (document : List ℕ) (number next : ℕ)
      (site : SiteState) (fault : DocFault) → IsMergedTo checks input left number site
      → left ≡ document ∷ rest → next ≡ number + 1
      → RefusesOther checks next site document fault
      → RefusesMerge checks input fault
  merge_refused left rest document number next site fault so is counts why =
      let was = so.number_is in
      let place : next ≡ length so.before + 1 = omega (arith, was, counts) in (
        so.before,
        document,
        rest,
        so.documents_are ∙ ap (λ (ls : List (List ℕ)). so.before ++ ls) is,
        inr (
          so.first,
          so.others,
          so.merged,
          subst (λ (n : ℕ). RefusesOther checks n (merged_site so.first so.others) document
              fault) place (subst (λ (s : SiteState). RefusesOther checks next s document fault)
              so.site_is why),
        ),
      )

  -- the first document is refused
  pub first_refused : (document rest : List ℕ) (fault : DocFault)
      → AreDocuments input document rest → IsOfDocument 1 (RefusesSite document) fault
      → RefusesMerge checks input fault
  first_refused document rest fault are why = (
    [],
    document,
    lines_of rest,
    document_cut input document rest are,
    inl (refl, why),
  )

  -- the number of the next document fits
  pub next_fits : (left rest : List (List ℕ)) (document : List ℕ) (number : ℕ) (site : SiteState)
      → IsMergedTo checks input left number site → left ≡ document ∷ rest
      → number + 1 ≤ length input
  next_fits left rest document number site so is =
      let size = length-append so.before left in
      let parts = ap length so.documents_are in
      let more = ap length is in
      let some = zip_length ReadsAsSite so.before (so.first ∷ so.others) so.merged.read in
      let was = so.number_is in
      several (lines_of input) (length input) (few_lines input)
      (omega (arith, size, parts, more, some, was))
      (omega (arith, size, parts, more, some, was))
    where
      several : (lines : List (List ℕ)) (n : ℕ) → length lines ≤ n
          → 1 < length (one_at_least lines) → number + 1 ≤ length (one_at_least lines)
          → number + 1 ≤ n
      several [] n few some fits = absurd (omega (arith, some))
      several (l ∷ ls) n few some fits = omega (arith, few, fits)
