-- Walks that look for the first place where two catalogues do not agree.
--
-- `IsAgreed` is the invariant: the first entries of both agree, and these are left. A key that one
-- map has alone agrees with anything, so it is passed over; a common key whose cells agree too. At
-- the first that does not, its place is the first clash, as all before it agree. The walk goes
-- message by message, and the place within a message is added to the number of cells before it.
use Rattle.std.proofs.Common.{◌≡◌, ℕ, zero, suc, ◌+◌, ◌-◌, ◌<◌, ◌≤◌, List, [], ◌∷◌, ◌++◌, length}
use Rattle.std.proofs.Common.{length-append, drop, Option, Some, None, inl, inr, refl, sym, ap, ◌∙◌}
use Rattle.std.proofs.Common.{subst, arith}
use Rattle.std.specs.Prelude.{slice_get}
use Rattle.std.specs.Option.{option_map}
use Rattle.std.proofs.lemmas.Option.{slice_get-map, slice_get_within}
use Rattle.std.proofs.lemmas.Bool.{cases_lt}
use Rattle.std.specs.declared.cmp.Ordering.{Ordering}
use Rattle.std.specs.declared.cmp.Ordering.TheVariants.{Equal}
use Rattle.std.specs.Cmp.{IsTotalOrder}
use Rattle.std.specs.Cmp.Lexicographic.{nat_list_cmp_total}
use Rattle.std.specs.FinMap.Entries.{find}
use Rattle.cell_core.specs.declared.cell.Cell.{Cell}
use Rattle.cell_core.specs.declared.stamp.Stamp.{Stamp}
use Rattle.cell_core.specs.Cell.{AgreeCells}
use Rattle.cell_core.specs.Keyed.{IsMap, AgreeMaps, AgreeIfBoth}
use Rattle.cell_core.specs.inner.KeyedPlaces.{place_of}
use Rattle.cell_core.specs.Entry.{EntryKey, text_cmp, key_cmp}
use Rattle.cell_core.specs.inner.Entry.{key_cmp_total, key_cmp_exact}
use Rattle.catalogue.specs.Entries.{Entry, Agree}
use Rattle.catalogue.specs.CatalogueFlat.{under, flat}
use Rattle.catalogue.specs.inner.CatalogueFlat.{found_in}
use Rattle.catalogue.specs.CatalogueNested.{Inner, Nested, IsCatalogue}
use Rattle.catalogue.specs.inner.CatalogueNested.{IsCountable}
use Rattle.catalogue.specs.Clash.{AgreesAt, IsFirstClash}
use Rattle.catalogue.proofs.Basics.{slice_get-front, some_same}
use Rattle.catalogue.proofs.CatalogueFlatLemmas.{find-flat}
use Rattle.catalogue.proofs.CatalogueNestedLemmas.{IsMap-catalogue}
use Rattle.catalogue.proofs.PlacesKeyLemmas.{stands_at_place}
use Rattle.catalogue.proofs.CatalogueLengthsLemmas.{length-under}
use Rattle.catalogue.proofs.PlacesNestedLemmas.{with_outer}

-- ---- what follows a place

module _ {X : Type 0} where
  slice_get-drop : (xs : List X) (n j : ℕ) → slice_get xs (n + j) ≡ slice_get (drop n xs) j
  slice_get-drop xs zero j = let same : 0 + j ≡ j = omega arith in ap (slice_get xs) same
  slice_get-drop [] (suc n) j = refl
  slice_get-drop (x ∷ xs) (suc n) j = let same : suc n + j ≡ suc (n + j) = omega arith in
      ap (slice_get (x ∷ xs)) same ∙ slice_get-drop xs n j

  past : (us bs : List X) → drop (length us) (us ++ bs) ≡ bs
  past [] bs = refl
  past (u ∷ us) bs = past us bs

  drop_behind : (xs : List X) (n : ℕ) (ys zs : List X) → drop n xs ≡ ys ++ zs
      → drop (n + length ys) xs ≡ zs
  drop_behind xs zero ys zs is = let same : 0 + length ys ≡ length ys = omega arith in
      ap (λ n. drop n xs) same ∙ ap (drop (length ys)) is ∙ past ys zs
  drop_behind [] (suc n) [] zs is = let same : suc n + 0 ≡ suc n = omega arith in
      ap (λ m. drop m []) same ∙ is
  drop_behind [] (suc n) (y ∷ ys) zs is = absurd (cc)
  drop_behind (x ∷ xs) (suc n) ys zs is = let same : suc n + length ys ≡ suc (n + length ys) =
      omega arith in ap (λ m. drop m (x ∷ xs)) same ∙ drop_behind xs n ys zs is

  drop_within : (xs : List X) (n : ℕ) (ys zs : List X) → drop n xs ≡ ys ++ zs → n ≤ length xs
      → n + length ys ≤ length xs
  drop_within xs zero ys zs = λ is le. omega (arith, ap length is, length-append ys zs)
  drop_within [] (suc n) ys zs = λ is le. absurd (omega (arith, le))
  drop_within (x ∷ xs) (suc n) ys zs =
      λ is le. omega (arith, drop_within xs n ys zs is (omega (arith, le)))

  drop_none : (xs : List X) (n : ℕ) → drop n xs ≡ [] → length xs ≤ n
  drop_none [] n = λ is. omega arith
  drop_none (x ∷ xs) zero = λ is. absurd (cc)
  drop_none (x ∷ xs) (suc n) = λ is. omega (arith, drop_none xs n is)

-- ---- how far two maps agree

-- the first `front` entries agree, and these are left
pub record IsAgreed {K : Type 0} (cmp : K → K → Ordering) (own other left : List (K × Cell))
    (front : ℕ) : Type 0 where
  pub rest : drop front own ≡ left
  pub within : front ≤ length own
  pub agrees : (j : ℕ) → j < front → AgreesAt cmp own other j

module _ {K : Type 0} (cmp : K → K → Ordering) (own other : List (K × Cell)) where
  here : (xs left : List (K × Cell)) (n j : ℕ) → drop n own ≡ xs ++ left → j < length xs
      → slice_get own (n + j) ≡ slice_get xs j
  here xs left n j is lt =
      slice_get-drop own n j ∙ ap (λ ys. slice_get ys j) is ∙ slice_get-front xs left j lt

  -- some more that agree
  pub agreed_more : (xs left : List (K × Cell)) (n : ℕ) → IsAgreed cmp own other (xs ++ left) n
      → ((j : ℕ) → j < length xs → AgreesAt cmp xs other j)
      → IsAgreed cmp own other left (n + length xs)
  agreed_more xs left n h agree = record {
    rest = drop_behind own n xs left h.rest;
    within = drop_within own n xs left h.rest h.within;
    agrees = λ j lt. elim (cases_lt j n) as (λ _. AgreesAt cmp own other j) [
      | inl front ↦ h.agrees j front
      | inr behind ↦ λ k c d at found.
          let i : ℕ = j - n in
          let within : i < length xs = omega (arith, lt, behind) in
          let place : n + i ≡ j = omega (arith, behind) in
          agree i within k c d
          (sym (here xs left n i h.rest within) ∙ ap (slice_get own) place ∙ at) found
    ];
  }

  -- one more that agrees
  pub agreed_one : (k : K) (c : Cell) (left : List (K × Cell)) (n : ℕ)
      → IsAgreed cmp own other ((k, c) ∷ left) n
      → ((d : Cell) → find cmp k other ≡ Some d → AgreeCells c d)
      → IsAgreed cmp own other left (n + 1)
  agreed_one k c left n h agree = agreed_more ((k, c) ∷ []) left n h (λ j lt q a d at found.
      let zeroth : j ≡ 0 = omega (arith, lt) in
      let pair : (k, c) ≡ (q, a) =
      some_same (k, c) (q, a) (ap (slice_get ((k, c) ∷ [])) (sym zeroth) ∙ at) in
      let value : c ≡ a = ap (λ (p : K × Cell). p.1) pair in
      subst (λ x. AgreeCells x d) value
      (agree d (ap (λ (p : K × Cell). find cmp p.0 other) pair ∙ found)))

  -- the first that does not
  pub clash_in : (xs left : List (K × Cell)) (n at : ℕ) (k : K) (c d : Cell) (stamp : Stamp)
      → IsAgreed cmp own other (xs ++ left) n → at < length xs
      → ((j : ℕ) → j < at → AgreesAt cmp xs other j)
      → slice_get xs at ≡ Some (k, c) → find cmp k other ≡ Some d → ¬ (AgreeCells c d)
      → c.stamp ≡ stamp → IsFirstClash cmp own other (n + at) stamp
  clash_in xs left n at k c d stamp h within agree there found differ has = record {
    before = λ j lt. elim (cases_lt j n) as (λ _. AgreesAt cmp own other j) [
      | inl front ↦ h.agrees j front
      | inr behind ↦ λ q a b is held.
          let i : ℕ = j - n in
          let less : i < at = omega (arith, lt, behind) in
          let inside : i < length xs = omega (arith, less, within) in
          let place : n + i ≡ j = omega (arith, behind) in
          agree i less q a b (sym (here xs left n i h.rest inside) ∙ ap (slice_get own) place ∙ is)
          held
    ];
    key = k;
    mine = c;
    theirs = d;
    held = here xs left n at h.rest within ∙ there;
    other_has = found;
    differ = differ;
    stamp_there = has;
  }

  -- where the next one does not agree, it is the first clash
  pub clash_one : (k : K) (c d : Cell) (left : List (K × Cell)) (n : ℕ) (stamp : Stamp)
      → IsAgreed cmp own other ((k, c) ∷ left) n → find cmp k other ≡ Some d → ¬ (AgreeCells c d)
      → stamp ≡ c.stamp → IsFirstClash cmp own other n stamp
  clash_one k c d left n stamp h found differ has =
      let same : n + 0 ≡ n = omega arith in
      subst (λ m. IsFirstClash cmp own other m stamp) same
      (clash_in ((k, c) ∷ []) left n 0 k c d stamp h (omega arith)
      (λ j lt. absurd (omega (arith, lt))) refl found differ (sym has))

  -- where none is left, all agree
  pub agreed_all : (n : ℕ) → IsAgreed cmp own other [] n → (j : ℕ) → j < length own
      → AgreesAt cmp own other j
  agreed_all n h j lt = h.agrees j (omega (arith, lt, drop_none own n h.rest))

  -- maps that agree at each place agree
  pub agree_from_places : IsTotalOrder cmp → ((x y : K) → cmp x y ≡ Equal → x ≡ y) → IsMap cmp own
      → IsMap cmp other → ((j : ℕ) → j < length own → AgreesAt cmp own other j)
      → AgreeMaps cmp AgreeCells own other
  agree_from_places total exact m n h =
      inr (record {
        first = m;
        second = n;
        at =
            λ q. at_key q (find cmp q own) (find cmp q other) refl refl;
      })
    where
      at_key : (q : K) (a b : Option Cell) → find cmp q own ≡ a → find cmp q other ≡ b
          → AgreeIfBoth AgreeCells a b
      at_key q None b e f = tt
      at_key q (Some c) None e f = tt
      at_key q (Some c) (Some d) e f =
          let at = stands_at_place cmp exact total q own c m e in
          h (place_of cmp q own) (slice_get_within own (place_of cmp q own) (q, c) at) q c d at f

-- ---- message by message

module _ (own other : Nested) (id : List ℕ) (cells : Inner) (left : Nested) (n : ℕ)
    (sorted : IsMap text_cmp other)
    (h : IsAgreed key_cmp (flat own) (flat other) (flat ((id, cells) ∷ left)) n) where
  in_message : (o : Option (List ℕ × Cell)) (q : EntryKey) (c d : Cell)
      → ((l : List ℕ) (x y : Cell) → o ≡ Some (l, x)
      → found_in text_cmp l (find text_cmp id other) ≡ Some y → AgreeCells x y)
      → option_map (with_outer id) o ≡ Some (q, c)
      → found_in text_cmp q.1 (find text_cmp q.0 other) ≡ Some d → AgreeCells c d
  in_message None q c d agree at g = absurd (cc)
  in_message (Some e) q c d agree at g =
      let pair : ((id, e.0), e.1) ≡ (q, c) = some_same ((id, e.0), e.1) (q, c) at in
      let value : e.1 ≡ c = ap (λ (p : Entry). p.1) pair in
      subst (λ x. AgreeCells x d) value
      (agree e.0 e.1 d refl
      (ap (λ (p : Entry). found_in text_cmp p.0.1 (find text_cmp p.0.0 other)) pair ∙ g))

  agrees_under : (j : ℕ)
      → ((l : List ℕ) (x y : Cell) → slice_get cells j ≡ Some (l, x)
      → found_in text_cmp l (find text_cmp id other) ≡ Some y → AgreeCells x y)
      → AgreesAt key_cmp (under id cells) (flat other) j
  agrees_under j agree =
      λ q c d at found. in_message (slice_get cells j) q c d agree
      (sym (slice_get-map (with_outer id) cells j) ∙ at)
      (sym (find-flat text_cmp text_cmp nat_list_cmp_total other sorted q) ∙ found)

  agreed_message :
      ((j : ℕ) → j < length cells → (l : List ℕ) (x y : Cell) → slice_get cells j ≡ Some (l, x)
      → found_in text_cmp l (find text_cmp id other) ≡ Some y → AgreeCells x y)
      → IsAgreed key_cmp (flat own) (flat other) (flat left) (n + length cells)
  agreed_message agree =
      subst (λ m. IsAgreed key_cmp (flat own) (flat other) (flat left) (n + m))
      (length-under id cells)
      (agreed_more key_cmp (flat own) (flat other) (under id cells) (flat left) n h
      (λ j lt. agrees_under j (agree j (subst (λ m. j < m) (length-under id cells) lt))))

  -- a message that the other has not, and one that it has
  pub agreed_without : find text_cmp id other ≡ None
      → IsAgreed key_cmp (flat own) (flat other) (flat left) (n + length cells)
  agreed_without none =
      agreed_message
      (λ j lt l x y at found. let no : Some y ≡ None = sym found ∙ ap (found_in text_cmp l) none in
      absurd (cc))

  -- a message that both have, whose cells agree
  pub agreed_with : (others : Inner) → find text_cmp id other ≡ Some others
      → ((j : ℕ) → j < length cells → AgreesAt text_cmp cells others j)
      → IsAgreed key_cmp (flat own) (flat other) (flat left) (n + length cells)
  agreed_with others there agree =
      agreed_message
      (λ j lt l x y at found. agree j lt l x y at (ap (found_in text_cmp l) (sym there) ∙ found))

  -- the first clash in a message is the first of all, where there is none before it
  pub clash_with : (others : Inner) → find text_cmp id other ≡ Some others
      → (at : ℕ) (stamp : Stamp) → IsFirstClash text_cmp cells others at stamp
      → IsFirstClash key_cmp (flat own) (flat other) (n + at) stamp
  clash_with others there at stamp clash =
      let within : at < length cells =
      slice_get_within cells at (clash.key, clash.mine) clash.held in
      clash_in key_cmp (flat own) (flat other) (under id cells) (flat left) n at (id, clash.key)
      clash.mine clash.theirs stamp h (subst (λ m. at < m) (sym (length-under id cells)) within)
      (λ j lt. agrees_under j
      (λ l x y here found. clash.before j lt l x y here
      (ap (found_in text_cmp l) (sym there) ∙ found)))
      (slice_get-map (with_outer id) cells at ∙ ap (option_map (with_outer id)) clash.held)
      (find-flat text_cmp text_cmp nat_list_cmp_total other sorted (id, clash.key)
      ∙ ap (found_in text_cmp clash.key) there ∙ clash.other_has) clash.differ clash.stamp_there

  -- the places of a message's cells fit where all cells are countable
  pub front_fits : IsCountable own → n + length cells < 340282366920938463463374607431768211456
  front_fits fits =
      omega (
        arith,
        fits,
        length-under id cells,
        drop_within (flat own) n (under id cells)
            (flat left) h.rest h.within,
      )

-- Two catalogues agree where a walk without a clash has no entry left.
pub agreed_catalogues : (own other : Nested) (n : ℕ) → IsCatalogue own → IsCatalogue other
    → IsAgreed key_cmp (flat own) (flat other) [] n → Agree (flat own) (flat other)
agreed_catalogues own other n m k h =
    agree_from_places key_cmp (flat own) (flat other) key_cmp_total key_cmp_exact
    (IsMap-catalogue own m) (IsMap-catalogue other k)
    (agreed_all key_cmp (flat own) (flat other) n h)
