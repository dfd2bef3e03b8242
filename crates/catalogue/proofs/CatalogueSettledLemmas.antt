-- Settled lists: one after the other is settled exactly where their catalogues agree.
use Rattle.std.proofs.Common.{◌≡◌, ◌≢◌, Bool, cond, List, [], ◌∷◌, ◌++◌, Option, Some, None, inl}
use Rattle.std.proofs.Common.{inr, refl, sym, ap, ◌∙◌, subst}
use Rattle.std.specs.Prelude.{◌↔◌, Contains}
use Rattle.std.specs.declared.cmp.Ordering.TheVariants.{Less}
use Rattle.std.specs.FinMap.Entries.{find}
use Rattle.cell_core.specs.declared.cell.Cell.{Cell}
use Rattle.cell_core.specs.Stamp.{stamp_cmp}
use Rattle.cell_core.specs.Cell.{AgreeCells}
use Rattle.cell_core.specs.inner.Cell.{cell_laws}
use Rattle.cell_core.specs.Keyed.{AgreeIfBoth}
use Rattle.cell_core.specs.inner.KeyedLaws.{at_of}
use Rattle.cell_core.specs.Entry.{EntryKey, key_cmp}
use Rattle.cell_core.specs.inner.Entry.{key_cmp_total, key_cmp_exact}
use Rattle.catalogue.specs.Entries.{Entry, Agree}
use Rattle.catalogue.specs.Entries.{joined}
use Rattle.catalogue.specs.Edits.{IsBest, entries_of, catalogue_of, IsSettled, IsConsistent}
use Rattle.catalogue.proofs.EditStampOrderLemmas.{not_less_self, same_stamp}
use Rattle.catalogue.proofs.CatalogueMembersLemmas.{In, in_from_Contains, Contains-from_in}
use Rattle.catalogue.proofs.CatalogueMembersLemmas.{in_append_cases}
use Rattle.catalogue.proofs.CatalogueBestLemmas.{best_in, best_of_first, best_of_second}
use Rattle.catalogue.proofs.CatalogueBestLemmas.{best_in_first}
use Rattle.catalogue.proofs.CatalogueBestLemmas.{best_in_second, above_best, is_best_of}
use Rattle.catalogue.proofs.CatalogueLemmas.{catalogue_of-IsMap, found_best, best_found}
use Rattle.catalogue.proofs.CatalogueJoinsLemmas.{joined_catalogue}

same_cell : (c d : Cell) → c.stamp ≡ d.stamp → c.label ≡ d.label → c ≡ d
same_cell c d s l = λ i. record { stamp = s i; label = l i }

-- best edits of one key have one stamp
level : (xs : List Entry) (k : EntryKey) (c d : Cell) → IsBest xs k c → IsBest xs k d
    → c.stamp ≡ d.stamp
level xs k c d p q = same_stamp c.stamp d.stamp (p.greatest d q.member) (q.greatest c p.member)

module _ (xs ys : List Entry) where
  -- of two best edits, one of each list
  across : IsSettled xs → IsSettled ys → Agree (catalogue_of xs) (catalogue_of ys)
      → (k : EntryKey) (c d : Cell) → In xs (k, c) → In ys (k, d) → IsBest (xs ++ ys) k c
      → IsBest (xs ++ ys) k d → c ≡ d
  across s t agree k c d p q a b =
      let mine = best_found xs s k c (best_in_first xs ys k c a p) in
      let theirs = best_found ys t k d (best_in_second xs ys k d b q) in
      let stamps = level (xs ++ ys) k c d a b in
      let cells : AgreeCells c d = subst (λ o. AgreeIfBoth AgreeCells o (Some d)) mine
      (subst (AgreeIfBoth AgreeCells (find key_cmp k (catalogue_of xs))) theirs
      (at_of key_cmp key_cmp_total key_cmp_exact cell_laws (catalogue_of xs) (catalogue_of ys)
      agree k)) in
      same_cell c d stamps (cells stamps)

  -- where the catalogues of settled edits agree, all the edits together are settled
  pub settled_if_agree : IsSettled xs → IsSettled ys → Agree (catalogue_of xs) (catalogue_of ys)
      → IsSettled (xs ++ ys)
  settled_if_agree s t agree k c d a b =
      elim (in_append_cases xs ys (k, c) (best_in (xs ++ ys) k c a)) as (λ _. c ≡ d) [
        | inl cx ↦ elim (in_append_cases xs ys (k, d) (best_in (xs ++ ys) k d b)) as (λ _. c ≡ d) [
          | inl dx ↦ s k c d (best_in_first xs ys k c a cx) (best_in_first xs ys k d b dx)
          | inr dy ↦ across s t agree k c d cx dy a b
        ]
        | inr cy ↦ elim (in_append_cases xs ys (k, d) (best_in (xs ++ ys) k d b)) as (λ _. c ≡ d) [
          | inl dx ↦ sym (across s t agree k d c dx cy b a)
          | inr dy ↦ t k c d (best_in_second xs ys k c a cy) (best_in_second xs ys k d b dy)
        ]
      ]

  -- where all the edits together are settled, the catalogues of both parts agree
  pub agree_if_settled : IsSettled (xs ++ ys) → Agree (catalogue_of xs) (catalogue_of ys)
  agree_if_settled settled = inr (record {
    first = catalogue_of-IsMap xs;
    second = catalogue_of-IsMap ys;
    at = λ k. at_key k (find key_cmp k (catalogue_of xs)) (find key_cmp k (catalogue_of ys)) refl
        refl;
  })
    where
      at_key : (k : EntryKey) (a b : Option Cell) → find key_cmp k (catalogue_of xs) ≡ a
          → find key_cmp k (catalogue_of ys) ≡ b → AgreeIfBoth AgreeCells a b
      at_key k None b e f = tt
      at_key k (Some c) None e f = tt
      at_key k (Some c) (Some d) e f = λ stamps.
          let p = found_best xs k c e in
          let q = found_best ys k d f in
          let low : stamp_cmp c.stamp d.stamp ≢ Less =
          subst (λ s. stamp_cmp c.stamp s ≢ Less) stamps (not_less_self c.stamp) in
          let high : stamp_cmp d.stamp c.stamp ≢ Less =
          subst (λ s. stamp_cmp s c.stamp ≢ Less) stamps (not_less_self c.stamp) in
          ap (λ x. x.label)
          (settled k c d (best_of_first xs ys k c p (above_best ys k c d q low))
          (best_of_second xs ys k d q (above_best xs k d c p high)))

-- Settled lists are settled as one exactly where their catalogues agree,
-- and the catalogue of the one list is then the join of the two.
pub catalogue_of_both : (xs ys : List Entry) → IsSettled xs → IsSettled ys
    → (IsSettled (xs ++ ys) ↔ Agree (catalogue_of xs) (catalogue_of ys))
    × (IsSettled (xs ++ ys)
    → catalogue_of (xs ++ ys) ≡ joined (catalogue_of xs) (catalogue_of ys))
catalogue_of_both xs ys s t =
    ((agree_if_settled xs ys, settled_if_agree xs ys s t), joined_catalogue xs ys)

-- ---- lists that are settled

-- The empty list is settled.
pub settled_none : IsSettled []
settled_none k c d p q = absurd (in_from_Contains [] (k, c) p.member)

-- a list of one edit is settled
pub settled_one : (e : Entry) → IsSettled (e ∷ [])
settled_one e k c d p q =
    let one =
    λ (x : Cell) (m : In (e ∷ []) (k, x)). elim m as
    (λ _. e ≡ (k, x)) [ inl s ↦ s | inr n ↦ absurd n ] in
    ap (λ (x : Entry). x.1) (sym (one c (best_in (e ∷ []) k c p)) ∙ one d (best_in (e ∷ []) k d q))

-- a part of consistent edits is settled
pub settled_part : (all xs : List Entry) → IsConsistent all → ((e : Entry) → In xs e → In all e)
    → IsSettled xs
settled_part all xs consistent within k c d p q =
    consistent k c d (Contains-from_in all (k, c) (within (k, c) (best_in xs k c p)))
    (Contains-from_in all (k, d) (within (k, d) (best_in xs k d q))) (level xs k c d p q)

-- A consistent list is settled.
pub consistent_settled : (xs : List Entry) → IsConsistent xs → IsSettled xs
consistent_settled xs consistent = settled_part xs xs consistent (λ e h. h)

-- A list whose edits are all in a consistent list is consistent.
pub part_consistent : (xs ys : List Entry) → IsConsistent xs
    → ((e : Entry) → Contains ys e → Contains xs e) → IsConsistent ys
part_consistent xs ys consistent within k c d p q =
    consistent k c d (within (k, c) p) (within (k, d) q)

-- the catalogue of one edit
pub catalogue_of-one : (e : Entry) → catalogue_of (e ∷ []) ≡ e ∷ []
catalogue_of-one e =
    let best : IsBest (e ∷ []) e.0 e.1 = record {
      member = Contains-from_in (e ∷ []) e (inl refl);
      greatest =
          λ d has. elim (in_from_Contains (e ∷ []) (e.0, d) has) as
          (λ _. stamp_cmp e.1.stamp d.stamp ≢ Less) [
            | inl s ↦
                subst (λ (x : Entry). stamp_cmp e.1.stamp x.1.stamp ≢ Less) s
                (not_less_self e.1.stamp)
            | inr n ↦ absurd n
          ];
    } in
    ap (λ b. entries_of (if_best b)) (is_best_of (e ∷ []) e.0 e.1 best)
  where
    if_best : Bool → List Entry
    if_best b = cond b (e ∷ []) []
