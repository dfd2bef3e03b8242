-- The best edits of a key: the test of the definition says what the relation does.
use Rattle.std.proofs.Common.{◌≡◌, true, false, not, List, [], ◌∷◌, ◌++◌, ◌⊎◌, inl, inr, refl, sym}
use Rattle.std.proofs.Common.{ap, ◌∙◌, subst, true≢false}
use Rattle.std.specs.Prelude.{◌≢◌, ◌↔◌, Contains}
use Rattle.std.specs.declared.cmp.Ordering.TheVariants.{Less}
use Rattle.std.specs.Ordering.{is_eq, is_lt, eq_by_cmp}
use Rattle.std.specs.Cmp.{tied_itself}
use Rattle.cell_core.specs.declared.cell.Cell.{Cell}
use Rattle.cell_core.specs.Stamp.{stamp_cmp}
use Rattle.cell_core.specs.Entry.{EntryKey, key_cmp}
use Rattle.cell_core.specs.inner.Entry.{key_cmp_total, key_cmp_exact}
use Rattle.catalogue.specs.Entries.{Entry}
use Rattle.catalogue.specs.Edits.{IsBest, is_beaten_by, is_best}
use Rattle.lang_core.proofs.Basics.{both, is_false as false_if, true_not as not_true, less_of}
use Rattle.cell_core.proofs.Basics.{tied_order as tied}
use Rattle.catalogue.proofs.Basics.{first_so, second_so}
use Rattle.catalogue.proofs.EditStampOrderLemmas.{not_less_trans, not_less_self, not_less_back}
use Rattle.catalogue.proofs.CatalogueMembersLemmas.{In, in_from_Contains, Contains-from_in, all_in}
use Rattle.catalogue.proofs.CatalogueMembersLemmas.{in_all}
use Rattle.catalogue.proofs.CatalogueMembersLemmas.{in_append_left, in_append_right}
use Rattle.catalogue.proofs.CatalogueMembersLemmas.{in_append_cases}

-- Keys that compare as equal are one key.
pub same_key : (a b : EntryKey) → eq_by_cmp key_cmp a b ≡ true → a ≡ b
same_key a b e = key_cmp_exact a b (tied (key_cmp a b) e)

-- A key compares as equal to itself.
pub own_key : (a : EntryKey) → eq_by_cmp key_cmp a a ≡ true
own_key a = ap is_eq (tied_itself key_cmp_total a)

-- an edit for which the test says yes is best
pub best_is : (xs : List Entry) (k : EntryKey) (c : Cell) → In xs (k, c) → is_best xs (k, c) ≡ true
    → IsBest xs k c
best_is xs k c member best = record {
  member = Contains-from_in xs (k, c) member;
  greatest = λ d has less. true≢false
      (sym (both (eq_by_cmp key_cmp k k) (is_lt (stamp_cmp c.stamp d.stamp)) (own_key k)
      (ap is_lt less))
      ∙ not_true (is_beaten_by (k, c) (k, d))
      (all_in (λ f. not (is_beaten_by (k, c) f)) xs best (k, d)
      (in_from_Contains xs (k, d) has)));
}

-- and of a best edit it says yes
pub is_best_of : (xs : List Entry) (k : EntryKey) (c : Cell) → IsBest xs k c
    → is_best xs (k, c) ≡ true
is_best_of xs k c best =
    in_all (λ f. not (is_beaten_by (k, c) f)) xs
    (λ f member. ap not (false_if (is_beaten_by (k, c) f) (λ beaten.
    let key : k ≡ f.0 =
    same_key k f.0
    (first_so (eq_by_cmp key_cmp k f.0) (is_lt (stamp_cmp c.stamp f.1.stamp)) beaten) in
    best.greatest f.1 (Contains-from_in xs (k, f.1) (subst (λ q. In xs (q, f.1)) (sym key) member))
    (less_of (stamp_cmp c.stamp f.1.stamp)
    (second_so (eq_by_cmp key_cmp k f.0) (is_lt (stamp_cmp c.stamp f.1.stamp)) beaten)))))

-- A best edit of a key is one of the edits.
pub best_in : (xs : List Entry) (k : EntryKey) (c : Cell) → IsBest xs k c → In xs (k, c)
best_in xs k c best = in_from_Contains xs (k, c) best.member

-- what is best depends on the members alone
pub best_same : (xs ys : List Entry) → ((e : Entry) → Contains xs e ↔ Contains ys e)
    → (k : EntryKey) (c : Cell) → IsBest xs k c → IsBest ys k c
best_same xs ys same k c best = record {
  member = (same (k, c)).0 best.member;
  greatest = λ d has. best.greatest d ((same (k, d)).1 has);
}

-- ---- a best edit of each key

-- the best of the edits of e's key in the list and of e
record Top (es : List Entry) (k : EntryKey) (c : Cell) : Type 0 where
  cell : Cell
  member : (cell ≡ c) ⊎ In es (k, cell)
  above : stamp_cmp cell.stamp c.stamp ≢ Less
  greatest : (d : Cell) → In es (k, d) → stamp_cmp cell.stamp d.stamp ≢ Less

top : (es : List Entry) (k : EntryKey) (c : Cell) → Top es k c
top [] k c =
    record {
      cell = c;
      member = inl refl;
      above = not_less_self c.stamp;
      greatest =
          λ d h. absurd h;
    }
top (e ∷ es) k c =
    let t = top es k c in
    elim (is_beaten_by (k, t.cell) e) as (λ b. is_beaten_by (k, t.cell) e ≡ b → Top (e ∷ es) k c) [
      | true ↦ λ b.
          let key : k ≡ e.0 =
          same_key k e.0
          (first_so (eq_by_cmp key_cmp k e.0) (is_lt (stamp_cmp t.cell.stamp e.1.stamp)) b) in
          let less =
          less_of (stamp_cmp t.cell.stamp e.1.stamp)
          (second_so (eq_by_cmp key_cmp k e.0) (is_lt (stamp_cmp t.cell.stamp e.1.stamp)) b) in
          let higher = not_less_back t.cell.stamp e.1.stamp less in
          record {
            cell = e.1;
            member = inr (inl (λ i. (sym key i, e.1)));
            above = not_less_trans e.1.stamp t.cell.stamp c.stamp higher t.above;
            greatest = λ d h. elim h as (λ _. stamp_cmp e.1.stamp d.stamp ≢ Less) [
              | inl s ↦
                  subst (λ (x : Entry). stamp_cmp e.1.stamp x.1.stamp ≢ Less) s
                  (not_less_self e.1.stamp)
              | inr r ↦ not_less_trans e.1.stamp t.cell.stamp d.stamp higher (t.greatest d r)
            ];
          }
      | false ↦ λ b. record {
        cell = t.cell;
        member =
            elim t.member as
            (λ _. (t.cell ≡ c) ⊎ In (e ∷ es) (k, t.cell)) [ inl s ↦ inl s | inr r ↦ inr (inr r) ];
        above = t.above;
        greatest = λ d h. elim h as (λ _. stamp_cmp t.cell.stamp d.stamp ≢ Less) [
          | inl s ↦
              λ less.
              true≢false
              (sym (both (eq_by_cmp key_cmp k e.0) (is_lt (stamp_cmp t.cell.stamp e.1.stamp))
              (subst (λ (x : Entry). eq_by_cmp key_cmp k x.0 ≡ true) (sym s) (own_key k))
              (ap (λ (x : Entry). is_lt (stamp_cmp t.cell.stamp x.1.stamp)) s ∙ ap is_lt less))
              ∙ b)
          | inr r ↦ t.greatest d r
        ];
      }
    ] refl

-- where the list has an edit of a key, one is best
pub has_best : (xs : List Entry) (k : EntryKey) (c : Cell) → In xs (k, c)
    → (d : Cell) × IsBest xs k d
has_best xs k c h =
    let t = top xs k c in (
      t.cell,
      record {
        member =
            Contains-from_in xs (k, t.cell)
            (elim t.member as
            (λ _. In xs (k, t.cell)) [ inl s ↦ subst (λ d. In xs (k, d)) (sym s) h | inr r ↦ r ]);
        greatest = λ d has. t.greatest d (in_from_Contains xs (k, d) has);
      },
    )

-- ---- of two lists

module _ (xs ys : List Entry) (k : EntryKey) where
  -- best in the first, and not exceeded in the second
  pub best_of_first : (c : Cell) → IsBest xs k c
      → ((d : Cell) → In ys (k, d) → stamp_cmp c.stamp d.stamp ≢ Less) → IsBest (xs ++ ys) k c
  best_of_first c best above = record {
    member = Contains-from_in (xs ++ ys) (k, c) (in_append_left xs ys (k, c) (best_in xs k c best));
    greatest =
        λ d has. elim (in_append_cases xs ys (k, d) (in_from_Contains (xs ++ ys) (k, d) has)) as
        (λ _. stamp_cmp c.stamp d.stamp ≢ Less) [
          | inl a ↦ best.greatest d (Contains-from_in xs (k, d) a)
          | inr b ↦ above d b
        ];
  }

  -- best in the second, and not exceeded in the first
  pub best_of_second : (c : Cell) → IsBest ys k c
      → ((d : Cell) → In xs (k, d) → stamp_cmp c.stamp d.stamp ≢ Less) → IsBest (xs ++ ys) k c
  best_of_second c best above = record {
    member =
        Contains-from_in (xs ++ ys) (k, c) (in_append_right xs ys (k, c) (best_in ys k c best));
    greatest =
        λ d has. elim (in_append_cases xs ys (k, d) (in_from_Contains (xs ++ ys) (k, d) has)) as
        (λ _. stamp_cmp c.stamp d.stamp ≢ Less) [
          | inl a ↦ above d a
          | inr b ↦ best.greatest d (Contains-from_in ys (k, d) b)
        ];
  }

  -- what is best in both is best in each that has it
  pub best_in_first : (c : Cell) → IsBest (xs ++ ys) k c → In xs (k, c) → IsBest xs k c
  best_in_first c best h = record {
    member = Contains-from_in xs (k, c) h;
    greatest =
        λ d has.
        best.greatest d
        (Contains-from_in (xs ++ ys) (k, d)
        (in_append_left xs ys (k, d) (in_from_Contains xs (k, d) has)));
  }

  -- the same of the second
  pub best_in_second : (c : Cell) → IsBest (xs ++ ys) k c → In ys (k, c) → IsBest ys k c
  best_in_second c best h = record {
    member = Contains-from_in ys (k, c) h;
    greatest =
        λ d has.
        best.greatest d
        (Contains-from_in (xs ++ ys) (k, d)
        (in_append_right xs ys (k, d) (in_from_Contains ys (k, d) has)));
  }

-- a cell that a best one does not exceed is exceeded by none
pub above_best : (ys : List Entry) (k : EntryKey) (c d : Cell) → IsBest ys k d
    → stamp_cmp c.stamp d.stamp ≢ Less → (e : Cell) → In ys (k, e)
    → stamp_cmp c.stamp e.stamp ≢ Less
above_best ys k c d best above e h =
    not_less_trans c.stamp d.stamp e.stamp above (best.greatest e (Contains-from_in ys (k, e) h))
