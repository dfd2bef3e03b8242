-- A table, read from piece to piece.
--
-- The pieces between commas are read one after another: a piece that is empty but for gaps adds
-- nothing, an element whose left side is new is added, and any other piece refuses the table. So
-- the elements so far are always those of the pieces before the rest, each left side once, and the
-- length of the rest says where the next piece begins.
use Rattle.std.proofs.Common.{ℕ, ◌≡◌, ◌≢◌, ◌<◌, ◌≤◌, ◌+◌, ◌-◌, List, [], ◌∷◌, ◌++◌, inl, inr, refl}
use Rattle.std.proofs.Common.{sym, ◌∙◌, ap, subst, arith, length, sum_by, Bool, true, false, get_or}
use Rattle.std.proofs.Common.{append_assoc, append-nil}
use Rattle.std.specs.Prelude.{All, AllPairs, Option, Some, None, MatchOption, IsTrue, option_map}
use Rattle.std.specs.Borrow.{Bor}
use Rattle.std.specs.List.{list_any}
use Rattle.std.specs.Str.{bytes_eq}
use Rattle.std.proofs.lemmas.Bool.{cases_Bool}
use Rattle.std.proofs.lemmas.List.Elements.{All-nil, All-cons}
use Rattle.std.proofs.lemmas.List.Quantifiers.{all_pairs_push}
use Rattle.std.proofs.lemmas.List.Sums.{sum_by-append}
use Rattle.std.proofs.lemmas.Slice.Eq.{bytes_eq-Decides}
use Rattle.lang_core.specs.Text.{pieces_by}
use Rattle.list_core.specs.Fallbacks.{AreDistinct, AreFallbacks, IsFallback, IsFirstBad, IsTable}
use Rattle.list_core.specs.Fallbacks.{element_text, skip_gaps}
use Rattle.list_core.specs.declared.fallbacks.Fallback.{Fallback}

-- ---- a piece more

-- A piece that is empty but for gaps adds nothing.
gap_more : (pieces : List (List ℕ)) (elements : List Fallback) (p : List ℕ)
    → AreFallbacks pieces elements → skip_gaps p ≡ [] → AreFallbacks (pieces ++ p ∷ []) elements
gap_more [] [] p a e = (e, tt)
gap_more [] (f ∷ elements) p a e = absurd a
gap_more (q ∷ pieces) [] p a e = (a.0, gap_more pieces [] p a.1 e)
gap_more (q ∷ pieces) (f ∷ elements) p a e = elim a [
  | inl x ↦ inl (x.0, gap_more pieces (f ∷ elements) p x.1 e)
  | inr x ↦ inr (x.0, gap_more pieces elements p x.1 e)
]

-- An element comes last.
element_more : (pieces : List (List ℕ)) (elements : List Fallback) (p : List ℕ) (g : Fallback)
    → AreFallbacks pieces elements → IsFallback (element_text p) g
    → AreFallbacks (pieces ++ p ∷ []) (elements ++ g ∷ [])
element_more [] [] p g a is = inr (is, tt)
element_more [] (f ∷ elements) p g a is = absurd a
element_more (q ∷ pieces) [] p g a is = inl (a.0, element_more pieces [] p g a.1 is)
element_more (q ∷ pieces) (f ∷ elements) p g a is = elim a [
  | inl x ↦ inl (x.0, element_more pieces (f ∷ elements) p g x.1 is)
  | inr x ↦ inr (x.0, element_more pieces elements p g x.1 is)
]

-- an element whose left side no other has differs from each
differs : (elements : List Fallback) (g : Fallback)
    → list_any (λ e. bytes_eq e.left g.left) elements ≡ false
    → All (λ e. e.left ≢ g.left) elements
differs [] g none = All-nil (λ e. e.left ≢ g.left)
differs (e ∷ elements) g none = elim (cases_Bool (bytes_eq e.left g.left)) [
  | inl same ↦ absurd (let any : list_any (λ e. bytes_eq e.left g.left) (e ∷ elements) ≡ true =
      rw same refl in cc)
  | inr other ↦ All-cons (λ e. e.left ≢ g.left) e elements
      (λ is. let same : bytes_eq e.left g.left ≡ true = (bytes_eq-Decides e.left g.left).1 is in cc)
      (differs elements g (rw other at none))
]

-- elements with different left sides, and one more whose left side is new
distinct_more : (elements : List Fallback) (g : Fallback) → AreDistinct elements
    → list_any (λ e. bytes_eq e.left g.left) elements ≡ false → AreDistinct (elements ++ g ∷ [])
distinct_more elements g distinct none =
    let all = differs elements g none in
    all_pairs_push (λ e f. e.left ≢ f.left) elements g distinct (λ k d low. all k d low)

-- ---- as far as the rest

-- the pieces of what is left
abbrev pub rest_pieces : Option (List ℕ) → List (List ℕ)
rest_pieces None = []
rest_pieces (Some rest) = pieces_by 44 rest

-- one more than the length of what is left, or 0 where nothing is
abbrev pub rest_size : Option (List ℕ) → ℕ
rest_size None = 0
rest_size (Some rest) = length rest + 1

-- the pieces before the rest give the elements
pub record IsReadTo (bytes : List ℕ) (elements : List Fallback) (rest : Option (List ℕ)) : Type 0
  where
    pub before : List (List ℕ)
    pub whole : pieces_by 44 bytes ≡ before ++ rest_pieces rest
    pub read : AreFallbacks before elements
    pub distinct : AreDistinct elements
    pub size : length bytes + 1 ≡ sum_by (λ p. length p + 1) before + rest_size rest

-- the first piece of a text, and what follows its comma
pub record IsCutAt (left piece : List ℕ) (after : Option (List ℕ)) : Type 0 where
  pub pieces : pieces_by 44 left ≡ piece ∷ rest_pieces after
  pub size : length left ≡ length piece + rest_size after

-- A piece is cut off a text so.
pub cut_at : (left piece : List ℕ) (after : Option (Bor (List ℕ)))
    → MatchOption after (pieces_by 44 left ≡ piece ∷ [])
    (λ rest. pieces_by 44 left ≡ piece ∷ pieces_by 44 rest.now)
    → MatchOption after (length left ≡ length piece)
    (λ rest. length left ≡ length piece + (length rest.now + 1))
    → IsCutAt left piece (option_map (λ r. r.now) after)
cut_at left piece None p n = record { pieces = p; size = omega (arith, n) }
cut_at left piece (Some rest) p n = record { pieces = p; size = n }

sizes : (before : List (List ℕ)) (p : List ℕ)
    → sum_by (λ p. length p + 1) (before ++ p ∷ [])
    ≡ sum_by (λ p. length p + 1) before + (length p + 1)
sizes before p = sum_by-append (λ p. length p + 1) before (p ∷ []) ∙ (omega arith)

step : (bytes left piece : List ℕ) (elements more : List Fallback) (after : Option (List ℕ))
    (r : IsReadTo bytes elements (Some left)) → IsCutAt left piece after
    → AreFallbacks (r.before ++ piece ∷ []) more → AreDistinct more → IsReadTo bytes more after
step bytes left piece elements more after r c read distinct =
    let more_size = sizes r.before piece in
    let size = r.size in
    let cut = c.size in
    record {
      before = r.before ++ piece ∷ [];
      whole =
          r.whole
          ∙ (ap (λ (x : List (List ℕ)). r.before ++ x) c.pieces
          ∙ sym (append_assoc r.before (piece ∷ []) (rest_pieces after)));
      read = read;
      distinct = distinct;
      size = omega (arith, more_size, size, cut);
    }

-- After a piece that is empty but for gaps the elements are the same.
pub read_gap : (bytes left piece : List ℕ) (elements : List Fallback) (after : Option (List ℕ))
    → IsReadTo bytes elements (Some left) → IsCutAt left piece after → skip_gaps piece ≡ []
    → IsReadTo bytes elements after
read_gap bytes left piece elements after r c e =
    step bytes left piece elements elements after r c (gap_more r.before elements piece r.read e)
    r.distinct

-- After an element with a new left side that comes last.
pub read_element : (bytes left piece : List ℕ) (elements : List Fallback) (g : Fallback)
    (after : Option (List ℕ)) → IsReadTo bytes elements (Some left) → IsCutAt left piece after
    → IsFallback (element_text piece) g
    → list_any (λ e. bytes_eq e.left g.left) elements ≡ false
    → IsReadTo bytes (elements ++ g ∷ []) after
read_element bytes left piece elements g after r c is none =
    step bytes left piece elements (elements ++ g ∷ []) after r c
    (element_more r.before elements piece g r.read is)
    (distinct_more elements g r.distinct none)
