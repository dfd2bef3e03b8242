-- A walk from piece to piece.
use Rattle.std.proofs.Common.{ℕ, ◌≡◌, ◌≤◌, ◌+◌, List, [], ◌∷◌, ◌++◌, Bool, true, length, sum_by}
use Rattle.std.proofs.Common.{refl, sym, ◌∙◌, ap, subst, arith, length-append}
use Rattle.std.proofs.Common.{append-nil}
use Rattle.std.specs.Str.{str_to_ascii_lowercase}
use Rattle.std.specs.Char.{to_ascii_lowercase}
use Rattle.std.proofs.lemmas.List.{length-map}
use Rattle.std.proofs.lemmas.List.Sums.{sum_by-append}
use Rattle.lang_core.specs.Text.{pieces, subtags}
use Rattle.lang_core.specs.Grammar.{are_allowed}
use Rattle.lang_core.proofs.Basics.{each_true, both}
use Rattle.lang_core.proofs.SubtagCaseLemmas.{lowered}
use Rattle.lang_core.proofs.PiecesLemmas.{size_pieces, size_cons, length_le_size, pieces-lower}
use Rattle.lang_core.proofs.SubtagsRunsLemmas.{regroup}

-- the subtags before the offset are allowed, and the pieces that are left are still to come
pub record IsWalked (allowed : ℕ → List ℕ → Bool) (text : List ℕ) (left : List (List ℕ))
    (place offset : ℕ) : Type 0 where
  pub before : List (List ℕ)
  pub whole : subtags text ≡ before ++ lowered left
  pub place_is : place ≡ length before
  pub offset_is : offset ≡ sum_by (λ s. length s + 1) before
  pub before_ok : are_allowed allowed 0 before ≡ true

-- A walk begins at place 0 and offset 0, with all pieces of the text to come.
pub walk_start : (allowed : ℕ → List ℕ → Bool) (text : List ℕ) (left : List (List ℕ))
    → left ≡ pieces text → IsWalked allowed text left 0 0
walk_start allowed text left e =
    record {
      before = [];
      whole = pieces-lower text ∙ ap lowered (sym e);
      place_is =
          refl;
      offset_is = refl;
      before_ok = refl;
    }

allowed_push : (allowed : ℕ → List ℕ → Bool) (from : ℕ) (list : List (List ℕ)) (piece : List ℕ)
    → are_allowed allowed from list ≡ true → allowed (from + length list) piece ≡ true
    → are_allowed allowed from (list ++ piece ∷ []) ≡ true
allowed_push allowed from [] piece a h =
    both _ _ (subst (λ (k : ℕ). allowed k piece ≡ true) (omega arith) h) refl
allowed_push allowed from (s ∷ list) piece a h =
    let parts = each_true (allowed from s) (are_allowed allowed (from + 1) list) a in
    both _ _ parts.0
    (allowed_push allowed (from + 1) list piece parts.1
    (subst (λ (k : ℕ). allowed k piece ≡ true) (omega arith) h))

-- After a piece that is allowed, the walk is at the next place, with its offset after that piece
-- and its separator.
pub walk_on : (allowed : ℕ → List ℕ → Bool) (text : List ℕ) (piece : List ℕ) (left : List (List ℕ))
    (place offset : ℕ) → IsWalked allowed text (piece ∷ left) place offset
    → allowed place (str_to_ascii_lowercase piece) ≡ true
    → IsWalked allowed text left (place + 1) (offset + (length piece + 1))
walk_on allowed text piece left place offset w h =
    let lower : List ℕ = str_to_ascii_lowercase piece in
    let size : length lower ≡ length piece = length-map piece to_ascii_lowercase in
    record {
      before = w.before ++ lower ∷ [];
      whole = w.whole ∙ sym (regroup w.before lower (lowered left));
      place_is =
          (let n : length (w.before ++ lower ∷ []) ≡ length w.before + 1 = simp length-append in
          let p = w.place_is in omega arith);
      offset_is =
          (let n : sum_by (λ s. length s + 1) (w.before ++ lower ∷ [])
          ≡ sum_by (λ s. length s + 1) w.before + (length lower + 1) =
          rw sum_by-append (omega arith) in let p = w.offset_is in omega arith);
      before_ok =
          allowed_push allowed 0 w.before lower w.before_ok
          (subst (λ (k : ℕ). allowed k lower ≡ true) (w.place_is ∙ omega arith) h);
    }

-- the offset and the place stay within the text
pub walk_fits : (allowed : ℕ → List ℕ → Bool) (text : List ℕ) (piece : List ℕ)
    (left : List (List ℕ)) (place offset : ℕ) → IsWalked allowed text (piece ∷ left) place offset
    → (offset + (length piece + 1) ≤ length text + 1) × (place ≤ length text + 1)
walk_fits allowed text piece left place offset w =
    let lower : List ℕ = str_to_ascii_lowercase piece in
    let size : length lower ≡ length piece = length-map piece to_ascii_lowercase in
    let text_size : length (str_to_ascii_lowercase text) ≡ length text =
    length-map text to_ascii_lowercase in
    let whole : sum_by (λ s. length s + 1) (w.before ++ lower ∷ lowered left)
    ≡ length (str_to_ascii_lowercase text) + 1 =
    sym (ap (sum_by (λ s. length s + 1)) w.whole)
    ∙ size_pieces 45 (str_to_ascii_lowercase text) in
    let split : sum_by (λ s. length s + 1) (w.before ++ lower ∷ lowered left)
    ≡ sum_by (λ s. length s + 1) w.before + sum_by (λ s. length s + 1) (lower ∷ lowered left) =
    rw sum_by-append refl in
    let few = length_le_size w.before in
    let one = size_cons lower (lowered left) in
    let p = w.place_is in
    let o = w.offset_is in
    (omega arith, omega arith)

-- where nothing is left each subtag was allowed
pub walk_end : (allowed : ℕ → List ℕ → Bool) (text : List ℕ) (place offset : ℕ)
    → IsWalked allowed text [] place offset → are_allowed allowed 0 (subtags text) ≡ true
walk_end allowed text place offset w =
    let whole : subtags text ≡ w.before = w.whole ∙ append-nil w.before in
    ap (are_allowed allowed 0) whole ∙ w.before_ok
