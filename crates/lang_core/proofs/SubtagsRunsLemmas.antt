-- Lists of subtags split where their first subtags of a kind end.
use Rattle.std.proofs.Common.{ℕ, ◌≡◌, ◌≤◌, ◌<◌, ◌+◌, ◌-◌, List, [], ◌∷◌, ◌++◌, Bool, true, false}
use Rattle.std.proofs.Common.{length, take, drop, get_or, sum_by, refl, sym, ◌∙◌, ap, subst, arith}
use Rattle.std.proofs.Common.{length-append, append_assoc, append-nil}
use Rattle.std.specs.List.{list_all}
use Rattle.std.proofs.Math.Seq.{take-append_seam, drop-append-add, get_or-append_seam}
use Rattle.std.proofs.lemmas.List.Folds.{list_all-append}
use Rattle.std.proofs.lemmas.List.Sums.{sum_by-append}
use Rattle.lang_core.specs.Text.{pieces, joined}
use Rattle.lang_core.specs.Grammar.{AreAll, is_private_piece}
use Rattle.lang_core.specs.inner.SubtagsRuns.{begins_with, IsSplit, TakesRun}
use Rattle.lang_core.proofs.Basics.{each_true, both}
use Rattle.lang_core.proofs.MatchingFrontsLemmas.{joined_some}
use Rattle.lang_core.proofs.PiecesLemmas.{joined-pieces, size_pieces, size_cons}
use Rattle.lang_core.proofs.SubtagLemmas.{pieces_joined}

same_run : (test : List ℕ → Bool) (a b c d : List (List ℕ)) → a ++ b ≡ c ++ d → AreAll test a
    → AreAll test c → begins_with test b ≡ false → begins_with test d ≡ false
    → (a ≡ c) × (b ≡ d)
same_run test [] b [] d e p q m n = (refl, e)
same_run test [] b (s ∷ c) d e p q m n =
    absurd (let passes : test s ≡ true = (each_true (test s) (list_all test c) q).0 in
    let fails : test s ≡ false = ap (begins_with test) (sym e) ∙ m in
    cc)
same_run test (s ∷ a) b [] d e p q m n =
    absurd (let passes : test s ≡ true = (each_true (test s) (list_all test a) p).0 in
    let fails : test s ≡ false = ap (begins_with test) e ∙ n in
    cc)
same_run test (s ∷ a) b (t ∷ c) d e p q m n =
    let first : s ≡ t = cc in
    let rest = same_run test a b c d (cc) (each_true (test s) (list_all test a) p).1
    (each_true (test t) (list_all test c) q).1 m n in
    let run : a ≡ c = rest.0 in
    (cc, rest.1)

-- A list is split in one way.
pub one_split : (test : List ℕ → Bool) (list a b c d : List (List ℕ)) → IsSplit test list a b
    → IsSplit test list c d → (a ≡ c) × (b ≡ d)
one_split test list a b c d x y =
    same_run test a b c d (sym x.whole ∙ y.whole) x.each y.each x.ends y.ends

-- The parts of an empty list are empty.
pub split_none : (test : List ℕ → Bool) (list a b : List (List ℕ)) → IsSplit test list a b
    → list ≡ [] → (a ≡ []) × (b ≡ [])
split_none test list [] b x e = (refl, sym x.whole ∙ e)
split_none test list (s ∷ a) b x e = absurd (let w = x.whole in cc)

-- What all subtags of a list are, those of both its parts are.
pub all_parts : (test : List ℕ → Bool) (a b : List (List ℕ)) → AreAll test (a ++ b)
    → AreAll test a × AreAll test b
all_parts test a b h =
    each_true (list_all test a) (list_all test b) (sym (list_all-append test a b) ∙ h)

-- A split into equal parts is the same split.
pub split_as : (test : List ℕ → Bool) (list a b c d : List (List ℕ)) → IsSplit test list a b
    → c ≡ a → d ≡ b → IsSplit test list c d
split_as test list a b c d x p q = record {
  whole = x.whole ∙ (ap (λ (y : List (List ℕ)). y ++ b) (sym p) ∙ ap (λ y. c ++ y) (sym q));
  each = subst (λ (y : List (List ℕ)). AreAll test y) (sym p) x.each;
  ends = ap (begins_with test) q ∙ x.ends;
}

-- ---- the bytes of a run

-- how many bytes a list of subtags has, one counted after each
abbrev size : List (List ℕ) → ℕ
size list = sum_by (λ s. length s + 1) list

size_two : (run rest : List (List ℕ)) → size (run ++ rest) ≡ size run + size rest
size_two run rest = rw sum_by-append refl

none_of_size : (list : List (List ℕ)) → size list ≡ 0 → list ≡ []
none_of_size [] n = refl
none_of_size (s ∷ list) n = absurd (omega (arith, size_cons s list))

some_of_size : (list : List (List ℕ)) → 0 < size list → 0 < length list
some_of_size [] n = n
some_of_size (s ∷ list) n = omega arith

sizes : (text : List ℕ) (run rest : List (List ℕ)) → pieces text ≡ run ++ rest
    → size run + size rest ≡ length text + 1
sizes text run rest e = sym (size_two run rest) ∙ (ap size (sym e) ∙ size_pieces 45 text)

-- A run without bytes is none, and all subtags are left.
pub no_run : (test : List ℕ → Bool) (text : List ℕ) (len : ℕ) (none all : List (List ℕ))
    → TakesRun test (pieces text) len → len ≡ 0 → none ≡ [] → all ≡ pieces text
    → IsSplit test (pieces text) none all
no_run test text len none all x n e f =
    let run : x.run ≡ [] = none_of_size x.run (sym x.size ∙ n) in
    let rest : pieces text ≡ x.rest =
    x.split.whole ∙ ap (λ (y : List (List ℕ)). y ++ x.rest) run in
    split_as test (pieces text) x.run x.rest none all x.split (e ∙ sym run) (f ∙ rest)

-- A run of more bytes than the text has, with those counted after its subtags, is all of them.
pub all_run : (test : List ℕ → Bool) (text : List ℕ) (len : ℕ) (all none : List (List ℕ))
    → TakesRun test (pieces text) len → length text < len → all ≡ pieces text → none ≡ []
    → IsSplit test (pieces text) all none
all_run test text len all none x n e f =
    let rest : x.rest ≡ [] =
    none_of_size x.rest
    (let both = sizes text x.run x.rest x.split.whole in let same = x.size in omega arith) in
    let run : pieces text ≡ x.run =
    x.split.whole ∙ (ap (λ (y : List (List ℕ)). x.run ++ y) rest ∙ append-nil x.run) in
    split_as test (pieces text) x.run x.rest all none x.split (e ∙ run) (f ∙ sym rest)

-- A text is its first subtags and those that are left, with a hyphen between.
pub record IsCut (text : List ℕ) (len : ℕ) (run rest : List (List ℕ)) : Type 0 where
  pub inside : len - 1 < length text
  pub hyphen : get_or text (len - 1) 0 ≡ 45
  pub front : pieces (take (len - 1) text) ≡ run
  pub back : pieces (drop len text) ≡ rest

joined_back : (list : List (List ℕ)) → 0 < length list → AreAll is_private_piece list
    → pieces (joined list) ≡ list
joined_back [] n h = absurd (omega arith)
joined_back (s ∷ list) n h = pieces_joined s list h

cut_at : (text front back : List ℕ) (len : ℕ) → text ≡ front ++ 45 ∷ back → len ≡ length front + 1
    → IsCut text len (pieces front) (pieces back)
cut_at text front back len e n =
    let before : len - 1 ≡ length front = omega arith in
    record {
      inside = rw (e, length-append) (omega arith);
      hyphen = rw (e, before) (get_or-append_seam front 45 back 0);
      front = ap pieces (rw (e, before) (take-append_seam front (45 ∷ back)));
      back = ap pieces (rw (e, n) (drop-append-add front (45 ∷ back) 1));
    }

cut_parts : (text : List ℕ) (len : ℕ) (run rest : List (List ℕ)) → pieces text ≡ run ++ rest
    → AreAll is_private_piece (run ++ rest) → len ≡ size run → 0 < length run → 0 < length rest
    → IsCut text len run rest
cut_parts text len run [] e h n some left = absurd (omega arith)
cut_parts text len run (t ∷ after) e h n some left =
    let parts = all_parts is_private_piece run (t ∷ after) h in
    let front : pieces (joined run) ≡ run = joined_back run some parts.0 in
    let back : pieces (joined (t ∷ after)) ≡ t ∷ after = pieces_joined t after parts.1 in
    let whole : text ≡ joined run ++ 45 ∷ joined (t ∷ after) =
    sym (joined-pieces text) ∙ (ap joined e ∙ joined_some run t after some) in
    let bytes : size run ≡ length (joined run) + 1 =
    ap size (sym front) ∙ size_pieces 45 (joined run) in
    rw (← front, ← back)
    (cut_at text (joined run) (joined (t ∷ after)) len whole (n ∙ bytes))

-- The text of a run of some bytes ends at a hyphen, after which what is left begins.
pub cut_run : (test : List ℕ → Bool) (text : List ℕ) (len : ℕ)
    → AreAll is_private_piece (pieces text) → (x : TakesRun test (pieces text) len) → 0 < len
    → len ≤ length text → IsCut text len x.run x.rest
cut_run test text len h x some few =
    let both = sizes text x.run x.rest x.split.whole in
    let same = x.size in
    cut_parts text len x.run x.rest x.split.whole
    (subst (λ (y : List (List ℕ)). AreAll is_private_piece y) x.split.whole h) x.size
    (some_of_size x.run (omega arith)) (some_of_size x.rest (omega arith))

-- ---- a walk over a run

-- The subtags so far are of the kind, and have so many bytes, one counted after each.
pub record IsRunSoFar (test : List ℕ → Bool) (list left : List (List ℕ)) (len : ℕ) : Type 0 where
  pub run : List (List ℕ)
  pub whole : list ≡ run ++ left
  pub each : AreAll test run
  pub size : len ≡ sum_by (λ s. length s + 1) run

-- An element at the end of a list is the first of what follows.
pub regroup : (a : List (List ℕ)) (s : List ℕ) (b : List (List ℕ))
    → (a ++ s ∷ []) ++ b ≡ a ++ s ∷ b
regroup a s b = rw append_assoc refl

-- One more subtag of the kind adds its bytes, and one.
pub run_on : (test : List ℕ → Bool) (list left : List (List ℕ)) (s : List ℕ) (len : ℕ)
    → IsRunSoFar test list (s ∷ left) len → test s ≡ true
    → IsRunSoFar test list left (len + (length s + 1))
run_on test list left s len w h = record {
  run = w.run ++ s ∷ [];
  whole = w.whole ∙ sym (regroup w.run s left);
  each = list_all-append test w.run (s ∷ []) ∙ both _ _ w.each (both _ _ h refl);
  size = (let n : sum_by (λ x. length x + 1) (w.run ++ s ∷ [])
      ≡ sum_by (λ x. length x + 1) w.run + (length s + 1) =
      rw sum_by-append (omega arith) in let o = w.size in omega arith);
}

-- The bytes of a run are those of the text at most, and one.
pub run_fits : (test : List ℕ → Bool) (text : List ℕ) (left : List (List ℕ)) (s : List ℕ) (len : ℕ)
    → IsRunSoFar test (pieces text) (s ∷ left) len → len + (length s + 1) ≤ length text + 1
run_fits test text left s len w =
    let both = sizes text w.run (s ∷ left) w.whole in
    let one = size_cons s left in
    let o = w.size in
    omega arith
