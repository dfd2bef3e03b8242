-- The table that reads tags says what the stages say.
--
-- A state of the table is a stage and as much of a subtag as matters: its length, whether it is of
-- letters or of digits, whether it begins with a digit, and whether it is "x". What the table has
-- to say of each state and each class of byte is one test over all of them (`is_table`), which is
-- computed once. Then by induction over the bytes the state after a text is that of the stage after
-- its subtags and of what is read of the last one.
use Rattle.std.proofs.Common.{ℕ, ◌≡◌, ◌<◌, ◌≤◌, ◌+◌, ◌*◌, ◌-◌, ◌==◌, ◌⊎◌, inl, inr, get_or, List}
use Rattle.std.proofs.Common.{[], ◌∷◌, ◌++◌, Bool, true, false, length, take, Option, Some, None}
use Rattle.std.proofs.Common.{refl, sym, ◌∙◌, ap, subst, arith, append_assoc, append-nil}
use Rattle.std.proofs.Common.{length-append}
use Rattle.std.specs.Prelude.{zero, suc, nat_le, nat_lt, ◌&&◌, ◌||◌, not, if◌then◌else◌}
use Rattle.std.specs.List.{list_all, list_any, slice_split, onto_first}
use Rattle.std.specs.Char.{to_ascii_lowercase, is_ascii_alphabetic, is_ascii_digit}
use Rattle.std.specs.Str.{str_to_ascii_lowercase}
use Rattle.std.proofs.lemmas.Bool.{agree_below, agree_below_at, eqb-true}
use Rattle.std.proofs.lemmas.Bool.Decides.{nat_tests}
use Rattle.std.proofs.lemmas.List.Splits.{slice_split-cons_yes, slice_split-cons_no}
use Rattle.lang_core.specs.Text.{pieces_by, subtags}
use Rattle.lang_core.specs.Grammar.{is_letter, is_digit, is_alphanum, is_run, is_short_language}
use Rattle.lang_core.specs.Grammar.{is_long_language, is_extlang, is_script, is_region, is_variant}
use Rattle.lang_core.specs.Grammar.{is_x, is_singleton, is_extension_piece, is_private_piece}
use Rattle.lang_core.specs.inner.Stage.{accepts, is_complete, stage_after}
use Rattle.lang_core.specs.inner.TagTable.{byte_class, is_staged}
use Rattle.lang_core.specs.declared.stage.Stage.{Stage}
use Rattle.lang_core.specs.declared.stage.Stage.TheVariants.{Start, Language, Script, Variants}
use Rattle.lang_core.specs.declared.stage.Stage.TheVariants.{Singleton, Extension, PrivateStart}
use Rattle.lang_core.specs.declared.stage.Stage.TheVariants.{Private}
use Rattle.lang_core.proofs.Basics.{and_true, cases_bool, each_true, both, is_false, le_is, is_le}
use Rattle.lang_core.proofs.Basics.{lt_is, or_false}
use Rattle.lang_core.proofs.KindLemmas.{run_of}
use Rattle.lang_core.proofs.GrammarLemmas.{accepts_next}
use Rattle.lang_core.proofs.PiecesLemmas.{some_pieces}
use Rattle.lang_core.proofs.TagStates.{states}

-- ---- the stages as numbers

abbrev stages : List (Option Stage)
stages =
    None ∷ Some Start ∷ Some (Language 3) ∷ Some (Language 2) ∷ Some (Language 1)
    ∷ Some (Language 0) ∷ Some Script ∷ Some Variants ∷ Some Singleton ∷ Some Extension
    ∷ Some PrivateStart ∷ Some Private ∷ []

-- The stage of a number, or none where no stage has it.
abbrev pub stage_at : ℕ → Option Stage
stage_at m = get_or stages m None

abbrev stage_number : Option Stage → ℕ
stage_number None = 0
stage_number (Some Start) = 1
stage_number (Some (Language left)) = 5 - left
stage_number (Some Script) = 6
stage_number (Some Variants) = 7
stage_number (Some Singleton) = 8
stage_number (Some Extension) = 9
stage_number (Some PrivateStart) = 10
stage_number (Some Private) = 11

-- at most three extlangs may follow
abbrev is_numbered : Option Stage → Bool
is_numbered None = true
is_numbered (Some Start) = true
is_numbered (Some (Language left)) = nat_le left 3
is_numbered (Some Script) = true
is_numbered (Some Variants) = true
is_numbered (Some Singleton) = true
is_numbered (Some Extension) = true
is_numbered (Some PrivateStart) = true
is_numbered (Some Private) = true

numbered : (o : Option Stage) → is_numbered o ≡ true → stage_at (stage_number o) ≡ o
numbered None h = refl
numbered (Some Start) h = refl
numbered (Some (Language zero)) h = refl
numbered (Some (Language (suc zero))) h = refl
numbered (Some (Language (suc (suc zero)))) h = refl
numbered (Some (Language (suc (suc (suc zero))))) h = refl
numbered (Some (Language (suc (suc (suc (suc left)))))) h = absurd (let few = le_is _ _ h in
    omega arith)
numbered (Some Script) h = refl
numbered (Some Variants) h = refl
numbered (Some Singleton) h = refl
numbered (Some Extension) h = refl
numbered (Some PrivateStart) h = refl
numbered (Some Private) h = refl

abbrev complete : Option Stage → Bool
complete None = false
complete (Some stage) = is_complete stage

-- ---- the stage after a subtag, by what is kept of the subtag

abbrev private_by : Bool → Option Stage
private_by x = if x then Some PrivateStart else None

abbrev extension_by : Bool → Bool → Option Stage
extension_by singleton x = if singleton then Some Singleton else private_by x

abbrev variant_by : Bool → Bool → Bool → Option Stage
variant_by variant singleton x = if variant then Some Variants else extension_by singleton x

abbrev region_by : Bool → Bool → Bool → Bool → Option Stage
region_by region variant singleton x =
    if region then Some Variants else variant_by variant singleton x

abbrev stage_by : Option Stage
    → (short long extlang script region variant x singleton piece private : Bool) → Option Stage
stage_by None short long extlang script region variant x singleton piece private = None
stage_by (Some Start) short long extlang script region variant x singleton piece private =
    if short then Some (Language 3) else (if long then Some (Language 0) else private_by x)
stage_by (Some (Language left)) short long extlang script region variant x singleton piece private =
    if nat_lt 0 left && extlang then Some (Language (left - 1))
    else (if script then Some Script else region_by region variant singleton x)
stage_by (Some Script) short long extlang script region variant x singleton piece private =
    region_by region variant singleton x
stage_by (Some Variants) short long extlang script region variant x singleton piece private =
    variant_by variant singleton x
stage_by (Some Singleton) short long extlang script region variant x singleton piece private =
    if piece then Some Extension else None
stage_by (Some Extension) short long extlang script region variant x singleton piece private =
    if piece then Some Extension else extension_by singleton x
stage_by (Some PrivateStart) short long extlang script region variant x singleton piece private =
    if private then Some Private else None
stage_by (Some Private) short long extlang script region variant x singleton piece private =
    if private then Some Private else None

by_tests : (o : Option Stage) (s : List ℕ)
    → stage_after o s ≡ stage_by o (is_short_language s) (is_long_language s) (is_extlang s)
    (is_script s) (is_region s) (is_variant s) (is_x s) (is_singleton s) (is_extension_piece s)
    (is_private_piece s)
by_tests None s = refl
by_tests (Some Start) s = refl
by_tests (Some (Language left)) s = refl
by_tests (Some Script) s = refl
by_tests (Some Variants) s = refl
by_tests (Some Singleton) s = refl
by_tests (Some Extension) s = refl
by_tests (Some PrivateStart) s = refl
by_tests (Some Private) s = refl

-- the length is in this range
abbrev within : ℕ → ℕ → ℕ → Bool
within low high n = nat_le low n && nat_le n high

-- n: its length; l, d: it is of letters, of digits alone; f: it begins with a digit; x: it is "x"
abbrev stage_next : Option Stage → (n : ℕ) (l d f x : Bool) → Option Stage
stage_next o n l d f x =
    stage_by o (within 2 3 n && l) (within 4 8 n && l) (within 3 3 n && l) (within 4 4 n && l)
    ((within 2 2 n && l) || (within 3 3 n && d)) (within 5 8 n || (within 4 4 n && f)) x
    (within 1 1 n && not x) (within 2 8 n) (within 1 8 n)

run_any : (low high : ℕ) (s : List ℕ) → list_all is_alphanum s ≡ true
    → is_run is_alphanum low high s ≡ within low high (length s)
unfolding is_run
run_any low high s h = rw h (and_true (within low high (length s)))

short_is : (s : List ℕ) → is_short_language s ≡ within 2 3 (length s) && list_all is_letter s
unfolding is_short_language is_run
short_is s = refl

long_is : (s : List ℕ) → is_long_language s ≡ within 4 8 (length s) && list_all is_letter s
unfolding is_long_language is_run
long_is s = refl

extlang_is : (s : List ℕ) → is_extlang s ≡ within 3 3 (length s) && list_all is_letter s
unfolding is_extlang is_run
extlang_is s = refl

script_is : (s : List ℕ) → is_script s ≡ within 4 4 (length s) && list_all is_letter s
unfolding is_script is_run
script_is s = refl

region_is : (s : List ℕ)
    → is_region s
    ≡ ((within 2 2 (length s) && list_all is_letter s)
    || (within 3 3 (length s) && list_all is_digit s))
unfolding is_region is_run
region_is s = refl

variant_is : (s : List ℕ) → list_all is_alphanum s ≡ true
    → is_variant s
    ≡ (within 5 8 (length s) || (within 4 4 (length s) && list_any is_digit (take 1 s)))
unfolding is_variant
variant_is s h = λ i. run_any 5 8 s h i || (run_any 4 4 s h i && list_any is_digit (take 1 s))

singleton_is : (s : List ℕ) → list_all is_alphanum s ≡ true
    → is_singleton s ≡ (within 1 1 (length s) && not (is_x s))
unfolding is_singleton
singleton_is s h = λ i. run_any 1 1 s h i && not (is_x s)

piece_is : (s : List ℕ) → list_all is_alphanum s ≡ true
    → is_extension_piece s ≡ within 2 8 (length s)
unfolding is_extension_piece
piece_is s h = run_any 2 8 s h

private_is : (s : List ℕ) → list_all is_alphanum s ≡ true
    → is_private_piece s ≡ within 1 8 (length s)
unfolding is_private_piece
private_is s h = run_any 1 8 s h

-- the same, of a subtag
abbrev stage_past : Option Stage → List ℕ → Option Stage
stage_past o s = stage_next o (length s) (list_all is_letter s) (list_all is_digit s)
    (list_any is_digit (take 1 s)) (is_x s)

next_is : (o : Option Stage) (s : List ℕ) → list_all is_alphanum s ≡ true
    → stage_after o s ≡ stage_past o s
next_is o s h = by_tests o s
    ∙ (λ i. stage_by o (short_is s i) (long_is s i) (extlang_is s i) (script_is s i)
    (region_is s i) (variant_is s h i) (is_x s) (singleton_is s h i) (piece_is s h i)
    (private_is s h i))

-- ---- the states

-- what a subtag can be
unfoldable pub usual : (n : ℕ) (l d f x : Bool) → Bool
usual n l d f x =
    if n == 0 then (l && d) && (not f && not x)
    else (if x then (n == 1) && (l && (not d && not f))
    else (not (l && d) && ((not l || not f) && ((not d || f) && (not (n == 1) || (l || d))))))

abbrev kind : (n : ℕ) (l d f x : Bool) → ℕ
kind n l d f x =
    if n == 0 then 0
    else (if x then 1 else (if l then 2 else (if d then 3 else (if f then 5 else 4))))

-- the state after a stage and so much of a subtag
unfoldable pub state_of : (m n : ℕ) (l d f x : Bool) → ℕ
state_of m n l d f x = get_or (get_or states m []) (n * 6 + kind n l d f x) 0

abbrev moved : List ℕ → ℕ → ℕ → ℕ
moved table state class = get_or table (state * 5 + class) 0

-- the same, byte by byte
abbrev pub run : List ℕ → ℕ → List ℕ → ℕ
run table state [] = state
run table state (b ∷ text) = run table (moved table state (byte_class b)) text

-- ---- what the table has to say

abbrev first_by : ℕ → Bool → Bool → Bool
first_by n f digit = if n == 0 then digit else f

abbrev x_by : ℕ → Bool → Bool
x_by n x = if n == 0 then x else false

abbrev grown_state : (m n : ℕ) (l d f letter is_x : Bool) → ℕ
grown_state m n l d f letter is_x = state_of m (n + 1) (l && letter) (d && not letter)
    (first_by n f (not letter)) (x_by n is_x)

abbrev grown_usual : (n : ℕ) (l d f letter is_x : Bool) → Bool
grown_usual n l d f letter is_x = usual (n + 1) (l && letter) (d && not letter)
    (first_by n f (not letter)) (x_by n is_x)

abbrev next_at : (m n : ℕ) (l d f x : Bool) → Option Stage
next_at m n l d f x = stage_next (stage_at m) n l d f x

-- one more letter or digit, of a class
unfoldable pub grows : List ℕ → (m n : ℕ) (l d f x : Bool) (letter is_x : Bool) (class : ℕ) → Bool
grows table m n l d f x letter is_x class =
    if nat_lt n 8 then
    (moved table (state_of m n l d f x) class == grown_state m n l d f letter is_x)
    && grown_usual n l d f letter is_x
    else moved table (state_of m n l d f x) class == 0

-- a hyphen
unfoldable pub ends : List ℕ → (m n : ℕ) (l d f x : Bool) → Bool
ends table m n l d f x =
    if n == 0 then moved table (state_of m n l d f x) 3 == 0
    else ((moved table (state_of m n l d f x) 3 == state_of
    (stage_number (next_at m n l d f x)) 0 true true false false)
    && (is_numbered (next_at m n l d f x) && nat_lt (stage_number (next_at m n l d f x)) 12))

abbrev same : Bool → Bool → Bool
same a b = if a then b else not b

-- the end of the text
unfoldable pub stops : (m n : ℕ) (l d f x : Bool) → Bool
stops m n l d f x =
    same (nat_le 37 (state_of m n l d f x)) (not (n == 0) && complete (next_at m n l d f x))

-- what the table has to say of each way on: a letter, an "x", a digit, a hyphen, another byte, the
-- end
unfoldable pub fits : List ℕ → (m n : ℕ) (l d f x : Bool) → Bool
fits table m n l d f x =
    if usual n l d f x then grows table m n l d f x true false 0
    && (grows table m n l d f x true true 1
    && (grows table m n l d f x false false 2
    && (ends table m n l d f x
    && ((moved table (state_of m n l d f x) 4 == 0) && stops m n l d f x)))) else true

abbrev every : ℕ → (ℕ → Bool) → Bool
every zero test = true
every (suc n) test = test n && every n test

abbrev either : (Bool → Bool) → Bool
either test = test true && test false

-- it says so for each stage and all that a subtag can be
unfoldable pub all_fit : List ℕ → Bool
all_fit table =
    every 12 (λ m. every 9
    (λ n. either (λ l. either (λ d. either (λ f. either (λ x. fits table m n l d f x))))))

-- from no stage there is no way
abbrev are_zeros : List ℕ → Bool
are_zeros table = every 5 (λ class. moved table 0 class == 0)

-- each state has a row
abbrev are_small : List ℕ → Bool
are_small table = every 370 (λ place. nat_lt (get_or table place 0) 74)

-- all that has to hold of the table
unfoldable pub is_table : List ℕ → Bool
is_table table = are_zeros table && (are_small table && all_fit table)

every_at : (n : ℕ) (test : ℕ → Bool) (i : ℕ) → every n test ≡ true → i < n → test i ≡ true
every_at zero test i h lt = absurd (omega arith)
every_at (suc n) test i h lt =
    let parts = each_true (test n) (every n test) h in
    elim (cases_bool (i == n)) [
      | inl e ↦ subst (λ (k : ℕ). test k ≡ true) (sym (eqb-true _ _ e)) parts.0
      | inr e ↦ every_at n test i parts.1 (grind (arith, nat_tests))
    ]

either_at : (test : Bool → Bool) (b : Bool) → either test ≡ true → test b ≡ true
either_at test true h = (each_true (test true) (test false) h).0
either_at test false h = (each_true (test true) (test false) h).1

-- what the table says of a stage and so much of a subtag
record Fits (table : List ℕ) (m n : ℕ) (l d f x : Bool) : Type 0 where
  pub letter : grows table m n l d f x true false 0 ≡ true
  pub letter_x : grows table m n l d f x true true 1 ≡ true
  pub digit : grows table m n l d f x false false 2 ≡ true
  pub hyphen : ends table m n l d f x ≡ true
  pub other : moved table (state_of m n l d f x) 4 ≡ 0
  pub stop : stops m n l d f x ≡ true

fits_at : (table : List ℕ) (m n : ℕ) (l d f x : Bool) → is_table table ≡ true → m < 12 → n < 9
    → usual n l d f x ≡ true → Fits table m n l d f x
unfolding is_table all_fit fits
fits_at table m n l d f x ok few short u =
    let asked =
    each_true (are_small table) (all_fit table)
    (each_true (are_zeros table) (are_small table && all_fit table) ok).1 in
    let at_m =
    every_at 12
    (λ m. every 9
    (λ n. either (λ l. either (λ d. either (λ f. either (λ x. fits table m n l d f x)))))) m
    asked.1 few in
    let at_n =
    every_at 9
    (λ n. either (λ l. either (λ d. either (λ f. either (λ x. fits table m n l d f x))))) n
    at_m short in
    let at_l =
    either_at (λ l. either (λ d. either (λ f. either (λ x. fits table m n l d f x)))) l at_n in
    let at_d = either_at (λ d. either (λ f. either (λ x. fits table m n l d f x))) d at_l in
    let at_f = either_at (λ f. either (λ x. fits table m n l d f x)) f at_d in
    let at_x : fits table m n l d f x ≡ true = either_at (λ x. fits table m n l d f x) x at_f in
    parts table m n l d f x (rw u at at_x)
  where
    parts : (table : List ℕ) (m n : ℕ) (l d f x : Bool)
        → grows table m n l d f x true false 0
        && (grows table m n l d f x true true 1
        && (grows table m n l d f x false false 2
        && (ends table m n l d f x
        && ((moved table (state_of m n l d f x) 4 == 0) && stops m n l d f x)))) ≡ true
        → Fits table m n l d f x
    parts table m n l d f x h =
        let one = each_true _ _ h in
        let two = each_true _ _ one.1 in
        let three = each_true _ _ two.1 in
        let four = each_true _ _ three.1 in
        let five = each_true _ _ four.1 in
        record {
          letter = one.0;
          letter_x = two.0;
          digit = three.0;
          hyphen = four.0;
          other =
              eqb-true _ _ five.0;
          stop = five.1;
        }

-- ---- a subtag that is read

abbrev state_at : ℕ → List ℕ → ℕ
state_at m s = state_of m (length s) (list_all is_letter s) (list_all is_digit s)
    (list_any is_digit (take 1 s)) (is_x s)

abbrev is_usual : List ℕ → Bool
is_usual s = usual (length s) (list_all is_letter s) (list_all is_digit s)
    (list_any is_digit (take 1 s)) (is_x s)

-- what has to hold of the table after this much of a subtag
abbrev Answers : List ℕ → ℕ → List ℕ → Type 0
Answers table m s = Fits table m (length s) (list_all is_letter s) (list_all is_digit s)
    (list_any is_digit (take 1 s)) (is_x s)

abbrev grows_on : List ℕ → ℕ → List ℕ → Bool → Bool → ℕ → Bool
grows_on table m s letter x class = grows table m (length s) (list_all is_letter s)
    (list_all is_digit s) (list_any is_digit (take 1 s)) (is_x s) letter x class

abbrev ends_on : List ℕ → ℕ → List ℕ → Bool
ends_on table m s = ends table m (length s) (list_all is_letter s) (list_all is_digit s)
    (list_any is_digit (take 1 s)) (is_x s)

abbrev stops_on : ℕ → List ℕ → Bool
stops_on m s = stops m (length s) (list_all is_letter s) (list_all is_digit s)
    (list_any is_digit (take 1 s)) (is_x s)

-- a byte that a subtag may have, in any case
record Grows (b : ℕ) (letter x : Bool) (class : ℕ) : Type 0 where
  pub class_is : byte_class b ≡ class
  pub hyphen : (to_ascii_lowercase b == 45) ≡ false
  pub letter_is : is_letter (to_ascii_lowercase b) ≡ letter
  pub digit_is : is_digit (to_ascii_lowercase b) ≡ not letter
  pub alphanum : is_alphanum (to_ascii_lowercase b) ≡ true
  pub x_is : (to_ascii_lowercase b == 120) ≡ x

record Ends (b : ℕ) : Type 0 where
  pub class_is : byte_class b ≡ 3
  pub hyphen : (to_ascii_lowercase b == 45) ≡ true

record Spoils (b : ℕ) : Type 0 where
  pub class_is : byte_class b ≡ 4
  pub hyphen : (to_ascii_lowercase b == 45) ≡ false
  pub alphanum : is_alphanum (to_ascii_lowercase b) ≡ false

x_lower : (b : ℕ) → ((b == 120) || (b == 88)) ≡ true → to_ascii_lowercase b ≡ 120
x_lower b h = grind (arith, nat_tests)

x_byte : (b : ℕ) → ((b == 120) || (b == 88)) ≡ true → Grows b true true 1
x_byte b h = let e = x_lower b h in record {
  class_is = rw h refl;
  hyphen = rw e refl;
  letter_is = rw e refl;
  digit_is = rw e refl;
  alphanum = rw e refl;
  x_is = rw e refl;
}

letter_no_hyphen : (b : ℕ) → is_ascii_alphabetic b ≡ true → (to_ascii_lowercase b == 45) ≡ false
letter_no_hyphen b h = grind (arith, nat_tests)

letter_lower : (b : ℕ) → is_ascii_alphabetic b ≡ true → is_letter (to_ascii_lowercase b) ≡ true
letter_lower b h = grind (arith, nat_tests)

letter_no_digit : (b : ℕ) → is_ascii_alphabetic b ≡ true → is_digit (to_ascii_lowercase b) ≡ false
letter_no_digit b h = grind (arith, nat_tests)

letter_no_x : (b : ℕ) → ((b == 120) || (b == 88)) ≡ false → (to_ascii_lowercase b == 120) ≡ false
letter_no_x b h = grind (arith, nat_tests)

letter_byte : (b : ℕ) → ((b == 120) || (b == 88)) ≡ false → is_ascii_alphabetic b ≡ true
    → Grows b true false 0
letter_byte b n h = record {
  class_is = rw (n, h) refl;
  hyphen = letter_no_hyphen b h;
  letter_is = letter_lower b h;
  digit_is = letter_no_digit b h;
  alphanum = rw (letter_lower b h) refl;
  x_is = letter_no_x b n;
}

digit_no_hyphen : (b : ℕ) → is_ascii_digit b ≡ true → (to_ascii_lowercase b == 45) ≡ false
digit_no_hyphen b h = grind (arith, nat_tests)

digit_no_letter : (b : ℕ) → is_ascii_digit b ≡ true → is_letter (to_ascii_lowercase b) ≡ false
digit_no_letter b h = grind (arith, nat_tests)

digit_lower : (b : ℕ) → is_ascii_digit b ≡ true → is_digit (to_ascii_lowercase b) ≡ true
digit_lower b h = grind (arith, nat_tests)

digit_byte : (b : ℕ) → ((b == 120) || (b == 88)) ≡ false → is_ascii_alphabetic b ≡ false
    → is_ascii_digit b ≡ true → Grows b false false 2
digit_byte b n l h = record {
  class_is = rw (n, l, h) refl;
  hyphen = digit_no_hyphen b h;
  letter_is = digit_no_letter b h;
  digit_is = digit_lower b h;
  alphanum = rw (digit_no_letter b h) (digit_lower b h);
  x_is = letter_no_x b n;
}

hyphen_lower : (b : ℕ) → (b == 45) ≡ true → (to_ascii_lowercase b == 45) ≡ true
hyphen_lower b h = grind (arith, nat_tests)

hyphen_byte : (b : ℕ) → ((b == 120) || (b == 88)) ≡ false → is_ascii_alphabetic b ≡ false
    → is_ascii_digit b ≡ false → (b == 45) ≡ true → Ends b
hyphen_byte b n l d h = record { class_is = rw (n, l, d, h) refl; hyphen = hyphen_lower b h }

other_no_hyphen : (b : ℕ) → (b == 45) ≡ false → (to_ascii_lowercase b == 45) ≡ false
other_no_hyphen b h = grind (arith, nat_tests)

other_alphanum : (b : ℕ) → is_ascii_alphabetic b ≡ false → is_ascii_digit b ≡ false
    → is_alphanum (to_ascii_lowercase b) ≡ false
other_alphanum b l d = grind (arith, nat_tests)

other_byte : (b : ℕ) → ((b == 120) || (b == 88)) ≡ false → is_ascii_alphabetic b ≡ false
    → is_ascii_digit b ≡ false → (b == 45) ≡ false → Spoils b
other_byte b n l d h =
    record {
      class_is = rw (n, l, d, h) refl;
      hyphen = other_no_hyphen b h;
      alphanum =
          other_alphanum b l d;
    }

abbrev IsByte : ℕ → Type 0
IsByte b = Grows b true false 0
    ⊎ (Grows b true true 1 ⊎ (Grows b false false 2 ⊎ (Ends b ⊎ Spoils b)))

byte : (b : ℕ) → IsByte b
byte b = elim (cases_bool ((b == 120) || (b == 88))) [
  | inl h ↦ inr (inl (x_byte b h))
  | inr n ↦ elim (cases_bool (is_ascii_alphabetic b)) [
    | inl h ↦ inl (letter_byte b n h)
    | inr l ↦ elim (cases_bool (is_ascii_digit b)) [
      | inl h ↦ inr (inr (inl (digit_byte b n l h)))
      | inr d ↦ elim (cases_bool (b == 45)) [
        | inl h ↦ inr (inr (inr (inl (hyphen_byte b n l d h))))
        | inr h ↦ inr (inr (inr (inr (other_byte b n l d h))))
      ]
    ]
  ]
]

-- The class of a byte is below 5.
pub small_class : (b : ℕ) → byte_class b < 5
small_class b = elim (byte b) [
  | inl g ↦ (let e = g.class_is in omega arith)
  | inr r ↦ elim r [
    | inl g ↦ (let e = g.class_is in omega arith)
    | inr r ↦ elim r [
      | inl g ↦ (let e = g.class_is in omega arith)
      | inr r ↦ elim r [
        | inl g ↦ (let e = g.class_is in
            omega arith)
        | inr g ↦ (let e = g.class_is in omega arith)
      ]
    ]
  ]
]

-- A table of 256 bytes that agrees with the classes does so at each byte.
pub class_from_table : (table : List ℕ) (b : ℕ)
    → agree_below (λ k. get_or table k 0 == byte_class k) (λ k. true) 256 ≡ true → b < 256
    → get_or table b 0 ≡ byte_class b
class_from_table table b h low =
    eqb-true _ _ (agree_below_at (λ k. get_or table k 0 == byte_class k) (λ k. true) 256 b h low)

-- ---- one more byte of a subtag

and_assoc : (a b c : Bool) → a && (b && c) ≡ (a && b) && c
and_assoc true b c = refl
and_assoc false b c = refl

-- A successor does not test as zero.
pub not_zero : (n : ℕ) → (suc n == 0) ≡ false
not_zero n = grind (arith, nat_tests)

all_push : (test : ℕ → Bool) (s : List ℕ) (b : ℕ) (v : Bool) → test b ≡ v
    → list_all test (s ++ b ∷ []) ≡ list_all test s && v
all_push test [] b v e = and_true (test b) ∙ e
all_push test (a ∷ s) b v e = ap (λ (t : Bool). test a && t) (all_push test s b v e)
    ∙ and_assoc (test a) (list_all test s) v

first_push : (s : List ℕ) (b : ℕ) (v : Bool) → is_digit b ≡ v
    → list_any is_digit (take 1 (s ++ b ∷ []))
    ≡ first_by (length s) (list_any is_digit (take 1 s)) v
first_push [] b v e = or_false (is_digit b) ∙ e
first_push (a ∷ s) b v e = rw (not_zero (length s)) refl

x_push : (s : List ℕ) (b : ℕ) (v : Bool) → (b == 120) ≡ v → is_x (s ++ b ∷ []) ≡ x_by (length s) v
unfolding is_x
x_push [] b v e = e
x_push (a ∷ []) b v e = rw (not_zero 0) refl
x_push (a ∷ c ∷ s) b v e = rw (not_zero (length (c ∷ s))) refl

size_push : (s : List ℕ) (b : ℕ) → length (s ++ b ∷ []) ≡ length s + 1
size_push s b = simp length-append

-- ---- what the stages say

abbrev good : Option Stage → List (List ℕ) → Bool
good o list = list_all is_private_piece list && accepts list o

-- the text before the first piece belongs to it
abbrev onto : List ℕ → List (List ℕ) → List (List ℕ)
onto s [] = s ∷ []
onto s (p ∷ parts) = (s ++ p) ∷ parts

onto_push : (s : List ℕ) (b : ℕ) (parts : List (List ℕ)) → 0 < length parts
    → onto s (onto_first b parts) ≡ onto (s ++ b ∷ []) parts
onto_push s b [] some = absurd (omega arith)
onto_push s b (p ∷ parts) some = ap (λ (q : List ℕ). q ∷ parts) (regroup s b p)
  where
    regroup : (s : List ℕ) (b : ℕ) (p : List ℕ) → s ++ b ∷ p ≡ (s ++ b ∷ []) ++ p
    regroup s b p = rw append_assoc refl

onto_nothing : (parts : List (List ℕ)) → 0 < length parts → onto [] parts ≡ parts
onto_nothing [] some = absurd (omega arith)
onto_nothing (p ∷ parts) some = refl

not_good : (o : Option Stage) (p : List ℕ) (parts : List (List ℕ)) → is_private_piece p ≡ false
    → good o (p ∷ parts) ≡ false
not_good o p parts h = rw h refl

too_long : (s p : List ℕ) → 8 < length s → is_private_piece (s ++ p) ≡ false
unfolding is_private_piece
too_long s p long = is_false _ (λ h. let r = (run_of is_alphanum 1 8 (s ++ p) h).short in
    let size : length (s ++ p) ≡ length s + length p = simp length-append in omega arith)

-- a piece that is too long is none, however it goes on
long_onto : (o : Option Stage) (s : List ℕ) (parts : List (List ℕ)) → 0 < length parts
    → 8 < length s → good o (onto s parts) ≡ false
long_onto o s [] some long = absurd (omega arith)
long_onto o s (p ∷ parts) some long = not_good o (s ++ p) parts (too_long s p long)

all_middle : (test : ℕ → Bool) (s : List ℕ) (b : ℕ) (p : List ℕ)
    → list_all test (s ++ b ∷ p) ≡ true → test b ≡ true
all_middle test [] b p h = (each_true (test b) (list_all test p) h).0
all_middle test (a ∷ s) b p h =
    all_middle test s b p (each_true (test a) (list_all test (s ++ b ∷ p)) h).1

spoiled : (s : List ℕ) (b : ℕ) (p : List ℕ) → is_alphanum b ≡ false
    → is_private_piece (s ++ b ∷ p) ≡ false
unfolding is_private_piece
spoiled s b p h =
    is_false _ (λ e.
    let yes = all_middle is_alphanum s b p (run_of is_alphanum 1 8 (s ++ b ∷ p) e).all in cc)

-- so is one with another byte
spoiled_onto : (o : Option Stage) (s : List ℕ) (b : ℕ) (parts : List (List ℕ)) → 0 < length parts
    → is_alphanum b ≡ false → good o (onto s (onto_first b parts)) ≡ false
spoiled_onto o s b [] some h = absurd (omega arith)
spoiled_onto o s b (p ∷ parts) some h = not_good o (s ++ b ∷ p) parts (spoiled s b p h)

accepts_end : (o : Option Stage) → accepts [] o ≡ complete o
unfolding accepts
accepts_end None = refl
accepts_end (Some stage) = refl

private_some : (n : ℕ) → n ≤ 8 → within 1 8 n ≡ not (n == 0)
private_some zero h = refl
private_some (suc n) h = both _ _ (is_le 1 (suc n) (omega arith)) (is_le (suc n) 8 h)
    ∙ sym (rw (not_zero n) refl)

-- the last piece
end_good : (o : Option Stage) (s : List ℕ) → length s ≤ 8 → list_all is_alphanum s ≡ true
    → good o (s ∷ []) ≡ not (length s == 0) && complete (stage_past o s)
end_good o s short h =
    let piece : is_private_piece s && true ≡ not (length s == 0) = and_true (is_private_piece s)
    ∙ (private_is s h ∙ private_some (length s) short) in
    let end : accepts (s ∷ []) o ≡ complete (stage_past o s) = accepts_next s [] o
    ∙ (accepts_end (stage_after o s) ∙ ap complete (next_is o s h)) in
    λ i. piece i && end i

-- a piece, and others after its hyphen
next_good : (o : Option Stage) (s : List ℕ) (parts : List (List ℕ)) → is_private_piece s ≡ true
    → good o (s ∷ parts) ≡ good (stage_after o s) parts
next_good o s parts h =
    ap (λ (b : Bool). (b && list_all is_private_piece parts) && accepts (s ∷ parts) o) h
    ∙ ap (λ (b : Bool). list_all is_private_piece parts && b) (accepts_next s parts o)

-- ---- the pieces of a text, from its first byte on

pieces_end : (s : List ℕ) → onto s (subtags []) ≡ s ∷ []
unfolding pieces_by
pieces_end s = ap (λ (p : List ℕ). p ∷ []) (append-nil s)

pieces_hyphen : (s : List ℕ) (b : ℕ) (text : List ℕ) → (to_ascii_lowercase b == 45) ≡ true
    → onto s (subtags (b ∷ text)) ≡ s ∷ subtags text
unfolding pieces_by
pieces_hyphen s b text h =
    ap (onto s)
    (slice_split-cons_yes (λ x. x == 45) (to_ascii_lowercase b) (str_to_ascii_lowercase text) h)
    ∙ ap (λ (p : List ℕ). p ∷ slice_split (λ x. x == 45) (str_to_ascii_lowercase text))
    (append-nil s)

pieces_byte : (b : ℕ) (text : List ℕ) → (to_ascii_lowercase b == 45) ≡ false
    → subtags (b ∷ text) ≡ onto_first (to_ascii_lowercase b) (subtags text)
unfolding pieces_by
pieces_byte b text h =
    slice_split-cons_no (λ x. x == 45) (to_ascii_lowercase b) (str_to_ascii_lowercase text) h

-- ---- the table says what the stages say

-- of a text after so much of a subtag
abbrev Reads : List ℕ → List ℕ → Type 0
Reads table text = (s : List ℕ) (m : ℕ) → m < 12 → length s ≤ 8 → list_all is_alphanum s ≡ true
    → is_usual s ≡ true
    → nat_le 37 (run table (state_at m s) text) ≡ good (stage_at m) (onto s (subtags text))

stays_dead : (table text : List ℕ) → is_table table ≡ true → nat_le 37 (run table 0 text) ≡ false
unfolding is_table
stays_dead table [] ok = refl
stays_dead table (b ∷ text) ok =
    let zeros = (each_true (are_zeros table) (are_small table && all_fit table) ok).0 in
    let zero_next : moved table 0 (byte_class b) ≡ 0 =
    eqb-true _ _
    (every_at 5 (λ class. moved table 0 class == 0) (byte_class b) zeros (small_class b)) in
    ap (λ (state : ℕ). nat_le 37 (run table state text)) zero_next ∙ stays_dead table text ok

dead_from : (table text : List ℕ) (state : ℕ) → is_table table ≡ true → state ≡ 0
    → nat_le 37 (run table state text) ≡ false
dead_from table text state ok e = ap (λ (n : ℕ). nat_le 37 (run table n text)) e
    ∙ stays_dead table text ok

after_class : (table text : List ℕ) (state b class : ℕ) → byte_class b ≡ class
    → nat_le 37 (run table state (b ∷ text)) ≡ nat_le 37 (run table (moved table state class) text)
after_class table text state b class e =
    ap (λ (c : ℕ). nat_le 37 (run table (moved table state c) text)) e

-- what the table says where a subtag grows
record Grown (table : List ℕ) (m n : ℕ) (l d f x : Bool) (letter is_x : Bool)
    (class : ℕ) : Type 0 where
  pub state : moved table (state_of m n l d f x) class ≡ grown_state m n l d f letter is_x
  pub usual_is : grown_usual n l d f letter is_x ≡ true

grown : (table : List ℕ) (m n : ℕ) (l d f x : Bool) (letter is_x : Bool) (class : ℕ)
    → nat_lt n 8 ≡ true → grows table m n l d f x letter is_x class ≡ true
    → Grown table m n l d f x letter is_x class
unfolding grows
grown table m n l d f x letter is_x class lt h = from (rw lt at h)
  where
    from : (moved table (state_of m n l d f x) class == grown_state m n l d f letter is_x)
        && grown_usual n l d f letter is_x ≡ true → Grown table m n l d f x letter is_x class
    from h = let parts = each_true _ _ h in
        record { state = eqb-true _ _ parts.0; usual_is = parts.1 }

outgrown : (table : List ℕ) (m n : ℕ) (l d f x : Bool) (letter is_x : Bool) (class : ℕ)
    → nat_lt n 8 ≡ false → grows table m n l d f x letter is_x class ≡ true
    → moved table (state_of m n l d f x) class ≡ 0
unfolding grows
outgrown table m n l d f x letter is_x class ge h = eqb-true _ _ (rw ge at h)

grow : (table text s : List ℕ) (m b : ℕ) (letter x : Bool) (class : ℕ) → is_table table ≡ true
    → Reads table text → Grows b letter x class → m < 12 → length s ≤ 8
    → list_all is_alphanum s ≡ true → grows_on table m s letter x class ≡ true
    → nat_le 37 (run table (state_at m s) (b ∷ text))
    ≡ good (stage_at m) (onto s (subtags (b ∷ text)))
grow table text s m b letter x class ok reads g few short all h =
    let lower : ℕ = to_ascii_lowercase b in
    let pushed : List ℕ = s ++ lower ∷ [] in
    let rest : List (List ℕ) = subtags text in
    let some : 0 < length rest = some_pieces (str_to_ascii_lowercase text) in
    let parts : onto s (subtags (b ∷ text)) ≡ onto pushed rest =
    ap (onto s) (pieces_byte b text g.hyphen) ∙ onto_push s lower rest some in
    let size : length pushed ≡ length s + 1 = size_push s lower in
    let letters = all_push is_letter s lower letter g.letter_is in
    let digits = all_push is_digit s lower (not letter) g.digit_is in
    let first = first_push s lower (not letter) g.digit_is in
    let is_it_x = x_push s lower x g.x_is in
    elim (cases_bool (nat_lt (length s) 8)) [
      | inl lt ↦ (
          let next = grown table m (length s) _ _ _ _ letter x class lt h in
          let same_state : grown_state m (length s) (list_all is_letter s) (list_all is_digit s)
          (list_any is_digit (take 1 s)) letter x ≡ state_at m pushed =
          sym (λ i. state_of m (size i) (letters i) (digits i) (first i) (is_it_x i)) in
          let same_usual : is_usual pushed
          ≡ grown_usual (length s) (list_all is_letter s) (list_all is_digit s)
          (list_any is_digit (take 1 s)) letter x =
          λ i. usual (size i) (letters i) (digits i) (first i) (is_it_x i) in
          let fits_still : length pushed ≤ 8 = (let n = lt_is (length s) 8 lt in omega arith) in
          let alphanums : list_all is_alphanum pushed ≡ true =
          all_push is_alphanum s lower true g.alphanum
          ∙ (and_true (list_all is_alphanum s) ∙ all) in
          after_class table text (state_at m s) b class g.class_is
          ∙ (ap (λ (n : ℕ). nat_le 37 (run table n text)) (next.state ∙ same_state)
          ∙ (reads pushed m few fits_still alphanums (same_usual ∙ next.usual_is)
          ∙ ap (good (stage_at m)) (sym parts))))
      | inr ge ↦ (
          let none = outgrown table m (length s) _ _ _ _ letter x class ge h in
          let long : 8 < length pushed = grind (arith, nat_tests) in
          after_class table text (state_at m s) b class g.class_is
          ∙ (dead_from table text (moved table (state_at m s) class) ok none
          ∙ sym (ap (good (stage_at m)) parts ∙ long_onto (stage_at m) pushed rest some long)))
    ]

spoil : (table text s : List ℕ) (m b : ℕ) → is_table table ≡ true → Spoils b
    → moved table (state_at m s) 4 ≡ 0
    → nat_le 37 (run table (state_at m s) (b ∷ text))
    ≡ good (stage_at m) (onto s (subtags (b ∷ text)))
spoil table text s m b ok g none =
    let rest : List (List ℕ) = subtags text in
    after_class table text (state_at m s) b 4 g.class_is
    ∙ (dead_from table text (moved table (state_at m s) 4) ok none
    ∙ sym (ap (λ (list : List (List ℕ)). good (stage_at m) (onto s list))
    (pieces_byte b text g.hyphen)
    ∙ spoiled_onto (stage_at m) s (to_ascii_lowercase b) rest
    (some_pieces (str_to_ascii_lowercase text)) g.alphanum))

-- what the table says where a subtag ends
record Ended (table : List ℕ) (m n : ℕ) (l d f x : Bool) : Type 0 where
  pub state : moved table (state_of m n l d f x) 3
      ≡ state_of (stage_number (next_at m n l d f x)) 0 true true false false
  pub known : is_numbered (next_at m n l d f x) ≡ true
  pub few : stage_number (next_at m n l d f x) < 12

ended : (table : List ℕ) (m n : ℕ) (l d f x : Bool) → (n == 0) ≡ false
    → ends table m n l d f x ≡ true → Ended table m n l d f x
unfolding ends
ended table m n l d f x some h = from (rw some at h)
  where
    from : (moved table (state_of m n l d f x) 3 == state_of
        (stage_number (next_at m n l d f x)) 0 true true false false)
        && (is_numbered (next_at m n l d f x)
        && nat_lt (stage_number (next_at m n l d f x)) 12) ≡ true
        → Ended table m n l d f x
    from h = let one = each_true _ _ h in let two = each_true _ _ one.1 in
        record { state = eqb-true _ _ one.0; known = two.0; few = lt_is _ _ two.1 }

unended : (table : List ℕ) (m n : ℕ) (l d f x : Bool) → (n == 0) ≡ true
    → ends table m n l d f x ≡ true → moved table (state_of m n l d f x) 3 ≡ 0
unfolding ends
unended table m n l d f x none h = eqb-true _ _ (rw none at h)

state_before : (m : ℕ) → state_at m [] ≡ state_of m 0 true true false false
unfolding is_x
state_before m = refl

usual_before : is_usual [] ≡ true
unfolding is_x usual
usual_before = refl

end : (table text s : List ℕ) (m b : ℕ) → is_table table ≡ true → Reads table text → Ends b
    → m < 12 → length s ≤ 8 → list_all is_alphanum s ≡ true → ends_on table m s ≡ true
    → nat_le 37 (run table (state_at m s) (b ∷ text))
    ≡ good (stage_at m) (onto s (subtags (b ∷ text)))
end table text s m b ok reads g few short all h =
    let rest : List (List ℕ) = subtags text in
    let parts : good (stage_at m) (onto s (subtags (b ∷ text))) ≡ good (stage_at m) (s ∷ rest) =
    ap (good (stage_at m)) (pieces_hyphen s b text g.hyphen) in
    let piece : is_private_piece s ≡ not (length s == 0) = private_is s all
    ∙ private_some (length s) short in
    let following : Option Stage = stage_past (stage_at m) s in
    elim (cases_bool (length s == 0)) [
      | inl none ↦ (
          let gone = unended table m (length s) _ _ _ _ none h in
          let no_piece : is_private_piece s ≡ false = piece ∙ ap not none in
          after_class table text (state_at m s) b 3 g.class_is
          ∙ (dead_from table text (moved table (state_at m s) 3) ok gone
          ∙ sym (parts ∙ not_good (stage_at m) s rest no_piece)))
      | inr some ↦ (
          let next = ended table m (length s) _ _ _ _ some h in
          let a_piece : is_private_piece s ≡ true = piece ∙ ap not some in
          let stage : stage_at (stage_number following) ≡ stage_after (stage_at m) s =
          numbered following next.known ∙ sym (next_is (stage_at m) s all) in
          after_class table text (state_at m s) b 3 g.class_is
          ∙ (ap (λ (n : ℕ). nat_le 37 (run table n text)) (next.state
          ∙ sym (state_before (stage_number following)))
          ∙ (reads [] (stage_number following) next.few (omega arith) refl usual_before
          ∙ (ap (good (stage_at (stage_number following)))
          (onto_nothing rest (some_pieces (str_to_ascii_lowercase text)))
          ∙ (ap (λ (o : Option Stage). good o rest) stage
          ∙ sym (parts ∙ next_good (stage_at m) s rest a_piece))))))
    ]

same_is : (a b : Bool) → same a b ≡ true → a ≡ b
same_is true true h = refl
same_is true false h = cc
same_is false true h = cc
same_is false false h = refl

stop : (m : ℕ) (s : List ℕ) → length s ≤ 8 → list_all is_alphanum s ≡ true → stops_on m s ≡ true
    → nat_le 37 (state_at m s) ≡ good (stage_at m) (s ∷ [])
unfolding stops
stop m s short all h = same_is _ _ h ∙ sym (end_good (stage_at m) s short all)

reads_on : (table : List ℕ) → is_table table ≡ true → (text : List ℕ) → Reads table text
reads_on table ok [] s m few short all u =
    let f : Answers table m s = fits_at table m _ _ _ _ _ ok few (omega arith) u in
    stop m s short all f.stop ∙ sym (ap (good (stage_at m)) (pieces_end s))
reads_on table ok (b ∷ text) s m few short all u =
    let f : Answers table m s = fits_at table m _ _ _ _ _ ok few (omega arith) u in
    elim (byte b) [
      | inl g ↦ grow table text s m b true false 0 ok
          (reads_on table ok text) g few short all f.letter
      | inr r ↦ elim r [
        | inl g ↦ grow table text s m b true true 1 ok
            (reads_on table ok text) g few short all f.letter_x
        | inr r ↦ elim r [
          | inl g ↦ grow table text s m b false false 2 ok
              (reads_on table ok text) g few short all f.digit
          | inr r ↦ elim r [
            | inl g ↦ end table text s m b ok (reads_on table ok text) g few short all f.hyphen
            | inr g ↦ spoil table text s m b ok g f.other
          ]
        ]
      ]
    ]

-- Such a table ends in one of its last states exactly where the stages accept the subtags.
pub staged : (table text : List ℕ) → is_table table ≡ true
    → nat_le 37 (run table 1 text) ≡ is_staged (subtags text)
unfolding state_of
staged table text ok =
    let rest : List (List ℕ) = subtags text in
    let read : nat_le 37 (run table (state_at 1 []) text) ≡ good (Some Start) (onto [] rest) =
    reads_on table ok text [] 1 (omega arith) (omega arith) refl usual_before in
    ap (λ (n : ℕ). nat_le 37 (run table n text)) (sym (state_before 1))
    ∙ (read ∙ ap (good (Some Start))
    (onto_nothing rest (some_pieces (str_to_ascii_lowercase text))))

-- Each state has a row.
pub small_state : (table : List ℕ) (place : ℕ) → is_table table ≡ true → place < 370
    → get_or table place 0 < 74
unfolding is_table
small_state table place ok h =
    let parts = each_true (are_zeros table) (are_small table && all_fit table) ok in
    let small = each_true (are_small table) (all_fit table) parts.1 in
    lt_is _ _ (every_at 370 (λ place. nat_lt (get_or table place 0) 74) place small.0 h)

-- The bytes of a front, and one more.
pub run_push : (table : List ℕ) (state : ℕ) (text : List ℕ) (b : ℕ)
    → run table state (text ++ b ∷ []) ≡ moved table (run table state text) (byte_class b)
run_push table state [] b = refl
run_push table state (a ∷ text) b = run_push table (moved table state (byte_class a)) text b
