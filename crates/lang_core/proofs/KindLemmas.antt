-- No subtag is of two kinds that may be at one place.
use Rattle.std.proofs.Common.{ℕ, ◌≡◌, ◌≤◌, ◌⊎◌, inl, inr, List, [], ◌∷◌, Bool, true, false, length}
use Rattle.std.proofs.Common.{take, refl, arith}
use Rattle.std.specs.Prelude.{nat_le, ◌&&◌, not}
use Rattle.std.specs.List.{list_all, list_any}
use Rattle.std.proofs.lemmas.Bool.Decides.{nat_tests}
use Rattle.lang_core.specs.Grammar.{is_letter, is_digit, is_alphanum, is_run, is_short_language}
use Rattle.lang_core.specs.Grammar.{is_long_language, is_extlang, is_script, is_region, is_variant}
use Rattle.lang_core.specs.Grammar.{is_x, is_singleton, is_extension_piece}
use Rattle.lang_core.proofs.Basics.{each_true, one_true, is_false, le_is}

-- A text of `low` to `high` bytes, all of one kind.
pub record RunOf (kind : ℕ → Bool) (low high : ℕ) (s : List ℕ) : Type 0 where
  pub long : low ≤ length s
  pub short : length s ≤ high
  pub all : list_all kind s ≡ true

-- A text that passes the test `is_run` has from `low` to `high` bytes, all of the kind.
pub run_of : (kind : ℕ → Bool) (low high : ℕ) (s : List ℕ) → is_run kind low high s ≡ true
    → RunOf kind low high s
unfolding is_run
run_of kind low high s h =
    let parts = each_true (nat_le low (length s) && nat_le (length s) high) (list_all kind s) h in
    let sizes = each_true (nat_le low (length s)) (nat_le (length s) high) parts.0 in
    record { long = le_is _ _ sizes.0; short = le_is _ _ sizes.1; all = parts.1 }

letter_not_digit : (b : ℕ) → is_letter b ≡ true → is_digit b ≡ true → ⊥
letter_not_digit b l d = grind (arith, nat_tests)

first_kind : (s : List ℕ) → 1 ≤ length s → list_all is_letter s ≡ true
    → list_any is_digit (take 1 s) ≡ true → ⊥
first_kind [] n l d = cc
first_kind (b ∷ bs) n l d =
    let letter = each_true (is_letter b) (list_all is_letter bs) l in
    elim (one_true (is_digit b) false d) [ inl e ↦ letter_not_digit b letter.0 e | inr e ↦ cc ]

kinds : (s : List ℕ) → 1 ≤ length s → list_all is_letter s ≡ true → list_all is_digit s ≡ true → ⊥
kinds [] n l d = omega arith
kinds (b ∷ bs) n l d =
    letter_not_digit b (each_true (is_letter b) (list_all is_letter bs) l).0
    (each_true (is_digit b) (list_all is_digit bs) d).0

-- The subtag "x" has one byte.
pub size_x : (s : List ℕ) → is_x s ≡ true → length s ≡ 1
unfolding is_x
size_x [] h = cc
size_x (b ∷ []) h = refl
size_x (b ∷ c ∷ s) h = cc

-- A short language is two or three letters.
pub short_run : (s : List ℕ) → is_short_language s ≡ true → RunOf is_letter 2 3 s
unfolding is_short_language
short_run s h = run_of _ _ _ s h

-- A long language is four to eight letters.
pub long_run : (s : List ℕ) → is_long_language s ≡ true → RunOf is_letter 4 8 s
unfolding is_long_language
long_run s h = run_of _ _ _ s h

-- An extlang is three letters.
pub extlang_run : (s : List ℕ) → is_extlang s ≡ true → RunOf is_letter 3 3 s
unfolding is_extlang
extlang_run s h = run_of _ _ _ s h

-- A script is four letters.
pub script_run : (s : List ℕ) → is_script s ≡ true → RunOf is_letter 4 4 s
unfolding is_script
script_run s h = run_of _ _ _ s h

-- A subtag of an extension is two to eight letters or digits.
pub piece_run : (s : List ℕ) → is_extension_piece s ≡ true → RunOf is_alphanum 2 8 s
unfolding is_extension_piece
piece_run s h = run_of _ _ _ s h

-- A region is two letters or three digits.
pub region_run : (s : List ℕ) → is_region s ≡ true → RunOf is_letter 2 2 s ⊎ RunOf is_digit 3 3 s
unfolding is_region
region_run s h =
    elim (one_true (is_run is_letter 2 2 s) (is_run is_digit 3 3 s) h) [
      | inl a ↦
          inl (run_of _ _ _ s a)
      | inr a ↦ inr (run_of _ _ _ s a)
    ]

-- A variant is five to eight letters or digits, or four of which the first is a digit.
pub variant_run : (s : List ℕ) → is_variant s ≡ true
    → RunOf is_alphanum 5 8 s ⊎ (RunOf is_alphanum 4 4 s × (list_any is_digit (take 1 s) ≡ true))
unfolding is_variant
variant_run s h =
    elim (one_true (is_run is_alphanum 5 8 s)
    (is_run is_alphanum 4 4 s && list_any is_digit (take 1 s)) h) [
      | inl a ↦ inl (run_of _ _ _ s a)
      | inr a ↦
          (let parts = each_true (is_run is_alphanum 4 4 s) (list_any is_digit (take 1 s)) a in
          inr (run_of _ _ _ s parts.0, parts.1))
    ]

-- A singleton is one letter or digit.
pub singleton_run : (s : List ℕ) → is_singleton s ≡ true → RunOf is_alphanum 1 1 s
unfolding is_singleton
singleton_run s h = run_of _ _ _ s (each_true (is_run is_alphanum 1 1 s) (not (is_x s)) h).0

-- ---- apart

-- The subtag "x" is no singleton.
pub x_singleton : (s : List ℕ) → is_x s ≡ true → is_singleton s ≡ false
unfolding is_singleton
x_singleton s h =
    is_false _
    (λ e. let parts = each_true (is_run is_alphanum 1 1 s) (not (is_x s)) e in let y =
    rw h at parts.1 in cc)

-- one character is nothing but x or a singleton
pub record IsSingle (s : List ℕ) : Type 0 where
  pub short : is_short_language s ≡ false
  pub long : is_long_language s ≡ false
  pub extlang : is_extlang s ≡ false
  pub script : is_script s ≡ false
  pub region : is_region s ≡ false
  pub variant : is_variant s ≡ false
  pub piece : is_extension_piece s ≡ false

-- A subtag of at most one byte is no language, extlang, script, region or variant, and no subtag of
-- an extension.
pub single : (s : List ℕ) → length s ≤ 1 → IsSingle s
single s n = record {
  short = is_false _ (λ h. let r = (short_run s h).long in omega arith);
  long = is_false _ (λ h. let r = (long_run s h).long in omega arith);
  extlang = is_false _ (λ h. let r = (extlang_run s h).long in omega arith);
  script = is_false _ (λ h. let r = (script_run s h).long in omega arith);
  region = is_false _ (λ h. elim (region_run s h) [ inl r ↦ omega arith | inr r ↦ omega arith ]);
  variant = is_false _ (λ h. elim (variant_run s h) [ inl r ↦ omega arith | inr r ↦ omega arith ]);
  piece = is_false _ (λ h. let r = (piece_run s h).long in omega arith);
}

-- The subtag is no extlang, script or region.
pub record IsVariantOnly (s : List ℕ) : Type 0 where
  pub extlang : is_extlang s ≡ false
  pub script : is_script s ≡ false
  pub region : is_region s ≡ false

-- A variant is no extlang, script or region.
pub variant_only : (s : List ℕ) → is_variant s ≡ true → IsVariantOnly s
variant_only s v = elim (variant_run s v) [
  | inl a ↦ record {
    extlang = is_false _ (λ h. let r = extlang_run s h in omega arith);
    script = is_false _ (λ h. let r = script_run s h in omega arith);
    region = is_false _ (λ h. elim (region_run s h) [ inl r ↦ omega arith | inr r ↦ omega arith ]);
  }
  | inr a ↦ record {
    extlang = is_false _ (λ h. let r = extlang_run s h in omega arith);
    script = is_false _ (λ h. let r = script_run s h in first_kind s (omega arith) r.all a.1);
    region = is_false _ (λ h. elim (region_run s h) [ inl r ↦ omega arith | inr r ↦ omega arith ]);
  }
]

-- A region is no extlang.
pub region_extlang : (s : List ℕ) → is_region s ≡ true → is_extlang s ≡ false
region_extlang s g = elim (region_run s g) [
  | inl a ↦ is_false _ (λ h. let r = extlang_run s h in omega arith)
  | inr a ↦ is_false _ (λ h. let r = extlang_run s h in kinds s (omega arith) r.all a.all)
]

-- A region is no script.
pub region_script : (s : List ℕ) → is_region s ≡ true → is_script s ≡ false
region_script s g = elim (region_run s g) [
  | inl a ↦ is_false _ (λ h. let r = script_run s h in omega arith)
  | inr a ↦ is_false _ (λ h. let r = script_run s h in omega arith)
]

-- A script is no extlang.
pub script_extlang : (s : List ℕ) → is_script s ≡ true → is_extlang s ≡ false
script_extlang s g =
    is_false _ (λ h. let r = extlang_run s h in let q = script_run s g in omega arith)

-- A long language is no short one.
pub long_short : (s : List ℕ) → is_long_language s ≡ true → is_short_language s ≡ false
long_short s g = is_false _ (λ h. let r = short_run s h in let q = long_run s g in omega arith)

-- A singleton has one byte.
pub size_singleton : (s : List ℕ) → is_singleton s ≡ true → length s ≡ 1
size_singleton s h = let r = singleton_run s h in omega arith
