-- What is kept of a subtag.
use Rattle.std.proofs.Common.{ℕ, ◌≡◌, ◌≤◌, ◌<◌, List, [], ◌∷◌, ◌++◌, Bool, true, false, length}
use Rattle.std.proofs.Common.{refl, sym, get_or, ◌∙◌, ap, arith}
use Rattle.std.specs.Prelude.{nat_le, ◌&&◌, zero, suc}
use Rattle.std.specs.List.{list_all}
use Rattle.std.specs.Char.{to_ascii_lowercase, is_ascii_alphanumeric}
use Rattle.std.specs.Str.{str_to_ascii_lowercase}
use Rattle.std.proofs.lemmas.List.{length-map}
use Rattle.std.proofs.lemmas.Bool.Decides.{nat_tests}
use Rattle.lang_core.specs.Text.{pieces, joined}
use Rattle.lang_core.specs.Grammar.{is_run, is_letter, is_digit, is_alphanum, is_private_piece}
use Rattle.lang_core.specs.Grammar.{basic_piece, AreAll}
use Rattle.lang_core.proofs.Basics.{and_true, both, each_true, is_false, is_le, or_left}
use Rattle.lang_core.proofs.SubtagCaseLemmas.{alphanums-lower, lower_alphanums, lowered}
use Rattle.lang_core.proofs.KindLemmas.{run_of}
use Rattle.lang_core.proofs.PiecesLemmas.{pieces_no_hyphen, pieces_join}

-- ---- a kept test answers for the whole subtag

-- A subtag whose length is in bounds is a run of a kind just where all its bytes are of that kind.
pub run_when : (kind : ℕ → Bool) (low high : ℕ) (s view : List ℕ) (len b : Bool) → view ≡ s
    → len ≡ true → len ≡ (nat_le low (length s) && nat_le (length s) high) → b ≡ list_all kind view
    → b ≡ is_run kind low high s
unfolding is_run
run_when kind low high s view len b v is_len e k = rw (sym e ∙ is_len) (k ∙ ap (list_all kind) v)

-- A subtag whose length is out of bounds is no run.
pub run_unless : (kind : ℕ → Bool) (low high : ℕ) (s : List ℕ) (len : Bool) → len ≡ false
    → len ≡ (nat_le low (length s) && nat_le (length s) high) → false ≡ is_run kind low high s
unfolding is_run
run_unless kind low high s len is_len e = rw (sym e ∙ is_len) refl

-- A subtag of one to eight letters or digits is a run of them just where its length is in bounds.
pub run_alphanum : (low high : ℕ) (s view : List ℕ) (len : Bool) → view ≡ s
    → is_private_piece view ≡ true → len ≡ (nat_le low (length s) && nat_le (length s) high)
    → len ≡ is_run is_alphanum low high s
unfolding is_run is_private_piece
run_alphanum low high s view len v p e = go where
  all : list_all is_alphanum s ≡ true
  all = ap (list_all is_alphanum) (sym v) ∙ (run_of is_alphanum 1 8 view p).all

  go : len ≡ ((nat_le low (length s) && nat_le (length s) high) && list_all is_alphanum s)
  go = rw (all, and_true (nat_le low (length s) && nat_le (length s) high)) e

-- ---- reading

sized : (kind : ℕ → Bool) (s : List ℕ) → 0 < length s → length s ≤ 8 → list_all kind s ≡ true
    → is_run kind 1 8 s ≡ true
unfolding is_run
sized kind s some few all =
    both _ _ (both _ _ (is_le 1 (length s) (omega arith)) (is_le (length s) 8 few)) all

-- An empty text is no subtag.
pub too_short : (s : List ℕ) → length s ≡ 0 → is_private_piece (str_to_ascii_lowercase s) ≡ false
unfolding is_private_piece
too_short s n =
    is_false _
    (λ h. let r = run_of is_alphanum 1 8 (str_to_ascii_lowercase s) h in
    let size : length (str_to_ascii_lowercase s) ≡ length s = length-map s to_ascii_lowercase in
    let long = r.long in omega arith)

-- A text of more than eight bytes is no subtag.
pub too_long : (s : List ℕ) → 8 < length s → is_private_piece (str_to_ascii_lowercase s) ≡ false
unfolding is_private_piece
too_long s n =
    is_false _
    (λ h. let r = run_of is_alphanum 1 8 (str_to_ascii_lowercase s) h in
    let size : length (str_to_ascii_lowercase s) ≡ length s = length-map s to_ascii_lowercase in
    let short = r.short in omega arith)

-- A text with a byte that is neither a letter nor a digit is no subtag.
pub no_alphanum : (s : List ℕ) → list_all is_ascii_alphanumeric s ≡ false
    → is_private_piece (str_to_ascii_lowercase s) ≡ false
unfolding is_private_piece
no_alphanum s n =
    is_false _
    (λ h. let all = (run_of is_alphanum 1 8 (str_to_ascii_lowercase s) h).all in let same =
    alphanums-lower s in cc)

all_of : (kind : ℕ → Bool) (s : List ℕ) → ((b : ℕ) → kind b ≡ true → is_alphanum b ≡ true)
    → list_all kind s ≡ true → list_all is_alphanum s ≡ true
all_of kind [] some h = refl
all_of kind (b ∷ s) some h = let parts = each_true (kind b) (list_all kind s) h in
    both _ _ (some b parts.0) (all_of kind s some parts.1)

-- A text of one to eight letters or digits, in any case, is a subtag.
pub alphanums_read : (s : List ℕ) → 0 < length s → length s ≤ 8
    → list_all is_ascii_alphanumeric s ≡ true → is_private_piece (str_to_ascii_lowercase s) ≡ true
unfolding is_private_piece
alphanums_read s some few h =
    let size : length (str_to_ascii_lowercase s) ≡ length s = length-map s to_ascii_lowercase in
    sized is_alphanum (str_to_ascii_lowercase s) (omega arith) (omega arith)
    (sym (alphanums-lower s) ∙ h)

-- ---- a piece of a range

-- A text that is no subtag of a tag is none of a basic range either, at any place.
pub basic_none : (place : ℕ) (s : List ℕ) → is_private_piece s ≡ false → false ≡ basic_piece place s
unfolding is_private_piece
basic_none zero s h =
    sym (is_false (is_run is_letter 1 8 s)
    (λ e. let r = run_of is_letter 1 8 s e in let run : is_run is_alphanum 1 8 s ≡ true =
    sized is_alphanum s (let n = r.long in omega arith) r.short
    (all_of is_letter s (λ b x. or_left (is_letter b) (is_digit b) x) r.all) in cc))
basic_none (suc place) s h = sym h

hyphen_alphanum : (b : ℕ) → is_alphanum b ≡ true → b ≡ 45 → ⊥
hyphen_alphanum b h e = grind (arith, nat_tests)

no_hyphen : (s : List ℕ) → list_all is_alphanum s ≡ true → (k : ℕ) → k < length s
    → get_or s k 0 ≡ 45 → ⊥
no_hyphen [] h k n e = omega arith
no_hyphen (b ∷ s) h zero n e =
    hyphen_alphanum b (each_true (is_alphanum b) (list_all is_alphanum s) h).0 e
no_hyphen (b ∷ s) h (suc k) n e =
    no_hyphen s (each_true (is_alphanum b) (list_all is_alphanum s) h).1 k (omega arith) e

-- ---- subtags of a tag, which are in lower case

-- A subtag of a tag is its own text in lower case.
pub lower_piece : (s : List ℕ) → is_private_piece s ≡ true → str_to_ascii_lowercase s ≡ s
unfolding is_private_piece
lower_piece s h = lower_alphanums s (run_of is_alphanum 1 8 s h).all

-- Subtags of a tag are the same in lower case.
pub lowered_pieces : (list : List (List ℕ)) → AreAll is_private_piece list → lowered list ≡ list
lowered_pieces [] h = refl
lowered_pieces (s ∷ list) h =
    let parts = each_true (is_private_piece s) (list_all is_private_piece list) h in
    let first : str_to_ascii_lowercase s ≡ s = lower_piece s parts.0 in
    let rest : lowered list ≡ list = lowered_pieces list parts.1 in
    cc

-- A subtag of a tag has no hyphen, so it is its own only piece.
pub piece_whole : (s : List ℕ) → is_private_piece s ≡ true → pieces s ≡ s ∷ []
unfolding is_private_piece
piece_whole s h = pieces_no_hyphen s (no_hyphen s (run_of is_alphanum 1 8 s h).all)

-- The pieces of subtags that are joined are the subtags.
pub pieces_joined : (s : List ℕ) (list : List (List ℕ)) → AreAll is_private_piece (s ∷ list)
    → pieces (joined (s ∷ list)) ≡ s ∷ list
pieces_joined s [] h = piece_whole s (each_true (is_private_piece s) true h).0
pieces_joined s (t ∷ list) h =
    let parts = each_true (is_private_piece s) (list_all is_private_piece (t ∷ list)) h in
    pieces_join s (joined (t ∷ list))
    ∙ (ap (λ (x : List (List ℕ)). x ++ pieces (joined (t ∷ list))) (piece_whole s parts.0)
    ∙ ap (λ (x : List (List ℕ)). s ∷ x) (pieces_joined t list parts.1))
