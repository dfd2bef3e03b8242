-- Weights, read from left to right.
--
-- What follows a range is nothing, or a semicolon and "q=" with a qvalue (RFC 9110, section
-- 12.4.2), with blanks about the semicolon and at the end. Each step takes one of these from the
-- front and says that the rest has the same weight, or none. A qvalue ends at the first blank, and
-- after it there may be blanks alone. What follows a range has at most one weight, and 1000 if it
-- is blank.
use Rattle.std.proofs.Common.{ℕ, ◌≡◌, ◌≤◌, ◌<◌, ◌-◌, take, drop, ◌⊎◌, inl, inr, List, [], ◌∷◌, ◌++◌}
use Rattle.std.proofs.Common.{Bool, true, false, append-nil, refl, sym, ◌∙◌, ap, subst, arith}
use Rattle.std.proofs.Common.{length, append_assoc}
use Rattle.std.specs.Prelude.{Option, Some, None, slice_index}
use Rattle.std.proofs.lemmas.List.{take_all}
use Rattle.std.specs.List.{list_all}
use Rattle.std.proofs.lemmas.Bool.{and_from, and_parts, cases_Bool}
use Rattle.std.proofs.lemmas.Bool.Decides.{nat_tests}
use Rattle.lang_core.specs.Grammar.{is_digit}
use Rattle.list_core.proofs.Basics.{the_one}
use Rattle.list_core.proofs.WeightBlanksLemmas.{cut_only, cut_front, blanks_end}
use Rattle.list_core.specs.Field.{WeightGrammar}
use Rattle.list_core.specs.declared.scheme.Scheme.{Scheme}
use Rattle.list_core.specs.declared.scheme.Scheme.TheVariants.{Basic, Extended}
use Rattle.list_core.specs.Weight.{is_blank, AreBlanks, IsQvalue, is_zero_digit, HasWeight}
use Rattle.list_core.specs.Weight.{IsWeight}
use Rattle.list_core.specs.inner.Weight.{skip_blanks, is_plain, IsCut, IsLastQvalue}
use Rattle.list_core.specs.inner.Weight.{FollowsSemicolon, IsNamedQvalue, IsTail}
use Rattle.list_core.specs.Basics.{IsTheOne}

-- ---- blanks at the front

-- a text is blanks, and what is left without them
pub record IsTrimmed (text rest : List ℕ) : Type 0 where
  pub before : List ℕ
  pub whole : text ≡ before ++ rest
  pub before_ok : AreBlanks before

-- A text is the blanks at its front, and what is left where they are skipped.
pub trimmed : (text : List ℕ) → IsTrimmed text (skip_blanks text)
trimmed [] = record { before = []; whole = refl; before_ok = refl }
trimmed (b ∷ text) =
    let rest = trimmed text in
    elim (cases_Bool (is_blank b)) [
      | inl e ↦
          rw e (record {
            before = b ∷ rest.before;
            whole =
                ap (λ (x : List ℕ). b ∷ x) rest.whole;
            before_ok = and_from _ _ e rest.before_ok;
          })
      | inr e ↦ rw e (record { before = []; whole = refl; before_ok = refl })
    ]

-- Blanks before a text are skipped with those at its front.
pub skip_all : (before rest : List ℕ) → AreBlanks before
    → skip_blanks (before ++ rest) ≡ skip_blanks rest
skip_all [] rest h = refl
skip_all (b ∷ before) rest h = let parts = and_parts (is_blank b) (list_all is_blank before) h in
    rw parts.0 (skip_all before rest parts.1)

-- A text of blanks is empty where they are skipped.
pub skip_only : (text : List ℕ) → AreBlanks text → skip_blanks text ≡ []
skip_only [] h = refl
skip_only (b ∷ text) h = let parts = and_parts (is_blank b) (list_all is_blank text) h in
    rw parts.0 (skip_only text parts.1)

-- A text that begins with another byte than a blank stays as it is where blanks are skipped.
pub skip_none : (b : ℕ) (rest : List ℕ) → is_blank b ≡ false → skip_blanks (b ∷ rest) ≡ b ∷ rest
skip_none b rest e = rw e refl

-- ---- a qvalue before blanks

digit_plain : (b : ℕ) → is_digit b ≡ true → is_plain b ≡ true
digit_plain b h = grind (arith, nat_tests)

zero_plain : (b : ℕ) → is_zero_digit b ≡ true → is_plain b ≡ true
zero_plain b h = grind (arith, nat_tests)

all_plain : (kind : ℕ → Bool) (text : List ℕ) → ((b : ℕ) → kind b ≡ true → is_plain b ≡ true)
    → list_all kind text ≡ true → list_all is_plain text ≡ true
all_plain kind [] plain h = refl
all_plain kind (b ∷ text) plain h = let parts = and_parts (kind b) (list_all kind text) h in
    and_from _ _ (plain b parts.0) (all_plain kind text plain parts.1)

number_plain : (b k : ℕ) → b ≡ k → is_plain k ≡ true → is_plain b ≡ true
number_plain b k e h = subst (λ (x : ℕ). is_plain x ≡ true) (sym e) h

qvalue_plain : (text : List ℕ) (n : ℕ) → IsQvalue text n → list_all is_plain text ≡ true
qvalue_plain [] n q = absurd q
qvalue_plain (b ∷ []) n q =
    and_from (is_plain b) true
    (elim q [ inl z ↦ number_plain b 48 z.0 refl | inr o ↦ number_plain b 49 o.0 refl ]) refl
qvalue_plain (b ∷ point ∷ digits) n q =
    let dot : is_plain point ≡ true = number_plain point 46 q.0 refl in
    elim q.2 [
      | inl z ↦
          and_from (is_plain b) _ (number_plain b 48 z.0 refl)
          (and_from (is_plain point) _ dot (all_plain is_digit digits digit_plain z.1))
      | inr o ↦
          and_from (is_plain b) _ (number_plain b 49 o.0 refl)
          (and_from (is_plain point) _ dot (all_plain is_zero_digit digits zero_plain o.1))
    ]

-- the bytes up to a stop are the qvalue
cut_qvalue : (text token rest : List ℕ) (n : ℕ) → IsCut text token rest → IsLastQvalue text n
    → AreBlanks rest × IsQvalue token n
cut_qvalue text token rest n c l =
    let same =
    cut_only token rest l.qvalue l.after (sym c.whole ∙ l.whole) c.plain
    (qvalue_plain l.qvalue n l.qvalue_ok) c.ends (blanks_end l.after l.after_ok) in (
      subst AreBlanks (sym same.1) l.after_ok,
      subst (λ (q : List ℕ). IsQvalue q n) (sym same.0)
          l.qvalue_ok,
    )

-- Where nothing but blanks comes from the first stop on, the text has the weight of the qvalue
-- before it, or none.
pub last_of_qvalue : (text token rest : List ℕ) (r : Option ℕ) → IsCut text token rest
    → AreBlanks rest → IsTheOne r (IsQvalue token) → IsTheOne r (IsLastQvalue text)
last_of_qvalue text token rest r c blank h = the_one (IsQvalue token) (IsLastQvalue text)
    (λ n q.
    record { qvalue = token; after = rest; whole = c.whole; after_ok = blank; qvalue_ok = q })
    (λ n l. (cut_qvalue text token rest n c l).1)
    r h

-- Where more than blanks comes from the first stop on, the text is no qvalue followed by blanks.
pub not_last : (text token rest : List ℕ) → IsCut text token rest → list_all is_blank rest ≡ false
    → (n : ℕ) → ¬ IsLastQvalue text n
not_last text token rest c blank n l = let b = (cut_qvalue text token rest n c l).0 in cc

-- ---- after a semicolon

skip_letter : (letter : ℕ) (rest : List ℕ) → (letter ≡ 113) ⊎ (letter ≡ 81)
    → skip_blanks (letter ∷ rest) ≡ letter ∷ rest
skip_letter letter rest h =
    skip_none letter rest
    (elim h [ inl q ↦ grind (arith, nat_tests) | inr q ↦ grind (arith, nat_tests) ])

named_of : (text : List ℕ) (n : ℕ) → FollowsSemicolon text n → IsNamedQvalue (skip_blanks text) n
named_of text n f =
    let P : List ℕ → Type 0 = λ some. IsNamedQvalue some n in
    subst P
    (sym (ap skip_blanks f.whole
    ∙ (skip_all f.after (f.letter ∷ 61 ∷ f.qvalue) f.after_ok
    ∙ skip_letter f.letter (61 ∷ f.qvalue) f.letter_ok))) (f.letter_ok, refl, f.qvalue_ok)

of_named : (text rest : List ℕ) (n : ℕ) → IsTrimmed text rest → IsNamedQvalue rest n
    → FollowsSemicolon text n
of_named text [] n t h = absurd h
of_named text (letter ∷ []) n t h = absurd h
of_named text (letter ∷ sign ∷ qvalue) n t h = record {
  after = t.before;
  letter = letter;
  qvalue = qvalue;
  whole = t.whole ∙ ap (λ (s : ℕ). t.before ++ letter ∷ s ∷ qvalue) h.1;
  after_ok = t.before_ok;
  letter_ok = h.0;
  qvalue_ok = h.2;
}

-- What follows a semicolon has the weight, or none, that it has without the blanks at its front.
pub semicolon_of_named : (text : List ℕ) (r : Option ℕ)
    → IsTheOne r (IsNamedQvalue (skip_blanks text)) → IsTheOne r (FollowsSemicolon text)
semicolon_of_named text r h =
    the_one (IsNamedQvalue (skip_blanks text)) (FollowsSemicolon text)
    (λ n. of_named text (skip_blanks text) n (trimmed text)) (named_of text) r h

-- ---- after a range

-- what is left of a tail without the blanks before it
abbrev pub IsBareTail : List ℕ → ℕ → Type 0
IsBareTail [] n = n ≡ 1000
IsBareTail (b ∷ rest) n = (b ≡ 59) × FollowsSemicolon rest n

-- the parts of a weight with the blanks after it
tail_parts : (before after qvalue end : List ℕ) (letter : ℕ)
    → (before ++ 59 ∷ (after ++ letter ∷ 61 ∷ qvalue)) ++ end
    ≡ before ++ 59 ∷ (after ++ letter ∷ 61 ∷ (qvalue ++ end))
tail_parts before after qvalue end letter =
    append_assoc before (59 ∷ (after ++ letter ∷ 61 ∷ qvalue)) end
    ∙ ap (λ (x : List ℕ). before ++ 59 ∷ x) (append_assoc after (letter ∷ 61 ∷ qvalue) end)

bare_weight : (text weight after : List ℕ) (n : ℕ) → text ≡ weight ++ after → AreBlanks after
    → HasWeight weight n → IsBareTail (skip_blanks text) n
bare_weight text weight after n e blank w =
    let P : List ℕ → Type 0 = λ some. IsBareTail some n in
    let rest : List ℕ = w.after ++ w.letter ∷ 61 ∷ (w.qvalue ++ after) in
    let whole : text ≡ w.before ++ 59 ∷ rest =
    e ∙ (ap (λ (x : List ℕ). x ++ after) w.whole
    ∙ tail_parts w.before w.after w.qvalue after w.letter) in
    let follows : FollowsSemicolon rest n = record {
      after = w.after;
      letter = w.letter;
      qvalue = w.qvalue ++ after;
      whole = refl;
      after_ok = w.after_ok;
      letter_ok = w.letter_ok;
      qvalue_ok =
          record {
            qvalue = w.qvalue;
            after = after;
            whole = refl;
            after_ok = blank;
            qvalue_ok =
                w.qvalue_ok;
          };
    } in
    subst P (sym (ap skip_blanks whole ∙ skip_all w.before (59 ∷ rest) w.before_ok)) (refl, follows)

bare_of : (text : List ℕ) (n : ℕ) → IsTail IsWeight text n → IsBareTail (skip_blanks text) n
bare_of text n t =
    let P : List ℕ → Type 0 = λ some. IsBareTail some n in
    elim t.weight_ok [
      | inl none ↦
          subst P
          (sym (ap skip_blanks (t.whole ∙ ap (λ (x : List ℕ). x ++ t.after) none.0)
          ∙ skip_only t.after t.after_ok)) none.1
      | inr w ↦ bare_weight text t.weight t.after n t.whole t.after_ok w
    ]

-- What follows a range, with blanks at its front, has the weight that it has without them.
pub tail_from : (text rest : List ℕ) (n : ℕ) → IsTrimmed text rest → IsBareTail rest n
    → IsTail IsWeight text n
tail_from text [] n t h =
    record {
      weight = [];
      after = text;
      whole = refl;
      after_ok =
          subst AreBlanks (sym (t.whole ∙ append-nil t.before)) t.before_ok;
      weight_ok = inl (refl, h);
    }
tail_from text (b ∷ rest) n t h =
    let f = h.1 in
    let q = f.qvalue_ok in
    let weight : List ℕ = t.before ++ 59 ∷ (f.after ++ f.letter ∷ 61 ∷ q.qvalue) in
    let has : HasWeight weight n =
    record {
      before = t.before;
      after = f.after;
      letter = f.letter;
      qvalue = q.qvalue;
      whole =
          refl;
      before_ok = t.before_ok;
      after_ok = f.after_ok;
      letter_ok = f.letter_ok;
      qvalue_ok =
          q.qvalue_ok;
    } in
    let e : rest ≡ f.after ++ f.letter ∷ 61 ∷ (q.qvalue ++ q.after) =
    f.whole ∙ ap (λ (x : List ℕ). f.after ++ f.letter ∷ 61 ∷ x) q.whole in
    record {
      weight = weight;
      after = q.after;
      whole =
          t.whole
          ∙ (ap (λ (x : ℕ). t.before ++ x ∷ rest) h.0
          ∙ (ap (λ (x : List ℕ). t.before ++ 59 ∷ x) e
          ∙ sym (tail_parts t.before f.after q.qvalue q.after f.letter)));
      after_ok = q.after_ok;
      weight_ok = inr has;
    }

-- What follows a range has the weight, or none, that it has without the blanks at its front.
pub tail_of_bare : (text : List ℕ) (r : Option ℕ) → IsTheOne r (IsBareTail (skip_blanks text))
    → IsTheOne r (IsTail IsWeight text)
tail_of_bare text r h =
    the_one (IsBareTail (skip_blanks text)) (IsTail IsWeight text)
    (λ n. tail_from text (skip_blanks text) n (trimmed text)) (bare_of text) r h

-- ---- the first bytes

named_same : (letter : ℕ) (qvalue : List ℕ) (r : Option ℕ) → (letter ≡ 113) ⊎ (letter ≡ 81)
    → IsTheOne r (IsLastQvalue qvalue) → IsTheOne r (IsNamedQvalue (letter ∷ 61 ∷ qvalue))
named_same letter qvalue r e h =
    the_one (IsLastQvalue qvalue) (IsNamedQvalue (letter ∷ 61 ∷ qvalue)) (λ n q. (e, refl, q))
    (λ n q. q.2) r h

-- A text that begins with "q=", in either case, has the weight of the qvalue after it, or none.
pub named_from : (text : List ℕ) (r : Option ℕ) → 2 ≤ length text
    → (slice_index text 0 ≡ 113) ⊎ (slice_index text 0 ≡ 81) → slice_index text 1 ≡ 61
    → IsTheOne r (IsLastQvalue (take (length text - 2) (drop 2 text)))
    → IsTheOne r (IsNamedQvalue text)
named_from [] r n e s h = absurd (omega arith)
named_from (a ∷ []) r n e s h = absurd (omega arith)
named_from (a ∷ b ∷ rest) r n e s h =
    let all : take (length (a ∷ b ∷ rest) - 2) rest ≡ rest = take_all _ _ (omega arith) in
    let P : ℕ → Type 0 = λ sign. IsTheOne r (IsNamedQvalue (a ∷ sign ∷ rest)) in
    subst P (sym s)
    (named_same a rest r e (subst (λ (q : List ℕ). IsTheOne r (IsLastQvalue q)) all h))

none_bare : (text bare : List ℕ) → bare ≡ skip_blanks text → length bare < 1
    → IsTheOne (Some 1000) (IsBareTail (skip_blanks text))
none_bare text [] e n = let P : List ℕ → Type 0 = λ some. IsTheOne (Some 1000) (IsBareTail some) in
    subst P e (refl, λ m h. h)
none_bare text (b ∷ rest) e n = absurd (omega arith)

-- Where nothing but blanks follows a range, its weight is 1000.
pub no_weight : (text bare : List ℕ) → bare ≡ skip_blanks text → length bare < 1
    → IsTheOne (Some 1000) (IsTail IsWeight text)
no_weight text bare e n = tail_of_bare text (Some 1000) (none_bare text bare e n)

other_bare : (text bare : List ℕ) → bare ≡ skip_blanks text → 1 ≤ length bare
    → (slice_index bare 0 ≡ 59 → ⊥) → IsTheOne None (IsBareTail (skip_blanks text))
other_bare text [] e n d = absurd (omega arith)
other_bare text (b ∷ rest) e n d = let P : List ℕ → Type 0 =
    λ some. IsTheOne None (IsBareTail some) in subst P e (λ m h. d h.0)

-- What follows a range gives no weight where its first byte after the blanks is no semicolon.
pub other_byte : (text bare : List ℕ) → bare ≡ skip_blanks text → 1 ≤ length bare
    → (slice_index bare 0 ≡ 59 → ⊥) → IsTheOne None (IsTail IsWeight text)
other_byte text bare e n d = tail_of_bare text None (other_bare text bare e n d)

semicolon_bare : (rest : List ℕ) (r : Option ℕ) → IsTheOne r (FollowsSemicolon rest)
    → IsTheOne r (IsBareTail (59 ∷ rest))
semicolon_bare rest r h =
    the_one (FollowsSemicolon rest) (IsBareTail (59 ∷ rest)) (λ n f. (refl, f)) (λ n f. f.1) r h

weight_bare : (text bare : List ℕ) (r : Option ℕ) → bare ≡ skip_blanks text → 1 ≤ length bare
    → slice_index bare 0 ≡ 59 → IsTheOne r (FollowsSemicolon (take (length bare - 1) (drop 1 bare)))
    → IsTheOne r (IsBareTail (skip_blanks text))
weight_bare text [] r e n s h = absurd (omega arith)
weight_bare text (b ∷ rest) r e n s h =
    let all : take (length (b ∷ rest) - 1) rest ≡ rest = take_all _ _ (omega arith) in
    let P : List ℕ → Type 0 = λ some. IsTheOne r (IsBareTail some) in
    subst P (ap (λ (x : ℕ). x ∷ rest) (sym s) ∙ e)
    (semicolon_bare rest r (subst (λ (q : List ℕ). IsTheOne r (FollowsSemicolon q)) all h))

-- What follows a range and begins, after blanks, with a semicolon has the weight of what follows
-- that, or none.
pub semicolon : (text bare : List ℕ) (r : Option ℕ) → bare ≡ skip_blanks text → 1 ≤ length bare
    → slice_index bare 0 ≡ 59 → IsTheOne r (FollowsSemicolon (take (length bare - 1) (drop 1 bare)))
    → IsTheOne r (IsTail IsWeight text)
semicolon text bare r e n s h = tail_of_bare text r (weight_bare text bare r e n s h)

-- ---- a text has one weight

two_digits : (b : ℕ) → b ≡ 48 → b ≡ 49 → ⊥
two_digits b e f = omega arith

one_qvalue : (text : List ℕ) (m n : ℕ) → IsQvalue text m → IsQvalue text n → m ≡ n
one_qvalue [] m n p q = absurd p
one_qvalue (b ∷ []) m n p q = elim p [
  | inl x ↦ elim q [
    | inl y ↦ x.1 ∙ sym y.1
    | inr y ↦ absurd (two_digits b x.0 y.0)
  ]
  | inr x ↦ elim q [
    | inl y ↦ absurd (two_digits b y.0 x.0)
    | inr y ↦ x.1 ∙ sym y.1
  ]
]
one_qvalue (b ∷ point ∷ digits) m n p q = elim p.2 [
  | inl x ↦ elim q.2 [
    | inl y ↦ x.2 ∙ sym y.2
    | inr y ↦ absurd (two_digits b x.0 y.0)
  ]
  | inr x ↦ elim q.2 [
    | inl y ↦ absurd (two_digits b y.0 x.0)
    | inr y ↦ x.2 ∙ sym y.2
  ]
]

one_last : (text : List ℕ) (m n : ℕ) → IsLastQvalue text m → IsLastQvalue text n → m ≡ n
one_last text m n p q =
    let cut = cut_front text in
    let a = cut_qvalue text _ _ m cut p in
    let b = cut_qvalue text _ _ n cut q in
    one_qvalue _ m n a.1 b.1

one_named : (text : List ℕ) (m n : ℕ) → IsNamedQvalue text m → IsNamedQvalue text n → m ≡ n
one_named [] m n p q = absurd p
one_named (letter ∷ []) m n p q = absurd p
one_named (letter ∷ sign ∷ qvalue) m n p q = one_last qvalue m n p.2 q.2

one_bare : (text : List ℕ) (m n : ℕ) → IsBareTail text m → IsBareTail text n → m ≡ n
one_bare [] m n p q = p ∙ sym q
one_bare (b ∷ rest) m n p q =
    one_named (skip_blanks rest) m n (named_of rest m p.1) (named_of rest n q.1)

-- What follows a range has at most one weight.
pub one_tail : (scheme : Scheme) (text : List ℕ) (m n : ℕ) → IsTail (WeightGrammar scheme) text m
    → IsTail (WeightGrammar scheme) text n → m ≡ n
one_tail Basic text m n p q = one_bare (skip_blanks text) m n (bare_of text m p) (bare_of text n q)
one_tail Extended text m n p q = p.weight_ok.1 ∙ sym q.weight_ok.1
