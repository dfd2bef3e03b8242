-- Ids as they are written between quotes, and their order.
--
-- Two ids are compared by their written bytes, and no escape is resolved. As far as no backslash is
-- written a byte means itself, so the two texts are ordered as the ids are. At a backslash the
-- first character is cut off (`read_after`): the one byte that may come after it and mean itself is
-- compared as that byte, and any other escape makes the comparison give no answer. The rest is
-- induction over the characters.
use Rattle.std.proofs.Common.{◌≡◌, ◌≢◌, ◌∙◌, ◌++◌, ◌∷◌, [], ℕ, List, Bool, true, false, ◌||◌}
use Rattle.std.proofs.Common.{◌==◌, ◌⊎◌, inl, inr, refl, ap, cond, sym, subst, true≢false}
use Rattle.std.proofs.Common.{Option, Some, None, ◌<◌, arith, get_or, length, suc}
use Rattle.std.specs.Borrow.{Bor}
use Rattle.std.specs.Prelude.{MatchOption, nat_lt}
use Rattle.std.specs.List.{All}
use Rattle.std.proofs.lemmas.Bool.{eqb-false, eqb-true, ne_eqb}
use Rattle.std.proofs.lemmas.List.Elements.{All-head, All-tail}
use Rattle.memchr.specs.Find.{Nowhere, Passes, is_byte}
use Rattle.json.specs.Text.{short_escape}
use Rattle.cell_core.specs.Entry.{text_cmp}
use Rattle.lang_core.proofs.Basics.{each_true, one_true}
use Rattle.catalogue.proofs.Basics.{some_same}
use Rattle.std.specs.Cmp.{nat_cmp_total}
use Rattle.std.specs.Ordering.{nat_cmp, ordering_reverse, ordering_then}
use Rattle.std.specs.declared.cmp.Ordering.{Ordering}
use Rattle.std.specs.declared.cmp.Ordering.TheVariants.{Equal, Greater, Less}
use Rattle.text_docs.specs.inner.Row.{is_simple, is_simple_from}
use Rattle.text_docs.specs.RowStrings.{Character, IsCharacter, IsString, as_meant, as_written}
use Rattle.text_docs.proofs.ListLemmas.{head_or, tail_of}
use Rattle.text_docs.proofs.RowStringsLemmas.{unescaped_is}

-- what is written for a text that has some byte, without its first byte
abbrev pub IsRest : List ℕ → List ℕ → ℕ → Type 0
IsRest text rest first =
    (more : List ℕ) × (text ≡ first ∷ more) × IsString rest more × (is_simple rest ≡ true)

-- ---- the first character

-- it stands for itself, or it has a backslash and then a letter, of which those two mean themselves
data First (c : Character) (w : List ℕ) : Type 0 where
  plain : (b : ℕ) → (b == 92) ≡ false → c.0 ++ w ≡ b ∷ w → c.1 ≡ b ∷ [] → First c w
  escape : (x : ℕ) (more : List ℕ) → c.0 ++ w ≡ 92 ∷ x ∷ more
      → ((x == 34) || (x == 92) ≡ true → (more ≡ w) × (c.1 ≡ x ∷ [])) → First c w

means_itself : (x b : ℕ) → short_escape x ≡ Some b → (x == 34) || (x == 92) ≡ true → b ≡ x
unfolding short_escape
means_itself x b means special = by (one_true (x == 34) (x == 92) special)
  where
    by : ((x == 34) ≡ true) ⊎ ((x == 92) ≡ true) → b ≡ x
    by (inl quote) =
        let is = eqb-true x 34 quote in
        some_same b 34 (sym means ∙ ap short_escape is) ∙ sym is
    by (inr backslash) =
        let is = eqb-true x 92 backslash in
        some_same b 92 (sym means ∙ ap short_escape is) ∙ sym is

no_letter_u : (P : Type 0) → ((117 == 34) || (117 == 92)) ≡ true → P
no_letter_u P is = absurd (true≢false (sym is))

first_of : (c : Character) (w : List ℕ) → IsCharacter c → First c w
first_of c w (inl one) =
    plain one.byte (unescaped_is one.byte one.plain).1
    (ap (λ (x : Character). x.0 ++ w) one.is) (ap (λ (x : Character). x.1) one.is)
first_of c w (inr (inl one)) =
    escape one.letter w (ap (λ (x : Character). x.0 ++ w) one.is)
    (λ special. (
      refl,
      ap (λ (x : Character). x.1) one.is
          ∙ ap (λ b. b ∷ []) (means_itself one.letter one.byte one.means special),
    ))
first_of c w (inr (inr (inl one))) =
    let unit = one.written in
    escape 117 (unit.first ∷ unit.second ∷ unit.third ∷ unit.fourth ∷ w)
    (ap (λ (bs : List ℕ). bs ++ w) unit.is)
    (λ special. no_letter_u _ special)
first_of c w (inr (inr (inr one))) =
    let unit = one.first_is in
    escape 117 (unit.first ∷ unit.second ∷ unit.third ∷ unit.fourth ∷ (one.second ++ w))
    (ap (λ (bs : List ℕ). bs ++ w)
    (one.written ∙ ap (λ (bs : List ℕ). bs ++ one.second) unit.is))
    (λ special. no_letter_u _ special)

-- ---- one character less

simple_rest : (b : ℕ) (bs : List ℕ) → (b == 92) ≡ false → is_simple (b ∷ bs) ≡ true
    → is_simple bs ≡ true
simple_rest b bs other simple = sym (ap (λ t. is_simple_from t bs) other) ∙ simple

-- the first byte where no backslash is written
pub plain_front : (text rest : List ℕ) (first : ℕ) → IsString (first ∷ rest) text
    → is_simple (first ∷ rest) ≡ true → first ≢ 92 → IsRest text rest first
plain_front text rest first is simple never = by is.characters is.each is.written_is is.text_is
  where
    by : (cs : List Character) → All IsCharacter cs → first ∷ rest ≡ as_written cs
        → text ≡ as_meant cs → IsRest text rest first
    by [] each written means = cc
    by (c ∷ cs) each written means =
        elim (first_of c (as_written cs) (All-head IsCharacter c cs each)) [
          | plain b other front meant ↦
              let same : first ∷ rest ≡ b ∷ as_written cs = written ∙ front in
              let is_b : first ≡ b = ap (head_or 0) same in (
                as_meant cs,
                means ∙ ap (λ (bs : List ℕ). bs ++ as_meant cs) meant
                    ∙ ap (λ x. x ∷ as_meant cs) (sym is_b),
                record {
                  characters = cs;
                  each = All-tail IsCharacter c cs each;
                  written_is = ap tail_of same;
                  text_is = refl;
                },
                simple_rest first rest (ap (λ x. x == 92) is_b ∙ other) simple,
              )
          | escape x more front special ↦ absurd (never (ap (head_or 0) (written ∙ front)))
        ]

-- nothing is written for an empty text alone
pub nothing_written : (text : List ℕ) → IsString [] text → text ≡ []
nothing_written text is = by is.characters is.each is.written_is is.text_is
  where
    by : (cs : List Character) → All IsCharacter cs → [] ≡ as_written cs
        → text ≡ as_meant cs → text ≡ []
    by [] each written means = means
    by (c ∷ cs) each written means =
        elim (first_of c (as_written cs) (All-head IsCharacter c cs each)) [
          | plain b other front meant ↦ absurd (let none = written ∙ front in cc)
          | escape x more front special ↦ absurd (let none = written ∙ front in cc)
        ]

-- a backslash has some byte after it, which is the first of the text where it has no other escape
escaped_front : (text rest : List ℕ) → IsString (92 ∷ rest) text → is_simple (92 ∷ rest) ≡ true
    → (b : ℕ) × (left : List ℕ) × (rest ≡ b ∷ left) × IsRest text left b
escaped_front text rest is simple = by is.characters is.each is.written_is is.text_is
  where
    by : (cs : List Character) → All IsCharacter cs → 92 ∷ rest ≡ as_written cs
        → text ≡ as_meant cs
        → (b : ℕ) × (left : List ℕ) × (rest ≡ b ∷ left) × IsRest text left b
    by [] each written means = absurd (let none = written in cc)
    by (c ∷ cs) each written means =
        elim (first_of c (as_written cs) (All-head IsCharacter c cs each)) [
          | plain b other front meant ↦
              absurd (true≢false (ap (λ x. x == 92) (ap (head_or 0) (written ∙ front)) ∙ other))
          | escape x more front special ↦
              let rest_is : rest ≡ x ∷ more = ap tail_of (written ∙ front) in
              let both =
              each_true ((x == 34) || (x == 92)) (is_simple more)
              (sym (ap (is_simple_from true) rest_is) ∙ simple) in
              let it = special both.0 in (
                x,
                more,
                rest_is,
                (
                  as_meant cs,
                  means ∙ ap (λ (bs : List ℕ). bs ++ as_meant cs) it.1,
                  record {
                    characters = cs;
                    each = All-tail IsCharacter c cs each;
                    written_is = it.0;
                    text_is = refl;
                  },
                  both.1,
                ),
              )
        ]

-- what is read after a backslash is that byte, and what is written for the rest of the text
pub read_after : (text rest : List ℕ) (read : Option (ℕ × Bor (List ℕ))) → IsString (92 ∷ rest) text
    → is_simple (92 ∷ rest) ≡ true → MatchOption read (rest ≡ []) (λ r. rest ≡ r.0 ∷ r.1.now)
    → MatchOption read (text ≡ []) (λ r. IsRest text r.1.now r.0)
read_after text rest None is simple none =
    let front = escaped_front text rest is simple in
    absurd (let never = sym none ∙ front.2 in cc)
read_after text rest (Some r) is simple read =
    let front = escaped_front text rest is simple in
    let same : r.0 ∷ r.1.now ≡ front.0 ∷ front.1 = sym read ∙ front.2 in
    moved front.0 r.0 front.1 r.1.now (ap (head_or 0) (sym same)) (ap tail_of (sym same)) front.3
  where
    moved : (a b : ℕ) (xs ys : List ℕ) → a ≡ b → xs ≡ ys → IsRest text xs a → IsRest text ys b
    moved a b xs ys one other rest =
        subst (λ (n : ℕ). IsRest text ys n) one
        (subst (λ (bs : List ℕ). IsRest text bs a) other rest)

-- ---- without a backslash

-- none of these bytes is a backslash
abbrev HasNone : List ℕ → Type 0
HasNone bs = (k : ℕ) → k < length bs → (get_or bs k 0 == 92) ≡ true → ⊥

all_plain : (cs : List Character) → All IsCharacter cs → HasNone (as_written cs)
    → as_meant cs ≡ as_written cs
all_plain [] each none = refl
all_plain (c ∷ cs) each none =
    elim (first_of c (as_written cs) (All-head IsCharacter c cs each)) [
      | plain b other front meant ↦
          ap (λ (bs : List ℕ). bs ++ as_meant cs) meant
          ∙ ap (λ bs. b ∷ bs)
          (all_plain cs (All-tail IsCharacter c cs each)
          (λ k within found. none (suc k) (omega (arith, within, ap length front))
          (ap (λ (bs : List ℕ). get_or bs (suc k) 0 == 92) front ∙ found)))
          ∙ sym front
      | escape x more front special ↦
          absurd (none 0 (omega (arith, ap length front))
          (ap (λ (bs : List ℕ). get_or bs 0 0 == 92) front))
    ]

-- bytes in which there is no backslash mean themselves
pub plain_is : (text written : List ℕ) → IsString written text
    → Nowhere (Passes (is_byte 92) written) 0 (length written) → text ≡ written
plain_is text written is none =
    is.text_is
    ∙ all_plain is.characters is.each
    (subst HasNone is.written_is (λ k within found. none k (omega arith) within found))
    ∙ sym is.written_is

-- ---- the order of texts

-- texts of the same first byte are ordered as what comes after it
same_first : (b : ℕ) (xs ys : List ℕ) → text_cmp (b ∷ xs) (b ∷ ys) ≡ text_cmp xs ys
same_first b xs ys =
    ap (λ o. ordering_then o (text_cmp xs ys)) (own (nat_cmp b b) (nat_cmp_total.antisymm b b))
  where
    own : (o : Ordering) → o ≡ ordering_reverse o → o ≡ Equal
    own Less is = cc
    own Equal is = refl
    own Greater is = cc

-- one byte more of both is the same
pub one_byte_more : (text id right others more left : List ℕ) (byte other : ℕ)
    → text_cmp text id ≡ text_cmp more right → byte ≡ other → right ≡ other ∷ others
    → IsRest more left byte
    → (next : List ℕ) × IsString left next × (is_simple left ≡ true)
    × (text_cmp text id ≡ text_cmp next others)
one_byte_more text id right others more left byte other so_far same head rest = (
  rest.0,
  rest.2,
  rest.3,
  so_far ∙ ap (λ bs. text_cmp bs right) rest.1
      ∙ ap (λ bs. text_cmp (byte ∷ rest.0) bs) (head ∙ ap (λ b. b ∷ others) (sym same))
      ∙ same_first byte rest.0 others,
)

other_byte : (a b : ℕ) (o : Ordering) → a ≢ b → ordering_then (nat_cmp a b) o ≡ nat_cmp a b
other_byte a b o differ = by (nat_lt a b) (a == b) (ne_eqb a b differ)
  where
    by : (less same : Bool) → same ≡ false
        → ordering_then (cond less Less (cond same Equal Greater)) o
        ≡ cond less Less (cond same Equal Greater)
    by true same is = refl
    by false true is = absurd (true≢false is)
    by false false is = refl

-- texts of different first bytes are ordered as these
pub first_decides : (text id right others more left : List ℕ) (byte other : ℕ) (order : Ordering)
    → text_cmp text id ≡ text_cmp more right → IsRest more left byte → right ≡ other ∷ others
    → byte ≢ other → order ≡ nat_cmp byte other → order ≡ text_cmp text id
first_decides text id right others more left byte other order so_far (next, is, string, simple) head
    differ own =
    own
    ∙ sym (so_far ∙ ap (λ bs. text_cmp bs right) is ∙ ap (λ bs. text_cmp (byte ∷ next) bs) head
    ∙ other_byte byte other (text_cmp next others) differ)

-- a text that goes on is greater
pub goes_on : (text id right more left : List ℕ) (byte : ℕ) → text_cmp text id ≡ text_cmp more right
    → IsRest more left byte → right ≡ [] → Greater ≡ text_cmp text id
goes_on text id right more left byte so_far (next, is, string, simple) none =
    sym (so_far ∙ ap (λ bs. text_cmp bs right) is ∙ ap (λ bs. text_cmp (byte ∷ next) bs) none)

-- texts that both end are equal
pub both_end : (text id right more : List ℕ) → text_cmp text id ≡ text_cmp more right → more ≡ []
    → (length right == 0) ≡ true → Equal ≡ text_cmp text id
both_end text id [] more so_far none size = sym (so_far ∙ ap (λ bs. text_cmp bs []) none)
both_end text id (b ∷ right) more so_far none size =
    absurd (omega (arith, eqb-true (length (b ∷ right)) 0 size))

-- a text that ends first is less
pub one_ends : (text id right more : List ℕ) → text_cmp text id ≡ text_cmp more right → more ≡ []
    → (length right == 0) ≡ false → Less ≡ text_cmp text id
one_ends text id [] more so_far none size = absurd (eqb-false 0 0 size refl)
one_ends text id (b ∷ right) more so_far none size =
    sym (so_far ∙ ap (λ bs. text_cmp bs (b ∷ right)) none)
