-- What a table says, for who reads it.
use Rattle.std.proofs.Common.{ℕ, ◌≡◌, ◌+◌, List, [], ◌∷◌, ◌++◌, inl, inr, refl, sym, ◌∙◌, ap, subst}
use Rattle.std.proofs.Common.{◌≢◌, ◌<◌, ◌≤◌, ◌-◌, ◌⊎◌, Bool, arith, false, get_or, length, sum_by}
use Rattle.std.proofs.Common.{true}
use Rattle.std.specs.Prelude.{◌==◌, zero, suc, All, Option, Some, None, drop, map, position}
use Rattle.std.specs.Prelude.{reverse, take}
use Rattle.std.specs.List.{list_any}
use Rattle.std.specs.Str.{bytes_eq, str_to_ascii_lowercase}
use Rattle.std.proofs.lemmas.Bool.{cases_Bool}
use Rattle.std.proofs.lemmas.List.Elements.{All-head, All-tail}
use Rattle.std.proofs.lemmas.Slice.Eq.{bytes_eq-Decides}
use Rattle.lang_core.specs.Text.{joined, pieces, pieces_by}
use Rattle.lang_core.specs.TruncationsCandidates.{candidates, truncated}
use Rattle.lang_core.proofs.PiecesLemmas.{joined-pieces}
use Rattle.list_core.specs.Fallbacks.{AreDistinct, AreFallbacks, IsFallback, IsFieldBy, IsFirstBad}
use Rattle.list_core.specs.Fallbacks.{IsTable, RefusesTable, chain_of}
use Rattle.list_core.specs.Fallbacks.{element_text, fresh, skip_gaps, trim_end, walk}
use Rattle.list_core.specs.Field.{IsField, IsPadded}
use Rattle.list_core.specs.Item.{Item}
use Rattle.list_core.specs.declared.fallbacks.Fallback.{Fallback}
use Rattle.list_core.specs.declared.fault.NegoFault.{NegoFault}
use Rattle.list_core.specs.declared.fault.NegoFault.TheVariants.{FallbackMalformed, FieldMalformed}
use Rattle.list_core.specs.declared.fault.NegoFault.TheVariants.{FieldTooLong, NoMemory}
use Rattle.list_core.specs.declared.field.Malformed.{Malformed}
use Rattle.list_core.specs.declared.scheme.Scheme.{Scheme}
use Rattle.list_core.proofs.FallbacksItemsLemmas.{no_table}
use Rattle.list_core.proofs.FieldLemmas.{all_items}

-- A field lists no texts for lookup.
pub unlisted : (scheme : Scheme) (malformed : Malformed) (bytes : List ℕ) (items : List Item)
    → IsField scheme malformed bytes items → All (λ i. i.listed ≡ None) items
unlisted scheme malformed bytes items f =
    all_items (λ i. i.listed ≡ None) scheme malformed (λ piece i p. p.element_ok.unlisted)
    (pieces_by 44 bytes) items f

-- A table without elements changes nothing.
pub changes_nothing : (scheme : Scheme) (malformed : Malformed) (bytes : List ℕ) (items : List Item)
    → IsFieldBy [] scheme malformed bytes items → IsField scheme malformed bytes items
changes_nothing scheme malformed bytes items f =
    subst (IsField scheme malformed bytes) (no_table [] f.0 refl ∙ sym f.2) f.1

-- What was read without a table is what is read by one without elements.
pub nothing_changes : (scheme : Scheme) (malformed : Malformed) (bytes : List ℕ) (items : List Item)
    → IsField scheme malformed bytes items → IsFieldBy [] scheme malformed bytes items
nothing_changes scheme malformed bytes items f = (items, f, no_table [] items refl)

walk_begins : (n : ℕ) (table : List Fallback) (c : List (List ℕ)) (cs : List (List (List ℕ)))
    → (rest : List (List (List ℕ))) × (walk n table (c ∷ cs) ≡ c ∷ rest)
walk_begins zero table c cs = (cs, refl)
walk_begins (suc n) table c cs = (_, refl)

-- What is tried begins with the text itself.
pub begins : (table : List Fallback) (text : List ℕ)
    → (rest : List (List ℕ)) × (chain_of table text ≡ text ∷ rest)
begins table text =
    let first = walk_begins (length table) table (pieces text) (truncated (pieces text)) in (
      fresh (text ∷ []) (map joined first.0),
      ap (λ (x : List (List (List ℕ))). fresh [] (map joined x)) first.1
          ∙ ap (λ (t : List ℕ). t ∷ fresh (t ∷ []) (map joined first.0)) (joined-pieces text),
    )

gap_first : (p : List ℕ) (pieces : List (List ℕ)) (elements : List Fallback) → skip_gaps p ≡ []
    → AreFallbacks pieces elements → AreFallbacks (p ∷ pieces) elements
gap_first p pieces [] e a = (e, a)
gap_first p pieces (f ∷ elements) e a = inl (e, a)

-- ---- one table

one_fallback : (text : List ℕ) (f g : Fallback) → IsFallback text f → IsFallback text g → f ≡ g
one_fallback text f g a b =
    let at : a.0 ≡ b.0 = let same : Some a.0 ≡ Some b.0 = sym a.1 ∙ b.1 in cc in
    let left : f.left ≡ g.left =
    a.2.1 ∙ (ap (λ (n : ℕ). str_to_ascii_lowercase (take n text)) at ∙ sym b.2.1) in
    let right : f.right ≡ g.right =
    a.3.1 ∙ (ap (λ (n : ℕ). str_to_ascii_lowercase (drop (n + 1) text)) at ∙ sym b.3.1) in
    ap (λ (x : List ℕ). record { left = x; right = f.right }) left
    ∙ ap (λ (x : List ℕ). record { left = g.left; right = x }) right

empty_is_none : (p : List ℕ) (f : Fallback) → skip_gaps p ≡ [] → IsFallback (element_text p) f → ⊥
empty_is_none p f e is =
    let nothing : element_text p ≡ [] = ap trim_end e in
    let at : position (λ b. b == 61) (element_text p) ≡ Some is.0 = is.1 in
    let none : position (λ b. b == 61) [] ≡ Some is.0 =
    subst (λ (x : List ℕ). position (λ b. b == 61) x ≡ Some is.0) nothing at in
    cc

one_list : (pieces : List (List ℕ)) (a b : List Fallback) → AreFallbacks pieces a
    → AreFallbacks pieces b → a ≡ b
one_list [] [] [] x y = refl
one_list [] (f ∷ a) b x y = absurd x
one_list [] [] (g ∷ b) x y = absurd y
one_list (p ∷ pieces) [] [] x y = refl
one_list (p ∷ pieces) [] (g ∷ b) x y = elim y [
  | inl z ↦ one_list pieces [] (g ∷ b) x.1 z.1
  | inr z ↦ absurd (empty_is_none p g x.0 z.0)
]
one_list (p ∷ pieces) (f ∷ a) [] x y = elim x [
  | inl z ↦ one_list pieces (f ∷ a) [] z.1 y.1
  | inr z ↦ absurd (empty_is_none p f y.0 z.0)
]
one_list (p ∷ pieces) (f ∷ a) (g ∷ b) x y = elim x [
  | inl z ↦ elim y [
    | inl w ↦ one_list pieces (f ∷ a) (g ∷ b) z.1 w.1
    | inr w ↦ absurd (empty_is_none p g z.0 w.0)
  ]
  | inr z ↦ elim y [
    | inl w ↦ absurd (empty_is_none p f w.0 z.0)
    | inr w ↦
        ap (λ (h : Fallback). h ∷ a) (one_fallback (element_text p) f g z.0 w.0)
        ∙ ap (λ (t : List Fallback). g ∷ t) (one_list pieces a b z.1 w.1)
  ]
]

-- A text has one table.
pub one_table : (bytes : List ℕ) (a b : List Fallback) → IsTable bytes a → IsTable bytes b → a ≡ b
one_table bytes a b x y = one_list (pieces_by 44 bytes) a b x.0 y.0

-- ---- a text that is refused

-- where a piece that is not empty is, its element is
record HasElementAt (before : List (List ℕ)) (piece : List ℕ) (table : List Fallback) : Type 0 where
  front : List Fallback
  element : Fallback
  rest : List Fallback
  whole : table ≡ front ++ element ∷ rest
  before_ok : AreFallbacks before front
  element_ok : IsFallback (element_text piece) element

element_at : (before after : List (List ℕ)) (piece : List ℕ) (table : List Fallback)
    → 0 < length (skip_gaps piece) → AreFallbacks (before ++ piece ∷ after) table
    → HasElementAt before piece table
element_at [] after piece [] some a =
    absurd (let none : length (skip_gaps piece) ≡ 0 = ap length a.0 in omega (arith, none, some))
element_at [] after piece (f ∷ table) some a = elim a [
  | inl x ↦
      absurd (let none : length (skip_gaps piece) ≡ 0 = ap length x.0 in omega (arith, none, some))
  | inr x ↦ record {
    front = [];
    element = f;
    rest = table;
    whole = refl;
    before_ok = tt;
    element_ok = x.0;
  }
]
element_at (p ∷ before) after piece [] some a =
    let later = element_at before after piece [] some a.1 in
    record {
      front = later.front;
      element = later.element;
      rest = later.rest;
      whole = later.whole;
      before_ok = gap_first p before later.front a.0 later.before_ok;
      element_ok = later.element_ok;
    }
element_at (p ∷ before) after piece (f ∷ table) some a = elim a [
  | inl x ↦
      let later = element_at before after piece (f ∷ table) some x.1 in
      record {
        front = later.front;
        element = later.element;
        rest = later.rest;
        whole = later.whole;
        before_ok = gap_first p before later.front x.0 later.before_ok;
        element_ok = later.element_ok;
      }
  | inr x ↦
      let later = element_at before after piece table some x.1 in
      record {
        front = f ∷ later.front;
        element = later.element;
        rest = later.rest;
        whole = ap (λ (t : List Fallback). f ∷ t) later.whole;
        before_ok = inr (x.0, later.before_ok);
        element_ok = later.element_ok;
      }
]

of_rest : (P : Fallback → Type 0) (xs : List Fallback) (y : Fallback) (ys : List Fallback)
    → All P (xs ++ y ∷ ys) → P y
of_rest P [] y ys all = All-head P y ys all
of_rest P (x ∷ xs) y ys all = of_rest P xs y ys (All-tail P x (xs ++ y ∷ ys) all)

none_before : (front rest : List Fallback) (f : Fallback) → AreDistinct (front ++ f ∷ rest)
    → list_any (λ e. bytes_eq e.left f.left) front ≡ false
none_before [] rest f all = refl
none_before (e ∷ front) rest f all =
    let others : All (λ g. e.left ≢ g.left) (front ++ f ∷ rest) =
    λ k d low. all 0 (suc k) d (omega arith) (omega (arith, low)) in
    let differs = of_rest (λ g. e.left ≢ g.left) front f rest others in
    let later =
    none_before front rest f
    (λ i j d h low. all (suc i) (suc j) d (omega (arith, h)) (omega (arith, low))) in
    elim (cases_Bool (bytes_eq e.left f.left)) [
      | inl same ↦ absurd (differs ((bytes_eq-Decides e.left f.left).0 same))
      | inr other ↦ rw other later
    ]

-- What reads on over the first bad element does not read all of it as one table.
not_read : (bytes : List ℕ) (offset : ℕ) (b : IsFirstBad bytes offset) (after : List (List ℕ))
    (table : List Fallback) → AreFallbacks (b.before ++ b.piece ∷ after) table
    → ¬ AreDistinct table
not_read bytes offset b after table read distinct =
    let at = element_at b.before after b.piece table b.some read in
    let same : at.front ≡ b.elements = one_list b.before at.front b.elements at.before_ok b.read in
    let none : list_any (λ e. bytes_eq e.left at.element.left) at.front ≡ false =
    none_before at.front at.rest at.element (subst AreDistinct at.whole distinct) in
    let some : list_any (λ e. bytes_eq e.left at.element.left) at.front ≡ true =
    ap (list_any (λ e. bytes_eq e.left at.element.left)) same
    ∙ b.bad at.element at.element_ok in
    cc

-- A text with a bad element is no table.
pub bad_is_no_table : (bytes : List ℕ) (offset : ℕ) (table : List Fallback)
    → IsFirstBad bytes offset
    → ¬ IsTable bytes table
bad_is_no_table bytes offset table b t =
    not_read bytes offset b b.after table
    (subst (λ (x : List (List ℕ)). AreFallbacks x table) b.whole t.0) t.1

-- of two places in one list either is the other or comes before it
places : (c d : List (List ℕ)) (w v : List ℕ) (after later : List (List ℕ))
    → c ++ w ∷ after ≡ d ++ v ∷ later
    → ((c ≡ d) × (w ≡ v))
    ⊎ (((k : List (List ℕ)) × (d ≡ c ++ w ∷ k)) ⊎ ((k : List (List ℕ)) × (c ≡ d ++ v ∷ k)))
places [] [] w v after later e = inl (refl, ap (λ (l : List (List ℕ)). get_or l 0 w) e)
places [] (x ∷ d) w v after later e =
    let same : w ≡ x = ap (λ (l : List (List ℕ)). get_or l 0 w) e in
    inr (inl (d, ap (λ (t : List ℕ). t ∷ d) (sym same)))
places (x ∷ c) [] w v after later e =
    let same : x ≡ v = ap (λ (l : List (List ℕ)). get_or l 0 x) e in
    inr (inr (c, ap (λ (t : List ℕ). t ∷ c) same))
places (x ∷ c) (y ∷ d) w v after later e =
    let same : x ≡ y = ap (λ (l : List (List ℕ)). get_or l 0 x) e in
    elim (places c d w v after later (ap (λ (l : List (List ℕ)). drop 1 l) e)) [
      | inl p ↦
          inl (
            ap (λ (t : List ℕ). t ∷ c) same ∙ ap (λ (l : List (List ℕ)). y ∷ l) p.0,
            p.1,
          )
      | inr p ↦ elim p [
        | inl k ↦
            inr
            (inl (
              k.0,
              ap (λ (t : List ℕ). t ∷ d) (sym same) ∙ ap (λ (l : List (List ℕ)). x ∷ l) k.1,
            ))
        | inr k ↦
            inr
            (inr (
              k.0,
              ap (λ (t : List ℕ). t ∷ c) same ∙ ap (λ (l : List (List ℕ)). y ∷ l) k.1,
            ))
      ]
    ]

abbrev begin_at : List (List ℕ) → List ℕ → ℕ
begin_at before piece =
    sum_by (λ p. length p + 1) before + (length piece - length (skip_gaps piece))

-- The first bad element of a text begins at one offset.
pub one_bad_offset : (bytes : List ℕ) (a b : ℕ) → IsFirstBad bytes a → IsFirstBad bytes b → a ≡ b
one_bad_offset bytes a b x y =
    elim (places x.before y.before x.piece y.piece x.after y.after (sym x.whole ∙ y.whole))
    as (λ _. a ≡ b) [
      | inl same ↦
          x.begins
          ∙ (ap (λ (c : List (List ℕ)). begin_at c x.piece) same.0
          ∙ (ap (begin_at y.before) same.1 ∙ sym y.begins))
      | inr other ↦ elim other as (λ _. a ≡ b) [
        | inl k ↦
            absurd
            (not_read bytes a x k.0 y.elements
            (subst (λ (l : List (List ℕ)). AreFallbacks l y.elements) k.1 y.read) y.distinct)
        | inr k ↦
            absurd
            (not_read bytes b y k.0 x.elements
            (subst (λ (l : List (List ℕ)). AreFallbacks l x.elements) k.1 x.read) x.distinct)
      ]
    ]

-- A table is refused by one fault, memory apart.
pub one_table_fault : (bytes : List ℕ) (a b : NegoFault) → a ≢ NoMemory → b ≢ NoMemory
    → RefusesTable bytes a → RefusesTable bytes b → a ≡ b
one_table_fault bytes FieldTooLong FieldTooLong m n p q = refl
one_table_fault bytes FieldTooLong (FallbackMalformed b) m n p q =
    let short = q.0 in absurd (omega (arith, p, short))
one_table_fault bytes FieldTooLong (FieldMalformed b) m n p q = absurd q
one_table_fault bytes FieldTooLong NoMemory m n p q = absurd (n refl)
one_table_fault bytes (FallbackMalformed a) FieldTooLong m n p q =
    let short = p.0 in absurd (omega (arith, q, short))
one_table_fault bytes (FallbackMalformed a) (FallbackMalformed b) m n p q =
    ap FallbackMalformed (one_bad_offset bytes a b p.1 q.1)
one_table_fault bytes (FallbackMalformed a) (FieldMalformed b) m n p q = absurd q
one_table_fault bytes (FallbackMalformed a) NoMemory m n p q = absurd (n refl)
one_table_fault bytes (FieldMalformed a) b m n p q = absurd p
one_table_fault bytes NoMemory b m n p q = absurd (m refl)

-- A text that is a table is refused for lack of memory alone.
pub table_memory : (bytes : List ℕ) (table : List Fallback) (fault : NegoFault)
    → RefusesTable bytes fault → length bytes ≤ 65535 → IsTable bytes table → fault ≡ NoMemory
table_memory bytes table FieldTooLong h short t = absurd (omega (arith, h, short))
table_memory bytes table (FallbackMalformed offset) h short t =
    absurd (bad_is_no_table bytes offset table h.1 t)
table_memory bytes table (FieldMalformed offset) h short t = absurd h
table_memory bytes table NoMemory h short t = refl
