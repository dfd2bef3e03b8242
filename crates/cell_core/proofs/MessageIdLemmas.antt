-- Message ids, and how they are stored.
use Rattle.std.proofs.Common.{◌≡◌, ℕ, suc, zero, ◌<◌, ◌≤◌, List, length, All, IsTrue}
use Rattle.std.proofs.Common.{sym, ap, ◌∙◌, subst, arith, true≢false}
use Rattle.std.proofs.lemmas.List.Elements.{All-weaker}
use Rattle.std.specs.Str.{IsUtf8}
use Rattle.std.specs.Cmp.Lexicographic.{slice_cmp}
use Rattle.std.specs.Ordering.{nat_cmp}
use Rattle.cell_core.specs.MessageId.{is_id_byte, IsMessageId, KeepsShortId}
use Rattle.cell_core.specs.ZeroPadded.{zero_padded, before_zeros}
use Rattle.cell_core.proofs.ZeroPaddedLemmas.{cmp-zero_padded, before_zeros-zero_padded}

id_byte_above_zero : (b : ℕ) → IsTrue (is_id_byte b) → 0 < b
unfolding is_id_byte
id_byte_above_zero zero h = absurd (true≢false (sym h))
id_byte_above_zero (suc b) h = omega arith

id_above_zero : (text : List ℕ) → IsMessageId text → All (λ b. 0 < b) text
id_above_zero text id =
    let IsAllowed = λ (b : ℕ). IsTrue (is_id_byte b) in
    All-weaker IsAllowed (λ b. 0 < b) id_byte_above_zero text id.bytes

-- a padded id is that id
pub before_zeros-id : (text : List ℕ) → IsMessageId text
    → before_zeros (zero_padded 32 text) ≡ text
before_zeros-id text id = before_zeros-zero_padded 32 text (id_above_zero text id)

-- a padded id is stored as it should be
pub KeepsShortId-padded : (text : List ℕ) → IsMessageId text → length text ≤ 32 → IsUtf8 text
    → KeepsShortId (zero_padded 32 text)
KeepsShortId-padded text id short utf8 =
    let same = sym (before_zeros-id text id) in
    record {
      id = subst IsMessageId same id;
      short = subst (λ bytes. length bytes ≤ 32) same short;
      zeros = ap (zero_padded 32) (before_zeros-id text id);
      utf8 = subst IsUtf8 same utf8;
    }

-- the bytes that store short ids are in the order of the ids
pub cmp-short_ids : (x y : List ℕ) → KeepsShortId x → KeepsShortId y
    → slice_cmp nat_cmp x y ≡ slice_cmp nat_cmp (before_zeros x) (before_zeros y)
cmp-short_ids x y p q =
    let own = id_above_zero (before_zeros x) p.id in
    let others = id_above_zero (before_zeros y) q.id in
    (λ i. slice_cmp nat_cmp (sym p.zeros i) (sym q.zeros i))
    ∙ cmp-zero_padded 32 (before_zeros x) (before_zeros y) p.short q.short own others
