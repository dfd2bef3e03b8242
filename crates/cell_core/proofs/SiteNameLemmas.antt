-- Site names, and how they are stored.
use Rattle.std.proofs.Common.{◌≡◌, ℕ, suc, zero, ◌<◌, List, All, IsTrue, sym, ap, ◌∙◌, subst, arith}
use Rattle.std.proofs.Common.{true≢false}
use Rattle.std.proofs.lemmas.List.Elements.{All-weaker}
use Rattle.std.proofs.lemmas.Bool.Decides.{nat_tests}
use Rattle.std.proofs.lemmas.Str.{IsUtf8-from_ascii}
use Rattle.std.proofs.lemmas.Str.Ascii.{IsAscii-from_all}
use Rattle.std.specs.Str.{IsUtf8}
use Rattle.std.specs.Cmp.Lexicographic.{slice_cmp}
use Rattle.std.specs.Ordering.{nat_cmp}
use Rattle.cell_core.specs.SiteName.{is_site_byte, IsSiteName, KeepsName}
use Rattle.cell_core.specs.ZeroPadded.{zero_padded, before_zeros}
use Rattle.cell_core.proofs.ZeroPaddedLemmas.{cmp-zero_padded, before_zeros-zero_padded}

site_byte_above_zero : (b : ℕ) → IsTrue (is_site_byte b) → 0 < b
unfolding is_site_byte
site_byte_above_zero zero h = absurd (true≢false (sym h))
site_byte_above_zero (suc b) h = omega arith

name_above_zero : (text : List ℕ) → IsSiteName text → All (λ b. 0 < b) text
name_above_zero text name =
    let IsAllowed = λ (b : ℕ). IsTrue (is_site_byte b) in
    All-weaker IsAllowed (λ b. 0 < b) site_byte_above_zero text name.bytes

-- padded names are in the order of the names
pub cmp-padded_names : (x y : List ℕ) → IsSiteName x → IsSiteName y
    → slice_cmp nat_cmp (zero_padded 16 x) (zero_padded 16 y) ≡ slice_cmp nat_cmp x y
cmp-padded_names x y p q =
    cmp-zero_padded 16 x y p.most q.most (name_above_zero x p) (name_above_zero y q)

-- the bytes that store names are in the order of the names
pub cmp-stored_names : (x y : List ℕ) → KeepsName x → KeepsName y
    → slice_cmp nat_cmp x y ≡ slice_cmp nat_cmp (before_zeros x) (before_zeros y)
cmp-stored_names x y p q =
    (λ i. slice_cmp nat_cmp (sym p.zeros i) (sym q.zeros i))
    ∙ cmp-padded_names (before_zeros x) (before_zeros y) p.name q.name

-- a padded name is that name
pub before_zeros-name : (text : List ℕ) → IsSiteName text
    → before_zeros (zero_padded 16 text) ≡ text
before_zeros-name text name = before_zeros-zero_padded 16 text (name_above_zero text name)

-- a padded name is stored as it should be
pub KeepsName-padded : (text : List ℕ) → IsSiteName text → KeepsName (zero_padded 16 text)
KeepsName-padded text name = record {
  name = subst IsSiteName (sym (before_zeros-name text name)) name;
  zeros = ap (zero_padded 16) (before_zeros-name text name);
}

site_byte_is_ascii : (b : ℕ) → IsTrue (is_site_byte b) → b < 128
unfolding is_site_byte
site_byte_is_ascii b h = grind (arith, nat_tests)

-- a name is ASCII
pub IsUtf8-name : (text : List ℕ) → IsSiteName text → IsUtf8 text
IsUtf8-name text name =
    let IsAllowed = λ (b : ℕ). IsTrue (is_site_byte b) in
    let ascii = All-weaker IsAllowed (λ b. b < 128) site_byte_is_ascii text name.bytes in
    IsUtf8-from_ascii text (IsAscii-from_all text ascii)
