-- The order of stamps, by what is not less.
use Rattle.std.proofs.Common.{◌≡◌, ◌≢◌, false, sym, ap, ◌∙◌}
use Rattle.std.specs.declared.cmp.Ordering.TheVariants.{Less}
use Rattle.std.specs.Ordering.{is_lt, is_gt}
use Rattle.std.specs.Cmp.{upto, tied_itself}
use Rattle.cell_core.specs.declared.stamp.Stamp.{Stamp}
use Rattle.cell_core.specs.Stamp.{stamp_cmp}
use Rattle.cell_core.specs.inner.Cell.{stamp_cmp_total, stamp_cmp_exact}
use Rattle.lang_core.proofs.Basics.{level_of}
use Rattle.catalogue.proofs.Basics.{not_lt, not_less_of, turned_gt}

-- That one stamp does not test as less than another is transitive.
pub not_lt_trans : (a b c : Stamp) → is_lt (stamp_cmp a b) ≡ false → is_lt (stamp_cmp b c) ≡ false
    → is_lt (stamp_cmp a c) ≡ false
not_lt_trans a b c g h =
    let turn =
    λ (x y : Stamp). ap is_gt (stamp_cmp_total.antisymm y x) ∙ turned_gt (stamp_cmp x y) in
    sym (turn a c) ∙ upto stamp_cmp_total c b a (turn b c ∙ h) (turn a b ∙ g)

-- That one stamp is not less than another is transitive.
pub not_less_trans : (a b c : Stamp) → stamp_cmp a b ≢ Less → stamp_cmp b c ≢ Less
    → stamp_cmp a c ≢ Less
not_less_trans a b c g h =
    not_less_of (stamp_cmp a c)
    (not_lt_trans a b c (not_lt (stamp_cmp a b) g) (not_lt (stamp_cmp b c) h))

-- A stamp does not test as less than itself.
pub lt_self : (s : Stamp) → is_lt (stamp_cmp s s) ≡ false
lt_self s = ap is_lt (tied_itself stamp_cmp_total s)

-- A stamp is not less than itself.
pub not_less_self : (s : Stamp) → stamp_cmp s s ≢ Less
not_less_self s = not_less_of (stamp_cmp s s) (lt_self s)

-- what is less is not greater
pub not_less_back : (s t : Stamp) → stamp_cmp s t ≡ Less → stamp_cmp t s ≢ Less
not_less_back s t less back = not_less_self s (stamp_cmp_total.trans s t s less back)

-- stamps of which neither is less are one
pub same_stamp : (s t : Stamp) → stamp_cmp s t ≢ Less → stamp_cmp t s ≢ Less → s ≡ t
same_stamp s t p q =
    stamp_cmp_exact s t
    (level_of (stamp_cmp s t) (not_lt (stamp_cmp s t) p)
    (ap is_lt (sym (stamp_cmp_total.antisymm t s)) ∙ not_lt (stamp_cmp t s) q))
