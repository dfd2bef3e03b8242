use Rattle.std.proofs.Common.{◌≡◌, ◌++◌, drop, sym, ◌∙◌, ap, subst, arith}
use Rattle.std.proofs.Math.ListN.{length-set}
use Rattle.cell_core.specs.SiteName.{KeepsName, padded_name}
use Rattle.cell_core.specs.ZeroPadded.{zero_padded, before_zeros}
use Rattle.cell_core.proofs.SiteNameLemmas.{KeepsName-padded, before_zeros-name}
use Rattle.cell_core.proofs.SiteNamePaddedLemmas.{last_digits, digit_written}
use Rattle.cell_core.proofs.SiteNamePaddedLemmas.{padded_name-last_digits}
use Rattle.cell_core.proofs.SiteNamePaddedLemmas.{IsSiteName-padded_name}
use Rattle.cell_core.proofs.site_name.SiteName.of_number.Goals as goal

pub loop-at-preserved : goal.loop-at-preserved
loop-at-preserved c = record {
  len = length-set c.loop-at.digits _ _ ∙ c.loop-at.invariant.len;
  digits =
      digit_written c.loop-at.at c.loop-at.rest c.loop-at.digits c.loop-at-test.true
      (omega (arith, c.loop-at.invariant.len)) ∙ c.loop-at.invariant.digits;
}

-- all digits are written
whole : (c : goal.After-zero_padded) → c.loop-at.digits ≡ padded_name c.args.n
whole c =
    let done : c.loop-at.at ≡ 0 = omega arith in
    ap (λ at. last_digits at c.loop-at.rest ++ drop at c.loop-at.digits) (sym done)
    ∙ c.loop-at.invariant.digits ∙ sym (padded_name-last_digits c.args.n c.ranges.n.fits)

pub invariant_of-result : goal.invariant_of-result
invariant_of-result c =
    subst KeepsName (ap (zero_padded 16) (sym (whole c)) ∙ sym c.zero_padded.ensures)
    (KeepsName-padded (padded_name c.args.n) (IsSiteName-padded_name c.args.n c.ranges.n.fits))

pub returns : goal.returns
returns c =
    ap before_zeros (c.zero_padded.ensures ∙ ap (zero_padded 16) (whole c))
    ∙ before_zeros-name (padded_name c.args.n) (IsSiteName-padded_name c.args.n c.ranges.n.fits)
