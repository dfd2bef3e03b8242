use Rattle.std.proofs.Common.{◌≡◌, ◌++◌, drop, length}
use Rattle.cell_core.proofs.SiteNamePaddedLemmas.{last_digits}
use Rattle.cell_core.proofs.site_name.SiteName.of_number.Given as goal

-- the later digits are written, and those of the rest are to come
abbrev pub invariant-loop-at : goal.invariant-loop-at
invariant-loop-at l = record {
  len : length l.digits ≡ 10;
  digits : last_digits l.at l.rest ++ drop l.at l.digits ≡ last_digits 10 l.n;
}
