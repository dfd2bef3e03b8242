use Rattle.std.proofs.Common.{sym, ◌∙◌, ap, subst, arith}
use Rattle.std.proofs.lemmas.Bool.Decides.{nat_tests}
use Rattle.cell_core.specs.SiteName.{IsSiteName, KeepsName}
use Rattle.cell_core.specs.ZeroPadded.{zero_padded, before_zeros}
use Rattle.cell_core.proofs.SiteNameLemmas.{KeepsName-padded, before_zeros-name}
use Rattle.cell_core.proofs.site_name.SiteName.new.Goals as goal

is_name : (c : goal.After-zero_padded) → IsSiteName c.args.text.now
is_name c = subst IsSiteName c.as_bytes-bytes.ensures.value (record {
  some = grind (arith, nat_tests, c.is_empty.ensures, c.if-is_empty.false);
  most = c.if-bytes-gt-MAX_BYTES.false;
  bytes = c.are_site_bytes.ensures.0 c.if-not-are_site_bytes.false;
})

pub invariant_of-result : goal.invariant_of-result
invariant_of-result c =
    subst KeepsName
    (ap (zero_padded 16) (sym c.as_bytes-bytes.ensures.value) ∙ sym c.zero_padded.ensures)
    (KeepsName-padded c.args.text.now (is_name c))

pub returns : goal.returns
returns c = (
  is_name c,
  ap before_zeros (c.zero_padded.ensures ∙ ap (zero_padded 16) c.as_bytes-bytes.ensures.value)
      ∙ before_zeros-name c.args.text.now (is_name c),
)
