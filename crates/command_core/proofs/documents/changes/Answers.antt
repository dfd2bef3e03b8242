use Rattle.std.proofs.Common.{refl}
use Rattle.command_core.proofs.documents.changes.Goals as goal

pub returns : goal.returns
returns g c =
    rw c.new.ensures (
      c.in_ok-sites.sites,
      c.in_ok-sites.ensures,
      (c.in_ok-text.is_changed, rw (← c.bytes.ensures) c.in_ok-text.ensures, rw c.of.ensures refl),
    )
