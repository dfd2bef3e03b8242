use Rattle.std.proofs.Common.{refl}
use Rattle.command_core.proofs.edits.answer_of.Goals as goal

pub returns : goal.returns
returns g c =
    rw c.new.ensures (
      c.in_ok-site.site,
      c.in_ok-site.ensures,
      (
        c.in_ok-change.change,
        c.in_ok-change.ensures,
        rw (← c.bytes.ensures) c.in_ok-text.ensures,
        refl,
      ),
    )
