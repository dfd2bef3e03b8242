use Rattle.std.proofs.Common.{◌++◌, inl}
use Rattle.command_core.proofs.sites.sync.Goals as goal

pub returns-in-Ok : goal.returns-in-Ok
returns-in-Ok g c =
    record {
      acts =
          inl (c.in-Ok.first ++ c.in-Ok.second, 0, c.in-Ok.ensures, c.print_both.ensures.written);
    }
