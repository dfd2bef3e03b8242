-- What the command did with its input.
use Rattle.std.specs.Prelude.{Bool, true, false}
use Rattle.command_c.specs.declared.answer.Reading.{Reading}
use Rattle.command_c.specs.declared.answer.Reading.TheVariants.{Read, Unread}

-- whether the input is read
abbrev pub is_read : Reading → Bool
is_read Unread = false
is_read Read = true
