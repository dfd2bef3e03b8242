-- What the command leaves, without where its texts lie.
use Rattle.command_c.specs.Answer.{Ended}
use Rattle.command_c.specs.declared.report.Texts.{Texts}

-- the status and the two texts
abbrev pub texts_now : Texts → Ended
texts_now texts = record {
  status = texts.status;
  output = texts.output.now;
  errors = texts.errors.now;
}
