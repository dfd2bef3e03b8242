-- What is borrowed, as values.
use Rattle.catalogue.specs.declared.reply.LentReply.{LentReply}
use Rattle.catalogue.specs.declared.reply.LentReply.TheVariants.{Matched as LentMatched}
use Rattle.catalogue.specs.declared.reply.LentReply.TheVariants.{Default as LentDefault}
use Rattle.catalogue.specs.declared.reply.LentReply.TheVariants.{Nothing as LentNothing}
use Rattle.catalogue.specs.declared.reply.Reply.{Reply}
use Rattle.catalogue.specs.declared.reply.Reply.TheVariants.{Matched, Default, Nothing}

-- what a borrowed answer says
abbrev pub reply_of : LentReply → Reply
reply_of (LentMatched lang label) = Matched lang.now label.now
reply_of (LentDefault lang label) = Default lang.now label.now
reply_of LentNothing = Nothing
