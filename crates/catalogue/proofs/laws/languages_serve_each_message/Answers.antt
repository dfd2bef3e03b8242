use Rattle.catalogue.proofs.LanguageLemmas.{live_among}
use Rattle.catalogue.proofs.laws.languages_serve_each_message.Goals as goal

pub returns : goal.returns
returns c = live_among
