use Rattle.lang_core.proofs.MatchingBasicBytes.{bytes_of_basic, basic_of_bytes}
use Rattle.lang_core.proofs.laws.basic_in_bytes.Goals as goal

pub returns : goal.returns
returns c = λ range tag. (bytes_of_basic range tag, basic_of_bytes range tag)
