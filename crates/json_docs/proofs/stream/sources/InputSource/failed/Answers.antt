use Rattle.std.proofs.Common.{refl}
use Rattle.json_docs.proofs.stream.sources.InputSource.failed.Goals as goal

pub returns : goal.returns
returns g c = refl
