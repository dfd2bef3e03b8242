use Rattle.nego_core.proofs.WideningLemmas.{same_narrow, same_wide}
use Rattle.nego_core.proofs.laws.widened_is_lookup_where_nothing_is_added.Goals as goal

pub returns : goal.returns
returns c =
    λ s items langs found h. (same_narrow s items langs found h, same_wide s items langs found h)
