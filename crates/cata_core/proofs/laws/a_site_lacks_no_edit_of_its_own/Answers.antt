use Rattle.cata_core.proofs.OwnEditsLemmas.{no_delta_shows, no_site_lacks}
use Rattle.cata_core.proofs.laws.a_site_lacks_no_edit_of_its_own.Goals as goal

pub returns-clause-sites : goal.returns-clause-sites
returns-clause-sites c = λ names steps a b consistent at_home.
    no_site_lacks names steps consistent at_home a b

pub returns-clause-deltas : goal.returns-clause-deltas
returns-clause-deltas c = no_delta_shows
