use Rattle.std.proofs.Common.{◌∙◌}
use Rattle.cell_core.proofs.SiteNameLemmas.{cmp-stored_names}
use Rattle.cell_core.proofs.site_name.SiteNameOrd.cmp.Goals as goal

pub returns : goal.returns
returns c =
    let order =
    cmp-stored_names c.self.inside.bytes c.other.inside.bytes c.self.invariant
    c.other.invariant in
    rw (← c.self.view_is, ← c.other.view_is) (c.cmp.ensures ∙ order)
