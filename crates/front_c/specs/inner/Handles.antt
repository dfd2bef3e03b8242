-- A handle whose share of a site is borrowed.
use Rattle.std.specs.Prelude.{Some}
use Rattle.std.specs.Borrow.{Lends, MutBor, Fml}
use Rattle.front_c.specs.SiteHandleHeld.{Share, share_row}
use Rattle.front_c.specs.declared.handles.site_handle.SiteHandle.{SiteHandle}
use Rattle.front_c.specs.contracts.handles.site_handle.SiteHandle.{the_row}

-- the handle with another share in place of its own
abbrev pub with_site : SiteHandle → Share → SiteHandle
with_site h share = record h { value = Some share }

-- the handle ends with the last value of the share that r borrows
abbrev pub LendsSite : MutBor SiteHandle → MutBor Share → Fml
LendsSite h r = Lends the_row share_row h r (with_site h.now)
