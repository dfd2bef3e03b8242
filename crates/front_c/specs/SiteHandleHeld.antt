-- What a handle owns.
use Rattle.std.specs.Prelude.{Option, None, Some}
use Rattle.std.specs.Ptr.{Ptr}
use Rattle.std_alloc.specs.Box.Ownership.{box_owns}
use Rattle.std_heap.specs.declared.Global.{Global}
use Rattle.std_heap.specs.contracts.GlobalAllocator.TheImpl.{ghosts}
use Rattle.front_core.specs.contracts.open_site.OpenSite.{the_row as open_row}
use denote.RattleType.{RattleType}
use denote.RawPtr.{null_ptr}
use base.Fml.{Fml, feq}
use Rattle.std.specs.Coded.{Coded, coded_option}

-- a share of a site
abbrev pub share_row : RattleType
share_row = open_row

-- a share, as its site is seen
abbrev pub Share : Type 0
Share = share_row.Denot

-- how the logic codes a share that may be absent
abbrev pub share_code : Coded (Option Share)
share_code = coded_option share_row.coded

-- an open handle owns its share of a site, and the right to free its block; one that is not open is
-- the null pointer, and owns nothing
abbrev pub site_held : Ptr → Global → Option Share → Fml
site_held at alloc None = feq Ptr at null_ptr
site_held at alloc (Some share) = box_owns (ghosts.dealloc_token alloc) share_row at share
