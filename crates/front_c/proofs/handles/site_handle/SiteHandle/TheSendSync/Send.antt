-- A handle may cross threads as the share of a site that it owns may.
use Rattle.std.proofs.Common.{Option, None, Some}
use mir.Raw.{raw}
use base.Shift.{Keyless}
use denote.Memory.{lone}
use denote.RawPtr.{Ptr}
use denote.Struct.Struct.{exits_of}
use denote.Struct.Owning.{shape, fields, to}
use denote.Param.Send.{IsSend, AllSend, owning_send, struct_send, sendable}
use Rattle.std.proofs.Crossing as heap
use Rattle.std_alloc.proofs.SendSync.{quiet, lies}
use Rattle.std_heap.specs.declared.Global.{Global}
use Rattle.front_core.proofs.open_site.OpenSite.TheSendSync as site
use Rattle.front_c.specs.SiteHandleHeld.{Share, share_row, site_held}
use Rattle.front_c.specs.contracts.handles.site_handle.SiteHandle.{the_row, the_type}

share_send : IsSend share_row
share_send = site.the_send

held-Keyless : (p : Ptr) (alloc : Global) (o : Option Share) → Keyless (site_held p alloc o)
held-Keyless p alloc None = tt
held-Keyless p alloc (Some share) = (
  lies share_row share_send p share,
  heap.frees.frees alloc
      (raw (lone share_row.mir)) p,
)

pub send : IsSend the_row
send =
    let all : AllSend (fields the_type) = (search sendable, tt) in
    owning_send the_type all (λ d. held-Keyless d.at d.alloc d.value)
    (λ k. quiet (to the_type) (exits_of k (fields the_type)) ((struct_send (shape the_type)
    all).leaving k))
