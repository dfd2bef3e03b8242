-- What the owner of a handle learns from what it owns. Assumes `Logic`.
use Rattle.std.proofs.Common.{◌≡◌, refl, sym, ap, Bool, true, false, Option, None, Some, List, ◌∷◌}
use Rattle.std.proofs.Common.{subst}
use Rattle.std.specs.Prelude.{is_some}
use seplogic.Ra.Ura.{Ura}
use base.Fraction.{full_share}
use base.Fml.{Fml}
use base.Logic.{ent, guard, guard_i, never, fst∗, snd∗, via}
use mir.Raw.{raw as bare}
use types.Logic.{Logic, sem}
use types.Kit.{Item, Goal, Seq, ‵, given, ◌$◌, use1, learn, rewrite, feq_i, feq_l}
use contract.Monad.{fact_use}
use denote.Memory.{lone}
use denote.RawPtr.{Ptr, Testable, block_ptr, null_ptr, in_a_block, lies_at}
use lib.Dec.{lit<}
use Rattle.std_alloc.specs.Box.Ownership.{box_owns}
use Rattle.std_heap.specs.declared.Global.{Global}
use Rattle.std_heap.specs.contracts.GlobalAllocator.TheImpl.{ghosts}
use Rattle.std_heap.proofs.GlobalToken.{dealloc_token-Testable}
use Rattle.front_c.specs.SiteHandleHeld.{Share, share_row, site_held}

-- whether the pointer leads to a block
abbrev pub is_block : Ptr → Bool
is_block (block_ptr b o) = true
is_block null_ptr = false

module _ (alloc : Global) where
  abbrev held : Ptr → Share → Fml
  held at share = box_owns (ghosts.dealloc_token alloc) share_row at share

  module _ {M : Type 1} {𝓤 : Ura M} (𝓛 : Logic 𝓤) where
    tested : (at : Ptr) (share : Share) → ent 𝓤 (sem 𝓛 (held at share)) (guard 𝓤 (Testable at)
        (sem 𝓛 (held at share)))
    tested at share =
        fact_use 𝓤 (Testable at)
        (via 𝓤 _ (snd∗ 𝓤 (sem 𝓛 (lies_at share_row full_share at share))
        (sem 𝓛 (ghosts.dealloc_token alloc (bare (lone share_row.mir)) at)))
        (dealloc_token-Testable 𝓛 alloc (bare (lone share_row.mir)) at))
        (guard_i 𝓤 (Testable at) (sem 𝓛 (held at share)))

  module _ {M : Type 1} {𝓤 : Ura M} {𝓛 : Logic 𝓤} {K : Type 0} {Γ : List (Item 𝓤)} {G : Goal 𝓤 𝓛.H}
    where
      -- the pointer of a handle may be compared with null, and is not null where the handle is open
      pub tells_open : K → (at : Ptr) (value : Option Share) → (Testable at
          → is_block at ≡ is_some value → Seq K 𝓛 (‵ (site_held at alloc value) ∷ Γ) G)
          → Seq K 𝓛 (‵ (site_held at alloc value) ∷ Γ) G
      tells_open t at None k = feq_l t (λ e. feq_i t Ptr at null_ptr e $ k (subst Testable (sym e)
          (lit< tt)) (ap is_block e))
      tells_open t at (Some share) k =
          in_a_block t at (λ p. held p share) (fst∗ 𝓤 (never 𝓤) (sem 𝓛 (ghosts.dealloc_token alloc
          (bare (lone share_row.mir)) null_ptr))) (λ b o e.
          use1 𝓛 (given (Testable (block_ptr b o)) (‵ (held (block_ptr b o) share))) (tested 𝓛
          (block_ptr b o) share) $ learn t (λ may.
          rewrite t 0 (λ (p : Ptr). ‵ (held p share)) (sym e) refl $ k (subst Testable (sym e) may)
          (ap is_block e)))
