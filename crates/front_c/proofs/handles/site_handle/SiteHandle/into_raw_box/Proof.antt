-- `into_raw_box` puts the allocator beside the pointer. Assumes `Logic`.
use Rattle.std.proofs.Common.{Option, ◌≡◌, List, [], ◌∷◌, ◌++◌, refl, sym, ap, ◌∙◌, subst}
use Rattle.std.proofs.raw_atomic.Walks.{proved_at}
use mir.Raw.{raw as bare}
use mir.Syntax.{impl, tnil, dnil}
use mir.Val.{Val, vptr, vstruct, vcons, vnil}
use base.Logic.{SProp, ent, id⊢, never, fst∗}
use base.Fml.{ftrue}
use prog.Wp.{WpFn}
use types.Logic.{sem}
use types.Kit.{‵, raw, ◌⊛◌, ◌$◌, ◌∵◌, !, qed, move, keep, split, join, fsplit, suffices, done}
use types.Kit.{rewrite}
use types.Run.{enter, of_opd, stop, fld, no_more, and_then, returns}
use types.Part.{agg, sub, whole}
use types.ByLocal.{alloc_all, pass_all, free_all, look_at, get, get_in, sets}
use contract.Running.{tables}
use denote.Exit.{yes}
use denote.RattleType.{owns}
use denote.Memory.{lone}
use denote.RawPtr.{Ptr, block_ptr, null_ptr, in_a_block}
use denote.Signature.{plain, types_at}
use denote.Steps.{nothing, heard}
use contract.Monad.{fact}
use Rattle.std.specs.Prelude.{IsSome}
use Rattle.front_c.specs.SiteHandleHeld.{Share}
use Rattle.front_c.specs.SiteHandleHeld.{site_held}
use Rattle.front_c.proofs.SiteHandleOptions.{some_of}
use denote.Triple.Walked.{Stays, walk_of, says, stay_dropped, Goes-dropped, ends_at}
use Rattle.core.proofs.alloc.Calls.{Al, handle_tells}
use Rattle.std_alloc.specs.Box.Ownership.{box_owns}
use Rattle.front_c.specs.SiteHandleHeld.{share_row as T}
use Rattle.std.specs.contracts.alloc.Global.{the_row as G}
use Rattle.std.proofs.alloc.Global.TheLaws.{the_row_laws as LG}
use Rattle.std.specs.contracts.impls.GlobalAllocator.TheImpl.{ghosts}
use Rattle.front_c.proofs.RawBoxValues.{both, raw_box_good, raw_box_in}
use Rattle.front_c.specs.contracts.handles.site_handle.SiteHandle.{the_row as R}
use Rattle.front_c.proofs.handles.site_handle.SiteHandle.TheLaws.{lowers}
use Rattle.front_c.specs.contracts.handles.site_handle.SiteHandle.into_raw_box as f
use Rattle.front_c.specs.contracts.handles.site_handle.SiteHandle.into_raw_box.Key.{name as key}
use Rattle.front_c.proofs.handles.site_handle.SiteHandle.into_raw_box.Statement.{statement}
use Rattle.front_c.proofs.handles.site_handle.SiteHandle.into_raw_box.Code as code

abbrev stayed : Stays f.ended.signature.params f.ended.kept
stayed = (stay_dropped (plain (λ _. R)) yes, (stay_dropped (plain (λ _. G)) yes, tt))

abbrev al : Al
al = record { row = G; laws = LG; g = ghosts; d = impl [] tnil dnil; drops = impl [] tnil dnil }

-- The pointer of an open handle is that of a block, which it owns; so with the allocator beside it
-- it is a raw box of the same share.
pub into_raw_box_spec : {M : Type 1} → statement M
into_raw_box_spec 𝓤 𝓛 𝓜 𝓡 wired =
    let c = f.clauses 𝓛 𝓜.mem 𝓡.returns in let W = walk_of 𝓛 f.ended stayed c in let 𝓣 =
    tables 𝓤 𝓛.H 𝓜 𝓡 𝓡.env in
    proved_at 𝓛 f.ended stayed c 𝓜 𝓡 (
      Goes-dropped 𝓛 0 (plain (λ _. R)) yes (λ κs x w. refl),
      (Goes-dropped 𝓛 0 (plain (λ _. G)) yes (λ κs x w. refl), tt),
    ) key code.function
    (code.unfolded 𝓤 𝓛.H 𝓜 𝓡 wired)
    (λ z are.
    let d = z.0.3.0 in let a = z.0.3.1.0 in let Run : List Val → SProp 𝓤 =
    λ ws. WpFn 𝓤 𝓛.H 𝓣.C 𝓣.Λ code.function ws (W.post z) in
    qed 𝓛 ((‵ ftrue ⊛ ‵ (owns (types_at f.ended.signature.params z.0.0) z.0.3 z.0.4)) ∷ raw
    (fact 𝓤 (IsSome d.value)) ∷ []) ∵ move ! (1 ∷ []) $ heard ! _ (λ full.
    let held = some_of d.value full in let x = held.0 in
    split ! $ move ! (1 ∷ []) $ fsplit ! $ fsplit ! $ move ! (1 ∷ 2 ∷ []) $
    rewrite ! 0 (λ (v : Option Share). ‵ (site_held d.at d.alloc v)) held.1 refl $
    in_a_block ! d.at (λ p. box_owns (ghosts.dealloc_token d.alloc) T p x) (fst∗ 𝓤 (never 𝓤)
    (sem 𝓛 (ghosts.dealloc_token d.alloc (bare (lone T.mir)) null_ptr))) (λ b o e. move ! (1 ∷ []) $
    fsplit ! $
    handle_tells al ! a z.0.4.1.0 (λ h ea fits. keep ! (0 ∷ 2 ∷ []) $
    let w : Val = vstruct (vcons (vptr b o) vnil) in let out : Val = both (vptr b o) h in
    let ws : z.0.4.0 ≡ w ∷ [] = lowers.val_is d z.0.4.0 are.0 ∙ ap (λ (p : Ptr). lowers.lowered
    (record d { at = p }) ∷ []) e in
    suffices ! (Run (w ∷ h ∷ [])) (subst (λ (us : List Val). ent 𝓤 (Run (w ∷ h ∷ [])) (Run us))
    (sym (λ i. ws i ++ (ea i ++ []))) (id⊢ 𝓤 (Run (w ∷ h ∷ [])))) $
    enter ! 𝓣.C 𝓣.Λ code.function (w ∷ h ∷ []) (W.post z) $ alloc_all ! (λ l. pass_all ! refl
    ((tt, (tt, tt)), (fits, tt)) $
    sets ! (of_opd ! (get_in ! (fld ! refl (stop !)) (sub ! 0 refl (whole !)))) refl (tt, tt) $
    sets ! (of_opd ! (get ! refl)) refl (tt, tt) $
    sets ! (agg ! (and_then ! (get ! refl) (and_then ! (get ! refl) (no_more !)))) refl
    (raw_box_good T G LG ghosts b o h fits) $
    move ! (1 ∷ 0 ∷ []) $ raw_box_in T G LG ghosts ! b o h a x $
    returns ! (look_at ! 0 refl) $ free_all ! refl $
    suffices ! _ (ends_at 𝓛 f.ended stayed c z out (record {
      at = block_ptr b o;
      alloc = a;
      value =
          x;
    }) (tt, (tt, tt)) (tt, (tt, tt))) $ says ! held.1 $
    nothing ! $ nothing ! $ join ! $ nothing ! $ join ! $ nothing ! $ done !)))))
