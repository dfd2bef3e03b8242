-- `closed` puts the null pointer into a handle. Assumes `Logic`.
use Rattle.std.proofs.Common.{None, List, [], ◌∷◌, ◌++◌, refl, sym, subst, lit<}
use Rattle.std.proofs.raw_atomic.Walks.{proved_at}
use mir.Syntax.{impl, tnil, dnil}
use mir.Val.{Val, vnull, vstruct, vcons, vnil}
use base.Logic.{SProp, ent, id⊢}
use base.Fml.{ftrue}
use prog.Wp.{WpFn}
use types.Kit.{‵, ◌⊛◌, ◌$◌, ◌∵◌, !, qed, move, keep, split, join, fsplit, fjoin, fpack, feq_i}
use types.Kit.{suffices, done}
use types.Run.{enter, lit, no_more, and_then, returns}
use types.Part.{agg}
use types.ByLocal.{alloc_all, pass_all, free_all, look_at, sets}
use contract.Running.{tables}
use denote.Exit.{yes}
use denote.RattleType.{owns, Valss}
use denote.RawPtr.{Ptr, RawPtr, null_ptr}
use denote.Signature.{plain, types_at}
use denote.Steps.{nothing}
use denote.Struct.Struct.{within}
use denote.Struct.Owning.{shape}
use denote.Triple.Walked.{Stays, walk_of, says, stay_dropped, Goes-dropped, ends_at}
use Rattle.core.proofs.alloc.Calls.{Al, handle_tells}
use Rattle.std.specs.contracts.alloc.Global.{the_row as G}
use Rattle.std.proofs.alloc.Global.TheLaws.{the_row_laws as LG}
use Rattle.std.specs.contracts.impls.GlobalAllocator.TheImpl.{ghosts}
use Rattle.front_c.specs.contracts.handles.site_handle.SiteHandle.{the_type}
use Rattle.front_c.specs.contracts.handles.site_handle.SiteHandle.closed as f
use Rattle.front_c.specs.contracts.handles.site_handle.SiteHandle.closed.Key.{name as key}
use Rattle.front_c.proofs.handles.site_handle.SiteHandle.closed.Statement.{statement}
use Rattle.front_c.proofs.handles.site_handle.SiteHandle.closed.Code as code

abbrev stayed : Stays f.ended.signature.params f.ended.kept
stayed = (stay_dropped (plain (λ _. G)) yes, tt)

abbrev al : Al
al = record { row = G; laws = LG; g = ghosts; d = impl [] tnil dnil; drops = impl [] tnil dnil }

-- The handle is not open, since its pointer is null, which owns nothing.
pub closed_spec : {M : Type 1} → statement M
closed_spec 𝓤 𝓛 𝓜 𝓡 wired =
    let c = f.clauses 𝓛 𝓜.mem 𝓡.returns in let W = walk_of 𝓛 f.ended stayed c in let 𝓣 =
    tables 𝓤 𝓛.H 𝓜 𝓡 𝓡.env in
    proved_at 𝓛 f.ended stayed c 𝓜 𝓡 (Goes-dropped 𝓛 0 (plain (λ _. G)) yes (λ κs x w. refl), tt)
    key code.function (code.unfolded 𝓤 𝓛.H 𝓜 𝓡 wired)
    (λ z are.
    let a = z.0.3.0 in let Run : List Val → SProp 𝓤 = λ ws. WpFn 𝓤 𝓛.H 𝓣.C 𝓣.Λ code.function ws
    (W.post z) in
    qed 𝓛 ((‵ ftrue ⊛ ‵ (owns (types_at f.ended.signature.params z.0.0) z.0.3 z.0.4))
    ∷ ‵ ftrue ∷ []) ∵
    split ! $ move ! (1 ∷ []) $ fsplit ! $ handle_tells al ! a z.0.4.0 (λ h ea fits. keep ! [] $
    suffices ! (Run (h ∷ [])) (subst (λ (us : List Val). ent 𝓤 (Run (h ∷ [])) (Run us))
    (sym (λ i. ea i ++ [])) (id⊢ 𝓤 (Run (h ∷ [])))) $
    enter ! 𝓣.C 𝓣.Λ code.function (h ∷ []) (W.post z) $ alloc_all ! (λ l. pass_all ! refl
    (fits, tt) $
    sets ! (agg ! (and_then ! (lit ! tt) (no_more !))) refl (tt, (record { fits = lit< tt }, tt)) $
    let w : Val = vstruct (vcons vnull vnil) in
    feq_i ! Ptr null_ptr null_ptr refl $
    nothing ! $ feq_i ! (List Val) (vnull ∷ []) (vnull ∷ []) refl $ fjoin ! $ feq_i ! (List Val)
    (w ∷ []) (w ∷ []) refl $ fjoin ! $
    fpack ! (Valss (RawPtr ∷ [])) (within (shape the_type) (null_ptr, tt) (w ∷ [])) (vnull ∷ [], tt)
    $ fjoin ! $
    returns ! (look_at ! 0 refl) $ free_all ! refl $
    suffices ! _ (ends_at 𝓛 f.ended stayed c z w (record { at = null_ptr; alloc = a; value = None })
    (tt, tt) (tt, tt)) $ says ! (refl, refl) $
    nothing ! $ nothing ! $ join ! $ nothing ! $ done !)))
