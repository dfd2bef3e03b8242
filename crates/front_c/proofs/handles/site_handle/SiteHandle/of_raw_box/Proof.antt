-- `of_raw_box` keeps the pointer alone. Assumes `Logic`.
use Rattle.std.proofs.Common.{Some, List, [], ◌∷◌, ◌++◌, refl, sym, subst}
use Rattle.std.proofs.raw_atomic.Walks.{proved_at}
use mir.Val.{Val, vptr, vstruct, vcons, vnil}
use base.Logic.{SProp, ent, id⊢}
use base.Fml.{ftrue}
use prog.Wp.{WpFn}
use types.Kit.{‵, ◌⊛◌, ◌$◌, ◌∵◌, !, qed, move, keep, split, join, fsplit, fjoin, fpack, feq_i}
use types.Kit.{suffices, done}
use types.Run.{enter, of_opd, stop, fld, no_more, and_then, returns}
use types.Part.{agg, sub, whole}
use types.ByLocal.{alloc_all, pass_all, free_all, look_at, get, get_in, sets}
use contract.Running.{tables}
use denote.Exit.{yes}
use denote.RattleType.{owns, Valss}
use denote.RawPtr.{RawPtr, block_ptr}
use denote.Signature.{plain, types_at}
use denote.Steps.{nothing}
use denote.Struct.Struct.{within}
use denote.Struct.Owning.{shape}
use denote.Triple.Walked.{Stays, walk_of, says, stay_dropped, Goes-dropped, ends_at}
use Rattle.front_c.specs.SiteHandleHeld.{share_row as T}
use Rattle.std.specs.contracts.alloc.Global.{the_row as G}
use Rattle.std.proofs.alloc.Global.TheLaws.{the_row_laws as LG}
use Rattle.std.specs.contracts.impls.GlobalAllocator.TheImpl.{ghosts}
use Rattle.front_c.proofs.RawBoxValues.{both, RawBox, raw_box_good, raw_box_out}
use Rattle.front_c.specs.contracts.handles.site_handle.SiteHandle.{the_type}
use Rattle.front_c.specs.contracts.handles.site_handle.SiteHandle.of_raw_box as f
use Rattle.front_c.specs.contracts.handles.site_handle.SiteHandle.of_raw_box.Key.{name as key}
use Rattle.front_c.proofs.handles.site_handle.SiteHandle.of_raw_box.Statement.{statement}
use Rattle.front_c.proofs.handles.site_handle.SiteHandle.of_raw_box.Code as code

abbrev stayed : Stays f.ended.signature.params f.ended.kept
stayed = (stay_dropped (plain (λ _. RawBox T G LG ghosts)) yes, tt)

-- The pointer of the raw box is that of a block, which the handle then owns: so it is open, and has
-- the same share.
pub of_raw_box_spec : {M : Type 1} → statement M
of_raw_box_spec 𝓤 𝓛 𝓜 𝓡 wired =
    let c = f.clauses 𝓛 𝓜.mem 𝓡.returns in let W = walk_of 𝓛 f.ended stayed c in let 𝓣 =
    tables 𝓤 𝓛.H 𝓜 𝓡 𝓡.env in
    proved_at 𝓛 f.ended stayed c 𝓜 𝓡 (
      Goes-dropped 𝓛 0 (plain (λ _. RawBox T G LG ghosts)) yes
          (λ κs x w. refl),
      tt,
    ) key code.function (code.unfolded 𝓤 𝓛.H 𝓜 𝓡 wired)
    (λ z are.
    let d = z.0.3.0 in let Run : List Val → SProp 𝓤 = λ ws. WpFn 𝓤 𝓛.H 𝓣.C 𝓣.Λ code.function ws
    (W.post z) in
    qed 𝓛 ((‵ ftrue ⊛ ‵ (owns (types_at f.ended.signature.params z.0.0) z.0.3 z.0.4))
    ∷ ‵ ftrue ∷ []) ∵
    split ! $ move ! (1 ∷ []) $ fsplit ! $ raw_box_out T G LG ghosts ! d z.0.4.0
    (λ b o h e ws fits. keep ! (0 ∷ []) $
    let u : Val = both (vptr b o) h in
    suffices ! (Run (u ∷ [])) (subst (λ (us : List Val). ent 𝓤 (Run (u ∷ [])) (Run us))
    (sym (λ i. ws i ++ [])) (id⊢ 𝓤 (Run (u ∷ [])))) $
    enter ! 𝓣.C 𝓣.Λ code.function (u ∷ []) (W.post z) $ alloc_all ! (λ l. pass_all ! refl
    (raw_box_good T G LG ghosts b o h fits, tt) $
    sets ! (of_opd ! (get_in ! (fld ! refl (stop !)) (sub ! 0 refl (whole !)))) refl (tt, tt) $
    sets ! (of_opd ! (get ! refl)) refl (tt, tt) $ sets ! (agg ! (and_then ! (get ! refl)
    (no_more !))) refl (tt, (tt, tt)) $
    let w : Val = vstruct (vcons (vptr b o) vnil) in
    nothing ! $ feq_i ! (List Val) (vptr b o ∷ []) (vptr b o ∷ []) refl $ fjoin ! $
    feq_i ! (List Val) (w ∷ []) (w ∷ []) refl $ fjoin ! $
    fpack ! (Valss (RawPtr ∷ [])) (within (shape the_type) (block_ptr b o, tt) (w ∷ []))
    (vptr b o ∷ [], tt) $ fjoin ! $
    returns ! (look_at ! 0 refl) $ free_all ! refl $
    suffices ! _ (ends_at 𝓛 f.ended stayed c z w (record {
      at = block_ptr b o;
      alloc =
          d.alloc;
      value = Some d.value;
    }) (tt, tt) (tt, tt)) $ says ! refl $
    nothing ! $ nothing ! $ join ! $ nothing ! $ done !)))
