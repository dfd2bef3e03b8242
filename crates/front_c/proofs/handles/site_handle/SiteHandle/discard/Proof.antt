-- `discard` drops a handle that owns nothing. Assumes `Logic`.
use Rattle.std.proofs.Common.{Option, None, ◌≡◌, List, [], ◌∷◌, ◌++◌, refl, sym, ap, ◌∙◌, subst}
use Rattle.std.proofs.Common.{lit<}
use Rattle.std.proofs.raw_atomic.Walks.{proved_at}
use mir.Val.{Val, vnull, vunit, vstruct, vcons, vnil}
use base.Logic.{SProp, ent, id⊢}
use base.Fml.{ftrue}
use prog.Wp.{WpFn}
use types.Kit.{‵, raw, ◌⊛◌, ◌$◌, ◌∵◌, !, qed, move, keep, split, join, fsplit, feq_i, feq_l, group}
use types.Kit.{suffices, done, rewrite}
use types.Run.{enter, of_opd, unit_lit, returns}
use types.ByLocal.{alloc_all, pass_all, free_all, look_at, sets}
use contract.Monad.{fact}
use contract.Running.{tables}
use denote.Exit.{yes}
use denote.RattleType.{owns}
use denote.RawPtr.{Ptr}
use denote.Signature.{plain, types_at}
use denote.Steps.{nothing, heard}
use denote.Triple.Walked.{Stays, walk_of, stay_dropped, Goes-dropped, ends_at}
use Rattle.front_c.specs.SiteHandleHeld.{Share, site_held}
use Rattle.front_c.specs.contracts.handles.site_handle.SiteHandle.{the_row as R}
use Rattle.front_c.proofs.handles.site_handle.SiteHandle.TheLaws.{lowers}
use Rattle.front_c.specs.contracts.handles.site_handle.SiteHandle.discard as f
use Rattle.front_c.specs.contracts.handles.site_handle.SiteHandle.discard.Key.{name as key}
use Rattle.front_c.proofs.handles.site_handle.SiteHandle.discard.Statement.{statement}
use Rattle.front_c.proofs.handles.site_handle.SiteHandle.discard.Code as code

abbrev stayed : Stays f.ended.signature.params f.ended.kept
stayed = (stay_dropped (plain (λ _. R)) yes, tt)

-- A handle that is not open owns nothing, so nothing is lost where it ends.
pub discard_spec : {M : Type 1} → statement M
discard_spec 𝓤 𝓛 𝓜 𝓡 wired =
    let c = f.clauses 𝓛 𝓜.mem 𝓡.returns in let W = walk_of 𝓛 f.ended stayed c in let 𝓣 =
    tables 𝓤 𝓛.H 𝓜 𝓡 𝓡.env in
    proved_at 𝓛 f.ended stayed c 𝓜 𝓡 (Goes-dropped 𝓛 0 (plain (λ _. R)) yes (λ κs x w. refl), tt)
    key code.function (code.unfolded 𝓤 𝓛.H 𝓜 𝓡 wired)
    (λ z are.
    let d = z.0.3.0 in let Run : List Val → SProp 𝓤 = λ ws. WpFn 𝓤 𝓛.H 𝓣.C 𝓣.Λ code.function ws
    (W.post z) in
    qed 𝓛 ((‵ ftrue ⊛ ‵ (owns (types_at f.ended.signature.params z.0.0) z.0.3 z.0.4)) ∷ raw
    (fact 𝓤 (d.value ≡ None)) ∷ []) ∵ move ! (1 ∷ []) $ heard ! _ (λ none.
    split ! $ move ! (1 ∷ []) $ fsplit ! $ fsplit ! $ move ! (1 ∷ []) $
    rewrite ! 0 (λ (v : Option Share). ‵ (site_held d.at d.alloc v)) none refl $
    feq_l ! (λ e. keep ! [] $
    let w : Val = vstruct (vcons vnull vnil) in
    let ws : z.0.4.0 ≡ w ∷ [] = lowers.val_is d z.0.4.0 are.0 ∙ ap (λ (p : Ptr). lowers.lowered
    (record d { at = p }) ∷ []) e in
    suffices ! (Run (w ∷ [])) (subst (λ (us : List Val). ent 𝓤 (Run (w ∷ [])) (Run us))
    (sym (λ i. ws i ++ [])) (id⊢ 𝓤 (Run (w ∷ [])))) $
    enter ! 𝓣.C 𝓣.Λ code.function (w ∷ []) (W.post z) $ alloc_all ! (λ l. pass_all ! refl
    ((tt, (record { fits = lit< tt }, tt)), tt) $
    sets ! (of_opd ! (unit_lit !)) refl (tt, tt) $
    returns ! (look_at ! 0 refl) $ free_all ! refl $
    suffices ! _ (ends_at 𝓛 f.ended stayed c z vunit tt (tt, tt) (tt, tt)) $
    nothing ! $ feq_i ! _ (vunit ∷ []) _ refl $ nothing ! $ nothing ! $ join ! $ nothing ! $
    group ! 3 $ done !))))
