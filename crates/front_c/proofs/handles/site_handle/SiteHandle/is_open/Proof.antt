-- `is_open` compares the pointer with null. Assumes `Logic`.
use Rattle.std.proofs.Common.{◌≡◌, Bool, true, false, List, [], ◌∷◌, refl, sym, ap}
use Rattle.std.proofs.raw_atomic.Walks.{proved}
use base.Fml.{ftrue, flft}
use mir.Syntax.{named, ptr_eq}
use mir.Val.{Val, vnull, vbool, op2_val}
use mathlib.Core.Bool.{not}
use types.Kit.{‵, ◌⊛◌, ◌$◌, ◌∵◌, !, qed, move, keep, split, join, fsplit, fsplit3, fjoin, frame}
use types.Kit.{group, rewrite, suffices, done}
use types.Run.{enter, of_opd, un, bin, lit, load, stop, fld, returns}
use types.Part.{sub, whole, look_in}
use types.ByLocal.{alloc_all, pass_all, free_all, look_at, get, is as reads_as, through, sets}
use contract.Running.{tables}
use denote.Builtin.{bool}
use denote.Laws.{shows}
use denote.Memory.{cell_at}
use base.Fraction.{full_share}
use denote.Plain.{bool_Makes}
use denote.RawPtr.{Ptr, block_ptr, null_ptr, ptr_val, tests_null}
use denote.Ref.{MutRef, mut_vals, mut_Tells}
use denote.Signature.{plain}
use denote.Steps.{nothing, owned, opens, closes, peeks}
use denote.Triple.Walked.{Stays, walk_of, says, stay_ref, Goes-ref, ends_at}
use Rattle.core.proofs.atomic.Steps.{Ptr-Good}
use Rattle.front_c.proofs.HandleSteps.{is_block, tells_open}
use Rattle.front_c.specs.contracts.handles.site_handle.SiteHandle.{the_row as R}
use Rattle.front_c.proofs.handles.site_handle.SiteHandle.TheLaws.{lowers}
use Rattle.front_c.specs.contracts.handles.site_handle.SiteHandle.is_open as f
use Rattle.front_c.specs.contracts.handles.site_handle.SiteHandle.is_open.Key.{name as key}
use Rattle.front_c.proofs.handles.site_handle.SiteHandle.is_open.Statement.{statement}
use Rattle.front_c.proofs.handles.site_handle.SiteHandle.is_open.Code as code

abbrev stayed : Stays f.ended.signature.params f.ended.kept
stayed = (stay_ref (0 ∷ []) tt (plain (λ _. R)), tt)

null_test : (p : Ptr) → op2_val ptr_eq (ptr_val p) vnull ≡ vbool (not (is_block p))
null_test (block_ptr b o) = refl
null_test null_ptr = refl

not_not : (y : Bool) → not (not y) ≡ y
not_not true = refl
not_not false = refl

-- The pointer is null just where the handle is not open, and to read it changes nothing.
pub is_open_spec : {M : Type 1} → statement M
is_open_spec 𝓤 𝓛 𝓜 𝓡 wired =
    let c = f.clauses 𝓛 𝓜.mem 𝓡.returns in let W = walk_of 𝓛 f.ended stayed c in let 𝓣 =
    tables 𝓤 𝓛.H 𝓜 𝓡 𝓡.env in
    proved 𝓛 f.ended stayed c 𝓜 𝓡 (Goes-ref 𝓛 1 0 tt (plain (λ _. R)), tt) key code.function
    (code.unfolded 𝓤 𝓛.H 𝓜 𝓡 wired)
    (λ κs. (mut_vals, tt)) (λ κs. (mut_Tells (named 0) κs.0 R, tt)) (λ κs qs bounds a g are.
    let b = a.0.ref_ptr.0 in let o = a.0.ref_ptr.1 in let h = a.0.now in let vs = mut_vals a.0 in
    let y : W.Ghost = ((κs, qs, bounds, a, (vs, tt)), tt) in
    qed 𝓛 (((‵ (flft κs.0 qs.0) ⊛ ‵ ftrue) ⊛ ‵ ((MutRef (named 0) κs.0 R).own_val a.0 vs) ⊛ ‵ ftrue)
    ∷ ‵ ftrue ∷ []) ∵
    split ! $ split ! $ move ! (2 ∷ []) $ split ! $ keep ! (0 ∷ 2 ∷ []) $
    enter ! _ _ _ _ _ $ alloc_all ! (λ l. pass_all ! refl ((tt, tt), tt) $
    fsplit3 ! $ move ! (1 ∷ 2 ∷ 3 ∷ []) $ opens ! tt R b o (λ us.
    move ! (1 ∷ []) $ peeks ! R _ (shows 𝓛 R) h us (λ is_word. fsplit ! $ move ! (1 ∷ []) $
    tells_open h.alloc ! h.at h.value (λ may is.
    -- [what the handle owns; what its fields own; its cell; the open borrow, in three entries]
    let word = lowers.val_is h us is_word in
    let Cell = λ (ws : List Val). ‵ (cell_at full_share R.mir ws b o) in
    rewrite ! 2 Cell word refl $
    sets ! (of_opd ! (load ! (through ! refl (fld ! refl (stop !))) (look_in ! 2 (sub ! 0 refl
    (whole !))))) refl (Ptr-Good h.at) $
    sets ! (reads_as ! (bin ! (get ! refl) (lit ! tt) (tests_null h.at may)) (null_test h.at)) refl
    (tt, tt) $
    sets ! (reads_as ! (un ! (get ! refl) tt) (ap vbool (not_not (is_block h.at)))) refl (tt, tt) $
    rewrite ! 2 Cell (sym word) refl $
    move ! (1 ∷ []) $ fjoin ! $ move ! (1 ∷ []) $ closes ! tt R h us b o $
    returns ! (look_at ! 0 refl) $ free_all ! refl $ move ! (3 ∷ []) $
    suffices ! _ (ends_at 𝓛 f.ended stayed c y (vbool (is_block h.at)) (is_block h.at) (h, tt)
    (tt, tt)) $ says ! (is, refl) $
    group ! 3 $ nothing ! $ move ! (1 ∷ 0 ∷ []) $ join ! $ nothing ! $ move ! (2 ∷ 0 ∷ []) $
    join ! $ frame ! $ frame ! $
    owned ! bool _ (bool_Makes 𝓛) (is_block h.at) _ refl $ done !)))))
