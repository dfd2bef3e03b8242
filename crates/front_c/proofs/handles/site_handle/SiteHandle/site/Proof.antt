-- `table` borrows what the pointer leads to, and the owner follows it. Assumes `Logic`.
use Rattle.std.proofs.Common.{Option, ◌≡◌, ℕ, List, [], ◌∷◌, refl, sym, ap, ◌∙◌}
use Rattle.std.proofs.raw_atomic.Walks.{proved}
use seplogic.Ra.Ura.{Ura}
use base.Fraction.{full_share}
use mir.Syntax.{named}
use mir.Raw.{raw as bare}
use mir.Val.{Val, vptr, vstruct, vcons, vnil}
use base.Logic.{ent, sep, never, fst∗, id⊢}
use base.Fml.{Fml, ftrue, fsep, flft}
use types.Logic.{Logic, sem}
use types.Kit.{‵, raw, ◌⊛◌, some, later, at_ret, ◌$◌, ◌∵◌, !, qed, move, keep, use1, split, join}
use types.Kit.{fsplit, fsplit3, fjoin, fpack, pick, await, rewrite, suffices, group, done, frame}
use types.Run.{enter, of_opd, addr, load, stop, fld, first, blocks, exec, returns}
use types.Part.{sub, whole, look_in}
use types.ByLocal.{alloc_all, pass_all, free_all, look_at, get, through, sets, sets_last, env}
use contract.Running.{tables}
use denote.Exit.{no}
use denote.Follow.{follows, Part, lends_Part}
use denote.Laws.{shows}
use denote.Memory.{lone, part_at, mem, cell_at, part_of}
use denote.RawPtr.{Ptr, block_ptr, null_ptr, in_a_block}
use denote.Ref.{MutRef, mut_vals, mut_Tells}
use denote.Signature.{plain, mut_ref_to}
use denote.Steps.{nothing, opens, peeks, heard}
use contract.Monad.{fact}
use Rattle.std.specs.Prelude.{IsSome}
use Rattle.front_c.specs.SiteHandleHeld.{Share}
use Rattle.front_c.specs.SiteHandleHeld.{site_held}
use Rattle.front_c.specs.inner.Handles.{with_site}
use Rattle.front_c.proofs.SiteHandleOptions.{some_of}
use denote.Struct.Struct.{Struct}
use denote.Struct.Owning.{shape, to}
use denote.Triple.Walked.{Stays, walk_of, says, stay_dropped, Goes-spent_ref, ends_at}
use Rattle.std.specs.contracts.impls.GlobalAllocator.TheImpl.{ghosts}
use Rattle.std_alloc.specs.Box.Ownership.{box_owns}
use Rattle.front_c.specs.SiteHandleHeld.{share_row as T}
use Rattle.front_c.specs.declared.handles.site_handle.SiteHandle.{SiteHandle}
use Rattle.front_c.specs.contracts.handles.site_handle.SiteHandle.{the_type, the_row as R}
use Rattle.front_c.proofs.handles.site_handle.SiteHandle.TheLaws.{lowers}
use Rattle.front_c.specs.contracts.handles.site_handle.SiteHandle.site as f
use Rattle.front_c.specs.contracts.handles.site_handle.SiteHandle.site.Key.{name as key}
use Rattle.front_c.proofs.handles.site_handle.SiteHandle.site.Statement.{statement}
use Rattle.front_c.proofs.handles.site_handle.SiteHandle.site.Code as code

abbrev stayed : Stays f.ended.signature.params f.ended.kept
stayed = (stay_dropped (mut_ref_to (0 ∷ []) tt (plain (λ _. R))) no, tt)

module _ {M : Type 1} {𝓤 : Ura M} (𝓛 : Logic 𝓤) (h : SiteHandle) (us : List Val) (rb ro b o : ℕ)
  where
    -- all of the owner but the value
    abbrev Rest : Fml
    Rest = fsep (fsep (ghosts.dealloc_token h.alloc (bare (lone T.mir)) (block_ptr b o))
        ((Struct (shape the_type)).own_val (to the_type h) us)) (cell_at full_share R.mir us rb ro)

    back : h.at ≡ block_ptr b o → (x : T.Denot) → ent 𝓤 (sep 𝓤 (sem 𝓛 ((mem T).own_at x b o))
        (sem 𝓛 Rest)) (sem 𝓛 ((mem R).own_at (with_site h x) rb ro))
    unfolding part_of
    back e x =
        qed 𝓛 (‵ (part_at T full_share x b o) ∷ ‵ Rest ∷ []) ∵ move ! (1 ∷ []) $ fsplit ! $
        fsplit ! $
        move ! (3 ∷ 0 ∷ []) $ fjoin ! $
        rewrite ! 0 (λ (p : Ptr). ‵ (box_owns (ghosts.dealloc_token h.alloc) T p x)) (sym e) refl $
        move ! (1 ∷ 0 ∷ []) $ fjoin ! $ move ! (1 ∷ 0 ∷ []) $ fjoin ! $
        fpack ! (List Val) (λ ws. fsep (cell_at full_share R.mir ws rb ro) (R.own_val
        (with_site h x)
        ws)) us $ done !

-- The borrow is of the share in the block that an open handle owns; what is written there becomes
-- the handle's share, since it owns the rest meanwhile.
pub site_spec : {M : Type 1} → statement M
site_spec 𝓤 𝓛 𝓜 𝓡 wired =
    let c = f.clauses 𝓛 𝓜.mem 𝓡.returns in let W = walk_of 𝓛 f.ended stayed c in let 𝓣 =
    tables 𝓤 𝓛.H 𝓜 𝓡 𝓡.env in
    proved 𝓛 f.ended stayed c 𝓜 𝓡 (Goes-spent_ref 𝓛 1 (0 ∷ []) tt (plain (λ _. R)), tt)
    key code.function (code.unfolded 𝓤 𝓛.H 𝓜 𝓡 wired)
    (λ κs. (mut_vals, tt)) (λ κs. (mut_Tells (named 0) κs.0 R, tt)) (λ κs qs bounds a g are.
    let κ = κs.0 in let q = qs.0 in let r = a.0 in let h = r.now in let rb = r.ref_ptr.0 in let ro =
    r.ref_ptr.1 in let γ = r.ghost_name in
    let y : W.Ghost = ((κs, qs, bounds, a, (mut_vals r, tt)), tt) in
    qed 𝓛 (((‵ (flft κ q) ⊛ ‵ ftrue) ⊛ ‵ ((MutRef (named 0) κ R).own_val r (mut_vals r)) ⊛ ‵ ftrue)
    ∷ raw (fact 𝓤 (IsSome h.value)) ∷ []) ∵ move ! (1 ∷ []) $ heard ! _ (λ full.
    let held = some_of h.value full in let x = held.0 in
    split ! $ split ! $ move ! (2 ∷ []) $ split ! $ keep ! (0 ∷ 2 ∷ []) $
    enter ! _ _ _ _ _ $ alloc_all ! (λ l. pass_all ! refl ((tt, tt), tt) $
    fsplit3 ! $ move ! (1 ∷ 2 ∷ 3 ∷ []) $ opens ! tt R rb ro (λ us.
    move ! (1 ∷ []) $ peeks ! R _ (shows 𝓛 R) h us (λ is. fsplit ! $ move ! (1 ∷ []) $
    rewrite ! 0 (λ (v : Option Share). ‵ (site_held h.at h.alloc v)) held.1 refl $
    in_a_block ! h.at (λ p. box_owns (ghosts.dealloc_token h.alloc) T p x) (fst∗ 𝓤 (never 𝓤)
    (sem 𝓛 (ghosts.dealloc_token h.alloc (bare (lone T.mir)) null_ptr))) (λ b o e. fsplit ! $
    let w : Val = vstruct (vcons (vptr b o) vnil) in
    let word : us ≡ w ∷ [] = lowers.val_is h us is ∙ ap (λ (p : Ptr). lowers.lowered
    (record h { at = p }) ∷ []) e in
    let Cell = λ (ws : List Val). ‵ (cell_at full_share R.mir ws rb ro) in
    -- [the table; the token; the fields; the cell; the open borrow, in three entries]
    rewrite ! 3 Cell word refl $
    first ! $ blocks ! $ sets ! (of_opd ! (load ! (through ! refl (fld ! refl (stop !)))
    (look_in ! 3 (sub ! 0 refl (whole !))))) refl (tt, tt) $
    sets ! (of_opd ! (get ! refl)) refl (tt, tt) $ sets_last ! (addr ! (through ! refl (stop !)))
    refl (tt, tt) $
    exec ! 𝓣.C 𝓣.Λ (env code.Mir.locals l) code.Mir.t-2 (at_ret _ (W.post y)) $
    sets ! (of_opd ! (get ! refl)) refl (tt, tt) $
    rewrite ! 3 Cell (sym word) refl $
    move ! (1 ∷ 2 ∷ []) $ fjoin ! $ move ! (0 ∷ 2 ∷ []) $ fjoin ! $ move ! (2 ∷ 3 ∷ 4 ∷ 1 ∷ 0 ∷ [])
    $ group ! 5 $
    use1 𝓛 (later (some (λ (γ' : _). raw (Part 𝓛 R T (with_site h) (named 0) κ q rb ro b o γ
    (sem 𝓛 (Rest 𝓛 h us rb ro b o)) (back 𝓛 h us rb ro b o e) x γ'))))
    (lends_Part 𝓛 R T (with_site h) (named 0) κ q rb ro b o γ (sem 𝓛 (Rest 𝓛 h us rb ro b o))
    (back 𝓛 h us rb ro b o e) (R.coded.code h) (R.coded.code h) x) $ await ! tt $ pick ! (λ γ'.
    returns ! (look_at ! 0 refl) $ free_all ! refl $ keep ! (0 ∷ []) $
    use1 𝓛 (‵ ((MutRef (named 0) κ T).own_val (record {
      ref_ptr = (b, o);
      ghost_name = γ';
      now =
          x;
    }) (vptr b o ∷ [])) ⊛ (‵ (flft κ q) ⊛ ‵ (follows R T γ γ' (with_site h)))) (id⊢ 𝓤 _) $
    split ! $ move ! (1 ∷ []) $ split ! $ move ! (2 ∷ 0 ∷ 1 ∷ []) $
    suffices ! _ (ends_at 𝓛 f.ended stayed c y (vptr b o) (record {
      ref_ptr = (b, o);
      ghost_name =
          γ';
      now = x;
    }) (tt, tt) (tt, tt)) $
    nothing ! $ nothing ! $ fjoin ! $ join ! $ nothing ! $ move ! (2 ∷ 0 ∷ []) $ join ! $ join ! $
    frame ! $ says ! held.1 $ done !)))))))
