-- A script is replayed or refused, and refused by one fault.
--
-- Before its first fault a run has no faulty step. So a run without a fault has no first one. Of
-- two first faults neither step comes before the other, and what is wrong with one step is one
-- thing: the first reason that applies, and for a clash the first cell that does not agree.
use Rattle.std.proofs.Common.{◌≡◌, ◌≢◌, ◌⊎◌, ◌∙◌, ◌∷◌, ◌++◌, ℕ, List, Option, [], Some, None, ap}
use Rattle.std.proofs.Common.{drop, get_or, inl, inr, length, refl, subst, sym}
use Rattle.std.specs.Prelude.{IsSomeAnd}
use Rattle.cell_core.specs.Entry.{key_cmp}
use Rattle.cell_core.specs.Keyed.{IsMap}
use Rattle.cell_core.specs.declared.stamp.Stamp.{Stamp}
use Rattle.catalogue.specs.Clash.{IsFirstClash}
use Rattle.catalogue.specs.Entries.{Entries}
use Rattle.catalogue.proofs.ClashLemmas.{clash_is_one, clash_not_agree}
use Rattle.cata_core.specs.PlayFault.{AgreesWith, IsFaultOf, IsFirstFault, IsSound, NoneFaulty}
use Rattle.cata_core.specs.WorldHeld.{Held, cells_in, held_after, nothing_held}
use Rattle.cata_core.specs.declared.play_fault.PlayFault.{PlayFault}
use Rattle.cata_core.specs.declared.play_fault.PlayFault.TheVariants.{NoMemory, NoSuchPost}
use Rattle.cata_core.specs.declared.play_fault.PlayFault.TheVariants.{NoSuchSite, StampReused}
use Rattle.cata_core.specs.declared.step.Step.{Step}
use Rattle.cata_core.proofs.WorldHeldGrowsLemmas.{held-IsMap}
use Rattle.json_docs.specs.Faults.{of_no_document, of_step}
use Rattle.json_docs.specs.declared.fault.DocFault.{DocFault}
use Rattle.script_docs.specs.Reading.{IsScriptDocument, RefusesScript, script_checks}
use Rattle.script_docs.proofs.ReadingOneScript.{one_script}
use Rattle.docs_core.specs.Replaying.{IsPlayed, RefusesReplay, RefusesRun, Replays}
use Rattle.docs_core.proofs.CallRefusals.{one_of_document}
use Rattle.docs_core.proofs.SitesOneRefusal.{one_cause, read_not_refused, scripts}

-- ---- of a step

module _ (sites : ℕ) (w : Held) (maps : (s : ℕ) → IsMap key_cmp (w.of_site s)) where
  -- what agrees does not clash
  no_clash : (o : Option (ℕ × Entries)) (place : ℕ) (stamp : Stamp) → AgreesWith w.of_site o
      → IsSomeAnd o (λ c. IsFirstClash key_cmp (w.of_site c.0) c.1 place stamp) → ⊥
  no_clash None place stamp agrees clash = clash
  no_clash (Some c) place stamp agrees clash =
      clash_not_agree (w.of_site c.0) c.1 place stamp (maps c.0) clash agrees

  -- a step without a fault has none
  sound_not_faulty : (n : ℕ) (step : Step) (fault : PlayFault) → fault ≢ NoMemory
      → IsSound sites w step → IsFaultOf sites w n step fault → ⊥
  sound_not_faulty n step (NoSuchSite at) apart sound h = h.1 sound.sites_there
  sound_not_faulty n step (NoSuchPost at) apart sound h = h.1.1 sound.posts_there
  sound_not_faulty n step (StampReused at place stamp) apart sound h =
      no_clash (cells_in w step) place stamp sound.agrees h.1.1.1
  sound_not_faulty n step NoMemory apart sound h = apart refl

  -- what clashes does so first at one cell
  one_clash : (o : Option (ℕ × Entries)) (p q : ℕ) (s t : Stamp)
      → IsSomeAnd o (λ c. IsFirstClash key_cmp (w.of_site c.0) c.1 p s)
      → IsSomeAnd o (λ c. IsFirstClash key_cmp (w.of_site c.0) c.1 q t) → (p ≡ q) × (s ≡ t)
  one_clash None p q s t a b = absurd a
  one_clash (Some c) p q s t a b = clash_is_one (w.of_site c.0) c.1 p q s t a b

  -- a step is faulty for one reason
  one_reason : (n : ℕ) (step : Step) (x y : PlayFault) → x ≢ NoMemory → y ≢ NoMemory
      → IsFaultOf sites w n step x → IsFaultOf sites w n step y → x ≡ y
  one_reason n step (NoSuchSite a) (NoSuchSite b) p q f g = ap NoSuchSite (f.0 ∙ sym g.0)
  one_reason n step (NoSuchSite a) (NoSuchPost b) p q f g = absurd (f.1 g.1.0)
  one_reason n step (NoSuchSite a) (StampReused b place stamp) p q f g = absurd (f.1 g.1.0)
  one_reason n step (NoSuchPost a) (NoSuchSite b) p q f g = absurd (g.1 f.1.0)
  one_reason n step (NoSuchPost a) (NoSuchPost b) p q f g = ap NoSuchPost (f.0 ∙ sym g.0)
  one_reason n step (NoSuchPost a) (StampReused b place stamp) p q f g =
      absurd (f.1.1 g.1.1.0)
  one_reason n step (StampReused a place stamp) (NoSuchSite b) p q f g = absurd (g.1 f.1.0)
  one_reason n step (StampReused a place stamp) (NoSuchPost b) p q f g =
      absurd (g.1.1 f.1.1.0)
  one_reason n step (StampReused a place stamp) (StampReused b other t) p q f g =
      let e = one_clash (cells_in w step) place other stamp t f.1.1.1 g.1.1.1 in
      let at : a ≡ b = f.0 ∙ sym g.0 in
      λ i. StampReused (at i) (e.0 i) (e.1 i)
  one_reason n step (NoSuchSite a) NoMemory p q f g = absurd (q refl)
  one_reason n step (NoSuchPost a) NoMemory p q f g = absurd (q refl)
  one_reason n step (StampReused a place stamp) NoMemory p q f g = absurd (q refl)
  one_reason n step NoMemory y p q f g = absurd (p refl)

-- ---- of a run

-- what the sites hold after some steps are maps
maps_after : (steps : List Step) (s : ℕ) → let w = held_after nothing_held steps in
    IsMap key_cmp (w.of_site s)
maps_after steps s = held-IsMap steps s

-- two items of a list are at one place, or the one is before the other
meets : {X : Type 0} (b c : List X) (x y : X) (after later : List X)
    → b ++ x ∷ after ≡ c ++ y ∷ later
    → ((b ≡ c) × (x ≡ y)) ⊎ (((mid : List X) × (c ≡ b ++ x ∷ mid))
    ⊎ ((mid : List X) × (b ≡ c ++ y ∷ mid)))
meets [] [] x y after later e = inl (refl, ap (λ l. get_or l 0 x) e)
meets [] (z ∷ c) x y after later e =
    inr (inl (c, ap (λ h. h ∷ c) (sym (ap (λ l. get_or l 0 x) e))))
meets (v ∷ b) [] x y after later e =
    inr (inr (b, ap (λ h. h ∷ b) (ap (λ l. get_or l 0 x) e)))
meets {X = X} (v ∷ b) (z ∷ c) x y after later e =
    let head : v ≡ z = ap (λ (l : List X). get_or l 0 x) e in
    elim (meets b c x y after later (ap (λ (l : List X). drop 1 l) e)) as
    (λ _. ((v ∷ b ≡ z ∷ c) × (x ≡ y)) ⊎ (((mid : List X) × (z ∷ c ≡ (v ∷ b) ++ x ∷ mid))
    ⊎ ((mid : List X) × (v ∷ b ≡ (z ∷ c) ++ y ∷ mid)))) [
      | inl p ↦ inl ((λ i. head i ∷ p.0 i), p.1)
      | inr apart ↦
          elim apart as
          (λ _. ((v ∷ b ≡ z ∷ c) × (x ≡ y)) ⊎ (((mid : List X) × (z ∷ c ≡ (v ∷ b) ++ x ∷ mid))
          ⊎ ((mid : List X) × (v ∷ b ≡ (z ∷ c) ++ y ∷ mid)))) [
            | inl m ↦ inr (inl (m.0, λ i. (sym head) i ∷ m.1 i))
            | inr m ↦ inr (inr (m.0, λ i. head i ∷ m.1 i))
          ]
    ]

-- a run without a faulty step has no first fault
none_not_first : (sites : ℕ) (steps : List Step) (fault : PlayFault) → fault ≢ NoMemory
    → NoneFaulty sites steps → IsFirstFault sites steps fault → ⊥
none_not_first sites steps fault apart none first =
    sound_not_faulty sites (held_after nothing_held first.before) (maps_after first.before)
    (length first.before) first.step fault apart
    (none first.before first.step first.after first.steps_are) first.fault_of

-- a run has one first fault
one_first : (sites : ℕ) (steps : List Step) (x y : PlayFault) → x ≢ NoMemory → y ≢ NoMemory
    → IsFirstFault sites steps x → IsFirstFault sites steps y → x ≡ y
one_first sites steps x y p q f g =
    elim
    (meets f.before g.before f.step g.step f.after g.after (sym f.steps_are ∙ g.steps_are)) as
    (λ _. x ≡ y) [
      | inl same ↦
          one_reason sites (held_after nothing_held f.before) (maps_after f.before)
          (length f.before) f.step x y p q f.fault_of
          (subst
          (λ (z : List Step × Step). IsFaultOf sites (held_after nothing_held z.0) (length z.0)
          z.1 y)
          (λ i. ((sym same.0) i, (sym same.1) i)) g.fault_of)
      | inr apart ↦ elim apart as (λ _. x ≡ y) [
        | inl m ↦ absurd (earlier f x p g.before m.0 m.1 g.none_before)
        | inr m ↦ absurd (earlier g y q f.before m.0 m.1 f.none_before)
      ]
    ]
  where
    earlier : {fault : PlayFault} (first : IsFirstFault sites steps fault) (e : PlayFault)
        → fault ≢ NoMemory → (before mid : List Step)
        → before ≡ first.before ++ first.step ∷ mid → NoneFaulty sites before → ⊥
    earlier {fault} first e apart before mid is none =
        sound_not_faulty sites (held_after nothing_held first.before) (maps_after first.before)
        (length first.before) first.step fault apart
        (none first.before first.step mid is) first.fault_of

-- ---- of a script

-- A script that is replayed is not refused.
pub replay_not_refused : (bytes text : List ℕ) (fault : DocFault) → Replays bytes text
    → RefusesReplay bytes fault → ⊥
replay_not_refused bytes text fault replays refuses = elim refuses as (λ _. ⊥) [
  | inl document ↦ read_not_refused script_checks scripts IsScriptDocument bytes replays.0
      document.0 replays.1 document.1
  | inr steps ↦
      let script : steps.0 ≡ replays.0 =
      one_script bytes steps.0 replays.0 steps.1 replays.1 in
      let run : RefusesRun replays.0 steps.2.0 =
      subst (λ s. RefusesRun s steps.2.0) script steps.2.1 in
      let played : IsPlayed replays.0 replays.2.0 = replays.2.1 in
      none_not_first replays.0.sites replays.0.steps steps.2.0 run.apart played.sound run.first
]

-- A script is refused by one fault.
pub one_replay_refusal : (bytes : List ℕ) (x y : DocFault) → RefusesReplay bytes x
    → RefusesReplay bytes y → x ≡ y
one_replay_refusal bytes x y p q = elim p as (λ _. x ≡ y) [
  | inl a ↦ elim q as (λ _. x ≡ y) [
    | inl b ↦ one_of_document 1 (RefusesScript bytes)
        (one_cause script_checks scripts bytes) x y a b
    | inr b ↦ absurd
        (read_not_refused script_checks scripts IsScriptDocument bytes b.0 a.0 b.1 a.1)
  ]
  | inr a ↦ elim q as (λ _. x ≡ y) [
    | inl b ↦ absurd
        (read_not_refused script_checks scripts IsScriptDocument bytes a.0 b.0 a.1 b.1)
    | inr b ↦
        let script : b.0 ≡ a.0 = one_script bytes b.0 a.0 b.1 a.1 in
        let mine : RefusesRun a.0 a.2.0 = a.2.1 in
        let theirs : RefusesRun a.0 b.2.0 = subst (λ s. RefusesRun s b.2.0) script b.2.1 in
        a.2.2
        ∙ ap (λ (cause : PlayFault). of_no_document (of_step cause))
        (one_first a.0.sites a.0.steps a.2.0 b.2.0 mine.apart theirs.apart mine.first
        theirs.first)
        ∙ sym b.2.2
  ]
]
