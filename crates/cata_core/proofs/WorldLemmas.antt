-- How a run goes on by one step.
--
-- A world is the cells of each site, the summaries that were told and the deltas that were posted.
-- Each function of `play` writes one site, tells one summary or posts one delta. For each the lemma
-- says that this is the step of the definition: the site that is named has the joined cells, all
-- else is as before, and where cells clash the fault is the step's. A step names sites that exist,
-- so each place that is read is there.
use Rattle.std.proofs.Common.{◌≡◌, ℕ, zero, suc, ◌<◌, true, false, List, [], ◌∷◌, ◌++◌, Some}
use Rattle.std.proofs.Common.{length, get_or, refl, sym, ap, ◌∙◌, subst, Ok, Err}
use Rattle.std.specs.Prelude.{◌==◌, if◌then◌else◌, slice_set, IsSomeAnd, All, OnOk}
use Rattle.std.specs.declared.result.Result.{Result}
use Rattle.std.proofs.lemmas.Bool.{eqb-true, eqb-false}
use Rattle.std.proofs.lemmas.Grind.{get_or-set_at}
use Rattle.std.proofs.lemmas.List.{get_or-set_other, get_or_default}
use Rattle.std.proofs.lemmas.List.Elements.{All-nil, All-cons, All-push, All-get_or}
use Rattle.cata_core.specs.declared.step.Step.{Step}
use Rattle.cata_core.specs.declared.step.Step.TheVariants.{Merge, Tell, Deliver, Post}
use Rattle.cata_core.specs.declared.play_fault.PlayFault.{PlayFault}
use Rattle.cata_core.specs.declared.play_fault.PlayFault.TheVariants.{NoSuchSite, NoSuchPost}
use Rattle.cata_core.specs.declared.play_fault.PlayFault.TheVariants.{StampReused, NoMemory}
use Rattle.cell_core.specs.Entry.{key_cmp}
use Rattle.catalogue.specs.Entries.{Entries, Agree, joined}
use Rattle.catalogue.specs.inner.Entries.{catalogue_laws}
use Rattle.catalogue.specs.Clash.{IsFirstClash}
use Rattle.cata_core.specs.Delta.{summary_of, delta_of}
use Rattle.cata_core.specs.WorldHeld.{ToldStamps, PostedCells, Held, joins, held_step, cells_in}
use Rattle.cata_core.specs.WorldHeld.{cells_delivered, delta_to}
use Rattle.cata_core.specs.PlayFault.{IsSound, AgreesWith}
use Rattle.cata_core.specs.inner.PlayFault.{RefusesStep}
use Rattle.cata_core.specs.inner.World.{at_sites, IsClashAt}
use Rattle.catalogue.proofs.Basics.{append_nil}
use Rattle.list_core.proofs.Basics.{stands_at as got}

-- Where no site has cells, none has after one more without cells.
pub one_more_empty : (xs : List Entries) → at_sites xs ≡ (λ _. [])
    → at_sites (xs ++ [] ∷ []) ≡ (λ _. [])
one_more_empty xs h = λ i s. at xs s (ap (λ w. w s) h) i
  where
    at : (xs : List Entries) (s : ℕ) → get_or xs s [] ≡ [] → get_or (xs ++ [] ∷ []) s [] ≡ []
    at [] zero e = refl
    at [] (suc s) e = refl
    at (x ∷ xs) zero e = e
    at (x ∷ xs) (suc s) e = at xs s e

-- what each site has where one is written
site_set : (xs : List Entries) (i : ℕ) (x : Entries) (s : ℕ) → i < length xs
    → at_sites (slice_set xs i x) s ≡ (if s == i then x else at_sites xs s)
site_set xs i x s lt =
    elim (s == i) as
    (λ b. (s == i) ≡ b → get_or (slice_set xs i x) s [] ≡ (if b then x else get_or xs s [])) [
      | true ↦ λ b. get_or-set_at xs i s x [] (eqb-true s i b) lt
      | false ↦ λ b. get_or-set_other xs i s x [] (λ e. eqb-false s i b e)
    ] refl

-- where a site is written that joins what comes in
pub joined_set : (xs : List Entries) (i : ℕ) (x cells : Entries) → i < length xs
    → x ≡ joined (at_sites xs i) cells
    → at_sites (slice_set xs i x) ≡ joins (at_sites xs) (Some (i, cells))
joined_set xs i x cells lt e = λ j s. (site_set xs i x s lt
    ∙ elim (s == i) as
    (λ b. (s == i) ≡ b
    → (if b then x else at_sites xs s)
    ≡ (if b then joined (at_sites xs s) cells else at_sites xs s)) [
      | true ↦ λ b. e ∙ ap (λ q. joined (at_sites xs q) cells) (sym (eqb-true s i b))
      | false ↦ λ b. refl
    ] refl) j

set_twice : (xs : List Entries) (i : ℕ) (x y : Entries)
    → slice_set (slice_set xs i x) i y ≡ slice_set xs i y
set_twice [] i x y = refl
set_twice (z ∷ zs) zero x y = refl
set_twice (z ∷ zs) (suc i) x y = ap (λ ys. z ∷ ys) (set_twice zs i x y)

-- a site that merges with itself stays
pub merged_self : (w : Held) (i j : ℕ) → i ≡ j → w ≡ held_step w (Merge i j)
merged_self w i j e = λ k. record {
  of_site = λ s. sym (same s) k;
  told = sym (append_nil w.told) k;
  posts = sym (append_nil w.posts) k;
}
  where
    same : (s : ℕ)
        → (if s == i then joined (w.of_site s) (w.of_site j) else w.of_site s) ≡ w.of_site s
    same s =
        elim (s == i) as
        (λ b. (s == i) ≡ b
        → (if b then joined (w.of_site s) (w.of_site j) else w.of_site s) ≡ w.of_site s) [
          | true ↦
              λ b. ap (λ q. joined (w.of_site s) (w.of_site q)) (sym (eqb-true s i b ∙ e))
              ∙ catalogue_laws.idem (w.of_site s)
          | false ↦ λ b. refl
        ] refl

-- cells that come in at a site by a step that tells and posts nothing
pub merged : (xs : List Entries) (told : List ToldStamps) (posts : List PostedCells) (i j : ℕ)
    (gap own theirs : Entries) → i < length xs → theirs ≡ at_sites xs j
    → own ≡ joined (at_sites xs i) theirs
    → record {
      of_site = at_sites (slice_set (slice_set xs i gap) i own);
      told = told;
      posts =
          posts;
    }
    ≡ held_step (record { of_site = at_sites xs; told = told; posts = posts }) (Merge i j)
merged xs told posts i j gap own theirs lt t e = λ k. record {
  of_site =
      (ap at_sites (set_twice xs i gap own) ∙ joined_set xs i own theirs lt e
      ∙ ap (λ c. joins (at_sites xs) (Some (i, c))) t) k;
  told = sym (append_nil told) k;
  posts = sym (append_nil posts) k;
}

-- A delivery brings the cells of its post to the post's addressee.
pub comes_by : (w : Held) (k : ℕ) (p : PostedCells) → k < length w.posts → p ≡ get_or w.posts k p
    → cells_in w (Deliver k) ≡ Some (p.addressee, p.cells)
comes_by w k p lt e = ap cells_delivered (got w.posts k p lt e)

-- a delta that comes in
pub delivered : (xs : List Entries) (told : List ToldStamps) (posts : List PostedCells) (k : ℕ)
    (p : PostedCells) (own : Entries) → k < length posts → p ≡ get_or posts k p
    → p.addressee < length xs → own ≡ joined (at_sites xs p.addressee) p.cells
    → record { of_site = at_sites (slice_set xs p.addressee own); told = told; posts = posts }
    ≡ held_step (record { of_site = at_sites xs; told = told; posts = posts }) (Deliver k)
delivered xs told posts k p own lt e there is = λ i. record {
  of_site =
      (joined_set xs p.addressee own p.cells there is
      ∙ ap (joins (at_sites xs)) (sym (ap cells_delivered (got posts k p lt e)))) i;
  told = sym (append_nil told) i;
  posts = sym (append_nil posts) i;
}

-- a delta that is posted
pub posted_step : (of : ℕ → Entries) (told : List ToldStamps) (posts : List PostedCells)
    (site k : ℕ) (t : ToldStamps) (cells : Entries) → k < length told → t ≡ get_or told k t
    → cells ≡ delta_of (of site) t.stamps
    → record {
      of_site = of;
      told = told;
      posts =
          posts ++ record { addressee = t.teller; cells = cells } ∷ [];
    }
    ≡ held_step (record { of_site = of; told = told; posts = posts }) (Post site k)
posted_step of told posts site k t cells lt e is = λ i. record {
  of_site = of;
  told = sym (append_nil told) i;
  posts =
      (ap (λ c. posts ++ record { addressee = t.teller; cells = c } ∷ []) is
      ∙ ap (λ o. posts ++ delta_to (of site) o) (sym (got told k t lt e))) i;
}

-- The cells read at a site's number are those of the site.
pub at_site : (xs : List Entries) (i : ℕ) (x : Entries) → i < length xs → x ≡ get_or xs i x
    → x ≡ at_sites xs i
at_site xs i x lt e = e ∙ get_or_default xs i x [] lt

module _ (sites : List Entries) (told : List ToldStamps) (posts : List PostedCells) (step : Step)
    (k : ℕ) (p : PostedCells) (own : Entries)
    (is : step ≡ Deliver k) (post_there : k < length posts) (post : p ≡ get_or posts k p)
    (site_there : p.addressee < length sites) (here : own ≡ get_or sites p.addressee own) where
  abbrev world : Held
  world = record { of_site = at_sites sites; told = told; posts = posts }

  -- a delivery of cells that agree is a sound step
  pub delivered_sound : (n : ℕ) → Agree own p.cells → IsSound n world step
  delivered_sound n agree = subst (IsSound n world) (sym is) (record {
    sites_there = All-nil (λ site. site < n);
    posts_there = post_there;
    agrees =
        subst (AgreesWith (at_sites sites)) (sym (comes_by world k p post_there post))
        (subst (λ x. Agree x p.cells) (at_site sites p.addressee own site_there here) agree);
  })

  -- the addressee joins the cells, and all else is as it was
  pub delivered_held : (new : Entries) → new ≡ joined own p.cells
      → record { of_site = at_sites (slice_set sites p.addressee new); told = told; posts = posts }
      ≡ held_step world step
  delivered_held new e =
      delivered sites told posts k p new post_there post site_there
      (e ∙ ap (λ x. joined x p.cells) (at_site sites p.addressee own site_there here))
      ∙ ap (held_step world) (sym is)

  -- where the cells clash, the fault is the step's
  pub delivered_fault : (n at : ℕ) (fault : PlayFault) → IsClashAt at own p.cells fault
      → RefusesStep n world at step fault
  delivered_fault n at fault h = subst (λ s. RefusesStep n world at s fault) (sym is) (of fault h)
    where
      of : (fault : PlayFault) → IsClashAt at own p.cells fault
          → RefusesStep n world at (Deliver k) fault
      of (NoSuchSite s) h = absurd h
      of (NoSuchPost s) h = absurd h
      of (StampReused s place stamp) h = (
        h.0,
        (
          All-nil (λ site. site < n),
          (
            post_there,
            subst (λ o. IsSomeAnd o
                (λ c. IsFirstClash key_cmp (at_sites sites c.0) c.1 place stamp))
                (sym (comes_by world k p post_there post))
                (subst (λ x. IsFirstClash key_cmp x p.cells place stamp)
                (at_site sites p.addressee own site_there here) h.1),
          ),
        ),
      )
      of NoMemory h = tt

-- whom is posted to is a site that there is
pub addressed : (n : ℕ) (posts : List PostedCells) (k : ℕ) (p : PostedCells)
    → All (λ q. q.addressee < n) posts → k < length posts → p ≡ get_or posts k p → p.addressee < n
addressed n posts k p h lt e =
    subst (λ q. q.addressee < n) (sym e) (All-get_or (λ q. q.addressee < n) posts k p lt h)

-- A step that names one site names only sites that exist, if it exists.
pub named_one : (n s : ℕ) → s < n → All (λ q. q < n) (s ∷ [])
named_one n s lt = All-cons (λ q. q < n) s [] lt (All-nil (λ q. q < n))

-- A step that names two sites names only sites that exist, if both exist.
pub named_two : (n s t : ℕ) → s < n → t < n → All (λ q. q < n) (s ∷ t ∷ [])
named_two n s t lt less = All-cons (λ q. q < n) s (t ∷ []) lt (named_one n t less)

-- what two facts give, on success
pub both_hold : {T E P Q R : Type 0} (r : Result T E) → (P → Q → R) → OnOk r P → OnOk r Q → OnOk r R
both_hold (Ok x) f p q = f p q
both_hold (Err e) f p q = tt

-- All posts are to existing sites after one more to the site that told its summary.
pub posted_addressed : (n : ℕ) (told : List ToldStamps) (posts : List PostedCells) (k : ℕ)
    (t : ToldStamps) (cells : Entries) → All (λ q. q.teller < n) told
    → All (λ q. q.addressee < n) posts → k < length told → t ≡ get_or told k t
    → All (λ q. q.addressee < n) (posts ++ record { addressee = t.teller; cells = cells } ∷ [])
posted_addressed n told posts k t cells owners h lt e =
    All-push (λ q. q.addressee < n) posts (record { addressee = t.teller; cells = cells }) h
    (subst (λ q. q.teller < n) (sym e) (All-get_or (λ q. q.teller < n) told k t lt owners))

-- Adding the summary of a site's cells to those that were told is the step that tells it.
pub told_step : (of : ℕ → Entries) (told : List ToldStamps) (posts : List PostedCells) (site : ℕ)
    (t : ToldStamps) → t ≡ record { teller = site; stamps = summary_of (of site) }
    → record { of_site = of; told = told ++ t ∷ []; posts = posts }
    ≡ held_step (record { of_site = of; told = told; posts = posts }) (Tell site)
told_step of told posts site t is =
    λ i. record { of_site = of; told = told ++ is i ∷ []; posts = sym (append_nil posts) i }

-- All summaries are of existing sites after one more of an existing site.
pub told_addressed : (n : ℕ) (told : List ToldStamps) (t : ToldStamps)
    → All (λ q. q.teller < n) told → t.teller < n → All (λ q. q.teller < n) (told ++ t ∷ [])
told_addressed n told t h lt = All-push (λ q. q.teller < n) told t h lt
