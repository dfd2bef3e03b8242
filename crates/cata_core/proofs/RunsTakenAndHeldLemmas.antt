-- With deltas too, what the sites hold is the catalogue of what they took.
--
-- Two machines run over the same steps: one keeps the list of edits that each site took, the other
-- the cells that it holds. The invariant ties them: what is held is the catalogue of what was
-- taken, a summary is that of some edits its owner took, and a post is the delta of the sender's
-- edits for such a summary. A delta joins to what all the sender's edits would, since what it
-- leaves out is known to the receiver. So each step keeps the invariant, and with consistent edits
-- none clashes.
use Rattle.std.proofs.Common.{◌≡◌, ℕ, zero, suc, ◌+◌, true, false, List, [], ◌∷◌, ◌++◌, Option}
use Rattle.std.proofs.Common.{Some, None, inl, inr, refl, sym, ap, ◌∙◌, subst}
use Rattle.std.specs.Prelude.{◌==◌, if◌then◌else◌, slice_get, IsSomeAnd}
use Rattle.std.proofs.lemmas.Bool.{eqb-true}
use Rattle.std.specs.FinMap.Entries.{find}
use Rattle.cell_core.specs.declared.cell.Cell.{Cell}
use Rattle.cell_core.specs.declared.stamp.Stamp.{Stamp}
use Rattle.cell_core.specs.Cell.{AgreeCells}
use Rattle.cell_core.specs.Keyed.{AgreeIfBoth}
use Rattle.cata_core.specs.declared.step.Step.{Step}
use Rattle.cata_core.specs.declared.step.Step.TheVariants.{Edit, Merge, Tell, Post, Deliver}
use Rattle.cata_core.specs.declared.answer.Answer.{Answer}
use Rattle.cata_core.specs.declared.play_fault.PlayFault.{PlayFault}
use Rattle.cata_core.specs.declared.play_fault.PlayFault.TheVariants.{NoSuchSite, NoSuchPost}
use Rattle.cata_core.specs.declared.play_fault.PlayFault.TheVariants.{StampReused, NoMemory}
use Rattle.cell_core.specs.Entry.{EntryKey, key_cmp}
use Rattle.catalogue.specs.Entries.{Entry, Entries, Agree, joined}
use Rattle.catalogue.specs.Edits.{catalogue_of, IsConsistent}
use Rattle.cata_core.specs.Delta.{delta_of, is_missing, summary_of}
use Rattle.cata_core.specs.RunsTaken.{PostedEdits, Taken, edits_delivered, edits_in, takes}
use Rattle.cata_core.specs.RunsTaken.{tellers_by}
use Rattle.cata_core.specs.RunsTaken.{post_to, edits_posted, taken_step, nothing_taken, taken_after}
use Rattle.cata_core.specs.RunsTaken.{taken, edits_by, edits_of}
use Rattle.cata_core.specs.WorldHeld.{ToldStamps, PostedCells, Held, cells_delivered, cells_in}
use Rattle.cata_core.specs.WorldHeld.{joins}
use Rattle.cata_core.specs.WorldHeld.{told_by, delta_to, cells_posted, held_step, nothing_held}
use Rattle.cata_core.specs.WorldHeld.{held_after, held}
use Rattle.cata_core.specs.Answer.{IsAnswered, AreAnswers}
use Rattle.catalogue.specs.Clash.{IsFirstClash}
use Rattle.cata_core.specs.PlayFault.{IsNoClash}
use Rattle.cata_core.specs.inner.PlayFault.{RefusesStep}
use Rattle.catalogue.proofs.CatalogueMembersLemmas.{In, in_append_left, in_append_right}
use Rattle.catalogue.proofs.CatalogueMembersLemmas.{in_append_cases}
use Rattle.catalogue.proofs.CatalogueMembersLemmas.{Contains-from_in, in_filter}
use Rattle.catalogue.proofs.CatalogueBestLemmas.{best_in}
use Rattle.catalogue.proofs.CatalogueLemmas.{catalogue_of-IsMap, found_best}
use Rattle.catalogue.proofs.CatalogueJoinsLemmas.{joined_catalogue}
use Rattle.catalogue.proofs.CatalogueSettledLemmas.{settled_part, catalogue_of-one}
use Rattle.catalogue.proofs.ClashLemmas.{clash_not_agree}
use Rattle.catalogue.proofs.Basics.{some_same}
use Rattle.cata_core.proofs.DeltaLemmas.{nothing_lost, part_agrees}
use Rattle.cata_core.proofs.LatestTakenLemmas.{in_catalogue}
use Rattle.cata_core.proofs.SummaryLemmas.{has_told}
use Rattle.cata_core.proofs.RunsTakesLemmas.{grows}
use Rattle.cata_core.proofs.RunsMachineLemmas.{FaultFrom, HeldAnswersFrom, TakenAnswersFrom}
use Rattle.cata_core.proofs.RunsMachineLemmas.{taken_answers}

-- the same cells answer the same
pub same_answered : (of : ℕ → Entries) (with : ℕ → List Entry)
    → ((s : ℕ) → of s ≡ catalogue_of (with s)) → (step : Step) (answers : List Answer)
    → IsAnswered of step answers → IsAnswered (λ s. catalogue_of (with s)) step answers
same_answered of with same step answers h =
    subst (λ (cells : ℕ → Entries). IsAnswered cells step answers) (λ i s. same s i) h

module _ (all : List Entry) (consistent : IsConsistent all) where
  -- parts of consistent edits have catalogues that agree
  agree_parts : (xs ys : List Entry) → ((f : Entry) → In xs f → In all f)
      → ((f : Entry) → In ys f → In all f) → Agree (catalogue_of xs) (catalogue_of ys)
  agree_parts xs ys p q = inr (record {
    first = catalogue_of-IsMap xs;
    second = catalogue_of-IsMap ys;
    at = λ k. at_key k (find key_cmp k (catalogue_of xs)) (find key_cmp k (catalogue_of ys)) refl
        refl;
  })
    where
      at_key : (k : EntryKey) (a b : Option Cell) → find key_cmp k (catalogue_of xs) ≡ a
          → find key_cmp k (catalogue_of ys) ≡ b → AgreeIfBoth AgreeCells a b
      at_key k None b e f = tt
      at_key k (Some c) None e f = tt
      at_key k (Some c) (Some d) e f = λ stamps.
          let mine = p (k, c) (best_in xs k c (found_best xs k c e)) in
          let theirs = q (k, d) (best_in ys k d (found_best ys k d f)) in
          ap (λ x. x.label)
          (consistent k c d (Contains-from_in all (k, c) mine)
          (Contains-from_in all (k, d) theirs) stamps)

  -- a delta against what was told joins as the whole list would
  delta_joins : (own told sent : List Entry) → ((f : Entry) → In told f → In own f)
      → ((f : Entry) → In own f → In all f) → ((f : Entry) → In sent f → In all f)
      → joined (catalogue_of own) (delta_of (catalogue_of sent) (summary_of (catalogue_of told)))
      ≡ catalogue_of (own ++ sent)
  delta_joins own told sent within p q =
      nothing_lost (catalogue_of own) (catalogue_of sent) (summary_of (catalogue_of told))
      (agree_parts own sent p q) (has_told own told within)
      ∙ sym (joined_catalogue own sent
      (settled_part all (own ++ sent) consistent
      (λ f h. elim (in_append_cases own sent f h) as
      (λ _. In all f) [ inl a ↦ p f a | inr b ↦ q f b ])))

  whole_joins : (own sent : List Entry) → ((f : Entry) → In own f → In all f)
      → ((f : Entry) → In sent f → In all f)
      → joined (catalogue_of own) (catalogue_of sent) ≡ catalogue_of (own ++ sent)
  whole_joins own sent p q =
      sym (joined_catalogue own sent
      (settled_part all (own ++ sent) consistent
      (λ f h. elim (in_append_cases own sent f h) as
      (λ _. In all f) [ inl a ↦ p f a | inr b ↦ q f b ])))

  -- a summary is that of edits which its owner took
  record ToldMatches (of : ℕ → List Entry) (t : ToldStamps) (owner : ℕ) : Type 0 where
    edits : List Entry
    same : t.teller ≡ owner
    summary : t.stamps ≡ summary_of (catalogue_of edits)
    within : (f : Entry) → In edits f → In (of owner) f

  -- a post is a delta of what the sender had taken, against what the addressee told
  record PostMatches (of : ℕ → List Entry) (p : PostedCells) (q : PostedEdits) : Type 0 where
    told : List Entry
    same : p.addressee ≡ q.addressee
    cells : p.cells ≡ delta_of (catalogue_of q.edits) (summary_of (catalogue_of told))
    within : (f : Entry) → In told f → In (of q.addressee) f
    known : (f : Entry) → In q.edits f → In all f

  abbrev Each : {A B : Type 0} → (A → B → Type 0) → List A → List B → Type 0
  Each R [] [] = Unit {0}
  Each R [] (b ∷ bs) = ⊥
  Each R (a ∷ as') [] = ⊥
  Each R (a ∷ as') (b ∷ bs) = R a b × Each R as' bs

  abbrev Both : {A B : Type 0} → (A → B → Type 0) → Option A → Option B → Type 0
  Both R None None = Unit {0}
  Both R None (Some b) = ⊥
  Both R (Some a) None = ⊥
  Both R (Some a) (Some b) = R a b

  each_get : {A B : Type 0} (R : A → B → Type 0) (xs : List A) (ys : List B) (i : ℕ) → Each R xs ys
      → Both R (slice_get xs i) (slice_get ys i)
  each_get R [] [] i h = tt
  each_get R [] (y ∷ ys) i h = absurd h
  each_get R (x ∷ xs) [] i h = absurd h
  each_get R (x ∷ xs) (y ∷ ys) zero h = h.0
  each_get R (x ∷ xs) (y ∷ ys) (suc i) h = each_get R xs ys i h.1

  each_append : {A B : Type 0} (R : A → B → Type 0) (xs : List A) (ys : List B) (us : List A)
      (vs : List B) → Each R xs ys → Each R us vs → Each R (xs ++ us) (ys ++ vs)
  each_append R [] [] us vs h r = r
  each_append R [] (b ∷ ys) us vs h r = absurd h
  each_append R (a ∷ xs) [] us vs h r = absurd h
  each_append R (a ∷ xs) (b ∷ ys) us vs h r = (h.0, each_append R xs ys us vs h.1 r)

  each_weaker : {A B : Type 0} (R S : A → B → Type 0) → ((a : A) (b : B) → R a b → S a b)
      → (xs : List A) (ys : List B) → Each R xs ys → Each S xs ys
  each_weaker R S f [] [] h = tt
  each_weaker R S f [] (b ∷ ys) h = absurd h
  each_weaker R S f (a ∷ xs) [] h = absurd h
  each_weaker R S f (a ∷ xs) (b ∷ ys) h = (f a b h.0, each_weaker R S f xs ys h.1)

  -- what is held goes with what was taken
  record Goes (v : Held) (w : Taken) : Type 0 where
    sites : (s : ℕ) → v.of_site s ≡ catalogue_of (w.of_site s)
    known : (s : ℕ) (f : Entry) → In (w.of_site s) f → In all f
    told : Each (ToldMatches w.of_site) v.told w.tellers
    posts : Each (PostMatches w.of_site) v.posts w.posts

  -- cells that come in as the edits do: they agree with what is held, and join as the edits would
  record Comes (of : ℕ → List Entry) (c : ℕ × Entries) (d : ℕ × List Entry) : Type 0 where
    same : c.0 ≡ d.0
    known : (f : Entry) → In d.1 f → In all f
    agree : Agree (catalogue_of (of d.0)) c.1
    joins : joined (catalogue_of (of d.0)) c.1 ≡ catalogue_of (of d.0 ++ d.1)

  sites_go : (v : Held) (w : Taken) → Goes v w
      → (c : Option (ℕ × Entries)) (d : Option (ℕ × List Entry)) → Both (Comes w.of_site) c d
      → (s : ℕ) → joins v.of_site c s ≡ catalogue_of (takes w.of_site d s)
  sites_go v w g None None r s = g.sites s
  sites_go v w g None (Some d) r s = absurd r
  sites_go v w g (Some c) None r s = absurd r
  sites_go v w g (Some c) (Some d) r s =
      ap (λ q. if s == q then joined (v.of_site s) c.1 else v.of_site s) r.same
      ∙ elim (s == d.0) as
      (λ b. (s == d.0) ≡ b
      → (if b then joined (v.of_site s) c.1 else v.of_site s)
      ≡ catalogue_of (if b then w.of_site s ++ d.1 else w.of_site s)) [
        | true ↦ λ b.
            let here : s ≡ d.0 = eqb-true s d.0 b in
            ap (λ m. joined m c.1) (g.sites s)
            ∙ subst
            (λ q. joined (catalogue_of (w.of_site q)) c.1 ≡ catalogue_of (w.of_site q ++ d.1))
            (sym here) r.joins
        | false ↦ λ b. g.sites s
      ] refl

  known_go : (v : Held) (w : Taken) → Goes v w
      → (c : Option (ℕ × Entries)) (d : Option (ℕ × List Entry)) → Both (Comes w.of_site) c d
      → (s : ℕ) (f : Entry) → In (takes w.of_site d s) f → In all f
  known_go v w g None None r s f h = g.known s f h
  known_go v w g None (Some d) r s f h = absurd r
  known_go v w g (Some c) None r s f h = absurd r
  known_go v w g (Some c) (Some d) r s f h =
      (elim (s == d.0) as (λ b. In (if b then w.of_site s ++ d.1 else w.of_site s) f → In all f) [
        | true ↦
            λ h. elim (in_append_cases (w.of_site s) d.1 f h) as
            (λ _. In all f) [ inl a ↦ g.known s f a | inr b ↦ r.known f b ]
        | false ↦ λ h. g.known s f h
      ]) h

  -- a delta agrees with what the whole agrees with
  delta_agrees : (own sent told : List Entry) → ((f : Entry) → In own f → In all f)
      → ((f : Entry) → In sent f → In all f)
      → Agree (catalogue_of own) (delta_of (catalogue_of sent) (summary_of (catalogue_of told)))
  delta_agrees own sent told p q =
      part_agrees (catalogue_of own) (catalogue_of sent) (summary_of (catalogue_of told))
      (catalogue_of-IsMap own) (catalogue_of-IsMap sent) (agree_parts own sent p q)

  delivered_go : (v : Held) (w : Taken) → Goes v w
      → (p : Option PostedCells) (q : Option PostedEdits) → Both (PostMatches w.of_site) p q
      → Both (Comes w.of_site) (cells_delivered p) (edits_delivered q)
  delivered_go v w g None None r = tt
  delivered_go v w g None (Some q) r = absurd r
  delivered_go v w g (Some p) None r = absurd r
  delivered_go v w g (Some p) (Some q) r = record {
    same = r.same;
    known = r.known;
    agree =
        subst (Agree (catalogue_of (w.of_site q.addressee))) (sym r.cells)
        (delta_agrees (w.of_site q.addressee) q.edits r.told (g.known q.addressee) r.known);
    joins =
        ap (joined (catalogue_of (w.of_site q.addressee))) r.cells
        ∙ delta_joins (w.of_site q.addressee) r.told q.edits r.within (g.known q.addressee) r.known;
  }

  -- by each step what comes in comes as the edits do
  comes : (v : Held) (w : Taken) → Goes v w → (step : Step)
      → ((f : Entry) → In (edits_by step) f → In all f)
      → Both (Comes w.of_site) (cells_in v step) (edits_in w step)
  comes v w g (Edit site edit) in_es = record {
    same = refl;
    known = in_es;
    agree =
        subst (Agree (catalogue_of (w.of_site site))) (catalogue_of-one edit)
        (agree_parts (w.of_site site) (edit ∷ []) (g.known site) in_es);
    joins =
        ap (joined (catalogue_of (w.of_site site))) (sym (catalogue_of-one edit))
        ∙ whole_joins (w.of_site site) (edit ∷ []) (g.known site) in_es;
  }
  comes v w g (Merge into source) in_es = record {
    same = refl;
    known = g.known source;
    agree =
        subst (Agree (catalogue_of (w.of_site into))) (sym (g.sites source))
        (agree_parts (w.of_site into) (w.of_site source) (g.known into) (g.known source));
    joins =
        ap (joined (catalogue_of (w.of_site into))) (g.sites source)
        ∙ whole_joins (w.of_site into) (w.of_site source) (g.known into) (g.known source);
  }
  comes v w g (Deliver post) in_es =
      delivered_go v w g (slice_get v.posts post) (slice_get w.posts post)
      (each_get (PostMatches w.of_site) v.posts w.posts post g.posts)
  comes v w g _ in_es = tt

  told_go : (v : Held) (w : Taken) → Goes v w → (step : Step)
      → Each (ToldMatches w.of_site) (told_by v step) (tellers_by step)
  told_go v w g (Tell site) = (
    record {
      edits = w.of_site site;
      same = refl;
      summary =
          ap summary_of (g.sites site);
      within = λ f h. h;
    },
    tt,
  )
  told_go v w g _ = tt

  post_go : (v : Held) (w : Taken) → Goes v w → (site : ℕ) (t : Option ToldStamps) (o : Option ℕ)
      → Both (ToldMatches w.of_site) t o
      → Each (PostMatches w.of_site) (delta_to (v.of_site site) t) (post_to (w.of_site site) o)
  post_go v w g site None None r = tt
  post_go v w g site None (Some owner) r = absurd r
  post_go v w g site (Some t) None r = absurd r
  post_go v w g site (Some t) (Some owner) r = (
    record {
      told = r.edits;
      same = r.same;
      cells =
          (λ i. delta_of (g.sites site i) (r.summary i));
      within = r.within;
      known = g.known site;
    },
    tt,
  )

  posts_go : (v : Held) (w : Taken) → Goes v w → (step : Step)
      → Each (PostMatches w.of_site) (cells_posted v step) (edits_posted w step)
  posts_go v w g (Post site told) =
      post_go v w g site (slice_get v.told told) (slice_get w.tellers told)
      (each_get (ToldMatches w.of_site) v.told w.tellers told g.told)
  posts_go v w g _ = tt

  goes_step : (v : Held) (w : Taken) → Goes v w → (step : Step)
      → ((f : Entry) → In (edits_by step) f → In all f)
      → Goes (held_step v step) (taken_step w step)
  goes_step v w g step in_es =
      let r = comes v w g step in_es in
      let d = edits_in w step in
      record {
        sites = sites_go v w g (cells_in v step) d r;
        known = known_go v w g (cells_in v step) d r;
        told = each_weaker (ToldMatches w.of_site) (ToldMatches (takes w.of_site d))
            (λ t owner m.
            record {
              edits = m.edits;
              same = m.same;
              summary = m.summary;
              within =
                  λ f h. grows w.of_site d owner f (m.within f h);
            })
            (v.told ++ told_by v step) (w.tellers ++ tellers_by step)
            (each_append (ToldMatches w.of_site) v.told w.tellers (told_by v step)
            (tellers_by step) g.told (told_go v w g step));
        posts = each_weaker (PostMatches w.of_site) (PostMatches (takes w.of_site d))
            (λ p q m.
            record {
              told = m.told;
              same = m.same;
              cells = m.cells;
              within =
                  λ f h. grows w.of_site d q.addressee f (m.within f h);
              known = m.known;
            })
            (v.posts ++ cells_posted v step) (w.posts ++ edits_posted w step)
            (each_append (PostMatches w.of_site) v.posts w.posts (cells_posted v step)
            (edits_posted w step) g.posts (posts_go v w g step));
      }

  goes_after : (v : Held) (w : Taken) → Goes v w → (steps : List Step)
      → ((f : Entry) → In (edits_of steps) f → In all f)
      → Goes (held_after v steps) (taken_after w steps)
  goes_after v w g [] in_es = g
  goes_after v w g (step ∷ steps) in_es =
      goes_after (held_step v step) (taken_step w step)
      (goes_step v w g step
      (λ f h. in_es f (in_append_left (edits_by step) (edits_of steps) f h)))
      steps (λ f h. in_es f (in_append_right (edits_by step) (edits_of steps) f h))

  same_answers : (v : Held) (w : Taken) → Goes v w → (steps : List Step)
      → ((f : Entry) → In (edits_of steps) f → In all f) → (answers : List Answer)
      → HeldAnswersFrom v steps answers → TakenAnswersFrom w steps answers
  same_answers v w g [] in_es answers h = h
  same_answers v w g (step ∷ steps) in_es answers h =
      let goes =
      goes_step v w g step
      (λ f h. in_es f (in_append_left (edits_by step) (edits_of steps) f h)) in (
        h.0,
        h.1,
        h.2,
        same_answered v.of_site w.of_site g.sites step h.0 h.3,
        same_answers (held_step v step) (taken_step w step) goes steps
            (λ f h. in_es f (in_append_right (edits_by step) (edits_of steps) f h)) h.1 h.4,
      )

  clash_free : (v : Held) (w : Taken) → Goes v w
      → (o : Option (ℕ × Entries)) (d : Option (ℕ × List Entry)) → Both (Comes w.of_site) o d
      → (place : ℕ) (stamp : Stamp)
      → IsSomeAnd o (λ c. IsFirstClash key_cmp (v.of_site c.0) c.1 place stamp) → ⊥
  clash_free v w g None d r place stamp h = h
  clash_free v w g (Some c) None r place stamp h = absurd r
  clash_free v w g (Some c) (Some d) r place stamp h =
      let own : v.of_site c.0 ≡ catalogue_of (w.of_site d.0) =
      g.sites c.0 ∙ ap (λ q. catalogue_of (w.of_site q)) r.same in
      clash_not_agree (catalogue_of (w.of_site d.0)) c.1 place stamp
      (catalogue_of-IsMap (w.of_site d.0))
      (subst (λ m. IsFirstClash key_cmp m c.1 place stamp) own h) r.agree

  no_clash_now : (sites : ℕ) (v : Held) (w : Taken) → Goes v w → (n : ℕ) (step : Step)
      → ((f : Entry) → In (edits_by step) f → In all f) → (fault : PlayFault)
      → RefusesStep sites v n step fault → IsNoClash fault
  no_clash_now sites v w g n step in_es (NoSuchSite at) h = tt
  no_clash_now sites v w g n step in_es (NoSuchPost at) h = tt
  no_clash_now sites v w g n step in_es (StampReused at place stamp) h =
      clash_free v w g (cells_in v step) (edits_in w step) (comes v w g step in_es) place stamp
      h.1.1.1
  no_clash_now sites v w g n step in_es NoMemory h = tt

  no_clash_in : (sites : ℕ) (v : Held) (w : Taken) → Goes v w → (n : ℕ) (steps : List Step)
      → ((f : Entry) → In (edits_of steps) f → In all f) → (fault : PlayFault)
      → FaultFrom sites v n steps fault → IsNoClash fault
  no_clash_in sites v w g n [] in_es fault h = subst IsNoClash (sym h) tt
  no_clash_in sites v w g n (step ∷ steps) in_es fault h =
      let first =
      λ (f : Entry) (k : In (edits_by step) f). in_es f
      (in_append_left (edits_by step) (edits_of steps) f k) in
      elim h as (λ _. IsNoClash fault) [
        | inl now ↦ no_clash_now sites v w g n step first fault now
        | inr later ↦
            no_clash_in sites (held_step v step) (taken_step w step) (goes_step v w g step first)
            (n + 1) steps (λ f k. in_es f (in_append_right (edits_by step) (edits_of steps) f k))
            fault later.1
      ]

  start : Goes nothing_held nothing_taken
  start = record { sites = λ s. refl; known = λ s f h. absurd h; told = tt; posts = tt }

  post_known : (of : ℕ → List Entry) (p : Option PostedCells) (q : Option PostedEdits)
      → Both (PostMatches of) p q → (c : ℕ × Entries) → cells_delivered p ≡ Some c → (e : Entry)
      → In c.1 e → In all e
  post_known of None q r c is e h = absurd (cc)
  post_known of (Some p) None r c is e h = absurd r
  post_known of (Some p) (Some q) r c is e h =
      let cells : c.1 ≡ delta_of (catalogue_of q.edits) (summary_of (catalogue_of r.told)) =
      sym (ap (λ (x : ℕ × Entries). x.1) (some_same (p.addressee, p.cells) c is)) ∙ r.cells in
      let sent =
      in_filter
      (λ (d : Entry). is_missing (find key_cmp d.0 (summary_of (catalogue_of r.told))) d.1.stamp)
      (catalogue_of q.edits) e (subst (λ es. In es e) cells h) in
      r.known e (in_catalogue q.edits e sent.0)

  -- what a delta brings are edits
  pub brought_known : (steps : List Step) → ((f : Entry) → In (edits_of steps) f → In all f)
      → (post : ℕ) (c : ℕ × Entries)
      → cells_in (held_after nothing_held steps) (Deliver post) ≡ Some c → (e : Entry)
      → In c.1 e → In all e
  brought_known steps in_es post c is e h =
      let v = held_after nothing_held steps in
      let w = taken_after nothing_taken steps in
      let g = goes_after nothing_held nothing_taken start steps in_es in
      post_known w.of_site (slice_get v.posts post) (slice_get w.posts post)
      (each_get (PostMatches w.of_site) v.posts w.posts post g.posts) c is e h

-- with consistent edits, whatever is delivered, a site holds the catalogue of what it took
pub held_is_catalogue : (steps : List Step) → IsConsistent (edits_of steps) → (site : ℕ)
    → held steps site ≡ catalogue_of (taken steps site)
held_is_catalogue steps consistent site =
    let end =
    goes_after (edits_of steps) consistent nothing_held nothing_taken
    (start (edits_of steps) consistent) steps (λ f h. h) in
    end.sites site

-- with consistent edits what is held answers as what was taken
pub consistent_answers : (steps : List Step) → IsConsistent (edits_of steps)
    → (answers : List Answer) → HeldAnswersFrom nothing_held steps answers
    → AreAnswers steps answers
consistent_answers steps consistent answers h =
    taken_answers steps answers
    (same_answers (edits_of steps) consistent nothing_held nothing_taken
    (start (edits_of steps) consistent) steps (λ f h. h) answers h)

-- with consistent edits no step clashes
pub consistent_no_clash : (sites : ℕ) (steps : List Step) → IsConsistent (edits_of steps)
    → (fault : PlayFault) → FaultFrom sites nothing_held 0 steps fault → IsNoClash fault
consistent_no_clash sites steps consistent =
    no_clash_in (edits_of steps) consistent sites nothing_held nothing_taken
    (start (edits_of steps) consistent) 0 steps (λ f h. h)
