use Rattle.std.proofs.Common.{◌≡◌, ◌<◌, ◌∙◌, [], ap, sym, subst, refl, length, arith}
use Rattle.std.specs.Prelude.{All}
use Rattle.cata_core.specs.Delta.{summary_of}
use Rattle.cata_core.specs.Summary.{SummaryState}
use Rattle.cata_core.specs.WorldHeld.{ToldStamps}
use Rattle.cata_core.specs.inner.World.{at_sites}
use Rattle.catalogue.proofs.Basics.{append_nil}
use Rattle.cata_core.proofs.WorldLemmas.{told_step, told_addressed, at_site, named_one}
use Rattle.cata_core.proofs.runs.world.World.tell.Goals as goal

-- The step is sound, since the site is there; its summary is told, by a teller that is a site, and
-- nothing is answered.
pub returns-clause-ok : goal.returns-clause-ok
returns-clause-ok c =
    let w = c.args.self.now in
    let xs = w.sites.items in
    let there : c.args.site < length xs = omega (arith, c.if-site-len.false, c.len.ensures) in
    let t = c.new.result in
    let told_is : t
    ≡ record { teller = c.args.site; stamps = summary_of (at_sites xs c.args.site) } =
    c.new.ensures
    ∙ (λ i.
    record {
      teller = c.args.site;
      stamps =
          (ap (λ (x : SummaryState). x.stamps) c.in_ok-summary.ensures
          ∙ ap summary_of (at_site xs c.args.site c.index.result.now there c.index.ensures)) i;
    }) in
    record {
      sound =
          record {
            sites_there = named_one (length xs) c.args.site there;
            posts_there = tt;
            agrees =
                tt;
          };
      held =
          ap (λ ts. record { of_site = at_sites xs; told = ts; posts = w.posts.items })
          c.in_ok-push.ensures.items
          ∙ told_step (at_sites xs) w.told.items w.posts.items c.args.site t told_is;
      answered = [];
      answers = sym (append_nil w.answers.items);
      are_answers = refl;
      sites = refl;
      addressed = record {
        few = c.requires.few;
        told = subst (λ ts. All (λ q. q.teller < length xs) ts) (sym c.in_ok-push.ensures.items)
            (told_addressed (length xs) w.told.items t c.requires.told
            (subst (λ (q : ToldStamps). q.teller < length xs) (sym told_is) there));
        posts = c.requires.posts;
      };
    }
