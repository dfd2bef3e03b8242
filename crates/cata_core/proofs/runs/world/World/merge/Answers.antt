use Rattle.std.proofs.Common.{◌∙◌, ◌<◌, ap, sym, subst, inl, refl, [], length, arith, rules}
use Rattle.std.proofs.lemmas.List.{get_or-set_other, length-set}
use Rattle.catalogue.specs.Entries.{Agree, joined}
use Rattle.cata_core.specs.inner.World.{held_in, at_sites}
use Rattle.catalogue.proofs.Basics.{append_nil}
use Rattle.cata_core.proofs.WorldLemmas.{merged_self, merged, at_site, named_two}
use Rattle.cata_core.proofs.runs.world.World.merge.Goals as goal

-- A site that merges itself: its cells agree with themselves and join to themselves, so all is as
-- it was.
pub returns-then-into-source-clause-ok : goal.returns-then-into-source-clause-ok
returns-then-into-source-clause-ok c =
    let w = c.args.self.now in
    let xs = w.sites.items in
    let into_there : c.args.into < length xs = omega (arith, c.if-into-len.false, c.len.ensures) in
    let there : c.args.source < length xs =
    omega (arith, c.if-source-len.false, c.len-else-into-len.ensures) in
    record {
      sound =
          record {
            sites_there =
                named_two (length xs) c.args.into c.args.source into_there there;
            posts_there =
                tt;
            agrees = inl (ap (at_sites xs) c.if-into-source.true);
          };
      held = merged_self (held_in w) c.args.into c.args.source c.if-into-source.true;
      answered = [];
      answers = sym (append_nil w.answers.items);
      are_answers = refl;
      sites = refl;
      addressed = record { few = c.requires.few; told = c.requires.told; posts = c.requires.posts };
    }

-- The step is sound, since both sites are there and agree; the one holds the join with the other's
-- cells, all else is as it was, and nothing is answered.
pub returns-clause-ok : goal.returns-clause-ok
returns-clause-ok c =
    let w = c.args.self.now in
    let xs = w.sites.items in
    let theirs = c.index.result.now in
    let gap = c.replace-own.new.dest in
    let into_there : c.args.into < length xs = omega (arith, c.if-into-len.false, c.len.ensures) in
    let there : c.args.source < length xs =
    omega (arith, c.if-source-len.false, c.len-else-into-len.ensures) in
    let own_is =
    c.replace-own.ensures.value
    ∙ at_site xs c.args.into c.index_mut.result.now into_there c.index_mut.ensures.value in
    let theirs_is =
    at_site xs c.args.source theirs there
    (c.index.ensures
    ∙ get_or-set_other xs c.args.into c.args.source gap theirs
    (λ e. c.if-into-source.false (sym e))) in
    record {
      sound = record {
        sites_there = named_two (length xs) c.args.into c.args.source into_there there;
        posts_there = tt;
        agrees =
            subst (λ a. Agree a (at_sites xs c.args.source)) own_is
            (subst (Agree c.replace-own.result) theirs_is c.in_ok-take_in.ensures.agree);
      };
      held =
          merged xs w.told.items w.posts.items c.args.into c.args.source gap c.take_in.new.own
          theirs into_there theirs_is
          (c.in_ok-take_in.ensures.ok ∙ ap (λ x. joined x theirs) own_is);
      answered = [];
      answers = sym (append_nil w.answers.items);
      are_answers = refl;
      sites = search (rules, length-set);
      addressed = record { few = c.requires.few; told = c.requires.told; posts = c.requires.posts };
    }
