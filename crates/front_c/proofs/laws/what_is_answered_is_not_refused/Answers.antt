use Rattle.std.proofs.Common.{◌⊎◌, List, Option, inl, inr}
use Rattle.front_core.proofs.AskStages.{filter_stage, in_turn, language_stage, lookup_stage}
use Rattle.front_core.proofs.AskStages.{offer_stage, outdated_stage, pick_stage, reader_stage}
use Rattle.front_core.proofs.AskStages.{seen_as, tag_filter_stage, tags_stage}
use Rattle.front_core.specs.Fault.{IsOf, language_fault}
use Rattle.front_core.specs.Offering.{HasOffer}
use Rattle.front_core.specs.Preferences.{FieldText, HasDefault, HasList, Text}
use Rattle.front_core.specs.Reader.{RefusesReader}
use Rattle.front_core.specs.TagPick.{IsPickedTag}
use Rattle.front_core.specs.Tags.{RefusesTags, offered_tags}
use Rattle.front_core.specs.declared.tag_pick.Picked.{Picked}
use Rattle.front_core.specs.declared.tag_pick.Picked.TheVariants as picked
use Rattle.front_core.proofs.OpenSiteStages.{delete_apart, delete_one, import_apart, import_one}
use Rattle.front_core.proofs.OpenSiteStages.{merge_apart, merge_one, put_apart, put_one}
use Rattle.front_core.proofs.OpenSiteStages.{take_apart, take_one, update_apart, update_one}
use Rattle.front_c.proofs.laws.what_is_answered_is_not_refused.Goals as goal

pub returns-clause-put : goal.returns-clause-put
returns-clause-put c = λ now id lang text old. record {
  apart = λ fault n made why. put_apart now id lang text old made.0 fault n made.1 why;
  one = put_one now id lang text old;
}

pub returns-clause-delete : goal.returns-clause-delete
returns-clause-delete c = λ now id lang old. record {
  apart = λ fault n made why. delete_apart now id lang old made.0 fault n made.1 why;
  one = delete_one now id lang old;
}

pub returns-clause-merge : goal.returns-clause-merge
returns-clause-merge c = λ other checks old map. record {
  apart = λ fault n made why. merge_apart other checks old made.0 fault map n made.1 why;
  one = merge_one other checks old;
}

pub returns-clause-take : goal.returns-clause-take
returns-clause-take c = λ bytes checks old map. record {
  apart = λ fault n made why. take_apart bytes checks old made.0 fault map n made.1 why;
  one = take_one bytes checks old;
}

pub returns-clause-import : goal.returns-clause-import
returns-clause-import c = λ now maps old. record {
  apart = λ fault n made why. import_apart now maps old made.0 fault n made.1 why;
  one = import_one now maps old;
}

pub returns-clause-update : goal.returns-clause-update
returns-clause-update c = λ now old new site. record {
  apart = λ fault n made why. update_apart now old new site made.0 fault n made.1 why;
  one = update_one now old new site;
}

pub returns-clause-lookup : goal.returns-clause-lookup
returns-clause-lookup c = λ id offers field word.
    seen_as
    (λ q. let asked = q.0 in let is = q.1 in let reader = is.2 in let preferences = reader.1 in (
      is.0,
      (
        (asked.reader.preferences.default, preferences.1),
        ((asked.reader.offer, reader.0), (asked.reader.preferences.list, preferences.0)),
      ),
    ))
    (λ fault why. why) (lookup_stage id offers field word)

pub returns-clause-filter : goal.returns-clause-filter
returns-clause-filter c = λ id offers field.
    seen_as
    (λ q. let asked = q.0 in let is = q.1 in
    (is.0, ((asked.offer, is.4), (asked.list, is.3))))
    (λ fault why. why) (filter_stage id offers field)

pub returns-clause-bundle : goal.returns-clause-bundle
returns-clause-bundle c = λ offers field word.
    seen_as
    (λ q. let asked = q.0 in let is = q.1 in let preferences = is.1 in (
      (asked.preferences.default, preferences.1),
      ((asked.offer, is.0), (asked.preferences.list, preferences.0)),
    ))
    (λ fault why. why) (reader_stage offers field word)

pub returns-clause-missing : goal.returns-clause-missing
returns-clause-missing c = λ word.
    seen_as (λ q. let asked = q.0 in (asked.lang, q.1)) (λ fault why. why) (language_stage word)

pub returns-clause-outdated : goal.returns-clause-outdated
returns-clause-outdated c = λ word other.
    seen_as
    (λ q. let asked = q.0 in let is = q.1 in ((asked.lang, is.0), (asked.source, is.1)))
    (λ fault why. why) (outdated_stage word other)

pub returns-clause-pick : goal.returns-clause-pick
returns-clause-pick c = λ field default tags.
    seen_as
    (λ made. let is = made.1 in let picked = is.1 in (
      ((picked.default, picked.default_ok), (picked.list, picked.list_ok)),
      (picked.langs, picked.langs_ok),
    ))
    (λ fault why. why) (pick_stage field default tags)

pub returns-clause-tags : goal.returns-clause-tags
returns-clause-tags c = λ field tags.
    seen_as
    (λ q. let is = q.1 in let taken = is.2 in
    ((taken.list, taken.list_ok), (is.0, taken.langs_ok)))
    (λ fault why. why) (tag_filter_stage field tags)

-- what is picked has a default and a list
read_for : (field : FieldText) (word : Option Text) (tags : List Text) (tag : Picked)
    → IsPickedTag field word tags tag → HasDefault word × HasList field
read_for field word tags (picked.Matched tag) h =
    ((h.1.default, h.1.default_ok), (h.1.list, h.1.list_ok))
read_for field word tags (picked.Default tag) h =
    ((h.1.default, h.1.default_ok), (h.1.list, h.1.list_ok))
read_for field word tags picked.Nothing h =
    ((h.default, h.default_ok), (h.list, h.list_ok))

pub returns-clause-offered_pick : goal.returns-clause-offered_pick
returns-clause-offered_pick c = λ offers field default tags.
    seen_as
    (λ made.
    let is = made.1 in
    let read = read_for field default (offered_tags is.1.0 tags) made.0 is.1.2 in
    ((read.0, ((is.1.0, is.1.1), read.1)), is.0))
    (λ fault why. elim why as (λ _. RefusesReader offers field default fault
    ⊎ ((HasDefault default × (HasOffer offers × HasList field))
    × IsOf language_fault (RefusesTags tags) fault)) [
      | inl r ↦ inl r
      | inr r ↦ inr ((r.0.1.0, (r.0.0, r.0.1.1)), r.1)
    ])
    (in_turn (reader_stage offers field default) (tags_stage tags))

pub returns-clause-offered_tags : goal.returns-clause-offered_tags
returns-clause-offered_tags c = λ offers field tags.
    seen_as
    (λ q. let is = q.1 in let taken = is.1.2.2 in
    ((is.1.0, is.1.1), ((taken.list, taken.list_ok), is.0)))
    (λ fault why. why) (in_turn (offer_stage offers) (tag_filter_stage field tags))
