use Rattle.serde_json.specs.Data.{no_members}
use Rattle.json_docs.proofs.ObjectLastMemberLemmas.{last_counts}
use Rattle.json_docs.proofs.laws.the_last_member_counts.Goals as goal

pub returns : goal.returns
returns c name value before after d read v n h =
    last_counts name value before after d no_members read v n h
