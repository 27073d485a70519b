-- What two sides that agree have heard of each other.
use Rattle.std.proofs.Common.{List, sym, subst}
use Rattle.plain_lists.specs.Fronts.{IsFront}
use Rattle.plain_lists.proofs.FrontLemmas.{IsFront-take}
use Rattle.wp_outside.specs.declared.kinds.Side.{Side}
use Rattle.transfer_frames.specs.declared.frame.Frame.{Frame}
use Rattle.half_model.specs.PairLaws.{Hears}
use Rattle.half_model.specs.Story.{accepted_in}
use Rattle.pair_model.specs.Laws.{AcceptedFirst, KeepsRest}
use Rattle.pair_model.specs.Lines.{SideRecord}
use Rattle.pair_model.specs.Wire.{Accepts}
use Rattle.pair_model.proofs.Once.{each_once, none_lost}
use Rattle.pair_laws.specs.Auditing.{Audited, EachHeard}
use Rattle.pair_laws.specs.Pairs.{OneSide, Joined, link_of}

-- the other way round
abbrev pub swapped : {one_side other_side : Side} {one other : OneSide} → Joined one_side other_side one other → Joined other_side one_side other one
swapped both = record { one_law = both.other_law; other_law = both.one_law; agrees = record { up = both.agrees.down; down = both.agrees.up } }

heard_first : (reader writer : SideRecord) (accepted : List Frame) → AcceptedFirst reader writer → Accepts reader accepted → IsFront accepted writer.made
heard_first reader writer accepted first accepts =
    subst (λ (fs : List Frame). IsFront fs writer.made) (sym (first.frames accepted accepts)) (IsFront-take reader.accepted writer.made)

pub each_heard : Audited
each_heard one_side other_side one other both =
    let here : SideRecord = link_of one_side one both.one_law in
    let there : SideRecord = link_of other_side other both.other_law in
    let first : AcceptedFirst there here × AcceptedFirst here there = each_once one.token other.token here there both.one_law.wire both.other_law.wire both.agrees in
    let rest : KeepsRest here there × KeepsRest there here = none_lost one.token other.token here there both.one_law.wire both.other_law.wire both.agrees in
    record {
      one_heard = heard_first here there (accepted_in both.one_law.story) first.1 both.one_law.heard;
      other_heard = heard_first there here (accepted_in both.other_law.story) first.0 both.other_law.heard;
      one_knows = rest.0.known;
      other_knows = rest.1.known;
    }

-- in the words of their stories
pub other_hears : {one_side other_side : Side} {one other : OneSide} (both : Joined one_side other_side one other) → Hears both.other_law.story both.one_law.story
other_hears {one_side} {other_side} {one} {other} both =
    let h : EachHeard one_side other_side one other both = each_heard one_side other_side one other both in
    subst (λ (fs : List Frame). IsFront (accepted_in both.other_law.story) fs) both.one_law.tells.made h.other_heard

pub one_hears : {one_side other_side : Side} {one other : OneSide} (both : Joined one_side other_side one other) → Hears both.one_law.story both.other_law.story
one_hears {one_side} {other_side} {one} {other} both =
    let h : EachHeard one_side other_side one other both = each_heard one_side other_side one other both in
    subst (λ (fs : List Frame). IsFront (accepted_in both.one_law.story) fs) both.other_law.tells.made h.one_heard
