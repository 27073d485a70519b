-- Where a near and a far side of one session agree, a frame is refused only for its messages.
use Rattle.std.proofs.Common.{◌≡◌, ℕ, ◌≤◌, Bool, true, false, List, [], ◌∷◌, ◌++◌, Option, Some, None, length, sum_by, refl, sym, ap, subst, ◌∙◌, arith}
use Rattle.std.proofs.lemmas.Bool.{false≢true}
use Rattle.std.proofs.lemmas.List.Sums.{sum_by-append}
use Rattle.plain_lists.specs.Fronts.{IsFront}
use Rattle.wp_outside.specs.declared.kinds.Side.{Side}
use Rattle.wp_outside.specs.declared.kinds.Side.TheVariants.{Near, Far}
use Rattle.transfer_frames.specs.declared.cause.FrameCause.{FrameCause}
use Rattle.transfer_frames.specs.declared.frame.Frame.{Frame}
use Rattle.transfer_frames.specs.declared.frame.Frame.TheVariants.{Ack, Restart}
use Rattle.transfer_frames.specs.Grammar.{role}
use Rattle.half_model.specs.Content.{Taking, content_fault}
use Rattle.half_model.specs.PairLaws.{MayRefuse}
use Rattle.half_model.specs.Sides.{other_side}
use Rattle.half_model.specs.Story.{accepted_in, made_in}
use Rattle.half_model.specs.StoryLaws.{now}
use Rattle.half_model.specs.Tables.{Tables}
use Rattle.half_model.proofs.ContentLaws.{content_is_fine}
use Rattle.half_model.proofs.Made.{made_is_good}
use Rattle.pair_model.specs.Laws.{Countable}
use Rattle.pair_model.specs.LinkFaults.{ClosesLast}
use Rattle.pair_model.specs.Lines.{SideRecord, Stop}
use Rattle.pair_model.specs.Refusals.{ContentRefused}
use Rattle.pair_model.specs.Rows.{is_counted}
use Rattle.pair_model.specs.Wire.{Wire}
use Rattle.pair_model.proofs.Rows.{spelling_long}
use Rattle.pair_model.proofs.Seen.{one_accepted}
use Rattle.pair_model.proofs.Unspoiling as links
use Rattle.side_model.specs.declared.fault.ProxyFault.{ProxyFault}
use Rattle.side_model.specs.declared.fault.ProxyFault.TheVariants as faults
use Rattle.side_model.specs.Books.{TrailRecord, weight, spelled}
use Rattle.side_model.specs.Records.{FrameStop, StopsBy, content_in}
use Rattle.pair_laws.specs.Pairs.{OneSide, IsLawful, Sends, link_of}
use Rattle.pair_laws.specs.Refusing.{OnlyByMessages, Unspoiled}
use Rattle.pair_laws.proofs.Auditing.{swapped, one_hears}

-- ---- a side makes few frames, and none behind CLOSE

few_frames : (frames : List Frame) → length frames ≤ sum_by spelled frames
few_frames [] = omega arith
few_frames (frame ∷ frames) =
    omega (arith, few_frames frames, spelling_long frame, sum_by-append spelled (frame ∷ []) frames)

few_made : (trail : TrailRecord) → length trail.made ≤ weight trail
unfolding weight
few_made trail = omega (arith, few_frames trail.made)

pub countable : (side : Side) (it : OneSide) (law : IsLawful side it) → Countable (link_of side it law)
countable side it law = record {
  closes = subst (λ (fs : List Frame). ClosesLast fs) (sym law.tells.made) (made_is_good.last side law.story law.log);
  most = omega (arith, few_made it.book.trail, law.weighs);
}

-- ---- a frame that is refused

uncounted_fine : (tables : Tables) (taking : Taking) (frame : Frame) → is_counted (role frame) ≡ false → content_fault tables taking frame ≡ None
uncounted_fine tables taking (Ack count) e = refl
uncounted_fine tables taking (Restart token connection received) e = refl
uncounted_fine tables taking _ e = absurd (false≢true (sym e))

module _ (side : Side) (sender hearer : OneSide) (both : Sends side sender hearer) (cause : FrameCause)
    (h : ContentRefused (λ accepted. content_in (now (other_side side) both.other_law.story)) (link_of (other_side side) hearer both.other_law) (link_of side sender both.one_law) cause) where
  -- it is the next one that the sender made
  counted_fine : is_counted (role h.frame) ≡ true → MayRefuse (Some cause)
  counted_fine e =
      let front : IsFront (h.accepted ++ h.frame ∷ []) sender.book.trail.made = h.is_next e in
      let same : h.accepted ≡ accepted_in both.other_law.story =
      h.accepts.frames_are ∙ one_accepted h.accepts.sees both.other_law.heard.sees ∙ sym both.other_law.heard.frames_are in
      let made : made_in both.one_law.story ≡ accepted_in both.other_law.story ++ h.frame ∷ front.rest =
      sym both.one_law.tells.made ∙ sym front.is ∙ ap (λ (fs : List Frame). (fs ++ h.frame ∷ []) ++ front.rest) same ∙ joined (accepted_in both.other_law.story) front.rest in
      subst (λ (c : Option FrameCause). MayRefuse c) h.refuses
      (content_is_fine side both.one_law.story both.other_law.story h.frame front.rest both.one_law.log both.other_law.log made (one_hears both))
    where
      joined : (xs ys : List Frame) → (xs ++ h.frame ∷ []) ++ ys ≡ xs ++ h.frame ∷ ys
      joined [] ys = refl
      joined (x ∷ xs) ys = ap (λ (fs : List Frame). x ∷ fs) (joined xs ys)

  refused_fine : MayRefuse (Some cause)
  refused_fine = by (is_counted (role h.frame)) refl
    where
      by : (b : Bool) → is_counted (role h.frame) ≡ b → MayRefuse (Some cause)
      by true e = counted_fine e
      by false e =
          let state = now (other_side side) both.other_law.story in
          let none : content_fault state.tables state.taking h.frame ≡ None = uncounted_fine state.tables state.taking h.frame e in
          let never : Some cause ≡ None = sym h.refuses ∙ none in
          absurd cc

-- ---- a side that stopped for a frame

stopped_fine : (side : Side) (sender hearer : OneSide) (both : Sends side sender hearer) → sender.token ≡ hearer.token
    → (connection place : ℕ) (cause : FrameCause) → hearer.fault ≡ Some (faults.Frame connection place cause) → MayRefuse (Some cause)
stopped_fine side sender hearer both same connection place cause e =
    let reader : SideRecord = link_of (other_side side) hearer both.other_law in
    let writer : SideRecord = link_of side sender both.one_law in
    let state = now (other_side side) both.other_law.story in
    let stops : FrameStop connection place cause state hearer.token reader both.other_law.stop =
    subst (λ (f : Option ProxyFault). StopsBy f state hearer.token reader both.other_law.stop) e both.other_law.stops in
    let stop : Stop = record { connection = connection; place = stops.exact; cause = Some cause } in
    let wire : Wire hearer.token writer = subst (λ (t : List ℕ). Wire t writer) same both.one_law.wire in
    let back = swapped both in
    refused_fine side sender hearer both cause
    (links.unspoiled (λ accepted. content_in state) hearer.token reader writer stop cause both.other_law.wire wire back.agrees (countable side sender both.one_law) stops.refused refl)

only_by_messages : (side : Side) (sender hearer : OneSide) (both : Sends side sender hearer) → sender.token ≡ hearer.token
    → (fault : Option ProxyFault) → hearer.fault ≡ fault → OnlyByMessages fault
only_by_messages side sender hearer both same None e = tt
only_by_messages side sender hearer both same (Some (faults.Frame connection place cause)) e = stopped_fine side sender hearer both same connection place cause e
only_by_messages side sender hearer both same (Some (faults.Peer index cause)) e = tt
only_by_messages side sender hearer both same (Some (faults.Limit which)) e = tt
only_by_messages side sender hearer both same (Some faults.Memory) e = tt

pub unspoiled : Unspoiled
unspoiled near far pair same = (
  only_by_messages Far far near (swapped pair) (sym same) near.fault refl,
  only_by_messages Near near far pair same far.fault refl,
)
