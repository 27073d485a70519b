-- Wherever a proxy stops, its records are lawful.
use Rattle.std.proofs.Common.{◌≡◌, ℕ, ◌≤◌, List, ◌++◌, Ok, Err, Option, Some, None, Bool, length, refl, sym, ap, subst, ◌∙◌, inl, inr, ◌⊎◌}
use Rattle.std.specs.Option.{MatchOption}
use Rattle.transfer_frames.specs.declared.frame.Frame.{Frame}
use Rattle.transfer_frames.specs.Front.{front}
use Rattle.transfer_frames.specs.Grammar.{role, IsFrame, spelling}
use Rattle.transfer_frames.specs.Numbers.{IsBytes}
use Rattle.transfer_frames.proofs.FrontLaws.{front-is_frame}
use Rattle.half_model.specs.declared.causes.HalfFault.{HalfFault}
use Rattle.half_model.specs.declared.causes.HalfFault.TheVariants as halves
use Rattle.half_model.specs.Content.{content_fault}
use Rattle.half_model.specs.Group.{Owed}
use Rattle.half_model.specs.Log.{LogState, MayMake}
use Rattle.half_model.specs.Story.{accepted_in}
use Rattle.half_model.specs.StoryLaws.{now, IsFit}
use Rattle.half_model.proofs.Made.{groups_fit}
use Rattle.pair_model.specs.Lines.{SideRecord}
use Rattle.pair_model.specs.LinkFaults.{Judge, link_fault}
use Rattle.pair_model.specs.Refusals.{RefusedFrame, first_cause}
use Rattle.pair_model.specs.RingState.{ring_made}
use Rattle.pair_model.specs.Steps.{Here, judge_here, place_here}
use Rattle.pair_model.proofs.Heards.{heard_stopped, here_place, stopped_refused}
use Rattle.pair_model.proofs.RingProofs.{made_in_ring}
use Rattle.pair_model.proofs.Seeing.{stopped_wire}
use Rattle.side_model.specs.declared.fault.ProxyFault.{ProxyFault}
use Rattle.side_model.specs.declared.fault.ProxyFault.TheVariants as faults
use Rattle.side_model.specs.Books.{Book, TrailRecord, weight, MOST_WEIGHT}
use Rattle.side_model.specs.Due.{judge_in, hear, group, treat, end, choose, work, next, fault_of}
use Rattle.side_model.specs.Events.{Halt, Rest, or_next}
use Rattle.side_model.specs.Follows.{Follows, Rests, GoesOn, LinkFollows, log_state}
use Rattle.side_model.specs.FollowLaws.{IsOwn, LawfulStops, FollowsFits}
use Rattle.side_model.specs.Places.{places_in, side_of}
use Rattle.side_model.specs.Records.{Law, StopsBy, IndexIs, content_in}
use Rattle.side_model.specs.State.{Now}
use Rattle.side_model.proofs.Dues.{or_next_halt, FrameRefused, frame_refused, TurnRefused, turn_refused, no_halt_in_group, no_halt_in_end, no_halt_in_choose, is_quiet, all_rest}
use Rattle.side_model.proofs.FollowsWork.{Owing, owing}
use Rattle.side_model.proofs.Indexes.{HasIndex, refused_index}
use Rattle.side_model.proofs.Links.{link_down}

-- ---- once all frames that came are heard

rests_quiet : (s : Now) (book : Book) (f : Follows s book) → hear s ≡ Rest → Rests s.token (side_of book.trail (places_in f.story) None) (accepted_in f.story)
rests_quiet s book f q = link_down s.token (side_of book.trail (places_in f.story) None) (accepted_in f.story) s.live.here (is_quiet s q) f.link

own_stops : (taken : ℕ) (fault : ProxyFault) (state : LogState) (token : List ℕ) (side : SideRecord) → IsOwn taken fault → StopsBy (Some fault) state token side None
own_stops taken (faults.Frame connection place cause) state token side h = absurd h
own_stops taken (faults.Peer index cause) state token side h = refl
own_stops taken (faults.Limit which) state token side h = refl
own_stops taken faults.Memory state token side h = tt

own_index : (fault : ProxyFault) (trail : TrailRecord) → IsOwn (length trail.taken) fault → IndexIs (Some fault) trail
own_index (faults.Frame connection place cause) trail h = absurd h
own_index (faults.Peer index cause) trail h = h
own_index (faults.Limit which) trail h = tt
own_index faults.Memory trail h = tt

law_quiet : (s : Now) (book : Book) (fault : Option ProxyFault) (f : Follows s book) → weight book.trail ≤ MOST_WEIGHT → hear s ≡ Rest
    → StopsBy fault (now s.side f.story) s.token (side_of book.trail (places_in f.story) None) None → IndexIs fault book.trail → Law s.side s.token book fault
law_quiet s book fault f w q stops index =
    let r : Rests s.token (side_of book.trail (places_in f.story) None) (accepted_in f.story) = rests_quiet s book f q in
    record { story = f.story; tells = f.tells; log = f.log; stop = None; wire = r.wire; heard = r.accepts; stops = stops; index = index; weighs = w }

law_own : (s : Now) (book : Book) (fault : ProxyFault) → Follows s book → weight book.trail ≤ MOST_WEIGHT → hear s ≡ Rest → IsOwn (length book.trail.taken) fault → Law s.side s.token book (Some fault)
law_own s book fault f w q own =
    law_quiet s book (Some fault) f w q (own_stops (length book.trail.taken) fault (now s.side f.story) s.token (side_of book.trail (places_in f.story) None) own) (own_index fault book.trail own)

-- ---- where a frame is refused

-- what it is judged by, told by the record
pub judge_is : (s : Now) (book : Book) (f : Follows s book) (here : Here) → judge_in s.token s.kept.ring s.kept.accepted s.kept.heard_close here ≡ judge_here s.token (side_of book.trail (places_in f.story) None) here
judge_is s book f here =
    let judge : ℕ → ℕ → ℕ → Bool → Judge = λ acknowledged made accepted closed. record {
      token = s.token;
      connection = here.connection;
      acknowledged = acknowledged;
      made = made;
      whole = here.whole;
      accepted = accepted;
      closed = closed;
    } in
    ap (λ n. judge n (ring_made s.kept.ring) s.kept.accepted s.kept.heard_close) (sym f.acknowledged)
    ∙ ap (λ n. judge book.trail.acknowledged n s.kept.accepted s.kept.heard_close) (made_in_ring book.trail.made s.kept.ring f.ring)
    ∙ ap (λ n. judge book.trail.acknowledged (length book.trail.made) n s.kept.heard_close) (sym f.accepted)
    ∙ ap (λ b. judge book.trail.acknowledged (length book.trail.made) book.trail.accepted b) (sym f.closed)

refused_there : (s : Now) (book : Book) (f : Follows s book) (fault : ProxyFault) (d : FrameRefused s fault)
    → (front d.here.unread ≡ Err d.cause) ⊎ RefusedFrame (content_in (now s.side f.story)) (judge_here s.token (side_of book.trail (places_in f.story) None) d.here) d.here.answer d.here.unread d.cause
refused_there s book f fault d = by_case d.because
  where
    bytes : IsBytes d.here.unread
    bytes = subst (λ (here : Option Here). MatchOption here (Unit {0}) (λ h. IsBytes h.unread)) d.is_here f.bytes

    by_case : (front d.here.unread ≡ Err d.cause) ⊎ ((frame : Frame) × (front d.here.unread ≡ Ok (Some frame))
        × (first_cause (link_fault (judge_in s.token s.kept.ring s.kept.accepted s.kept.heard_close d.here) d.here.answer (role frame)) (content_fault s.live.tables s.live.taking frame) ≡ Some d.cause))
        → (front d.here.unread ≡ Err d.cause) ⊎ RefusedFrame (content_in (now s.side f.story)) (judge_here s.token (side_of book.trail (places_in f.story) None) d.here) d.here.answer d.here.unread d.cause
    by_case (inl e) = inl e
    by_case (inr k) =
        let found : IsFrame k.0 × ((more : List ℕ) × (d.here.unread ≡ spelling k.0 ++ more)) = front-is_frame d.here.unread k.0 bytes k.1 in
        inr (record {
          frame = k.0;
          is_frame = found.0;
          more = found.1.0;
          bytes_are = found.1.1;
          cause_is = ap (λ (judge : Judge). first_cause (link_fault judge d.here.answer (role k.0)) (content_in (now s.side f.story) k.0)) (sym (judge_is s book f d.here))
              ∙ ap (λ (state : LogState). first_cause (link_fault (judge_in s.token s.kept.ring s.kept.accepted s.kept.heard_close d.here) d.here.answer (role k.0)) (content_in state k.0)) f.after ∙ k.2;
        })

law_refused : (s : Now) (book : Book) (fault : ProxyFault) → Follows s book → weight book.trail ≤ MOST_WEIGHT → FrameRefused s fault → Law s.side s.token book (Some fault)
law_refused s book fault f w d =
    let side : SideRecord = side_of book.trail (places_in f.story) None in
    let g : GoesOn s.token side (accepted_in f.story) d.here = subst (λ (here : Option Here). LinkFollows s.token side (accepted_in f.story) here) d.is_here f.link in
    subst (λ (x : ProxyFault). Law s.side s.token book (Some x)) (sym d.is) (record {
      story = f.story;
      tells = f.tells;
      log = f.log;
      stop = Some (record { connection = d.here.connection; place = place_here d.here side; cause = Some d.cause });
      wire = stopped_wire s.token side d.here (Some d.cause) g.stands;
      heard = heard_stopped side d.here (Some d.cause) (accepted_in f.story) g.heard;
      stops = record {
        exact = place_here d.here side;
        place_is = here_place s.token side d.here g.stands;
        stop_is = refl;
        refused = stopped_refused (λ accepted. content_in (now s.side f.story)) s.token side d.here (accepted_in f.story) d.cause g.stands g.heard (refused_there s book f fault d);
      };
      index = tt;
      weighs = w;
    })

half_own : (taken : ℕ) (cause : HalfFault) → HasIndex taken cause → IsOwn taken (fault_of cause)
half_own taken (halves.Peer index cause) h = h
half_own taken (halves.Limit which) h = tt
half_own taken halves.Memory h = tt

law_halts : (s : Now) (book : Book) (fault : ProxyFault) → Follows s book → weight book.trail ≤ MOST_WEIGHT → next s ≡ Halt fault → Law s.side s.token book (Some fault)
unfolding next work
law_halts s book fault f w h = by_hear (or_next_halt (hear s) (work s) fault h)
  where
    by_end : (end s ≡ Halt fault) ⊎ ((end s ≡ Rest) × (choose s ≡ Halt fault)) → Law s.side s.token book (Some fault)
    by_end (inl e) = absurd (no_halt_in_end s fault e)
    by_end (inr e) = absurd (no_halt_in_choose s fault e.1)

    by_treat : hear s ≡ Rest → (treat s ≡ Halt fault) ⊎ ((treat s ≡ Rest) × (or_next (end s) (choose s) ≡ Halt fault)) → Law s.side s.token book (Some fault)
    by_treat q (inl e) =
        let t : TurnRefused s fault = turn_refused s fault e in
        let index : HasIndex (length book.trail.taken) t.cause = subst (λ (n : ℕ). HasIndex n t.cause) f.taken (refused_index s.live.tables s.live.sending t.cause t.refuses) in
        law_own s book fault f w q (subst (λ (x : ProxyFault). IsOwn (length book.trail.taken) x) (sym t.is) (half_own (length book.trail.taken) t.cause index))
    by_treat q (inr e) = by_end (or_next_halt (end s) (choose s) fault e.1)

    by_group : hear s ≡ Rest → (group s ≡ Halt fault) ⊎ ((group s ≡ Rest) × (or_next (treat s) (or_next (end s) (choose s)) ≡ Halt fault)) → Law s.side s.token book (Some fault)
    by_group q (inl e) = absurd (no_halt_in_group s fault e)
    by_group q (inr e) = by_treat q (or_next_halt (treat s) (or_next (end s) (choose s)) fault e.1)

    by_hear : (hear s ≡ Halt fault) ⊎ ((hear s ≡ Rest) × (work s ≡ Halt fault)) → Law s.side s.token book (Some fault)
    by_hear (inl e) = law_refused s book fault f w (frame_refused s fault e)
    by_hear (inr e) = by_group e.0 (or_next_halt (group s) (or_next (treat s) (or_next (end s) (choose s))) fault e.1)

-- ---- where memory runs out

law_memory : (s : Now) (book : Book) → Follows s book → weight book.trail ≤ MOST_WEIGHT → Law s.side s.token book (Some faults.Memory)
law_memory s book f w = by_here s.live.here f.link
  where
    side : SideRecord
    side = side_of book.trail (places_in f.story) None

    by_here : (here : Option Here) → LinkFollows s.token (side_of book.trail (places_in f.story) None) (accepted_in f.story) here → Law s.side s.token book (Some faults.Memory)
    by_here None r = record { story = f.story; tells = f.tells; log = f.log; stop = None; wire = r.wire; heard = r.accepts; stops = tt; index = tt; weighs = w }
    by_here (Some here) g = record {
      story = f.story;
      tells = f.tells;
      log = f.log;
      stop = Some (record { connection = here.connection; place = place_here here (side_of book.trail (places_in f.story) None); cause = None });
      wire = stopped_wire s.token (side_of book.trail (places_in f.story) None) here None g.stands;
      heard = heard_stopped (side_of book.trail (places_in f.story) None) here None (accepted_in f.story) g.heard;
      stops = refl;
      index = tt;
      weighs = w;
    }

pub lawful_stops : LawfulStops
lawful_stops = record {
  rests = λ s book f w r. law_quiet s book None f w (all_rest s r).hears refl tt;
  halts = law_halts;
  own = law_own;
  memory = law_memory;
}

-- ---- the group that is due fits the ring

pub group_fits : FollowsFits
group_fits s book f made e =
    let o : Owing s made = owing s book f made e in
    let may : MayMake (now s.side f.story) (now s.side f.story).owes made.frames made.copies =
    subst (λ (state : LogState). MayMake state state.owes made.frames made.copies) (sym f.after)
    (subst (λ (owes : Option Owed). MayMake (log_state s) owes made.frames made.copies) (sym o.owes) o.is_group) in
    let fit : IsFit (now s.side f.story).owes made.frames = groups_fit s.side f.story made.frames made.copies f.log may in
    (fit.short, fit.good.are_frames)
