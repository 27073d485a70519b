-- A frame that is taken out of the bytes read and then heard is heard as the machine hears it.
use Rattle.std.proofs.Common.{◌≡◌, ℕ, ◌+◌, ◌<◌, ◌≤◌, Bool, true, false, ◌||◌, List, [], ◌∷◌, ◌++◌, Option, Some, None, Ok, Err, length, drop, min, refl, sym, ap, subst, ◌∙◌, inl, inr, ◌⊎◌, arith}
use Rattle.std.proofs.lemmas.Bool.{ltb-false}
use Rattle.std.proofs.lemmas.List.{append-nil}
use Rattle.std.specs.Prelude.{option_map, unwrap_or, nat_lt}
use Rattle.transfer_frames.specs.declared.cause.FrameCause.{FrameCause}
use Rattle.transfer_frames.specs.declared.frame.Frame.{Frame}
use Rattle.transfer_frames.specs.declared.frame.Frame.TheVariants.{Ack}
use Rattle.transfer_frames.specs.declared.frame.FrameRole.TheVariants.{Tells}
use Rattle.transfer_frames.specs.Front.{front}
use Rattle.transfer_frames.specs.Grammar.{role, spelling}
use Rattle.half_model.specs.Content.{content_fault, heard}
use Rattle.pair_model.specs.LinkFaults.{link_fault}
use Rattle.pair_model.specs.Refusals.{first_cause}
use Rattle.pair_model.specs.RingState.{RingState, ring_ack}
use Rattle.pair_model.specs.Rows.{first_count}
use Rattle.pair_model.specs.Steps.{Here, MOST_PLACE}
use Rattle.pair_model.specs.Tally.{Tally, judge_of_counts}
use Rattle.pair_model.proofs.Judging.{two_fail}
use Rattle.frame_stream.specs.Stream.{Stream}
use Rattle.send_half.specs.SendState.{tables_of}
use Rattle.side_model.specs.declared.fault.ProxyFault.{ProxyFault}
use Rattle.side_model.specs.declared.fault.ProxyFault.TheVariants as faults
use Rattle.side_model.specs.Due.{hear, hear_front, hear_frame, hear_on, judge_in}
use Rattle.side_model.specs.Events.{Heard, Do, Halt}
use Rattle.side_model.specs.Sound.{Sound}
use Rattle.side_model.specs.State.{Now}
use Rattle.side_model.specs.Steps.{step, with_kept, here_heard, kept_heard}
use Rattle.proxy_core.specs.declared.link.Link.{Link}
use Rattle.proxy_core.specs.declared.link.Came.{Came}
use Rattle.proxy_core.specs.declared.machine.Machine.TheInside.{Inside}
use Rattle.proxy_core.specs.Hearing.{cause_here, cause_of, without_frame, popped, answered, heard_behind, IsUp, IsOut, counted, Hears, fault_at, unread_here, unread_left}
use Rattle.std.proofs.Common.{length-append}
use Rattle.pair_model.proofs.Rows.{spelling_long}
use Rattle.proxy_core.specs.Doing.{Did}
use Rattle.std.proofs.Common.{Result}
use Rattle.proxy_core.specs.Inside.{here_of, now_of, IsCounted}
use Rattle.proxy_core.proofs.FrontLemmas.{here_acked}

-- ---- taking it out

drop_front : (xs ys : List ℕ) → drop (length xs) (xs ++ ys) ≡ ys
drop_front [] ys = refl
drop_front (x ∷ xs) ys = drop_front xs ys

popped_here : (s : Now) (out frame : Frame) (here : Option Here) → cause_here (popped out s) frame (option_map (without_frame out) here) ≡ cause_here s frame here
popped_here s out frame None = refl
popped_here s out frame (Some here) = refl

pub popped_cause : (out frame : Frame) (s : Now) → cause_of (popped out s) frame ≡ cause_of s frame
popped_cause out frame s = popped_here s out frame s.live.here

twice : (frame : Frame) (here : Option Here) → option_map (answered frame) (option_map (without_frame frame) here) ≡ option_map (here_heard frame) here
twice frame None = refl
twice frame (Some here) = refl

pub popped_heard : (frame : Frame) (s : Now) → heard_behind frame (popped frame s) ≡ step (Heard frame) s
unfolding step
popped_heard frame s =
    ap (λ (here : Option Here). with_kept (kept_heard frame) (record s {
      live = record s.live {
        here = here;
        tables = (heard s.live.tables s.live.taking frame).tables;
        taking = (heard s.live.tables s.live.taking frame).taking;
        items = s.live.items ++ (heard s.live.tables s.live.taking frame).given;
      };
    })) (twice frame s.live.here)

-- what is due where it stands there
pub hear_is : (s : Now) (here : Here) (frame : Frame) → s.live.here ≡ Some here → front here.unread ≡ Ok (Some frame) → hear s ≡ hear_frame here frame (cause_of s frame)
unfolding hear
hear_is s here frame e stands =
    ap (hear_on s.token s.kept.ring s.kept.accepted s.kept.heard_close s.live.tables s.live.taking) e
    ∙ ap (hear_front (judge_in s.token s.kept.ring s.kept.accepted s.kept.heard_close here) s.live.tables s.live.taking here) stands
    ∙ ap (λ (h : Option Here). hear_frame here frame (cause_here s frame h)) (sym e)

-- the bytes read, without it
pub popped_is : (it : Inside) (link : Link) (frame : Frame) (reader : Stream) → it.link ≡ Some link → link.reader.front ≡ spelling frame ++ reader.front
    → reader.place ≡ min (link.reader.place + length (spelling frame)) MOST_PLACE
    → now_of (record it { link = Some (record link { reader = reader }) }) ≡ popped frame (now_of it)
popped_is it link frame reader e bytes place =
    let left : reader.front ≡ drop (length (spelling frame)) link.reader.front = sym (ap (drop (length (spelling frame))) bytes ∙ drop_front (spelling frame) reader.front) in
    let made : List ℕ → ℕ → Stream = λ f n. record { front = f; place = n } in
    let same : reader ≡ made (drop (length (spelling frame)) link.reader.front) (min (link.reader.place + length (spelling frame)) MOST_PLACE) =
    ap (λ (f : List ℕ). made f reader.place) left ∙ ap (made (drop (length (spelling frame)) link.reader.front)) place in
    ap (λ (here : Option Here). record (now_of it) { live = record (now_of it).live { here = here } })
    (ap (λ (r : Stream). Some (here_of it.ring it.counts (record link { reader = r }))) same
    ∙ sym (ap (λ (l : Option Link). option_map (without_frame frame) (option_map (here_of it.ring it.counts) l)) e))

pub popped_less : (it : Inside) (link : Link) (frame : Frame) (reader : Stream) (s : Now) → now_of it ≡ s → it.link ≡ Some link → link.reader.front ≡ spelling frame ++ reader.front
    → unread_left (now_of (record it { link = Some (record link { reader = reader }) })) < unread_left s
popped_less it link frame reader s view e bytes =
    let before : unread_left s ≡ length link.reader.front = ap unread_left (sym view) ∙ ap (λ (l : Option Link). unread_here (option_map (here_of it.ring it.counts) l)) e in
    omega (arith, before, ap length bytes, length-append (spelling frame) reader.front, spelling_long frame)

-- ---- judging it

pub judged : (it : Inside) (link : Link) (frame : Frame) → it.link ≡ Some link → IsCounted it.counts it.link
    → cause_of (now_of it) frame ≡ first_cause (link_fault (judge_of_counts it.ring it.counts) it.counts.answer (role frame)) (content_fault (tables_of it.objects it.handles it.pipes) it.taking.taking frame)
judged it link frame e counted =
    let up : IsCounted it.counts (Some link) = subst (IsCounted it.counts) e counted in
    let number : link.connection ≡ unwrap_or it.counts.connection 0 = sym (ap (λ (o : Option ℕ). unwrap_or o 0) up.number) in
    ap (λ (l : Option Link). cause_here (now_of it) frame (option_map (here_of it.ring it.counts) l)) e
    ∙ ap (λ (n : ℕ). first_cause (link_fault (record (judge_of_counts it.ring it.counts) { connection = n }) it.counts.answer (role frame)) (content_fault (tables_of it.objects it.handles it.pipes) it.taking.taking frame)) number

pub up_link : (ring : RingState) (counts : Tally) (n : ℕ) (link : Option Link) → IsUp n (option_map (here_of ring counts) link) → (l : Link) × (link ≡ Some l)
up_link ring counts n None e = absurd cc
up_link ring counts n (Some l) e = (l, refl)

-- ---- an ACK

or_false : (b : Bool) → (b || false) ≡ b
or_false true = refl
or_false false = refl

told_here : (n : ℕ) (here : Option Here) → option_map (answered (Ack n)) here ≡ here
told_here n None = refl
told_here n (Some here) = ap (λ (o : Option ℕ). Some (record here { answer = o })) (by_answer here.answer)
  where
    by_answer : (answer : Option ℕ) → first_count answer None ≡ answer
    by_answer None = refl
    by_answer (Some p) = refl

pub ack_behind : (n : ℕ) (s : Now) → heard_behind (Ack n) s ≡ with_kept (λ kept. record kept { ring = ring_ack n kept.ring }) s
ack_behind n s =
    let counted : s.kept.accepted + 0 ≡ s.kept.accepted = omega arith in
    rw (counted, or_false s.kept.heard_close, append-nil s.live.items, told_here n s.live.here) refl

-- what an ACK may tell
record MayTell (ring : RingState) (counts : Tally) (n : ℕ) : Type 0 where
  low : ring.acknowledged ≤ n
  high : (p : ℕ) → counts.answer ≡ Some p → n ≤ p + counts.whole

may_tell : (ring : RingState) (counts : Tally) (n : ℕ) (answer : Option ℕ) → counts.answer ≡ answer → link_fault (judge_of_counts ring counts) answer (Tells n) ≡ None → MayTell ring counts n
may_tell ring counts n None a e = absurd cc
may_tell ring counts n (Some p) a e =
    let f : (nat_lt n ring.acknowledged ≡ false) × (nat_lt (p + counts.whole) n ≡ false) = two_fail (nat_lt n ring.acknowledged) (nat_lt (p + counts.whole) n) e in
    record {
      low = ltb-false n ring.acknowledged f.0;
      high = λ q d. let same : Some p ≡ Some q = sym a ∙ d in let number : p ≡ q = cc in omega (arith, number, ltb-false (p + counts.whole) n f.1);
    }

pub ack_heard : (it : Inside) (n connection : ℕ) → IsUp connection (now_of it).live.here → Sound (now_of it) → IsCounted it.counts it.link
    → link_fault (judge_of_counts it.ring it.counts) it.counts.answer (Tells n) ≡ None
    → (cause_of (now_of it) (Ack n) ≡ None) × (now_of (record it { ring = ring_ack n it.ring }) ≡ heard_behind (Ack n) (now_of it))
ack_heard it n connection up sound counted fine =
    let link : (l : Link) × (it.link ≡ Some l) = up_link it.ring it.counts connection it.link up in
    let may : MayTell it.ring it.counts n = may_tell it.ring it.counts n it.counts.answer refl fine in
    let same : option_map (here_of (ring_ack n it.ring) it.counts) it.link ≡ option_map (here_of it.ring it.counts) it.link =
    here_acked it.ring n it.counts it.counts.accepted it.last it.link sound.here may.low may.high in (
      judged it link.0 (Ack n) link.1 counted ∙ ap (λ (cause : Option FrameCause). first_cause cause None) fine,
      ap (λ (here : Option Here). record (now_of (record it { ring = ring_ack n it.ring })) { live = record (now_of it).live { here = here } }) same ∙ sym (ack_behind n (now_of it)),
    )

-- ---- the whole phase

abbrev pub map_ok : Result Unit ProxyFault → Result Bool ProxyFault
map_ok (Ok done) = Ok true
map_ok (Err fault) = Err fault

pub one_heard : (result : Result Unit ProxyFault) (came : Came) (old mid new : Now) → IsOut came old mid → Hears result came.frame came.at mid new → Did (map_ok result) (hear old) old new
one_heard (Ok done) came old mid new out h =
    let cause : cause_of old came.frame ≡ None = sym (popped_cause came.frame came.frame old) ∙ ap (λ (m : Now). cause_of m came.frame) (sym out.new_is) ∙ h.0 in
    let due : hear old ≡ Do (Heard came.frame) = hear_is old out.here came.frame out.is_here out.stands ∙ ap (hear_frame out.here came.frame) cause in
    (Heard came.frame, due, h.1 ∙ ap (heard_behind came.frame) out.new_is ∙ popped_heard came.frame old)
one_heard (Err fault) came old mid new out h = (
  by_cause h.because,
  record {
    fault_is = h.halted.fault_is;
    kept = h.halted.kept ∙ ap (λ (m : Now). m.kept) out.new_is;
    side = h.halted.side ∙ ap (λ (m : Now). m.side) out.new_is;
    token = h.halted.token ∙ ap (λ (m : Now). m.token) out.new_is;
  },
)
  where
    by_cause : ((it : FrameCause) × (cause_of mid came.frame ≡ Some it) × (fault ≡ fault_at came.at it)) ⊎ (fault ≡ faults.Memory) → (hear old ≡ Halt fault) ⊎ (fault ≡ faults.Memory)
    by_cause (inl d) =
        let cause : cause_of old came.frame ≡ Some d.0 = sym (popped_cause came.frame came.frame old) ∙ ap (λ (m : Now). cause_of m came.frame) (sym out.new_is) ∙ d.1 in
        let same : fault_at came.at d.0 ≡ faults.Frame out.here.connection out.here.place d.0 =
        ap (λ (n : ℕ). faults.Frame n came.at.place d.0) out.connection ∙ ap (λ (n : ℕ). faults.Frame out.here.connection n d.0) out.place in
        inl (hear_is old out.here came.frame out.is_here out.stands ∙ ap (hear_frame out.here came.frame) cause ∙ ap (λ (f : ProxyFault). Halt f) (sym same ∙ sym d.2))
    by_cause (inr d) = inr d
