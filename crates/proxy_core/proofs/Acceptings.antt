-- A counted frame that the connection lets pass is refused for what it says, or accepted and counted.
use Rattle.std.proofs.Common.{◌≡◌, ℕ, ◌+◌, Bool, ◌||◌, cond, ◌++◌, Option, Some, None, Ok, Err, refl, sym, ap, subst, ◌∙◌, inr}
use Rattle.std.specs.Prelude.{option_map, unwrap_or}
use Rattle.transfer_frames.specs.declared.cause.FrameCause.{FrameCause}
use Rattle.transfer_frames.specs.declared.cause.FrameCause.TheVariants.{RestartMissing}
use Rattle.transfer_frames.specs.declared.frame.Frame.{Frame}
use Rattle.transfer_frames.specs.declared.frame.Frame.TheVariants as frames
use Rattle.transfer_frames.specs.declared.frame.Frame.TheVariants.{Ack, Restart}
use Rattle.transfer_frames.specs.declared.frame.FrameRole.{FrameRole}
use Rattle.transfer_frames.specs.declared.frame.FrameRole.TheVariants.{Counted}
use Rattle.transfer_frames.specs.Grammar.{role}
use Rattle.half_model.specs.declared.causes.TakeFault.{TakeFault}
use Rattle.half_model.specs.declared.causes.TakeFault.TheVariants as takes
use Rattle.half_model.specs.Content.{content_fault, heard, Hearing}
use Rattle.half_model.specs.Tables.{Tables}
use Rattle.take_half.specs.Accepting.{Accepted, AcceptsAfter}
use Rattle.take_half.specs.TakeState.{TakeState}
use Rattle.pair_model.specs.LinkFaults.{link_fault, is_close}
use Rattle.pair_model.specs.Refusals.{first_cause}
use Rattle.pair_model.specs.Rows.{first_count, received_in, is_counted}
use Rattle.pair_model.specs.Steps.{Here, next_after}
use Rattle.pair_model.specs.Tally.{judge_of_counts}
use Rattle.send_half.specs.SendState.{tables_of}
use Rattle.side_model.specs.declared.fault.ProxyFault.{ProxyFault}
use Rattle.side_model.specs.State.{Now, KeptPart}
use Rattle.side_model.specs.Steps.{with_kept, kept_heard, notes_heard, acked_by}
use Rattle.proxy_core.specs.declared.link.Link.{Link}
use Rattle.proxy_core.specs.declared.machine.Machine.TheInside.{Inside}
use Rattle.proxy_core.specs.Hearing.{cause_here, cause_of, answered, heard_behind, IsUp, link_cause, MayHear, counted, noted_with, CountsIn, Hears}
use Rattle.proxy_core.specs.declared.link.Place.{Place}
use Rattle.wl_objects.specs.Registry.{ObjectsState}
use Rattle.handle_table.specs.Table.{Table}
use Rattle.pipe_relay.specs.Pipes.{PipesState}
use Rattle.std.proofs.Common.{Result}
use Rattle.proxy_core.specs.Counting.{messages_in}
use Rattle.proxy_core.specs.Inside.{here_of, now_of, IsCounted}
use Rattle.proxy_core.proofs.Hearings.{judged, up_link}

-- ---- whether it passes

pub judged_link : (it : Inside) (link : Link) (part : FrameRole) → it.link ≡ Some link → IsCounted it.counts it.link
    → link_cause (now_of it) part (now_of it).live.here ≡ link_fault (judge_of_counts it.ring it.counts) it.counts.answer part
judged_link it link part e counted =
    let up : IsCounted it.counts (Some link) = subst (IsCounted it.counts) e counted in
    let number : link.connection ≡ unwrap_or it.counts.connection 0 = sym (ap (λ (o : Option ℕ). unwrap_or o 0) up.number) in
    ap (λ (l : Option Link). link_cause (now_of it) part (option_map (here_of it.ring it.counts) l)) e
    ∙ ap (λ (n : ℕ). link_fault (record (judge_of_counts it.ring it.counts) { connection = n }) it.counts.answer part) number

may_link : (it : Inside) (part : FrameRole) → MayHear part (now_of it) → (l : Link) × (it.link ≡ Some l)
may_link it part h = go it.link refl
  where
    go : (link : Option Link) → it.link ≡ link → (l : Link) × (it.link ≡ Some l)
    go None e = absurd (let never : Some RestartMissing ≡ None = sym (ap (λ (l : Option Link). link_cause (now_of it) part (option_map (here_of it.ring it.counts) l)) e) ∙ h in cc)
    go (Some l) e = (l, e)

pub link_passes : (it : Inside) (part : FrameRole) → IsCounted it.counts it.link → MayHear part (now_of it) → link_fault (judge_of_counts it.ring it.counts) it.counts.answer part ≡ None
link_passes it part counted h =
    let link : (l : Link) × (it.link ≡ Some l) = may_link it part h in
    sym (judged_link it link.0 part link.1 counted) ∙ h

pub joined_by : (it : Inside) (part : FrameRole) → IsCounted it.counts it.link → MayHear part (now_of it) → (n : ℕ) × (it.counts.connection ≡ Some n)
joined_by it part counted h =
    let link : (l : Link) × (it.link ≡ Some l) = may_link it part h in
    let up : IsCounted it.counts (Some link.0) = subst (IsCounted it.counts) link.1 counted in
    (link.0.connection, up.number)

pub may_counted : (it : Inside) (n : ℕ) (closes : Bool) → IsUp n (now_of it).live.here → IsCounted it.counts it.link
    → link_fault (judge_of_counts it.ring it.counts) it.counts.answer (Counted closes) ≡ None → MayHear (Counted closes) (now_of it)
may_counted it n closes up counted fine =
    let link : (l : Link) × (it.link ≡ Some l) = up_link it.ring it.counts n it.link up in
    judged_link it link.0 (Counted closes) link.1 counted ∙ fine

pub refused_counted : (it : Inside) (n : ℕ) (frame : Frame) (closes : Bool) (cause : FrameCause) → IsUp n (now_of it).live.here → IsCounted it.counts it.link → role frame ≡ Counted closes
    → link_fault (judge_of_counts it.ring it.counts) it.counts.answer (Counted closes) ≡ Some cause → cause_of (now_of it) frame ≡ Some cause
refused_counted it n frame closes cause up counted part e =
    let link : (l : Link) × (it.link ≡ Some l) = up_link it.ring it.counts n it.link up in
    judged it link.0 frame link.1 counted
    ∙ ap (λ (p : FrameRole). first_cause (link_fault (judge_of_counts it.ring it.counts) it.counts.answer p) (content_fault (tables_of it.objects it.handles it.pipes) it.taking.taking frame)) part
    ∙ ap (λ (c : Option FrameCause). first_cause c (content_fault (tables_of it.objects it.handles it.pipes) it.taking.taking frame)) e

-- what is said of it
cause_parts : (s : Now) (frame : Frame) (part : FrameRole) → role frame ≡ part → MayHear part s → cause_of s frame ≡ content_fault s.live.tables s.live.taking frame
cause_parts s frame part e h = go s.live.here h
  where
    go : (here : Option Here) → link_cause s part here ≡ None → cause_here s frame here ≡ content_fault s.live.tables s.live.taking frame
    go None d = absurd cc
    go (Some here) d =
        ap (λ (p : FrameRole). first_cause (link_cause s p (Some here)) (content_fault s.live.tables s.live.taking frame)) e
        ∙ ap (λ (c : Option FrameCause). first_cause c (content_fault s.live.tables s.live.taking frame)) d

first_answer : (answer : Option ℕ) → first_count answer None ≡ answer
first_answer None = refl
first_answer (Some p) = refl

counted_here : (frame : Frame) (closes : Bool) → role frame ≡ Counted closes → (here : Option Here) → option_map (answered frame) here ≡ here
counted_here frame closes e None = refl
counted_here frame closes e (Some here) =
    ap (λ (p : FrameRole). Some (record here { answer = first_count here.answer (received_in p); next = next_after p here.next })) e
    ∙ ap (λ (o : Option ℕ). Some (record here { answer = o })) (first_answer here.answer)

notes_counted : (frame : Frame) (kept : KeptPart) → record kept { notes = notes_heard frame kept.notes } ≡ noted_with (messages_in frame) kept
notes_counted (frames.Protocol bytes) kept = refl
notes_counted (frames.Inject rids) kept = refl
notes_counted (frames.OpenFile rid size) kept = refl
notes_counted (frames.ExtendFile rid size) kept = refl
notes_counted (frames.Fill rid start end bytes) kept = refl
notes_counted (frames.OpenPipe rid) kept = refl
notes_counted (frames.PipeTransfer rid bytes) kept = refl
notes_counted (frames.PipeShutR rid) kept = refl
notes_counted (frames.PipeShutW rid) kept = refl
notes_counted (frames.Ack count) kept = refl
notes_counted (frames.Restart token connection received) kept = refl
notes_counted (frames.Close reason) kept = refl

kept_counted : (frame : Frame) (closes : Bool) (kept : KeptPart) → role frame ≡ Counted closes → kept_heard frame kept ≡ counted closes (noted_with (messages_in frame) kept)
kept_counted frame closes kept e =
    ap (λ (p : FrameRole). record kept {
      ring = acked_by p kept.ring;
      accepted = kept.accepted + cond (is_counted p) 1 0;
      heard_close = kept.heard_close || is_close p;
      notes = notes_heard frame kept.notes;
    }) e
    ∙ ap (counted closes) (notes_counted frame kept)

-- a frame that the taking half accepted, and that is counted, is heard
pub accepted_heard : (s new : Now) (frame : Frame) (closes : Bool) → role frame ≡ Counted closes
    → new ≡ with_kept (λ kept. counted closes (noted_with (messages_in frame) kept)) (record s {
      live = record s.live {
        tables = (heard s.live.tables s.live.taking frame).tables;
        taking = (heard s.live.tables s.live.taking frame).taking;
        items = s.live.items ++ (heard s.live.tables s.live.taking frame).given;
      };
    })
    → new ≡ heard_behind frame s
accepted_heard s new frame closes e is =
    let hearing : Hearing = heard s.live.tables s.live.taking frame in
    is ∙ ap (λ (kept : KeptPart). record s { kept = kept; live = record s.live { tables = hearing.tables; taking = hearing.taking; items = s.live.items ++ hearing.given } }) (sym (kept_counted frame closes s.kept e))
    ∙ ap (λ (here : Option Here). record s { kept = kept_heard frame s.kept; live = record s.live { here = here; tables = hearing.tables; taking = hearing.taking; items = s.live.items ++ hearing.given } }) (sym (counted_here frame closes e s.live.here))

pub fine_counted : (s : Now) (frame : Frame) (closes : Bool) → role frame ≡ Counted closes → MayHear (Counted closes) s → content_fault s.live.tables s.live.taking frame ≡ None → cause_of s frame ≡ None
fine_counted s frame closes e h fine = cause_parts s frame (Counted closes) e h ∙ fine

pub content_counted : (s : Now) (frame : Frame) (closes : Bool) (cause : FrameCause) → role frame ≡ Counted closes → MayHear (Counted closes) s → content_fault s.live.tables s.live.taking frame ≡ Some cause → cause_of s frame ≡ Some cause
content_counted s frame closes cause e h c = cause_parts s frame (Counted closes) e h ∙ c

-- what the half answered
pub accepted_of : (fault : Option TakeFault) (frame : Frame) (tables after : Tables) (old new : TakeState) → fault ≡ None → AcceptsAfter fault (Ok tt) frame tables after old new → Accepted frame tables after old new
accepted_of None frame tables after old new e h = h
accepted_of (Some fault) frame tables after old new e h = absurd cc

pub refused_of : (fault : Option TakeFault) (frame : Frame) (cause : FrameCause) (tables after : Tables) (old new : TakeState) → fault ≡ None → AcceptsAfter fault (Err (takes.Frame cause)) frame tables after old new
    → content_fault tables old.taking frame ≡ Some cause
refused_of None frame cause tables after old new e h = h
refused_of (Some fault) frame cause tables after old new e h = absurd cc

-- ---- as its method does it

pub count_heard : (result : Result Unit ProxyFault) (frame : Frame) (at : Place) (closes : Bool) (s mid new : Now) → role frame ≡ Counted closes → MayHear (Counted closes) s → content_fault s.live.tables s.live.taking frame ≡ None
    → mid ≡ record s {
      live = record s.live {
        tables = (heard s.live.tables s.live.taking frame).tables;
        taking = (heard s.live.tables s.live.taking frame).taking;
        items = s.live.items ++ (heard s.live.tables s.live.taking frame).given;
      };
    }
    → CountsIn result (messages_in frame) closes mid new → Hears result frame at s new
count_heard (Ok done) frame at closes s mid new e h fine is c =
    (fine_counted s frame closes e h fine, accepted_heard s new frame closes e (c ∙ ap (λ (m : Now). with_kept (λ kept. counted closes (noted_with (messages_in frame) kept)) m) is))
count_heard (Err fault) frame at closes s mid new e h fine is c = record {
  because = inr c.0;
  halted = record {
    fault_is = c.1.fault_is;
    kept = c.1.kept ∙ ap (λ (m : Now). m.kept) is;
    side = c.1.side ∙ ap (λ (m : Now). m.side) is;
    token = c.1.token ∙ ap (λ (m : Now). m.token) is;
  };
}

-- the fields behind a frame that the half accepted
pub taken_in : (it : Inside) (frame : Frame) (taking : TakeState) (objects : ObjectsState) (handles : Table) (pipes : PipesState)
    → Accepted frame (tables_of it.objects it.handles it.pipes) (tables_of objects handles pipes) it.taking taking
    → now_of (record it { taking = taking; objects = objects; handles = handles; pipes = pipes }) ≡ record (now_of it) {
      live = record (now_of it).live {
        tables = (heard (now_of it).live.tables (now_of it).live.taking frame).tables;
        taking = (heard (now_of it).live.tables (now_of it).live.taking frame).taking;
        items = (now_of it).live.items ++ (heard (now_of it).live.tables (now_of it).live.taking frame).given;
      };
    }
taken_in it frame taking objects handles pipes a =
    ap (λ (tables : Tables). record (now_of it) { live = record (now_of it).live { tables = tables; taking = taking.taking; items = taking.items } }) a.shared
    ∙ ap (λ (t : TakeState). record (now_of it) { live = record (now_of it).live { tables = (heard (now_of it).live.tables (now_of it).live.taking frame).tables; taking = t.taking; items = t.items } }) a.half
