-- A copy that is handed back, and the frames of its message behind the last one, read off the fields of a proxy.
use Rattle.std.proofs.Common.{◌≡◌, ◌^◌, ◌<◌, true, false, List, [], ◌∷◌, ◌++◌, Option, Some, None, Result, Ok, Err, map, refl, sym, ap, subst, ◌∙◌, inl, inr, arith}
use Rattle.std.proofs.lemmas.List.{append-nil}
use Rattle.std.specs.List.{AllByRecursion}
use Rattle.std.specs.Prelude.{is_some, OnOk, OnErr, IfErr}
use Rattle.std.specs.Result.{is_err}
use Rattle.transfer_frames.specs.declared.frame.Frame.{Frame}
use Rattle.transfer_frames.specs.Grammar.{IsFrame, spelling}
use Rattle.half_model.specs.declared.causes.HalfFault.TheVariants as halves
use Rattle.half_model.specs.declared.notes.Noted.{Noted}
use Rattle.half_model.specs.declared.notes.Noted.TheVariants as notes
use Rattle.half_model.specs.Group.{Owed}
use Rattle.half_model.specs.Jobs.{Job, Done, awaits, handed}
use Rattle.half_model.specs.Tables.{Tables}
use Rattle.half_model.specs.Turn.{MadeGroup, group_due}
use Rattle.pair_model.specs.RingState.{RingState, ring_push_all, ring_made}
use Rattle.send_half.specs.SendState.{SendState, tables_of, with_made, with_group, with_done, after_done}
use Rattle.send_half.specs.Treating.{Halts}
use Rattle.side_model.specs.declared.fault.ProxyFault.TheVariants.{Memory}
use Rattle.side_model.specs.Due.{hear}
use Rattle.side_model.specs.Calls.{Runs, CallsAfter}
use Rattle.side_model.specs.Events.{Event, Handed, Rest}
use Rattle.side_model.specs.declared.fault.ProxyFault.{ProxyFault}
use Rattle.side_model.specs.Sound.{HasLoads}
use Rattle.side_model.specs.State.{Now}
use Rattle.side_model.specs.Steps.{step}
use Rattle.side_model.proofs.Dues.{all_rest, groups_none}
use Rattle.proxy_core.specs.declared.machine.Machine.TheInside.{Inside}
use Rattle.proxy_core.specs.declared.past.Past.{Past}
use Rattle.proxy_core.specs.Doing.{Fails, Settles, Does}
use Rattle.proxy_core.specs.Inside.{now_of}
use Rattle.proxy_core.specs.Inside as inside
use Rattle.proxy_core.specs.Jobs.{jobs_of}
use Rattle.proxy_core.specs.Keeping.{Keeps, AtRest, MOST_MADE}
use Rattle.proxy_core.specs.Making.{HasPlaces, emptied, without_frames}
use Rattle.proxy_core.specs.Treating.{GoesOn, MakesGroup, HandsBack}
use Rattle.proxy_core.proofs.Keepings.{keeps_outside}
use Rattle.proxy_core.proofs.Partings.{goes_none, goes_then, fails_here, fails_then, settles}
use Rattle.proxy_core.proofs.Shown.{shown, view_made}
use Rattle.proxy_core.proofs.Treatings.{made_now, made_goes, made_places}

-- ---- what the half answered

pub at_ok : {X E : Type 0} (r : Result X E) (P : Type 0) → is_err r ≡ false → OnOk r P → P
at_ok (Ok x) P e h = h
at_ok (Err y) P e h = absurd cc

pub at_err : {X E : Type 0} (r : Result X E) (P : Type 0) → is_err r ≡ true → OnErr r P → P
at_err (Ok x) P e h = absurd cc
at_err (Err y) P e h = h

-- ---- the copy is back

abbrev pub begun_now : Done → Now → Now
begun_now done s = record s { kept = record s.kept { jobs = handed done s.kept.jobs } }

begun_is : (s : Now) (done : Done) → step (Handed done) s ≡ begun_now done s
unfolding step
begun_is s done = refl

begun_hears : (s : Now) (done : Done) → hear s ≡ Rest → hear (begun_now done s) ≡ Rest
unfolding hear
begun_hears s done e = e

-- a proxy that takes a copy back
pub record Back (it : Inside) (done : Done) : Type 0 where
  pub runs : inside.Runs it.taken it.sending it.taking it.handles it.past
  pub awaits : awaits it.sending.jobs done ≡ true
  pub few : it.ring.acknowledged < 2 ^ 59
  pub sound : Keeps (now_of it)
  pub keeps : Keeps (begun_now done (now_of it))
  pub hears : hear (begun_now done (now_of it)) ≡ Rest

-- no copy is forgotten while it has not failed
jobs_same : (past : Option Past) (jobs : List Job) → past ≡ None → jobs_of past jobs ≡ jobs
jobs_same past jobs e = ap (λ (p : Option Past). jobs_of p jobs) e

pub back_of : (it : Inside) (s : Now) (done : Done) → now_of it ≡ s → (it.fault ≡ None → inside.Runs it.taken it.sending it.taking it.handles it.past) → s.fault ≡ None → awaits s.kept.jobs done ≡ true
    → ring_made s.kept.ring < 2 ^ 59 → AtRest s → HasLoads done → Back it done
back_of it s done view runs running waits few rests loads =
    let r : inside.Runs it.taken it.sending it.taking it.handles it.past = runs (ap (λ (u : Now). u.fault) view ∙ running) in
    let at : AtRest (now_of it) = subst (λ (u : Now). AtRest u) (sym view) rests in
    let out : awaits (jobs_of it.past it.sending.jobs) done ≡ true = ap (λ (u : Now). awaits u.kept.jobs done) view ∙ waits in
    record {
      runs = r;
      awaits = sym (ap (λ (jobs : List Job). awaits jobs done) (jobs_same it.past it.sending.jobs r.past_none)) ∙ out;
      few = omega (arith, few, ap (λ (u : Now). ring_made u.kept.ring) view);
      sound = at.keeps;
      keeps = subst (λ (u : Now). Keeps u) (begun_is (now_of it) done) (keeps_outside (Handed done) (now_of it) at (out, loads));
      hears = begun_hears (now_of it) done (all_rest (now_of it) at.rests).hears;
    }

-- what is seen of the fields then
view_done : (it : Inside) (done : Done) → it.past ≡ None → shown it (with_done done it.sending) (tables_of it.objects it.handles it.pipes) it.notes.items it.ring ≡ begun_now done (now_of it)
view_done it done none =
    ap (λ (p : Option Past). record (now_of it) { kept = record (now_of it).kept { jobs = jobs_of p (handed done it.sending.jobs) } }) none
    ∙ sym (ap (λ (p : Option Past). record (now_of it) { kept = record (now_of it).kept { jobs = handed done (jobs_of p it.sending.jobs) } }) none)

-- what the half owed, since it awaited a copy
owed_of : (owes : Option Owed) (jobs : List Job) (done : Done) → awaits jobs done ≡ true → (owes ≡ None → jobs ≡ []) → (owed : Owed) × (owes ≡ Some owed)
owed_of None jobs done e none = absurd (let never : false ≡ true = sym (ap (λ (js : List Job). awaits js done) (none refl)) ∙ e in cc)
owed_of (Some owed) jobs done e none = (owed, refl)

-- ---- others are awaited

pub record Waiting (it : Inside) (done : Done) (half : SendState) : Type 0 where
  pub none : group_due it.sending.sending.owes (handed done it.sending.jobs) ≡ None
  pub is : half ≡ with_done done it.sending

pub record Whole (it : Inside) (done : Done) (half : SendState) : Type 0 where
  pub made : MadeGroup
  pub owed : Owed
  pub owes : it.sending.sending.owes ≡ Some owed
  pub due : group_due it.sending.sending.owes (handed done it.sending.jobs) ≡ Some made
  pub is : half ≡ with_made made (with_done done it.sending)

done_by : (it : Inside) (done : Done) (half : SendState) (found : Option MadeGroup) → group_due it.sending.sending.owes (handed done it.sending.jobs) ≡ found → half ≡ after_done done it.sending
    → half ≡ with_group found (with_done done it.sending)
done_by it done half found e is = is ∙ ap (λ (f : Option MadeGroup). with_group f (with_done done it.sending)) e

pub waiting_of : (it : Inside) (done : Done) (half : SendState) → half ≡ after_done done it.sending → is_some half.sending.owes ≡ true → Waiting it done half
waiting_of it done half is e = go (group_due it.sending.sending.owes (handed done it.sending.jobs)) refl
  where
    go : (found : Option MadeGroup) → group_due it.sending.sending.owes (handed done it.sending.jobs) ≡ found → Waiting it done half
    go None d = record { none = d; is = done_by it done half None d is }
    go (Some made) d = absurd (let never : false ≡ true = sym (ap (λ (s : SendState). is_some s.sending.owes) (done_by it done half (Some made) d is)) ∙ e in cc)

pub whole_of : (it : Inside) (done : Done) (half : SendState) → Back it done → half ≡ after_done done it.sending → is_some half.sending.owes ≡ false → Whole it done half
whole_of it done half b is e = go (group_due it.sending.sending.owes (handed done it.sending.jobs)) refl
  where
    owed : (owed : Owed) × (it.sending.sending.owes ≡ Some owed)
    owed = owed_of it.sending.sending.owes it.sending.jobs done b.awaits b.runs.jobs

    go : (found : Option MadeGroup) → group_due it.sending.sending.owes (handed done it.sending.jobs) ≡ found → Whole it done half
    go None d = absurd (let never : true ≡ false = sym (ap (λ (s : SendState). is_some s.sending.owes) (done_by it done half None d is) ∙ ap is_some owed.1) ∙ e in cc)
    go (Some made) d = record { made = made; owed = owed.0; owes = owed.1; due = d; is = done_by it done half (Some made) d is }

-- the group that is due at the state seen
due_seen : (it : Inside) (done : Done) (found : Option MadeGroup) → it.past ≡ None → group_due it.sending.sending.owes (handed done it.sending.jobs) ≡ found
    → group_due it.sending.sending.owes (handed done (jobs_of it.past it.sending.jobs)) ≡ found
due_seen it done found none e = ap (λ (p : Option Past). group_due it.sending.sending.owes (handed done (jobs_of p it.sending.jobs))) none ∙ e

begun_at : (it : Inside) (s : Now) (done : Done) → now_of it ≡ s → step (Handed done) s ≡ begun_now done (now_of it)
begun_at it s done view = begun_is s done ∙ ap (begun_now done) (sym view)

-- ---- what the call does

few_made : (s : Now) → Keeps s → s.kept.ring.acknowledged < 2 ^ 59 → ring_made s.kept.ring < MOST_MADE
few_made s k few = omega (arith, k.sound.places, few)

-- it goes on, and no group is due
pub waiting_makes : (it : Inside) (s : Now) (done : Done) (half : SendState) (items : List Noted) → now_of it ≡ s → Back it done → Waiting it done half → items ≡ it.notes.items
    → MakesGroup (step (Handed done) s) (shown it half (tables_of it.objects it.handles it.pipes) items it.ring)
waiting_makes it s done half items view b w noted =
    let begun : Now = begun_now done (now_of it) in
    let same : shown it half (tables_of it.objects it.handles it.pipes) items it.ring ≡ begun =
    ap (λ (h : SendState). shown it h (tables_of it.objects it.handles it.pipes) items it.ring) w.is
    ∙ ap (λ (ns : List Noted). shown it (with_done done it.sending) (tables_of it.objects it.handles it.pipes) ns it.ring) noted
    ∙ view_done it done b.runs.past_none in
    let makes : MakesGroup begun begun = record {
      goes = goes_none begun;
      keeps = b.keeps;
      groups = groups_none begun (due_seen it done None b.runs.past_none w.none);
      few = few_made begun b.keeps b.few;
    } in
    subst (λ (u : Now). MakesGroup u (shown it half (tables_of it.objects it.handles it.pipes) items it.ring)) (sym (begun_at it s done view))
    (subst (λ (u : Now). MakesGroup begun u) (sym same) makes)

-- all are back: there are places for the frames
pub whole_fits : (it : Inside) (done : Done) (half : SendState) → Back it done → (w : Whole it done half) → AllByRecursion IsFrame half.frames × HasPlaces it.ring (map spelling half.frames)
whole_fits it done half b w =
    let frames : half.frames ≡ w.made.frames = ap (λ (h : SendState). h.frames) w.is ∙ ap (λ (fs : List Frame). fs ++ w.made.frames) b.runs.frames in
    subst (λ (fs : List Frame). AllByRecursion IsFrame fs × HasPlaces it.ring (map spelling fs)) (sym frames)
    (made_places (begun_now done (now_of it)) w.made b.keeps (due_seen it done (Some w.made) b.runs.past_none w.due) (omega (arith, b.few)))

pub whole_makes : (it : Inside) (s : Now) (done : Done) (treated half : SendState) (items : List Noted) (ring : RingState) → now_of it ≡ s → Back it done → Whole it done treated
    → half ≡ emptied treated → items ≡ it.notes.items ++ treated.noted → ring ≡ ring_push_all (map spelling treated.frames) it.ring
    → MakesGroup (step (Handed done) s) (shown it half (tables_of it.objects it.handles it.pipes) items ring)
whole_makes it s done treated half items ring view b w h n r =
    let begun : Now = begun_now done (now_of it) in
    let base : SendState = with_done done it.sending in
    let tables = tables_of it.objects it.handles it.pipes in
    let all : List Noted = it.notes.items ++ (base.noted ++ notes.Group w.made.frames w.made.copies ∷ []) in
    let no_notes : it.notes.items ++ base.noted ≡ it.notes.items = ap (λ (ns : List Noted). it.notes.items ++ ns) b.runs.noted ∙ append-nil it.notes.items in
    let same : shown it half tables items ring ≡ made_now w.made begun =
    ap (λ (u : SendState). shown it u tables items ring) (h ∙ ap emptied w.is)
    ∙ ap (λ (ns : List Noted). shown it (with_made w.made base) tables ns ring) (n ∙ ap (λ (u : SendState). it.notes.items ++ u.noted) w.is)
    ∙ ap (λ (rs : RingState). shown it (with_made w.made base) tables all rs) (r ∙ ap (λ (u : SendState). ring_push_all (map spelling u.frames) it.ring) w.is)
    ∙ view_made it base w.made tables b.runs.past_none b.runs.frames b.sound.sound
    ∙ ap (λ (ns : List Noted). made_now w.made (shown it base tables ns it.ring)) no_notes
    ∙ ap (made_now w.made) (view_done it done b.runs.past_none) in
    let after : GoesOn begun (made_now w.made begun) = made_goes begun w.made b.keeps b.hears (due_seen it done (Some w.made) b.runs.past_none w.due) in
    let makes : MakesGroup begun (made_now w.made begun) = record {
      goes = after.goes;
      keeps = after.keeps;
      groups = after.still.groups;
      few = few_made (made_now w.made begun) after.keeps b.few;
    } in
    subst (λ (u : Now). MakesGroup u (shown it half tables items ring)) (sym (begun_at it s done view))
    (subst (λ (u : Now). MakesGroup begun u) (sym same) makes)

-- ---- it fails

-- behind the hand-back
back_halts : (it : Inside) (s : Now) (done : Done) (past : Option Past) (half : SendState) (tables : Tables) (items : List Noted) (ring : RingState) → now_of it ≡ s → Back it done
    → half.side ≡ it.sending.side → jobs_of past half.jobs ≡ handed done it.sending.jobs → items ≡ it.notes.items → ring ≡ it.ring
    → Fails Memory (step (Handed done) s) (record (shown (record it { past = past }) half tables items ring) { fault = Some Memory })
back_halts it s done past half tables items ring view b side jobs noted r =
    let begun : Now = begun_now done (now_of it) in
    let back : handed done it.sending.jobs ≡ begun.kept.jobs = sym (ap (handed done) (jobs_same it.past it.sending.jobs b.runs.past_none)) in
    let new : Now = record (shown (record it { past = past }) half tables items ring) { fault = Some Memory } in
    subst (λ (u : Now). Fails Memory u new) (sym (begun_at it s done view))
    (fails_here Memory begun begun new (goes_none begun) (inr refl) (record {
      fault_is = refl;
      kept = ap (λ (js : List Job). record new.kept { jobs = js }) (jobs ∙ back)
          ∙ ap (λ (ns : List Noted). record begun.kept { ring = ring; notes = ns }) noted
          ∙ ap (λ (rs : RingState). record begun.kept { ring = rs }) r;
      side = side;
      token = refl;
    }))

pub done_halts : (it : Inside) (s : Now) (done : Done) (half : SendState) (tables : Tables) (items : List Noted) → now_of it ≡ s → Back it done → Halts halves.Memory (with_done done it.sending) half → items ≡ it.notes.items
    → Fails Memory (step (Handed done) s) (record (shown it half tables items it.ring) { fault = Some Memory })
done_halts it s done half tables items view b h noted =
    back_halts it s done it.past half tables items it.ring view b h.side (jobs_same it.past half.jobs b.runs.past_none ∙ h.jobs) noted refl

-- and behind the last one, which its half has forgotten
pub whole_halts : (it : Inside) (s : Now) (done : Done) (past : Past) (treated half : SendState) (tables : Tables) (items : List Noted) (ring : RingState) → now_of it ≡ s → Back it done → Whole it done treated
    → past.jobs ≡ handed done it.sending.jobs → without_frames half ≡ without_frames treated → items ≡ it.notes.items → ring ≡ it.ring
    → Fails Memory (step (Handed done) s) (record (shown (record it { past = Some past }) half tables items ring) { fault = Some Memory })
whole_halts it s done past treated half tables items ring view b w jobs h noted r =
    back_halts it s done (Some past) half tables items ring view b (ap (λ (u : SendState). u.side) h ∙ ap (λ (u : SendState). u.side) w.is) jobs noted r

-- ---- the whole call

-- which is not refused at once
handed_runs : (done : Done) (result : Result Unit ProxyFault) (events : List Event) (s new : Now) → s.fault ≡ None → Runs (Handed done) result events s new → Does (Handed done) result s new
handed_runs done result events s new running h = (events, subst (λ (fault : Option ProxyFault). CallsAfter fault (Handed done) result events s new) (sym running) h)

pub handed_fails : (done : Done) (fault : ProxyFault) (s new : Now) → s.fault ≡ None → HandsBack (Err fault) s (step (Handed done) s) new → Does (Handed done) (Err fault) s new
handed_fails done fault s new running (inl behind) = handed_runs done (Err fault) behind.0 s new running (inl behind.1)
handed_fails done fault s new running (inr before) = handed_runs done (Err fault) [] s new running (inr (record { memory = before.0; none = refl; halted = before.1 }))

pub handed_settles : (done : Done) (result : Result Unit ProxyFault) (s mid new : Now) → s.fault ≡ None → MakesGroup (step (Handed done) s) mid → OnOk result (Settles mid new) → IfErr result (λ fault. Fails fault mid new)
    → Does (Handed done) result s new
handed_settles done (Ok unit) s mid new running m row f =
    let all : Settles (step (Handed done) s) new = settles (step (Handed done) s) new (goes_then (step (Handed done) s) mid new m.goes (row.0, row.1.0)) row.1.1 in
    handed_runs done (Ok unit) all.0 s new running all.1
handed_settles done (Err fault) s mid new running m row f =
    let all : Fails fault (step (Handed done) s) new = fails_then fault (step (Handed done) s) mid new m.goes f in
    handed_runs done (Err fault) all.0 s new running (inl all.1)
