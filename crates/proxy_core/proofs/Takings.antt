-- What a sending half that took a message leaves in the fields of a proxy: it waits for copies, or its frames are made.
use Rattle.std.proofs.Common.{◌≡◌, ◌+◌, ◌<◌, Bool, true, false, List, [], ◌∷◌, ◌++◌, Option, Some, None, Result, Ok, Err, ◌⊎◌, map, refl, sym, ap, subst, ◌∙◌, inr}
use Rattle.std.specs.List.{AllByRecursion}
use Rattle.std.specs.Prelude.{is_some}
use Rattle.transfer_frames.specs.declared.frame.Frame.{Frame}
use Rattle.transfer_frames.specs.Grammar.{IsFrame, spelling}
use Rattle.half_model.specs.declared.causes.HalfFault.{HalfFault}
use Rattle.half_model.specs.declared.notes.Noted.{Noted}
use Rattle.half_model.specs.declared.notes.Noted.TheVariants as notes
use Rattle.half_model.specs.Group.{Owed}
use Rattle.half_model.specs.Tables.{Tables}
use Rattle.half_model.specs.Turn as turns
use Rattle.half_model.specs.Turn.{Treated, MadeGroup, turn, group_due}
use Rattle.handle_table.specs.Table.{Table}
use Rattle.pair_model.specs.RingState.{RingState, ring_push_all}
use Rattle.send_half.specs.SendState.{SendState, tables_of, next_turn, noted_taken, with_made}
use Rattle.send_half.specs.Treating.{Took, Rests, Refused, Halts, TreatsAfter}
use Rattle.side_model.specs.declared.fault.ProxyFault.{ProxyFault}
use Rattle.side_model.specs.declared.fault.ProxyFault.TheVariants as faults
use Rattle.side_model.specs.Due.{is_free, fault_of, next}
use Rattle.side_model.specs.Events.{Halt}
use Rattle.side_model.specs.State.{Now}
use Rattle.side_model.proofs.Dues.{treats_none}
use Rattle.side_model.proofs.Sounds.{room_of}
use Rattle.proxy_core.specs.declared.machine.Machine.TheInside.{Inside}
use Rattle.proxy_core.specs.declared.past.Past.{Past}
use Rattle.proxy_core.specs.Doing.{Fails}
use Rattle.proxy_core.specs.Inside.{now_of, Runs, IsPast}
use Rattle.proxy_core.specs.Keeping.{Keeps, MOST_MADE}
use Rattle.proxy_core.specs.Making.{HasPlaces, emptied, without_frames, without_notes}
use Rattle.proxy_core.specs.Treating.{IsStill, Treats}
use Rattle.half_model.specs.Jobs.{Job}
use Rattle.proxy_core.proofs.Partings.{goes_none, fails_here}
use Rattle.proxy_core.proofs.Shown.{shown, view_took, view_made, none_treated, rests_of, took_of, failed_of, half_halts}
use Rattle.proxy_core.proofs.Treatings.{turn_of, owes_some, Behind, Owes, Makes, behind_of, Taking, taking_of, took_now, made_now, made_places, one_more, treats_alone, treats_all, halts_due}

-- a proxy that may take a message
pub record May (it : Inside) : Type 0 where
  pub runs : Runs it.taken it.sending it.taking it.handles it.past
  pub keeps : Keeps (now_of it)
  pub still : IsStill (now_of it)
  pub free : is_free it.sending.sending.owes it.ring ≡ true

pub may_take : (it : Inside) (s : Now) → now_of it ≡ s → (it.fault ≡ None → Runs it.taken it.sending it.taking it.handles it.past) → s.fault ≡ None → Keeps s → IsStill s
    → is_free s.live.sending.owes s.kept.ring ≡ true → May it
may_take it s view runs running keeps still free = record {
  runs = runs (ap (λ (u : Now). u.fault) view ∙ running);
  keeps = subst (λ (u : Now). Keeps u) (sym view) keeps;
  still = subst (λ (u : Now). IsStill u) (sym view) still;
  free = ap (λ (u : Now). is_free u.live.sending.owes u.kept.ring) view ∙ free;
}

abbrev pub tables_in : Inside → Tables
tables_in it = tables_of it.objects it.handles it.pipes

-- what its half answers, of the message at the front
abbrev pub Answered : Result Bool HalfFault → Inside → Tables → SendState → Type 0
Answered result it tables half = TreatsAfter it.sending.fault result (next_turn (tables_in it) it.sending) (tables_in it) tables it.sending half

due_of : (it : Inside) → May it → next_turn (tables_in it) it.sending ≡ turn (tables_in it) it.sending.sending
due_of it m = turn_of (tables_in it) it.sending m.runs.frames

-- ---- none is taken

pub none_due : (it : Inside) (half : SendState) (tables : Tables) (items : List Noted) → May it → Answered (Ok false) it tables half → items ≡ it.notes.items
    → Treats (Ok false) (now_of it) (shown it half tables items it.ring)
none_due it half tables items m h notes =
    let r : Rests (next_turn (tables_in it) it.sending) (tables_in it) tables it.sending half = rests_of it.sending.fault (next_turn (tables_in it) it.sending) (tables_in it) tables it.sending half m.runs.sends h in
    (treats_none (now_of it) (inr (sym (due_of it m) ∙ r.idle)), none_treated it half tables items r.half r.shared notes)

-- ---- one is taken

pub record Taken (it : Inside) (treated : SendState) (tables : Tables) : Type 0 where
  pub t : Treated
  pub turn_is : turn (tables_in it) it.sending.sending ≡ turns.Takes t
  pub behind : Behind t it.sending treated
  pub shared : tables ≡ t.tables
  pub taking : Taking (now_of it) t
  pub more : t.sending.taken ≡ it.taken + 1

pub taken_of : (it : Inside) (treated : SendState) (tables : Tables) → May it → Answered (Ok true) it tables treated → Taken it treated tables
taken_of it treated tables m h =
    let got : Took (next_turn (tables_in it) it.sending) tables it.sending treated = took_of it.sending.fault (next_turn (tables_in it) it.sending) (tables_in it) tables it.sending treated m.runs.sends h in
    let due : turn (tables_in it) it.sending.sending ≡ turns.Takes got.it = sym (due_of it m) ∙ got.takes in
    let taking : Taking (now_of it) got.it = taking_of (now_of it) got.it m.keeps m.still m.free due in
    record {
      t = got.it;
      turn_is = due;
      behind = behind_of got.it it.sending treated got.half;
      shared = got.shared;
      taking = taking;
      more = one_more (now_of it) got.it m.keeps taking.due due ∙ ap (λ n. n + 1) m.runs.taken_is;
    }

pub past_fine : (past : Option Past) (jobs : List Job) → past ≡ None → IsPast past jobs
past_fine None jobs e = tt
past_fine (Some past) jobs e = absurd cc

-- ---- it waits for copies

pub record Owing (it : Inside) (treated : SendState) (t : Treated) : Type 0 where
  pub none : group_due t.sending.owes t.jobs ≡ None
  pub is : treated ≡ noted_taken t it.sending
  pub owed : Owed
  pub owes : treated.sending.owes ≡ Some owed

pub owing_of : (it : Inside) (treated : SendState) (tables : Tables) (w : Taken it treated tables) → is_some treated.sending.owes ≡ true → Owing it treated w.t
owing_of it treated tables w e = by_behind w.behind
  where
    by_behind : Behind w.t it.sending treated → Owing it treated w.t
    by_behind (Owes none is) =
        let owed : (owed : Owed) × (w.t.sending.owes ≡ Some owed) = owes_some (now_of it) w.t w.turn_is in
        record { none = none; is = is; owed = owed.0; owes = ap (λ (s : SendState). s.sending.owes) is ∙ owed.1 }
    by_behind (Makes made due is) = absurd (let never : false ≡ true = sym (ap (λ (s : SendState). is_some s.sending.owes) is) ∙ e in cc)

pub owing_treats : (it : Inside) (treated half : SendState) (tables : Tables) (items : List Noted) → May it → (w : Taken it treated tables) → Owing it treated w.t
    → half ≡ without_notes treated → items ≡ it.notes.items ++ treated.noted → Treats (Ok true) (now_of it) (shown it half tables items it.ring)
owing_treats it treated half tables items m w o h n =
    let view : shown it half tables items it.ring ≡ took_now w.t (now_of it) =
    ap (λ (s : SendState). shown it s tables items it.ring) (h ∙ ap without_notes o.is)
    ∙ ap (λ (ns : List Noted). shown it (noted_taken w.t it.sending) tables ns it.ring) (n ∙ ap (λ (s : SendState). it.notes.items ++ s.noted) o.is)
    ∙ view_took it w.t tables m.runs.past_none m.runs.noted w.shared in
    treats_alone (now_of it) (shown it half tables items it.ring) w.t m.keeps m.still m.free w.turn_is o.none view

pub owing_runs : (it : Inside) (treated half : SendState) (tables : Tables) (handles : Table) → May it → (w : Taken it treated tables) → Owing it treated w.t
    → half ≡ without_notes treated → treated.fault ≡ None → treated.side ≡ it.sending.side → handles.side ≡ it.handles.side
    → Runs (it.taken + 1) half it.taking handles it.past
owing_runs it treated half tables handles m w o h running same table =
    let side : half.side ≡ it.sending.side = ap (λ (s : SendState). s.side) h ∙ same in
    let owes : half.sending.owes ≡ Some o.owed = ap (λ (s : SendState). s.sending.owes) h ∙ o.owes in
    record {
      handles_side = table ∙ m.runs.handles_side ∙ sym side;
      taking_side = m.runs.taking_side ∙ sym side;
      sends = ap (λ (s : SendState). s.fault) h ∙ running;
      takes = m.runs.takes;
      frames = ap (λ (s : SendState). s.frames) h ∙ ap (λ (s : SendState). s.frames) o.is ∙ m.runs.frames;
      noted = ap (λ (s : SendState). s.noted) h;
      taken_is = ap (λ (s : SendState). s.sending.taken) h ∙ ap (λ (s : SendState). s.sending.taken) o.is ∙ w.more;
      jobs = λ e. absurd (let never : Some o.owed ≡ None = sym owes ∙ e in cc);
      past_none = m.runs.past_none;
    }

-- ---- its frames are made

pub record Making (it : Inside) (treated : SendState) (t : Treated) : Type 0 where
  pub made : MadeGroup
  pub due : group_due t.sending.owes t.jobs ≡ Some made
  pub is : treated ≡ with_made made (noted_taken t it.sending)

pub making_of : (it : Inside) (treated : SendState) (tables : Tables) (w : Taken it treated tables) → is_some treated.sending.owes ≡ false → Making it treated w.t
making_of it treated tables w e = by_behind w.behind
  where
    by_behind : Behind w.t it.sending treated → Making it treated w.t
    by_behind (Owes none is) =
        let owed : (owed : Owed) × (w.t.sending.owes ≡ Some owed) = owes_some (now_of it) w.t w.turn_is in
        absurd (let never : true ≡ false = sym (ap (λ (s : SendState). is_some s.sending.owes) is ∙ ap is_some owed.1) ∙ e in cc)
    by_behind (Makes made due is) = record { made = made; due = due; is = is }

frames_are : (it : Inside) (treated : SendState) (t : Treated) (g : Making it treated t) → it.sending.frames ≡ [] → treated.frames ≡ g.made.frames
frames_are it treated t g none = ap (λ (s : SendState). s.frames) g.is ∙ ap (λ (fs : List Frame). fs ++ g.made.frames) none

-- there are places for them, and for the notes
pub making_fits : (it : Inside) (s : Now) (treated : SendState) (tables : Tables) → May it → (w : Taken it treated tables) → Making it treated w.t
    → now_of it ≡ s → s.kept.ring.acknowledged < MOST_MADE
    → AllByRecursion IsFrame treated.frames × HasPlaces it.ring (map spelling treated.frames)
making_fits it s treated tables m w g view few =
    subst (λ (fs : List Frame). AllByRecursion IsFrame fs × HasPlaces it.ring (map spelling fs)) (sym (frames_are it treated w.t g m.runs.frames))
    (made_places (took_now w.t (now_of it)) g.made w.taking.keeps g.due (subst (λ (u : Now). u.kept.ring.acknowledged < MOST_MADE) (sym view) few))

pub making_treats : (it : Inside) (treated half : SendState) (tables : Tables) (items : List Noted) (ring : RingState) → May it → (w : Taken it treated tables) → Making it treated w.t
    → half ≡ emptied treated → items ≡ it.notes.items ++ treated.noted → ring ≡ ring_push_all (map spelling treated.frames) it.ring
    → Treats (Ok true) (now_of it) (shown it half tables items ring)
making_treats it treated half tables items ring m w g h n r =
    let base : SendState = noted_taken w.t it.sending in
    let all : List Noted = it.notes.items ++ (base.noted ++ notes.Group g.made.frames g.made.copies ∷ []) in
    let view : shown it half tables items ring ≡ made_now g.made (took_now w.t (now_of it)) =
    ap (λ (s : SendState). shown it s tables items ring) (h ∙ ap emptied g.is)
    ∙ ap (λ (ns : List Noted). shown it (with_made g.made base) tables ns ring) (n ∙ ap (λ (s : SendState). it.notes.items ++ s.noted) g.is)
    ∙ ap (λ (rs : RingState). shown it (with_made g.made base) tables all rs) (r ∙ ap (λ (s : SendState). ring_push_all (map spelling s.frames) it.ring) g.is)
    ∙ view_made it base g.made tables m.runs.past_none m.runs.frames m.keeps.sound
    ∙ ap (made_now g.made) (view_took it w.t tables m.runs.past_none m.runs.noted w.shared) in
    treats_all (now_of it) (shown it half tables items ring) w.t g.made m.keeps m.still m.free w.turn_is g.due view

pub making_runs : (it : Inside) (treated half : SendState) (tables : Tables) (handles : Table) → May it → (w : Taken it treated tables) → Making it treated w.t
    → half ≡ emptied treated → treated.fault ≡ None → treated.side ≡ it.sending.side → handles.side ≡ it.handles.side
    → Runs (it.taken + 1) half it.taking handles it.past
making_runs it treated half tables handles m w g h running same table =
    let side : half.side ≡ it.sending.side = ap (λ (s : SendState). s.side) h ∙ same in
    record {
      handles_side = table ∙ m.runs.handles_side ∙ sym side;
      taking_side = m.runs.taking_side ∙ sym side;
      sends = ap (λ (s : SendState). s.fault) h ∙ running;
      takes = m.runs.takes;
      frames = ap (λ (s : SendState). s.frames) h;
      noted = ap (λ (s : SendState). s.noted) h;
      taken_is = ap (λ (s : SendState). s.sending.taken) h ∙ ap (λ (s : SendState). s.sending.taken) g.is ∙ w.more;
      jobs = λ e. ap (λ (s : SendState). s.jobs) h ∙ ap (λ (s : SendState). s.jobs) g.is;
      past_none = m.runs.past_none;
    }

-- ---- it fails

-- memory ran out before, and nothing that is kept changed
pub halts_now : (it : Inside) (s : Now) (half : SendState) (tables : Tables) (items : List Noted) (ring : RingState) (fault : ProxyFault) → now_of it ≡ s
    → (next (now_of it) ≡ Halt fault) ⊎ (fault ≡ faults.Memory) → half.side ≡ it.sending.side → half.jobs ≡ it.sending.jobs → items ≡ it.notes.items → ring ≡ it.ring
    → Fails fault s (record (shown it half tables items ring) { fault = Some fault })
halts_now it s half tables items ring fault view due side jobs noted same =
    subst (λ (u : Now). Fails fault u (record (shown it half tables items ring) { fault = Some fault })) view
    (fails_here fault (now_of it) (now_of it) (record (shown it half tables items ring) { fault = Some fault }) (goes_none (now_of it)) due (half_halts it half tables items ring fault side jobs noted same))

-- memory ran out while the frames were put into bytes
pub making_halts : (it : Inside) (s : Now) (treated half : SendState) (tables : Tables) (items : List Noted) (ring : RingState) → now_of it ≡ s → May it → (w : Taken it treated tables) → Making it treated w.t
    → without_frames half ≡ without_frames treated → treated.side ≡ it.sending.side → items ≡ it.notes.items → ring ≡ it.ring
    → Fails faults.Memory s (record (shown it half tables items ring) { fault = Some faults.Memory })
making_halts it s treated half tables items ring view m w g h same noted r =
    let none : it.sending.jobs ≡ [] = m.runs.jobs (room_of it.sending.sending.owes it.ring m.free).none in
    halts_now it s half tables items ring faults.Memory view (inr refl) (ap (λ (u : SendState). u.side) h ∙ same)
    (ap (λ (u : SendState). u.jobs) h ∙ ap (λ (u : SendState). u.jobs) g.is ∙ sym none) noted r

-- the half failed
pub refused_halts : (it : Inside) (s : Now) (half : SendState) (tables : Tables) (items : List Noted) (fault : HalfFault) → now_of it ≡ s → May it → Answered (Err fault) it tables half → items ≡ it.notes.items
    → Fails (fault_of fault) s (record (shown it half tables items it.ring) { fault = Some (fault_of fault) })
refused_halts it s half tables items fault view m h noted =
    let failed : Refused fault (next_turn (tables_in it) it.sending) (tables_in it) tables × Halts fault it.sending half =
    failed_of it.sending.fault fault (next_turn (tables_in it) it.sending) (tables_in it) tables it.sending half m.runs.sends h in
    halts_now it s half tables items it.ring (fault_of fault) view
    (halts_due (now_of it) fault (tables_in it) tables m.still m.free (subst (λ (due : turns.Turn). Refused fault due (tables_in it) tables) (due_of it m) failed.0))
    failed.1.side failed.1.jobs noted refl
