-- A side stays sound while its proxy is called and its peer gets more.
use Rattle.std.proofs.Common.{◌≡◌, List, [], ◌∷◌, Bool, Option, Some, None, Ok, refl, sym, ap, subst, ◌∙◌}
use Rattle.std.specs.List.{AllByRecursion}
use Rattle.half_model.specs.declared.items.PeerIn.{PeerIn}
use Rattle.half_model.specs.declared.items.PeerIn.TheVariants as inputs
use Rattle.half_model.specs.Jobs.{Job}
use Rattle.pair_runs.specs.Kept.{GoesOn, HasFailed}
use Rattle.pair_runs.specs.Sides.{Inside, SideState, fed_inside, rows_of, last_number, side_seen}
use Rattle.pair_runs.specs.WorkLaws.{RunsOn}
use Rattle.pair_runs.specs.Working.{Works}
use Rattle.pair_runs.proofs.Calling.{ok_done}
use Rattle.pair_runs.proofs.Refusing.{kept_by_fault}
use Rattle.pair_runs.proofs.Showing.{kept_by_calls}
use Rattle.receipt_laws.specs.Lending.{CopiesAre, LeavesCopies}
use Rattle.receipt_laws.specs.Owning.{AllOwn, BringsOwn, PutIsOwn}
use Rattle.receipt_laws.specs.OwnLaws.{Grows}
use Rattle.receipt_laws.proofs.Calls.{calls_keep_own, more_is_own}
use Rattle.receipt_laws.proofs.OutCalls.{calls_leave}
use Rattle.script_peers.specs.Peers.{ScriptedPeer}
use Rattle.script_sides.specs.Answering.{Stops}
use Rattle.script_sides.specs.Halves.{HalfState}
use Rattle.script_sides.specs.Ready.{OwnOf, HalfFits, IsSound, ReadyGoesOn}
use Rattle.script_sides.specs.Sided.{SideRun, state_of, half_loaded}
use Rattle.script_sides.proofs.Kins.{Kin, Fell, call_kin}
use Rattle.side_model.specs.declared.fault.ProxyFault.{ProxyFault}
use Rattle.side_model.specs.Events.{Event}
use Rattle.side_model.specs.State.{Now}
use Rattle.side_model.specs.Steps.{step}
use Rattle.side_model.specs.Trails.{TrailState, Keeps, TrailCalls}
use Rattle.wp_outside.specs.declared.kinds.Side.{Side}

-- ---- the copy that is out

pub half_stays : (peer : ScriptedPeer) (s t : Now) (half : Option HalfState) → ((out : Option Job) → CopiesAre out s → CopiesAre out t) → HalfFits peer s half → HalfFits peer t half
half_stays peer s t None leave h = leave None h
half_stays peer s t (Some half) leave h = record { job = h.job; copies = leave (Some h.job) h.copies; eye = h.eye; id = h.id; first = h.first; count = h.count; own = h.own; begun = h.begun }

half_more : (peer more : ScriptedPeer) (s : Now) (half : Option HalfState) → Grows (OwnOf peer) (OwnOf more) → HalfFits peer s half → HalfFits more s half
half_more peer more s None g h = h
half_more peer more s (Some half) g h = record {
  job = h.job;
  copies = h.copies;
  eye = h.eye;
  id = h.id;
  first = h.first;
  count = h.count;
  own = (more_is_own (OwnOf peer) (OwnOf more)).eye h.job.part.file h.job.part.segment half.eye g h.own;
  begun = h.begun;
}

-- ---- a good call

-- with this copy out, and asked to close or not
abbrev pub called : TrailState → Option HalfState → Bool → SideRun → SideRun
called new half asked it = record it { trail = new; half = half; asked = asked }

pub goes_on : (event : Event) (old new : TrailState) → RunsOn old → Keeps new → TrailCalls event (Ok tt) old new → RunsOn new
goes_on event old new r k calls = record { goes_on = (ok_done event old new r.goes_on calls).goes_on; keeps = k }

-- what is left as it is by a call
pub record CallsOn (it : SideRun) (new : TrailState) (out : Option HalfState) (said : Bool) : Type 0 where
  pub kin : Kin it.trail.now new.now
  pub runs : RunsOn new
  pub rows : last_number new.book.trail.lines.rows ≡ last_number it.trail.book.trail.lines.rows
  pub own : AllOwn (OwnOf it.peer) new.now
  pub half : HalfFits it.peer new.now out
  pub asked : said ≡ (side_seen 0 new).inside.asked

pub sound_call : (it : SideRun) (new : TrailState) (half : Option HalfState) (asked : Bool) → IsSound it → CallsOn it new half asked → IsSound (called new half asked it)
sound_call it new half asked s c = record {
  side = c.kin.side ∙ s.side;
  token = c.kin.token ∙ s.token;
  runs = c.runs;
  last = c.kin.last ∙ s.last ∙ sym c.rows;
  own = c.own;
  wire = s.wire;
  half = c.half;
  asked = c.asked;
}

-- by one that lends and takes back no copy
pub call_on : (event : Event) (it : SideRun) (new : TrailState) (hears : Bool) (a : SideState) (asked : Bool) → IsSound it → Keeps new → TrailCalls event (Ok tt) it.trail new
    → LeavesCopies event → Kin it.trail.now (step event it.trail.now) → BringsOwn (OwnOf it.peer) event it.trail.now → Works hears a (side_seen (half_loaded it.half) new)
    → last_number (rows_of a) ≡ last_number it.trail.book.trail.lines.rows → asked ≡ a.inside.asked → CallsOn it new it.half asked
call_on event it new hears a asked s k calls leaves kin brings w rows e =
    let r : RunsOn new = goes_on event it.trail new s.runs k calls in
    record {
      kin = call_kin event it.trail new s.runs kin calls;
      runs = r;
      rows = ap (λ lines. last_number lines.rows) w.trail.lines ∙ rows;
      own = calls_keep_own (OwnOf it.peer) event (Ok tt) it.trail new (λ none. s.own) (λ none. brings) calls r.goes_on;
      half = half_stays it.peer it.trail.now new.now it.half (λ out h. calls_leave event (Ok tt) out it.trail new leaves (λ none. h) calls r.goes_on) s.half;
      asked = e ∙ sym w.inside.asked;
    }

pub fed_asked : (item : PeerIn) (inside : Inside) → (fed_inside item inside).asked ≡ inside.asked
fed_asked (inputs.Bytes piece) inside = refl
fed_asked (inputs.Handle handle) inside = refl
fed_asked (inputs.Note note) inside = refl
fed_asked (inputs.Pipe item) inside = refl

-- ---- a peer that gets more

put_more : (old new : ScriptedPeer) → Grows (OwnOf old) (OwnOf new) → (item : PeerIn) → PutIsOwn (OwnOf old) item → PutIsOwn (OwnOf new) item
put_more old new g (inputs.Note note) k = λ number segment eye e receipt n p. g number segment receipt (k number segment eye e receipt n p)
put_more old new g (inputs.Bytes bytes) k = tt
put_more old new g (inputs.Handle handle) k = tt
put_more old new g (inputs.Pipe piped) k = tt

pub wire_more : (old new : ScriptedPeer) → Grows (OwnOf old) (OwnOf new) → (wire : List PeerIn) → AllByRecursion (PutIsOwn (OwnOf old)) wire → AllByRecursion (PutIsOwn (OwnOf new)) wire
wire_more old new g [] h = tt
wire_more old new g (item ∷ wire) h = (put_more old new g item h.0, wire_more old new g wire h.1)

pub sound_more : (it : SideRun) (peer : ScriptedPeer) → IsSound it → peer.side ≡ it.peer.side → Grows (OwnOf it.peer) (OwnOf peer) → AllByRecursion (PutIsOwn (OwnOf peer)) peer.wire
    → IsSound (record it { peer = peer })
sound_more it peer s side g wire = record {
  side = s.side ∙ sym side;
  token = s.token;
  runs = s.runs;
  last = s.last;
  own = (more_is_own (OwnOf it.peer) (OwnOf peer)).proxy it.trail.now g s.own;
  wire = wire;
  half = half_more it.peer peer it.trail.now it.half g s.half;
  asked = s.asked;
}

-- ---- a call that fails

pub stopped : (fault : ProxyFault) (old new : SideRun) → IsSound old → Keeps new.trail → Fell fault old.trail new.trail → new.peer.side ≡ old.peer.side → Stops old new fault
stopped fault old new s k f side = record {
  told = f.told;
  side = side;
  failed =
      subst (λ (it : Side). HasFailed it (state_of new) fault) (f.side ∙ s.side)
      (kept_by_fault (half_loaded new.half) fault new.trail k f.told (f.token ∙ s.token));
}

-- ---- between two calls

pub ready_goes_on : ReadyGoesOn
ready_goes_on it h =
    subst (λ (side : Side). GoesOn side (state_of it)) h.sound.side (kept_by_calls (half_loaded it.half) it.trail h.sound.runs h.sound.token h.items)
