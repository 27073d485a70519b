-- What the calls of a side's connection leave, and where a side begins.
use Rattle.std.proofs.Common.{◌≡◌, ℕ, ◌≤◌, List, [], ◌∷◌, take, length, true, false, Option, Some, None, Result, Ok, Err, OnOk, refl, sym, ap, subst, ◌∙◌, arith, inl, inr, IfErr}
use Rattle.std.specs.Option.{MatchOption}
use Rattle.std.specs.Prelude.{is_some}
use Rattle.wp_outside.specs.declared.kinds.Side.{Side}
use Rattle.pair_model.specs.Steps.{Here, here_sent}
use Rattle.pair_runs.specs.Linking.{written}
use Rattle.pair_runs.specs.Sides.{SideState, TOKEN, rows_of, last_number, side_seen}
use Rattle.pair_runs.specs.WorkLaws.{RunsOn}
use Rattle.pair_runs.proofs.Calling.{Ran, ran_by, up_is, down_is, sends_is}
use Rattle.pair_runs.proofs.Refusing.{up_fails, up_limits, lends_fails}
use Rattle.pair_runs.specs.Whys.{RefusesPiece}
use Rattle.pair_runs.proofs.Showing.{nothing_lent}
use Rattle.proxy_trail.specs.Kept.{lent_bytes}
use Rattle.proxy_trail.proofs.Calling.{up_changed}
use Rattle.receipt_laws.proofs.Calls.{own_at_first, calls_keep_own, steps_keep_own, sends_keep_own}
use Rattle.receipt_laws.proofs.OutCalls.{none_out_at_first, calls_leave, steps_leave, sends_leave}
use Rattle.script_sides.specs.Answering.{Stays, Leaves}
use Rattle.script_sides.specs.Linked.{LinesUp, UpIsLimited, IsUp, LeavesUp, HasNoFront}
use Rattle.script_sides.specs.Ready.{OwnOf, IsSound, IsReady}
use Rattle.script_sides.specs.Sided.{SideRun, state_of, first_run, half_loaded, is_up, lent_of, room_of}
use Rattle.script_sides.proofs.Kins.{Kin, kin_then, part_kin, call_fell, lend_fell, last_written, last_up}
use Rattle.script_sides.proofs.Sounds.{half_stays, goes_on, sound_call, stopped}
use Rattle.side_model.specs.declared.fault.ProxyFault.{ProxyFault}
use Rattle.side_model.specs.Calls.{Part}
use Rattle.side_model.specs.Events.{Event, Up, Down, Went, Chose}
use Rattle.side_model.specs.RowLaws.{AtMostChose}
use Rattle.side_model.specs.Shows.{front_of, front_here, unless_fault}
use Rattle.side_model.specs.Sound.{Admits}
use Rattle.side_model.specs.State.{Now}
use Rattle.side_model.specs.Steps.{step}
use Rattle.side_model.specs.Trails.{TrailState, with_notes, Keeps, TrailCalls, trail_step, Sends, Lends, RunsLends, LendsAfter, lent_room}
use Rattle.side_model.proofs.Calms.{up_rests, went_then_chooses}
use Rattle.side_model.proofs.RowProofs.{none_after}
use Rattle.side_model.proofs.TrailParts.{keeps_at_first}

-- ---- at first

pub first_ready : (side : Side) → IsReady (first_run side)
unfolding TOKEN
first_ready side = record {
  sound = record {
    side = refl;
    token = refl;
    runs = record { goes_on = refl; keeps = keeps_at_first side TOKEN refl };
    last = refl;
    own = own_at_first (OwnOf (first_run side).peer) side TOKEN refl;
    wire = tt;
    half = none_out_at_first side TOKEN refl;
    asked = refl;
  };
  items = refl;
  receipts = refl;
}

-- ---- which of two cases

pub running : (fault : Option ProxyFault) (P : Type 0) (Q : ProxyFault → Type 0) → fault ≡ None → MatchOption fault P Q → P
running None P Q e h = h
running (Some fault) P Q e h = absurd cc

-- ---- a connection goes down

abbrev pub with_trail : TrailState → SideRun → SideRun
with_trail new it = record it { trail = new }

pub down_ready : (it : SideRun) (new : TrailState) → IsReady it → new ≡ trail_step Down it.trail → Keeps new → IsReady (with_trail new it)
unfolding step
down_ready it new h e k =
    subst (λ (t : TrailState). IsReady (with_trail t it)) (sym e) (record {
      sound = record {
        side = h.sound.side;
        token = h.sound.token;
        runs = record { goes_on = h.sound.runs.goes_on; keeps = subst (λ (t : TrailState). Keeps t) e k };
        last = h.sound.last;
        own = steps_keep_own (OwnOf it.peer) Down it.trail (λ none. h.sound.own) (λ none. tt) h.sound.runs.goes_on;
        wire = h.sound.wire;
        half = half_stays it.peer it.trail.now (trail_step Down it.trail).now it.half (λ out c. steps_leave Down out it.trail tt (λ none. c) h.sound.runs.goes_on) h.sound.half;
        asked = h.sound.asked;
      };
      items = h.items;
      receipts = h.receipts;
    })

pub down_same : (it : SideRun) (new : TrailState) → new ≡ trail_step Down it.trail → state_of (with_trail new it) ≡ state_of it
down_same it new e = ap (λ (t : TrailState). side_seen (half_loaded it.half) t) e ∙ down_is (half_loaded it.half) it.trail

pub down_down : (it : SideRun) (new : TrailState) → new ≡ trail_step Down it.trail → is_up (with_trail new it) ≡ false
unfolding step
down_down it new e = ap (λ (t : TrailState). is_some t.now.live.here) e

-- ---- and comes up

none_here : (here : Option Here) → is_some here ≡ false → here ≡ None
none_here None e = refl
none_here (Some here) e = absurd cc

pub up_lines : (it : SideRun) (new : TrailState) (connection : ℕ) (result : Result Unit ProxyFault) → IsReady it → is_up it ≡ false → TrailCalls (Up connection) result it.trail new
    → LinesUp connection (state_of it) (state_of (with_trail new it)) result
up_lines it new connection (Ok done) h down calls = up_is (half_loaded it.half) connection it.trail new h.sound.runs (none_here it.trail.now.live.here down) calls
up_lines it new connection (Err fault) h down calls = λ n. up_fails (half_loaded it.half) connection fault it.trail new h.sound.runs (none_here it.trail.now.live.here down) calls

pub up_limited : (it : SideRun) (new : TrailState) (connection : ℕ) (result : Result Unit ProxyFault) → IsReady it → is_up it ≡ false → TrailCalls (Up connection) result it.trail new → UpIsLimited connection result
up_limited it new connection (Ok done) h down calls = up_limits.good connection it.trail new h.sound.runs calls
up_limited it new connection (Err fault) h down calls = λ e.
    up_limits.bad connection it.trail new h.sound.runs (none_here it.trail.now.live.here down) (subst (λ (f : ProxyFault). TrailCalls (Up connection) (Err f) it.trail new) e calls)

-- nothing is due behind it
up_now : (connection : ℕ) (old new : TrailState) → RunsOn old → old.now.live.here ≡ None → TrailCalls (Up connection) (Ok tt) old new → new.now ≡ with_notes [] (step (Up connection) old.now)
up_now connection old new r none calls =
    let run : Ran (Up connection) old new = ran_by (Up connection) old new r calls in
    let s : Now = step (Up connection) old.now in
    let empty : run.events ≡ [] = none_after s run.last run.events (up_rests old.now connection none (r.keeps.runs r.goes_on).rests) run.row.0 in
    let last : run.last ≡ s = subst (λ (events : List Event). Part s events run.last) empty run.row.0 in
    run.now ∙ ap (with_notes []) last

up_is_up : (it : SideRun) (new : TrailState) (connection : ℕ) → IsReady it → is_up it ≡ false → Keeps new → TrailCalls (Up connection) (Ok tt) it.trail new → IsUp it (with_trail new it)
unfolding step
up_is_up it new connection h down k calls =
    let none : it.trail.now.live.here ≡ None = none_here it.trail.now.live.here down in
    let s : IsSound it = h.sound in
    let r : RunsOn new = goes_on (Up connection) it.trail new s.runs k calls in
    let now : new.now ≡ with_notes [] (step (Up connection) it.trail.now) = up_now connection it.trail new s.runs none calls in
    let seen = up_is (half_loaded it.half) connection it.trail new s.runs none calls in
    record {
      ready = record {
        sound = record {
          side = ap (λ (n : Now). n.side) now ∙ s.side;
          token = ap (λ (n : Now). n.token) now ∙ s.token;
          runs = r;
          last = ap (λ (n : Now). n.kept.last) now ∙ sym (ap (λ (a : SideState). last_number (rows_of a)) seen ∙ last_up connection it.trail.book.trail.lines.rows);
          own = calls_keep_own (OwnOf it.peer) (Up connection) (Ok tt) it.trail new (λ e. s.own) (λ e. tt) calls r.goes_on;
          wire = s.wire;
          half = half_stays it.peer it.trail.now new.now it.half (λ out c. calls_leave (Up connection) (Ok tt) out it.trail new tt (λ e. c) calls r.goes_on) s.half;
          asked = s.asked ∙ sym (ap (λ (a : SideState). a.inside.asked) seen);
        };
        items = ap (λ (n : Now). n.live.items) now ∙ h.items;
        receipts = ap (λ (n : Now). n.live.receipts) now ∙ h.receipts;
      };
      side = refl;
      up = ap (λ (n : Now). is_some n.live.here) now;
    }

pub up_leaves : (it : SideRun) (new : TrailState) (connection : ℕ) (result : Result Unit ProxyFault) → IsReady it → is_up it ≡ false → Keeps new → TrailCalls (Up connection) result it.trail new → LeavesUp result it (with_trail new it)
up_leaves it new connection (Ok done) h down k calls = up_is_up it new connection h down k calls
up_leaves it new connection (Err fault) h down k calls = λ n. stopped fault it (with_trail new it) h.sound k (call_fell (Up connection) fault it.trail new h.sound.runs calls) refl

-- ---- room is made

room_made : (it : SideRun) (new : TrailState) → IsReady it → Lends (Ok tt) it.trail new → new ≡ lent_room it.trail
room_made it new h lends =
    let d : RunsLends (Ok tt) it.trail new = subst (λ (fault : Option ProxyFault). LendsAfter fault (Ok tt) it.trail new) h.sound.runs.goes_on lends in
    d.1

pub room_lent : (it : SideRun) (new : TrailState) (result : Result Unit ProxyFault) → IsReady it → Lends result it.trail new → OnOk result (lent_of (with_trail new it) ≡ lent_of it)
room_lent it new (Ok done) h lends = ap lent_bytes (room_made it new h lends)
room_lent it new (Err fault) h lends = tt

-- why none is made
pub room_refuses : (it : SideRun) (new : TrailState) (result : Result Unit ProxyFault) → IsReady it → Lends result it.trail new → IfErr result (λ fault. RefusesPiece fault (state_of (with_trail new it)).book.trail)
room_refuses it new (Ok done) h lends = tt
room_refuses it new (Err fault) h lends = (lends_fails (half_loaded it.half) fault it.trail new h.sound.runs lends).0

pub room_leaves : (it : SideRun) (new : TrailState) (result : Result Unit ProxyFault) → IsReady it → Keeps new → Lends result it.trail new → Leaves result it (with_trail new it)
room_leaves it new (Ok done) h k lends =
    let e : new ≡ lent_room it.trail = room_made it new h lends in
    subst (λ (t : TrailState). Stays it (with_trail t it)) (sym e) (record {
      ready = record {
        sound = record {
          side = h.sound.side;
          token = h.sound.token;
          runs = record { goes_on = h.sound.runs.goes_on; keeps = subst (λ (t : TrailState). Keeps t) e k };
          last = h.sound.last;
          own = h.sound.own;
          wire = h.sound.wire;
          half = h.sound.half;
          asked = h.sound.asked;
        };
        items = h.items;
        receipts = h.receipts;
      };
      side = refl;
      up = refl;
    })
room_leaves it new (Err fault) h k lends = λ n. stopped fault it (with_trail new it) h.sound k (lend_fell fault it.trail new h.sound.runs lends) refl

-- ---- bytes are sent

pub some_here : (here : Option Here) → is_some here ≡ true → (it : Here) × (here ≡ Some it)
some_here None e = absurd cc
some_here (Some here) e = (here, refl)

front_lent : (it : SideRun) (here : Here) → IsReady it → it.trail.now.live.here ≡ Some here → lent_of it ≡ here.front
front_lent it here h e =
    ap (λ (fault : Option ProxyFault). unless_fault fault (front_of it.trail.now) []) h.sound.runs.goes_on
    ∙ ap (λ (fault : Option ProxyFault). unless_fault fault (front_here it.trail.now.live.here) []) (h.sound.runs.keeps.runs h.sound.runs.goes_on).fault
    ∙ ap front_here e

pub sent_is : (it : SideRun) (new : TrailState) (n : ℕ) → IsReady it → is_up it ≡ true → n ≤ room_of it → Sends n it.trail new → state_of (with_trail new it) ≡ written (take n (lent_of it)) (state_of it)
sent_is it new n h up few d =
    let here = some_here it.trail.now.live.here up in
    sends_is (half_loaded it.half) n here.0 it.trail new h.sound.runs here.1 few d
    ∙ ap (λ (bytes : List ℕ). written (take n bytes) (state_of it)) (sym (front_lent it here.0 h here.1))

-- what nothing but the link's events changes
record Calm (s t : Now) : Type 0 where
  items : t.live.items ≡ s.live.items
  receipts : t.live.receipts ≡ s.live.receipts

went_calm : (n : ℕ) (s : Now) → Calm s (step (Went n) s)
unfolding step
went_calm n s = record { items = refl; receipts = refl }

chose_calm : (s t : Now) (events : List Event) → Part s events t → AtMostChose events → Calm s t
unfolding step
chose_calm s t events p (inl e) =
    let same : t ≡ s = subst (λ (es : List Event). Part s es t) e p in
    record { items = ap (λ (u : Now). u.live.items) same; receipts = ap (λ (u : Now). u.live.receipts) same }
chose_calm s t events p (inr e) =
    let part : Part s (Chose ∷ []) t = subst (λ (es : List Event). Part s es t) e p in
    record { items = ap (λ (u : Now). u.live.items) part.1; receipts = ap (λ (u : Now). u.live.receipts) part.1 }

went_kin : (n : ℕ) (s : Now) → Kin s (step (Went n) s)
unfolding step
went_kin n s = record { side = refl; token = refl; last = refl; up = up_changed (here_sent n) s.live.here }

pub sent_stays : (it : SideRun) (new : TrailState) (n : ℕ) → IsReady it → is_up it ≡ true → n ≤ room_of it → Keeps new → Sends n it.trail new → Stays it (with_trail new it)
sent_stays it new n h up few k d =
    let s : IsSound it = h.sound in
    let on = s.runs.keeps.runs s.runs.goes_on in
    let seen = sent_is it new n h up few d in
    let here = some_here it.trail.now.live.here up in
    let front : front_of it.trail.now ≡ front_here it.trail.now.live.here = ap (λ (fault : Option ProxyFault). unless_fault fault (front_here it.trail.now.live.here) []) on.fault in
    let admits : Admits (Went n) it.trail.now = omega (arith, few, on.lent, ap length front) in
    let calm : Calm (step (Went n) it.trail.now) new.now =
    chose_calm (step (Went n) it.trail.now) new.now d.events d.row.0 (went_then_chooses it.trail.now new.now n d.events on.sound admits on.rests d.row) in
    let went : Calm it.trail.now (step (Went n) it.trail.now) = went_calm n it.trail.now in
    let kin : Kin it.trail.now new.now = kin_then it.trail.now (step (Went n) it.trail.now) new.now (went_kin n it.trail.now) (part_kin (step (Went n) it.trail.now) new.now d.events d.row.0) in
    record {
      ready = record {
        sound = sound_call it new it.half it.asked s (record {
          kin = kin;
          runs = record { goes_on = d.goes_on; keeps = k };
          rows = ap (λ (a : SideState). last_number (rows_of a)) seen ∙ last_written (take n (lent_of it)) it.trail.book.trail.lines.rows;
          own = sends_keep_own (OwnOf it.peer) n it.trail new s.runs.goes_on (λ e. s.own) d d.goes_on;
          half = half_stays it.peer it.trail.now new.now it.half (λ out c. sends_leave n out it.trail new s.runs.goes_on (λ e. c) d d.goes_on) s.half;
          asked = s.asked ∙ sym (ap (λ (a : SideState). a.inside.asked) seen);
        });
        items = calm.items ∙ went.items ∙ h.items;
        receipts = calm.receipts ∙ went.receipts ∙ h.receipts;
      };
      side = refl;
      up = kin.up;
    }

-- ---- nothing is to be sent

pub no_front : (it : SideRun) → IsReady it → is_up it ≡ true → lent_of it ≡ [] → HasNoFront (state_of it)
no_front it h up e =
    let here = some_here it.trail.now.live.here up in
    nothing_lent (half_loaded it.half) here.0 it.trail h.sound.runs h.sound.token here.1
    (sym (ap (λ (fault : Option ProxyFault). unless_fault fault (front_of it.trail.now) []) h.sound.runs.goes_on) ∙ e)
