-- What the calls of a side come to that bring something to its proxy, where all that the proxy makes is given behind it.
use Rattle.std.proofs.Common.{◌≡◌, ℕ, List, [], Bool, true, false, Option, Some, None, Ok, Err, refl, sym, ap, subst, ◌∙◌, arith}
use Rattle.half_model.specs.declared.items.PeerIn.{PeerIn}
use Rattle.pair_runs.specs.Linking.{read}
use Rattle.pair_runs.specs.Moves.{ClosedBy}
use Rattle.pair_runs.specs.Sides.{SideState, fed, asked, wants}
use Rattle.pair_runs.specs.Working.{Works, WorksInPart}
use Rattle.pair_runs.proofs.Calling.{fed_works, came_works, asks_works}
use Rattle.pair_runs.proofs.Composing.{works_then}
use Rattle.pair_runs.proofs.Failing.{fed_fails, came_fails, asks_fails}
use Rattle.pair_runs.proofs.More.{gives_no_more}
use Rattle.pair_runs.proofs.Showing.{wants_is}
use Rattle.proxy_trail.specs.Kept.{wants_peer}
use Rattle.side_model.specs.Shows as shows
use Rattle.side_model.specs.Shows.{unless_fault}
use Rattle.receipt_laws.specs.Owning.{PutIsOwn}
use Rattle.script_sides.specs.Answering.{Stays, Stops}
use Rattle.script_sides.specs.Giving.{Gives}
use Rattle.script_sides.specs.Linked.{Hears}
use Rattle.script_sides.specs.Ready.{OwnOf, IsSound, IsReady}
use Rattle.script_sides.specs.Sided.{SideRun, state_of, half_loaded, is_up}
use Rattle.script_sides.proofs.Kins.{call_fell, fed_kin, came_kin, handed_kin, last_read}
use Rattle.script_sides.proofs.Links.{with_trail, some_here}
use Rattle.script_sides.proofs.Sounds.{CallsOn, call_on, sound_call, fed_asked, stopped}
use Rattle.side_model.specs.declared.fault.ProxyFault.{ProxyFault}
use Rattle.side_model.specs.Events.{Fed, Came, Asks}
use Rattle.side_model.specs.Steps.{step}
use Rattle.side_model.specs.Trails.{TrailState, Keeps, TrailCalls}
use Rattle.side_model.specs.Sound.{Admits, IsItem}
use Rattle.transfer_frames.specs.Numbers.{IsWord}

-- a good call of the proxy, before what it made is given
pub record Brought (hears : Bool) (a : SideState) (old mid : SideRun) : Type 0 where
  pub sound : IsSound mid
  pub works : Works hears a (state_of mid)
  pub quiet : hears ≡ false → mid.trail.now.live.items ≡ []
  pub side : mid.peer.side ≡ old.peer.side
  pub up : is_up mid ≡ is_up old

-- and behind that
pub record Ended (hears : Bool) (a : SideState) (old last : SideRun) : Type 0 where
  pub works : Works hears a (state_of last)
  pub stays : Stays old last

pub ended : (hears : Bool) (a : SideState) (old mid last : SideRun) → Brought hears a old mid → Gives mid last → IsReady last → Ended hears a old last
ended hears a old mid last b g r = record {
  works = by_hears hears refl;
  stays = record { ready = r; side = g.side ∙ b.side; up = g.up ∙ b.up };
}
  where
    by_hears : (h : Bool) → hears ≡ h → Works hears a (state_of last)
    by_hears true e = subst (λ (h : Bool). Works h a (state_of last)) (sym e) (works_then true a (state_of mid) (state_of last) (subst (λ (h : Bool). Works h a (state_of mid)) e b.works) g.works)
    by_hears false e = subst (λ (s : SideState). Works hears a s) (sym (g.silent (b.quiet e))) b.works

-- ---- an item

-- a proxy takes where its side in the run wants to
pub wants_of : (it : SideRun) → IsReady it → wants (state_of it) ≡ true → wants_peer it.trail ≡ true
wants_of it h e =
    ap (λ (fault : Option ProxyFault). unless_fault fault (shows.wants_peer it.trail.now) false) h.sound.runs.goes_on
    ∙ sym (wants_is (half_loaded it.half) it.trail h.sound.runs) ∙ e

pub admits_fed : (item : PeerIn) (it : SideRun) → IsReady it → wants (state_of it) ≡ true → IsItem item → Admits (Fed item) it.trail.now
admits_fed item it h e i = (sym (wants_is (half_loaded it.half) it.trail h.sound.runs) ∙ e, i)

pub word_0 : IsWord 0
word_0 = omega arith

pub fed_brought : (item : PeerIn) (it : SideRun) (new : TrailState) → IsReady it → Admits (Fed item) it.trail.now → PutIsOwn (OwnOf it.peer) item → Keeps new → TrailCalls (Fed item) (Ok tt) it.trail new → Brought false (fed item (state_of it)) it (with_trail new it)
fed_brought item it new h admits own k calls =
    let works = fed_works (half_loaded it.half) item it.trail new h.sound.runs admits calls in
    let on : CallsOn it new it.half it.asked =
    call_on (Fed item) it new false (fed item (state_of it)) it.asked h.sound k calls tt (fed_kin item it.trail.now) own works refl (h.sound.asked ∙ sym (fed_asked item (state_of it).inside)) in
    record {
      sound = sound_call it new it.half it.asked h.sound on;
      works = works;
      quiet = λ e. gives_no_more.fed item it.trail new h.sound.runs calls ∙ h.items;
      side = refl;
      up = on.kin.up;
    }

pub fed_stops : (item : PeerIn) (it : SideRun) (new : TrailState) (fault : ProxyFault) → IsReady it → Admits (Fed item) it.trail.now → TrailCalls (Fed item) (Err fault) it.trail new → WorksInPart false (Some item) fault (fed item (state_of it)) (state_of (with_trail new it))
fed_stops item it new fault h admits calls = fed_fails (half_loaded it.half) item fault it.trail new h.sound.runs h.sound.token admits calls

-- ---- bytes of the connection

pub came_brought : (piece : List ℕ) (it : SideRun) (new : TrailState) → IsReady it → Admits (Came piece) it.trail.now → is_up it ≡ true → Keeps new → TrailCalls (Came piece) (Ok tt) it.trail new → Brought true (read piece (state_of it)) it (with_trail new it)
came_brought piece it new h admits up k calls =
    let here = some_here it.trail.now.live.here up in
    let works = came_works (half_loaded it.half) piece here.0 it.trail new h.sound.runs admits here.1 calls in
    let on : CallsOn it new it.half it.asked =
    call_on (Came piece) it new true (read piece (state_of it)) it.asked h.sound k calls tt (came_kin piece it.trail.now) tt works (last_read piece it.trail.book.trail.lines.rows) h.sound.asked in
    record {
      sound = sound_call it new it.half it.asked h.sound on;
      works = works;
      quiet = λ e. absurd (let never : true ≡ false = e in cc);
      side = refl;
      up = on.kin.up;
    }

pub came_stops : (piece : List ℕ) (it : SideRun) (new : TrailState) (fault : ProxyFault) → IsReady it → Admits (Came piece) it.trail.now → is_up it ≡ true → TrailCalls (Came piece) (Err fault) it.trail new
    → Hears piece (state_of it) (state_of (with_trail new it)) (Err fault)
came_stops piece it new fault h admits up calls = λ n.
    let here = some_here it.trail.now.live.here up in
    came_fails (half_loaded it.half) piece here.0 fault it.trail new h.sound.runs h.sound.token admits here.1 calls

-- ---- the wish to close

-- it is asked to close now
abbrev pub asking : TrailState → SideRun → SideRun
asking new it = record it { trail = new; asked = true }

pub asks_brought : (reason : ℕ) (it : SideRun) (new : TrailState) → IsReady it → Admits (Asks reason) it.trail.now → Keeps new → TrailCalls (Asks reason) (Ok tt) it.trail new → Brought false (asked (state_of it)) it (asking new it)
unfolding step
asks_brought reason it new h admits k calls =
    let works = asks_works (half_loaded it.half) reason it.trail new h.sound.runs admits calls in
    let on : CallsOn it new it.half true =
    call_on (Asks reason) it new false (asked (state_of it)) true h.sound k calls tt (handed_kin (Asks reason) it.trail.now refl refl) tt works refl refl in
    record {
      sound = sound_call it new it.half true h.sound on;
      works = works;
      quiet = λ e. gives_no_more.asks reason it.trail new h.sound.runs calls ∙ h.items;
      side = refl;
      up = on.kin.up;
    }

-- ---- calls that fail

pub fed_fell : (item : PeerIn) (it : SideRun) (new : TrailState) (fault : ProxyFault) → IsReady it → Keeps new → TrailCalls (Fed item) (Err fault) it.trail new → Stops it (with_trail new it) fault
fed_fell item it new fault h k calls = stopped fault it (with_trail new it) h.sound k (call_fell (Fed item) fault it.trail new h.sound.runs calls) refl

pub came_fell : (piece : List ℕ) (it : SideRun) (new : TrailState) (fault : ProxyFault) → IsReady it → Keeps new → TrailCalls (Came piece) (Err fault) it.trail new → Stops it (with_trail new it) fault
came_fell piece it new fault h k calls = stopped fault it (with_trail new it) h.sound k (call_fell (Came piece) fault it.trail new h.sound.runs calls) refl

pub asks_fell : (reason : ℕ) (it : SideRun) (new : TrailState) (fault : ProxyFault) → IsReady it → Keeps new → TrailCalls (Asks reason) (Err fault) it.trail new → Stops it (asking new it) fault
asks_fell reason it new fault h k calls = stopped fault it (asking new it) h.sound k (call_fell (Asks reason) fault it.trail new h.sound.runs calls) refl

pub asks_stops : (reason : ℕ) (it : SideRun) (new : TrailState) (fault : ProxyFault) → IsReady it → Admits (Asks reason) it.trail.now → TrailCalls (Asks reason) (Err fault) it.trail new → WorksInPart false None fault (asked (state_of it)) (state_of (asking new it))
asks_stops reason it new fault h admits calls = asks_fails (half_loaded it.half) reason fault it.trail new h.sound.runs h.sound.token admits calls

-- ---- asked for the first time

pub closes : (a b : SideState) → a.inside.asked ≡ false → Works false (asked a) b → ClosedBy a.inside.asked None a b
closes a b e w = subst (λ (said : Bool). ClosedBy said None a b) (sym e) w

pub closes_not : (fault : ProxyFault) (a b : SideState) → a.inside.asked ≡ false → WorksInPart false None fault (asked a) b → ClosedBy a.inside.asked (Some fault) a b
closes_not fault a b e p = subst (λ (said : Bool). ClosedBy said (Some fault) a b) (sym e) p
