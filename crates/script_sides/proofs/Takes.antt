-- What it comes to that a side takes the next item of its peer's wire.
use Rattle.std.proofs.Common.{◌≡◌, ℕ, ◌-◌, ◌≤◌, List, [], ◌∷◌, Bool, true, false, Option, Some, Ok, refl, sym, ap, subst, ◌∙◌, arith, inr}
use Rattle.half_model.specs.declared.items.PeerIn.{PeerIn}
use Rattle.pair_runs.specs.Sides.{fed, wants}
use Rattle.pair_runs.specs.Taking.{Cut, Taker}
use Rattle.pair_runs.specs.Working.{Works, WorksInPart}
use Rattle.pair_runs.proofs.Showing.{wants_is}
use Rattle.proxy_trail.specs.Kept.{wants_peer}
use Rattle.receipt_laws.specs.Owning.{PutIsOwn}
use Rattle.receipt_laws.specs.OwnLaws.{Grows}
use Rattle.script_peers.specs.Owning.{IsOwnReceipt}
use Rattle.script_peers.specs.Peers.{ScriptedPeer}
use Rattle.script_peers.specs.declared.item_queue.WireItem.{WireItem}
use Rattle.script_sides.specs.Answering.{Stays}
use Rattle.script_sides.specs.Ready.{OwnOf, IsReady}
use Rattle.script_sides.specs.Sided.{SideRun, state_of, taker_of, half_loaded, is_up}
use Rattle.script_sides.specs.Takings.{TakesOne, TakesNothing, TakesNext, TookSome}
use Rattle.script_sides.proofs.Sounds.{wire_more, sound_more}
use Rattle.script_sides.proofs.Wires.{Off, off_own, Onward, one_more}
use Rattle.shm_pools.specs.Files.{FileState}
use Rattle.side_model.specs.declared.fault.ProxyFault.{ProxyFault}
use Rattle.side_model.specs.Shows as shows
use Rattle.side_model.specs.Shows.{unless_fault}

-- a peer whose wire alone changed
abbrev pub with_peer : ScriptedPeer → SideRun → SideRun
with_peer peer it = record it { peer = peer }

off_grows : (old peer : ScriptedPeer) → peer ≡ record old { wire = peer.wire } → Grows (OwnOf old) (OwnOf peer)
off_grows old peer e = λ number segment receipt own. subst (λ (files : List FileState). IsOwnReceipt number segment receipt files) (sym (ap (λ (p : ScriptedPeer). p.own.files) e)) own

pub off_ready : (most : ℕ) (it : SideRun) (peer : ScriptedPeer) (one : WireItem) → IsReady it → Off most it.peer.wire peer.wire one → peer ≡ record it.peer { wire = peer.wire } → IsReady (with_peer peer it)
off_ready most it peer one h off e = record {
  sound =
      sound_more it peer h.sound (ap (λ (p : ScriptedPeer). p.side) e) (off_grows it.peer peer e)
      (wire_more it.peer peer (off_grows it.peer peer e) peer.wire (off_own (OwnOf it.peer) most it.peer.wire peer.wire one off h.sound.wire).1);
  items = h.items;
  receipts = h.receipts;
}

pub off_item : (most : ℕ) (it : SideRun) (peer : ScriptedPeer) (one : WireItem) → IsReady it → Off most it.peer.wire peer.wire one → peer ≡ record it.peer { wire = peer.wire } → PutIsOwn (OwnOf peer) one.item
off_item most it peer one h off e =
    (wire_more it.peer peer (off_grows it.peer peer e) (one.item ∷ []) ((off_own (OwnOf it.peer) most it.peer.wire peer.wire one off h.sound.wire).0, tt)).0

pub wants_by : (b : Bool) (it : SideRun) → IsReady it → wants_peer it.trail ≡ b → wants (state_of it) ≡ b
wants_by b it h e =
    wants_is (half_loaded it.half) it.trail h.sound.runs
    ∙ sym (ap (λ (fault : Option ProxyFault). unless_fault fault (shows.wants_peer it.trail.now) false) h.sound.runs.goes_on) ∙ e

pub takes_none : (most : ℕ) (it : SideRun) → IsReady it → wants_peer it.trail ≡ false → TakesNothing most (taker_of it) (taker_of it)
takes_none most it h e = record { none = inr (inr (wants_by false it h e)); same = refl }

-- the item is fed
pub takes_works : (most : ℕ) (it : SideRun) (peer : ScriptedPeer) (one : WireItem) (last : SideRun) → wants (state_of it) ≡ true → Off most it.peer.wire peer.wire one → last.peer.wire ≡ peer.wire
    → Works false (fed one.item (state_of it)) (state_of last) → TakesOne most (taker_of it) (taker_of last) (λ cut. (one.cost ≡ cut.cost) × Works false (fed cut.item (taker_of it).side) (taker_of last).side)
takes_works most it peer one last w off wire works = record {
  some = off.some;
  wants = w;
  item = off.item;
  rest = off.rest;
  front = off.front;
  wire = wire ∙ off.wire;
  behind = (off.cost, subst (λ (item : PeerIn). Works false (fed item (state_of it)) (state_of last)) off.is works);
}

pub takes_part : (most : ℕ) (it : SideRun) (peer : ScriptedPeer) (one : WireItem) (last : SideRun) → wants (state_of it) ≡ true → Off most it.peer.wire peer.wire one → last.peer.wire ≡ peer.wire
    → (fault : ProxyFault) → WorksInPart false (Some one.item) fault (fed one.item (state_of it)) (state_of last) → TakesOne most (taker_of it) (taker_of last) (λ cut. WorksInPart false (Some cut.item) fault (fed cut.item (taker_of it).side) (taker_of last).side)
takes_part most it peer one last w off wire fault part = record {
  some = off.some;
  wants = w;
  item = off.item;
  rest = off.rest;
  front = off.front;
  wire = wire ∙ off.wire;
  behind = subst (λ (item : PeerIn). WorksInPart false (Some item) fault (fed item (state_of it)) (state_of last)) off.is part;
}

-- ---- one after another

-- what is taken now may be taken
takes_some : (most left : ℕ) (a b : Taker) (Behind : Cut → Type 0) → left ≤ most → TakesOne left a b Behind → TookSome most a
takes_some most left a b Behind few one = record {
  some = omega (arith, few, one.some);
  wants = one.wants;
  front = λ e. absurd (let never : one.item ∷ one.rest ≡ [] = sym one.front ∙ e in cc);
}

-- what was taken up to now
pub record TakesOn (most : ℕ) (first : SideRun) (left : ℕ) (it : SideRun) (took : Bool) : Type 0 where
  pub ready : IsReady it
  pub side : it.peer.side ≡ first.peer.side
  pub up : is_up it ≡ is_up first
  pub onward : Onward most (taker_of first) left (taker_of it)
  pub few : left ≤ most
  pub none : took ≡ false → taker_of it ≡ taker_of first
  pub some : took ≡ true → TookSome most (taker_of first)

pub takes_first : (most : ℕ) (it : SideRun) → IsReady it → TakesOn most it most it false
takes_first most it h = record {
  ready = h;
  side = refl;
  up = refl;
  onward = λ c stop all. all;
  few = omega arith;
  none = λ e. refl;
  some = λ e. absurd (let never : false ≡ true = e in cc);
}

pub takes_more : (most : ℕ) (first : SideRun) (left : ℕ) (it : SideRun) (took : Bool) (cost : ℕ) (next : SideRun) → TakesOn most first left it took → TakesNext left (taker_of it) (taker_of next) (Ok (Some cost)) → Stays it next
    → TakesOn most first (left - cost) next true
takes_more most first left it took cost next on one stays = record {
  ready = stays.ready;
  side = stays.side ∙ on.side;
  up = stays.up ∙ on.up;
  onward = λ c stop all. on.onward c stop (one_more left (taker_of it) (taker_of next) c stop cost one all);
  few = omega (arith, on.few);
  none = λ e. absurd (let never : true ≡ false = e in cc);
  some = λ e. by_took took refl;
}
  where
    now : TookSome most (taker_of it)
    now = takes_some most left (taker_of it) (taker_of next) (λ (cut : Cut). (cost ≡ cut.cost) × Works false (fed cut.item (taker_of it).side) (taker_of next).side) on.few one

    by_took : (b : Bool) → took ≡ b → TookSome most (taker_of first)
    by_took true e = on.some e
    by_took false e = subst (λ (taker : Taker). TookSome most taker) (on.none e) now
