-- What it comes to that a proxy gives its peer an item.
use Rattle.std.proofs.Common.{◌≡◌, ℕ, ◌+◌, ◌<◌, List, [], ◌∷◌, ◌++◌, drop, length, true, false, Some, None, refl, sym, ap, subst, ◌∙◌, arith}
use Rattle.std.specs.List.{AllByRecursion}
use Rattle.std.specs.Option.{MatchOption}
use Rattle.half_model.specs.declared.items.PeerIn.{PeerIn}
use Rattle.half_model.specs.declared.items.PeerOut.{PeerOut}
use Rattle.half_model.specs.declared.items.PeerOut.TheVariants as outputs
use Rattle.half_model.specs.declared.notes.CopyRecord.{CopyRecord}
use Rattle.pair_runs.specs.WorkLaws.{RunsOn}
use Rattle.pair_runs.proofs.Composing.{works_same, works_then}
use Rattle.pair_runs.proofs.Handing.{gave_works}
use Rattle.receipt_laws.specs.Owning.{GivenIsOwn, PutIsOwn}
use Rattle.receipt_laws.specs.OwnLaws.{Grows}
use Rattle.receipt_laws.proofs.Calls.{steps_keep_own, gives_own}
use Rattle.receipt_laws.proofs.OutCalls.{steps_leave}
use Rattle.script_peers.specs.Peers.{ScriptedPeer, gave, IsForPeer}
use Rattle.script_peers.proofs.Keeping.{receipts_are_own}
use Rattle.script_sides.specs.Giving.{less, given, GivesNext, to_give, Gives}
use Rattle.script_sides.specs.Ready.{OwnOf, IsSound, IsReady}
use Rattle.script_sides.specs.Sided.{SideRun, state_of, half_loaded}
use Rattle.script_sides.proofs.Kins.{gave_kin}
use Rattle.script_sides.proofs.Links.{running}
use Rattle.script_sides.proofs.Sounds.{half_stays, sound_call, sound_more, wire_more}
use Rattle.side_model.specs.Events.{Gave}
use Rattle.side_model.specs.Follows.{is_message, AreReceipts}
use Rattle.side_model.specs.Shows.{first_item, next_item}
use Rattle.side_model.specs.State.{LivePart}
use Rattle.side_model.specs.Steps.{step, gone}
use Rattle.side_model.specs.Trails.{TrailState, Keeps, trail_step}

-- ---- it stays sound

pub less_sound : (it : SideRun) → IsSound it → Keeps (trail_step Gave it.trail) → IsSound (less it)
unfolding step
less_sound it s k =
    let new : TrailState = trail_step Gave it.trail in
    let r : RunsOn new = record { goes_on = s.runs.goes_on; keeps = k } in
    sound_call it new it.half it.asked s (record {
      kin = gave_kin it.trail.now;
      runs = r;
      rows = refl;
      own = steps_keep_own (OwnOf it.peer) Gave it.trail (λ none. s.own) (λ none. tt) r.goes_on;
      half = half_stays it.peer it.trail.now new.now it.half (λ out h. steps_leave Gave out it.trail tt (λ none. h) r.goes_on) s.half;
      asked = s.asked;
    })

gave_wire : (item : PeerOut) (peer : ScriptedPeer) → (gave item peer).wire ≡ peer.wire
gave_wire (outputs.Receipt number segment receipt) peer = refl
gave_wire (outputs.Bytes message) peer = refl
gave_wire (outputs.Handle handle) peer = refl
gave_wire (outputs.Opened rid size) peer = refl
gave_wire (outputs.Grown rid size) peer = refl
gave_wire (outputs.Filled rid start bytes) peer = refl
gave_wire (outputs.Pipe item) peer = refl

gave_side : (item : PeerOut) (peer : ScriptedPeer) → (gave item peer).side ≡ peer.side
gave_side (outputs.Receipt number segment receipt) peer = refl
gave_side (outputs.Bytes message) peer = refl
gave_side (outputs.Handle handle) peer = refl
gave_side (outputs.Opened rid size) peer = refl
gave_side (outputs.Grown rid size) peer = refl
gave_side (outputs.Filled rid start bytes) peer = refl
gave_side (outputs.Pipe item) peer = refl

-- what is own stays so, whatever the peer is given
gave_grows : (item : PeerOut) (peer : ScriptedPeer) → Grows (OwnOf peer) (OwnOf (gave item peer))
gave_grows item peer number segment receipt h = receipts_are_own.gets peer item number segment receipt h

pub given_sound : (item : PeerOut) (it : SideRun) → IsSound it → Keeps (trail_step Gave it.trail) → IsSound (given item it)
given_sound item it s k =
    let peer : ScriptedPeer = gave item it.peer in
    sound_more (less it) peer (less_sound it s k) (gave_side item it.peer) (gave_grows item it.peer)
    (subst (λ (wire : List PeerIn). AllByRecursion (PutIsOwn (OwnOf peer)) wire) (sym (gave_wire item it.peer)) (wire_more it.peer peer (gave_grows item it.peer) it.peer.wire s.wire))

-- a receipt can be settled with the peer
for_peer : (item : PeerOut) (peer : ScriptedPeer) → GivenIsOwn (OwnOf peer) item → IsForPeer item peer.own.files
for_peer (outputs.Receipt number segment receipt) peer h = h
for_peer (outputs.Bytes message) peer h = tt
for_peer (outputs.Handle handle) peer h = tt
for_peer (outputs.Opened rid size) peer h = tt
for_peer (outputs.Grown rid size) peer h = tt
for_peer (outputs.Filled rid start bytes) peer h = tt
for_peer (outputs.Pipe item) peer h = tt

pub is_for_peer : (item : PeerOut) (it : SideRun) → IsSound it → next_item it.trail.now.live ≡ Some item → IsForPeer item it.peer.own.files
is_for_peer item it s found = for_peer item it.peer (gives_own (OwnOf it.peer) it.trail.now item s.own found)

-- ---- what a run sees of it

-- receipts are no messages
no_message : (copies : List CopyRecord) (before : List PeerOut) (item : PeerOut) (after : List PeerOut) → AreReceipts copies (before ++ item ∷ after) → is_message item ≡ false
no_message [] [] item after h = absurd h
no_message (copy ∷ copies) [] item after h = ap is_message h.0.is
no_message [] (first ∷ before) item after h = absurd h
no_message (copy ∷ copies) (first ∷ before) item after h = no_message copies before item after h.1

next_silent : (copies : List CopyRecord) (before : List PeerOut) (items receipts : List PeerOut) → items ≡ [] → AreReceipts copies (before ++ receipts) → MatchOption (first_item items receipts) (Unit {0}) (λ item. is_message item ≡ false)
next_silent copies before [] [] e h = tt
next_silent copies before [] (receipt ∷ receipts) e h = no_message copies before receipt receipts h
next_silent copies before (item ∷ items) receipts e h = absurd cc

gone_items : (items : List PeerOut) (live : LivePart) → items ≡ [] → live.items ≡ [] → (gone items live).items ≡ []
gone_items [] live e h = h
gone_items (item ∷ items) live e h = absurd cc

-- one item less
pub less_gives : (it : SideRun) → IsSound it → Keeps (trail_step Gave it.trail) → Gives it (less it)
unfolding step
less_gives it s k =
    let half : ℕ = half_loaded it.half in
    record {
      sound = less_sound it s k;
      works = gave_works.works half it.trail;
      side = refl;
      wire = refl;
      up = (gave_kin it.trail.now).up;
      none = λ e. gone_items it.trail.now.live.items it.trail.now.live e e;
      silent = λ e.
          let receipts = (s.runs.keeps.runs s.runs.goes_on).follows.receipts in
          gave_works.silent half it.trail (next_silent it.trail.book.trail.copies receipts.gone it.trail.now.live.items it.trail.now.live.receipts e receipts.all);
    }

pub given_gives : (item : PeerOut) (it : SideRun) → IsSound it → Keeps (trail_step Gave it.trail) → Gives it (given item it)
given_gives item it s k =
    let one : Gives it (less it) = less_gives it s k in
    record {
      sound = given_sound item it s k;
      works = one.works;
      side = gave_side item it.peer;
      wire = gave_wire item it.peer;
      up = one.up;
      none = one.none;
      silent = one.silent;
    }

-- ---- one after another

pub gives_none : (it : SideRun) → IsSound it → Gives it it
gives_none it s = record {
  sound = s;
  works = works_same true (state_of it);
  side = refl;
  wire = refl;
  up = refl;
  none = λ e. e;
  silent = λ e. refl;
}

pub gives_then : (a b c : SideRun) → Gives a b → Gives b c → Gives a c
gives_then a b c h k = record {
  sound = k.sound;
  works = works_then true (state_of a) (state_of b) (state_of c) h.works k.works;
  side = k.side ∙ h.side;
  wire = k.wire ∙ h.wire;
  up = k.up ∙ h.up;
  none = λ e. k.none (h.none e);
  silent = λ e. k.silent (h.none e) ∙ h.silent e;
}

-- ---- until none is left

none_left : (items receipts : List PeerOut) → first_item items receipts ≡ None → (items ≡ []) × (receipts ≡ [])
none_left [] [] e = (refl, refl)
none_left [] (receipt ∷ receipts) e = absurd cc
none_left (item ∷ items) receipts e = absurd cc

gone_none : (items : List PeerOut) (live : LivePart) → items ≡ [] → live.items ≡ [] → live.receipts ≡ [] → ((gone items live).items ≡ []) × ((gone items live).receipts ≡ [])
gone_none [] live e h k = (h, ap (drop 1) k)
gone_none (item ∷ items) live e h k = absurd cc

pub less_ready : (it : SideRun) → IsSound (less it) → next_item it.trail.now.live ≡ None → IsReady (less it)
unfolding step
less_ready it s e =
    let left = none_left it.trail.now.live.items it.trail.now.live.receipts e in
    let after = gone_none it.trail.now.live.items it.trail.now.live left.0 left.0 left.1 in
    record { sound = s; items = after.0; receipts = after.1 }

fewer : (items receipts : List PeerOut) (item : PeerOut) (live : LivePart) → live.items ≡ items → live.receipts ≡ receipts → first_item items receipts ≡ Some item
    → length (gone items live).items + length (gone items live).receipts < length items + length receipts
fewer [] [] item live e d found = absurd cc
fewer [] (receipt ∷ receipts) item live e d found =
    omega (arith, ap length e, ap (λ (rs : List PeerOut). length (drop 1 rs)) d)
fewer (first ∷ items) receipts item live e d found = omega (arith, ap length d)

pub given_fewer : (item : PeerOut) (it : SideRun) → next_item it.trail.now.live ≡ Some item → to_give (given item it) < to_give it
unfolding step
given_fewer item it found = fewer it.trail.now.live.items it.trail.now.live.receipts item it.trail.now.live refl refl found

-- ---- the code's steps

pub sound_given : (item : PeerOut) (it : SideRun) (trail : TrailState) (peer : ScriptedPeer) → IsSound it → MatchOption it.trail.fault (trail ≡ trail_step Gave it.trail) (λ _. trail ≡ it.trail) → Keeps trail → peer ≡ gave item it.peer
    → IsSound (record it { trail = trail; peer = peer })
sound_given item it trail peer s h k d =
    let e : trail ≡ trail_step Gave it.trail = running it.trail.fault (trail ≡ trail_step Gave it.trail) (λ _. trail ≡ it.trail) s.runs.goes_on h in
    subst (λ (t : TrailState). IsSound (record it { trail = t; peer = peer })) (sym e)
    (subst (λ (p : ScriptedPeer). IsSound (record it { trail = trail_step Gave it.trail; peer = p })) (sym d) (given_sound item it s (subst (λ (t : TrailState). Keeps t) e k)))

pub sound_less : (it : SideRun) (trail : TrailState) → IsSound it → MatchOption it.trail.fault (trail ≡ trail_step Gave it.trail) (λ _. trail ≡ it.trail) → Keeps trail → IsSound (record it { trail = trail })
sound_less it trail s h k =
    let e : trail ≡ trail_step Gave it.trail = running it.trail.fault (trail ≡ trail_step Gave it.trail) (λ _. trail ≡ it.trail) s.runs.goes_on h in
    subst (λ (t : TrailState). IsSound (record it { trail = t })) (sym e) (less_sound it s (subst (λ (t : TrailState). Keeps t) e k))

pub next_gives : (old new : SideRun) → IsSound old → IsSound new → GivesNext true old new → Gives old new
next_gives old new s t h =
    subst (λ (x : SideRun). Gives old x) (sym h.2) (given_gives h.0 old s (subst (λ (x : SideRun). Keeps x.trail) h.2 t.runs.keeps))

pub last_gives : (old new : SideRun) → IsSound old → IsSound new → GivesNext false old new → Gives old new
last_gives old new s t h =
    subst (λ (x : SideRun). Gives old x) (sym h.1) (less_gives old s (subst (λ (x : SideRun). Keeps x.trail) h.1 t.runs.keeps))

pub last_ready : (old new : SideRun) → IsSound new → GivesNext false old new → IsReady new
last_ready old new t h = subst (λ (x : SideRun). IsReady x) (sym h.1) (less_ready old (subst (λ (x : SideRun). IsSound x) h.1 t) h.0)

pub next_fewer : (old new : SideRun) → GivesNext true old new → to_give new < to_give old
next_fewer old new h = subst (λ (x : SideRun). to_give x < to_give old) (sym h.2) (given_fewer h.0 old h.1)
