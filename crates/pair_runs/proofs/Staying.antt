-- That a side is not asked to close by moves other than those that ask it.
use Rattle.std.proofs.Common.{◌≡◌, ◌≢◌, ℕ, zero, suc, ◌-◌, List, [], ◌∷◌, ◌++◌, take, drop, length, Bool, true, false, is_none, ◌&&◌, ◌||◌, Option, Some, None, refl, sym, ap, ◌∙◌, inl, inr}
use Rattle.std.specs.List.{AllByRecursion}
use Rattle.wp_outside.specs.declared.kinds.Direction.{Direction}
use Rattle.wp_outside.specs.declared.kinds.Side.{Side}
use Rattle.wp_outside.specs.declared.kinds.Side.TheVariants.{Near, Far}
use Rattle.half_model.specs.declared.items.PeerIn.{PeerIn}
use Rattle.half_model.specs.declared.items.PeerIn.TheVariants as items
use Rattle.script_lang.specs.Puts.{is_stop}
use Rattle.script_lang.specs.declared.steps.StepKind.{StepKind}
use Rattle.script_lang.specs.declared.steps.StepKind.TheVariants as line
use Rattle.side_model.specs.declared.fault.ProxyFault.{ProxyFault}
use Rattle.pair_runs.specs.Completing.{LeavesOpen}
use Rattle.pair_runs.specs.Linking.{Reads}
use Rattle.pair_runs.specs.Loading.{LoadsIn, LoadsAllIn, Loads, LoadsAll}
use Rattle.pair_runs.specs.Moves.{Move, Put, Take, Load, LoadAll, Connect, ConnectIfHeld, Break, Push, Pull, Spoil, Close, at_side, LoadedThen, holds, ConnectedBy, Connected, WritesBy, PushedOn, PulledBy, PulledOff, Changes, MovesAll, spoiled}
use Rattle.pair_runs.specs.Runs.{Played, Rounds, settles, moves_of, Does, DoesBy, Drained, Stopped, Fails, end_by, PlaysLine, Plays, round, MOST, size_after}
use Rattle.pair_runs.specs.Sides.{SideState, fed}
use Rattle.pair_runs.specs.States.{State, Lanes, Fault, side_at, with_side, wire_at, with_wire, lane_at, on_lane, writer, reader}
use Rattle.pair_runs.specs.Taking.{Cut, cut_item, Taker, TakesAll, TakesIn}

-- ---- one side

-- asked to close as before
abbrev Stays : SideState → SideState → Type 0
Stays a b = b.inside.asked ≡ a.inside.asked

fed_stays : (item : PeerIn) (a : SideState) → Stays a (fed item a)
fed_stays (items.Bytes piece) a = refl
fed_stays (items.Handle handle) a = refl
fed_stays (items.Note note) a = refl
fed_stays (items.Pipe item) a = refl

takes_stay : (count most : ℕ) (a : SideState) (wire : List PeerIn) (b : Taker) → TakesIn count most a wire b None → Stays a b.side
takes_stay zero most a wire b t = ap (λ (it : Taker). it.side.inside.asked) t.0
takes_stay (suc count) most a [] b t = absurd t
takes_stay (suc count) most a (item ∷ wire) b t = elim t.2 [
  | inl fails ↦ absurd (let never : None ≡ Some fails.fault = fails.stops in cc)
  | inr goes ↦
      let it : Cut = cut_item most item wire in
      takes_stay count (most - it.cost) goes.mid it.rest b goes.more ∙ goes.works.inside.asked ∙ fed_stays it.item a
]

loads_stay : (count words over : ℕ) (a b : SideState) → LoadsIn count words a b over None → Stays a b
loads_stay zero words over a b l = elim l.1 [
  | inl none ↦ ap (λ (it : SideState). it.inside.asked) none.1
  | inr last ↦ ap (λ (it : SideState). it.inside.asked) last.1
]
loads_stay (suc count) words over a b l = elim l.2 [
  | inl fails ↦ absurd (let never : None ≡ Some fails.fault = fails.stops in cc)
  | inr goes ↦ loads_stay count _ over goes.1.mid b goes.1.more ∙ goes.1.works.inside.asked
]

all_stay : (count : ℕ) (a b : SideState) → LoadsAllIn count a b None → Stays a b
all_stay zero a b l = ap (λ (it : SideState). it.inside.asked) l.1
all_stay (suc count) a b l = elim l.1 [
  | inl fails ↦ absurd (let never : None ≡ Some fails.fault = fails.stops in cc)
  | inr goes ↦ all_stay count goes.mid b goes.more ∙ goes.works.inside.asked
]

reads_stay : (bytes : List ℕ) (a b : SideState) → Reads bytes a b → Stays a b
reads_stay [] a b r = ap (λ (it : SideState). it.inside.asked) r
reads_stay (byte ∷ bytes) a b r = r.1.inside.asked

-- ---- in a state

-- whether a side was asked to close
abbrev pub asked_at : Side → State → Bool
asked_at side s = (side_at side s).inside.asked

one_stays : (side whose : Side) (b : SideState) (s : State) → Stays (side_at whose s) b → asked_at side (with_side whose b s) ≡ asked_at side s
one_stays Near Near b s e = e
one_stays Near Far b s e = refl
one_stays Far Near b s e = refl
one_stays Far Far b s e = e

wire_stays : (side whose : Side) (wire : List PeerIn) (s : State) → asked_at side (with_wire whose wire s) ≡ asked_at side s
wire_stays Near Near wire s = refl
wire_stays Near Far wire s = refl
wire_stays Far Near wire s = refl
wire_stays Far Far wire s = refl

same_at : (whose : Side) (wire : List PeerIn) (s : State) → side_at whose (with_wire whose wire s) ≡ side_at whose s
same_at Near wire s = refl
same_at Far wire s = refl

lane_stays : (side : Side) (dir : Direction) (change : List ℕ → List ℕ) (s : State) → asked_at side (on_lane dir change s) ≡ asked_at side s
lane_stays Near dir change s = refl
lane_stays Far dir change s = refl

broken_stays : (side : Side) (s : State) → asked_at side (record s { line = None }) ≡ asked_at side s
broken_stays Near s = refl
broken_stays Far s = refl

-- both sides have changed
both_stay : (side : Side) (a b : SideState) (line : Option Lanes) (s : State) → Stays s.near a → Stays s.far b → asked_at side (record s { near = a; far = b; line = line }) ≡ asked_at side s
both_stay Near a b line s e d = e
both_stay Far a b line s e d = d

none_fails : (side : Side) (fault : ProxyFault) → None ≡ at_side side (Some fault) → ⊥
none_fails side fault e = cc

-- ---- moves

-- a move that doesn't ask this side to close
abbrev MovesOpen : Side → Move → Type 0
MovesOpen side (Close whose) = whose ≢ side
MovesOpen side move = Unit {0}

loaded_stays : (side : Side) (words : ℕ) (s t : State) → Changes (Load words) s t None → asked_at side t ≡ asked_at side s
loaded_stays side words s t (a, (over, (fault, loads, others))) = go fault loads others
  where
    go : (fault : Option ProxyFault) → Loads words s.near a over fault → LoadedThen a over fault s t None → asked_at side t ≡ asked_at side s
    go (Some it) l o = absurd (none_fails Near it o.1)
    go None l (b, (rest, (more, all, is, stops))) = then more all stops
      where
        then : (more : Option ProxyFault) → Loads over s.far b rest more → None ≡ at_side Far more → asked_at side t ≡ asked_at side s
        then (Some it) all e = absurd (none_fails Far it e)
        then None all e = ap (asked_at side) is ∙ both_stay side a b s.line s (loads_stay l.count words over s.near a l.row) (loads_stay all.count over rest s.far b all.row)

connected_stays : (side : Side) (makes : Bool) (s t : State) → Connected makes s t None → asked_at side t ≡ asked_at side s
connected_stays side makes s t c = go (is_none s.line && makes) c
  where
    go : (b : Bool) → ConnectedBy b s t None → asked_at side t ≡ asked_at side s
    go true d = ap (asked_at side) d.1 ∙ both_stay side _ _ _ s refl refl
    go false d = ap (asked_at side) d.0

pushed_stays : (side : Side) (dir : Direction) (most : ℕ) (s t : State) (line : Option Lanes) → PushedOn line dir most s t None → asked_at side t ≡ asked_at side s
pushed_stays side dir most s t None p = ap (asked_at side) p.0
pushed_stays side dir most s t (Some lanes) (bytes, (b, (fault, writes, is, stops))) = go fault writes stops
  where
    go : (fault : Option ProxyFault) → WritesBy fault most bytes (side_at (writer dir) s) b → None ≡ at_side (writer dir) fault → asked_at side t ≡ asked_at side s
    go (Some it) w e = absurd (none_fails (writer dir) it e)
    go None w e =
        ap (asked_at side) is ∙ lane_stays side dir (λ lane. lane ++ bytes) (with_side (writer dir) b s)
        ∙ one_stays side (writer dir) b s (ap (λ (it : SideState). it.inside.asked) w.is)

pulled_stays : (side : Side) (dir : Direction) (most : ℕ) (s t : State) (line : Option Lanes) → PulledOff line dir most s t None → asked_at side t ≡ asked_at side s
pulled_stays side dir most s t None p = ap (asked_at side) p.0
pulled_stays side dir most s t (Some lanes) (fault, pulled, stops) = go fault pulled stops
  where
    bytes : List ℕ
    bytes = take most (lane_at dir lanes)

    go : (fault : Option ProxyFault) → PulledBy fault dir bytes s t → None ≡ at_side (reader dir) fault → asked_at side t ≡ asked_at side s
    go (Some it) p e = absurd (none_fails (reader dir) it e)
    go None (b, reads, is) e =
        ap (asked_at side) is ∙ lane_stays side dir (λ lane. drop (length bytes) lane) (with_side (reader dir) b s)
        ∙ one_stays side (reader dir) b s (reads_stay bytes (side_at (reader dir) s) b reads)

-- another side is asked
other_stays : (side whose : Side) (b : SideState) (s : State) → whose ≢ side → asked_at side (with_side whose b s) ≡ asked_at side s
other_stays Near Near b s never = absurd (never refl)
other_stays Near Far b s never = refl
other_stays Far Near b s never = refl
other_stays Far Far b s never = absurd (never refl)

move_stays : (side : Side) (move : Move) (s t : State) → MovesOpen side move → Changes move s t None → asked_at side t ≡ asked_at side s
move_stays side (Put whose put) s t opened c = ap (asked_at side) c.0 ∙ wire_stays side whose (wire_at whose s ++ put) s
move_stays side (Take whose most) s t opened (b, (fault, all, is, stops)) = go fault all stops
  where
    go : (fault : Option ProxyFault) → TakesAll most (record { side = side_at whose s; wire = wire_at whose s }) b fault → None ≡ at_side whose fault → asked_at side t ≡ asked_at side s
    go (Some it) all e = absurd (none_fails whose it e)
    go None all e =
        let stays : Stays (side_at whose s) b.side = takes_stay all.count most (side_at whose s) (wire_at whose s) b all.row in
        ap (asked_at side) is
        ∙ one_stays side whose b.side (with_wire whose b.wire s) (stays ∙ ap (λ (it : SideState). it.inside.asked) (sym (same_at whose b.wire s)))
        ∙ wire_stays side whose b.wire s
move_stays side (Load words) s t opened c = loaded_stays side words s t c
move_stays side (LoadAll whose) s t opened (b, (fault, all, is, stops)) = go fault all stops
  where
    go : (fault : Option ProxyFault) → LoadsAll (side_at whose s) b fault → None ≡ at_side whose fault → asked_at side t ≡ asked_at side s
    go (Some it) all e = absurd (none_fails whose it e)
    go None all e = ap (asked_at side) is ∙ one_stays side whose b s (all_stay all.count (side_at whose s) b all.row)
move_stays side Connect s t opened c = connected_stays side true s t c
move_stays side ConnectIfHeld s t opened c = connected_stays side (holds s.near || holds s.far) s t c
move_stays side Break s t opened c = ap (asked_at side) c.0 ∙ broken_stays side s
move_stays side (Push dir most) s t opened c = pushed_stays side dir most s t s.line c
move_stays side (Pull dir most) s t opened c = pulled_stays side dir most s t s.line c
move_stays side (Spoil dir offset byte) s t opened c = ap (asked_at side) c.0 ∙ lane_stays side dir (spoiled offset byte) s
move_stays side (Close whose) s t opened (b, (fault, closes, is, stops)) = ap (asked_at side) is ∙ other_stays side whose b s opened

moves_stay : (side : Side) (moves : List Move) (s t : State) → AllByRecursion (MovesOpen side) moves → MovesAll moves s t None → asked_at side t ≡ asked_at side s
moves_stay side [] s t opened m = ap (asked_at side) m.0
moves_stay side (move ∷ moves) s t opened m = elim m [
  | inl fails ↦ absurd (let never : None ≡ Some fails.0 = fails.2 in cc)
  | inr goes ↦ moves_stay side moves goes.0 t opened.1 goes.2 ∙ move_stays side move s goes.0 opened.0 goes.1.changes
]

-- ---- rounds and lines

round_open : (side : Side) (most : ℕ) → AllByRecursion (MovesOpen side) (round most)
round_open side most = (tt, (tt, (tt, (tt, (tt, (tt, (tt, (tt, (tt, tt)))))))))

rounds_stay : (side : Side) (count most : ℕ) (s t : State) → Rounds count most s t None → asked_at side t ≡ asked_at side s
rounds_stay side zero most s t r = moves_stay side (round most) s t (round_open side most) r.0
rounds_stay side (suc count) most s t r = rounds_stay side count most r.0 t r.3 ∙ moves_stay side (round most) s r.0 (round_open side most) r.1

line_open : (side : Side) (what : StepKind) (puts : List PeerIn) → LeavesOpen side what → AllByRecursion (MovesOpen side) (moves_of what puts)
line_open side (line.Hex peer bytes) puts opened = (tt, tt)
line_open side (line.Say peer text) puts opened = (tt, tt)
line_open side (line.File peer number size) puts opened = tt
line_open side (line.Grow peer number size) puts opened = tt
line_open side (line.Fill peer number first count value) puts opened = tt
line_open side (line.Pipe peer number) puts opened = tt
line_open side (line.Give peer number) puts opened = (tt, tt)
line_open side (line.Put peer pipe bytes) puts opened = (tt, tt)
line_open side (line.End peer pipe) puts opened = (tt, tt)
line_open side (line.Shut peer number) puts opened = (tt, tt)
line_open side (line.Await peer count) puts opened = tt
line_open side (line.Take peer bytes) puts opened = (tt, tt)
line_open side (line.Load words) puts opened = (tt, tt)
line_open side line.Connect puts opened = (tt, tt)
line_open side line.Break puts opened = (tt, tt)
line_open side (line.Send dir bytes) puts opened = (tt, tt)
line_open side (line.Recv dir bytes) puts opened = (tt, tt)
line_open side (line.Both dir bytes) puts opened = (tt, (tt, tt))
line_open side (line.Spoil dir offset byte) puts opened = (tt, tt)
line_open side (line.Cut dir bytes) puts opened = tt
line_open side (line.Close peer) puts opened = (opened, tt)
line_open side line.Settle puts opened = tt
line_open side (line.Drain bytes) puts opened = tt
line_open side line.Stop puts opened = tt

does_stay : (side : Side) (it : Played) (s t : State) → LeavesOpen side it.what → Does it s t None → asked_at side t ≡ asked_at side s
does_stay side it s t opened d = go (settles it.what) d
  where
    go : (b : Bool) → DoesBy b it s t None → asked_at side t ≡ asked_at side s
    go true h = rounds_stay side h.count MOST s t h.rounds
    go false h = moves_stay side (moves_of it.what it.puts) s t (line_open side it.what it.puts opened) h

-- a run that drains leaves a side as little asked to close as its lines do
pub plays_stay : (side : Side) (played : List Played) (most : ℕ) (s t : State) → AllByRecursion (λ it. LeavesOpen side it.what) played → Plays played most s t Drained → asked_at side t ≡ asked_at side s
plays_stay side [] most s t opened (stop, settled, is) = go stop is settled.rounds
  where
    go : (stop : Option Fault) → Drained ≡ end_by stop → Rounds settled.count most s t stop → asked_at side t ≡ asked_at side s
    go (Some fault) e r = absurd (let never : Drained ≡ Fails fault = e in cc)
    go None e r = rounds_stay side settled.count most s t r
plays_stay side (it ∷ played) most s t opened p = go (λ between more. plays_stay side played (size_after most it.what) between t opened.1 more) (is_stop it.what) p
  where
    go : ((between : State) → Plays played (size_after most it.what) between t Drained → asked_at side t ≡ asked_at side between) → (b : Bool)
        → PlaysLine b it (λ between. Plays played (size_after most it.what) between t Drained) s t Drained → asked_at side t ≡ asked_at side s
    go others true h = absurd (let never : Drained ≡ Stopped = h.1 in cc)
    go others false (inl fails) = absurd (let never : Drained ≡ Fails fails.0 = fails.2 in cc)
    go others false (inr goes) = others goes.0 goes.2 ∙ does_stay side it s goes.0 opened.0 goes.1
