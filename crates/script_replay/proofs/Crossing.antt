-- Bytes that go onto the line and off it, as a move of the run.
use Rattle.std.proofs.Common.{◌≡◌, ◌≢◌, ℕ, ◌<◌, Bool, true, false, List, [], ◌∷◌, ◌++◌, take, drop, length, Option, Some, None, option_map, refl, sym, ap, subst, ◌∙◌, arith}
use Rattle.std.proofs.lemmas.List.{append-nil, length-take, take_min, take-take}
use Rattle.wp_outside.specs.declared.kinds.Direction.{Direction}
use Rattle.wp_outside.specs.declared.kinds.Direction.TheVariants.{Up, Down}
use Rattle.wp_outside.specs.declared.kinds.Side.{Side}
use Rattle.wp_outside.specs.declared.kinds.Side.TheVariants.{Near, Far}
use Rattle.wp_outside.specs.Lines as outside
use Rattle.wp_outside.specs.Lines.{lane_of, pushed_onto, pulled_from, Became}
use Rattle.pair_model.specs.Lines.{Line, Rising}
use Rattle.pair_model.specs.Steps.{on_last, with_written, with_read}
use Rattle.side_model.specs.declared.fault.ProxyFault.{ProxyFault}
use Rattle.pair_runs.specs.Kept.{KeptAt, HasFailed}
use Rattle.pair_runs.specs.Linking.{written, read, Reads, ReadsInPart}
use Rattle.pair_runs.specs.Moves.{Push, Pull, MovesAll, PushedOn, PulledOff, PulledBy, WritesBy, at_side}
use Rattle.pair_runs.specs.Sides.{SideState, rows_of, last_number}
use Rattle.pair_runs.specs.States.{State, Lanes, lane_at, with_lane, on_lane, side_at, with_side, writer, reader, connections}
use Rattle.pair_runs.proofs.Lines.{HasLast, has_last, last_changed}
use Rattle.pair_runs.proofs.Tying.{works_rows, part_rows}
use Rattle.script_sides.specs.Ready.{ReadyGoesOn}
use Rattle.script_sides.specs.Sided as sided
use Rattle.script_sides.specs.Sided.{SideRun}
use Rattle.script_replay.specs.Coming.{Came}
use Rattle.script_replay.specs.Going.{Went}
use Rattle.script_replay.specs.Sending.{RunsUp, LeavesPeer, Sends}
use Rattle.script_replay.specs.Standing.{ReadyAt, IsReadyAside, IsReady, state_of, line_at}
use Rattle.script_replay.specs.Telling.{lanes_of, Tells, TellsBut}
use Rattle.script_replay.specs.declared.run.Run.{Run}
use Rattle.script_replay.proofs.Keeping.{goes_on, kept_aside, tells_same, tells_failed, one_move, one_fault}
use Rattle.script_replay.proofs.Connecting.{state_is}
use Rattle.script_replay.proofs.Telling.{pushed_up, pushed_down, pulled_up, pulled_down, none_refused}
use Rattle.script_replay.proofs.Arriving.{last_none}

-- ---- the last line

has_some : (rows : List Line) → Rising 1 rows → rows ≢ [] → HasLast rows
has_some [] r n = absurd (n refl)
has_some (line ∷ rows) r n = (has_last 1 line rows r).0

some_rows : (rows : List Line) → 0 < last_number rows → rows ≢ []
some_rows [] l e = omega (arith, l)
some_rows (line ∷ rows) l e = absurd cc

-- a side whose connection is up
pub runs_up : (side : Side) (it : SideRun) (last : ℕ) (up : Bool) → up ≡ true → 0 < last → ReadyAt side it last up → RunsUp it
runs_up side it last up e some r = record {
  ready = r.ready;
  is_up = r.is_up ∙ e;
  some = some_rows (rows_of (sided.state_of it)) (omega (arith, some, r.number));
}

last_of : ReadyGoesOn → (side : Side) (it : SideRun) (last : ℕ) (up : Bool) → up ≡ true → 0 < last → ReadyAt side it last up → HasLast (rows_of (sided.state_of it))
last_of law side it last up e some r = has_some (rows_of (sided.state_of it)) (goes_on law side it last up r).law.wire.numbers (runs_up side it last up e some r).some

keeps_written : (bytes : List ℕ) (line : Line) → (with_written bytes line).connection ≡ line.connection
keeps_written bytes line = refl

keeps_read : (bytes : List ℕ) (line : Line) → (with_read bytes line).connection ≡ line.connection
keeps_read bytes line = refl

-- a side that goes on with its connection up
up_still : (side : Side) (last : ℕ) (up : Bool) (old new : SideRun) → up ≡ true → ReadyAt side old last up → RunsUp new → LeavesPeer old new → last_number (rows_of (sided.state_of new)) ≡ last_number (rows_of (sided.state_of old)) → ReadyAt side new last up
up_still side last up old new e r u peer rows = record {
  ready = u.ready;
  side_is = peer.side_is ∙ r.side_is;
  number = rows ∙ r.number;
  is_up = u.is_up ∙ sym e;
}

written_rows : (bytes : List ℕ) (a b : SideState) → b ≡ written bytes a → rows_of b ≡ on_last (with_written bytes) (rows_of a)
written_rows bytes a b e = ap rows_of e

writes_rows : (stop : Option ProxyFault) (most : ℕ) (bytes : List ℕ) (a b : SideState) → WritesBy stop most bytes a b → rows_of b ≡ on_last (with_written bytes) (rows_of a)
writes_rows None most bytes a b w = written_rows bytes a b w.is
writes_rows (Some fault) most bytes a b w = written_rows bytes a b w.0.is

reads_rows : (bytes : List ℕ) (a b : SideState) → Reads bytes a b → rows_of b ≡ on_last (with_read bytes) (rows_of a)
reads_rows [] a b h = ap rows_of h ∙ sym (last_none (rows_of a))
reads_rows (byte ∷ bytes) a b h = works_rows true (read (byte ∷ bytes) a) b h.1

-- ---- the lane

line_up : (up : Bool) (line : outside.Line) → up ≡ true → line_at up line ≡ Some (lanes_of line)
line_up true line e = refl
line_up false line e = absurd cc

pushed_line : (dir : Direction) (up : Bool) (bytes : List ℕ) (line other : outside.Line) → up ≡ true → other ≡ pushed_onto dir bytes line
    → line_at up other ≡ option_map (λ (lanes : Lanes). with_lane dir (lane_at dir lanes ++ bytes) lanes) (line_at up line)
pushed_line Up true bytes line other u e = ap (λ (it : outside.Line). Some (lanes_of it)) e
pushed_line Down true bytes line other u e = ap (λ (it : outside.Line). Some (lanes_of it)) e
pushed_line dir false bytes line other u e = absurd cc

pulled_line : (dir : Direction) (up : Bool) (count : ℕ) (line other : outside.Line) → up ≡ true → other ≡ pulled_from dir count line
    → line_at up other ≡ option_map (λ (lanes : Lanes). with_lane dir (drop count (lane_at dir lanes)) lanes) (line_at up line)
pulled_line Up true count line other u e = ap (λ (it : outside.Line). Some (lanes_of it)) e
pulled_line Down true count line other u e = ap (λ (it : outside.Line). Some (lanes_of it)) e
pulled_line dir false count line other u e = absurd cc

push_up_stays : (dir : Direction) (bytes : List ℕ) (line : outside.Line) → (pushed_onto dir bytes line).is_up ≡ line.is_up
push_up_stays Up bytes line = refl
push_up_stays Down bytes line = refl

pull_up_stays : (dir : Direction) (count : ℕ) (line : outside.Line) → (pulled_from dir count line).is_up ≡ line.is_up
pull_up_stays Up count line = refl
pull_up_stays Down count line = refl

-- the replay may go on, where a side and the store changed
ready_line : (old new : Run) (before after : ℕ → outside.Line) (change : outside.Line → outside.Line) → IsReady old before → IsReadyAside new → new.last ≡ old.last → new.up ≡ old.up → Became before after old.last change → ((line : outside.Line) → (change line).is_up ≡ line.is_up)
    → Tells (rows_of (sided.state_of new.near)) (rows_of (sided.state_of new.far)) after → IsReady new after
ready_line old new before after change r aside last up b keeps tells = record {
  aside = aside;
  few = omega (arith, r.few, last);
  some = λ e. omega (arith, r.some (sym up ∙ e), last);
  holds = λ e. subst (λ (n : ℕ). (after n).is_up ≡ true) (sym last) (ap (λ (it : outside.Line). it.is_up) b.here ∙ keeps (before old.last) ∙ r.holds (sym up ∙ e));
  fresh = λ n above. ap (λ (it : outside.Line). it.was_opened) (b.others n (λ e. omega (arith, above, last, e))) ∙ r.fresh n (omega (arith, above, last));
  tells = tells;
}

-- ---- onto the line

pushed_on : (line : Option Lanes) (lanes : Lanes) (dir : Direction) (most : ℕ) (s t : State) (bytes : List ℕ) (b : SideState) (fault : Option ProxyFault) → line ≡ Some lanes → WritesBy fault most bytes (side_at (writer dir) s) b
    → t ≡ on_lane dir (λ lane. lane ++ bytes) (with_side (writer dir) b s) → PushedOn line dir most s t (at_side (writer dir) fault)
pushed_on line lanes dir most s t bytes b fault e w is = subst (λ (it : Option Lanes). PushedOn it dir most s t (at_side (writer dir) fault)) (sym e) (bytes, (b, (fault, w, is, refl)))

push_up_is : (old : Run) (near : SideRun) (before after : ℕ → outside.Line) (bytes : List ℕ) → old.up ≡ true → near.peer.wire ≡ old.near.peer.wire → Became before after old.last (pushed_onto Up bytes)
    → state_of (record old { near = near }) after ≡ on_lane Up (λ lane. lane ++ bytes) (with_side Near (sided.state_of near) (state_of old before))
push_up_is old near before after bytes up wire b =
    state_is (state_of (record old { near = near }) after) (on_lane Up (λ lane. lane ++ bytes) (with_side Near (sided.state_of near) (state_of old before))) refl refl wire refl
    (pushed_line Up old.up bytes (before old.last) (after old.last) up b.here)

push_down_is : (old : Run) (far : SideRun) (before after : ℕ → outside.Line) (bytes : List ℕ) → old.up ≡ true → far.peer.wire ≡ old.far.peer.wire → Became before after old.last (pushed_onto Down bytes)
    → state_of (record old { far = far }) after ≡ on_lane Down (λ lane. lane ++ bytes) (with_side Far (sided.state_of far) (state_of old before))
push_down_is old far before after bytes up wire b =
    state_is (state_of (record old { far = far }) after) (on_lane Down (λ lane. lane ++ bytes) (with_side Far (sided.state_of far) (state_of old before))) refl refl refl wire
    (pushed_line Down old.up bytes (before old.last) (after old.last) up b.here)

tells_written_near : (old : Run) (near : SideRun) (before after : ℕ → outside.Line) (bytes : List ℕ) → ReadyGoesOn → old.up ≡ true → IsReady old before → rows_of (sided.state_of near) ≡ on_last (with_written bytes) (rows_of (sided.state_of old.near)) → Became before after old.last (pushed_onto Up bytes)
    → Tells (rows_of (sided.state_of near)) (rows_of (sided.state_of old.far)) after
tells_written_near old near before after bytes law up r rows b =
    tells_same (on_last (with_written bytes) (rows_of (sided.state_of old.near))) (rows_of (sided.state_of old.far)) (rows_of (sided.state_of near)) (rows_of (sided.state_of old.far)) after rows refl
    (pushed_up bytes (rows_of (sided.state_of old.near)) (rows_of (sided.state_of old.far)) before after old.last b (last_of law Near old.near old.last old.up up (r.some up) r.aside.near) r.aside.near.number r.tells)

tells_written_far : (old : Run) (far : SideRun) (before after : ℕ → outside.Line) (bytes : List ℕ) → ReadyGoesOn → old.up ≡ true → IsReady old before → rows_of (sided.state_of far) ≡ on_last (with_written bytes) (rows_of (sided.state_of old.far)) → Became before after old.last (pushed_onto Down bytes)
    → Tells (rows_of (sided.state_of old.near)) (rows_of (sided.state_of far)) after
tells_written_far old far before after bytes law up r rows b =
    tells_same (rows_of (sided.state_of old.near)) (on_last (with_written bytes) (rows_of (sided.state_of old.far))) (rows_of (sided.state_of old.near)) (rows_of (sided.state_of far)) after refl rows
    (pushed_down bytes (rows_of (sided.state_of old.near)) (rows_of (sided.state_of old.far)) before after old.last b (last_of law Far old.far old.last old.up up (r.some up) r.aside.far) r.aside.far.number r.tells)

same_number : (bytes : List ℕ) (a b : SideState) → rows_of b ≡ on_last (with_written bytes) (rows_of a) → last_number (rows_of b) ≡ last_number (rows_of a)
same_number bytes a b e = ap last_number e ∙ last_changed (with_written bytes) (keeps_written bytes) (rows_of a)

read_number : (bytes : List ℕ) (a b : SideState) → rows_of b ≡ on_last (with_read bytes) (rows_of a) → last_number (rows_of b) ≡ last_number (rows_of a)
read_number bytes a b e = ap last_number e ∙ last_changed (with_read bytes) (keeps_read bytes) (rows_of a)

numbers_are : (near far : SideRun) (last : ℕ) → last_number (rows_of (sided.state_of near)) ≡ last → last_number (rows_of (sided.state_of far)) ≡ last → (run : Run) (line : ℕ → outside.Line) → run.near ≡ near → run.far ≡ far → connections (state_of run line) ≡ last
numbers_are near far last en ef run line n f = omega (arith, ap (λ (it : SideRun). last_number (rows_of (sided.state_of it))) n, ap (λ (it : SideRun). last_number (rows_of (sided.state_of it))) f, en, ef)

failed_near : ReadyGoesOn → (old : Run) (near : SideRun) (line : ℕ → outside.Line) (fault : ProxyFault) → IsReadyAside old → LeavesPeer old.near near → HasFailed near.peer.side (sided.state_of near) fault → KeptAt Near fault (state_of (record old { near = near }) line)
failed_near law old near line fault r peer failed =
    (subst (λ (side : Side). HasFailed side (sided.state_of near) fault) (peer.side_is ∙ r.near.side_is) failed, goes_on law Far old.far old.last old.up r.far)

failed_far : ReadyGoesOn → (old : Run) (far : SideRun) (line : ℕ → outside.Line) (fault : ProxyFault) → IsReadyAside old → LeavesPeer old.far far → HasFailed far.peer.side (sided.state_of far) fault → KeptAt Far fault (state_of (record old { far = far }) line)
failed_far law old far line fault r peer failed =
    (goes_on law Near old.near old.last old.up r.near, subst (λ (side : Side). HasFailed side (sided.state_of far) fault) (peer.side_is ∙ r.far.side_is) failed)

pub push_near : ReadyGoesOn → (old : Run) (near : SideRun) (before after : ℕ → outside.Line) (most : ℕ) (stop : Option ProxyFault) → old.up ≡ true → IsReady old before → Sends most old.last Up old.near near before after stop
    → Went (MovesAll (Push Up most ∷ [])) old (record old { near = near }) before after (at_side Near stop)
push_near law old near before after most None up r h =
    let new : Run = record old { near = near } in
    let rows : rows_of (sided.state_of near) ≡ on_last (with_written h.bytes) (rows_of (sided.state_of old.near)) = writes_rows None most h.bytes (sided.state_of old.near) (sided.state_of near) h.writes in
    let aside : IsReadyAside new = record { near = up_still Near old.last old.up old.near near up r.aside.near h.stays h.peer (same_number h.bytes (sided.state_of old.near) (sided.state_of near) rows); far = r.aside.far } in
    record {
      did = one_move (Push Up most) (state_of old before) (state_of new after) (record {
        changes = pushed_on (line_at old.up (before old.last)) (lanes_of (before old.last)) Up most (state_of old before) (state_of new after) h.bytes (sided.state_of near) None (line_up old.up (before old.last) up) h.writes (push_up_is old near before after h.bytes up h.peer.wire h.change);
        kept = kept_aside law new after aside;
      });
      stays = ready_line old new before after (pushed_onto Up h.bytes) r aside refl refl h.change (push_up_stays Up h.bytes) (tells_written_near old near before after h.bytes law up r rows h.change);
    }
push_near law old near before after most (Some fault) up r h =
    let new : Run = record old { near = near } in
    let t : State = state_of new after in
    let rows : rows_of (sided.state_of near) ≡ on_last (with_written h.bytes) (rows_of (sided.state_of old.near)) = writes_rows (Some fault) most h.bytes (sided.state_of old.near) (sided.state_of near) h.writes in
    record {
      did = one_fault (Push Up most) (state_of old before) t (record { side = Near; fault = fault }) (record {
        changes = pushed_on (line_at old.up (before old.last)) (lanes_of (before old.last)) Up most (state_of old before) t h.bytes (sided.state_of near) (Some fault) (line_up old.up (before old.last) up) h.writes (push_up_is old near before after h.bytes up h.peer.wire h.change);
        kept = failed_near law old near after fault r.aside h.peer h.stays;
      });
      stays = record {
        tells = tells_failed (record { side = Near; fault = fault }) t after (tells_written_near old near before after h.bytes law up r rows h.change);
        last = λ e. sym (numbers_are near old.far old.last (same_number h.bytes (sided.state_of old.near) (sided.state_of near) rows ∙ r.aside.near.number) r.aside.far.number new after refl refl);
      };
    }

pub push_far : ReadyGoesOn → (old : Run) (far : SideRun) (before after : ℕ → outside.Line) (most : ℕ) (stop : Option ProxyFault) → old.up ≡ true → IsReady old before → Sends most old.last Down old.far far before after stop
    → Went (MovesAll (Push Down most ∷ [])) old (record old { far = far }) before after (at_side Far stop)
push_far law old far before after most None up r h =
    let new : Run = record old { far = far } in
    let rows : rows_of (sided.state_of far) ≡ on_last (with_written h.bytes) (rows_of (sided.state_of old.far)) = writes_rows None most h.bytes (sided.state_of old.far) (sided.state_of far) h.writes in
    let aside : IsReadyAside new = record { near = r.aside.near; far = up_still Far old.last old.up old.far far up r.aside.far h.stays h.peer (same_number h.bytes (sided.state_of old.far) (sided.state_of far) rows) } in
    record {
      did = one_move (Push Down most) (state_of old before) (state_of new after) (record {
        changes = pushed_on (line_at old.up (before old.last)) (lanes_of (before old.last)) Down most (state_of old before) (state_of new after) h.bytes (sided.state_of far) None (line_up old.up (before old.last) up) h.writes (push_down_is old far before after h.bytes up h.peer.wire h.change);
        kept = kept_aside law new after aside;
      });
      stays = ready_line old new before after (pushed_onto Down h.bytes) r aside refl refl h.change (push_up_stays Down h.bytes) (tells_written_far old far before after h.bytes law up r rows h.change);
    }
push_far law old far before after most (Some fault) up r h =
    let new : Run = record old { far = far } in
    let t : State = state_of new after in
    let rows : rows_of (sided.state_of far) ≡ on_last (with_written h.bytes) (rows_of (sided.state_of old.far)) = writes_rows (Some fault) most h.bytes (sided.state_of old.far) (sided.state_of far) h.writes in
    record {
      did = one_fault (Push Down most) (state_of old before) t (record { side = Far; fault = fault }) (record {
        changes = pushed_on (line_at old.up (before old.last)) (lanes_of (before old.last)) Down most (state_of old before) t h.bytes (sided.state_of far) (Some fault) (line_up old.up (before old.last) up) h.writes (push_down_is old far before after h.bytes up h.peer.wire h.change);
        kept = failed_far law old far after fault r.aside h.peer h.stays;
      });
      stays = record {
        tells = tells_failed (record { side = Far; fault = fault }) t after (tells_written_far old far before after h.bytes law up r rows h.change);
        last = λ e. sym (numbers_are old.near far old.last r.aside.near.number (same_number h.bytes (sided.state_of old.far) (sided.state_of far) rows ∙ r.aside.far.number) new after refl refl);
      };
    }

-- none is up
not_up : (dir : Direction) (most : ℕ) (up : Bool) (line : outside.Line) (s : State) → up ≡ false → PushedOn (line_at up line) dir most s s None × PulledOff (line_at up line) dir most s s None
not_up dir most true line s e = absurd cc
not_up dir most false line s e = ((refl, refl), (refl, refl))

pub push_none : ReadyGoesOn → (dir : Direction) (most : ℕ) (old : Run) (line : ℕ → outside.Line) → old.up ≡ false → IsReady old line → Went (MovesAll (Push dir most ∷ [])) old old line line None
push_none law dir most old line down r = record {
  did = one_move (Push dir most) (state_of old line) (state_of old line) (record { changes = (not_up dir most old.up (line old.last) (state_of old line) down).0; kept = kept_aside law old line r.aside });
  stays = r;
}

pub pull_none : ReadyGoesOn → (dir : Direction) (most : ℕ) (old : Run) (line : ℕ → outside.Line) → old.up ≡ false → IsReady old line → Went (MovesAll (Pull dir most ∷ [])) old old line line None
pull_none law dir most old line down r = record {
  did = one_move (Pull dir most) (state_of old line) (state_of old line) (record { changes = (not_up dir most old.up (line old.last) (state_of old line) down).1; kept = kept_aside law old line r.aside });
  stays = r;
}

-- ---- off the line

pulled_off : (line : Option Lanes) (lanes : Lanes) (dir : Direction) (most : ℕ) (s t : State) (fault : Option ProxyFault) → line ≡ Some lanes → PulledBy fault dir (take most (lane_at dir lanes)) s t → PulledOff line dir most s t (at_side (reader dir) fault)
pulled_off line lanes dir most s t fault e p = subst (λ (it : Option Lanes). PulledOff it dir most s t (at_side (reader dir) fault)) (sym e) (fault, p, refl)

pull_far_is : (old : Run) (far : SideRun) (before after : ℕ → outside.Line) (count : ℕ) → old.up ≡ true → far.peer.wire ≡ old.far.peer.wire → Became before after old.last (pulled_from Up count)
    → state_of (record old { far = far }) after ≡ on_lane Up (λ lane. drop count lane) (with_side Far (sided.state_of far) (state_of old before))
pull_far_is old far before after count up wire b =
    state_is (state_of (record old { far = far }) after) (on_lane Up (λ lane. drop count lane) (with_side Far (sided.state_of far) (state_of old before))) refl refl refl wire
    (pulled_line Up old.up count (before old.last) (after old.last) up b.here)

pull_near_is : (old : Run) (near : SideRun) (before after : ℕ → outside.Line) (count : ℕ) → old.up ≡ true → near.peer.wire ≡ old.near.peer.wire → Became before after old.last (pulled_from Down count)
    → state_of (record old { near = near }) after ≡ on_lane Down (λ lane. drop count lane) (with_side Near (sided.state_of near) (state_of old before))
pull_near_is old near before after count up wire b =
    state_is (state_of (record old { near = near }) after) (on_lane Down (λ lane. drop count lane) (with_side Near (sided.state_of near) (state_of old before))) refl refl wire refl
    (pulled_line Down old.up count (before old.last) (after old.last) up b.here)

-- what was pulled of what waited
whole_front : (most : ℕ) (waiting : List ℕ) → take (length (take most waiting)) waiting ≡ take most waiting ++ []
whole_front most waiting = ap (λ (n : ℕ). take n waiting) (length-take most waiting) ∙ take_min most waiting ∙ sym (append-nil (take most waiting))

part_front : (most : ℕ) (waiting : List ℕ) (fault : ProxyFault) (pulled : List ℕ) (a b : SideState) (p : ReadsInPart (take most waiting) fault pulled a b) → take (length pulled) waiting ≡ p.got ++ p.refused
part_front most waiting fault pulled a b p =
    sym (take-take (length pulled) most waiting (omega (arith, p.few, length-take most waiting))) ∙ sym p.front ∙ p.split

tells_pulled_far : ReadyGoesOn → (old : Run) (far : SideRun) (before after : ℕ → outside.Line) (count : ℕ) (got refused : List ℕ) → old.up ≡ true → IsReady old before → rows_of (sided.state_of far) ≡ on_last (with_read got) (rows_of (sided.state_of old.far)) → Became before after old.last (pulled_from Up count)
    → take count (before old.last).up.waiting ≡ got ++ refused → TellsBut Far old.last refused (rows_of (sided.state_of old.near)) (rows_of (sided.state_of far)) after
tells_pulled_far law old far before after count got refused up r rows b is =
    subst (λ (lines : List Line). TellsBut Far old.last refused (rows_of (sided.state_of old.near)) lines after) (sym rows)
    (pulled_up got refused count (rows_of (sided.state_of old.near)) (rows_of (sided.state_of old.far)) before after old.last b is (last_of law Far old.far old.last old.up up (r.some up) r.aside.far) r.aside.far.number r.tells)

tells_pulled_near : ReadyGoesOn → (old : Run) (near : SideRun) (before after : ℕ → outside.Line) (count : ℕ) (got refused : List ℕ) → old.up ≡ true → IsReady old before → rows_of (sided.state_of near) ≡ on_last (with_read got) (rows_of (sided.state_of old.near)) → Became before after old.last (pulled_from Down count)
    → take count (before old.last).down.waiting ≡ got ++ refused → TellsBut Near old.last refused (rows_of (sided.state_of near)) (rows_of (sided.state_of old.far)) after
tells_pulled_near law old near before after count got refused up r rows b is =
    subst (λ (lines : List Line). TellsBut Near old.last refused lines (rows_of (sided.state_of old.far)) after) (sym rows)
    (pulled_down got refused count (rows_of (sided.state_of old.near)) (rows_of (sided.state_of old.far)) before after old.last b is (last_of law Near old.near old.last old.up up (r.some up) r.aside.near) r.aside.near.number r.tells)

pub pull_far : ReadyGoesOn → (old : Run) (far : SideRun) (before after : ℕ → outside.Line) (most : ℕ) (stop : Option ProxyFault) → old.up ≡ true → IsReady old before → Came most old.last Up old.far far before after stop
    → Went (MovesAll (Pull Up most ∷ [])) old (record old { far = far }) before after (at_side Far stop)
pull_far law old far before after most None up r h =
    let new : Run = record old { far = far } in
    let bytes : List ℕ = take most (before old.last).up.waiting in
    let rows : rows_of (sided.state_of far) ≡ on_last (with_read bytes) (rows_of (sided.state_of old.far)) = reads_rows bytes (sided.state_of old.far) (sided.state_of far) h.comes.0 in
    let aside : IsReadyAside new = record { near = r.aside.near; far = up_still Far old.last old.up old.far far up r.aside.far h.stays h.peer (read_number bytes (sided.state_of old.far) (sided.state_of far) rows) } in
    record {
      did = one_move (Pull Up most) (state_of old before) (state_of new after) (record {
        changes = pulled_off (line_at old.up (before old.last)) (lanes_of (before old.last)) Up most (state_of old before) (state_of new after) None (line_up old.up (before old.last) up) (sided.state_of far, h.comes.0, pull_far_is old far before after (length bytes) up h.peer.wire h.comes.1);
        kept = kept_aside law new after aside;
      });
      stays = ready_line old new before after (pulled_from Up (length bytes)) r aside refl refl h.comes.1 (pull_up_stays Up (length bytes))
          (none_refused Far old.last (rows_of (sided.state_of old.near)) (rows_of (sided.state_of far)) after
          (tells_pulled_far law old far before after (length bytes) bytes [] up r rows h.comes.1 (whole_front most (before old.last).up.waiting)));
    }
pull_far law old far before after most (Some fault) up r h =
    let new : Run = record old { far = far } in
    let t : State = state_of new after in
    let p = h.comes.1 in
    let rows : rows_of (sided.state_of far) ≡ on_last (with_read p.got) (rows_of (sided.state_of old.far)) = part_rows (read p.got (sided.state_of old.far)) (sided.state_of far) p.part in
    let number : connections t ≡ old.last = numbers_are old.near far old.last r.aside.near.number (read_number p.got (sided.state_of old.far) (sided.state_of far) rows ∙ r.aside.far.number) new after refl refl in
    record {
      did = one_fault (Pull Up most) (state_of old before) t (record { side = Far; fault = fault }) (record {
        changes = pulled_off (line_at old.up (before old.last)) (lanes_of (before old.last)) Up most (state_of old before) t (Some fault) (line_up old.up (before old.last) up) (sided.state_of far, (h.comes.0, p, pull_far_is old far before after (length h.comes.0) up h.peer.wire h.comes.2));
        kept = failed_far law old far after fault r.aside h.peer h.stays;
      });
      stays = record {
        tells = record {
          piece = p.refused;
          few = p.piece;
          because = p.because;
          tells = subst (λ (n : ℕ). TellsBut Far n p.refused (rows_of t.near) (rows_of t.far) after) (sym number)
              (tells_pulled_far law old far before after (length h.comes.0) p.got p.refused up r rows h.comes.2 (part_front most (before old.last).up.waiting fault h.comes.0 (sided.state_of old.far) (sided.state_of far) p));
        };
        last = λ e. sym number;
      };
    }

pub pull_near : ReadyGoesOn → (old : Run) (near : SideRun) (before after : ℕ → outside.Line) (most : ℕ) (stop : Option ProxyFault) → old.up ≡ true → IsReady old before → Came most old.last Down old.near near before after stop
    → Went (MovesAll (Pull Down most ∷ [])) old (record old { near = near }) before after (at_side Near stop)
pull_near law old near before after most None up r h =
    let new : Run = record old { near = near } in
    let bytes : List ℕ = take most (before old.last).down.waiting in
    let rows : rows_of (sided.state_of near) ≡ on_last (with_read bytes) (rows_of (sided.state_of old.near)) = reads_rows bytes (sided.state_of old.near) (sided.state_of near) h.comes.0 in
    let aside : IsReadyAside new = record { near = up_still Near old.last old.up old.near near up r.aside.near h.stays h.peer (read_number bytes (sided.state_of old.near) (sided.state_of near) rows); far = r.aside.far } in
    record {
      did = one_move (Pull Down most) (state_of old before) (state_of new after) (record {
        changes = pulled_off (line_at old.up (before old.last)) (lanes_of (before old.last)) Down most (state_of old before) (state_of new after) None (line_up old.up (before old.last) up) (sided.state_of near, h.comes.0, pull_near_is old near before after (length bytes) up h.peer.wire h.comes.1);
        kept = kept_aside law new after aside;
      });
      stays = ready_line old new before after (pulled_from Down (length bytes)) r aside refl refl h.comes.1 (pull_up_stays Down (length bytes))
          (none_refused Near old.last (rows_of (sided.state_of near)) (rows_of (sided.state_of old.far)) after
          (tells_pulled_near law old near before after (length bytes) bytes [] up r rows h.comes.1 (whole_front most (before old.last).down.waiting)));
    }
pull_near law old near before after most (Some fault) up r h =
    let new : Run = record old { near = near } in
    let t : State = state_of new after in
    let p = h.comes.1 in
    let rows : rows_of (sided.state_of near) ≡ on_last (with_read p.got) (rows_of (sided.state_of old.near)) = part_rows (read p.got (sided.state_of old.near)) (sided.state_of near) p.part in
    let number : connections t ≡ old.last = numbers_are near old.far old.last (read_number p.got (sided.state_of old.near) (sided.state_of near) rows ∙ r.aside.near.number) r.aside.far.number new after refl refl in
    record {
      did = one_fault (Pull Down most) (state_of old before) t (record { side = Near; fault = fault }) (record {
        changes = pulled_off (line_at old.up (before old.last)) (lanes_of (before old.last)) Down most (state_of old before) t (Some fault) (line_up old.up (before old.last) up) (sided.state_of near, (h.comes.0, p, pull_near_is old near before after (length h.comes.0) up h.peer.wire h.comes.2));
        kept = failed_near law old near after fault r.aside h.peer h.stays;
      });
      stays = record {
        tells = record {
          piece = p.refused;
          few = p.piece;
          because = p.because;
          tells = subst (λ (n : ℕ). TellsBut Near n p.refused (rows_of t.near) (rows_of t.far) after) (sym number)
              (tells_pulled_near law old near before after (length h.comes.0) p.got p.refused up r rows h.comes.2 (part_front most (before old.last).down.waiting fault h.comes.0 (sided.state_of old.near) (sided.state_of near) p));
        };
        last = λ e. sym number;
      };
    }
