-- What a line of a peer comes to: its items are put on the wire of its own side, and nothing else
-- changes; a line that moves nothing changes nothing.
use Rattle.std.proofs.Common.{◌≡◌, ℕ, Bool, true, false, List, [], ◌∷◌, ◌++◌, Option, Some, None, Result, Ok, Err, refl, sym, ap, subst, ◌∙◌, if◌then◌else◌}
use Rattle.std.specs.Prelude.{OnOk, IfErr}
use Rattle.std.proofs.lemmas.List.{append-nil}
use Rattle.wp_outside.specs.declared.kinds.Direction.{Direction}
use Rattle.wp_outside.specs.declared.kinds.Side.{Side}
use Rattle.wp_outside.specs.declared.kinds.Side.TheVariants.{Near, Far}
use Rattle.wp_outside.specs.Lines as outside
use Rattle.half_model.specs.declared.items.PeerIn.{PeerIn}
use Rattle.half_model.specs.declared.items.PeerIn.TheVariants as items
use Rattle.pool_words.specs.Views.{PoolId}
use Rattle.script_lang.specs.Puts as puts
use Rattle.script_lang.specs.declared.steps.Step.{Step}
use Rattle.script_lang.specs.declared.steps.StepKind.{StepKind}
use Rattle.script_lang.specs.declared.steps.StepKind.TheVariants as line
use Rattle.script_peers.specs.Laws.{BytesArePut}
use Rattle.script_peers.specs.Owning.{Owned}
use Rattle.script_peers.specs.Peers.{ScriptedPeer, Acts}
use Rattle.script_peers.specs.Putting.{is_own, is_side, doer, items_by, owned_after}
use Rattle.script_peers.specs.Scripts as peers
use Rattle.pair_runs.specs.Moves.{Put, MovesAll}
use Rattle.pair_runs.specs.Runs.{settles, moves_of, bytes_in}
use Rattle.pair_runs.specs.Sides.{SideState, rows_of, last_number}
use Rattle.pair_runs.specs.States.{State}
use Rattle.script_sides.specs.Ready.{ReadyGoesOn}
use Rattle.script_sides.specs.Sided as sided
use Rattle.script_sides.specs.Sided.{SideRun}
use Rattle.script_replay.specs.Going.{Went, IfStops, GoesBy}
use Rattle.script_replay.specs.Playing.{ActsAt, DoesLine}
use Rattle.script_replay.specs.Standing.{ReadyAt, IsReady, state_of}
use Rattle.script_replay.specs.declared.failures.Stop.{Stop}
use Rattle.script_replay.specs.declared.failures.Stop.TheVariants as stops
use Rattle.script_replay.specs.declared.run.Run.{Run}
use Rattle.script_replay.proofs.Connecting.{state_is}
use Rattle.script_replay.proofs.Keeping.{kept_aside, tells_same, one_move}
use Rattle.script_replay.proofs.Playing.{line_moves}

-- ---- a line of a peer

-- both crates tell the bytes among items alike
same_bytes : (all : List PeerIn) → bytes_in all ≡ peers.bytes_in all
same_bytes [] = refl
same_bytes (items.Bytes bytes ∷ all) = ap (λ (rest : List ℕ). bytes ++ rest) (same_bytes all)
same_bytes (items.Handle handle ∷ all) = same_bytes all
same_bytes (items.Note note ∷ all) = same_bytes all
same_bytes (items.Pipe item ∷ all) = same_bytes all

acts_wire : (what : StepKind) (old new : ScriptedPeer) → Acts what old new → (new.wire ≡ old.wire ++ peers.put_by old.side old.own what) × (new.side ≡ old.side)
acts_wire what old new (pool, is) = go (is_own old.side what) is
  where
    go : (b : Bool) → new ≡ (if b then record old { own = owned_after pool what old.own; wire = old.wire ++ items_by old.own what } else old) → (new.wire ≡ old.wire ++ (if b then items_by old.own what else [])) × (new.side ≡ old.side)
    go true e = (ap (λ (it : ScriptedPeer). it.wire) e, ap (λ (it : ScriptedPeer). it.side) e)
    go false e = (ap (λ (it : ScriptedPeer). it.wire) e ∙ sym (append-nil old.wire), ap (λ (it : ScriptedPeer). it.side) e)

-- ---- the bytes of a line

-- what a line puts on a wire has the line's bytes
bytes_line : BytesArePut → (pool : PoolId) (side : Side) (own : Owned) (what : StepKind) → bytes_in (peers.put_by side own what) ≡ puts.put_by side what
bytes_line law pool side own what =
    let put : List PeerIn = peers.put_by side own what in
    let alone : Step = record { line = 0; what = what } in
    same_bytes put ∙ ap (λ (all : List PeerIn). peers.bytes_in all) (sym (append-nil put))
    ∙ law side (alone ∷ []) own (peers.owned_by side pool what own) (put ++ []) (pool, [], refl, (refl, refl)) ∙ append-nil (puts.put_by side what)

-- a line that puts nothing has no bytes
no_bytes : BytesArePut → (pool : PoolId) (side : Side) (own : Owned) (what : StepKind) → peers.put_by side own what ≡ [] → puts.put_by side what ≡ []
no_bytes law pool side own what none = sym (bytes_line law pool side own what) ∙ ap bytes_in none

-- ---- a side behind a line

acted_state : (what : StepKind) (old new : SideRun) → ActsAt what old new → sided.state_of new ≡ sided.state_of old
acted_state what old new a = ap (λ (it : SideRun). sided.state_of it) a.same

acted_at : (side : Side) (last : ℕ) (up : Bool) (what : StepKind) (old new : SideRun) → ReadyAt side old last up → ActsAt what old new → ReadyAt side new last up
acted_at side last up what old new r a = record {
  ready = a.ready;
  side_is = (acts_wire what old.peer new.peer a.acts).1 ∙ r.side_is;
  number = ap (λ (it : SideState). last_number (rows_of it)) (acted_state what old new a) ∙ r.number;
  is_up = ap (λ (it : SideRun). sided.is_up it) a.same ∙ r.is_up;
}

-- its wire has what the line puts on the wires of that side
acted_wire : (side : Side) (last : ℕ) (up : Bool) (what : StepKind) (old new : SideRun) → ReadyAt side old last up → ActsAt what old new → new.peer.wire ≡ old.peer.wire ++ peers.put_by side old.peer.own what
acted_wire side last up what old new r a =
    (acts_wire what old.peer new.peer a.acts).0 ∙ ap (λ (whose : Side). old.peer.wire ++ peers.put_by whose old.peer.own what) r.side_is

-- ---- both sides behind a line

-- both with what their peers did
abbrev pub both : Run → SideRun → SideRun → Run
both old near far = record old { near = near; far = far }

both_ready : (what : StepKind) (old : Run) (near far : SideRun) (line : ℕ → outside.Line) → IsReady old line → ActsAt what old.near near → ActsAt what old.far far → IsReady (both old near far) line
both_ready what old near far line r an af = record {
  aside = record { near = acted_at Near old.last old.up what old.near near r.aside.near an; far = acted_at Far old.last old.up what old.far far r.aside.far af };
  few = r.few;
  some = r.some;
  holds = r.holds;
  fresh = r.fresh;
  tells = tells_same (rows_of (sided.state_of old.near)) (rows_of (sided.state_of old.far)) (rows_of (sided.state_of near)) (rows_of (sided.state_of far)) line
      (ap rows_of (acted_state what old.near near an)) (ap rows_of (acted_state what old.far far af)) r.tells;
}

-- the line puts these on each of the wires
both_state : (what : StepKind) (old : Run) (near far : SideRun) (line : ℕ → outside.Line) (on_near on_far : List PeerIn) → IsReady old line → ActsAt what old.near near → ActsAt what old.far far → peers.put_by Near old.near.peer.own what ≡ on_near → peers.put_by Far old.far.peer.own what ≡ on_far
    → state_of (both old near far) line ≡ record (state_of old line) { near_wire = old.near.peer.wire ++ on_near; far_wire = old.far.peer.wire ++ on_far }
both_state what old near far line on_near on_far r an af en ef =
    state_is (state_of (both old near far) line) (record (state_of old line) { near_wire = old.near.peer.wire ++ on_near; far_wire = old.far.peer.wire ++ on_far })
    (acted_state what old.near near an) (acted_state what old.far far af)
    (acted_wire Near old.last old.up what old.near near r.aside.near an ∙ ap (λ (put : List PeerIn). old.near.peer.wire ++ put) en)
    (acted_wire Far old.last old.up what old.far far r.aside.far af ∙ ap (λ (put : List PeerIn). old.far.peer.wire ++ put) ef)
    refl

-- ---- lines that put something

own_puts : (side : Side) (own : Owned) (what : StepKind) (whose : Option Side) → doer what ≡ whose → peers.put_by side own what ≡ (if is_side side whose then items_by own what else [])
own_puts side own what whose e = ap (λ (it : Option Side). if is_side side it then items_by own what else []) e

pub acts_put : BytesArePut → ReadyGoesOn → (peer : Side) (what : StepKind) (old : Run) (near far : SideRun) (line : ℕ → outside.Line) → doer what ≡ Some peer → settles what ≡ false → ((put : List PeerIn) → moves_of what put ≡ Put peer put ∷ [])
    → IsReady old line → ActsAt what old.near near → ActsAt what old.far far → Went (DoesLine what) old (both old near far) line line None
acts_put law goes Near what old near far line who e moves r an af =
    let s : State = state_of old line in
    let t : State = state_of (both old near far) line in
    let put : List PeerIn = items_by old.near.peer.own what in
    let ready : IsReady (both old near far) line = both_ready what old near far line r an af in
    let en : peers.put_by Near old.near.peer.own what ≡ put = own_puts Near old.near.peer.own what (Some Near) who in
    let ef : peers.put_by Far old.far.peer.own what ≡ [] = own_puts Far old.far.peer.own what (Some Near) who in
    let bytes : bytes_in put ≡ puts.put_by Near what = ap bytes_in (sym en) ∙ bytes_line law an.acts.0 Near old.near.peer.own what in
    record {
      did = line_moves what put s t None e
          (bytes ∙ sym (append-nil (puts.put_by Near what)) ∙ ap (λ (rest : List ℕ). puts.put_by Near what ++ rest) (sym (no_bytes law af.acts.0 Far old.far.peer.own what ef)))
          (subst (λ m. MovesAll m s t None) (sym (moves put)) (one_move (Put Near put) s t (record {
            changes = (both_state what old near far line put [] r an af en ef ∙ ap (λ (wire : List PeerIn). record s { near_wire = old.near.peer.wire ++ put; far_wire = wire }) (append-nil old.far.peer.wire), refl);
            kept = kept_aside goes (both old near far) line ready.aside;
          })));
      stays = ready;
    }
acts_put law goes Far what old near far line who e moves r an af =
    let s : State = state_of old line in
    let t : State = state_of (both old near far) line in
    let put : List PeerIn = items_by old.far.peer.own what in
    let ready : IsReady (both old near far) line = both_ready what old near far line r an af in
    let en : peers.put_by Near old.near.peer.own what ≡ [] = own_puts Near old.near.peer.own what (Some Far) who in
    let ef : peers.put_by Far old.far.peer.own what ≡ put = own_puts Far old.far.peer.own what (Some Far) who in
    let bytes : bytes_in put ≡ puts.put_by Far what = ap bytes_in (sym ef) ∙ bytes_line law af.acts.0 Far old.far.peer.own what in
    record {
      did = line_moves what put s t None e
          (bytes ∙ ap (λ (front : List ℕ). front ++ puts.put_by Far what) (sym (no_bytes law an.acts.0 Near old.near.peer.own what en)))
          (subst (λ m. MovesAll m s t None) (sym (moves put)) (one_move (Put Far put) s t (record {
            changes = (both_state what old near far line [] put r an af en ef ∙ ap (λ (wire : List PeerIn). record s { near_wire = wire; far_wire = old.far.peer.wire ++ put }) (append-nil old.near.peer.wire), refl);
            kept = kept_aside goes (both old near far) line ready.aside;
          })));
      stays = ready;
    }

-- ---- lines that put nothing

nothing_put : (side : Side) (own : Owned) (what : StepKind) → items_by own what ≡ [] → peers.put_by side own what ≡ []
nothing_put side own what e = go (is_own side what)
  where
    go : (b : Bool) → (if b then items_by own what else []) ≡ []
    go true = e
    go false = refl

pub acts_silent : BytesArePut → ReadyGoesOn → (what : StepKind) (old : Run) (near far : SideRun) (line : ℕ → outside.Line) → ((own : Owned) → items_by own what ≡ []) → settles what ≡ false → moves_of what [] ≡ []
    → IsReady old line → ActsAt what old.near near → ActsAt what old.far far → Went (DoesLine what) old (both old near far) line line None
acts_silent law goes what old near far line none e moves r an af =
    let s : State = state_of old line in
    let t : State = state_of (both old near far) line in
    let ready : IsReady (both old near far) line = both_ready what old near far line r an af in
    let en : peers.put_by Near old.near.peer.own what ≡ [] = nothing_put Near old.near.peer.own what (none old.near.peer.own) in
    let ef : peers.put_by Far old.far.peer.own what ≡ [] = nothing_put Far old.far.peer.own what (none old.far.peer.own) in
    record {
      did = line_moves what [] s t None e
          (sym (no_bytes law af.acts.0 Far old.far.peer.own what ef) ∙ ap (λ (front : List ℕ). front ++ puts.put_by Far what) (sym (no_bytes law an.acts.0 Near old.near.peer.own what en)))
          (subst (λ m. MovesAll m s t None) (sym moves) (
            both_state what old near far line [] [] r an af en ef
                ∙ ap (λ (wire : List PeerIn). record s { near_wire = wire; far_wire = old.far.peer.wire ++ [] }) (append-nil old.near.peer.wire)
                ∙ ap (λ (wire : List PeerIn). record s { far_wire = wire }) (append-nil old.far.peer.wire),
            refl,
          ));
      stays = ready;
    }

-- ---- by what the line is

-- the lines that peers do, and those that do nothing here
abbrev pub is_acted : StepKind → Bool
is_acted (line.Hex peer bytes) = true
is_acted (line.Say peer text) = true
is_acted (line.File peer number size) = true
is_acted (line.Grow peer number size) = true
is_acted (line.Fill peer number first count value) = true
is_acted (line.Pipe peer number) = true
is_acted (line.Give peer number) = true
is_acted (line.Put peer pipe bytes) = true
is_acted (line.End peer pipe) = true
is_acted (line.Shut peer number) = true
is_acted (line.Cut dir bytes) = true
is_acted (line.Drain bytes) = true
is_acted line.Stop = true
is_acted what = false

-- what no other arm takes is such a line
pub acted : (what : StepKind)
    → ((x0 : Side) (x1 : ℕ) → what ≡ line.Await x0 x1 → ⊥)
    → (what ≡ line.Settle → ⊥)
    → ((x0 : Side) (x1 : ℕ) → what ≡ line.Take x0 x1 → ⊥)
    → ((x0 : ℕ) → what ≡ line.Load x0 → ⊥)
    → ((x0 : Side) → what ≡ line.Close x0 → ⊥)
    → (what ≡ line.Connect → ⊥)
    → (what ≡ line.Break → ⊥)
    → ((x0 : Direction) (x1 : ℕ) → what ≡ line.Send x0 x1 → ⊥)
    → ((x0 : Direction) (x1 : ℕ) → what ≡ line.Recv x0 x1 → ⊥)
    → ((x0 : Direction) (x1 : ℕ) → what ≡ line.Both x0 x1 → ⊥)
    → ((x0 : Direction) (x1 : ℕ) (x2 : ℕ) → what ≡ line.Spoil x0 x1 x2 → ⊥)
    → is_acted what ≡ true
acted (line.Await x0 x1) never _ _ _ _ _ _ _ _ _ _ = absurd (never x0 x1 refl)
acted line.Settle _ never _ _ _ _ _ _ _ _ _ = absurd (never refl)
acted (line.Take x0 x1) _ _ never _ _ _ _ _ _ _ _ = absurd (never x0 x1 refl)
acted (line.Load x0) _ _ _ never _ _ _ _ _ _ _ = absurd (never x0 refl)
acted (line.Close x0) _ _ _ _ never _ _ _ _ _ _ = absurd (never x0 refl)
acted line.Connect _ _ _ _ _ never _ _ _ _ _ = absurd (never refl)
acted line.Break _ _ _ _ _ _ never _ _ _ _ = absurd (never refl)
acted (line.Send x0 x1) _ _ _ _ _ _ _ never _ _ _ = absurd (never x0 x1 refl)
acted (line.Recv x0 x1) _ _ _ _ _ _ _ _ never _ _ = absurd (never x0 x1 refl)
acted (line.Both x0 x1) _ _ _ _ _ _ _ _ _ never _ = absurd (never x0 x1 refl)
acted (line.Spoil x0 x1 x2) _ _ _ _ _ _ _ _ _ _ never = absurd (never x0 x1 x2 refl)
acted (line.Hex x0 x1) _ _ _ _ _ _ _ _ _ _ _ = refl
acted (line.Say x0 x1) _ _ _ _ _ _ _ _ _ _ _ = refl
acted (line.File x0 x1 x2) _ _ _ _ _ _ _ _ _ _ _ = refl
acted (line.Grow x0 x1 x2) _ _ _ _ _ _ _ _ _ _ _ = refl
acted (line.Fill x0 x1 x2 x3 x4) _ _ _ _ _ _ _ _ _ _ _ = refl
acted (line.Pipe x0 x1) _ _ _ _ _ _ _ _ _ _ _ = refl
acted (line.Give x0 x1) _ _ _ _ _ _ _ _ _ _ _ = refl
acted (line.Put x0 x1 x2) _ _ _ _ _ _ _ _ _ _ _ = refl
acted (line.End x0 x1) _ _ _ _ _ _ _ _ _ _ _ = refl
acted (line.Shut x0 x1) _ _ _ _ _ _ _ _ _ _ _ = refl
acted (line.Cut x0 x1) _ _ _ _ _ _ _ _ _ _ _ = refl
acted (line.Drain x0) _ _ _ _ _ _ _ _ _ _ _ = refl
acted line.Stop _ _ _ _ _ _ _ _ _ _ _ = refl

acts_by : BytesArePut → ReadyGoesOn → (what : StepKind) (old : Run) (near far : SideRun) (line : ℕ → outside.Line) → is_acted what ≡ true → IsReady old line → ActsAt what old.near near → ActsAt what old.far far → Went (DoesLine what) old (both old near far) line line None
acts_by law goes (line.Hex peer bytes) old near far it e r an af = acts_put law goes peer (line.Hex peer bytes) old near far it refl refl (λ put. refl) r an af
acts_by law goes (line.Say peer text) old near far it e r an af = acts_put law goes peer (line.Say peer text) old near far it refl refl (λ put. refl) r an af
acts_by law goes (line.File peer number size) old near far it e r an af = acts_silent law goes (line.File peer number size) old near far it (λ own. refl) refl refl r an af
acts_by law goes (line.Grow peer number size) old near far it e r an af = acts_silent law goes (line.Grow peer number size) old near far it (λ own. refl) refl refl r an af
acts_by law goes (line.Fill peer number first count value) old near far it e r an af = acts_silent law goes (line.Fill peer number first count value) old near far it (λ own. refl) refl refl r an af
acts_by law goes (line.Pipe peer number) old near far it e r an af = acts_silent law goes (line.Pipe peer number) old near far it (λ own. refl) refl refl r an af
acts_by law goes (line.Give peer number) old near far it e r an af = acts_put law goes peer (line.Give peer number) old near far it refl refl (λ put. refl) r an af
acts_by law goes (line.Put peer pipe bytes) old near far it e r an af = acts_put law goes peer (line.Put peer pipe bytes) old near far it refl refl (λ put. refl) r an af
acts_by law goes (line.End peer pipe) old near far it e r an af = acts_put law goes peer (line.End peer pipe) old near far it refl refl (λ put. refl) r an af
acts_by law goes (line.Shut peer number) old near far it e r an af = acts_put law goes peer (line.Shut peer number) old near far it refl refl (λ put. refl) r an af
acts_by law goes (line.Cut dir bytes) old near far it e r an af = acts_silent law goes (line.Cut dir bytes) old near far it (λ own. refl) refl refl r an af
acts_by law goes (line.Drain bytes) old near far it e r an af = acts_silent law goes (line.Drain bytes) old near far it (λ own. refl) refl refl r an af
acts_by law goes line.Stop old near far it e r an af = acts_silent law goes line.Stop old near far it (λ own. refl) refl refl r an af
acts_by law goes (line.Await peer count) old near far it e r an af = absurd cc
acts_by law goes (line.Take peer bytes) old near far it e r an af = absurd cc
acts_by law goes (line.Load words) old near far it e r an af = absurd cc
acts_by law goes line.Connect old near far it e r an af = absurd cc
acts_by law goes line.Break old near far it e r an af = absurd cc
acts_by law goes (line.Send dir bytes) old near far it e r an af = absurd cc
acts_by law goes (line.Recv dir bytes) old near far it e r an af = absurd cc
acts_by law goes (line.Both dir bytes) old near far it e r an af = absurd cc
acts_by law goes (line.Spoil dir offset byte) old near far it e r an af = absurd cc
acts_by law goes (line.Close peer) old near far it e r an af = absurd cc
acts_by law goes line.Settle old near far it e r an af = absurd cc

-- the peers do a line
pub acts_line : BytesArePut → ReadyGoesOn → (what : StepKind) (old new : Run) (line : ℕ → outside.Line) → is_acted what ≡ true → ActsAt what old.near new.near → ActsAt what old.far new.far → new ≡ record old { near = new.near; far = new.far } → IsReady old line → Went (DoesLine what) old new line line None
acts_line law goes what old new line e an af is r =
    subst (λ (run : Run). Went (DoesLine what) old run line line None) (sym is) (acts_by law goes what old new.near new.far line e r an af)

-- or want memory for it
pub act_line : BytesArePut → ReadyGoesOn → (what : StepKind) (old new : Run) (line : ℕ → outside.Line) (result : Result Unit Stop) → is_acted what ≡ true → OnOk result (ActsAt what old.near new.near) → OnOk result (ActsAt what old.far new.far) → new ≡ record old { near = new.near; far = new.far }
    → IfErr result (λ stop. stop ≡ stops.Memory) → IfStops result (GoesBy (DoesLine what) old new line line)
act_line law goes what old new line (Ok done) e an af is memory = λ ready. acts_line law goes what old new line e an af is ready
act_line law goes what old new line (Err (stops.Failed it)) e an af is memory = absurd (let never : stops.Failed it ≡ stops.Memory = memory in cc)
act_line law goes what old new line (Err stops.Memory) e an af is memory = tt
