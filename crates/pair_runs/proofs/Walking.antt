-- What holds between both sides before and behind a move, where it holds of each thing that a move does to a side.
use Rattle.std.proofs.Common.{◌≡◌, ℕ, zero, suc, ◌+◌, ◌-◌, List, [], ◌∷◌, ◌++◌, take, drop, length, Bool, true, false, is_none, ◌&&◌, ◌||◌, Option, Some, None, refl, sym, subst, inl, inr}
use Rattle.wp_outside.specs.declared.kinds.Direction.{Direction}
use Rattle.wp_outside.specs.declared.kinds.Side.{Side}
use Rattle.wp_outside.specs.declared.kinds.Side.TheVariants.{Near, Far}
use Rattle.half_model.specs.declared.items.PeerIn.{PeerIn}
use Rattle.pair_model.specs.Lines.{Line}
use Rattle.pair_model.specs.Steps.{on_last, with_written, with_read}
use Rattle.side_model.specs.declared.fault.ProxyFault.{ProxyFault}
use Rattle.pair_runs.specs.Linking.{new_line, with_line, Reads, read}
use Rattle.pair_runs.specs.Loading.{LoadsIn, LoadsAllIn, Loads}
use Rattle.pair_runs.specs.Moves.{Move, Put, Take, Load, LoadAll, Connect, ConnectIfHeld, Break, Push, Pull, Spoil, Close, at_side, Loaded, LoadedThen, holds, LineInPart, ConnectFails, ConnectBy, ConnectedBy, Connected, WritesBy, PushedOn, PulledBy, PulledOff, ClosedBy, Changes, spoiled}
use Rattle.pair_runs.specs.Sides.{SideState, on_rows, fed, asked, all_loaded, wants}
use Rattle.pair_runs.specs.States.{State, Lanes, Fault, side_at, with_side, wire_at, with_wire, lane_at, on_lane, writer, reader, connections}
use Rattle.pair_runs.specs.Taking.{Cut, cut_item, Taker, TakesIn}
use Rattle.pair_runs.specs.Working.{Works, InPart}
use Rattle.pair_runs.proofs.Partly.{nothing_part}

-- what holds behind good calls, and what behind one that meets a fault
pub record Steps (R P : SideState → SideState → Type 0) : Type 0 where
  pub same : (a : SideState) → R a a
  pub chain : (a b c : SideState) → R a b → R b c → R a c
  pub ends : (a b c : SideState) → R a b → P b c → P a c
  pub keeps : (a b : SideState) → R a b → P a b
  pub works : (hears : Bool) (a b : SideState) → Works hears a b → R a b
  pub part : (a b : SideState) → InPart a b → P a b
  pub feeds : (item : PeerIn) (a : SideState) → wants a ≡ true → R a (fed item a)
  pub asks : (a : SideState) → R a (asked a)
  pub loads : (a : SideState) (copies : List ℕ) (loaded : ℕ) → R a (record a { copies = copies; loaded = loaded })
  pub rows : (change : List Line → List Line) (a : SideState) → R a (on_rows change a)

abbrev pub By : (SideState → SideState → Type 0) → (SideState → SideState → Type 0) → Option ProxyFault → SideState → SideState → Type 0
By R P None a b = R a b
By R P (Some fault) a b = P a b

-- both sides
abbrev pub BothStep : (SideState → SideState → Type 0) → (SideState → SideState → Type 0) → Option Fault → State → State → Type 0
BothStep R P None s t = R s.near t.near × R s.far t.far
BothStep R P (Some fault) s t = P s.near t.near × P s.far t.far

module _ (R P : SideState → SideState → Type 0) (h : Steps R P) where
  then_by : (stop : Option ProxyFault) (a b c : SideState) → R a b → By R P stop b c → By R P stop a c
  then_by None a b c r s = h.chain a b c r s
  then_by (Some fault) a b c r s = h.ends a b c r s

  -- ---- one side

  takes_step : (count most : ℕ) (a : SideState) (wire : List PeerIn) (b : Taker) (stop : Option ProxyFault) → TakesIn count most a wire b stop → By R P stop a b.side
  takes_step zero most a wire b stop t =
      subst (λ (it : Option ProxyFault). By R P it a b.side) (sym t.1) (subst (λ (it : Taker). R a it.side) (sym t.0) (h.same a))
  takes_step (suc count) most a [] b stop t = absurd t
  takes_step (suc count) most a (item ∷ wire) b stop t = elim t.2 [
    | inl fails ↦
        let it : Cut = cut_item most item wire in
        subst (λ (x : Option ProxyFault). By R P x a b.side) (sym fails.stops) (h.ends a (fed it.item a) b.side (h.feeds it.item a t.1) (h.part (fed it.item a) b.side fails.part.part))
    | inr goes ↦
        let it : Cut = cut_item most item wire in
        then_by stop a goes.mid b.side (h.chain a (fed it.item a) goes.mid (h.feeds it.item a t.1) (h.works false (fed it.item a) goes.mid goes.works))
        (takes_step count (most - it.cost) goes.mid it.rest b stop goes.more)
  ]

  loads_step : (count words over : ℕ) (a b : SideState) (stop : Option ProxyFault) → LoadsIn count words a b over stop → By R P stop a b
  loads_step zero words over a b stop l = subst (λ (x : Option ProxyFault). By R P x a b) (sym l.0) (elim l.1 [
    | inl none ↦ subst (λ (it : SideState). R a it) (sym none.1) (h.same a)
    | inr last ↦ subst (λ (it : SideState). R a it) (sym last.1) (h.loads a a.copies (a.loaded + words))
  ])
  loads_step (suc count) words over a b stop l = elim l.2 [
    | inl fails ↦ subst (λ (x : Option ProxyFault). By R P x a b) (sym fails.stops) (h.part a b fails.part.part)
    | inr goes ↦
        then_by stop a goes.1.mid b (h.chain a (all_loaded a) goes.1.mid (h.loads a [] 0) (h.works false (all_loaded a) goes.1.mid goes.1.works))
        (loads_step count _ over goes.1.mid b stop goes.1.more)
  ]

  all_step : (count : ℕ) (a b : SideState) (stop : Option ProxyFault) → LoadsAllIn count a b stop → By R P stop a b
  all_step zero a b stop l = subst (λ (x : Option ProxyFault). By R P x a b) (sym l.2) (subst (λ (it : SideState). R a it) (sym l.1) (h.same a))
  all_step (suc count) a b stop l = elim l.1 [
    | inl fails ↦ subst (λ (x : Option ProxyFault). By R P x a b) (sym fails.stops) (h.part a b fails.part.part)
    | inr goes ↦
        then_by stop a goes.mid b (h.chain a (all_loaded a) goes.mid (h.loads a [] 0) (h.works false (all_loaded a) goes.mid goes.works)) (all_step count goes.mid b stop goes.more)
  ]

  closed_step : (said : Bool) (stop : Option ProxyFault) (a b : SideState) → ClosedBy said stop a b → By R P stop a b
  closed_step true None a b c = subst (λ (it : SideState). R a it) (sym c) (h.same a)
  closed_step true (Some fault) a b c = absurd c
  closed_step false None a b c = h.chain a (asked a) b (h.asks a) (h.works false (asked a) b c)
  closed_step false (Some fault) a b c = h.ends a (asked a) b (h.asks a) (h.part (asked a) b c.part)

  line_step : (connection : ℕ) (a b : SideState) → LineInPart connection a b → P a b
  line_step connection a b part = elim part [
    | inl old ↦ h.part a b (nothing_part a b old)
    | inr new ↦ h.ends a (with_line connection a) b (h.rows (λ rows. rows ++ new_line connection ∷ []) a) (h.part (with_line connection a) b (nothing_part (with_line connection a) b new))
  ]

  reads_step : (bytes : List ℕ) (a b : SideState) → Reads bytes a b → R a b
  reads_step [] a b r = subst (λ (it : SideState). R a it) (sym r) (h.same a)
  reads_step (byte ∷ bytes) a b r = h.chain a (read (byte ∷ bytes) a) b (h.rows (on_last (with_read (byte ∷ bytes))) a) (h.works true (read (byte ∷ bytes) a) b r.1)

  -- ---- both sides

  one_step : (side : Side) (stop : Option ProxyFault) (b : SideState) (wire : List PeerIn) (s : State) → By R P stop (side_at side s) b → BothStep R P (at_side side stop) s (with_side side b (with_wire side wire s))
  one_step Near None b wire s r = (r, h.same s.far)
  one_step Near (Some fault) b wire s r = (r, h.keeps s.far s.far (h.same s.far))
  one_step Far None b wire s r = (h.same s.near, r)
  one_step Far (Some fault) b wire s r = (h.keeps s.near s.near (h.same s.near), r)

  same_wire : (side : Side) (b : SideState) (s : State) → with_side side b s ≡ with_side side b (with_wire side (wire_at side s) s)
  same_wire Near b s = refl
  same_wire Far b s = refl

  side_step : (side : Side) (stop : Option ProxyFault) (b : SideState) (s : State) → By R P stop (side_at side s) b → BothStep R P (at_side side stop) s (with_side side b s)
  side_step side stop b s r = subst (λ (u : State). BothStep R P (at_side side stop) s u) (sym (same_wire side b s)) (one_step side stop b (wire_at side s) s r)

  on_line : (stop : Option Fault) (dir : Direction) (change : List ℕ → List ℕ) (s t : State) → BothStep R P stop s t → BothStep R P stop s (on_lane dir change t)
  on_line None dir change s t r = (r.0, r.1)
  on_line (Some fault) dir change s t r = (r.0, r.1)

  by_both : (s u t : State) (stop it : Option Fault) → t ≡ u → stop ≡ it → BothStep R P it s u → BothStep R P stop s t
  by_both s u t stop it e d r = subst (λ (x : Option Fault). BothStep R P x s t) (sym d) (subst (λ (v : State). BothStep R P it s v) (sym e) r)

  pub nothing_step : (s : State) → BothStep R P None s s
  nothing_step s = (h.same s.near, h.same s.far)

  pub then_both : (stop : Option Fault) (s t u : State) → BothStep R P None s t → BothStep R P stop t u → BothStep R P stop s u
  then_both None s t u r q = (h.chain s.near t.near u.near r.0 q.0, h.chain s.far t.far u.far r.1 q.1)
  then_both (Some fault) s t u r q = (h.ends s.near t.near u.near r.0 q.0, h.ends s.far t.far u.far r.1 q.1)

  loaded_step : (words : ℕ) (s t : State) (stop : Option Fault) → Loaded words s t stop → BothStep R P stop s t
  loaded_step words s t stop (a, (over, (fault, loads, others))) = go fault loads others
    where
      go : (fault : Option ProxyFault) → Loads words s.near a over fault → LoadedThen a over fault s t stop → BothStep R P stop s t
      go (Some it) l o = by_both s (record s { near = a }) t stop (at_side Near (Some it)) o.0 o.1 (side_step Near (Some it) a s (loads_step l.count words over s.near a (Some it) l.row))
      go None l (b, (rest, (more, all, is, stops))) =
          by_both s (record s { near = a; far = b }) t stop (at_side Far more) is stops
          (then_both (at_side Far more) s (record s { near = a }) (record s { near = a; far = b }) (side_step Near None a s (loads_step l.count words over s.near a None l.row))
          (side_step Far more b (record s { near = a }) (loads_step all.count over rest s.far b more all.row)))

  connected_step : (makes : Bool) (s t : State) (stop : Option Fault) → Connected makes s t stop → BothStep R P stop s t
  connected_step makes s t stop c = go (is_none s.line && makes) c
    where
      near_line : R s.near (with_line (suc (connections s)) s.near)
      near_line = h.rows (λ rows. rows ++ new_line (suc (connections s)) ∷ []) s.near

      by_fail : (side : Side) → ConnectFails side (suc (connections s)) s t → P s.near t.near × P s.far t.far
      by_fail Near (b, part, is) = subst (λ (u : State). P s.near u.near × P s.far u.far) (sym is) (line_step (suc (connections s)) s.near b part, h.keeps s.far s.far (h.same s.far))
      by_fail Far (b, part, is) = subst (λ (u : State). P s.near u.near × P s.far u.far) (sym is) (h.keeps s.near (with_line (suc (connections s)) s.near) near_line, line_step (suc (connections s)) s.far b part)

      by_stop : (stop : Option Fault) → ConnectBy stop s t → BothStep R P stop s t
      by_stop None d = subst (λ (u : State). R s.near u.near × R s.far u.far) (sym d.1) (near_line, h.rows (λ rows. rows ++ new_line (suc (connections s)) ∷ []) s.far)
      by_stop (Some it) d = by_fail it.side d.1

      go : (b : Bool) → ConnectedBy b s t stop → BothStep R P stop s t
      go true d = by_stop stop d
      go false d = by_both s s t stop None d.0 d.1 (nothing_step s)

  pushed_step : (dir : Direction) (most : ℕ) (s t : State) (stop : Option Fault) (line : Option Lanes) → PushedOn line dir most s t stop → BothStep R P stop s t
  pushed_step dir most s t stop None p = by_both s s t stop None p.0 p.1 (nothing_step s)
  pushed_step dir most s t stop (Some lanes) (bytes, (b, (fault, writes, is, stops))) =
      by_both s (on_lane dir (λ lane. lane ++ bytes) (with_side (writer dir) b s)) t stop (at_side (writer dir) fault) is stops
      (on_line (at_side (writer dir) fault) dir (λ lane. lane ++ bytes) s (with_side (writer dir) b s) (side_step (writer dir) fault b s (go fault writes)))
    where
      a : SideState
      a = side_at (writer dir) s

      go : (fault : Option ProxyFault) → WritesBy fault most bytes a b → By R P fault a b
      go None w = subst (λ (it : SideState). R a it) (sym w.is) (h.rows (on_last (with_written bytes)) a)
      go (Some it) w = h.keeps a b (subst (λ (it : SideState). R a it) (sym w.0.is) (h.rows (on_last (with_written bytes)) a))

  pulled_step : (dir : Direction) (most : ℕ) (s t : State) (stop : Option Fault) (line : Option Lanes) → PulledOff line dir most s t stop → BothStep R P stop s t
  pulled_step dir most s t stop None p = by_both s s t stop None p.0 p.1 (nothing_step s)
  pulled_step dir most s t stop (Some lanes) (fault, pulled, stops) = go fault pulled stops
    where
      a : SideState
      a = side_at (reader dir) s

      bytes : List ℕ
      bytes = take most (lane_at dir lanes)

      go : (fault : Option ProxyFault) → PulledBy fault dir bytes s t → stop ≡ at_side (reader dir) fault → BothStep R P stop s t
      go None (b, reads, is) e =
          by_both s (on_lane dir (λ lane. drop (length bytes) lane) (with_side (reader dir) b s)) t stop None is e
          (on_line None dir (λ lane. drop (length bytes) lane) s (with_side (reader dir) b s) (side_step (reader dir) None b s (reads_step bytes a b reads)))
      go (Some it) (b, (got, reads, is)) e =
          by_both s (on_lane dir (λ lane. drop (length got) lane) (with_side (reader dir) b s)) t stop (at_side (reader dir) (Some it)) is e
          (on_line (at_side (reader dir) (Some it)) dir (λ lane. drop (length got) lane) s (with_side (reader dir) b s)
          (side_step (reader dir) (Some it) b s (h.ends a (read reads.got a) b (h.rows (on_last (with_read reads.got)) a) (h.part (read reads.got a) b reads.part))))

  -- ---- any move

  pub move_step : (move : Move) (s t : State) (stop : Option Fault) → Changes move s t stop → BothStep R P stop s t
  move_step (Put side put) s t stop c = by_both s (with_wire side (wire_at side s ++ put) s) t stop None c.0 c.1 (put_step side)
    where
      put_step : (side : Side) → BothStep R P None s (with_wire side (wire_at side s ++ put) s)
      put_step Near = nothing_step s
      put_step Far = nothing_step s
  move_step (Take side most) s t stop (b, (fault, all, is, stops)) =
      by_both s (with_side side b.side (with_wire side b.wire s)) t stop (at_side side fault) is stops (one_step side fault b.side b.wire s (takes_step all.count most (side_at side s) (wire_at side s) b fault all.row))
  move_step (Load words) s t stop c = loaded_step words s t stop c
  move_step (LoadAll side) s t stop (b, (fault, all, is, stops)) =
      by_both s (with_side side b s) t stop (at_side side fault) is stops (side_step side fault b s (all_step all.count (side_at side s) b fault all.row))
  move_step Connect s t stop c = connected_step true s t stop c
  move_step ConnectIfHeld s t stop c = connected_step (holds s.near || holds s.far) s t stop c
  move_step Break s t stop c = by_both s (record s { line = None }) t stop None c.0 c.1 (nothing_step s)
  move_step (Push dir most) s t stop c = pushed_step dir most s t stop s.line c
  move_step (Pull dir most) s t stop c = pulled_step dir most s t stop s.line c
  move_step (Spoil dir offset byte) s t stop c = by_both s (on_lane dir (spoiled offset byte) s) t stop None c.0 c.1 (on_line None dir (spoiled offset byte) s s (nothing_step s))
  move_step (Close side) s t stop (b, (fault, closes, is, stops)) =
      by_both s (with_side side b s) t stop (at_side side fault) is stops (side_step side fault b s (closed_step (side_at side s).inside.asked fault (side_at side s) b closes))
