-- Where a round changes nothing, nothing is left.
use Rattle.std.proofs.Common.{◌≡◌, ℕ, zero, suc, ◌<◌, ◌≤◌, List, [], ◌∷◌, ◌++◌, map, take, drop, length, Bool, true, false, not, is_none, ◌&&◌, ◌||◌, Option, Some, None, option_map, refl, sym, ap, subst, ◌∙◌, arith, length-append, length-drop, inl, inr, ◌⊎◌}
use Rattle.std.proofs.lemmas.List.{append-nil, nil_from_length, length-map}
use Rattle.std.specs.Option.{MatchOption}
use Rattle.wp_outside.specs.declared.kinds.Direction.{Direction}
use Rattle.wp_outside.specs.declared.kinds.Direction.TheVariants.{Up, Down}
use Rattle.wp_outside.specs.declared.kinds.Side.{Side}
use Rattle.wp_outside.specs.declared.kinds.Side.TheVariants.{Near, Far}
use Rattle.transfer_frames.specs.Grammar.{spelling}
use Rattle.pair_model.specs.Lines.{SideRecord, read_on}
use Rattle.pair_model.specs.Quiet.{NoFront, AllRead, DrainedLink}
use Rattle.pair_model.specs.Wire.{Sees}
use Rattle.pair_model.proofs.Done.{quiet_is_done as link_is_done}
use Rattle.side_model.specs.declared.fault.ProxyFault.{ProxyFault}
use Rattle.side_model.specs.Places.{places_in, side_of}
use Rattle.side_model.specs.Records.{Law}
use Rattle.side_model.specs.Shows.{is_empty}
use Rattle.pair_laws.specs.Pairs.{IsPair}
use Rattle.pair_runs.specs.Kept.{Kept, one_side}
use Rattle.pair_runs.specs.Loading.{LoadsAll}
use Rattle.pair_runs.specs.Moves.{Take, LoadAll, ConnectIfHeld, Push, Pull, at_side, Taken, LoadedAll, holds, Connected, ConnectedBy, PushedOn, PulledBy, PulledOff, WritesBy, MovesAll}
use Rattle.pair_runs.specs.Quiet.{Carries, Tied, QuietIsDone}
use Rattle.pair_runs.specs.Runs.{round}
use Rattle.pair_runs.specs.Sides.{SideState, TOKEN, rows_of, last_number, link_record, ring_in}
use Rattle.pair_runs.specs.States.{State, Lanes, side_at, with_side, lane_at, with_lane, on_lane, writer, reader}
use Rattle.pair_runs.proofs.Falling.{quiet_first, round_has, loaded_none}

-- ---- each move of a quiet round

pub record Quietly (most : ℕ) (s : State) : Type 0 where
  pub near_takes : Taken Near most s s None
  pub far_takes : Taken Far most s s None
  pub near : LoadedAll Near s s None
  pub far : LoadedAll Far s s None
  pub connects : Connected (holds s.near || holds s.far) s s None
  pub push_up : PushedOn s.line Up most s s None
  pub pull_up : PulledOff s.line Up most s s None
  pub push_down : PushedOn s.line Down most s s None
  pub pull_down : PulledOff s.line Down most s s None

pub quietly : (most : ℕ) (s : State) → MovesAll (round most) s s None → Quietly most s
quietly most s m0 =
    let h0 = round_has most in
    let h1 = h0.1 in let h2 = h1.1 in let h3 = h2.1 in let h4 = h3.1 in let h5 = h4.1 in let h6 = h5.1 in let h7 = h6.1 in let h8 = h7.1 in
    let m1 = quiet_first most (Take Near most) (Take Far most ∷ LoadAll Near ∷ LoadAll Far ∷ ConnectIfHeld ∷ Push Up most ∷ Pull Up most ∷ Push Down most ∷ Pull Down most ∷ []) s h0.0 h1 m0 in
    let m2 = quiet_first most (Take Far most) (LoadAll Near ∷ LoadAll Far ∷ ConnectIfHeld ∷ Push Up most ∷ Pull Up most ∷ Push Down most ∷ Pull Down most ∷ []) s h1.0 h2 m1.1 in
    let m3 = quiet_first most (LoadAll Near) (LoadAll Far ∷ ConnectIfHeld ∷ Push Up most ∷ Pull Up most ∷ Push Down most ∷ Pull Down most ∷ []) s h2.0 h3 m2.1 in
    let m4 = quiet_first most (LoadAll Far) (ConnectIfHeld ∷ Push Up most ∷ Pull Up most ∷ Push Down most ∷ Pull Down most ∷ []) s h3.0 h4 m3.1 in
    let m5 = quiet_first most ConnectIfHeld (Push Up most ∷ Pull Up most ∷ Push Down most ∷ Pull Down most ∷ []) s h4.0 h5 m4.1 in
    let m6 = quiet_first most (Push Up most) (Pull Up most ∷ Push Down most ∷ Pull Down most ∷ []) s h5.0 h6 m5.1 in
    let m7 = quiet_first most (Pull Up most) (Push Down most ∷ Pull Down most ∷ []) s h6.0 h7 m6.1 in
    let m8 = quiet_first most (Push Down most) (Pull Down most ∷ []) s h7.0 h8 m7.1 in
    let m9 = quiet_first most (Pull Down most) [] s h8.0 h8.1 m8.1 in
    record {
      near_takes = m1.0.changes;
      far_takes = m2.0.changes;
      near = m3.0.changes;
      far = m4.0.changes;
      connects = m5.0.changes;
      push_up = m6.0.changes;
      pull_up = m7.0.changes;
      push_down = m8.0.changes;
      pull_down = m9.0.changes;
    }

-- no copies are awaited
side_with : (side : Side) (b : SideState) (s : State) → side_at side (with_side side b s) ≡ b
side_with Near b s = refl
side_with Far b s = refl

no_copies : (side : Side) (s : State) → LoadedAll side s s None → (side_at side s).copies ≡ []
no_copies side s (b, (fault, all, is, stop)) = go fault all stop
  where
    go : (fault : Option ProxyFault) → LoadsAll (side_at side s) b fault → None ≡ at_side side fault → (side_at side s).copies ≡ []
    go (Some fault) all d = absurd cc
    go None all d =
        ap (λ (u : State). (side_at side u).copies) is ∙ ap (λ (it : SideState). it.copies) (side_with side b s)
        ∙ loaded_none all.count (side_at side s) b all.row

-- ---- where no connection is up

or_none : (a b : Bool) → a || b ≡ false → (a ≡ false) × (b ≡ false)
or_none true b e = absurd cc
or_none false b e = (refl, e)

holds_none : {X : Type 0} (xs : List X) → not (is_empty xs) ≡ false → xs ≡ []
holds_none [] e = refl
holds_none (x ∷ xs) e = absurd cc

nothing_kept : (side : Side) (it : SideState) → Law side TOKEN it.book None → holds it ≡ false → it.book.trail.acknowledged ≡ length it.book.trail.made
nothing_kept side it law e =
    let none : map spelling (drop it.book.trail.acknowledged it.book.trail.made) ≡ [] = holds_none (ring_in it.book.trail).frames e in
    let kept : length (drop it.book.trail.acknowledged it.book.trail.made) ≡ 0 = sym (length-map (drop it.book.trail.acknowledged it.book.trail.made) spelling) ∙ ap length none in
    omega (arith, kept, length-drop it.book.trail.acknowledged it.book.trail.made, law.wire.known)

not_up : (s t : State) → (makes : Bool) → s.line ≡ None → t.line ≡ s.line → Connected makes s t None → makes ≡ false
not_up s t false none same h = refl
not_up s t true none same h = absurd (by_line s.line none h)
  where
    by_line : (line : Option Lanes) → line ≡ None → ConnectedBy (is_none line && true) s t None → ⊥
    by_line (Some lanes) e d = cc
    by_line None e d = let up : t.line ≡ Some _ = ap (λ (u : State). u.line) d.1 in let never : None ≡ Some _ = sym none ∙ sym same ∙ up in cc

-- ---- where one is

lane_with : (dir : Direction) (bytes : List ℕ) (lanes : Lanes) → lane_at dir (with_lane dir bytes lanes) ≡ bytes
lane_with Up bytes lanes = refl
lane_with Down bytes lanes = refl

same_line : (side : Side) (b : SideState) (s : State) → (with_side side b s).line ≡ s.line
same_line Near b s = refl
same_line Far b s = refl

-- what a change of the lane leaves of it, where the state is as it was
lane_kept : (dir : Direction) (change : List ℕ → List ℕ) (s t : State) (lanes : Lanes) → s.line ≡ Some lanes → t.line ≡ s.line → s ≡ on_lane dir change t → lane_at dir lanes ≡ change (lane_at dir lanes)
lane_kept dir change s t lanes up same is =
    let line : Some lanes ≡ Some (with_lane dir (change (lane_at dir lanes)) lanes) =
    sym up ∙ ap (λ (u : State). u.line) is ∙ ap (λ (line : Option Lanes). option_map (λ it. with_lane dir (change (lane_at dir it)) it) line) (same ∙ up) in
    let lane : lanes ≡ with_lane dir (change (lane_at dir lanes)) lanes = cc in
    ap (lane_at dir) lane ∙ lane_with dir (change (lane_at dir lanes)) lanes

longer : (xs ys : List ℕ) → xs ≡ xs ++ ys → ys ≡ []
longer xs ys e = nil_from_length ys (omega (arith, ap length e, length-append xs ys))

no_front : (dir : Direction) (most : ℕ) (s : State) (lanes : Lanes) (line : Option Lanes) → 0 < most → s.line ≡ Some lanes → line ≡ Some lanes → PushedOn line dir most s s None
    → NoFront TOKEN (last_number (rows_of (side_at (writer dir) s))) (link_record (side_at (writer dir) s))
no_front dir most s lanes None l up e h = absurd cc
no_front dir most s lanes (Some it) l up e (bytes, (b, (fault, writes, is, stop))) = go fault writes stop
  where
    none : bytes ≡ []
    none = longer (lane_at dir lanes) bytes (lane_kept dir (λ lane. lane ++ bytes) s (with_side (writer dir) b s) lanes up (same_line (writer dir) b s) is)

    on_side : (side : Side) (change : List ℕ → List ℕ) → side_at side (on_lane dir change (with_side side b s)) ≡ b
    on_side Near change = refl
    on_side Far change = refl

    same : side_at (writer dir) s ≡ b
    same = ap (λ (u : State). side_at (writer dir) u) is ∙ on_side (writer dir) (λ lane. lane ++ bytes)

    by_all : (length bytes ≡ most) ⊎ NoFront TOKEN (last_number (rows_of b)) (link_record b) → NoFront TOKEN (last_number (rows_of b)) (link_record b)
    by_all (inl d) = absurd (omega (arith, d, ap length none, l))
    by_all (inr d) = d

    go : (fault : Option ProxyFault) → WritesBy fault most bytes (side_at (writer dir) s) b → None ≡ at_side (writer dir) fault
        → NoFront TOKEN (last_number (rows_of (side_at (writer dir) s))) (link_record (side_at (writer dir) s))
    go (Some fault) w d = absurd cc
    go None w d = subst (λ (it : SideState). NoFront TOKEN (last_number (rows_of it)) (link_record it)) (sym same) (by_all w.all)

take_some : (most : ℕ) (xs : List ℕ) → 0 < most → length (take most xs) ≡ 0 → xs ≡ []
take_some zero xs l e = absurd (omega (arith, l))
take_some (suc most) [] l e = refl
take_some (suc most) (x ∷ xs) l e = absurd (omega (arith, e))

take_most : (most : ℕ) (xs : List ℕ) → length (take most xs) ≤ length xs
take_most zero xs = omega arith
take_most (suc most) [] = omega arith
take_most (suc most) (x ∷ xs) = omega (arith, take_most most xs)

nothing_waits : (dir : Direction) (most : ℕ) (s : State) (lanes : Lanes) (line : Option Lanes) → 0 < most → s.line ≡ Some lanes → line ≡ Some lanes → PulledOff line dir most s s None → lane_at dir lanes ≡ []
nothing_waits dir most s lanes None l up e h = absurd cc
nothing_waits dir most s lanes (Some it) l up e (fault, pulled, stop) = go fault pulled stop
  where
    bytes : List ℕ
    bytes = take most (lane_at dir it)

    same_lane : it ≡ lanes
    same_lane = cc

    go : (fault : Option ProxyFault) → PulledBy fault dir bytes s s → None ≡ at_side (reader dir) fault → lane_at dir lanes ≡ []
    go (Some fault) p d = absurd cc
    go None (b, reads, is) d =
        let kept : lane_at dir lanes ≡ drop (length bytes) (lane_at dir lanes) = lane_kept dir (λ lane. drop (length bytes) lane) s (with_side (reader dir) b s) lanes up (same_line (reader dir) b s) is in
        let same : length bytes ≡ length (take most (lane_at dir lanes)) = ap (λ (lanes : Lanes). length (take most (lane_at dir lanes))) same_lane in
        take_some most (lane_at dir lanes) l
        (omega (arith, ap length kept, length-drop (length bytes) (lane_at dir lanes), same, take_most most (lane_at dir lanes)))

-- ---- both sides

-- what is told of a side's front by its records alone
front_told : (side : Side) (it : SideState) (law : Law side TOKEN it.book None) (c : ℕ) → law.stop ≡ None → NoFront TOKEN c (link_record it) → NoFront TOKEN c (side_of it.book.trail (places_in law.story) law.stop)
front_told side it law c stop n = record {
  seen = n.seen;
  bound = n.bound;
  sees = sees stop n.sees;
  sent = n.sent;
  frames = n.frames;
  bytes = n.bytes;
  done = n.done;
}
  where
    sees : law.stop ≡ None → Sees (link_record it) n.bound n.seen → Sees (side_of it.book.trail (places_in law.story) law.stop) n.bound n.seen
    sees e h = subst (λ stop. Sees (side_of it.book.trail (places_in law.story) stop) n.bound n.seen) (sym e) (record { reads = h.reads; past = h.past })

pair_of : (s : State) → Kept None s → Tied s → IsPair (one_side s.near None) (one_side s.far None)
pair_of s k t = record { one_law = k.0.law; other_law = k.1.law; agrees = t.agrees }

link_done : (most : ℕ) (s : State) (k : Kept None s) → Tied s → 0 < most → Quietly most s → (line : Option Lanes) → s.line ≡ line
    → (s.near.book.trail.acknowledged ≡ length s.near.book.trail.made) × (s.far.book.trail.acknowledged ≡ length s.far.book.trail.made)
link_done most s k tied l q None none =
    let nobody : (holds s.near ≡ false) × (holds s.far ≡ false) = or_none (holds s.near) (holds s.far) (not_up s s (holds s.near || holds s.far) none refl q.connects) in
    (nothing_kept Near s.near k.0.law nobody.0, nothing_kept Far s.far k.1.law nobody.1)
link_done most s k tied l q (Some lanes) up =
    let c : ℕ = last_number (rows_of s.near) in
    let carries : Carries c (rows_of s.near) (rows_of s.far) lanes = subst (λ (line : Option Lanes). MatchOption line (Unit {0}) (Carries c (rows_of s.near) (rows_of s.far))) up tied.carries in
    let no_up : lanes.up ≡ [] = nothing_waits Up most s lanes s.line l up up q.pull_up in
    let no_down : lanes.down ≡ [] = nothing_waits Down most s lanes s.line l up up q.pull_down in
    let near_front : NoFront TOKEN c (link_record s.near) = no_front Up most s lanes s.line l up up q.push_up in
    let far_front : NoFront TOKEN c (link_record s.far) = subst (λ (n : ℕ). NoFront TOKEN n (link_record s.far)) (sym tied.number) (no_front Down most s lanes s.line l up up q.push_down) in
    let near_law : Law Near TOKEN s.near.book None = k.0.law in
    let far_law : Law Far TOKEN s.far.book None = k.1.law in
    let near : SideRecord = side_of s.near.book.trail (places_in near_law.story) near_law.stop in
    let far : SideRecord = side_of s.far.book.trail (places_in far_law.story) far_law.stop in
    let read : AllRead c near far = record {
      up = sym (append-nil (read_on c (rows_of s.far))) ∙ ap (λ bytes. read_on c (rows_of s.far) ++ bytes) (sym no_up) ∙ carries.up;
      down = sym (append-nil (read_on c (rows_of s.near))) ∙ ap (λ bytes. read_on c (rows_of s.near) ++ bytes) (sym no_down) ∙ carries.down;
      near_reads = near_law.stops;
      far_reads = far_law.stops;
    } in
    let drained : DrainedLink near far = (link_is_done TOKEN TOKEN near far c near_law.wire far_law.wire tied.agrees read
    (front_told Near s.near near_law c near_law.stops near_front) (front_told Far s.far far_law c far_law.stops far_front)).0 in
    (drained.near_known, drained.far_known)

pub quiet_is_done : QuietIsDone
unfolding pair_of
quiet_is_done most s l k tied m =
    let q : Quietly most s = quietly most s m in
    let known = link_done most s k tied l q s.line refl in
    let near : s.near.copies ≡ [] = no_copies Near s q.near in
    let far : s.far.copies ≡ [] = no_copies Far s q.far in
    record {
      pair = pair_of s k tied;
      drained = record {
        near_drained = record { known = known.0; owes = k.0.owes near; gave = k.0.gave };
        far_drained = record { known = known.1; owes = k.1.owes far; gave = k.1.gave };
      };
      near_copies = near;
      far_copies = far;
    }
