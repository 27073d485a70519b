-- That the orders of a run grow at their ends, and what they have where nothing is left to move.
use Rattle.std.proofs.Common.{◌≡◌, ℕ, ◌<◌, ◌≤◌, List, [], ◌∷◌, ◌++◌, map, drop, length, Bool, true, false, not, ◌&&◌, Option, Some, None, Result, Ok, Err, refl, sym, ap, subst, ◌∙◌, append_assoc, arith, length-drop, inl, inr, ◌⊎◌}
use Rattle.std.proofs.lemmas.List.{append-nil, length-map, take_all, nil_from_length}
use Rattle.std.proofs.lemmas.List.Concat.{flat_map-append}
use Rattle.std.proofs.lemmas.List.Elements.{filter_map-append}
use Rattle.plain_lists.specs.Fronts.{IsFront}
use Rattle.wp_outside.specs.declared.kinds.Side.{Side}
use Rattle.wp_outside.specs.declared.kinds.Side.TheVariants.{Near, Far}
use Rattle.wl_tables.specs.declared.way.Way.{Way}
use Rattle.wl_tables.specs.declared.way.Way.TheVariants.{Request, Event}
use Rattle.wl_wire.specs.declared.faults.WireFault.{WireFault}
use Rattle.wl_wire.specs.Wire.{first, cut, cut_rest, joined, Cuts}
use Rattle.wl_wire.proofs.Cutting.{cut-cuts, cuts-cut, cuts-append, messages-cut}
use Rattle.wl_wire.proofs.CuttingLaws.{cut-waits}
use Rattle.wl_objects.specs.Registry.{first_state, visible}
use Rattle.transfer_frames.specs.declared.frame.Frame.{Frame}
use Rattle.transfer_frames.specs.Grammar.{spelling}
use Rattle.half_model.specs.declared.items.PeerIn.{PeerIn}
use Rattle.half_model.specs.Story.{accepted_in, messages_in, messages_of, order_in}
use Rattle.half_model.specs.Turn.{stands_in}
use Rattle.side_model.specs.declared.fault.ProxyFault.{ProxyFault}
use Rattle.side_model.specs.Due.{has_room}
use Rattle.side_model.specs.Books.{weight, MOST_WEIGHT}
use Rattle.side_model.specs.Shows.{is_empty}
use Rattle.pair_laws.specs.Auditing.{EachHeard}
use Rattle.pair_laws.specs.Everything.{HasAll, IsDrained}
use Rattle.pair_laws.specs.Pairs.{OneSide, IsLawful, IsPair}
use Rattle.pair_laws.specs.Passing.{of_way, if_way, passing_by}
use Rattle.pair_laws.specs.Received.{messages, received_by}
use Rattle.pair_laws.proofs.Auditing.{each_heard}
use Rattle.pair_laws.proofs.Everything.{drained_has_everything}
use Rattle.pair_laws.proofs.Passing.{order_is_told, order_has_both}
use Rattle.pair_laws.proofs.Saying.{received_messages}
use Rattle.pair_runs.specs.Kept.{Kept, GoesOn, one_side, waits}
use Rattle.pair_runs.specs.Moves.{at_side, Taken}
use Rattle.pair_runs.specs.Quiet.{IsDone}
use Rattle.pair_runs.specs.Runs.{bytes_in}
use Rattle.pair_runs.specs.Sides.{SideState, is_free, wants, ring_in}
use Rattle.pair_runs.specs.States.{State, side_at, with_side, wire_at, with_wire}
use Rattle.pair_runs.specs.Taking.{Taker, TakesAll, TakesNone}
use Rattle.pair_runs.proofs.Bringing.{BringsAt}
use Rattle.pair_runs.proofs.Falling.{weighs, takes_quiet}
use Rattle.pair_runs.proofs.Later.{Shut}
use Rattle.pair_runs.proofs.Passings.{passing_front}
use Rattle.pair_runs.proofs.Receiving.{all_plain}

-- ---- fronts

-- the shorter of two fronts begins the longer one
fronts_front : {X : Type 0} (xs ys r t : List X) → xs ++ r ≡ ys ++ t → length xs ≤ length ys → IsFront xs ys
fronts_front [] ys r t e l = record { rest = ys; is = refl }
fronts_front (x ∷ xs) [] r t e l = absurd (omega (arith, l))
fronts_front {X} (x ∷ xs) (y ∷ ys) r t e l =
    let head : x ≡ y = cc in
    let tails : xs ++ r ≡ ys ++ t = cc in
    let f : IsFront xs ys = fronts_front xs ys r t tails (omega (arith, l)) in
    record { rest = f.rest; is = ap (λ (z : X). z ∷ (xs ++ f.rest)) head ∙ ap (λ (zs : List X). y ∷ zs) f.is }

pub two_fronts : {X : Type 0} {xs ys zs : List X} → IsFront xs zs → IsFront ys zs → length xs ≤ length ys → IsFront xs ys
two_fronts {X} {xs} {ys} {zs} f g l = fronts_front xs ys f.rest g.rest (f.is ∙ sym g.is) l

messages_front : (xs ys : List Frame) → IsFront xs ys → IsFront (messages_in xs) (messages_in ys)
messages_front xs ys f = record { rest = messages_in f.rest; is = sym (flat_map-append messages_of xs f.rest) ∙ ap messages_in f.is }

front_of : {X : Type 0} {xs ys zs : List X} → IsFront xs ys → IsFront ys zs → IsFront xs zs
front_of {X} {xs} {ys} {zs} f g = record { rest = f.rest ++ g.rest; is = sym (append_assoc xs f.rest g.rest) ∙ ap (λ (v : List X). v ++ g.rest) f.is ∙ g.is }

pub way_front : (way : Way) {xs ys : List (Way × List ℕ)} → IsFront xs ys → IsFront (of_way way xs) (of_way way ys)
way_front way {xs} {ys} f = record { rest = of_way way f.rest; is = sym (filter_map-append (if_way way) xs f.rest) ∙ ap (of_way way) f.is }

-- ---- an order and a later one

-- it has a message for each way
all_ways : (side : Side) (it : OneSide) (law : IsLawful side it) → length (passing_by side it law) ≡ length it.book.order
all_ways side it law =
    ap length (order_is_told side it law)
    ∙ sym (length-map (order_in side law.story) (λ (passed : Way × List ℕ). passed.0))
    ∙ sym (ap length law.tells.order)

order_front : (side : Side) (one other : OneSide) (law : IsLawful side one) (later : IsLawful side other) → IsFront one.book.order other.book.order → IsFront one.book.trail.taken other.book.trail.taken
    → IsFront (accepted_in law.story) (accepted_in later.story) → IsFront (passing_by side one law) (passing_by side other later)
order_front side one other law later ways taken heard =
    let has = order_has_both side one law in
    passing_front side one.book.order other.book.order one.book.trail.taken other.book.trail.taken (messages_in (accepted_in law.story)) (messages_in (accepted_in later.story))
    (all_ways side one law) has.taken has.heard ways taken (messages_front (accepted_in law.story) (accepted_in later.story) heard)

-- both orders of a pair, and those of a later one
pub record LaterOrders (near far : OneSide) (pair : IsPair near far) (later_near later_far : OneSide) (later : IsPair later_near later_far) : Type 0 where
  pub near_order : IsFront (passing_by Near near pair.one_law) (passing_by Near later_near later.one_law)
  pub far_order : IsFront (passing_by Far far pair.other_law) (passing_by Far later_far later.other_law)

pub later_orders : (near far : OneSide) (pair : IsPair near far) (later_near later_far : OneSide) (later : IsPair later_near later_far)
    → IsFront near.book.order later_near.book.order → IsFront near.book.trail.taken later_near.book.trail.taken → IsFront near.book.trail.made later_near.book.trail.made → near.book.trail.accepted ≤ later_near.book.trail.accepted
    → IsFront far.book.order later_far.book.order → IsFront far.book.trail.taken later_far.book.trail.taken → IsFront far.book.trail.made later_far.book.trail.made → far.book.trail.accepted ≤ later_far.book.trail.accepted
    → LaterOrders near far pair later_near later_far later
later_orders near far pair later_near later_far later near_order nt nm na far_order ft fm fa =
    let here : EachHeard Near Far near far pair = each_heard Near Far near far pair in
    let there : EachHeard Near Far later_near later_far later = each_heard Near Far later_near later_far later in
    let up : IsFront (accepted_in pair.other_law.story) (accepted_in later.other_law.story) =
    two_fronts (front_of here.other_heard nm) there.other_heard (omega (arith, fa, pair.other_law.tells.accepted, later.other_law.tells.accepted)) in
    let down : IsFront (accepted_in pair.one_law.story) (accepted_in later.one_law.story) =
    two_fronts (front_of here.one_heard fm) there.one_heard (omega (arith, na, pair.one_law.tells.accepted, later.one_law.tells.accepted)) in
    record {
      near_order = order_front Near near later_near pair.one_law later.one_law near_order nt down;
      far_order = order_front Far far later_far pair.other_law later.other_law far_order ft up;
    }

-- ---- where nothing is left to move

-- the orders have all that was taken, and all that is shown of it
pub record HasOrders (near far : OneSide) (pair : IsPair near far) : Type 0 where
  pub near_requests : of_way Request (passing_by Near near pair.one_law) ≡ near.book.trail.taken
  pub far_requests : of_way Request (passing_by Far far pair.other_law) ≡ near.book.trail.taken
  pub far_events : of_way Event (passing_by Far far pair.other_law) ≡ far.book.trail.taken
  pub near_events : of_way Event (passing_by Near near pair.one_law) ≡ visible first_state (passing_by Far far pair.other_law)

-- all that was accepted was received
all_received : (side : Side) (it : OneSide) (law : IsLawful side it) → IsDrained side it law → messages (received_by side it law) ≡ messages_in (accepted_in law.story)
all_received side it law d =
    received_messages side law.story it.book.trail.given law.log
    ∙ take_all it.book.trail.given (messages_in (accepted_in law.story)) (omega (arith, d.gave))

pub has_orders : (s : State) (d : IsDone s) → HasOrders (one_side s.near None) (one_side s.far None) d.pair
has_orders s d =
    let near : OneSide = one_side s.near None in
    let far : OneSide = one_side s.far None in
    let all : HasAll near far d.pair = drained_has_everything near far d.pair d.drained in
    let nears = order_has_both Near near d.pair.one_law in
    let fars = order_has_both Far far d.pair.other_law in
    record {
      near_requests = nears.taken;
      far_requests = fars.heard ∙ sym (all_received Far far d.pair.other_law d.drained.far_drained) ∙ all.up;
      far_events = fars.taken;
      near_events = nears.heard ∙ sym (all_received Near near d.pair.one_law d.drained.near_drained) ∙ all.down;
    }

-- ---- that all was taken

-- no frame is kept, so there is room
empty_room : (it : SideState) → it.book.trail.acknowledged ≡ length it.book.trail.made → has_room (ring_in it.book.trail) ≡ true
empty_room it e =
    let none : map spelling (drop it.book.trail.acknowledged it.book.trail.made) ≡ [] =
    ap (map spelling) (nil_from_length (drop it.book.trail.acknowledged it.book.trail.made) (omega (arith, e, length-drop it.book.trail.acknowledged it.book.trail.made))) in
    ap (λ (frames : List (List ℕ)). has_room (record { acknowledged = it.book.trail.acknowledged; frames = frames })) none

free_then : (it : SideState) → it.copies ≡ [] → it.book.trail.acknowledged ≡ length it.book.trail.made → is_free it ≡ true
free_then it copies known = ap (λ (words : List ℕ). is_empty words && has_room (ring_in it.book.trail)) copies ∙ empty_room it known

none_waits : (side : Side) (it : SideState) → GoesOn side it → is_free it ≡ true → waits it ≡ false
none_waits side it g free = go (waits it) refl
  where
    go : (b : Bool) → waits it ≡ b → waits it ≡ false
    go false e = e
    go true e = absurd (let never : true ≡ false = sym free ∙ g.treated e in cc)

-- nothing whole is in bytes at whose front nothing whole stands
pub cut_none : (bytes : List ℕ) (front : Result (Option (List ℕ)) WireFault) → first bytes ≡ front → stands_in front ≡ false → cut bytes ≡ []
cut_none bytes (Ok None) e w = cut-waits bytes e
cut_none bytes (Ok (Some message)) e w = absurd cc
cut_none bytes (Err fault) e w = absurd cc

-- a side took each message that was put, or takes none any more
pub all_or_shut : (side : Side) (most : ℕ) (s : State) (put : List ℕ) → GoesOn side (side_at side s) → Kept None s → 0 < most → Taken side most s s None → (side_at side s).copies ≡ [] → (side_at side s).book.trail.acknowledged ≡ length (side_at side s).book.trail.made
    → BringsAt put (side_at side s) (wire_at side s) → (length (side_at side s).book.trail.taken ≡ length (cut put)) ⊎ Shut (side_at side s)
all_or_shut side most s put g k l (b, (fault, all, is, stops)) copies known h = go fault all stops
  where
    it : SideState
    it = side_at side s

    free : is_free it ≡ true
    free = free_then it copies known

    still : waits it ≡ false
    still = none_waits side it g free

    with_both : (side : Side) (b : Taker) → s ≡ with_side side b.side (with_wire side b.wire s) → b ≡ record { side = side_at side s; wire = wire_at side s }
    with_both Near b e = sym (ap (λ (u : State). record { side = u.near; wire = u.near_wire }) e)
    with_both Far b e = sym (ap (λ (u : State). record { side = u.far; wire = u.far_wire }) e)

    whole : wire_at side s ≡ [] → length it.book.trail.taken ≡ length (cut put)
    whole none =
        let taken : List (List ℕ) = it.book.trail.taken in
        let rest : List ℕ = it.inside.inlet.bytes ++ bytes_in (wire_at side s) in
        let inside : rest ≡ it.inside.inlet.bytes = ap (λ (wire : List PeerIn). it.inside.inlet.bytes ++ bytes_in wire) none ∙ append-nil it.inside.inlet.bytes in
        let cuts : Cuts (joined taken ++ rest) (taken ++ cut rest) (cut_rest rest) = cuts-append taken (joined taken) [] rest (cut rest) (cut_rest rest) (messages-cut taken (all_plain taken h.whole)) (cut-cuts rest) in
        let nothing : cut rest ≡ [] = ap cut inside ∙ cut_none it.inside.inlet.bytes (first it.inside.inlet.bytes) refl still in
        let same : cut put ≡ taken = sym (ap cut h.bytes) ∙ (cuts-cut (joined taken ++ rest) (taken ++ cut rest) (cut_rest rest) cuts).0 ∙ ap (λ (xs : List (List ℕ)). taken ++ xs) nothing ∙ append-nil taken in
        sym (ap length same)

    by_none : TakesNone most (record { side = it; wire = wire_at side s }) → (length it.book.trail.taken ≡ length (cut put)) ⊎ Shut it
    by_none (inl none) = absurd (omega (arith, none, l))
    by_none (inr (inl empty)) = inl (whole empty)
    by_none (inr (inr never)) = inr (record { said = by_asked it.inside.asked refl; still = still })
      where
        by_asked : (said : Bool) → it.inside.asked ≡ said → it.inside.asked ≡ true
        by_asked true e = e
        by_asked false e =
            let would : wants it ≡ true = ap (λ (said : Bool). not said && is_free it) e ∙ free in
            absurd (let wrong : true ≡ false = sym would ∙ never in cc)

    go : (fault : Option ProxyFault) → TakesAll most (record { side = it; wire = wire_at side s }) b fault → None ≡ at_side side fault → (length it.book.trail.taken ≡ length (cut put)) ⊎ Shut it
    go (Some fault) all d = absurd cc
    go None all d =
        let same : b ≡ record { side = it; wire = wire_at side s } = with_both side b is in
        by_none (takes_quiet all.count most it (wire_at side s) b all.row (subst (λ (x : Taker). weight x.side.book.trail ≤ MOST_WEIGHT) (sym same) (weighs s side k)) same)
