-- What a proxy shows of itself: its front, whether it takes from its peer, and whether it has
-- ended; this project's own.
use Rattle.std.specs.Prelude.{ℕ, ◌&&◌, Bool, true, false, is_none, List, [], ◌∷◌, Option, Some}
use Rattle.std.specs.Prelude.{None}
use Rattle.half_model.specs.declared.items.PeerOut.{PeerOut}
use Rattle.pair_model.specs.Steps.{Here}
use Rattle.side_model.specs.Due.{is_free}
use Rattle.side_model.specs.State.{Now, LivePart, Closing, Open, Asked, Made}

-- the bytes still to be written of the frame that is being sent
abbrev pub front_here : Option Here → List ℕ
front_here None = []
front_here (Some here) = here.front

-- none behind a fault
abbrev pub unless_fault : {X Y : Type 0} → Option X → Y → Y → Y
unless_fault None value other = value
unless_fault (Some fault) value other = other

abbrev pub front_of : Now → List ℕ
front_of s = unless_fault s.fault (front_here s.live.here) []

abbrev pub is_open : Closing → Bool
is_open Open = true
is_open (Asked reason) = false
is_open Made = false

abbrev pub has_made_close : Closing → Bool
has_made_close Open = false
has_made_close (Asked reason) = false
has_made_close Made = true

-- it takes from its peer: no fault stands, it was not asked to close, no copy is awaited, and its
-- ring has room
abbrev pub wants_peer : Now → Bool
wants_peer s =
    is_none s.fault && (is_open s.kept.closing && is_free s.live.sending.owes s.kept.ring)

abbrev pub is_empty : {X : Type 0} → List X → Bool
is_empty [] = true
is_empty (x ∷ xs) = false

-- it has ended well: it made CLOSE, which the other side accepted with all else, it heard CLOSE,
-- and nothing is still to be written
abbrev pub has_ended : Now → Bool
has_ended s =
    has_made_close s.kept.closing
    && (is_empty s.kept.ring.frames && (s.kept.heard_close && is_empty (front_of s)))

-- the next item of the peer: those of the other side go before the receipts
abbrev pub first_item : List PeerOut → List PeerOut → Option PeerOut
first_item [] [] = None
first_item [] (receipt ∷ receipts) = Some receipt
first_item (item ∷ items) receipts = Some item

abbrev pub next_item : LivePart → Option PeerOut
next_item live = first_item live.items live.receipts
