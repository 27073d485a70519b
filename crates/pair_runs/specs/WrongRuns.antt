-- Moves that no run has, each with what refuses it; this project's own.
use Rattle.std.specs.Prelude.{◌≡◌, ◌≢◌, ℕ, suc, ◌+◌, ◌<◌, ◌≤◌, true, List, [], ◌∷◌, length}
use Rattle.std.specs.Prelude.{Some, None}
use Rattle.wp_outside.specs.declared.kinds.Direction.TheVariants.{Up}
use Rattle.wp_outside.specs.declared.kinds.Side.TheVariants.{Near}
use Rattle.half_model.specs.declared.items.PeerIn.{PeerIn}
use Rattle.half_model.specs.declared.items.PeerIn.TheVariants as items
use Rattle.half_model.specs.Group.{Owed}
use Rattle.half_model.specs.Story.{accepted_in, messages_in}
use Rattle.half_model.specs.StoryLaws.{now}
use Rattle.pair_model.specs.Quiet.{NoFront}
use Rattle.side_model.specs.Books.{weight}
use Rattle.side_model.specs.Sound.{MOST_PIECE}
use Rattle.pair_runs.specs.Kept.{waits}
use Rattle.pair_runs.specs.Moves.{Move, Moves, Take, Load, Connect, Break, Push}
use Rattle.pair_runs.specs.Sides.{TOKEN, rows_of, last_number, link_record, is_free, wants}
use Rattle.pair_runs.specs.Sides.{words_left}
use Rattle.pair_runs.specs.States.{State, Lanes, connections}

-- the connection was up behind a break
abbrev pub SkipsBreak : Type 0
SkipsBreak = (s t : State) (lanes : Lanes) → Moves Break s t None → t.line ≡ Some lanes → ⊥

-- a connection was made while one was up, or its number was not the next one
abbrev pub ConnectsAgain : Type 0
ConnectsAgain = (s t : State) (lanes : Lanes) → s.line ≡ Some lanes → Moves Connect s t None
    → t ≢ s → ⊥

abbrev pub SkipsNumber : Type 0
SkipsNumber = (s t : State) → s.line ≡ None → Moves Connect s t None
    → last_number (rows_of t.near) ≢ suc (connections s) → ⊥

-- fewer bytes were written than asked for, though there was something to be sent
abbrev pub PushesLess : Type 0
PushesLess = (most : ℕ) (s t : State) (lanes : Lanes) → s.line ≡ Some lanes
    → Moves (Push Up most) s t None
    → (NoFront TOKEN (last_number (rows_of t.near)) (link_record t.near) → ⊥)
    → weight t.near.book.trail < weight s.near.book.trail + most → ⊥

-- an item that costs nothing was taken once all bytes asked for were
abbrev pub TakesFree : Type 0
TakesFree = (bytes : List ℕ) (item : PeerIn) (wire : List PeerIn) (s t : State)
    → 0 < length bytes → length bytes ≤ MOST_PIECE → wants s.near ≡ true
    → s.near_wire ≡ items.Bytes bytes ∷ item ∷ wire
    → Moves (Take Near (length bytes)) s t None
    → t.near_wire ≢ item ∷ wire → ⊥

-- a copy was loaded whole where fewer words were asked for
abbrev pub LoadsWhole : Type 0
LoadsWhole = (words : ℕ) (s t : State) → words < words_left s.near
    → s.near.copies ≢ [] → Moves (Load words) s t None
    → t.near.loaded ≢ s.near.loaded + words → ⊥

-- a whole message was left inside though the side might have taken it
abbrev pub LeavesWaiting : Type 0
LeavesWaiting = (move : Move) (s t : State) → Moves move s t None
    → waits t.near ≡ true → is_free t.near ≡ true → ⊥

-- a message that was accepted was kept from the peer
abbrev pub HoldsOutput : Type 0
HoldsOutput = (move : Move) (s t : State) (moves : Moves move s t None)
    → t.near.book.trail.given < length (messages_in (accepted_in moves.kept.0.law.story)) → ⊥

-- all copies were loaded and the frames of their message were not made
abbrev pub OwesLoaded : Type 0
OwesLoaded = (move : Move) (s t : State) (moves : Moves move s t None) (owed : Owed)
    → t.near.copies ≡ [] → (now Near moves.kept.0.law.story).owes ≡ Some owed → ⊥
