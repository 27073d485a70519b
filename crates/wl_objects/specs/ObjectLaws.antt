-- Laws of the objects of a Wayland connection: messages that pass can be passed in parts, and shown
-- in parts or one by one, and each is one of the table of messages.
use Rattle.std.specs.Prelude.{ℕ, ◌≡◌, List, [], ◌∷◌, ◌++◌, drop, option_to_list, IfSome, Some, None}
use Rattle.std.specs.Prelude.{Ok}
use Rattle.wl_wire.specs.ArgFaults.{args_fault}
use Rattle.wl_wire.specs.SignatureForm.{SignatureForm}
use Rattle.wl_wire.specs.Wire.{IsMessage, opcode_of}
use Rattle.wl_tables.specs.Messages.{signature}
use Rattle.wl_tables.specs.declared.way.Way.{Way}
use Rattle.wl_tables.specs.declared.way.Way.TheVariants.{Request, Event}
use Rattle.wl_objects.specs.Entries.{Tracked}
use Rattle.wl_objects.specs.Tracking.{then_goes, Admission, step, track}
use Rattle.wl_tables.specs.Ways.{is_event}
use Rattle.wl_objects.specs.declared.passed.Passed.{Passed}
use Rattle.wl_objects.specs.Registry.{ObjectsState, view, visible, state_after}

-- messages behind others go on with the objects that those leave
abbrev pub TrackGoesOn : Type 0
TrackGoesOn =
    (objects : Tracked) (front back : List (Way × List ℕ))
    → track objects (front ++ back)
    ≡ then_goes (track objects front) (λ between. track between back)

-- where messages pass, those in front pass alone
abbrev pub FrontIsTracked : Type 0
FrontIsTracked =
    (objects after : Tracked) (front back : List (Way × List ℕ))
    → track objects (front ++ back) ≡ Ok after
    → (between : Tracked) × (track objects front ≡ Ok between) × (track between back ≡ Ok after)

-- where messages pass, the state after them has the objects that they leave
abbrev pub StateIsTracked : Type 0
StateIsTracked =
    (state : ObjectsState) (objects : Tracked) (front : List (Way × List ℕ))
    → track state.tracked front ≡ Ok objects
    → (state_after state front).tracked ≡ objects

-- where messages pass, those behind them go on with the state that they leave
abbrev pub StateGoesOn : Type 0
StateGoesOn =
    (state : ObjectsState) (objects : Tracked) (front back : List (Way × List ℕ))
    → track state.tracked front ≡ Ok objects
    → state_after state (front ++ back) ≡ state_after (state_after state front) back

-- where messages pass, what is shown of those behind them follows what is shown of them
abbrev pub VisibleGoesOn : Type 0
VisibleGoesOn =
    (state : ObjectsState) (objects : Tracked) (front back : List (Way × List ℕ))
    → track state.tracked front ≡ Ok objects
    → visible state (front ++ back) ≡ visible state front ++ visible (state_after state front) back

-- the state that an event views: the objects after it, and the pairs that were hidden before it
abbrev pub viewed_in : ObjectsState → List (Way × List ℕ) → Admission → ObjectsState
viewed_in state front done =
    record { tracked = done.objects; hidden = (state_after state front).hidden }

-- an event behind messages that pass adds what its view shows, and leaves the pairs that its view
-- hides
abbrev pub EventIsViewed : Type 0
EventIsViewed =
    (state : ObjectsState) (objects : Tracked) (front : List (Way × List ℕ)) (message : List ℕ)
    (done : Admission)
    → track state.tracked front ≡ Ok objects
    → step Event objects message ≡ Ok done
    → (visible state (front ++ (Event, message) ∷ []) ≡ visible state front ++
    option_to_list (view (viewed_in state front done) message).shown)
    × (state_after state (front ++ (Event, message) ∷ [])
    ≡ record {
      tracked = done.objects;
      hidden =
          (view (viewed_in state front done) message).hidden;
    })

-- a request behind messages that pass shows nothing, and leaves the hidden pairs as they were
abbrev pub RequestIsNotShown : Type 0
RequestIsNotShown =
    (state : ObjectsState) (objects : Tracked) (front : List (Way × List ℕ)) (message : List ℕ)
    (done : Admission)
    → track state.tracked front ≡ Ok objects
    → step Request objects message ≡ Ok done
    → (visible state (front ++ (Request, message) ∷ []) ≡ visible state front)
    × (state_after state (front ++ (Request, message) ∷ []) ≡ viewed_in state front done)

-- what is shown of a whole message is a whole message
abbrev pub ShownIsWhole : Type 0
ShownIsWhole =
    (state : ObjectsState) (message : List ℕ) → IsMessage message
    → IfSome (view state message).shown IsMessage

-- a message that was found to be this is the table's row of the interface and the opcode, and its
-- arguments are good
pub record IsByTheTable (way : Way) (message : List ℕ) (passed : Passed) : Type 0 where
  pub form : SignatureForm
  pub row : signature passed.interface (is_event way) (opcode_of message) ≡ Some form
  pub good : args_fault form.slots (drop 8 message) ≡ None
  pub opcode : passed.opcode ≡ opcode_of message

-- each message that passes is one of the table's, with good arguments
abbrev pub PassedByTheTable : Type 0
PassedByTheTable =
    (way : Way) (objects : Tracked) (message : List ℕ) (done : Admission)
    → step way objects message ≡ Ok done
    → IsByTheTable way message done.passed
