-- What is left of what waits inside a side once messages are taken of it; messages and tracking are
-- Wayland's, the handles and notes beside their bytes are this project's own.
use Rattle.std.specs.Prelude.{◌≡◌, ℕ, List, [], ◌∷◌, ◌++◌, map, Option, Result, Ok, Err}
use Rattle.wp_outside.specs.declared.kinds.HandleKind.{HandleKind}
use Rattle.wp_outside.specs.declared.kinds.Side.{Side}
use Rattle.wp_outside.specs.declared.kinds.Side.TheVariants.{Near, Far}
use Rattle.wl_tables.specs.declared.way.Way.{Way}
use Rattle.wl_tables.specs.declared.way.Way.TheVariants.{Request, Event}
use Rattle.wl_wire.specs.declared.faults.ObjectFault.{ObjectFault}
use Rattle.wl_wire.specs.Wire.{joined}
use Rattle.wl_objects.specs.Entries.{Tracked}
use Rattle.wl_objects.specs.Tracking.{Admission, step, track}
use Rattle.half_model.specs.declared.deeds.Deed.{Deed}
use Rattle.half_model.specs.Deeds.{deed_of}
use Rattle.half_model.specs.Inlet.{Inlet, inlet_after}
use Rattle.half_model.specs.Planning.{kind_carried}

-- ---- what a message uses

-- a message that is taken, by which kind of handle it carries and what it does: it uses the oldest
-- handle, and the oldest note, that were put before its last byte, or none of them
pub record Use : Type 0 where
  pub message : List ℕ
  pub kind : Option HandleKind
  pub deed : Deed

abbrev pub after_uses : List Use → Inlet → Inlet
after_uses [] inlet = inlet
after_uses (it ∷ uses) inlet = after_uses uses (inlet_after it.kind it.deed it.message inlet)

-- by the row of a message as it passes
abbrev pub use_of : Way → List ℕ → Admission → Use
use_of way message done = record {
  message = message;
  kind = kind_carried way done.passed;
  deed = deed_of way done.passed;
}

-- a side takes the messages of its peer alone
abbrev pub own_use : Side → Way → List ℕ → Admission → List Use
own_use Near Request message done = use_of Request message done ∷ []
own_use Far Event message done = use_of Event message done ∷ []
own_use side way message done = []

abbrev pub uses_next : Side → Way × List ℕ → Result Admission ObjectFault → (Tracked → List Use)
    → List Use
uses_next side it (Ok done) more = own_use side it.0 it.1 done ++ more done.objects
uses_next side it (Err fault) more = []

-- what the messages use that a side takes in an order of passing, by the objects tracked before it
abbrev pub uses_by : Side → Tracked → List (Way × List ℕ) → List Use
uses_by side objects [] = []
uses_by side objects (it ∷ order) =
    uses_next side it (step it.0 objects it.1) (λ next. uses_by side next order)

-- ---- what is left

-- these messages are taken from the front of all that waits, with what each of them uses
pub record Leaves (took : List (List ℕ)) (all left : Inlet) : Type 0 where
  pub uses : List Use
  pub took_is : took ≡ map (λ it. it.message) uses
  pub left_is : left ≡ after_uses uses all
  pub bytes : all.bytes ≡ joined took ++ left.bytes

-- Messages pass of both ways, which are added to these ones; all of them are tracked, and of them
-- are those that used this.
pub record Passes (side : Side) (uses : List Use) (objects after : Tracked) (ways more : List Way)
    : Type 0 where
  pub order : List (Way × List ℕ)
  pub tracked : track objects order ≡ Ok after
  pub uses_are : uses ≡ uses_by side objects order
  pub ways_are : more ≡ ways ++ map (λ passed. passed.0) order
