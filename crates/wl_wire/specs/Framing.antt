-- What a reader of the Wayland wire format answers, beside what stands at the front of the bytes
-- that it was fed.
use Rattle.std.specs.Prelude.{◌≡◌, ℕ, List, [], take, Option, Some, None, Result, Ok, Err}
use Rattle.wl_wire.specs.declared.faults.WireFault.{WireFault}
use Rattle.wl_wire.specs.declared.faults.MessageFault.{MessageFault}
use Rattle.wl_wire.specs.declared.faults.MessageFault.TheVariants.{Wire, Memory}

-- a whole message stands at the front
abbrev pub HasMessage : Result (Option (List ℕ)) WireFault → Type 0
HasMessage (Ok (Some message)) = Unit {0}
HasMessage (Ok None) = ⊥
HasMessage (Err fault) = ⊥

-- the answer is what stands at the front; memory is wanted for a whole message alone
abbrev pub Answers
    : Result (Option (List ℕ)) MessageFault → Result (Option (List ℕ)) WireFault → Type 0
Answers (Ok given) front = front ≡ Ok given
Answers (Err (Wire fault)) front = front ≡ Err fault
Answers (Err Memory) front = HasMessage front

-- a whole message or the fault of a size stands at the front: no byte that comes behind changes
-- that
abbrev pub Stands : Result (Option (List ℕ)) WireFault → Type 0
Stands (Ok (Some message)) = Unit {0}
Stands (Ok None) = ⊥
Stands (Err fault) = Unit {0}

-- the bytes that an answer takes from the front
abbrev pub given : Result (Option (List ℕ)) MessageFault → List ℕ
given (Ok (Some message)) = message
given (Ok None) = []
given (Err fault) = []

-- what a size tells of the bytes that it was read from
abbrev pub front_of : Result (Option ℕ) WireFault → List ℕ → Result (Option (List ℕ)) WireFault
front_of (Ok (Some size)) bytes = Ok (Some (take size bytes))
front_of (Ok None) bytes = Ok None
front_of (Err fault) bytes = Err fault
