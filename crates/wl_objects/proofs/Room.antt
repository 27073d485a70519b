-- A message whose first argument is an unsigned number has room for it behind the header.
use Rattle.std.proofs.Common.{◌≡◌, ℕ, ◌+◌, ◌≤◌, List, [], ◌∷◌, length, drop, Bool, arith, length-append, length-drop}
use Rattle.std.specs.Prelude.{IsSome}
use Rattle.std.proofs.lemmas.Bool.{false≢true}
use Rattle.wl_wire.specs.declared.arguments.Arg.{Arg}
use Rattle.wl_wire.specs.declared.arguments.Arg.TheVariants as arg
use Rattle.wl_wire.specs.declared.signature.ArgKind.{ArgKind}
use Rattle.wl_wire.specs.declared.signature.ArgKind.TheVariants as kind
use Rattle.wl_wire.specs.declared.signature.Slot.{Slot}
use Rattle.wl_wire.specs.Arguments.{IsArg, Spells}
use Rattle.wl_objects.specs.Tracking.{uint_of}

uint_four : (it : ArgKind) (null : Bool) (front : List ℕ) (value : ℕ) → IsArg it null front (arg.Uint value) → length front ≡ 4
uint_four kind.Uint null front value h = h.four
uint_four _ null front value h = absurd h

uint_there : (slots : List Slot) (bytes : List ℕ) (args : List Arg) → Spells slots bytes args → IsSome (uint_of args) → 4 ≤ length bytes
uint_there [] bytes [] h some = absurd (false≢true some)
uint_there [] bytes (it ∷ args) h some = absurd h
uint_there (slot ∷ slots) bytes [] h some = absurd h
uint_there (slot ∷ slots) bytes (arg.Uint value ∷ args) h some =
    let four : length h.0 ≡ 4 = uint_four slot.kind slot.null h.0 value h.1.2 in
    let long : length bytes ≡ length h.0 + length h.1.0 = rw h.1.1 (length-append h.0 h.1.0) in
    omega (arith, four, long)
uint_there (slot ∷ slots) bytes (_ ∷ args) h some = absurd (false≢true some)

pub room_for_uint : (slots : List Slot) (message : List ℕ) (args : List Arg) → Spells slots (drop 8 message) args → IsSome (uint_of args) → 12 ≤ length message
room_for_uint slots message args h some = omega (arith, uint_there slots (drop 8 message) args h some, length-drop 8 message)
