-- The files and pipes that each peer of a script owns, which later lines name by their numbers; the
-- language is this project's own.
use Rattle.std.specs.Prelude.{ℕ, ◌+◌, ◌-◌, ◌/◌, ℤ, Bool, true, false, ◌&&◌, List, [], Option, Some}
use Rattle.std.specs.Prelude.{None, nat_lt, nat_le, is_some, is_none}
use Rattle.std.specs.BTreeMap.{is_at, insert_entry}
use Rattle.std.specs.List.{list_all}
use Rattle.std.specs.Map.{lookup}
use Rattle.std.specs.Ordering.{int_cmp}
use Rattle.wp_outside.specs.declared.kinds.Side.{Side}
use Rattle.wp_outside.specs.declared.kinds.Side.TheVariants.{Near, Far}
use Rattle.script_lang.specs.declared.limits.TheConstants.{MOST_OWNED}
use Rattle.script_lang.specs.declared.causes.ScriptCause.{ScriptCause}
use Rattle.script_lang.specs.declared.causes.ScriptCause.TheVariants.{Number, Name}
use Rattle.script_lang.specs.declared.steps.StepKind.{StepKind}
use Rattle.script_lang.specs.declared.steps.StepKind.TheVariants as step
use Rattle.script_lang.specs.declared.things.Thing.{Thing}
use Rattle.script_lang.specs.declared.things.Thing.TheVariants.{File, Pipe}

-- what one peer owns, by its numbers, and the sum of the sizes of its files
pub record Owned : Type 0 where
  pub things : List (ℤ × Thing)
  pub total : ℕ

-- what both peers own
pub record Names : Type 0 where
  pub near : Owned
  pub far : Owned

abbrev pub nothing : Owned
nothing = record { things = []; total = 0 }

abbrev pub no_names : Names
no_names = record { near = nothing; far = nothing }

-- the file or pipe of a number
unfoldable pub thing_of : Owned → ℤ → Option Thing
thing_of owned number = lookup (is_at (int_cmp number)) owned.things

-- what is wrong where a test fails, and else what is wrong behind it
abbrev pub unless : Bool → ScriptCause → Option ScriptCause → Option ScriptCause
unless true cause further = further
unless false cause further = Some cause

-- a new file is within the sum of sizes, and its number is new
abbrev pub file_fault : Owned → ℕ → Option Thing → Option ScriptCause
file_fault owned size found =
    unless (nat_le (owned.total + size) MOST_OWNED) Number (unless (is_none found) Name None)

-- a file grows to a greater size, within the sum of sizes, and has at most 64 segments
abbrev pub can_grow : Owned → ℕ → ℕ → ℕ → Bool
can_grow owned old segments size =
    nat_lt old size && nat_lt segments 64 && nat_le (owned.total - old + size) MOST_OWNED

abbrev pub grow_fault : Owned → ℕ → Option Thing → Option ScriptCause
grow_fault owned size (Some (File old segments)) =
    unless (can_grow owned old segments size) Number None
grow_fault owned size _ = Some Name

-- words of eight bytes, up to the file's end
abbrev pub fill_fault : ℕ → Option Thing → Option ScriptCause
fill_fault end (Some (File size segments)) = unless (nat_le end (size / 8)) Name None
fill_fault end _ = Some Name

abbrev pub shut_fault : Option Thing → Option ScriptCause
shut_fault (Some Pipe) = None
shut_fault _ = Some Name

-- why a line can't name what it names, where it can't
abbrev pub fault_of : Owned → StepKind → Option ScriptCause
fault_of owned (step.File peer number size) = file_fault owned size (thing_of owned number)
fault_of owned (step.Grow peer number size) = grow_fault owned size (thing_of owned number)
fault_of owned (step.Fill peer number first count value) =
    fill_fault (first + count) (thing_of owned number)
fault_of owned (step.Pipe peer number) = unless (is_none (thing_of owned number)) Name None
fault_of owned (step.Give peer number) = unless (is_some (thing_of owned number)) Name None
fault_of owned (step.Shut peer number) = shut_fault (thing_of owned number)
fault_of owned (step.Say peer message) =
    unless (list_all (λ number. is_some (thing_of owned number)) message.handles) Name None
fault_of owned _ = None

-- one more file or pipe, or another one in the place of the one with that number
abbrev pub with_thing : Owned → ℤ → Thing → ℕ → Owned
with_thing owned number thing total =
    record { things = insert_entry int_cmp owned.things number thing; total = total }

abbrev pub grown : Owned → ℤ → ℕ → Option Thing → Owned
grown owned number size (Some (File old segments)) =
    with_thing owned number (File size (segments + 1)) (owned.total - old + size)
grown owned number size _ = owned

-- what a peer owns behind its line
abbrev pub after : Owned → StepKind → Owned
after owned (step.File peer number size) =
    with_thing owned number (File size 1) (owned.total + size)
after owned (step.Grow peer number size) = grown owned number size (thing_of owned number)
after owned (step.Pipe peer number) = with_thing owned number Pipe owned.total
after owned _ = owned

-- the peer whose own files and pipes a line names
abbrev pub naming : StepKind → Option Side
naming (step.Say peer message) = Some peer
naming (step.File peer number size) = Some peer
naming (step.Grow peer number size) = Some peer
naming (step.Fill peer number first count value) = Some peer
naming (step.Pipe peer number) = Some peer
naming (step.Give peer number) = Some peer
naming (step.Shut peer number) = Some peer
naming _ = None

-- the same of both peers, of whom the line names things of one or of none
abbrev pub fault_by : Names → Option Side → StepKind → Option ScriptCause
fault_by names (Some Near) what = fault_of names.near what
fault_by names (Some Far) what = fault_of names.far what
fault_by names None what = None

abbrev pub after_by : Names → Option Side → StepKind → Names
after_by names (Some Near) what = record names { near = after names.near what }
after_by names (Some Far) what = record names { far = after names.far what }
after_by names None what = names
