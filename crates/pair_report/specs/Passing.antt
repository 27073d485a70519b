-- The messages that a peer received, as text. Each is printed with the interface that its object
-- has by the rules of the Wayland protocol at its place in the order in which both peers' messages
-- passed; a handle is printed as its rid. The order and the rids are this project's own.
use Rattle.std.specs.Prelude.{if◌then◌else◌, pos, ℤ, ℕ, List, [], ◌∷◌, ◌++◌, drop}
use Rattle.std.specs.Prelude.{Option, Some, None, Result, Ok, Err}
use Rattle.wp_outside.specs.declared.kinds.HandleKind.{HandleKind}
use Rattle.wp_outside.specs.declared.kinds.Side.{Side}
use Rattle.wl_wire.specs.declared.faults.ObjectFault.{ObjectFault}
use Rattle.wl_wire.specs.Wire.{opcode_of}
use Rattle.wl_tables.specs.declared.interface.Interface.{Interface}
use Rattle.wl_tables.specs.declared.way.Way.{Way}
use Rattle.wl_tables.specs.Messages.{handle_kind}
use Rattle.wl_tables.specs.Ways.{is_event}
use Rattle.wl_objects.specs.Entries.{Tracked}
use Rattle.wl_objects.specs.Tracking.{Admission, step}
use Rattle.wl_text.specs.Text.{text_of}
use Rattle.pair_laws.specs.Passing.{is_own_way}
use Rattle.pair_report.specs.Lines.{got_line}

-- ---- one message

-- the handle of a message that carries one is the first rid; a side accepts no message without one
abbrev pub first_rid : List ℤ → ℤ
first_rid [] = pos 0
first_rid (rid ∷ rids) = rid

abbrev pub handles_in : Option HandleKind → List ℤ → List ℤ
handles_in None rids = []
handles_in (Some kind) rids = first_rid rids ∷ []

abbrev pub rids_behind : Option HandleKind → List ℤ → List ℤ
rids_behind None rids = rids
rids_behind (Some kind) rids = drop 1 rids

-- what tracking tells of a message: the interface of its object, if it passes, and the objects
-- behind it
abbrev pub interface_told : Result Admission ObjectFault → Option Interface
interface_told (Ok done) = Some done.passed.interface
interface_told (Err fault) = None

abbrev pub objects_behind : Result Admission ObjectFault → Tracked → Tracked
objects_behind (Ok done) tracked = done.objects
objects_behind (Err fault) tracked = tracked

-- the line of a message that was received and passed, and the rids behind it
abbrev pub text_line : Side → Interface → Way → List ℕ → List ℤ → List ℕ
text_line side interface way message rids =
    let kind = handle_kind interface (is_event way) (opcode_of message) in
    got_line side (text_of interface way message (handles_in kind rids))

abbrev pub rids_left : Interface → Way → List ℕ → List ℤ → List ℤ
rids_left interface way message rids =
    rids_behind (handle_kind interface (is_event way) (opcode_of message)) rids

-- one that does not pass, which no side accepts, has none
abbrev pub line_if : Option Interface → Side → Way → List ℕ → List ℤ → List ℕ
line_if None side way message rids = []
line_if (Some interface) side way message rids = text_line side interface way message rids

abbrev pub rids_if : Option Interface → Way → List ℕ → List ℤ → List ℤ
rids_if None way message rids = rids
rids_if (Some interface) way message rids = rids_left interface way message rids

-- ---- all messages

-- the lines of messages in order; those of the side's own peer have none
abbrev pub text_lines : Side → List (Way × List ℕ) → Tracked → List ℤ → List ℕ
text_lines side [] tracked rids = []
text_lines side ((way, message) ∷ others) tracked rids =
    let told = interface_told (step way tracked message) in
    let behind = objects_behind (step way tracked message) tracked in
    if is_own_way side way then text_lines side others behind rids
    else line_if told side way message rids
    ++ text_lines side others behind (rids_if told way message rids)

-- ---- the first message of those that wait

abbrev pub objects_first : Way → List (List ℕ) → Tracked → Tracked
objects_first way [] tracked = tracked
objects_first way (message ∷ messages) tracked =
    objects_behind (step way tracked message) tracked

abbrev pub line_first : Side → Way → List (List ℕ) → Tracked → List ℤ → List ℕ
line_first side way [] tracked rids = []
line_first side way (message ∷ messages) tracked rids =
    line_if (interface_told (step way tracked message)) side way message rids

abbrev pub rids_first : Way → List (List ℕ) → Tracked → List ℤ → List ℤ
rids_first way [] tracked rids = rids
rids_first way (message ∷ messages) tracked rids =
    rids_if (interface_told (step way tracked message)) way message rids
