-- The lines of a script, each with its fields; the language is this project's own.
use Rattle.std.specs.Prelude.{ℕ, ◌&&◌, List, [], ◌∷◌, Option, Some, None, Result, Ok, Err}
use Rattle.std.specs.Prelude.{if◌then◌else◌, codes}
use Rattle.wp_outside.specs.declared.kinds.Direction.TheVariants.{Up, Down}
use Rattle.wp_outside.specs.declared.kinds.Side.{Side}
use Rattle.script_lang.specs.Fields.{one_of, two_of, three_of, four_of}
use Rattle.script_lang.specs.Kinds.{Kind, number, count, place, word, size, received, own, bytes}
use Rattle.script_lang.specs.Kinds.{byte, who, direction}
use Rattle.script_lang.specs.declared.causes.ScriptCause.{ScriptCause}
use Rattle.script_lang.specs.declared.causes.ScriptCause.TheVariants.{Form, Number}
use Rattle.script_lang.specs.declared.steps.StepKind.{StepKind}
use Rattle.script_lang.specs.declared.steps.StepKind.TheVariants as step

-- the value of a field that has the form
abbrev pub ranged : {A : Type 0} → Kind A → List ℕ → Result A ScriptCause
ranged kind field = if kind.range field then Ok (kind.value field) else Err Number

-- the value of a field
abbrev pub read : {A : Type 0} → Kind A → List ℕ → Result A ScriptCause
read kind field = if kind.form field then ranged kind field else Err Form

-- two values, or the first cause for which there are none
abbrev pub both :
    {A B : Type 0} → Result A ScriptCause → Result B ScriptCause → Result (A × B) ScriptCause
both (Ok a) (Ok b) = Ok (a, b)
both (Ok a) (Err cause) = Err cause
both (Err cause) b = Err cause

-- the value of the one field that there is
abbrev pub only_of : {A : Type 0} → Kind A → Option (List ℕ) → Result A ScriptCause
only_of kind (Some a) = read kind a
only_of kind None = Err Form

abbrev pub only : {A : Type 0} → Kind A → List (List ℕ) → Result A ScriptCause
only kind given = only_of kind (one_of given)

-- the values of the two fields that there are
abbrev pub pair_of :
    {A B : Type 0} → Kind A → Kind B → Option (List ℕ × List ℕ) → Result (A × B) ScriptCause
pair_of first second (Some (a, b)) =
    if first.form a && second.form b then both (ranged first a) (ranged second b) else Err Form
pair_of first second None = Err Form

abbrev pub pair : {A B : Type 0} → Kind A → Kind B → List (List ℕ) → Result (A × B) ScriptCause
pair first second given = pair_of first second (two_of given)

-- a step that is made of values
abbrev pub made : {A : Type 0} → (A → StepKind) → Result A ScriptCause → Result StepKind ScriptCause
made make (Ok a) = Ok (make a)
made make (Err cause) = Err cause

-- what fields ask for, or why they are none of their line's
abbrev pub Row : Type 0
Row = List (List ℕ) → Result StepKind ScriptCause

abbrev pub none : StepKind → Row
none what [] = Ok what
none what _ = Err Form

abbrev pub one : {A : Type 0} → Kind A → (A → StepKind) → Row
one kind make given = made make (only kind given)

abbrev pub two : {A B : Type 0} → Kind A → Kind B → (A → B → StepKind) → Row
two first second make given = made (λ values. make values.0 values.1) (pair first second given)

abbrev pub three_by :
    {A B C : Type 0} → Kind A → Kind B → Kind C → (A → B → C → StepKind)
    → Option (List ℕ × List ℕ × List ℕ) → Result StepKind ScriptCause
three_by first second third make (Some (a, b, c)) =
    if first.form a && second.form b && third.form c
    then made (λ values. make values.0 values.1.0 values.1.1)
    (both (ranged first a) (both (ranged second b) (ranged third c)))
    else Err Form
three_by first second third make None = Err Form

abbrev pub three : {A B C : Type 0} → Kind A → Kind B → Kind C → (A → B → C → StepKind) → Row
three first second third make given = three_by first second third make (three_of given)

abbrev pub four_by :
    {A B C D : Type 0} → Kind A → Kind B → Kind C → Kind D → (A → B → C → D → StepKind)
    → Option (List ℕ × List ℕ × List ℕ × List ℕ) → Result StepKind ScriptCause
four_by first second third fourth make (Some (a, b, c, d)) =
    if first.form a && second.form b && third.form c && fourth.form d
    then made (λ values. make values.0 values.1.0 values.1.1.0 values.1.1.1)
    (both (ranged first a) (both (ranged second b) (both (ranged third c) (ranged fourth d))))
    else Err Form
four_by first second third fourth make None = Err Form

abbrev pub four :
    {A B C D : Type 0} → Kind A → Kind B → Kind C → Kind D → (A → B → C → D → StepKind) → Row
four first second third fourth make given = four_by first second third fourth make (four_of given)

-- behind `app` or `comp`, lines of the peer's own files, pipes and handles: the word, and the
-- fields behind it
abbrev pub own_rows : Side → List (List ℕ × Row)
own_rows peer =
    (codes "file", two (own peer) size (step.File peer)) ∷
    (codes "grow", two (own peer) size (step.Grow peer)) ∷
    (codes "fill", four (own peer) place count word (step.Fill peer)) ∷
    (codes "pipe", one (own peer) (step.Pipe peer)) ∷
    (codes "give", one (own peer) (step.Give peer)) ∷
    (codes "end", one received (step.End peer)) ∷
    (codes "shut", one (own peer) (step.Shut peer)) ∷
    (codes "await", one (number 0 1000000) (step.Await peer)) ∷ []

-- all lines behind `app` or `comp`
abbrev pub peer_rows : Side → List (List ℕ × Row)
peer_rows peer =
    (codes "hex", one bytes (step.Hex peer)) ∷
    (codes "put", two received bytes (step.Put peer)) ∷ own_rows peer

-- lines of connections and of the link: the word, and the fields behind it
abbrev pub link_rows : List (List ℕ × Row)
link_rows =
    (codes "connect", none step.Connect) ∷
    (codes "break", none step.Break) ∷
    (codes "send", two direction count step.Send) ∷
    (codes "recv", two direction count step.Recv) ∷
    (codes "up", one count (step.Both Up)) ∷
    (codes "down", one count (step.Both Down)) ∷
    (codes "spoil", three direction place byte step.Spoil) ∷
    (codes "cut", two direction place step.Cut) ∷ []

-- all lines that begin with no peer
abbrev pub other_rows : List (List ℕ × Row)
other_rows =
    (codes "take", two who count step.Take) ∷
    (codes "load", one count step.Load) ∷
    (codes "close", one who step.Close) ∷
    (codes "settle", none step.Settle) ∷
    (codes "drain", one count step.Drain) ∷
    (codes "stop", none step.Stop) ∷ link_rows
