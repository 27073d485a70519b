-- What is answered to the bytes of the input, read whole, is what the program's call owes.
use Rattle.std.proofs.Common.{◌≡◌, ℕ, List, None, Result, Ok, Err, ◌⊎◌, inl, inr, ⊎_elim, refl, String}
use Rattle.std.proofs.lemmas.Result.{on_err_weaker}
use Rattle.std.specs.Result.{IfOk, OnErr}
use Rattle.std.specs.declared.alloc.AllocError.{AllocError}
use Rattle.std.specs.declared.alloc.Global.{Global}
use Rattle.script_lang.specs.Grammar.{steps_of}
use Rattle.script_lang.specs.declared.steps.Step.{Step}
use Rattle.wp_outside.specs.Lines.{Line, Same}
use Rattle.waypipe_run.specs.Built.{first_unbuilt}
use Rattle.waypipe_run.specs.Parts.{RepliesToBytes, IsRun}
use Rattle.waypipe_run.specs.Top.{Outside, ReadWhole, MayReplay, IsScript, Replies}
use Rattle.waypipe_run.specs.Words.{AsksInput}
use Rattle.waypipe_run.specs.declared.replies.Reply.{Reply}
use Rattle.waypipe_run.specs.declared.status.Status.{Status}
use Rattle.waypipe_run.specs.declared.words.Task.{Task}
use Rattle.waypipe_run.specs.declared.words.Task.TheVariants.{Replay, Frames}

bytes_answered : (task : Task) (answer : Status) (words : List (String Global)) (old new : Outside) (bytes text : List ℕ) → AsksInput task words → ReadWhole old new bytes → RepliesToBytes task bytes answer old.line new.line text → Replies answer words old new text
bytes_answered (Replay texts long) answer words old new bytes text asks whole replies =
    inr (inr (inr (inl (record { texts = texts; long = long; asks = asks; bytes = bytes; read = whole; replies = replies }))))
bytes_answered Frames answer words old new bytes text asks whole replies =
    inr (inr (inr (inr (inl (record { asks = asks; bytes = bytes; read = whole; untouched = replies.0; replies = replies.1 })))))

pub answered : (told : Result Reply AllocError) (task : Task) (words : List (String Global)) (old new : Outside) (bytes : List ℕ) → AsksInput task words → ReadWhole old new bytes
    → IfOk told (λ reply. RepliesToBytes task bytes reply.status old.line new.line reply.text) → IfOk told (λ reply. Replies reply.status words old new reply.text)
answered (Ok reply) task words old new bytes asks whole told = bytes_answered task reply.status words old new bytes reply.text asks whole told
answered (Err error) task words old new bytes asks whole told = told

-- ---- where memory runs out

-- the link is as it was
pub on_still : {T E : Type 0} (told : Result T E) (line : ℕ → Line) (P : Type 0) → OnErr told (Same line line ⊎ P)
on_still (Ok it) line P = tt
on_still (Err error) line P = inl (λ connection. refl)

-- or something else holds
pub on_run : {T E : Type 0} (told : Result T E) (S P : Type 0) → P → OnErr told (S ⊎ P)
on_run (Ok it) S P is = tt
on_run (Err error) S P is = inr is

either_more : (S P Q : Type 0) → (P → Q) → S ⊎ P → S ⊎ Q
either_more S P Q more it = ⊎_elim inl (λ is. inr (more is)) it

-- a script whose lines are all run
pub on_script : {T E : Type 0} (told : Result T E) (S : Type 0) (bytes : List ℕ) (steps : List Step) → steps_of bytes ≡ Ok steps → OnErr told (S ⊎ (first_unbuilt steps ≡ None)) → OnErr told (S ⊎ ((it : List Step) × IsScript bytes it))
on_script told S bytes steps read is =
    on_err_weaker told (either_more S (first_unbuilt steps ≡ None) ((it : List Step) × IsScript bytes it) (λ built. (steps, record { spelled = read; built = built }))) is

may_replay : (task : Task) (words : List (String Global)) (old new : Outside) (bytes : List ℕ) → AsksInput task words → ReadWhole old new bytes → IsRun task bytes → MayReplay words old new
may_replay (Replay texts long) words old new bytes asks whole is = record { texts = texts; long = long; asks = asks; bytes = bytes; read = whole; steps = is.0; script = is.1 }
may_replay Frames words old new bytes asks whole is = absurd is

pub on_command : {T E : Type 0} (told : Result T E) (task : Task) (words : List (String Global)) (old new : Outside) (bytes : List ℕ) → AsksInput task words → ReadWhole old new bytes
    → OnErr told (Same old.line new.line ⊎ IsRun task bytes) → OnErr told (Same old.line new.line ⊎ MayReplay words old new)
on_command told task words old new bytes asks whole is =
    on_err_weaker told (either_more (Same old.line new.line) (IsRun task bytes) (MayReplay words old new) (may_replay task words old new bytes asks whole)) is

-- a replay of the input is one of both kinds
pub on_either : {T E : Type 0} (told : Result T E) (S P Q : Type 0) → OnErr told (S ⊎ P) → OnErr told (S ⊎ (P ⊎ Q))
on_either told S P Q is = on_err_weaker told (either_more S P (P ⊎ Q) inl) is
