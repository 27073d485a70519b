-- The status follows from what the program's call owes.
use Rattle.std.proofs.Common.{◌≡◌, ℕ, ◌<◌, ◌≤◌, Bool, true, false, cond, ltb, List, [], ◌∷◌, ◌++◌, Option, Some, None, Result, Ok, Err, inl, inr, ⊎_elim, length, refl, ap, ◌∙◌, sym, subst, arith, rules, tests, String, string_bytes, codes, slice_index, nat_eq}
use Rattle.std.specs.List.{flat_map}
use Rattle.std.specs.declared.alloc.Global.{Global}
use Rattle.transfer_frames.specs.Grammar.{spelling}
use Rattle.transfer_frames.specs.Front.{front}
use Rattle.transfer_frames.specs.declared.frame.Frame.{Frame}
use Rattle.frame_stream.specs.Listing.{Lists}
use Rattle.frame_stream.proofs.ListingLaws.{listed_once}
use Rattle.std.proofs.lemmas.Fmt.{decimal_injective}
use Rattle.std.proofs.lemmas.List.{append-nil}
use Rattle.script_lang.specs.Grammar.{steps_of}
use Rattle.script_lang.specs.declared.causes.ScriptCause.{ScriptCause}
use Rattle.script_lang.specs.declared.causes.ScriptRead.{ScriptRead}
use Rattle.script_lang.specs.declared.causes.ScriptRead.TheVariants as read
use Rattle.script_lang.specs.declared.steps.Step.{Step}
use Rattle.wp_outside.specs.Lines.{Line}
use Rattle.wp_outside.specs.Pieces.{IfTold}
use Rattle.waypipe_run.specs.Built.{first_unbuilt}
use Rattle.waypipe_run.specs.Moving.{Took, MOST_INPUT}
use Rattle.pair_report.specs.declared.options.ReportOptions.{ReportOptions}
use Rattle.script_lang.specs.Trial.{trial_text}
use Rattle.waypipe_run.specs.Endings.{status_of}
use Rattle.waypipe_run.specs.Reports.{options_of, trial_options}
use Rattle.waypipe_run.specs.Top.{Outside, IsAnswer, IsLimit, IsListed, Refused, RepliesToStream, RepliesToText, Reported}
use Rattle.waypipe_run.specs.TopLaws.{Due, DueOfBuilt, DueOfRead, RunsTo, OneIsDue, status_of_front, status_of_stream, OtherWords, StatusOfInput, StatusOfStream, StatusOfTrial}
use Rattle.waypipe_run.specs.Words.{AreWords, AsksInput, IsReplay, IsTrial, IsFrames, IsCommand}
use Rattle.waypipe_run.proofs.ReplyLemmas.{each_reply, by_outcome}
use Rattle.waypipe_run.specs.declared.words.Command.TheVariants as command
use Rattle.waypipe_run.specs.declared.words.Task.{Task}
use Rattle.waypipe_run.specs.declared.words.Task.TheVariants.{Replay, Frames}
use Rattle.half_model.specs.declared.causes.Limit.TheVariants as limits
use Rattle.waypipe_run.specs.declared.status.Status.{Status}
use Rattle.waypipe_run.specs.declared.status.Status.TheVariants as status

none_some : (all : List ℕ) → None ≡ Some all → ⊥
none_some all e = cc

some_same : (a b : List ℕ) → Some a ≡ Some b → a ≡ b
some_same a b e = cc

not_above : (bytes : List ℕ) → length bytes ≤ MOST_INPUT → ltb MOST_INPUT (length bytes) ≡ false
not_above bytes few = search (rules, tests)

above : (bytes : List ℕ) → MOST_INPUT < length bytes → ltb MOST_INPUT (length bytes) ≡ true
above bytes many = search (rules, tests)

true_false : true ≡ false → ⊥
true_false e = cc

-- the first of the words
abbrev First : List ℕ → List (String Global) → Type 0
First text [] = ⊥
First text (word ∷ words) = string_bytes word ≡ text

first_of : (text : List ℕ) (texts : List (List ℕ)) (words : List (String Global)) → AreWords (text ∷ texts) words → First text words
first_of text texts [] is = is
first_of text texts (word ∷ words) is = is.0

replay_first : (texts long : Bool) (words : List (String Global)) → IsReplay texts long words → First (codes "replay") words
replay_first false false words is = first_of (codes "replay") [] words is
replay_first true false words is = first_of (codes "replay") (codes "--text" ∷ []) words is
replay_first false true words is = first_of (codes "replay") (codes "--long" ∷ []) words is
replay_first true true words is = ⊎_elim
    (λ one. first_of (codes "replay") (codes "--text" ∷ codes "--long" ∷ []) words one)
    (λ other. first_of (codes "replay") (codes "--long" ∷ codes "--text" ∷ []) words other)
    is

-- no words are two commands
replay_frames : (text : List ℕ) → text ≡ codes "replay" → text ≡ codes "frames" → ⊥
replay_frames text a b = true_false (ap (λ (t : List ℕ). nat_eq (slice_index t 0) 114) (sym a ∙ b))

replay_trial : (text : List ℕ) → text ≡ codes "replay" → text ≡ codes "trial" → ⊥
replay_trial text a b = true_false (ap (λ (t : List ℕ). nat_eq (slice_index t 0) 114) (sym a ∙ b))

trial_frames : (text : List ℕ) → text ≡ codes "trial" → text ≡ codes "frames" → ⊥
trial_frames text a b = true_false (ap (λ (t : List ℕ). nat_eq (slice_index t 0) 116) (sym a ∙ b))

both_first : (one other : List ℕ) (words : List (String Global)) → ((text : List ℕ) → text ≡ one → text ≡ other → ⊥) → First one words → First other words → ⊥
both_first one other [] never a b = a
both_first one other (word ∷ words) never a b = never (string_bytes word) a b

frames_first : (words : List (String Global)) → IsFrames words → First (codes "frames") words
frames_first words is = first_of (codes "frames") [] words is

trial_first : (rounds : ℕ) (words : List (String Global)) → IsTrial rounds words → First (codes "trial") words
trial_first rounds [] is = is
trial_first rounds (name ∷ []) is = absurd is
trial_first rounds (name ∷ count ∷ []) is = is.0
trial_first rounds (name ∷ count ∷ other ∷ words) is = absurd is

two_commands : (texts long : Bool) (words : List (String Global)) → IsReplay texts long words → IsFrames words → ⊥
two_commands texts long words a b = both_first (codes "replay") (codes "frames") words replay_frames (replay_first texts long words a) (frames_first words b)

replay_and_trial : (texts long : Bool) (rounds : ℕ) (words : List (String Global)) → IsReplay texts long words → IsTrial rounds words → ⊥
replay_and_trial texts long rounds words a b = both_first (codes "replay") (codes "trial") words replay_trial (replay_first texts long words a) (trial_first rounds words b)

trial_and_frames : (rounds : ℕ) (words : List (String Global)) → IsTrial rounds words → IsFrames words → ⊥
trial_and_frames rounds words a b = both_first (codes "trial") (codes "frames") words trial_frames (trial_first rounds words a) (frames_first words b)

is_command : (texts long : Bool) (words : List (String Global)) → IsReplay texts long words → IsCommand words
is_command texts long words is = (command.Input (Replay texts long), is)

-- what was read whole is what was left
read_left : (left rest : Option (List ℕ)) (bytes all : List ℕ) → left ≡ Some all → Took left rest bytes → IfTold rest (λ r. r ≡ []) → bytes ≡ all
read_left None rest bytes all is taken none = absurd (none_some all is)
read_left (Some left) None bytes all is taken none = absurd taken
read_left (Some left) (Some rest) bytes all is taken none = sym (taken ∙ ap (λ r. bytes ++ r) none ∙ append-nil bytes) ∙ some_same left all is

-- ---- other words

asked : (task : Task) (words : List (String Global)) → AsksInput task words → IsCommand words
asked task words asks = (command.Input task, asks)

pub other_words : OtherWords
other_words answer words old new out written outcome other =
    by_outcome answer words old new out written outcome inr
    (λ printed. inl (each_reply answer words old new printed.text printed.replies
    (λ usage. usage.answered)
    (λ fault. absurd (other (asked fault.task words fault.asks)))
    (λ limit. absurd (other (asked limit.task words limit.asks)))
    (λ answered. absurd (other (is_command answered.texts answered.long words answered.asks)))
    (λ listed. absurd (other (asked Frames words listed.asks)))
    (λ tried. absurd (other (command.Trial tried.rounds, tried.asks)))))

-- ---- what an input calls for

due_of_refused : (bytes : List ℕ) (line : ℕ) (cause : ScriptCause) → Refused bytes line cause → DueOfRead (steps_of bytes) (status.Script line cause)
due_of_refused bytes line cause is = ⊎_elim
    (λ fault. subst (λ (told : Result (List Step) ScriptRead). DueOfRead told (status.Script line cause)) (sym fault) refl)
    (λ unbuilt. subst (λ (told : Result (List Step) ScriptRead). DueOfRead told (status.Script line cause)) (sym unbuilt.1)
    (subst (λ (it : Option ℕ). DueOfBuilt it unbuilt.0 (status.Script line cause)) (sym unbuilt.2) (ap (λ (c : ScriptCause). status.Script line c) unbuilt.3)))
    is

-- a report is of a run
runs_to : (options : ReportOptions) (steps : List Step) (answer : Status) (line : ℕ → Line) (text : List ℕ) → Reported options steps answer line text → RunsTo steps answer
runs_to options steps answer line text is =
    let r = is.replays in
    record { played = r.played; last = r.last; end = r.end; runs = r.runs; answered = is.ends.answered ∙ ap status_of r.end_is }

-- an answer to a text is the status that the text calls for
text_status : (options : ReportOptions) (answer : Status) (bytes : List ℕ) (before after : ℕ → Line) (text : List ℕ) → RepliesToText options answer bytes before after text → DueOfRead (steps_of bytes) answer
text_status options answer bytes before after text replies = ⊎_elim
    (λ replayed.
    let built : DueOfBuilt (first_unbuilt replayed.steps) replayed.steps answer =
    subst (λ (it : Option ℕ). DueOfBuilt it replayed.steps answer) (sym replayed.script.built) (runs_to options replayed.steps answer after text replayed.reported) in
    subst (λ (told : Result (List Step) ScriptRead). DueOfRead told answer) (sym replayed.script.spelled) built)
    (λ others. ⊎_elim
    (λ none. subst (DueOfRead (steps_of bytes)) (sym none.answered) (due_of_refused bytes none.line none.cause none.refused))
    (λ long. subst (λ (told : Result (List Step) ScriptRead). DueOfRead told answer) (sym long.above) long.answered)
    others)
    replies

-- what is left of an input that is told, where more is left than the program reads
left_above : (left : Option (List ℕ)) (all : List ℕ) → left ≡ Some all → IfTold left (λ it. MOST_INPUT < length it) → MOST_INPUT < length all
left_above left all told above = subst (λ (o : Option (List ℕ)). IfTold o (λ it. MOST_INPUT < length it)) told above

answer_status : (answer : Status) (words : List (String Global)) (old new : Outside) (text all : List ℕ) → IsAnswer answer words old new text → old.left ≡ Some all → Due all answer
answer_status answer words old new text all is told =
    let same = read_left old.left new.left is.bytes all told is.read.taken is.read.nothing_left in
    subst (λ (b : List ℕ). Due b answer) same (inr (is.read.bounded, text_status (options_of is.texts is.long) answer is.bytes old.line new.line text is.replies))

pub status_decided : StatusOfInput
status_decided texts long answer words old new out written bytes outcome asks left =
    by_outcome answer words old new out written outcome (λ hindered. inr (inl hindered))
    (λ printed. each_reply answer words old new printed.text printed.replies
    (λ usage. absurd (usage.no_command (is_command texts long words asks)))
    (λ fault. inr (inr (fault.answered, fault.rose)))
    (λ limit. inl (inl (left_above old.left bytes left limit.above, limit.answered)))
    (λ answered. inl (answer_status answer words old new printed.text bytes answered left))
    (λ listed. absurd (two_commands texts long words asks listed.asks))
    (λ tried. absurd (replay_and_trial texts long tried.rounds words asks tried.asks)))

-- ---- what a trial calls for

input_and_trial : (task : Task) (rounds : ℕ) (words : List (String Global)) → AsksInput task words → IsTrial rounds words → ⊥
input_and_trial (Replay texts long) rounds words a b = replay_and_trial texts long rounds words a b
input_and_trial Frames rounds words a b = trial_and_frames rounds words b a

-- one command has one count of rounds
same_rounds : (rounds other : ℕ) (words : List (String Global)) → IsTrial rounds words → IsTrial other words → rounds ≡ other
same_rounds rounds other [] a b = absurd a
same_rounds rounds other (name ∷ []) a b = absurd a
same_rounds rounds other (name ∷ count ∷ []) a b =
    decimal_injective rounds other (omega (arith, a.1.few)) (omega (arith, b.1.few)) (sym a.1.is ∙ b.1.is)
same_rounds rounds other (name ∷ count ∷ more ∷ words) a b = absurd a

Tells : Status → ℕ → Type 0
Tells answer rounds = (steps : List Step) × (steps_of (trial_text rounds) ≡ Ok steps) × RunsTo steps answer

pub trial_decided : StatusOfTrial
unfolding Tells
trial_decided rounds answer words old new out written outcome asks =
    by_outcome answer words old new out written outcome inr
    (λ printed. each_reply answer words old new printed.text printed.replies
    (λ usage. absurd (usage.no_command (command.Trial rounds, asks)))
    (λ fault. absurd (input_and_trial fault.task rounds words fault.asks asks))
    (λ limit. absurd (input_and_trial limit.task rounds words limit.asks asks))
    (λ answered. absurd (replay_and_trial answered.texts answered.long rounds words answered.asks asks))
    (λ listed. absurd (trial_and_frames rounds words asks listed.asks))
    (λ tried.
    let it = tried.reported in
    let own : Tells answer tried.rounds = (it.steps, it.script, runs_to trial_options it.steps answer new.line printed.text it.reported) in
    inl (subst (Tells answer) (same_rounds tried.rounds rounds words tried.asks asks) own)))

-- ---- what a stream calls for

-- an answer to a stream is the status that the stream calls for
stream_told : (answer : Status) (bytes text : List ℕ) (frames : List Frame) (rest : List ℕ) → RepliesToStream answer bytes text → Lists bytes frames rest → answer ≡ status_of_front (front rest) (length (flat_map spelling frames))
stream_told answer bytes text frames rest replies lists = ⊎_elim
    (λ is.
    let once = listed_once bytes is.frames frames is.rest rest is.lists lists in
    is.answered ∙ ap (λ f. status_of_front f (length (flat_map spelling frames))) (sym is.waits ∙ ap front once.1))
    (λ is.
    let once = listed_once bytes is.frames frames is.rest rest is.lists lists in
    is.answered
    ∙ ap (λ f. status_of_front f (length (flat_map spelling is.frames))) (sym is.fault ∙ ap front once.1)
    ∙ ap (λ (fs : List Frame). status_of_front (front rest) (length (flat_map spelling fs))) once.0)
    replies

listed_status : (answer : Status) (words : List (String Global)) (old new : Outside) (text all : List ℕ) (frames : List Frame) (rest : List ℕ) → IsListed answer words old new text → old.left ≡ Some all → Lists all frames rest → answer ≡ status_of_stream all frames rest
listed_status answer words old new text all frames rest is told lists =
    let same = read_left old.left new.left is.bytes all told is.read.taken is.read.nothing_left in
    let few : length all ≤ MOST_INPUT = subst (λ (b : List ℕ). length b ≤ MOST_INPUT) same is.read.bounded in
    let own : RepliesToStream answer all text = subst (λ (b : List ℕ). RepliesToStream answer b text) same is.replies in
    stream_told answer all text frames rest own lists
    ∙ sym (ap (λ b. cond b (status.Limit limits.Input) (status_of_front (front rest) (length (flat_map spelling frames)))) (not_above all few))

limit_stream : (answer : Status) (words : List (String Global)) (old new : Outside) (text all : List ℕ) (frames : List Frame) (rest : List ℕ) → IsLimit answer words old new text → old.left ≡ Some all → answer ≡ status_of_stream all frames rest
limit_stream answer words old new text all frames rest is told =
    is.answered ∙ sym (ap (λ b. cond b (status.Limit limits.Input) (status_of_front (front rest) (length (flat_map spelling frames)))) (above all (left_above old.left all told is.above)))

pub stream_decided : StatusOfStream
stream_decided answer words old new out written bytes frames rest outcome asks left lists =
    by_outcome answer words old new out written outcome (λ hindered. inr (inl hindered))
    (λ printed. each_reply answer words old new printed.text printed.replies
    (λ usage. absurd (usage.no_command (asked Frames words asks)))
    (λ fault. inr (inr (fault.answered, fault.rose)))
    (λ limit. inl (limit_stream answer words old new printed.text bytes frames rest limit left))
    (λ answered. absurd (two_commands answered.texts answered.long words answered.asks asks))
    (λ listed. inl (listed_status answer words old new printed.text bytes frames rest listed left lists))
    (λ tried. absurd (trial_and_frames tried.rounds words tried.asks asks)))

-- ---- one status

one_of_built : (line : Option ℕ) (steps : List Step) (one other : Status) → (line ≡ None → ⊥) → DueOfBuilt line steps one → DueOfBuilt line steps other → one ≡ other
one_of_built (Some line) steps one other some a b = a ∙ sym b
one_of_built None steps one other some a b = absurd (some refl)

one_of_read : (told : Result (List Step) ScriptRead) (one other : Status) → ((steps : List Step) → told ≡ Ok steps → first_unbuilt steps ≡ None → ⊥) → DueOfRead told one → DueOfRead told other → one ≡ other
one_of_read (Ok steps) one other none a b = one_of_built (first_unbuilt steps) steps one other (none steps refl) a b
one_of_read (Err (read.Fault line cause)) one other none a b = a ∙ sym b
one_of_read (Err read.Lines) one other none a b = a ∙ sym b
one_of_read (Err read.Memory) one other none a b = absurd a

above_within : (n : ℕ) → MOST_INPUT < n → n ≤ MOST_INPUT → ⊥
above_within n many few = absurd (omega arith)

pub one_is_due : OneIsDue
one_is_due bytes one other none a b = ⊎_elim
    (λ over. ⊎_elim (λ above. over.1 ∙ sym above.1) (λ within. absurd (above_within (length bytes) over.0 within.0)) b)
    (λ here. ⊎_elim (λ above. absurd (above_within (length bytes) above.0 here.0)) (λ within. one_of_read (steps_of bytes) one other (λ steps spelled built. none steps (record { spelled = spelled; built = built })) here.1 within.1) b)
    a
