-- That words which are none of the commands that were tried are no command.
use Rattle.std.proofs.Common.{◌≡◌, ℕ, List, true, false, Option, Some, None, Result, Ok, Err, sym, subst, ◌∙◌, arith, String, MatchOption}
use Rattle.std.specs.Bool.{IsTrue}
use Rattle.std.proofs.lemmas.Fmt.{parse-decimal}
use Rattle.std.specs.Str.Parse.{ParsesUnsigned}
use Rattle.std.specs.declared.alloc.Global.{Global}
use Rattle.waypipe_run.specs.Words.{Asks, IsReplay, IsTrial, IsFrames, IsCount, IsCommand}
use Rattle.waypipe_run.specs.declared.words.Command.{Command}
use Rattle.waypipe_run.specs.declared.words.Command.TheVariants.{Input, Trial}
use Rattle.waypipe_run.specs.declared.words.Task.TheVariants.{Replay, Frames}

-- a count of rounds is what a word is read as
pub count_read : {E : Type 0} (rounds : ℕ) (word : List ℕ) (told : Result ℕ E) → IsCount rounds word → ParsesUnsigned 32 10 word told → told ≡ Ok rounds
count_read rounds word told is parses = parse-decimal 32 rounds word told (omega (arith, is.few)) (omega (arith, is.few)) is.is parses

ok_err : {E : Type 0} (rounds : ℕ) (error : E) → Ok rounds ≡ Err error → ⊥
ok_err rounds error e = cc

ok_same : {E : Type 0} (rounds other : ℕ) (told : Result ℕ E) → told ≡ Ok other → told ≡ Ok rounds → other ≡ rounds
ok_same rounds other told a b = cc

-- no count where a word is no number
pub none_read : {E : Type 0} (word : List ℕ) (told : Result ℕ E) (error : E) → told ≡ Err error → ParsesUnsigned 32 10 word told → (rounds : ℕ) → IsCount rounds word → ⊥
none_read word told error e parses rounds is = ok_err rounds error (sym (count_read rounds word told is parses) ∙ e)

-- and where the number that it is read as is none
pub none_counted : {E : Type 0} (word : List ℕ) (told : Result ℕ E) (number : ℕ) → told ≡ Ok number → ParsesUnsigned 32 10 word told → (IsCount number word → ⊥) → (rounds : ℕ) → IsCount rounds word → ⊥
none_counted word told number e parses none rounds is =
    none (subst (λ (n : ℕ). IsCount n word) (sym (ok_same rounds number told e (count_read rounds word told is parses))) is)

-- where a test answers false, what it tests does not hold
false_true : false ≡ true → ⊥
false_true e = cc

pub never : {P : Type 0} → (IsTrue false → P) × (P → IsTrue false) → P → ⊥
never both is = false_true (both.1 is)

no_command : (words : List (String Global)) → (IsReplay false false words → ⊥) → (IsReplay true false words → ⊥) → (IsReplay false true words → ⊥) → (IsReplay true true words → ⊥) → (IsFrames words → ⊥)
    → ((rounds : ℕ) → IsTrial rounds words → ⊥) → (command : Command) → Asks command words → ⊥
no_command words plain texts long both frames trial (Input (Replay false false)) asks = plain asks
no_command words plain texts long both frames trial (Input (Replay true false)) asks = texts asks
no_command words plain texts long both frames trial (Input (Replay false true)) asks = long asks
no_command words plain texts long both frames trial (Input (Replay true true)) asks = both asks
no_command words plain texts long both frames trial (Input Frames) asks = frames asks
no_command words plain texts long both frames trial (Trial rounds) asks = trial rounds asks

-- what is told of a trial is told of all commands
pub trial_told : (told : Option Command) (words : List (String Global)) → (IsReplay false false words → ⊥) → (IsReplay true false words → ⊥) → (IsReplay false true words → ⊥) → (IsReplay true true words → ⊥) → (IsFrames words → ⊥)
    → MatchOption told ((rounds : ℕ) → IsTrial rounds words → ⊥) (λ command. Asks command words) → MatchOption told (IsCommand words → ⊥) (λ command. Asks command words)
trial_told None words plain texts long both frames trial = λ asked. no_command words plain texts long both frames trial asked.0 asked.1
trial_told (Some command) words plain texts long both frames asks = asks
