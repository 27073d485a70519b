-- What the lines of a script come to one behind another.
--
-- The steps of lines are told line by line. So one induction on the lines tells all of it: where there are steps, they are those of
-- the lines that are not skipped; where a line is refused, the lines before it are a script, and it is none behind them.
use Rattle.std.proofs.Common.{◌≡◌, ℕ, suc, ◌+◌, ◌-◌, ◌<◌, ◌≤◌, Bool, true, false, cond, List, [], ◌∷◌, ◌++◌, Option, Some, None, Result, Ok, Err, length, map, slice_get, refl, ap, ◌∙◌, sym, subst, arith, append_assoc, length-append, ⊎_elim}
use Rattle.std.specs.List.{AllByRecursion}
use Rattle.std.specs.Prelude.{nat_lt, ◌↔◌}
use Rattle.std.proofs.lemmas.Bool.Decides.{nat_tests}
use Rattle.std.proofs.lemmas.Bool.{cases_lt}
use Rattle.wl_text.specs.TextLaws.{ReadIsVisible}
use Rattle.wp_outside.specs.declared.kinds.Side.{Side}
use Rattle.script_lang.specs.Grammar.{steps_of, steps_of_lines, steps_from, and_then, onto_steps, line_of, names_after}
use Rattle.script_lang.specs.Laws.{told_lines, IsAsked, HasItsSteps, OneStepEach, IsFirstFault, FirstFault, TooManyLines, OnlyTested, StopEnds}
use Rattle.script_lang.specs.Lines.{asked, is_skipped}
use Rattle.script_lang.specs.Names.{Names, no_names}
use Rattle.script_lang.specs.Pieces.{lines}
use Rattle.script_lang.specs.Puts.{is_stop, put_by_all, before_stop}
use Rattle.script_lang.specs.declared.causes.ScriptCause.{ScriptCause}
use Rattle.script_lang.specs.declared.causes.ScriptCause.TheVariants.{NotBuilt}
use Rattle.script_lang.specs.declared.causes.ScriptRead.{ScriptRead}
use Rattle.script_lang.specs.declared.causes.ScriptRead.TheVariants.{Fault, Lines, Memory}
use Rattle.script_lang.specs.declared.limits.TheConstants.{MOST_LINES}
use Rattle.script_lang.specs.declared.steps.Step.{Step}
use Rattle.script_lang.specs.declared.steps.StepKind.{StepKind}
use Rattle.script_lang.proofs.LineLaws.{IsTold, line_told}
use Rattle.script_lang.proofs.ReadingLemmas.{behind_steps, behind_onto}

-- the names behind lines
abbrev names_behind : Names → List (List ℕ) → Names
names_behind names [] = names
names_behind names (text ∷ texts) = names_behind (names_after names (line_of names text)) texts

-- a step of one of these lines, of which the first has this number
record AskedFrom (line : ℕ) (texts : List (List ℕ)) (it : Step) : Type 0 where
  text : List ℕ
  low : line ≤ it.line
  stands : slice_get texts (it.line - line) ≡ Some text
  asks : asked text ≡ Ok it.what

-- the lines before a fault are read, and its own is none behind them
record FaultFrom (names : Names) (line : ℕ) (texts : List (List ℕ)) (at : ℕ) (cause : ScriptCause) : Type 0 where
  before : List (List ℕ)
  text : List ℕ
  further : List (List ℕ)
  parts : texts ≡ before ++ text ∷ further
  number : at ≡ line + length before
  steps : List Step
  script : steps_from names line before ≡ Ok steps
  none : line_of (names_behind names before) text ≡ Err cause
  tested : cause ≡ NotBuilt → ⊥

-- what lines come to, of which the first has this number
abbrev StepsTell : Names → ℕ → List (List ℕ) → Result (List Step) ScriptRead → Type 0
StepsTell names line texts (Ok steps) = (map (λ it. it.line) steps ≡ told_lines line texts) × AllByRecursion (AskedFrom line texts) steps
StepsTell names line texts (Err (Fault at cause)) = FaultFrom names line texts at cause
StepsTell names line texts (Err Lines) = ⊥
StepsTell names line texts (Err Memory) = ⊥

asked_behind : (line : ℕ) (text : List ℕ) (texts : List (List ℕ)) (it : Step) → AskedFrom (line + 1) texts it → AskedFrom line (text ∷ texts) it
asked_behind line text texts it is =
    let place : it.line - line ≡ suc (it.line - (line + 1)) = omega (arith, is.low) in
    record { text = is.text; low = omega (arith, is.low); stands = ap (slice_get (text ∷ texts)) place ∙ is.stands; asks = is.asks }

all_behind : (line : ℕ) (text : List ℕ) (texts : List (List ℕ)) (steps : List Step) → AllByRecursion (AskedFrom (line + 1) texts) steps → AllByRecursion (AskedFrom line (text ∷ texts)) steps
all_behind line text texts [] all = tt
all_behind line text texts (it ∷ steps) all = (asked_behind line text texts it all.0, all_behind line text texts steps all.1)

-- a step onto others, and a fault stays
onto_ok : (it : Step) (steps : List Step) (told : Result (List Step) ScriptRead) → told ≡ Ok steps → onto_steps it told ≡ Ok (it ∷ steps)
onto_ok it steps told is = ap (onto_steps it) is

-- one line that was told, before others
module _ (names : Names) (line : ℕ) (text : List ℕ) (texts : List (List ℕ)) where
  -- a fault behind a line that goes on
  fault_behind : (told : Result (Option StepKind) ScriptCause) (at : ℕ) (cause : ScriptCause) → line_of names text ≡ told
      → ((before : List (List ℕ)) (steps : List Step) → steps_from (names_after names told) (line + 1) before ≡ Ok steps → (more : List Step) × (and_then line told (Ok steps) ≡ Ok more))
      → FaultFrom (names_after names told) (line + 1) texts at cause → FaultFrom names line (text ∷ texts) at cause
  fault_behind told at cause is goes_on rest =
      let more = goes_on rest.before rest.steps rest.script in
      let after : names_after names (line_of names text) ≡ names_after names told = ap (names_after names) is in
      record {
        before = text ∷ rest.before;
        text = rest.text;
        further = rest.further;
        parts = ap (λ them. text ∷ them) rest.parts;
        number = omega (arith, rest.number);
        steps = more.0;
        script = ap (λ it. and_then line it (steps_from (names_after names it) (line + 1) rest.before)) is ∙ ap (and_then line told) rest.script ∙ more.1;
        none = ap (λ them. line_of (names_behind them rest.before) rest.text) after ∙ rest.none;
        tested = rest.tested;
      }

  one_tells : (told : Result (Option StepKind) ScriptCause) (others : Result (List Step) ScriptRead) → line_of names text ≡ told → IsTold text told
      → StepsTell (names_after names told) (line + 1) texts others → StepsTell names line (text ∷ texts) (and_then line told others)
  one_tells (Err cause) others is told rest = record {
    before = [];
    text = text;
    further = texts;
    parts = refl;
    number = omega arith;
    steps = [];
    script = refl;
    none = is;
    tested = told;
  }
  one_tells (Ok None) (Ok steps) is told rest = (rw told rest.0, all_behind line text texts steps rest.1)
  one_tells (Ok None) (Err (Fault at cause)) is told rest = fault_behind (Ok None) at cause is (λ before steps script. (steps, refl)) rest
  one_tells (Ok None) (Err Lines) is told rest = rest
  one_tells (Ok None) (Err Memory) is told rest = rest
  one_tells (Ok (Some what)) (Ok steps) is told rest =
      let here : line - line ≡ 0 = omega arith in (
        rw told.0 (ap (λ them. line ∷ them) rest.0),
        (record { text = text; low = omega arith; stands = ap (slice_get (text ∷ texts)) here; asks = told.1 }, all_behind line text texts steps rest.1),
      )
  one_tells (Ok (Some what)) (Err (Fault at cause)) is told rest =
      fault_behind (Ok (Some what)) at cause is (λ before steps script. (record { line = line; what = what } ∷ steps, refl)) rest
  one_tells (Ok (Some what)) (Err Lines) is told rest = rest
  one_tells (Ok (Some what)) (Err Memory) is told rest = rest

-- lines that are read in two parts
abbrev then_lines : Result (List Step) ScriptRead → Result (List Step) ScriptRead → Result (List Step) ScriptRead
then_lines (Ok steps) further = behind_steps steps further
then_lines (Err fault) further = Err fault

and_then_lines : (line : ℕ) (told : Result (Option StepKind) ScriptCause) (first further : Result (List Step) ScriptRead) → and_then line told (then_lines first further) ≡ then_lines (and_then line told first) further
and_then_lines line (Ok (Some what)) (Ok steps) (Ok more) = refl
and_then_lines line (Ok (Some what)) (Ok steps) (Err fault) = refl
and_then_lines line (Ok (Some what)) (Err fault) further = refl
and_then_lines line (Ok None) (Ok steps) further = refl
and_then_lines line (Ok None) (Err fault) further = refl
and_then_lines line (Err cause) first further = refl

behind_none : (told : Result (List Step) ScriptRead) → behind_steps [] told ≡ told
behind_none (Ok steps) = refl
behind_none (Err fault) = refl

in_parts : (names : Names) (line : ℕ) (before behind : List (List ℕ)) → steps_from names line (before ++ behind) ≡ then_lines (steps_from names line before) (steps_from (names_behind names before) (line + length before) behind)
in_parts names line [] behind =
    let same : line + 0 ≡ line = omega arith in
    sym (behind_none (steps_from names (line + 0) behind) ∙ ap (λ n. steps_from names n behind) same)
in_parts names line (text ∷ before) behind =
    let told : Result (Option StepKind) ScriptCause = line_of names text in
    let next : Names = names_after names told in
    let place : line + 1 + length before ≡ line + length (text ∷ before) = omega arith in
    ap (and_then line told) (in_parts next (line + 1) before behind)
    ∙ and_then_lines line told (steps_from next (line + 1) before) (steps_from (names_behind next before) (line + 1 + length before) behind)
    ∙ ap (λ n. then_lines (steps_from names line (text ∷ before)) (steps_from (names_behind next before) n behind)) place

-- a line that is none behind those that are read
last_fault : (steps : List Step) (line : ℕ) (told : Result (Option StepKind) ScriptCause) (others : Result (List Step) ScriptRead) (at : ℕ) (cause : ScriptCause)
    → others ≡ Ok [] → behind_steps steps (and_then line told others) ≡ Err (Fault at cause) → (told ≡ Err cause) × (at ≡ line)
last_fault steps line (Ok (Some what)) others at cause is refused = absurd (cc (ap (λ it. behind_steps steps (onto_steps (record { line = line; what = what }) it)) is, refused))
last_fault steps line (Ok None) others at cause is refused = absurd (cc (ap (behind_steps steps) is, refused))
last_fault steps line (Err other) others at cause is refused = (ap Err (cc refused), cc refused)

module _ (visible : ReadIsVisible) where
  steps_tell : (names : Names) (line : ℕ) (texts : List (List ℕ)) → StepsTell names line texts (steps_from names line texts)
  steps_tell names line [] = (refl, tt)
  steps_tell names line (text ∷ texts) =
      one_tells names line text texts (line_of names text) _ refl (line_told visible names text) (steps_tell (names_after names (line_of names text)) (line + 1) texts)

-- lines that are few enough are read, and others are too many
few_lines : (texts : List (List ℕ)) → length texts ≤ MOST_LINES → steps_of_lines texts ≡ steps_from no_names 1 texts
few_lines texts few = let test : nat_lt MOST_LINES (length texts) ≡ false = grind (arith, nat_tests) in rw test refl

many_lines : (texts : List (List ℕ)) → MOST_LINES < length texts → steps_of_lines texts ≡ Err Lines
many_lines texts many = let test : nat_lt MOST_LINES (length texts) ≡ true = grind (arith, nat_tests) in rw test refl

-- what all lines of a script come to
abbrev ScriptTells : List (List ℕ) → Result (List Step) ScriptRead → Type 0
ScriptTells texts (Ok steps) = (length texts ≤ MOST_LINES) × StepsTell no_names 1 texts (Ok steps)
ScriptTells texts (Err (Fault at cause)) = (length texts ≤ MOST_LINES) × FaultFrom no_names 1 texts at cause
ScriptTells texts (Err Lines) = MOST_LINES < length texts
ScriptTells texts (Err Memory) = ⊥

few_tell : (texts : List (List ℕ)) (told : Result (List Step) ScriptRead) → length texts ≤ MOST_LINES → StepsTell no_names 1 texts told → ScriptTells texts told
few_tell texts (Ok steps) few tells = (few, tells)
few_tell texts (Err (Fault at cause)) few tells = (few, tells)
few_tell texts (Err Lines) few tells = absurd tells
few_tell texts (Err Memory) few tells = tells

-- the lines up to the first that is none, and what stands behind them
module _ (texts before further : List (List ℕ)) (text : List ℕ) (parts : texts ≡ before ++ text ∷ further) (few : length texts ≤ MOST_LINES) where
  long : length texts ≡ length before + suc (length further)
  long = ap length parts ∙ length-append before (text ∷ further)

  read_before : steps_of_lines before ≡ steps_from no_names 1 before
  read_before = few_lines before (omega (arith, long, few))

  read_up_to : (steps : List Step) → steps_from no_names 1 before ≡ Ok steps
      → steps_of_lines (before ++ text ∷ []) ≡ behind_steps steps (and_then (1 + length before) (line_of (names_behind no_names before) text) (Ok []))
  read_up_to steps script =
      let last = length-append before (text ∷ []) in
      few_lines (before ++ text ∷ []) (omega (arith, long, few, last)) ∙ in_parts no_names 1 before (text ∷ [])
      ∙ ap (λ it. then_lines it (and_then (1 + length before) (line_of (names_behind no_names before) text) (Ok []))) script

  read_all : (steps : List Step) (cause : ScriptCause) → steps_from no_names 1 before ≡ Ok steps → line_of (names_behind no_names before) text ≡ Err cause
      → steps_of_lines texts ≡ Err (Fault (1 + length before) cause)
  read_all steps cause script none =
      let names : Names = names_behind no_names before in
      let place : ℕ = 1 + length before in
      let others : Result (List Step) ScriptRead = steps_from (names_after names (line_of names text)) (place + 1) further in
      few_lines texts few ∙ ap (steps_from no_names 1) parts ∙ in_parts no_names 1 before (text ∷ further)
      ∙ ap (λ it. then_lines it (and_then place (line_of names text) others)) script
      ∙ ap (λ it. behind_steps steps (and_then place it others)) none

is_first_fault : (texts : List (List ℕ)) (line : ℕ) (cause : ScriptCause) → length texts ≤ MOST_LINES → FaultFrom no_names 1 texts line cause → IsFirstFault texts line cause
is_first_fault texts line cause few is =
    let place : 1 + length is.before ≡ line = sym is.number in
    record {
      few = few;
      before = is.before;
      text = is.text;
      behind = is.further;
      parts = is.parts;
      number = omega (arith, is.number);
      steps = is.steps;
      script = read_before texts is.before is.further is.text is.parts few ∙ is.script;
      refused = read_up_to texts is.before is.further is.text is.parts few is.steps is.script
          ∙ ap (λ it. behind_steps is.steps (and_then (1 + length is.before) it (Ok []))) is.none ∙ ap (λ n. Err (Fault n cause)) place;
    }

first_is_fault : (texts : List (List ℕ)) (line : ℕ) (cause : ScriptCause) → IsFirstFault texts line cause → steps_of_lines texts ≡ Err (Fault line cause)
first_is_fault texts line cause is =
    let script : steps_from no_names 1 is.before ≡ Ok is.steps = sym (read_before texts is.before is.behind is.text is.parts is.few) ∙ is.script in
    let refused = sym (read_up_to texts is.before is.behind is.text is.parts is.few is.steps script) ∙ is.refused in
    let fault = last_fault is.steps (1 + length is.before) (line_of (names_behind no_names is.before) is.text) (Ok []) line cause refl refused in
    read_all texts is.before is.behind is.text is.parts is.few is.steps cause script fault.0 ∙ ap (λ n. Err (Fault n cause)) (sym fault.1)

all_asked : (texts : List (List ℕ)) (steps : List Step) → AllByRecursion (AskedFrom 1 texts) steps → AllByRecursion (IsAsked texts) steps
all_asked texts [] all = tt
all_asked texts (it ∷ steps) all = (record { text = all.0.text; stands = all.0.stands; asks = all.0.asks }, all_asked texts steps all.1)

too_many : (texts : List (List ℕ)) (told : Result (List Step) ScriptRead) → told ≡ Err Lines → ScriptTells texts told → MOST_LINES < length texts
too_many texts (Ok steps) is tells = absurd (cc is)
too_many texts (Err (Fault at cause)) is tells = absurd (cc is)
too_many texts (Err Lines) is tells = tells
too_many texts (Err Memory) is tells = absurd tells

module _ (visible : ReadIsVisible) where
  script_tells : (texts : List (List ℕ)) → ScriptTells texts (steps_of_lines texts)
  script_tells texts = ⊎_elim
      (λ many. subst (ScriptTells texts) (sym (many_lines texts many)) many)
      (λ few. subst (ScriptTells texts) (sym (few_lines texts few)) (few_tell texts (steps_from no_names 1 texts) few (steps_tell visible no_names 1 texts)))
      (cases_lt MOST_LINES (length texts))

  pub one_step_each : OneStepEach
  unfolding steps_of
  one_step_each bytes steps is =
      let tells = subst (ScriptTells (lines bytes)) is (script_tells (lines bytes)) in
      record { told = tells.1.0; asked = all_asked (lines bytes) steps tells.1.1 }

  pub first_fault : FirstFault
  unfolding steps_of
  first_fault bytes line cause = (
    λ is. let tells = subst (ScriptTells (lines bytes)) is (script_tells (lines bytes)) in is_first_fault (lines bytes) line cause tells.0 tells.1,
    first_is_fault (lines bytes) line cause,
  )

  pub too_many_lines : TooManyLines
  unfolding steps_of
  too_many_lines bytes = (λ is. too_many (lines bytes) (steps_of_lines (lines bytes)) is (script_tells (lines bytes)), many_lines (lines bytes))

  pub only_tested : OnlyTested
  unfolding steps_of
  only_tested = record {
    cause = λ bytes line is. (subst (ScriptTells (lines bytes)) is (script_tells (lines bytes))).1.tested refl;
    memory = λ bytes is. subst (ScriptTells (lines bytes)) is (script_tells (lines bytes));
  }

-- a `stop` and what is behind it
stopped : (before behind : List Step) (it : Step) → is_stop it.what ≡ true → before_stop (before ++ it ∷ behind) ≡ before_stop before
stopped [] behind it stop = ap (λ b. cond b [] (it ∷ before_stop behind)) stop
stopped (first ∷ before) behind it stop = ap (λ steps. cond (is_stop first.what) [] (first ∷ steps)) (stopped before behind it stop)

pub stop_ends : StopEnds
stop_ends peer before behind it stop = ap (put_by_all peer) (stopped before behind it stop)
