-- A trial's script has no line that is not run.
--
-- A line that replaces a byte begins with the word `spoil`, all others make steps that are run. No text of a trial has an `i` behind an `o`, and so no line of it begins with that word.
use Rattle.std.proofs.Common.{◌≡◌, ℕ, zero, suc, ◌+◌, ◌/◌, ◌^◌, ◌<◌, Bool, true, false, not, ◌&&◌, cond, ◌==◌, List, [], ◌∷◌, ◌++◌, codes, decimal, Option, Some, None, Result, Ok, Err, refl, sym, ap, ◌∙◌, subst, arith}
use Rattle.std.proofs.lemmas.Bool.{and_parts}
use Rattle.std.proofs.lemmas.Bool.Decides.{nat_tests}
use Rattle.std.proofs.lemmas.Slice.Eq.{bytes_eq-Decides}
use Rattle.std.proofs.Math.Nat.{mod-lt}
use Rattle.std.specs.Prelude.{nat_lt, length}
use Rattle.std.specs.List.{AllByRecursion, list_all, list_any}
use Rattle.std.specs.Map.{lookup}
use Rattle.std.specs.Str.{bytes_eq}
use Rattle.wl_tables.specs.Ways.{own_way}
use Rattle.wl_text.specs.Enclosed.{is_shown}
use Rattle.wl_text.specs.Text.{message_of}
use Rattle.wl_text.specs.declared.text_message.TextMessage.{TextMessage}
use Rattle.wp_outside.specs.declared.kinds.Direction.TheVariants.{Up, Down}
use Rattle.wp_outside.specs.declared.kinds.Side.{Side}
use Rattle.wp_outside.specs.declared.kinds.Side.TheVariants.{Near, Far}
use Rattle.script_lang.specs.Fields.{four_of}
use Rattle.script_lang.specs.Grammar.{steps_of, steps_from, and_then, onto_steps, line_of, named, names_after, unless_fault}
use Rattle.script_lang.specs.Kinds.{Kind, bytes, byte, received, own, size, place, count, word, number, who, direction}
use Rattle.script_lang.specs.Lines.{asked, asked_by, is_skipped, message_line, other_line, peer_line, said, told}
use Rattle.script_lang.specs.Names.{Names, no_names, naming, fault_by}
use Rattle.script_lang.specs.Pieces.{lines, front, behind, fields_behind, onto_first}
use Rattle.script_lang.specs.Rows.{Row, made, none, one, two, four, only, pair, four_by, both, ranged, peer_rows, other_rows}
use Rattle.script_lang.specs.Trial.{drawn, draw, state_after, opening, moves, fill_text, damage_text, drawn_fill, drawn_damage, round, rounds, trial_text}
use Rattle.script_lang.specs.declared.causes.ScriptCause.{ScriptCause}
use Rattle.script_lang.specs.declared.causes.ScriptCause.TheVariants.{Text, Word, Form, Message}
use Rattle.script_lang.specs.declared.causes.ScriptRead.{ScriptRead}
use Rattle.script_lang.specs.declared.causes.ScriptRead.TheVariants as read
use Rattle.script_lang.specs.declared.limits.TheConstants.{MOST_LINES}
use Rattle.script_lang.specs.declared.steps.Step.{Step}
use Rattle.script_lang.specs.declared.steps.StepKind.{StepKind}
use Rattle.script_lang.specs.declared.steps.StepKind.TheVariants as step
use Rattle.script_lang.proofs.TrialTexts.{PassDigits, decimal_passes}
use Rattle.waypipe_run.specs.Built.{is_built, first_unbuilt}

-- ---- what the rows of the language make

same_kind : (a b : StepKind) (told : Result StepKind ScriptCause) → told ≡ Ok a → told ≡ Ok b → a ≡ b
same_kind a b told e d = cc

same_steps : (a b : List Step) (told : Result (List Step) ScriptRead) → told ≡ Ok a → told ≡ Ok b → a ≡ b
same_steps a b told e d = cc

-- what is told is a step that is run
abbrev Builds : Result StepKind ScriptCause → Type 0
Builds told = (what : StepKind) → told ≡ Ok what → is_built what ≡ true

one_built : (it : StepKind) → is_built it ≡ true → Builds (Ok it)
one_built it built what e = ap is_built (sym (same_kind it what (Ok it) refl e)) ∙ built

none_built : (cause : ScriptCause) → Builds (Err cause)
none_built cause what e = absurd cc

made_builds : {A : Type 0} (make : A → StepKind) → ((a : A) → is_built (make a) ≡ true) → (told : Result A ScriptCause) → Builds (made make told)
made_builds make all (Ok a) = one_built (make a) (all a)
made_builds make all (Err cause) = none_built cause

if_builds : (b : Bool) (told : Result StepKind ScriptCause) (cause : ScriptCause) → Builds told → Builds (cond b told (Err cause))
if_builds true told cause is = is
if_builds false told cause is = none_built cause

abbrev RowBuilds : Row → Type 0
RowBuilds row = (given : List (List ℕ)) → Builds (row given)

none_builds : (it : StepKind) → is_built it ≡ true → RowBuilds (none it)
none_builds it built [] = one_built it built
none_builds it built (field ∷ given) = none_built Form

one_builds : {A : Type 0} (kind : Kind A) (make : A → StepKind) → ((a : A) → is_built (make a) ≡ true) → RowBuilds (one kind make)
one_builds kind make all given = made_builds make all (only kind given)

two_builds : {A B : Type 0} (first : Kind A) (second : Kind B) (make : A → B → StepKind) → ((a : A) (b : B) → is_built (make a b) ≡ true) → RowBuilds (two first second make)
two_builds first second make all given = made_builds (λ values. make values.0 values.1) (λ values. all values.0 values.1) (pair first second given)

four_builds : {A B C D : Type 0} (first : Kind A) (second : Kind B) (third : Kind C) (fourth : Kind D) (make : A → B → C → D → StepKind) → ((a : A) (b : B) (c : C) (d : D) → is_built (make a b c d) ≡ true) → RowBuilds (four first second third fourth make)
four_builds {A} {B} {C} {D} first second third fourth make all given = go (four_of given)
  where
    go : (it : Option (List ℕ × List ℕ × List ℕ × List ℕ)) → Builds (four_by first second third fourth make it)
    go None = none_built Form
    go (Some (a, b, c, d)) =
        if_builds (first.form a && second.form b && third.form c && fourth.form d) _ Form
        (made_builds (λ values. make values.0 values.1.0 values.1.1.0 values.1.1.1) (λ values. all values.0 values.1.0 values.1.1.0 values.1.1.1)
        (both (ranged first a) (both (ranged second b) (both (ranged third c) (ranged fourth d)))))

-- each row that a test finds builds
abbrev FoundBuild : (List ℕ → Bool) → List (List ℕ × Row) → Type 0
FoundBuild test rows = AllByRecursion (λ it. test it.0 ≡ true → RowBuilds it.1) rows

abbrev IfRow : Option Row → Type 0
IfRow None = Unit {0}
IfRow (Some row) = RowBuilds row

found : (test : List ℕ → Bool) (rows : List (List ℕ × Row)) → FoundBuild test rows → IfRow (lookup test rows)
found test [] all = tt
found test (it ∷ rows) all = go (found test rows all.1) (test it.0) refl
  where
    go : IfRow (lookup test rows) → (b : Bool) → test it.0 ≡ b → IfRow (cond b (Some it.1) (lookup test rows))
    go others true e = all.0 e
    go others false e = others

peers_build : (peer : Side) (test : List ℕ → Bool) → FoundBuild test (peer_rows peer)
peers_build peer test = (
  λ e. one_builds bytes (step.Hex peer) (λ a. refl),
  (
    λ e. two_builds received bytes (step.Put peer) (λ a b. refl),
    (
      λ e. two_builds (own peer) size (step.File peer) (λ a b. refl),
      (
        λ e. two_builds (own peer) size (step.Grow peer) (λ a b. refl),
        (
          λ e. four_builds (own peer) place count word (step.Fill peer) (λ a b c d. refl),
          (
            λ e. one_builds (own peer) (step.Pipe peer) (λ a. refl),
            (
              λ e. one_builds (own peer) (step.Give peer) (λ a. refl),
              (
                λ e. one_builds received (step.End peer) (λ a. refl),
                (
                  λ e. one_builds (own peer) (step.Shut peer) (λ a. refl),
                  (λ e. one_builds (number 0 1000000) (step.Await peer) (λ a. refl), tt),
                ),
              ),
            ),
          ),
        ),
      ),
    ),
  ),
)

others_build : (test : List ℕ → Bool) → (test (codes "spoil") ≡ true → ⊥) → FoundBuild test other_rows
others_build test never = (
  λ e. two_builds who count step.Take (λ a b. refl),
  (
    λ e. one_builds count step.Load (λ a. refl),
    (
      λ e. one_builds who step.Close (λ a. refl),
      (
        λ e. none_builds step.Settle refl,
        (
          λ e. one_builds count step.Drain (λ a. refl),
          (
            λ e. none_builds step.Stop refl,
            (
              λ e. none_builds step.Connect refl,
              (
                λ e. none_builds step.Break refl,
                (
                  λ e. two_builds direction count step.Send (λ a b. refl),
                  (
                    λ e. two_builds direction count step.Recv (λ a b. refl),
                    (
                      λ e. one_builds count (step.Both Up) (λ a. refl),
                      (
                        λ e. one_builds count (step.Both Down) (λ a. refl),
                        (
                          λ e. absurd (never e),
                          (λ e. two_builds direction place step.Cut (λ a b. refl), tt),
                        ),
                      ),
                    ),
                  ),
                ),
              ),
            ),
          ),
        ),
      ),
    ),
  ),
)

said_builds : (peer : Side) (it : Option TextMessage) → Builds (said peer it)
said_builds peer None = none_built Message
said_builds peer (Some message) = one_built (step.Say peer message) refl

message_builds : (peer : Side) (first text : List ℕ) → Builds (message_line peer first text)
message_builds peer first text = if_builds (list_any (λ byte. byte == 64) first) (said peer (message_of (own_way peer) text)) Word (said_builds peer (message_of (own_way peer) text))

told_builds : (peer : Side) (rest : List ℕ) (row : Option Row) → IfRow row → Builds (told peer rest row)
told_builds peer rest None is = message_builds peer (front 32 rest) rest
told_builds peer rest (Some row) is = is (fields_behind (behind 32 rest))

peer_builds : (peer : Side) (rest : Option (List ℕ)) → Builds (peer_line peer rest)
peer_builds peer None = none_built Form
peer_builds peer (Some rest) = told_builds peer rest (lookup (bytes_eq (front 32 rest)) (peer_rows peer)) (found (bytes_eq (front 32 rest)) (peer_rows peer) (peers_build peer (bytes_eq (front 32 rest))))

other_builds : (rest : Option (List ℕ)) (row : Option Row) → IfRow row → Builds (other_line rest row)
other_builds rest None is = none_built Word
other_builds rest (Some row) is = is (fields_behind rest)

by_word : (b : Bool) (one other : Result StepKind ScriptCause) → Builds one → Builds other → Builds (cond b one other)
by_word true one other is so = is
by_word false one other is so = so

asked_builds : (text : List ℕ) → (front 32 text ≡ codes "spoil" → ⊥) → Builds (asked text)
unfolding asked
asked_builds text never =
    let word : List ℕ = front 32 text in
    let rest : Option (List ℕ) = behind 32 text in
    if_builds (list_all is_shown text) (asked_by word rest) Text
    (by_word (bytes_eq word (codes "app")) (peer_line Near rest) _ (peer_builds Near rest)
    (by_word (bytes_eq word (codes "comp")) (peer_line Far rest) (other_line rest (lookup (bytes_eq word) other_rows)) (peer_builds Far rest)
    (other_builds rest (lookup (bytes_eq word) other_rows) (found (bytes_eq word) other_rows (others_build (bytes_eq word) (λ same. never ((bytes_eq-Decides word (codes "spoil")).0 same)))))))

-- ---- the steps of lines

named_builds : (names : Names) (told : Result StepKind ScriptCause) (what : StepKind) → Builds told → named names told ≡ Ok (Some what) → is_built what ≡ true
named_builds names (Err cause) what is e = absurd cc
named_builds names (Ok it) what is e = go (fault_by names (naming it) it) e
  where
    go : (fault : Option ScriptCause) → unless_fault fault it ≡ Ok (Some what) → is_built what ≡ true
    go (Some cause) e = absurd cc
    go None e = let same : it ≡ what = cc in is what (ap Ok same)

line_builds : (names : Names) (text : List ℕ) (what : StepKind) → Builds (asked text) → line_of names text ≡ Ok (Some what) → is_built what ≡ true
line_builds names text what is e = go (is_skipped text) e
  where
    go : (b : Bool) → cond b (Ok None) (named names (asked text)) ≡ Ok (Some what) → is_built what ≡ true
    go true e = absurd cc
    go false e = named_builds names (asked text) what is e

lines_build : (names : Names) (line : ℕ) (texts : List (List ℕ)) (steps : List Step) → AllByRecursion (λ text. Builds (asked text)) texts → steps_from names line texts ≡ Ok steps → first_unbuilt steps ≡ None
lines_build names line [] steps all e = ap first_unbuilt (sym (same_steps [] steps (Ok []) refl e))
lines_build names line (text ∷ texts) steps all e =
    go (λ after more told. lines_build after (line + 1) texts more all.1 told) (line_of names text) refl e
  where
    go : ((after : Names) (more : List Step) → steps_from after (line + 1) texts ≡ Ok more → first_unbuilt more ≡ None) → (told : Result (Option StepKind) ScriptCause) → line_of names text ≡ told → and_then line told (steps_from (names_after names told) (line + 1) texts) ≡ Ok steps → first_unbuilt steps ≡ None
    go others (Err cause) is e = absurd cc
    go others (Ok None) is e = others names steps e
    go others (Ok (Some what)) is e = then (steps_from (names_after names (Ok (Some what))) (line + 1) texts) refl e
      where
        then : (rest : Result (List Step) ScriptRead) → steps_from (names_after names (Ok (Some what))) (line + 1) texts ≡ rest → onto_steps (record { line = line; what = what }) rest ≡ Ok steps → first_unbuilt steps ≡ None
        then (Err fault) so e = absurd cc
        then (Ok more) so e =
            let it : Step = record { line = line; what = what } in
            ap first_unbuilt (sym (same_steps (it ∷ more) steps (Ok (it ∷ more)) refl e))
            ∙ ap (λ (b : Bool). cond b (first_unbuilt more) (Some line)) (line_builds names text what all.0 is)
            ∙ others (names_after names (Ok (Some what))) more so

-- ---- no `i` behind an `o`

-- whether no `i` stands behind an `o`, where one stood before or not
abbrev calm : Bool → List ℕ → Bool
calm o [] = true
calm o (byte ∷ bytes) = not (o && byte == 105) && calm (byte == 111) bytes

-- whatever stood before
record Calm (bytes : List ℕ) : Type 0 where
  o : calm true bytes ≡ true
  other : calm false bytes ≡ true

calm_by : (bytes : List ℕ) → Calm bytes → (o : Bool) → calm o bytes ≡ true
calm_by text is true = is.o
calm_by text is false = is.other

calm_then : (o : Bool) (xs ys : List ℕ) → calm o xs ≡ true → Calm ys → calm o (xs ++ ys) ≡ true
calm_then o [] ys is next = calm_by ys next o
calm_then o (byte ∷ xs) ys is next =
    let parts = and_parts (not (o && byte == 105)) (calm (byte == 111) xs) is in
    let more = calm_then (byte == 111) xs ys parts.1 next in
    rw (parts.0, more) refl

both_calm : (xs ys : List ℕ) → Calm xs → Calm ys → Calm (xs ++ ys)
both_calm xs ys is next = record { o = calm_then true xs ys is.o next; other = calm_then false xs ys is.other next }

no_calm : Calm []
no_calm = record { o = refl; other = refl }

-- bytes of which none is an `i`
without : (o : Bool) (bytes : List ℕ) → list_all (λ byte. not (byte == 105)) bytes ≡ true → calm o bytes ≡ true
without o [] all = refl
without o (byte ∷ bytes) all =
    let parts = and_parts (not (byte == 105)) (list_all (λ byte. not (byte == 105)) bytes) all in
    let more = without (byte == 111) bytes parts.1 in
    rw (here o (byte == 105) parts.0, more) refl
  where
    here : (a b : Bool) → not b ≡ true → not (a && b) ≡ true
    here true b e = e
    here false b e = refl

digits_calm : (n : ℕ) → n < 2 ^ 64 → Calm (decimal n)
digits_calm n small =
    let digits : PassDigits (λ byte. not (byte == 105)) = λ byte low high. grind (arith, nat_tests) in
    let all = decimal_passes (λ byte. not (byte == 105)) n digits small in
    record { o = without true (decimal n) all; other = without false (decimal n) all }

-- the first line as the text, and the others
abbrev LinesCalm : Bool → List (List ℕ) → Type 0
LinesCalm o [] = Unit {0}
LinesCalm o (text ∷ texts) = (calm o text ≡ true) × AllByRecursion (λ it. calm false it ≡ true) texts

all_calm : (texts : List (List ℕ)) → LinesCalm false texts → AllByRecursion (λ it. calm false it ≡ true) texts
all_calm [] is = tt
all_calm (text ∷ texts) is = is

lines_calm : (o : Bool) (bytes : List ℕ) → calm o bytes ≡ true → LinesCalm o (lines bytes)
lines_calm o [] is = tt
lines_calm o (byte ∷ bytes) is = go (λ parts. lines_calm (byte == 111) bytes parts) (byte == 10) refl
  where
    parts : (not (o && byte == 105) ≡ true) × (calm (byte == 111) bytes ≡ true)
    parts = and_parts (not (o && byte == 105)) (calm (byte == 111) bytes) is

    first_calm : (texts : List (List ℕ)) → LinesCalm (byte == 111) texts → LinesCalm o (onto_first byte texts)
    first_calm [] more = (rw parts.0 refl, tt)
    first_calm (text ∷ texts) more = (rw (parts.0, more.0) refl, more.1)

    go : (calm (byte == 111) bytes ≡ true → LinesCalm (byte == 111) (lines bytes)) → (b : Bool) → (byte == 10) ≡ b → LinesCalm o (cond b ([] ∷ lines bytes) (onto_first byte (lines bytes)))
    go others true e =
        let no : (byte == 111) ≡ false = grind (arith, nat_tests, e) in
        (refl, all_calm (lines bytes) (subst (λ (b : Bool). LinesCalm b (lines bytes)) no (others parts.1)))
    go others false e = first_calm (lines bytes) (others parts.1)

front_calm : (o : Bool) (text : List ℕ) → calm o text ≡ true → calm o (front 32 text) ≡ true
front_calm o [] is = refl
front_calm o (byte ∷ text) is = go (λ parts. front_calm (byte == 111) text parts) (byte == 32)
  where
    parts : (not (o && byte == 105) ≡ true) × (calm (byte == 111) text ≡ true)
    parts = and_parts (not (o && byte == 105)) (calm (byte == 111) text) is

    go : (calm (byte == 111) text ≡ true → calm (byte == 111) (front 32 text) ≡ true) → (b : Bool) → calm o (cond b [] (byte ∷ front 32 text)) ≡ true
    go others true = refl
    go others false = let more = others parts.1 in rw (parts.0, more) refl

never_spoil : (text : List ℕ) → calm false text ≡ true → front 32 text ≡ codes "spoil" → ⊥
never_spoil text is e = let never : true ≡ false = sym (front_calm false text is) ∙ ap (calm false) e in cc

calm_builds : (texts : List (List ℕ)) → AllByRecursion (λ it. calm false it ≡ true) texts → AllByRecursion (λ text. Builds (asked text)) texts
calm_builds [] all = tt
calm_builds (text ∷ texts) all = (asked_builds text (never_spoil text all.0), calm_builds texts all.1)

calm_is_built : (bytes : List ℕ) (steps : List Step) → calm false bytes ≡ true → steps_of bytes ≡ Ok steps → first_unbuilt steps ≡ None
unfolding steps_of
calm_is_built bytes steps is e = go (nat_lt MOST_LINES (length (lines bytes))) e
  where
    go : (b : Bool) → cond b (Err read.Lines) (steps_from no_names 1 (lines bytes)) ≡ Ok steps → first_unbuilt steps ≡ None
    go true e = absurd cc
    go false e = lines_build no_names 1 (lines bytes) steps (calm_builds (lines bytes) (all_calm (lines bytes) (lines_calm false bytes is))) e

-- ---- the text of a trial

opening_calm : Calm opening
unfolding opening
opening_calm = record { o = refl; other = refl }

moves_calm : (number : ℕ) → Calm (moves number)
unfolding moves
moves_calm number = by_zero (number == 0)
  where
    by_two : (b : Bool) → Calm (cond b (codes "settle\n") [])
    by_two true = record { o = refl; other = refl }
    by_two false = no_calm

    by_one : (b : Bool) → Calm (cond b (codes "connect\ntake app 100\nup 64\ndown 64\n") (cond (number == 2) (codes "settle\n") []))
    by_one true = record { o = refl; other = refl }
    by_one false = by_two (number == 2)

    by_zero : (b : Bool) → Calm (cond b (codes "connect\ntake app 40\nup 100\nbreak\n") (cond (number == 1) (codes "connect\ntake app 100\nup 64\ndown 64\n") (cond (number == 2) (codes "settle\n") [])))
    by_zero true = record { o = refl; other = refl }
    by_zero false = by_one (number == 1)

drawn_low : (bound state : ℕ) → 0 < bound → drawn bound state < bound
unfolding drawn
drawn_low bound state some = mod-lt (state / 2 ^ 33) some

fill_calm : (first count value : ℕ) → first < 2 ^ 64 → count < 2 ^ 64 → value < 2 ^ 64 → Calm (fill_text first count value)
unfolding fill_text
fill_calm first count value a b c =
    both_calm (codes "app fill 1 ") _ (record { o = refl; other = refl })
    (both_calm (decimal first) _ (digits_calm first a)
    (both_calm (codes " ") _ (record { o = refl; other = refl })
    (both_calm (decimal count) _ (digits_calm count b)
    (both_calm (codes " ") _ (record { o = refl; other = refl })
    (both_calm (decimal value) (codes "\n") (digits_calm value c) (record { o = refl; other = refl }))))))

damage_calm : (x y width height : ℕ) → x < 2 ^ 64 → y < 2 ^ 64 → width < 2 ^ 64 → height < 2 ^ 64 → Calm (damage_text x y width height)
unfolding damage_text
damage_calm x y width height a b c d =
    both_calm (codes "app wl_surface@5.damage_buffer(") _ (record { o = refl; other = refl })
    (both_calm (decimal x) _ (digits_calm x a)
    (both_calm (codes ", ") _ (record { o = refl; other = refl })
    (both_calm (decimal y) _ (digits_calm y b)
    (both_calm (codes ", ") _ (record { o = refl; other = refl })
    (both_calm (decimal width) _ (digits_calm width c)
    (both_calm (codes ", ") _ (record { o = refl; other = refl })
    (both_calm (decimal height) (codes ")\napp wl_surface@5.commit()\n") (digits_calm height d) (record { o = refl; other = refl }))))))))

round_calm : (state : ℕ) → Calm (round state)
round_calm state =
    let then : ℕ = state_after 3 state in
    let first = drawn_low 8184 (state_after 1 state) (omega arith) in
    let size = drawn_low 8 (state_after 2 state) (omega arith) in
    let value = drawn_low 256 (state_after 3 state) (omega arith) in
    let x = drawn_low 128 (state_after 1 then) (omega arith) in
    let y = drawn_low 128 (state_after 2 then) (omega arith) in
    let width = drawn_low 32 (state_after 3 then) (omega arith) in
    let height = drawn_low 32 (state_after 4 then) (omega arith) in
    both_calm (drawn_fill state) (drawn_damage then ++ moves (draw 1 4 (state_after 7 state)))
    (fill_calm (draw 1 8184 state) (1 + draw 2 8 state) (draw 3 256 state) (omega (arith, first)) (omega (arith, size)) (omega (arith, value)))
    (both_calm (drawn_damage then) (moves (draw 1 4 (state_after 7 state)))
    (damage_calm (draw 1 128 then) (draw 2 128 then) (1 + draw 3 32 then) (1 + draw 4 32 then) (omega (arith, x)) (omega (arith, y)) (omega (arith, width)) (omega (arith, height)))
    (moves_calm (draw 1 4 (state_after 7 state))))

rounds_calm : (count state : ℕ) → Calm (rounds count state)
rounds_calm zero state = no_calm
rounds_calm (suc count) state = both_calm (round state) (rounds count (state_after 8 state)) (round_calm state) (rounds_calm count (state_after 8 state))

pub trial_is_built : (count : ℕ) (steps : List Step) → steps_of (trial_text count) ≡ Ok steps → first_unbuilt steps ≡ None
unfolding trial_text
trial_is_built count steps e = calm_is_built (opening ++ rounds count count) steps (both_calm opening (rounds count count) opening_calm (rounds_calm count count)).other e
