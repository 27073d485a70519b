-- The text of each trial is a script.
--
-- The lines of the opening, and those that move something, are computed. A round has two lines with numbers in them: each number is
-- read as what was drawn, since it is written in decimal, and what was drawn is within the range of its field; and the words that are
-- written end inside the file, since the first is below 8,184 and there are eight at most. No line of a round changes what the
-- application owns. So rounds can be read one behind another, and there are few enough lines.
use Rattle.std.proofs.Common.{◌≡◌, ℕ, zero, suc, ◌+◌, ◌*◌, ◌/◌, ◌%◌, ◌^◌, ◌<◌, ◌≤◌, ℤ, pos, Bool, true, false, not, cond, nat_le, nat_lt, ◌==◌, List, [], ◌∷◌, ◌++◌, length, slice_get, codes, decimal, Option, Some, None, Result, Ok, Err, w32, FitsSigned, refl, sym, ap, ◌∙◌, subst, arith, append_assoc}
use Rattle.std.proofs.lemmas.Bool.{ltb-true}
use Rattle.std.proofs.lemmas.Bool.Decides.{nat_tests}
use Rattle.std.proofs.lemmas.List.Sums.{AllPass-from_list_all}
use Rattle.std.proofs.Math.Nat.{mod-lt}
use Rattle.std.proofs.lemmas.Fmt.{decimal_digit, decimal_step}
use Rattle.std.specs.List.{All, list_all}
use Rattle.std.specs.Fmt.{signed_decimal}
use Rattle.wl_wire.specs.declared.arguments.Arg.{Arg}
use Rattle.wl_wire.specs.declared.arguments.Arg.TheVariants as arg
use Rattle.wl_wire.specs.declared.message.TheConstants.{LONGEST_MESSAGE}
use Rattle.wl_wire.specs.ArgLaws.{FitSlots}
use Rattle.wl_wire.specs.Arguments.{padding_of}
use Rattle.wl_wire.specs.Building.{args_bytes, built, word_bytes}
use Rattle.wl_tables.specs.Laws.{OpcodeTellsName, InterfaceTellsName}
use Rattle.wl_tables.specs.Messages.{form_of}
use Rattle.wl_tables.specs.Places.{MessageRow}
use Rattle.wl_tables.specs.Table.{messages}
use Rattle.wl_tables.specs.declared.interface.Interface.{Interface}
use Rattle.wl_tables.specs.declared.interface.Interface.TheVariants as interfaces
use Rattle.wl_tables.specs.declared.way.Way.{Way}
use Rattle.wl_tables.specs.declared.way.Way.TheVariants.{Request}
use Rattle.wl_text.specs.ArgReading.{args_at, arg_behind, int_at, uint_at, new_id_at, new_at, bound_at, bind_at, handle_at}
use Rattle.wl_text.specs.ArgTexts.{args_text}
use Rattle.wl_text.specs.Decimals.{number_at, signed_at}
use Rattle.wl_text.specs.Enclosed.{is_shown, enclosed_at, items_within}
use Rattle.wl_text.specs.Front as texts
use Rattle.wl_text.specs.Text.{start_text, message_of, message_from, head_at, last_args_at}
use Rattle.wl_text.specs.declared.text_message.TextMessage.{TextMessage}
use Rattle.wl_text.proofs.ArgsTextLaws.{Named, AllHold}
use Rattle.wl_text.proofs.FrontLaws.{lacks}
use Rattle.wl_text.proofs.HeadLaws.{named_text, head_complete, last_complete}
use Rattle.wp_outside.specs.declared.kinds.Side.TheVariants.{Near, Far}
use Rattle.script_lang.specs.Grammar.{steps_of, steps_of_lines, steps_from, line_of, names_after, named, unless_fault}
use Rattle.script_lang.specs.Kinds.{own, place, count, word}
use Rattle.script_lang.specs.Lines.{asked, asked_by, said}
use Rattle.script_lang.specs.Names.{Names, no_names, nothing, thing_of, unless}
use Rattle.script_lang.specs.Pieces.{lines, fields, front, behind}
use Rattle.script_lang.specs.Rows.{four_by}
use Rattle.script_lang.specs.Fields.{four_of}
use Rattle.script_lang.specs.Trial.{drawn, draw, state_after, opening, moves, fill_text, damage_text, round, rounds, trial_text, TrialIsScript}
use Rattle.script_lang.specs.declared.causes.ScriptCause.{ScriptCause}
use Rattle.script_lang.specs.declared.causes.ScriptCause.TheVariants.{Text, Name}
use Rattle.script_lang.specs.declared.causes.ScriptRead.TheVariants.{Lines}
use Rattle.script_lang.specs.declared.limits.TheConstants.{MOST_LINES}
use Rattle.script_lang.specs.declared.steps.Step.{Step}
use Rattle.script_lang.specs.declared.steps.StepKind.{StepKind}
use Rattle.script_lang.specs.declared.steps.StepKind.TheVariants as step
use Rattle.script_lang.specs.declared.things.Thing.TheVariants.{File}
use Rattle.script_lang.proofs.TrialTexts.{PassDigits, all_append, shown_digits, other_digits, decimal_passes, decimal_shown, decimal_lacks, decimal_form, decimal_value, lines_line, fields_field, fields_last}

-- ---- lines one behind another

-- the text can be read behind lines that leave these names, and has so many lines at most
record Goes (names : Names) (most : ℕ) (text : List ℕ) : Type 0 where
  few : length (lines text) ≤ most
  steps : (line : ℕ) → (them : List Step) × (steps_from names line (lines text) ≡ Ok them)

goes_empty : (names : Names) → Goes names 0 []
goes_empty names = record { few = omega arith; steps = λ line. ([], refl) }

goes_few : (names : Names) (least most : ℕ) (text : List ℕ) → least ≤ most → Goes names least text → Goes names most text
goes_few names least most text low goes = record { few = omega (arith, goes.few, low); steps = goes.steps }

goes_line : (names after : Names) (most : ℕ) (text rest : List ℕ) (what : StepKind) → lacks 10 text ≡ true → line_of names text ≡ Ok (Some what) → names_after names (Ok (Some what)) ≡ after → Goes after most rest → Goes names (suc most) (text ++ (10 ∷ rest))
goes_line names after most text rest what none told leaves goes =
    let cut = lines_line text rest none in
    record {
      few = omega (arith, ap length cut, goes.few);
      steps = λ line.
          let further = goes.steps (line + 1) in (
            record { line = line; what = what } ∷ further.0,
            rw (cut, told, leaves, further.1) refl,
          );
    }

-- what the application owns behind the opening
abbrev one_file : Names
one_file = record { near = record { things = (pos 1, File 65536 1) ∷ []; total = 65536 }; far = nothing }

-- ---- words that are written

module _ (first size value : ℕ) (low : first < 8184) (some : 1 ≤ size) (few : size ≤ 8) (small : value < 256) where
  abbrev fill_line : List ℕ
  fill_line = codes "app fill 1 " ++ (decimal first ++ (codes " " ++ (decimal size ++ (codes " " ++ decimal value))))

  abbrev filled : StepKind
  filled = step.Fill Near (pos 1) first size value

  fill_shown : list_all is_shown fill_line ≡ true
  fill_shown =
      all_append is_shown (codes "app fill 1 ") (decimal first ++ (codes " " ++ (decimal size ++ (codes " " ++ decimal value)))) refl
      (all_append is_shown (decimal first) (codes " " ++ (decimal size ++ (codes " " ++ decimal value))) (decimal_shown first (omega arith))
      (all_append is_shown (codes " ") (decimal size ++ (codes " " ++ decimal value)) refl
      (all_append is_shown (decimal size) (codes " " ++ decimal value) (decimal_shown size (omega arith))
      (all_append is_shown (codes " ") (decimal value) refl (decimal_shown value (omega arith))))))

  fill_ends : lacks 10 fill_line ≡ true
  fill_ends =
      let other : ℕ → Bool = λ byte. not (byte == 10) in
      all_append other (codes "app fill 1 ") (decimal first ++ (codes " " ++ (decimal size ++ (codes " " ++ decimal value)))) refl
      (all_append other (decimal first) (codes " " ++ (decimal size ++ (codes " " ++ decimal value))) (decimal_lacks 10 first (omega arith) (omega arith))
      (all_append other (codes " ") (decimal size ++ (codes " " ++ decimal value)) refl
      (all_append other (decimal size) (codes " " ++ decimal value) (decimal_lacks 10 size (omega arith) (omega arith))
      (all_append other (codes " ") (decimal value) refl (decimal_lacks 10 value (omega arith) (omega arith))))))

  fill_fields : fields (codes "1 " ++ (decimal first ++ (codes " " ++ (decimal size ++ (codes " " ++ decimal value))))) ≡ codes "1" ∷ decimal first ∷ decimal size ∷ decimal value ∷ []
  fill_fields =
      ap (λ it. codes "1" ∷ it)
      (fields_field (decimal first) (decimal size ++ (codes " " ++ decimal value)) (decimal_lacks 32 first (omega arith) (omega arith))
      ∙ ap (λ it. decimal first ∷ it) (fields_field (decimal size) (decimal value) (decimal_lacks 32 size (omega arith) (omega arith))
      ∙ ap (λ it. decimal size ∷ it) (fields_last (decimal value) (decimal_lacks 32 value (omega arith) (omega arith)))))

  fill_read : four_by (own Near) place count word (step.Fill Near) (Some (codes "1", decimal first, decimal size, decimal value)) ≡ Ok filled
  fill_read =
      let first_range : nat_le first 1000000000 ≡ true = grind (arith, nat_tests) in
      let first_least : nat_le 0 first ≡ true = grind (arith, nat_tests) in
      let size_range : nat_le size 1000000000 ≡ true = grind (arith, nat_tests) in
      let size_least : nat_le 1 size ≡ true = grind (arith, nat_tests) in
      let value_range : nat_le value 18446744073709551615 ≡ true = grind (arith, nat_tests) in
      let value_least : nat_le 0 value ≡ true = grind (arith, nat_tests) in
      let first_form = decimal_form first (omega arith) in
      let size_form = decimal_form size (omega arith) in
      let value_form = decimal_form value (omega arith) in
      let first_value = decimal_value first (omega arith) in
      let size_value = decimal_value size (omega arith) in
      let value_value = decimal_value value (omega arith) in
      rw (first_form, size_form, value_form, first_value, size_value, value_value, first_range, first_least, size_range, size_least, value_range, value_least) refl

  fill_asked : asked fill_line ≡ Ok filled
  unfolding asked
  fill_asked =
      ap (λ (shown : Bool). cond shown (asked_by (front 32 fill_line) (behind 32 fill_line)) (Err Text)) fill_shown
      ∙ ap (λ (them : List (List ℕ)). four_by (own Near) place count word (step.Fill Near) (four_of them)) fill_fields
      ∙ fill_read

  fill_told : line_of one_file fill_line ≡ Ok (Some filled)
  unfolding thing_of
  fill_told =
      let inside : nat_le (first + size) 8192 ≡ true = grind (arith, nat_tests) in
      ap (named one_file) fill_asked ∙ ap (λ (b : Bool). unless_fault (unless b Name None) filled) inside

  fill_goes : (most : ℕ) (rest : List ℕ) → Goes one_file most rest → Goes one_file (suc most) (fill_line ++ (10 ∷ rest))
  fill_goes most rest goes = goes_line one_file one_file most fill_line rest filled fill_ends fill_told refl goes

-- ---- lines that are computed

abbrev is_told : Result (Option StepKind) ScriptCause → Bool
is_told (Ok (Some what)) = true
is_told (Ok None) = false
is_told (Err cause) = false

told_goes : (names after : Names) (most : ℕ) (text rest : List ℕ) (told : Result (Option StepKind) ScriptCause) → lacks 10 text ≡ true → line_of names text ≡ told → is_told told ≡ true → names_after names told ≡ after → Goes after most rest → Goes names (suc most) (text ++ (10 ∷ rest))
told_goes names after most text rest (Ok (Some what)) none is told leaves goes = goes_line names after most text rest what none is leaves goes
told_goes names after most text rest (Ok None) none is told leaves goes = absurd (cc told)
told_goes names after most text rest (Err cause) none is told leaves goes = absurd (cc told)

-- a line that leaves the application's file alone
one_goes : (most : ℕ) (text rest : List ℕ) → lacks 10 text ≡ true → is_told (line_of one_file text) ≡ true → names_after one_file (line_of one_file text) ≡ one_file → Goes one_file most rest → Goes one_file (suc most) (text ++ (10 ∷ rest))
one_goes most text rest none told leaves goes = told_goes one_file one_file most text rest (line_of one_file text) none refl told leaves goes

abbrev four_more : ℕ → ℕ
four_more n = suc (suc (suc (suc n)))

moves_go : (number most : ℕ) (rest : List ℕ) → Goes one_file most rest → Goes one_file (four_more most) (moves number ++ rest)
unfolding moves asked
moves_go zero most rest goes =
    one_goes (suc (suc (suc most))) (codes "connect") _ refl refl refl
    (one_goes (suc (suc most)) (codes "take app 40") _ refl refl refl
    (one_goes (suc most) (codes "up 100") _ refl refl refl
    (one_goes most (codes "break") rest refl refl refl goes)))
moves_go (suc zero) most rest goes =
    one_goes (suc (suc (suc most))) (codes "connect") _ refl refl refl
    (one_goes (suc (suc most)) (codes "take app 100") _ refl refl refl
    (one_goes (suc most) (codes "up 64") _ refl refl refl
    (one_goes most (codes "down 64") rest refl refl refl goes)))
moves_go (suc (suc zero)) most rest goes = goes_few one_file (suc most) (four_more most) _ (omega arith) (one_goes most (codes "settle") rest refl refl refl goes)
moves_go (suc (suc (suc number))) most rest goes =
    let zero_not : (suc (suc (suc number)) == 0) ≡ false = grind (arith, nat_tests) in
    let one_not : (suc (suc (suc number)) == 1) ≡ false = grind (arith, nat_tests) in
    let two_not : (suc (suc (suc number)) == 2) ≡ false = grind (arith, nat_tests) in
    rw (zero_not, one_not, two_not) (goes_few one_file most (four_more most) rest (omega arith) goes)

-- numbers of the lines without draws
one_digit : (n : ℕ) → n < 10 → decimal n ≡ (48 + n) ∷ []
one_digit n low = decimal_digit n low

digits_0 : decimal 0 ≡ codes "0"
digits_0 = one_digit 0 (omega arith)

digits_1 : decimal 1 ≡ codes "1"
digits_1 = one_digit 1 (omega arith)

digits_2 : decimal 2 ≡ codes "2"
digits_2 = one_digit 2 (omega arith)

digits_3 : decimal 3 ≡ codes "3"
digits_3 = one_digit 3 (omega arith)

digits_4 : decimal 4 ≡ codes "4"
digits_4 = one_digit 4 (omega arith)

digits_5 : decimal 5 ≡ codes "5"
digits_5 = one_digit 5 (omega arith)

digits_6 : decimal 6 ≡ codes "6"
digits_6 = one_digit 6 (omega arith)

digits_7 : decimal 7 ≡ codes "7"
digits_7 = one_digit 7 (omega arith)

-- the last digit behind the others
one_more : (n : ℕ) (digits : List ℕ) → 10 ≤ n → n < 2 ^ 64 → decimal (n / 10) ≡ digits → decimal n ≡ digits ++ ((48 + n % 10) ∷ [])
one_more n digits low small others = decimal_step n low small ∙ ap (λ it. it ++ ((48 + n % 10) ∷ [])) others

digits_128 : decimal 128 ≡ codes "128"
digits_128 = one_more 128 (codes "12") (omega arith) (omega arith) (one_more 12 (codes "1") (omega arith) (omega arith) digits_1)

digits_512 : decimal 512 ≡ codes "512"
digits_512 = one_more 512 (codes "51") (omega arith) (omega arith) (one_more 51 (codes "5") (omega arith) (omega arith) digits_5)

digits_65536 : decimal 65536 ≡ codes "65536"
digits_65536 = one_more 65536 (codes "6553") (omega arith) (omega arith) (one_more 6553 (codes "655") (omega arith) (omega arith) (one_more 655 (codes "65") (omega arith) (omega arith) (one_more 65 (codes "6") (omega arith) (omega arith) digits_6)))

commit_goes : (most : ℕ) (rest : List ℕ) → Goes one_file most rest → Goes one_file (suc most) (codes "app wl_surface@5.commit()" ++ (10 ∷ rest))
unfolding asked message_of head_at last_args_at message_from args_at arg_behind number_at texts.behind
commit_goes most rest goes = one_goes most (codes "app wl_surface@5.commit()") rest refl (rw digits_5 refl) (rw digits_5 refl) goes

-- ---- messages

module _ (opcodes : OpcodeTellsName) (interfaces_named : InterfaceTellsName) where
  -- a request is read from its text
  is_read : (interface : Interface) (object opcode : ℕ) (row : MessageRow) (args : List Arg) (handles : List ℤ) → slice_get (messages interface Request) opcode ≡ Some row → object < 2 ^ 32 → FitSlots (form_of row).slots args → AllHold args → Named args handles → 8 + length (args_bytes args) ≤ LONGEST_MESSAGE
      → message_of Request (start_text interface object ++ named_text row.name (args_text [] args handles ++ codes ")")) ≡ Some (record { message = built object opcode args; interface = interface; handles = handles })
  unfolding message_of message_from
  is_read interface object opcode row args handles stands small fit hold numbered short =
      let head = head_complete opcodes interfaces_named Request interface object opcode row (args_text [] args handles ++ codes ")") stands small in
      let last = last_complete (form_of row) args handles fit hold numbered in
      let fits : nat_le (8 + length (args_bytes args)) LONGEST_MESSAGE ≡ true = grind (arith, nat_tests) in
      rw (head, last, fits) refl

  -- what the application says, behind lines that leave its file
  said_goes : (text rest : List ℕ) (most : ℕ) (it : TextMessage) → it.handles ≡ [] → lacks 10 text ≡ true → asked text ≡ Ok (step.Say Near it) → line_of one_file text ≡ named one_file (asked text) → Goes one_file most rest → Goes one_file (suc most) (text ++ (10 ∷ rest))
  said_goes text rest most it none one_line told read goes =
      let own : named one_file (Ok (step.Say Near it)) ≡ Ok (Some (step.Say Near it)) = rw none refl in
      goes_line one_file one_file most text rest (step.Say Near it) one_line (read ∙ ap (named one_file) told ∙ own) refl goes

  -- ---- a rectangle

  module _ (x y width height : ℕ) (x_small : x < 128) (y_small : y < 128) (w_small : width ≤ 32) (h_small : height ≤ 32) where
    abbrev damage_args : List Arg
    damage_args = arg.Int (pos x) ∷ arg.Int (pos y) ∷ arg.Int (pos width) ∷ arg.Int (pos height) ∷ []

    abbrev damage_tail : List ℕ
    damage_tail = decimal x ++ (codes ", " ++ (decimal y ++ (codes ", " ++ (decimal width ++ (codes ", " ++ (decimal height ++ codes ")"))))))

    abbrev damage_line : List ℕ
    damage_line = codes "app wl_surface@5.damage_buffer(" ++ damage_tail

    tail_is : args_text [] damage_args [] ++ codes ")" ≡ damage_tail
    tail_is = simp (append_assoc)

    tail_passes : (P : ℕ → Bool) → PassDigits P → P 44 ≡ true → P 32 ≡ true → P 41 ≡ true → list_all P damage_tail ≡ true
    tail_passes P digits comma space end =
        let between : list_all P (codes ", ") ≡ true = rw (comma, space) refl in
        let last : list_all P (codes ")") ≡ true = rw end refl in
        all_append P (decimal x) (codes ", " ++ (decimal y ++ (codes ", " ++ (decimal width ++ (codes ", " ++ (decimal height ++ codes ")")))))) (decimal_passes P x digits (omega arith))
        (all_append P (codes ", ") (decimal y ++ (codes ", " ++ (decimal width ++ (codes ", " ++ (decimal height ++ codes ")"))))) between
        (all_append P (decimal y) (codes ", " ++ (decimal width ++ (codes ", " ++ (decimal height ++ codes ")")))) (decimal_passes P y digits (omega arith))
        (all_append P (codes ", ") (decimal width ++ (codes ", " ++ (decimal height ++ codes ")"))) between
        (all_append P (decimal width) (codes ", " ++ (decimal height ++ codes ")")) (decimal_passes P width digits (omega arith))
        (all_append P (codes ", ") (decimal height ++ codes ")") between
        (all_append P (decimal height) (codes ")") (decimal_passes P height digits (omega arith)) last))))))

    damage_shown : list_all is_shown damage_line ≡ true
    damage_shown = all_append is_shown (codes "app wl_surface@5.damage_buffer(") damage_tail refl (tail_passes is_shown shown_digits refl refl refl)

    damage_ends : lacks 10 damage_line ≡ true
    damage_ends = all_append (λ byte. not (byte == 10)) (codes "app wl_surface@5.damage_buffer(") damage_tail refl (tail_passes (λ byte. not (byte == 10)) (other_digits 10 (omega arith)) refl refl refl)

    abbrev damage : TextMessage
    damage = record { message = built 5 9 damage_args; interface = interfaces.WlSurface; handles = [] }

    damage_read : message_of Request (codes "wl_surface@5.damage_buffer(" ++ damage_tail) ≡ Some damage
    unfolding word_bytes
    damage_read =
        let text : start_text interfaces.WlSurface 5 ++ named_text (codes "damage_buffer") damage_tail ≡ codes "wl_surface@5.damage_buffer(" ++ damage_tail = rw digits_5 refl in
        ap (message_of Request) (sym text)
        ∙ ap (λ (tail : List ℕ). message_of Request (start_text interfaces.WlSurface 5 ++ named_text (codes "damage_buffer") tail)) (sym tail_is)
        ∙ is_read interfaces.WlSurface 5 9 _ damage_args [] refl (omega arith)
        (record { sfits = omega arith }, (record { sfits = omega arith }, (record { sfits = omega arith }, (record { sfits = omega arith }, tt))))
        (tt, (tt, (tt, (tt, tt)))) (tt, (tt, (tt, (tt, tt)))) (omega arith)

    damage_asked : asked damage_line ≡ Ok (step.Say Near damage)
    unfolding asked
    damage_asked =
        ap (λ (shown : Bool). cond shown (asked_by (front 32 damage_line) (behind 32 damage_line)) (Err Text)) damage_shown
        ∙ ap (said Near) damage_read

    damage_goes : (most : ℕ) (rest : List ℕ) → Goes one_file most rest → Goes one_file (suc most) (damage_line ++ (10 ∷ rest))
    damage_goes most rest goes = said_goes damage_line rest most damage refl damage_ends damage_asked refl goes

  -- ---- the opening

  are_bytes : (text : List ℕ) → list_all (λ byte. nat_lt byte 256) text ≡ true → All (λ byte. byte < 256) text
  are_bytes text all k other inside = ltb-true _ 256 (AllPass-from_list_all (λ byte. nat_lt byte 256) text all k other inside)

  abbrev bound : ℕ → List ℕ → ℕ → ℕ → TextMessage
  bound name interface version id = record { message = built 2 0 (arg.Uint name ∷ arg.Bind interface version id ∷ []); interface = interfaces.WlRegistry; handles = [] }

  first_bind : asked (codes "app wl_registry@2.bind(1, \"wl_compositor\" 6 new @3)") ≡ Ok (step.Say Near (bound 1 (codes "wl_compositor") 6 3))
  unfolding asked word_bytes padding_of
  first_bind =
      let text : start_text interfaces.WlRegistry 2 ++ named_text (codes "bind") (args_text [] (arg.Uint 1 ∷ arg.Bind (codes "wl_compositor") 6 3 ∷ []) [] ++ codes ")") ≡ codes "wl_registry@2.bind(1, \"wl_compositor\" 6 new @3)" = simp (digits_1, digits_2, digits_3, digits_6) in
      ap (λ (it : List ℕ). said Near (message_of Request it)) (sym text)
      ∙ ap (said Near) (is_read interfaces.WlRegistry 2 0 _ (arg.Uint 1 ∷ arg.Bind (codes "wl_compositor") 6 3 ∷ []) [] refl (omega arith)
      (omega arith, ((omega arith, omega arith, omega arith), tt)) (tt, (are_bytes (codes "wl_compositor") refl, tt)) (tt, (tt, tt)) (omega arith))

  second_bind : asked (codes "app wl_registry@2.bind(2, \"wl_shm\" 1 new @4)") ≡ Ok (step.Say Near (bound 2 (codes "wl_shm") 1 4))
  unfolding asked word_bytes padding_of
  second_bind =
      let text : start_text interfaces.WlRegistry 2 ++ named_text (codes "bind") (args_text [] (arg.Uint 2 ∷ arg.Bind (codes "wl_shm") 1 4 ∷ []) [] ++ codes ")") ≡ codes "wl_registry@2.bind(2, \"wl_shm\" 1 new @4)" = simp (digits_1, digits_2, digits_4) in
      ap (λ (it : List ℕ). said Near (message_of Request it)) (sym text)
      ∙ ap (said Near) (is_read interfaces.WlRegistry 2 0 _ (arg.Uint 2 ∷ arg.Bind (codes "wl_shm") 1 4 ∷ []) [] refl (omega arith)
      (omega arith, ((omega arith, omega arith, omega arith), tt)) (tt, (are_bytes (codes "wl_shm") refl, tt)) (tt, (tt, tt)) (omega arith))

  opening_goes : (most : ℕ) (rest : List ℕ) → Goes one_file most rest → Goes no_names (four_more (four_more most)) (opening ++ rest)
  unfolding opening asked thing_of message_of head_at last_args_at message_from args_at arg_behind number_at signed_at int_at uint_at new_id_at new_at handle_at word_bytes texts.behind
  opening_goes most rest goes =
      told_goes no_names one_file (suc (suc (suc (four_more most)))) (codes "app file 1 65536") _ (line_of no_names (codes "app file 1 65536")) refl refl refl refl
      (one_goes (suc (suc (four_more most))) (codes "app wl_display@1.get_registry(new @2)") _ refl (simp (digits_1, digits_2)) (simp (digits_1, digits_2))
      (said_goes (codes "app wl_registry@2.bind(1, \"wl_compositor\" 6 new @3)") _ (suc (four_more most)) (bound 1 (codes "wl_compositor") 6 3) refl refl first_bind refl
      (said_goes (codes "app wl_registry@2.bind(2, \"wl_shm\" 1 new @4)") _ (four_more most) (bound 2 (codes "wl_shm") 1 4) refl refl second_bind refl
      (one_goes (suc (suc (suc most))) (codes "app wl_compositor@3.create_surface(new @5)") _ refl (simp (digits_3, digits_5)) (simp (digits_3, digits_5))
      (one_goes (suc (suc most)) (codes "app wl_shm@4.create_pool(new @6, fd %1, 65536)") _ refl (simp (digits_1, digits_4, digits_6, digits_65536)) (simp (digits_1, digits_4, digits_6, digits_65536))
      (one_goes (suc most) (codes "app wl_shm_pool@6.create_buffer(new @7, 0, 128, 128, 512, 0)") _ refl (simp (digits_0, digits_6, digits_7, digits_128, digits_512)) (simp (digits_0, digits_6, digits_7, digits_128, digits_512))
      (one_goes most (codes "app wl_surface@5.attach(@7, 0, 0)") rest refl (simp (digits_0, digits_5, digits_7)) (simp (digits_0, digits_5, digits_7)) goes)))))))

  -- ---- rounds

  drawn_low : (bound state : ℕ) → 0 < bound → drawn bound state < bound
  unfolding drawn
  drawn_low bound state some = mod-lt (state / 2 ^ 33) some

  round_goes : (state most : ℕ) (rest : List ℕ) → Goes one_file most rest → Goes one_file (suc (suc (suc (four_more most)))) (round state ++ rest)
  unfolding fill_text damage_text
  round_goes state most rest goes =
      let then : ℕ = state_after 3 state in
      let first = drawn_low 8184 (state_after 1 state) (omega arith) in
      let size = drawn_low 8 (state_after 2 state) (omega arith) in
      let value = drawn_low 256 (state_after 3 state) (omega arith) in
      let x = drawn_low 128 (state_after 1 then) (omega arith) in
      let y = drawn_low 128 (state_after 2 then) (omega arith) in
      let width = drawn_low 32 (state_after 3 then) (omega arith) in
      let height = drawn_low 32 (state_after 4 then) (omega arith) in
      let goes_on =
      fill_goes (draw 1 8184 state) (1 + draw 2 8 state) (draw 3 256 state) first (omega arith) (omega (arith, size)) value (suc (suc (four_more most))) _
      (damage_goes (draw 1 128 then) (draw 2 128 then) (1 + draw 3 32 then) (1 + draw 4 32 then) x y (omega (arith, width)) (omega (arith, height)) (suc (four_more most)) _
      (commit_goes (four_more most) _ (moves_go (draw 1 4 (state_after 7 state)) most rest goes))) in
      subst (Goes one_file (suc (suc (suc (four_more most))))) (simp append_assoc) goes_on

  rounds_go : (count state : ℕ) → Goes one_file (count * 7) (rounds count state)
  rounds_go zero state = goes_empty one_file
  rounds_go (suc count) state =
      goes_few one_file (suc (suc (suc (four_more (count * 7))))) (suc count * 7) (rounds (suc count) state) (omega arith)
      (round_goes state (count * 7) (rounds count (state_after 8 state)) (rounds_go count (state_after 8 state)))

  pub trial_is_script : TrialIsScript
  unfolding steps_of trial_text
  trial_is_script count some most =
      let goes = opening_goes (count * 7) (rounds count count) (rounds_go count count) in
      let few : nat_lt MOST_LINES (length (lines (opening ++ rounds count count))) ≡ false = grind (arith, nat_tests, goes.few) in
      let steps = goes.steps 1 in
      (steps.0, ap (λ (b : Bool). cond b (Err Lines) (steps_from no_names 1 (lines (opening ++ rounds count count)))) few ∙ steps.1)
